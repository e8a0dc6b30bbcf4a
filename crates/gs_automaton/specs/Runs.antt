-- Runs of plain characters: bytes of ASCII over which the automaton stays where it is.
use Rattle.std.specs.Prelude.{◌≡◌, ℕ, ◌≤◌, ◌<◌, Bool, true, not, ◌==◌, ◌&&◌, ◌||◌, List, Some, get_or, if◌then◌else◌}
use Rattle.std.specs.Char.{is_ascii}
use Rattle.gs_model.specs.Characters.{quote, hyphen, backslash, underscore, is_iri_char}
use Rattle.gs_model.specs.Punctuation.{apostrophe}
use Rattle.gs_automaton.specs.Classes.{is_alphanumeric, is_line_end}
use Rattle.gs_automaton.specs.Scans.{best_after}
use Rattle.gs_automaton.specs.States.{accepts, state_after}
use Rattle.gs_automaton.specs.declared.scans.Scan.{Scan}
use Rattle.gs_automaton.specs.declared.states.State.{State}

-- in an IRI
abbrev pub plain_iri : ℕ → Bool
plain_iri c = is_ascii c && is_iri_char c

-- in a string: neither a quote nor a backslash, nor the end of a line
abbrev pub plain_string : ℕ → Bool
plain_string c = is_ascii c && not (c == quote || c == apostrophe || c == backslash || is_line_end c)

-- in a name
abbrev pub plain_name : ℕ → Bool
plain_name c = is_alphanumeric c || c == underscore || c == hyphen

-- each byte of x from the place m up to the place n is such
abbrev pub AllFrom : (ℕ → Bool) → List ℕ → ℕ → ℕ → Type 0
AllFrom test x m n = (i : ℕ) → m ≤ i → i < n → test (get_or x i 0) ≡ true

-- over each such byte the automaton stays in that state
abbrev pub Stays : (ℕ → Bool) → State → Type 0
Stays test q = (c : ℕ) → test c ≡ true → (c < 128) × (state_after q c ≡ Some q)

-- the scan at the place n, where it stays in its state
abbrev pub at_place : Scan → ℕ → Scan
at_place s n = let b = best_after (accepts s.state) n (s.best, s.best_len) in record { state = s.state; len = n; best = b.0; best_len = b.1 }

-- the scan after a run that ends at the place n
abbrev pub stay_of : Scan → ℕ → Scan
stay_of s n = if n == s.len then s else at_place s n

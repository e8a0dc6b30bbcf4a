-- Tokens that are known at once: no longer one may come, whatever the text becomes.
use Rattle.std.specs.Prelude.{◌≡◌, ℕ, ◌+◌, ◌<◌, ◌≤◌, Bool, false, List, length, drop}
use Rattle.gs_automaton.specs.Classes.{is_ws}
use Rattle.gs_lex.specs.Readings.{FindsToken}
use Rattle.gs_automaton.specs.Runs.{AllFrom}
use Rattle.gs_lex.specs.Tokens.{place_after}
use Rattle.gs_lex.specs.declared.kinds.TokenKind.{TokenKind}
use Rattle.gs_lex.specs.declared.plains.Plain.{Plain}
use Rattle.gs_lex.specs.declared.steps.Reading.{Reading}

-- at the front of x stands this token of so many bytes
pub record IsPlainToken (updates : Bool) (x : List ℕ) (k : TokenKind) (count : ℕ) : Type 0 where
  pub some : 0 < count
  pub within : count ≤ length x
  pub found : (is_end : Bool) (r : Reading) → r.updates ≡ updates → r.in_comment ≡ false → FindsToken is_end r x k count 0

-- so it does after so many bytes of white space
pub record IsPlainAhead (updates : Bool) (x : List ℕ) (p : Plain) : Type 0 where
  pub within : p.space + p.count ≤ length x
  pub spaces : AllFrom is_ws x 0 p.space
  pub token : IsPlainToken updates (drop p.space x) p.kind p.count

-- the reading after them
abbrev pub plain_of : Reading → ℕ → ℕ → Reading
plain_of r space count =
    let end = place_after (place_after r.place space) count in
    record { updates = r.updates; in_comment = r.in_comment; cut = r.cut + space + count; place = end; last = end; barren = 0; scan = r.scan }

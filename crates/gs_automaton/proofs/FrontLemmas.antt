-- Laws of the fronts of tokens.
use Rattle.std.proofs.Common.{◌≡◌, ℕ, zero, suc, ◌+◌, ◌<◌, ◌≤◌, ◌⊎◌, inl, inr, Bool, true, false, List, [], ◌∷◌, refl, sym, ap, ◌∙◌, arith, subst, length, length-drop, Option, Some, None, drop, get_or}
use Rattle.std.proofs.lemmas.Bool.Decides.{nat_tests}
use Rattle.std.proofs.lemmas.List.{get_or-drop, get_or_default}
use Rattle.gs_automaton.specs.Classes.{is_alpha, is_digit}
use Rattle.gs_automaton.specs.Fronts.{is_stop, EndsAtStop, IsAtStart, IsLastToken, LeadsOn, ScanGoesOn}
use Rattle.gs_automaton.specs.Scans.{IsScanned, best_after, onward_of}
use Rattle.gs_automaton.specs.States.{accepts, state_after, start_of}
use Rattle.gs_automaton.specs.Symbols.{BeginsWith}
use Rattle.gs_automaton.specs.declared.terminals.Terminal.{Terminal}
use Rattle.gs_automaton.specs.declared.scans.Scan.{Scan}
use Rattle.gs_automaton.specs.declared.states.State.{State}
use Rattle.gs_automaton.specs.declared.states.State.TheVariants as at
use Rattle.gs_automaton.proofs.ScanLemmas.{scan-on, stuck-barren, stuck-character}
use Rattle.gs_automaton.proofs.SymbolLemmas.{front-ascii}

-- such a byte is of ASCII
stop_low : (c : ℕ) → is_stop c ≡ true → c < 128
stop_low c h = grind (arith, nat_tests)

-- the byte where a scan stands is the character that comes next
front_byte : (x : List ℕ) (s : Scan) → s.len < length x → get_or x s.len 0 < 128 → BeginsWith (get_or x s.len 0) 1 (drop s.len x)
front_byte x s l b =
    let c = get_or x s.len 0 in
    let rest = drop s.len x in
    let some : 0 < length rest = omega (arith, length-drop s.len x, l) in
    let byte : c ≡ get_or rest 0 c = get_or_default x s.len 0 c l ∙ ap (λ z. get_or x z c) (omega arith) ∙ sym (get_or-drop s.len x 0 c) in
    front-ascii rest c byte some b

-- where such a byte comes next, no longer token comes
pub last-stop : (x : List ℕ) (s : Scan) → EndsAtStop s.state → s.len < length x → is_stop (get_or x s.len 0) ≡ true → IsLastToken x s
last-stop x s f l h is_end u z m =
    let c = get_or x s.len 0 in
    stuck-barren u s.state z (stuck-character is_end s.state c 1 (drop s.len x) (front_byte x s l (stop_low c h)) (f c h) z m)

-- nor does one after an ended token
pub last-ended : (x : List ℕ) (s : Scan) (t : Terminal) → s.state ≡ at.Ended t → IsLastToken x s
last-ended x s t e is_end u z m = stuck-barren u s.state z (λ c o i p. subst (λ q. state_after q c ≡ None) (sym e) refl)

-- one byte more
on-byte : (x : List ℕ) (s : Scan) (p : State) (u : Bool) → LeadsOn x s p → IsScanned u x s → IsScanned u x (onward_of s p 1)
on-byte x s p u l h = scan-on u x s (get_or x s.len 0) 1 p h (front_byte x s l.within l.low) l.goes

-- the best token ends where the scan does, or before
best_on : (k : Option Terminal) (n : ℕ) (b : Option Terminal × ℕ) → b.1 ≤ n → (best_after k n b).1 ≤ n
best_on None n b h = h
best_on (Some t) n b h = omega arith

-- so a scan goes on by a byte
pub goes-byte : (x : List ℕ) (s : Scan) (p : State) → s.best_len ≤ s.len → LeadsOn x s p → ScanGoesOn x s (onward_of s p 1)
goes-byte x s p b l =
    record {
      onward = omega arith;
      within = omega (arith, l.within);
      best_within = best_on (accepts p) (s.len + 1) (s.best, s.best_len) (omega (arith, b));
      scanned = λ u. on-byte x s p u l;
    }

-- the states after the n characters from m on, the last first
abbrev states_from : State → ℕ → ℕ → List (Option State)
states_from q m zero = []
states_from q m (suc n) = state_after q (m + n) ∷ states_from q m n

-- the same state n times
abbrev all_of : Option State → ℕ → List (Option State)
all_of p zero = []
all_of p (suc n) = p ∷ all_of p n

-- one place more
at_place : (n c m : ℕ) → c < m + suc n → (c < m + n) ⊎ (c ≡ m + n)
at_place n c m h = grind arith

-- so each character of the range leads there
in_range_goes : (q : State) (p : Option State) (m n c : ℕ) → states_from q m n ≡ all_of p n → m ≤ c → c < m + n → state_after q c ≡ p
in_range_goes q p m zero c e l h = absurd (omega (arith, l, h))
in_range_goes q p m (suc n) c e l h = elim (at_place n c m h) [ inl k ↦ in_range_goes q p m n c (Prim.cc e) l k | inr k ↦ ap (λ z. state_after q z) k ∙ Prim.cc e ]

-- the letters
letter_range : (c : ℕ) → is_alpha c ≡ true → ((65 ≤ c) × (c < 91)) ⊎ ((97 ≤ c) × (c < 123))
letter_range c h = grind (arith, nat_tests)

-- and the digits
digit_range : (c : ℕ) → is_digit c ≡ true → (48 ≤ c) × (c < 58)
digit_range c h = grind (arith, nat_tests)

-- a letter leads where both ranges do
letter_goes : (q : State) (p : Option State) → states_from q 65 26 ≡ all_of p 26 → states_from q 97 26 ≡ all_of p 26 → (c : ℕ) → is_alpha c ≡ true → (c < 128) × (state_after q c ≡ p)
letter_goes q p big small c h = elim (letter_range c h) [ inl k ↦ (omega (arith, k.1), in_range_goes q p 65 26 c big k.0 k.1) | inr k ↦ (omega (arith, k.1), in_range_goes q p 97 26 c small k.0 k.1) ]

-- and a digit where its range does
digit_goes : (q : State) (p : Option State) → states_from q 48 10 ≡ all_of p 10 → (c : ℕ) → is_digit c ≡ true → (c < 128) × (state_after q c ≡ p)
digit_goes q p all c h = let k = digit_range c h in (omega (arith, k.1), in_range_goes q p 48 10 c all k.0 k.1)

-- a byte by which a state is left
by_byte : (x : List ℕ) (s : Scan) (q p : State) → s.state ≡ q → s.len < length x → (get_or x s.len 0 < 128) × (state_after q (get_or x s.len 0) ≡ Some p) → LeadsOn x s p
by_byte x s q p e l g = record { within = l; low = g.0; goes = ap (λ z. state_after z (get_or x s.len 0)) e ∙ g.1 }

-- a letter at the start of a token
pub leads-letter : (x : List ℕ) (s : Scan) → IsAtStart s.state → s.len < length x → is_alpha (get_or x s.len 0) ≡ true → LeadsOn x s at.Word
leads-letter x s i l h = by_byte x s (start_of i.0) at.Word i.1 l (either i.0 (get_or x s.len 0) h)
  where
    either : (u : Bool) (c : ℕ) → is_alpha c ≡ true → (c < 128) × (state_after (start_of u) c ≡ Some at.Word)
    either false = letter_goes at.Start (Some at.Word) refl refl
    either true = letter_goes at.UpdateStart (Some at.Word) refl refl

-- a digit there
pub leads-digit : (x : List ℕ) (s : Scan) → IsAtStart s.state → s.len < length x → is_digit (get_or x s.len 0) ≡ true → LeadsOn x s at.Integer
leads-digit x s i l h = by_byte x s (start_of i.0) at.Integer i.1 l (either i.0 (get_or x s.len 0) h)
  where
    either : (u : Bool) (c : ℕ) → is_digit c ≡ true → (c < 128) × (state_after (start_of u) c ≡ Some at.Integer)
    either false = digit_goes at.Start (Some at.Integer) refl
    either true = digit_goes at.UpdateStart (Some at.Integer) refl

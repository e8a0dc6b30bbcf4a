-- Laws of runs: a run is so many steps of the automaton.
use Rattle.std.proofs.Common.{◌≡◌, ℕ, zero, suc, ◌+◌, ◌-◌, ◌<◌, ◌≤◌, Bool, true, false, cond, List, refl, sym, ap, ◌∙◌, arith, subst, length, length-drop, Option, Some, None, drop, get_or, eq-eqb}
use Rattle.std.proofs.lemmas.Bool.{eqb-true, and_parts}
use Rattle.std.proofs.lemmas.Bool.Decides.{nat_tests}
use Rattle.std.proofs.lemmas.List.{get_or-drop, get_or_default}
use Rattle.std.specs.Prelude.{◌⊎◌, ◌==◌, ◌&&◌, ◌||◌, not}
use Rattle.std.proofs.Common.{inl, inr}
use Rattle.gs_automaton.specs.Classes.{is_name_char, is_local}
use Rattle.gs_automaton.specs.Runs.{AllFrom, Stays, plain_name, stay_of, at_place}
use Rattle.gs_automaton.specs.Scans.{IsScanned, best_after, onward_of}
use Rattle.gs_automaton.specs.States.{state_after, accepts}
use Rattle.gs_automaton.specs.declared.terminals.Terminal.{Terminal}
use Rattle.gs_automaton.specs.declared.scans.Scan.{Scan}
use Rattle.gs_automaton.specs.declared.states.State.{State}
use Rattle.gs_automaton.specs.declared.states.State.TheVariants as at
use Rattle.gs_automaton.proofs.ScanLemmas.{scan-on}
use Rattle.gs_automaton.proofs.SymbolLemmas.{front-ascii}

either_place : (m n i : ℕ) → i < n + 1 → (i < n) ⊎ (i ≡ n)
either_place m n i h = grind arith

pub run-more : (test : ℕ → Bool) (x : List ℕ) (m n : ℕ) → AllFrom test x m n → test (get_or x n 0) ≡ true → AllFrom test x m (n + 1)
run-more test x m n h k i l b = elim (either_place m n i b) [ inl c ↦ h i l c | inr e ↦ subst (λ z. test (get_or x z 0) ≡ true) (sym e) k ]

pub run-none : (test : ℕ → Bool) (x : List ℕ) (m : ℕ) → AllFrom test x m m
run-none test x m i l b = absurd (omega (arith, l, b))

best_again : (k : Option Terminal) (m n : ℕ) (b : Option Terminal × ℕ) → best_after k m (best_after k n b) ≡ best_after k m b
best_again None m n b = refl
best_again (Some t) m n b = refl

other_place : (m n : ℕ) → m < n → (n == m) ≡ false
other_place m n h = grind (arith, nat_tests)

-- a byte more of a run
stay_more : (s : Scan) (n : ℕ) → s.len ≤ n → (t : Bool) → (n == s.len) ≡ t → onward_of (cond t s (at_place s n)) s.state 1 ≡ at_place s (n + 1)
stay_more s n h true e = ap (λ z. at_place s (z + 1)) (sym (eqb-true n s.len e))
stay_more s n h false e = ap (λ (b : Option Terminal × ℕ). record { state = s.state; len = n + 1; best = b.0; best_len = b.1 }) (best_again (accepts s.state) (n + 1) n (s.best, s.best_len))

stay_len : (s : Scan) (n : ℕ) (t : Bool) → (n == s.len) ≡ t → (cond t s (at_place s n)).len ≡ n
stay_len s n true e = sym (eqb-true n s.len e)
stay_len s n false e = refl

stay_state : (s : Scan) (n : ℕ) (t : Bool) → (cond t s (at_place s n)).state ≡ s.state
stay_state s n true = refl
stay_state s n false = refl

at_other : (s : Scan) (n : ℕ) → s.len ≤ n → stay_of s (n + 1) ≡ at_place s (n + 1)
at_other s n h = ap (λ t. cond t s (at_place s (n + 1))) (other_place s.len (n + 1) (omega (arith, h)))

stay_on : (u : Bool) (x : List ℕ) (s : Scan) (test : ℕ → Bool) (n : ℕ) → Stays test s.state → s.len ≤ n → n < length x → test (get_or x n 0) ≡ true → IsScanned u x (stay_of s n) → IsScanned u x (stay_of s (n + 1))
stay_on u x s test n f h l e g =
    let t = stay_of s n in
    let c = get_or x n 0 in
    let stays = f c e in
    let len : t.len ≡ n = stay_len s n (n == s.len) refl in
    let state : t.state ≡ s.state = stay_state s n (n == s.len) in
    let rest = drop t.len x in
    let some : 0 < length rest = omega (arith, length-drop t.len x, l, len) in
    let byte : c ≡ get_or rest 0 c = ap (λ z. get_or x z 0) (sym len) ∙ get_or_default x t.len 0 c (omega (arith, l, len)) ∙ ap (λ z. get_or x z c) (omega arith) ∙ sym (get_or-drop t.len x 0 c) in
    let on : IsScanned u x (onward_of t s.state 1) = scan-on u x t c 1 s.state g (front-ascii rest c byte some stays.0) (ap (λ z. state_after z c) state ∙ stays.1) in
    subst (IsScanned u x) (stay_more s n h (n == s.len) refl ∙ sym (at_other s n h)) on

stay_run : (u : Bool) (x : List ℕ) (s : Scan) (test : ℕ → Bool) (k : ℕ) → Stays test s.state → s.len + k ≤ length x → AllFrom test x s.len (s.len + k) → IsScanned u x s → IsScanned u x (stay_of s (s.len + k))
stay_run u x s test zero f l h g = subst (λ t. IsScanned u x (cond t s (at_place s (s.len + 0)))) (sym (eq-eqb (s.len + 0) s.len (omega arith))) g
stay_run u x s test (suc k) f l h g =
    let there : s.len + suc k ≡ s.len + k + 1 = omega arith in
    let before = stay_run u x s test k f (omega (arith, l)) (λ i m b. h i m (omega (arith, b))) g in
    subst (λ n. IsScanned u x (stay_of s n)) (sym there)
    (stay_on u x s test (s.len + k) f (omega arith) (omega (arith, l)) (h (s.len + k) (omega arith) (omega arith)) before)

-- the scan after a run
pub scan-stays : (u : Bool) (x : List ℕ) (s : Scan) (test : ℕ → Bool) (n : ℕ) → Stays test s.state → s.len ≤ n → n ≤ length x → AllFrom test x s.len n → IsScanned u x s → IsScanned u x (stay_of s n)
scan-stays u x s test n f l b h g =
    let there : n ≡ s.len + (n - s.len) = omega (arith, l) in
    subst (λ m. IsScanned u x (stay_of s m)) (sym there)
    (stay_run u x s test (n - s.len) f (omega (arith, l, b)) (subst (AllFrom test x s.len) there h) g)

if_true : (b : Bool) (q : State) (o : Option State) → b ≡ true → cond b (Some q) o ≡ Some q
if_true true q o e = refl
if_true false q o e = Prim.cc e

-- the test holds of each number below n
abbrev pub all_below : (ℕ → Bool) → ℕ → Bool
all_below f zero = true
all_below f (suc n) = f n && all_below f n

-- so it does of this one
pub below_is : (f : ℕ → Bool) (n c : ℕ) → all_below f n ≡ true → c < n → f c ≡ true
below_is f zero c h l = absurd (omega (arith, l))
below_is f (suc n) c h l =
    let b = and_parts (f n) (all_below f n) h in
    elim (either_place 0 n c (omega (arith, l))) [ inl k ↦ below_is f n c b.1 k | inr e ↦ subst (λ z. f z ≡ true) (sym e) b.0 ]

name_low : (c : ℕ) → plain_name c ≡ true → c < 128
name_low c h = grind (arith, nat_tests)

implied : (a b : Bool) → (not a || b) ≡ true → a ≡ true → b ≡ true
implied true b h k = h
implied false b h k = Prim.cc k

plain_names : all_below (λ c. not (plain_name c) || is_name_char c) 128 ≡ true
plain_names = refl

name_parts : (c : ℕ) → plain_name c ≡ true → (c < 128) × (is_name_char c ≡ true)
name_parts c h = (name_low c h, implied (plain_name c) (is_name_char c) (below_is (λ d. not (plain_name d) || is_name_char d) 128 c plain_names (name_low c h)) h)

local_name : (c : ℕ) → is_name_char c ≡ true → is_local c ≡ true
local_name c h = ap (λ b. b || (c == 58)) h

pub stays-word : Stays plain_name at.Word
stays-word c h = let p = name_parts c h in (p.0, if_true (is_name_char c) at.Word _ p.1)

pub stays-word-more : Stays plain_name at.WordMore
stays-word-more c h = let p = name_parts c h in (p.0, if_true (is_name_char c) at.WordMore _ p.1)

pub stays-label : Stays plain_name at.Label
stays-label c h = let p = name_parts c h in (p.0, if_true (is_name_char c) at.Label _ p.1)

pub stays-local : Stays plain_name at.Local
stays-local c h = let p = name_parts c h in (p.0, if_true (is_local c) at.Local _ (local_name c p.1))

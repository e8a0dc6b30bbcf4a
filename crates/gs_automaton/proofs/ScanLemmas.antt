-- Laws of reading one character more.
use Rattle.std.proofs.lemmas.Bool.{and_parts, and_from}
use Rattle.std.proofs.Math.Seq.{drop-append_seam}
use Rattle.std.proofs.Common.{◌≡◌, ◌≢◌, ℕ, ◌+◌, ◌<◌, ◌≤◌, Bool, true, false, List, [], ◌∷◌, ◌++◌, refl, sym, ap, ◌∙◌, arith, subst, append_assoc, append-nil, length, length-append, Option, Some, None, drop, length-drop, MatchBool, encode_utf8, encode_utf8_all, ◌&&◌}
use Rattle.std.proofs.Math.ListN.{take-append-drop}
use Rattle.std.proofs.lemmas.List.{length-take-le}
use Rattle.std.proofs.lemmas.Str.{encode_same, encodes-append, len_utf8_bounds, length-encode, IsUtf8-encode}
use Rattle.std.specs.Char.{IsScalar}
use Rattle.std.specs.Str.{all_scalars, StartsWithNoChar}
use lib.Utf8.{scalar}
use Rattle.gs_automaton.specs.Automata.{Found, run, run_from, kind_at, longest}
use Rattle.gs_automaton.specs.States.{tokens, state_after, accepts, start_of}
use Rattle.gs_automaton.specs.Scans.{IsBest, MayBecome, IsScanned, IsBarren, IsBarrenTo, onward_of, fresh, best_after}
use Rattle.gs_automaton.specs.Symbols.{BeginsWith, IsShort}
use Rattle.gs_automaton.specs.declared.terminals.Terminal.{Terminal}
use Rattle.gs_automaton.specs.declared.states.State.{State}
use Rattle.gs_automaton.specs.declared.states.State.TheVariants as at
use Rattle.gs_automaton.specs.declared.scans.Scan.{Scan}
use Rattle.gs_automaton.proofs.BecomeLemmas.{Becomes, becomes-before, becomes-after, short-begins}
use Rattle.gs_automaton.proofs.SymbolLemmas.{front-nothing}
use Rattle.gs_automaton.proofs.AutomatonLemmas.{none-stays, onward, then_next, run-snoc, one_more, longest-live}

-- a character has some bytes
pub begins-some : (c n : ℕ) (x : List ℕ) → BeginsWith c n x → (n ≡ length (encode_utf8 c)) × (0 < n)
begins-some c n x b =
    let h = len_utf8_bounds c in
    let size : n ≡ length (encode_utf8 c) = sym (length-take-le n x b.within) ∙ ap length b.spelled in
    (size, omega (arith, h.0, length-encode c))

-- what is after the scan
pub scan-after : (u : Bool) (x : List ℕ) (s : Scan) → (h : IsScanned u x s) → drop s.len x ≡ h.after
scan-after u x s h = ap (λ z. drop z x) h.count ∙ ap (drop (length (encode_utf8_all h.chars))) h.parts ∙ drop-append_seam (encode_utf8_all h.chars) h.after

pub scan-fresh : (u : Bool) (x : List ℕ) → IsScanned u x (fresh u)
scan-fresh u x = record { chars = []; after = x; parts = refl; count = refl; characters = refl; stands = refl; is_best = refl }

best_on : (f : Found Terminal ℕ) (y : List ℕ) (b : Option Terminal) (m : ℕ) → IsBest f b m → IsBest (onward y f) b m
best_on None y b m h = h
best_on (Some t) y b m h = h

best_more : (k : Option Terminal) (cs : List ℕ) (c : ℕ) (f : Found Terminal ℕ) (b : Option Terminal) (m n : ℕ) → IsBest f b m → n ≡ length (encode_utf8_all (cs ++ c ∷ []))
    → IsBest (one_more k cs c f) (best_after k n (b, m)).0 (best_after k n (b, m)).1
best_more None cs c f b m n h e = best_on f (c ∷ []) b m h
best_more (Some k) cs c f b m n h e = (refl, e)

pub scalars-snoc : (cs : List ℕ) (c : ℕ) → all_scalars cs ≡ true → IsScalar c → all_scalars (cs ++ c ∷ []) ≡ true
scalars-snoc [] c h k = ap (λ z. z && true) k
scalars-snoc (d ∷ cs) c h k = and_from (scalar d) (all_scalars (cs ++ c ∷ [])) (and_parts (scalar d) (all_scalars cs) h).0 (scalars-snoc cs c (and_parts (scalar d) (all_scalars cs) h).1 k)

pub scan-on : (u : Bool) (x : List ℕ) (s : Scan) (c n : ℕ) (p : State) → IsScanned u x s → BeginsWith c n (drop s.len x) → state_after s.state c ≡ Some p → IsScanned u x (onward_of s p n)
scan-on u x s c n p h b e =
    let cs = h.chars in
    let size = begins-some c n (drop s.len x) b in
    let spelled : encode_utf8_all (cs ++ c ∷ []) ≡ encode_utf8_all cs ++ encode_utf8 c = encodes-append cs (c ∷ []) ∙ ap (λ z. encode_utf8_all cs ++ z) (append-nil (encode_utf8 c)) in
    let count : s.len + n ≡ length (encode_utf8_all (cs ++ c ∷ [])) = omega (arith, ap length spelled, length-append (encode_utf8_all cs) (encode_utf8 c), size.0, h.count) in
    let live : then_next (tokens u) (run (tokens u) cs) c ≡ Some p = ap (λ z. then_next (tokens u) z c) h.stands ∙ e in
    record {
      chars = cs ++ c ∷ [];
      after = drop n (drop s.len x);
      parts = h.parts ∙ ap (λ z. encode_utf8_all cs ++ z) (sym (scan-after u x s h) ∙ sym (take-append-drop n (drop s.len x)) ∙ ap (λ z. z ++ drop n (drop s.len x)) b.spelled)
          ∙ sym (append_assoc (encode_utf8_all cs) (encode_utf8 c) (drop n (drop s.len x))) ∙ ap (λ z. z ++ drop n (drop s.len x)) (sym spelled);
      count = count;
      characters = scalars-snoc cs c h.characters b.scalar;
      stands = run-snoc (tokens u) (Some (tokens u).start) cs c ∙ live;
      is_best = subst (λ z. IsBest z (best_after (accepts p) (s.len + n) (s.best, s.best_len)).0 (best_after (accepts p) (s.len + n) (s.best, s.best_len)).1)
          (sym (longest-live (tokens u) (Some (tokens u).start) cs c p live))
          (best_more (accepts p) cs c (longest (tokens u) cs) s.best s.best_len (s.len + n) h.is_best count);
    }

-- no character at the front of z goes on with a token
abbrev pub IsStuck : State → List ℕ → Type 0
IsStuck q z = (c : ℕ) (o : List ℕ) → IsScalar c → z ≡ encode_utf8 c ++ o → state_after q c ≡ None

stuck_on : (u : Bool) (q : State) (z : List ℕ) → IsStuck q z → (t : Terminal) (v s : List ℕ) → z ≡ encode_utf8_all v ++ s → all_scalars v ≡ true → v ≢ []
    → kind_at (tokens u) (run_from (tokens u) (Some q) v) ≡ Some t → ⊥
stuck_on u q z h t [] s p g n k = n refl
stuck_on u q z h t (c ∷ v) s p g n k =
    let dead : state_after q c ≡ None = h c (encode_utf8_all v ++ s) (and_parts (scalar c) (all_scalars v) g).0 (p ∙ append_assoc (encode_utf8 c) (encode_utf8_all v) s) in
    Prim.cc (sym (ap (λ o. kind_at (tokens u) (run_from (tokens u) o v)) dead ∙ ap (kind_at (tokens u)) (none-stays (tokens u) v)) ∙ k)

pub stuck-barren : (u : Bool) (q : State) (z : List ℕ) → IsStuck q z → IsBarren u q z
stuck-barren u q z h = stuck_on u q z h

-- an ended token, whatever follows
pub ended-stuck : (is_end u b : Bool) (q : State) (z : List ℕ) → MatchBool b ((t : Terminal) × (q ≡ at.Ended t)) ((t : Terminal) → q ≢ at.Ended t) → IsBarren u q z
    → MatchBool b ((w : List ℕ) → MayBecome is_end z w → IsBarren u q w) (IsBarren u q z)
ended-stuck is_end u true q z h k = λ w m. stuck-barren u q w (λ c o i p. subst (λ s. state_after s c ≡ None) (sym h.1) refl)
ended-stuck is_end u false q z h k = k

pub not-ended : (b : Bool) (q : State) → MatchBool b ((t : Terminal) × (q ≡ at.Ended t)) ((t : Terminal) → q ≢ at.Ended t) → b ≡ false → (t : Terminal) → q ≢ at.Ended t
not-ended true q h e = Prim.cc e
not-ended false q h e = h

-- a text that begins with a character becomes one that begins with it
pub begins-become : (is_end : Bool) (c n : ℕ) (x z : List ℕ) → BeginsWith c n x → MayBecome is_end x z → Becomes is_end (encode_utf8 c) (drop n x) z
begins-become is_end c n x z b m =
    becomes-after is_end (encode_utf8 c) (drop n x) z (IsUtf8-encode c b.scalar)
    (subst (λ y. MayBecome is_end y z) (sym (take-append-drop n x) ∙ ap (λ y. y ++ drop n x) b.spelled) m)

-- a text whose first characters a scan has read becomes one with them at its front
pub scan-becomes : (is_end u : Bool) (x z : List ℕ) (s : Scan) → (h : IsScanned u x s) → MayBecome is_end x z → Becomes is_end (encode_utf8_all h.chars) h.after z
scan-becomes is_end u x z s h m = becomes-after is_end (encode_utf8_all h.chars) h.after z (h.chars, (h.characters, refl)) (subst (λ y. MayBecome is_end y z) h.parts m)

-- and what becomes of the rest, after those characters, becomes of the text
pub rest-becomes : (is_end u : Bool) (x z : List ℕ) (s : Scan) → (h : IsScanned u x s) → MayBecome is_end h.after z → MayBecome is_end x (encode_utf8_all h.chars ++ z)
rest-becomes is_end u x z s h m =
    subst (λ y. MayBecome is_end y (encode_utf8_all h.chars ++ z)) (sym h.parts) (becomes-before is_end (encode_utf8_all h.chars) h.after z (h.chars, (h.characters, refl)) m)

-- a character by which no token goes on
pub stuck-character : (is_end : Bool) (q : State) (c n : ℕ) (r : List ℕ) → BeginsWith c n r → state_after q c ≡ None → (z : List ℕ) → MayBecome is_end r z → IsStuck q z
stuck-character is_end q c n r b e z m d o k p =
    let g = begins-become is_end c n r z b m in
    subst (λ y. state_after q y ≡ None) (encode_same c d g.rest o (sym g.text ∙ p)).0 e

-- bytes that begin no character
pub stuck-bad : (q : State) (z : List ℕ) → StartsWithNoChar z → IsStuck q z
stuck-bad q z h c o k p = absurd (h c o k p)

-- the scan goes on within the text
pub scan-within : (s : Scan) (x : List ℕ) (c n : ℕ) → s.len ≤ length x → BeginsWith c n (drop s.len x) → (s.len + n ≤ length x) × (s.len < s.len + n)
scan-within s x c n h b = let k = begins-some c n (drop s.len x) b in (omega (arith, length-drop s.len x, b.within), omega (arith, k.1))

pub best-within : (s : Scan) (p : State) (n : ℕ) → s.best_len ≤ s.len → (onward_of s p n).best_len ≤ (onward_of s p n).len
best-within s p n h = best_within (accepts p)
  where
    best_within : (k : Option Terminal) → (best_after k (s.len + n) (s.best, s.best_len)).1 ≤ s.len + n
    best_within None = omega arith
    best_within (Some k) = omega arith

pub nothing-left : (n : ℕ) (x : List ℕ) → length x ≤ n → IsShort (drop n x)
nothing-left n x h = front-nothing (drop n x) (omega (arith, length-drop n x))

pub stuck-nothing : (q : State) (n : ℕ) (x : List ℕ) → length x ≤ n → IsStuck q (drop n x)
stuck-nothing q n x h = stuck-bad q (drop n x) (short-begins (drop n x) (nothing-left n x h))

no_dots : (u : Bool) → start_of u ≡ at.WordDots → ⊥
no_dots false e = Prim.cc e
no_dots true e = Prim.cc e

no_chars : (u : Bool) (cs : List ℕ) → run (tokens u) cs ≡ Some at.WordDots → cs ≢ []
no_chars u [] h e = no_dots u (Prim.cc h)
no_chars u (c ∷ cs) h e = Prim.cc e

-- after a word's dots within the barren bytes
pub scan-barren : (is_end u : Bool) (x : List ℕ) (s : Scan) (n : ℕ) → IsScanned u x s → IsBarrenTo is_end u x n → s.state ≡ at.WordDots → s.len ≤ n → (z : List ℕ) → MayBecome is_end (drop s.len x) z → IsBarren u s.state z
scan-barren is_end u x s n h b e l z m =
    subst (λ q. IsBarren u q z) (sym e)
    (b (encode_utf8_all h.chars ++ z) h.chars z (rest-becomes is_end u x z s h (subst (λ y. MayBecome is_end y z) (scan-after u x s h) m)) refl h.characters
    (no_chars u h.chars (h.stands ∙ ap Some e)) (omega (arith, l, h.count)))

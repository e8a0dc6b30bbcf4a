-- What a scan that went on from a word in vain reports of the words after it.
use Rattle.std.proofs.Math.Seq.{drop-append_seam}
use Rattle.std.proofs.lemmas.Bool.{and_parts, and_from}
use Rattle.std.proofs.Common.{◌≡◌, ◌≢◌, ℕ, ◌-◌, ◌<◌, ◌≤◌, max, Bool, true, false, cond, List, [], ◌∷◌, ◌++◌, refl, sym, ap, ◌∙◌, arith, subst, append_assoc, length, length-append, Option, Some, None, take, drop, encode_utf8_all, ◌⊎◌, inl, inr}
use Rattle.std.proofs.Math.ListN.{take-append-drop}
use Rattle.std.proofs.lemmas.Str.{encodes-append}
use Rattle.std.proofs.lemmas.List.{length-take-le}
use Rattle.std.specs.Prelude.{◌==◌}
use Rattle.std.specs.Str.{all_scalars}
use lib.Utf8.{scalar}
use Rattle.gs_automaton.specs.Automata.{Found, run, run_from, kind_at, longest}
use Rattle.gs_automaton.specs.Classes.{is_name_char}
use Rattle.gs_automaton.specs.States.{tokens, state_after, start_of, accepts}
use Rattle.gs_automaton.specs.Scans.{MayBecome, IsBest, IsScanned, IsBarren, IsBarrenTo}
use Rattle.gs_lex.specs.Readings.{HasRead, reading_at_start}
use Rattle.gs_automaton.specs.declared.terminals.Terminal.{Terminal}
use Rattle.gs_automaton.specs.declared.terminals.Terminal.TheVariants as kind
use Rattle.gs_automaton.specs.declared.states.State.{State}
use Rattle.gs_automaton.specs.declared.states.State.TheVariants as at
use Rattle.gs_automaton.specs.declared.states.Mark.TheVariants as mark
use Rattle.gs_automaton.specs.declared.scans.Scan.{Scan}
use Rattle.gs_lex.specs.declared.steps.Reading.{Reading}
use Rattle.gs_automaton.proofs.AutomatonLemmas.{run-append, none-stays, Best, best, IsSplit, longest-split}
use Rattle.gs_automaton.proofs.ScanLemmas.{scan-fresh}
use Rattle.gs_automaton.proofs.BecomeLemmas.{becomes-before, becomes-after, becomes-more, becomes-open}
use Rattle.gs_lex.proofs.LongestLemmas.{within, beyond, compare, scalars-front, scalars-back, IsAll, some_bytes}

some_list : (c : ℕ) (v : List ℕ) → c ∷ v ≢ []
some_list c v e = Prim.cc e

some_length : (v : List ℕ) → v ≢ [] → 0 < length v
some_length [] n = absurd (n refl)
some_length (c ∷ v) n = omega arith

pub some_bytes_of : (v : List ℕ) → v ≢ [] → 0 < length (encode_utf8_all v)
some_bytes_of v n = some_bytes v (some_length v n)

-- in a word after its dots
pub data Inner : State → Type 0 where
  dots : Inner at.WordDots
  more : Inner at.WordMore

same_state : (q p : State) → Some q ≡ Some p → q ≡ p
same_state q p e = Prim.cc e

from_dots : (a b : Bool) (p : State) → cond a (Some at.WordMore) (cond b (Some at.WordDots) None) ≡ Some p → Inner p
from_dots true b p e = subst Inner (same_state at.WordMore p e) more
from_dots false true p e = subst Inner (same_state at.WordDots p e) dots
from_dots false false p e = Prim.cc e

accepted_not : (q p : State) (t : Terminal) → Some q ≡ Some p → accepts q ≡ Some t → accepts p ≡ None → ⊥
accepted_not q p t e a n = Prim.cc (sym a ∙ ap accepts (same_state q p e) ∙ n)

from_more : (a b d : Bool) (p : State) → cond a (Some at.WordMore) (cond b (Some at.WordDots) (cond d (Some at.Namespace) None)) ≡ Some p → accepts p ≡ None → Inner p
from_more true b d p e n = subst Inner (same_state at.WordMore p e) more
from_more false true d p e n = subst Inner (same_state at.WordDots p e) dots
from_more false false true p e n = absurd (accepted_not at.Namespace p kind.PnameNs e refl n)
from_more false false false p e n = Prim.cc e

from_word : (a b d : Bool) (p : State) → cond a (Some at.Word) (cond b (Some at.WordDots) (cond d (Some at.Namespace) None)) ≡ Some p → accepts p ≡ None → Inner p
from_word true b d p e n = absurd (accepted_not at.Word p kind.Word e refl n)
from_word false true d p e n = subst Inner (same_state at.WordDots p e) dots
from_word false false true p e n = absurd (accepted_not at.Namespace p kind.PnameNs e refl n)
from_word false false false p e n = Prim.cc e

next_inner : (q : State) → Inner q → (c : ℕ) (p : State) → state_after q c ≡ Some p → accepts p ≡ None → Inner p
next_inner _ dots c p e n = from_dots (is_name_char c) (c == 46) p e
next_inner _ more c p e n = from_more (is_name_char c) (c == 46) (c == 58) p e n

-- the state of a word alone goes on in vain
next_word : (q : State) → accepts q ≡ Some kind.Word → (c : ℕ) (p : State) → state_after q c ≡ Some p → accepts p ≡ None → Inner p
next_word at.Word k c p e n = from_word (is_name_char c) (c == 46) (c == 58) p e n
next_word (at.Ended t) k c p e n = Prim.cc e
next_word (at.Empty mark.Quote) k c p e n = Prim.cc k
next_word (at.Empty mark.Apostrophe) k c p e n = Prim.cc k
next_word (at.Opened m) k c p e n = Prim.cc k
next_word at.Label k c p e n = Prim.cc k
next_word at.Tag k c p e n = Prim.cc k
next_word at.TagPart k c p e n = Prim.cc k
next_word at.Dot k c p e n = Prim.cc k
next_word at.Integer k c p e n = Prim.cc k
next_word at.IntegerFraction k c p e n = Prim.cc k
next_word at.Fraction k c p e n = Prim.cc k
next_word at.ExponentDigits k c p e n = Prim.cc k
next_word at.Namespace k c p e n = Prim.cc k
next_word at.Local k c p e n = Prim.cc k
next_word at.Variable k c p e n = Prim.cc k
next_word at.Start k c p e n = Prim.cc k
next_word at.UpdateStart k c p e n = Prim.cc k
next_word (at.Inside t) k c p e n = Prim.cc k
next_word (at.Escape t) k c p e n = Prim.cc k
next_word (at.Hex t l) k c p e n = Prim.cc k
next_word (at.First m) k c p e n = Prim.cc k
next_word (at.OneMark m) k c p e n = Prim.cc k
next_word (at.TwoMarks m) k c p e n = Prim.cc k
next_word at.Underscore k c p e n = Prim.cc k
next_word at.LabelColon k c p e n = Prim.cc k
next_word at.LabelDots k c p e n = Prim.cc k
next_word at.AtSign k c p e n = Prim.cc k
next_word at.TagDash k c p e n = Prim.cc k
next_word at.Sign k c p e n = Prim.cc k
next_word at.SignDot k c p e n = Prim.cc k
next_word at.IntegerDot k c p e n = Prim.cc k
next_word at.Exponent k c p e n = Prim.cc k
next_word at.ExponentSign k c p e n = Prim.cc k
next_word at.WordDots k c p e n = Prim.cc k
next_word at.WordMore k c p e n = Prim.cc k
next_word at.FirstPercent k c p e n = Prim.cc k
next_word at.FirstPercentOne k c p e n = Prim.cc k
next_word at.FirstEscape k c p e n = Prim.cc k
next_word at.LocalDots k c p e n = Prim.cc k
next_word at.Percent k c p e n = Prim.cc k
next_word at.PercentOne k c p e n = Prim.cc k
next_word at.LocalEscape k c p e n = Prim.cc k
next_word at.VariableMark k c p e n = Prim.cc k
next_word at.Caret k c p e n = Prim.cc k

-- no front of v is a token, from the state q on
abbrev NoFront : Bool → State → List ℕ → Type 0
NoFront u q v = (w s : List ℕ) (t : Terminal) → v ≡ w ++ s → w ≢ [] → kind_at (tokens u) (run_from (tokens u) (Some q) w) ≡ Some t → ⊥

abbrev GoesInner : State → Type 0
GoesInner q = (c : ℕ) (p : State) → state_after q c ≡ Some p → accepts p ≡ None → Inner p

first_in : (u : Bool) (q : State) → GoesInner q → (c : ℕ) (v : List ℕ) → NoFront u q (c ∷ v) → (p : State)
    → ((r : State) → Inner r → NoFront u r v → run_from (tokens u) (Some r) v ≡ Some p → Inner p) → run_from (tokens u) (Some q) (c ∷ v) ≡ Some p → Inner p
first_in u q i c v h p f e = by_next (state_after q c) refl e
  where
    by_kind : (r : State) → state_after q c ≡ Some r → run_from (tokens u) (Some r) v ≡ Some p → (k : Option Terminal) → accepts r ≡ k → Inner p
    by_kind r k g None a = f r (i c r k a) (λ w s t b n m. h (c ∷ w) s t (ap (λ z. c ∷ z) b) (some_list c w) (ap (λ o. kind_at (tokens u) (run_from (tokens u) o w)) k ∙ m)) g
    by_kind r k g (Some t) a = absurd (h (c ∷ []) v t refl (some_list c []) (ap (kind_at (tokens u)) k ∙ a))

    by_next : (o : Option State) → state_after q c ≡ o → run_from (tokens u) o v ≡ Some p → Inner p
    by_next None k g = Prim.cc (sym (none-stays (tokens u) v) ∙ g)
    by_next (Some r) k g = by_kind r k g (accepts r) refl

stays_inner : (u : Bool) (v : List ℕ) (p q : State) → Inner q → NoFront u q v → run_from (tokens u) (Some q) v ≡ Some p → Inner p
stays_inner u [] p q i h e = subst Inner (same_state q p e) i
stays_inner u (c ∷ v) p q i h e = first_in u q (next_inner q i) c v h p (stays_inner u v p) e

word_inner : (u : Bool) (v : List ℕ) (p q : State) → accepts q ≡ Some kind.Word → v ≢ [] → NoFront u q v → run_from (tokens u) (Some q) v ≡ Some p → Inner p
word_inner u [] p q i n h e = absurd (n refl)
word_inner u (c ∷ v) p q i n h e = first_in u q (next_word q i) c v h p (stays_inner u v p) e

-- what goes on after a word's dots goes on after the characters after them
either_next : (a b d : Bool) → (cond a (Some at.WordMore) (cond b (Some at.WordDots) None) ≡ None)
    ⊎ (cond a (Some at.WordMore) (cond b (Some at.WordDots) None) ≡ cond a (Some at.WordMore) (cond b (Some at.WordDots) (cond d (Some at.Namespace) None)))
either_next true b d = inr refl
either_next false true d = inr refl
either_next false false d = inl refl

inner_accepts : (u : Bool) (p : State) → Inner p → (v : List ℕ) (t : Terminal) → kind_at (tokens u) (run_from (tokens u) (Some at.WordDots) v) ≡ Some t → kind_at (tokens u) (run_from (tokens u) (Some p) v) ≡ Some t
inner_accepts u _ dots v t k = k
inner_accepts u _ more [] t k = Prim.cc k
inner_accepts u _ more (c ∷ v) t k = elim (either_next (is_name_char c) (c == 46) (c == 58)) [
  | inl e ↦ Prim.cc (sym (ap (λ o. kind_at (tokens u) (run_from (tokens u) o v)) e ∙ ap (kind_at (tokens u)) (none-stays (tokens u) v)) ∙ k)
  | inr e ↦ sym (ap (λ o. kind_at (tokens u) (run_from (tokens u) o v)) e) ∙ k
]

run_some : (u : Bool) (o : Option State) (d : List ℕ) (q : State) → run_from (tokens u) o d ≡ Some q → (p : State) × (o ≡ Some p)
run_some u None d q e = Prim.cc (sym (none-stays (tokens u) d) ∙ e)
run_some u (Some p) d q e = (p, refl)

kind_some : (u : Bool) (o : Option State) (t : Terminal) → kind_at (tokens u) o ≡ Some t → (p : State) × ((o ≡ Some p) × (accepts p ≡ Some t))
kind_some u None t e = Prim.cc e
kind_some u (Some p) t e = (p, (refl, e))

pub scalars-join : (v d : List ℕ) → all_scalars v ≡ true → all_scalars d ≡ true → all_scalars (v ++ d) ≡ true
scalars-join [] d h k = k
scalars-join (c ∷ v) d h k =
    let b = and_parts (scalar c) (all_scalars v) h in
    and_from (scalar c) (all_scalars (v ++ d)) b.0 (scalars-join v d b.1 k)

-- from after some of the characters that were read after a word
word_barren : (u : Bool) (cs w v d z tail : List ℕ) (q : State) → cs ≡ (w ++ v) ++ d → v ≢ [] → all_scalars cs ≡ true → run (tokens u) cs ≡ Some q → kind_at (tokens u) (run (tokens u) w) ≡ Some kind.Word
    → ((j : Terminal) (a s : List ℕ) → cs ≡ a ++ s → kind_at (tokens u) (run (tokens u) a) ≡ Some j → length a ≤ length w)
    → IsAll u cs tail → encode_utf8_all cs ++ tail ≡ encode_utf8_all (w ++ v) ++ z → IsBarren u at.WordDots z
word_barren u cs w v d z tail q parts some g stands word most all text t o s e l n k =
    let start = Some (start_of u) in
    let at_word = kind_some u (run (tokens u) w) kind.Word word in
    let whole : run_from (tokens u) (run (tokens u) (w ++ v)) d ≡ Some q = sym (run-append (tokens u) start (w ++ v) d) ∙ ap (run (tokens u)) (sym parts) ∙ stands in
    let there = run_some u (run (tokens u) (w ++ v)) d q whole in
    let from_w : (a : List ℕ) → run (tokens u) (w ++ a) ≡ run_from (tokens u) (Some at_word.0) a =
    λ a. run-append (tokens u) start w a ∙ ap (λ r. run_from (tokens u) r a) at_word.1.0 in
    let none : NoFront u at_word.0 v =
    λ a r j p m i.
    let c : length (w ++ a) ≤ length w = most j (w ++ a) (r ++ d) (parts ∙ ap (λ y. (w ++ y) ++ d) p ∙ ap (λ y. y ++ d) (sym (append_assoc w a r)) ∙ append_assoc (w ++ a) r d)
    (ap (kind_at (tokens u)) (from_w a) ∙ i) in
    omega (arith, c, length-append w a, some_length a m) in
    let inner : Inner there.0 = word_inner u v there.0 at_word.0 at_word.1.1 some none (sym (from_w v) ∙ there.1) in
    let accepted : kind_at (tokens u) (run (tokens u) ((w ++ v) ++ o)) ≡ Some t =
    ap (kind_at (tokens u)) (run-append (tokens u) start (w ++ v) o ∙ ap (λ r. run_from (tokens u) r o) there.1) ∙ inner_accepts u there.0 inner o t k in
    let spelled : encode_utf8_all cs ++ tail ≡ encode_utf8_all ((w ++ v) ++ o) ++ s =
    text ∙ ap (λ y. encode_utf8_all (w ++ v) ++ y) e ∙ sym (append_assoc (encode_utf8_all (w ++ v)) (encode_utf8_all o) s) ∙ ap (λ y. y ++ s) (sym (encodes-append (w ++ v) o)) in
    let front = all.all t ((w ++ v) ++ o) s spelled (scalars-join (w ++ v) o (scalars-front (w ++ v) d (ap all_scalars (sym parts) ∙ g)) l) accepted in
    let short = most t ((w ++ v) ++ o) front.0 front.1 accepted in
    omega (arith, short, length-append (w ++ v) o, length-append w v, some_length v some)

beyond_long : (v r : List ℕ) (c : ℕ) (d : List ℕ) → v ≡ r ++ c ∷ d → length (encode_utf8_all v) ≤ length (encode_utf8_all r) → ⊥
beyond_long v r c d p l =
    omega (arith, l, ap length (ap encode_utf8_all p ∙ encodes-append r (c ∷ d)), length-append (encode_utf8_all r) (encode_utf8_all (c ∷ d)), some_bytes_of (c ∷ d) (some_list c d))

word_case : (is_end u : Bool) (x cs after : List ℕ) (n len : ℕ) (q : State) (f : Found Terminal ℕ) → x ≡ encode_utf8_all cs ++ after → len ≡ length (encode_utf8_all cs) → all_scalars cs ≡ true
    → run (tokens u) cs ≡ Some q → IsSplit cs f → Best (tokens u) (Some (start_of u)) cs f → IsBest f (Some kind.Word) n
    → ((y : List ℕ) → MayBecome is_end after y → IsAll u cs y) → IsBarrenTo is_end u (drop n x) (len - n)
word_case is_end u x cs after n len q None p k g s i b e a = Prim.cc e
word_case is_end u x cs after n len q (Some t) p k g s i b e a = λ whole v z m t_p v_g v_n v_l.
    let word : kind.Word ≡ t.0 = Prim.cc (e.0) in
    let front = encode_utf8_all t.1 in
    let back = encode_utf8_all t.2 ++ after in
    let chars : encode_utf8_all cs ≡ front ++ encode_utf8_all t.2 = ap encode_utf8_all i.parts ∙ encodes-append t.1 t.2 in
    let parts : x ≡ front ++ back = p ∙ ap (λ r. r ++ after) chars ∙ append_assoc front (encode_utf8_all t.2) after in
    let left : drop n x ≡ back = ap (λ r. drop r x) e.1 ∙ ap (drop (length front)) parts ∙ drop-append_seam front back in
    let g2 : all_scalars t.2 ≡ true = scalars-back t.1 t.2 (ap all_scalars (sym i.parts) ∙ g) in
    let on = becomes-after is_end (encode_utf8_all t.2) after whole (t.2, (g2, refl)) (subst (λ r. MayBecome is_end r whole) left m) in
    let y = on.rest in
    let text : encode_utf8_all v ++ z ≡ encode_utf8_all t.2 ++ y = sym t_p ∙ on.text in
    let room : length (encode_utf8_all v) ≤ length (encode_utf8_all t.2) = omega (arith, v_l, k, e.1, ap length chars, length-append front (encode_utf8_all t.2)) in
    elim (compare v t.2 z y text) [
      | within d w ↦ word_barren u cs t.1 v d z y q (i.parts ∙ ap (λ r. t.1 ++ r) w ∙ sym (append_assoc t.1 v d)) v_n g s (b.0 ∙ ap Some (sym word)) b.1 (a y on.becomes)
          (ap (λ r. r ++ y) chars ∙ append_assoc front (encode_utf8_all t.2) y ∙ ap (λ r. front ++ r) (sym text)
          ∙ sym (append_assoc front (encode_utf8_all v) z) ∙ ap (λ r. r ++ z) (sym (encodes-append t.1 v)))
      | beyond c d w o ↦ absurd (beyond_long v t.2 c d w room)
    ]

-- after a word that ends before the scan, all that was read is barren
pub barren-word : (is_end u : Bool) (x : List ℕ) (s : Scan) → (h : IsScanned u x s) → s.best ≡ Some kind.Word → ((y : List ℕ) → MayBecome is_end h.after y → IsAll u h.chars y)
    → IsBarrenTo is_end u (drop s.best_len x) (s.len - s.best_len)
barren-word is_end u x s h e a =
    word_case is_end u x h.chars h.after s.best_len s.len s.state (longest (tokens u) h.chars) h.parts h.count h.characters h.stands (longest-split (tokens u) (Some (start_of u)) h.chars)
    (best (tokens u) (Some (start_of u)) h.chars) (subst (λ z. IsBest (longest (tokens u) h.chars) z s.best_len) e h.is_best) a

-- after a token, what was barren is so
pub barren-after : (is_end u : Bool) (x : List ℕ) (n b : ℕ) (w : List ℕ) → take n x ≡ encode_utf8_all w → all_scalars w ≡ true → n ≤ length x → IsBarrenTo is_end u x b → IsBarrenTo is_end u (drop n x) (b - n)
barren-after is_end u x n b w t k l h = λ y v z m p g e i.
    let size : n ≡ length (encode_utf8_all w) = sym (length-take-le n x l) ∙ ap length t in
    h (take n x ++ y) (w ++ v) z
    (subst (λ r. MayBecome is_end r (take n x ++ y)) (take-append-drop n x) (becomes-before is_end (take n x) (drop n x) y (w, (k, sym t)) m))
    (ap (λ r. r ++ y) t ∙ ap (λ r. encode_utf8_all w ++ r) p
    ∙ sym (append_assoc (encode_utf8_all w) (encode_utf8_all v) z) ∙ ap (λ r. r ++ z) (sym (encodes-append w v)))
    (scalars-join w v k g)
    (λ r. let none : length (w ++ v) ≡ 0 = ap length r in omega (arith, none, length-append w v, some_length v e))
    (omega (arith, i, size, some_bytes_of v e, ap length (encodes-append w v), length-append (encode_utf8_all w) (encode_utf8_all v)))

at_most : (l a b : ℕ) → l ≤ max a b → (l ≤ a) ⊎ (l ≤ b)
at_most l a b h = grind arith

pub barren-max : (is_end u : Bool) (x : List ℕ) (a b : ℕ) → IsBarrenTo is_end u x a → IsBarrenTo is_end u x b → IsBarrenTo is_end u x (max a b)
barren-max is_end u x a b h k = λ y v z m p g e l. elim (at_most (length (encode_utf8_all v)) a b l) [ inl i ↦ h y v z m p g e i | inr i ↦ k y v z m p g e i ]

pub barren-none : (is_end u : Bool) (x : List ℕ) → IsBarrenTo is_end u x 0
barren-none is_end u x = λ y v z m p g e l. absurd (omega (arith, l, some_bytes_of v e))

-- as the text goes on, and at its end
pub read-more : (r : Reading) (x y : List ℕ) → HasRead false r x → HasRead false r (x ++ y)
read-more r x y h = record {
  scanned = record {
    chars = h.scanned.chars;
    after = h.scanned.after ++ y;
    parts = ap (λ z. z ++ y) h.scanned.parts ∙ append_assoc (encode_utf8_all h.scanned.chars) h.scanned.after y;
    count = h.scanned.count;
    characters = h.scanned.characters;
    stands = h.scanned.stands;
    is_best = h.scanned.is_best;
  };
  barren = λ z v w m. h.barren z v w (becomes-more x y z m);
}

pub read-end : (r : Reading) (x : List ℕ) → HasRead false r x → HasRead true r x
read-end r x h = record { scanned = h.scanned; barren = λ y v z m. h.barren y v z (becomes-open x y m) }

pub read-fresh : (u : Bool) (x : List ℕ) → HasRead false (reading_at_start u) x
read-fresh u x = record { scanned = scan-fresh u x; barren = barren-none false u x }

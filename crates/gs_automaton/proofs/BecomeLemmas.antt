-- What a text may become.
use Rattle.std.proofs.Common.{◌≡◌, ◌≢◌, ℕ, Bool, true, false, List, [], ◌∷◌, ◌++◌, arith, refl, sym, ap, subst, ◌∙◌, inl, inr, append_assoc, append-nil, encode_utf8, encode_utf8_all}
use Rattle.std.proofs.lemmas.Bool.{and_parts}
use Rattle.std.proofs.lemmas.Str.{encode_same, IsUtf8-nil, IsUtf8-append}
use Rattle.std.proofs.str.Laws.{one}
use Rattle.std.specs.Str.{IsUtf8, StartsWithNoChar, all_scalars}
use lib.Utf8.{scalar}
use Rattle.gs_machine.proofs.FrontLemmas.{one_begins, none_of_characters, IsUtf8-past}
use Rattle.gs_automaton.specs.Scans.{MayFollow, MayBecome, goes_on, recut}
use Rattle.gs_automaton.specs.Symbols.{IsShort}

pub no_end : (y : List ℕ) → MayFollow false y
no_end y e = Prim.cc e

-- the first bytes of a character begin none where nothing follows
pub short-begins : (x : List ℕ) → IsShort x → StartsWithNoChar x
short-begins x h d r s e =
    let whole : encode_utf8 h.character ++ [] ≡ encode_utf8 d ++ (r ++ h.others) =
    append-nil (encode_utf8 h.character) ∙ h.parts ∙ ap (λ z. z ++ h.others) e ∙ append_assoc (encode_utf8 d) r h.others in
    nothing_left r h.others h.some (encode_same h.character d [] (r ++ h.others) whole).1
  where
    nothing_left : (a b : List ℕ) → b ≢ [] → [] ≡ a ++ b → ⊥
    nothing_left [] b n k = n (sym k)
    nothing_left (c ∷ a) b n k = Prim.cc k

-- no byte of a character
pub short-nothing : IsShort []
short-nothing = record { character = 65; others = 65 ∷ []; scalar = refl; some = λ e. Prim.cc e; parts = one 65 (omega arith) }

some_after : (y o : List ℕ) → o ≢ [] → y ++ o ≢ []
some_after [] o n e = n e
some_after (c ∷ y) o n e = Prim.cc e

-- fewer bytes of it
short-front : (x y : List ℕ) → IsShort (x ++ y) → IsShort x
short-front x y h = record { character = h.character; others = y ++ h.others; scalar = h.scalar; some = some_after y h.others h.some; parts = h.parts ∙ append_assoc x y h.others }

-- a text may stay as it is
pub becomes-self : (is_end : Bool) (x : List ℕ) → MayBecome is_end x x
becomes-self is_end x = goes_on [] (λ _. refl) (sym (append-nil x))

pub becomes-on : (is_end : Bool) (x y : List ℕ) → MayFollow is_end y → MayBecome is_end x (x ++ y)
becomes-on is_end x y m = goes_on y m refl

-- after characters a text becomes what the rest becomes
pub becomes-before : (is_end : Bool) (p x z : List ℕ) → IsUtf8 p → MayBecome is_end x z → MayBecome is_end (p ++ x) (p ++ z)
becomes-before is_end p x z u (goes_on y m k) = goes_on y m (ap (λ w. p ++ w) k ∙ sym (append_assoc p x y))
becomes-before is_end p x z u (recut f a y n k v s l) =
    recut (p ++ f) a y n (ap (λ w. p ++ w) k ∙ sym (append_assoc p f a)) (IsUtf8-append p f u v) s (ap (λ w. p ++ w) l ∙ sym (append_assoc p f y))

-- what becomes of a text that begins with characters: these characters, and what becomes of the rest
pub record Becomes (is_end : Bool) (p x z : List ℕ) : Type 0 where
  pub rest : List ℕ
  pub text : z ≡ p ++ rest
  pub becomes : MayBecome is_end x rest

pub becomes-after : (is_end : Bool) (p x z : List ℕ) → IsUtf8 p → MayBecome is_end (p ++ x) z → Becomes is_end p x z
becomes-after is_end p x z u (goes_on y m k) = record { rest = x ++ y; text = k ∙ append_assoc p x y; becomes = goes_on y m refl }
becomes-after is_end p x z u (recut f a y n k v s l) = elim (one_begins p x f a k) [
  | inl m ↦ record {
    rest = m.0 ++ y;
    text = l ∙ ap (λ w. w ++ y) m.1 ∙ append_assoc p m.0 y;
    becomes = recut m.0 a y n m.2 (IsUtf8-past p m.0 u (subst IsUtf8 m.1 v)) s refl;
  }
  | inr m ↦
      let none : m.0 ≡ [] = none_of_characters m.0 x (IsUtf8-past f m.0 v (subst IsUtf8 m.1 u)) (subst StartsWithNoChar m.2 (short-begins a s)) in
      record {
        rest = y;
        text = l ∙ ap (λ w. w ++ y) (sym (append-nil f) ∙ ap (λ w. f ++ w) (sym none) ∙ sym m.1);
        becomes = recut [] x y n refl IsUtf8-nil (subst IsShort (m.2 ∙ ap (λ w. w ++ x) none) s) refl;
      }
]

-- what a text becomes when it goes on, its front becomes
pub becomes-more : (x y z : List ℕ) → MayBecome false (x ++ y) z → MayBecome false x z
becomes-more x y z (goes_on w m k) = goes_on (y ++ w) (no_end (y ++ w)) (k ∙ append_assoc x y w)
becomes-more x y z (recut f a w n k v s l) = elim (one_begins x y f a k) [
  | inl m ↦ goes_on (m.0 ++ w) (no_end (m.0 ++ w)) (l ∙ ap (λ t. t ++ w) m.1 ∙ append_assoc x m.0 w)
  | inr m ↦ recut f m.0 w n m.1 v (short-front m.0 y (subst IsShort m.2 s)) l
]

-- a text that ends becomes nothing else
pub becomes-end : (is_end : Bool) (x z : List ℕ) → is_end ≡ true → MayBecome is_end x z → z ≡ x
becomes-end is_end x z e (goes_on y m k) = k ∙ ap (λ w. x ++ w) (m e) ∙ append-nil x
becomes-end is_end x z e (recut f a y n k v s l) = absurd (Prim.cc (sym e ∙ n))

pub becomes-open : (x z : List ℕ) → MayBecome true x z → MayBecome false x z
becomes-open x z m = goes_on [] (no_end []) (becomes-end true x z refl m ∙ sym (append-nil x))

-- bytes that begin no character, whatever follows, become none that do
pub becomes-bad : (is_end : Bool) (x z : List ℕ) → ((y : List ℕ) → StartsWithNoChar (x ++ y)) → MayBecome is_end x z → StartsWithNoChar z
becomes-bad is_end x z h (goes_on y m k) = subst StartsWithNoChar (sym k) (h y)
becomes-bad is_end x z h (recut f a y n k v s l) = absurd (by_front v.0 v.1.0 v.1.1)
  where
    by_front : (cs : List ℕ) → all_scalars cs ≡ true → encode_utf8_all cs ≡ f → ⊥
    by_front [] g e = h s.others s.character [] s.scalar
        (ap (λ w. w ++ s.others) (k ∙ ap (λ w. w ++ a) (sym e)) ∙ sym s.parts ∙ sym (append-nil (encode_utf8 s.character)))
    by_front (c ∷ cs) g e = h [] c (encode_utf8_all cs ++ a) (and_parts (scalar c) (all_scalars cs) g).0
        (append-nil x ∙ k ∙ ap (λ w. w ++ a) (sym e) ∙ append_assoc (encode_utf8 c) (encode_utf8_all cs) a)

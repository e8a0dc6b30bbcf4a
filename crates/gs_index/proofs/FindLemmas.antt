-- The first number of a target that was made by a commit, as the first key past what is sought.
use Rattle.std.proofs.Common.{◌≡◌, ◌<◌, ◌⊎◌, ◌&&◌, ℕ, Bool, true, false, cond, nat_eq, nat_le, List, [], ◌∷◌, Option, Some, None, refl, sym, ap, subst, ◌∙◌, inl, inr, arith, true≢false}
use Rattle.std.specs.Prelude.{find}
use Rattle.std.specs.Ordering.{ordering_then, nat_cmp, is_eq, MatchOrdering}
use Rattle.std.specs.Cmp.{ranks}
use Rattle.std.specs.declared.cmp.Ordering.{Ordering}
use Rattle.std.specs.declared.cmp.Ordering.TheVariants.{Less, Equal, Greater}
use Rattle.std.proofs.lemmas.Bool.{lt-ltb, le-leb, lt-leb, and_left, and_right}
use Rattle.std.proofs.lemmas.Cmp.{alike_right}
use Rattle.gs_term.specs.declared.names.Target.{Target}
use Rattle.gs_pool.specs.declared.nodes.Key.{Key}
use Rattle.gs_tree.specs.Keys.{AllKeys, IsRising}
use Rattle.gs_tree.specs.Reading.{is_less, keys_from, first_key}
use Rattle.gs_index.specs.Ages.{Age, target_cmp, is_target, age_cmp, aged_key_cmp}
use Rattle.gs_index.specs.Kept.{number_key, number_if}
use Rattle.gs_index.proofs.AgeLemmas.{target_total, target_ties}
use Rattle.gs_index.proofs.NumberLemmas.{numbers}

-- the age is one of this target, made by this commit or an earlier one
abbrev pub is_sought : Target → ℕ → Age → Bool
is_sought t v a = is_target t a.target && nat_le a.birth v

-- the number that was found, where it is of the target
abbrev pub number_if_of : (ℕ → Age) → Target → Option ℕ → Option ℕ
number_if_of f t None = None
number_if_of f t (Some n) = cond (is_target t (f n).target) (Some n) None

-- a lesser number compares as less
less_is : (m n : ℕ) → m < n → nat_cmp m n ≡ Less
less_is m n h = ap (λ b. cond b Less (cond (nat_eq m n) Equal Greater)) (lt-ltb m n h)

-- one that compares as less or as equal is no greater
none_greater : (m n : ℕ) (o : Ordering) → nat_cmp m n ≡ o → is_less (ordering_then o Less) ≡ true → nat_le m n ≡ true
none_greater m n Less e h = le-leb m n (let l : m < n = subst (λ o. MatchOrdering o (m < n) (m ≡ n) (n < m)) e (ranks m n) in omega arith)
none_greater m n Equal e h = le-leb m n (let l : m ≡ n = subst (λ o. MatchOrdering o (m < n) (m ≡ n) (n < m)) e (ranks m n) in omega arith)
none_greater m n Greater e h = absurd (true≢false (sym h))

-- one that does not is greater
greater_is : (m n : ℕ) (o : Ordering) → nat_cmp m n ≡ o → is_less (ordering_then o Less) ≡ false → nat_le m n ≡ false
greater_is m n Less e h = absurd (true≢false h)
greater_is m n Equal e h = absurd (true≢false h)
greater_is m n Greater e h = lt-leb m n (subst (λ o. MatchOrdering o (m < n) (m ≡ n) (n < m)) e (ranks m n))

module _ (f : ℕ → Age) (t : Target) (v top : ℕ) (sought : f top ≡ record { target = t; birth = v }) where
  -- how a key compares with what is sought
  top_cmp : (k : Key) → k.subject < top → aged_key_cmp f (number_key top) k ≡ ordering_then (ordering_then (target_cmp t (f k.subject).target) (nat_cmp (f k.subject).birth v)) Less
  top_cmp k h =
      ap (λ x. ordering_then (age_cmp x (f k.subject)) (nat_cmp k.subject top)) sought
      ∙ ap (λ o. ordering_then (ordering_then (target_cmp t (f k.subject).target) (nat_cmp (f k.subject).birth v)) o) (less_is k.subject top h)

  -- by how its target compares: one that is past is sought, or its target comes later
  past_by : (a : Age) (o : Ordering) → target_cmp t a.target ≡ o → is_less (ordering_then (ordering_then o (nat_cmp a.birth v)) Less) ≡ true
      → ((is_target t a.target ≡ true) × (is_sought t v a ≡ true)) ⊎ (target_cmp t a.target ≡ Less)
  past_by a Less e h = inr e
  past_by a Equal e h =
      let same : is_target t a.target ≡ true = target_ties t a.target ∙ ap is_eq e in
      inl (same, ap (λ b. b && nat_le a.birth v) same ∙ none_greater a.birth v (nat_cmp a.birth v) refl h)
  past_by a Greater e h = absurd (true≢false (sym h))

  -- one that is not is not sought
  left_by : (a : Age) (o : Ordering) → target_cmp t a.target ≡ o → is_less (ordering_then (ordering_then o (nat_cmp a.birth v)) Less) ≡ false → is_sought t v a ≡ false
  left_by a Less e h = absurd (true≢false h)
  left_by a Equal e h = and_right (is_target t a.target) (nat_le a.birth v) (greater_is a.birth v (nat_cmp a.birth v) refl h)
  left_by a Greater e h = and_left (is_target t a.target) (nat_le a.birth v) (target_ties t a.target ∙ ap is_eq e)

  -- of a later target none is sought
  later_other : (a : Age) → target_cmp t a.target ≡ Less → is_target t a.target ≡ false
  later_other a e = target_ties t a.target ∙ ap is_eq e

  -- a key above one of a later target is of a later target
  later_still : (a b : Age) (o p : Ordering) → target_cmp t a.target ≡ Less → target_cmp a.target b.target ≡ o → ordering_then (ordering_then o (nat_cmp b.birth a.birth)) p ≡ Less → target_cmp t b.target ≡ Less
  later_still a b Less p e is h = target_total.trans t a.target b.target e is
  later_still a b Equal p e is h = sym (alike_right target_total a.target b.target t is) ∙ e
  later_still a b Greater p e is h = absurd (cc)

  none_later : (a : Key) (ks : List Key) → target_cmp t (f a.subject).target ≡ Less → AllKeys (λ k. aged_key_cmp f a k ≡ Less) ks → find (λ n. is_sought t v (f n)) (numbers ks) ≡ None
  none_later a [] e h = refl
  none_later a (k ∷ ks) e h =
      let later : target_cmp t (f k.subject).target ≡ Less = later_still (f a.subject) (f k.subject) (target_cmp (f a.subject).target (f k.subject).target) (nat_cmp k.subject a.subject) e refl h.0 in
      let other : is_sought t v (f k.subject) ≡ false = and_left _ (nat_le (f k.subject).birth v) (later_other (f k.subject) later) in
      rw other (none_later a ks e h.1)

  -- the first key past what is sought has the first number that is sought, or another target
  pub first_sought : (ks : List Key) → AllKeys (λ k. k.subject < top) ks → IsRising (aged_key_cmp f) ks
      → number_if_of f t (number_if (first_key (keys_from (aged_key_cmp f) (Some (number_key top)) ks))) ≡ find (λ n. is_sought t v (f n)) (numbers ks)
  first_sought [] low up = refl
  first_sought (k ∷ ks) low up = by_test (is_less (aged_key_cmp f (number_key top) k)) refl (first_sought ks low.1 up.1)
    where
      a : Age
      a = f k.subject

      by_kind : ((is_target t a.target ≡ true) × (is_sought t v a ≡ true)) ⊎ (target_cmp t a.target ≡ Less)
          → cond (is_target t a.target) (Some k.subject) None ≡ cond (is_sought t v a) (Some k.subject) (find (λ n. is_sought t v (f n)) (numbers ks))
      by_kind (inl h) = ap (λ b. cond b (Some k.subject) None) h.0 ∙ sym (ap (λ b. cond b (Some k.subject) (find (λ n. is_sought t v (f n)) (numbers ks))) h.1)
      by_kind (inr e) =
          ap (λ b. cond b (Some k.subject) None) (later_other a e)
          ∙ sym (none_later k ks e up.0)
          ∙ sym (ap (λ b. cond b (Some k.subject) (find (λ n. is_sought t v (f n)) (numbers ks))) (and_left (is_target t a.target) (nat_le a.birth v) (later_other a e)))

      by_test : (b : Bool) → is_less (aged_key_cmp f (number_key top) k) ≡ b
          → number_if_of f t (number_if (first_key (keys_from (aged_key_cmp f) (Some (number_key top)) ks))) ≡ find (λ n. is_sought t v (f n)) (numbers ks)
          → number_if_of f t (number_if (first_key (cond b (k ∷ keys_from (aged_key_cmp f) (Some (number_key top)) ks) (keys_from (aged_key_cmp f) (Some (number_key top)) ks)))) ≡ cond (is_sought t v a) (Some k.subject) (find (λ n. is_sought t v (f n)) (numbers ks))
      by_test true e later = by_kind (past_by a (target_cmp t a.target) refl (sym (ap is_less (top_cmp k low.0)) ∙ e))
      by_test false e later =
          let no : is_sought t v a ≡ false = left_by a (target_cmp t a.target) refl (sym (ap is_less (top_cmp k low.0)) ∙ e) in
          later ∙ sym (ap (λ b. cond b (Some k.subject) (find (λ n. is_sought t v (f n)) (numbers ks))) no)

-- tests that agree at each key find the same number
pub find_same : (p q : ℕ → Bool) (ks : List Key) → AllKeys (λ k. p k.subject ≡ q k.subject) ks → find p (numbers ks) ≡ find q (numbers ks)
find_same p q [] h = refl
find_same p q (k ∷ ks) h = ap (λ b. cond b (Some k.subject) (find p (numbers ks))) h.0 ∙ ap (cond (q k.subject) (Some k.subject)) (find_same p q ks h.1)

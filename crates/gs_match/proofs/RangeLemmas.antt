-- A range is a run of keys: what is between two of its keys is in it.
use Rattle.std.proofs.Common.{◌≡◌, ◌≢◌, ◌≤◌, ℕ, Bool, true, false, ◌||◌, ◌&&◌, nat_eq, length, None, refl, sym, ap, ◌∙◌, subst, arith}
use Rattle.std.specs.Ordering.{ordering_then, ordering_reverse}
use Rattle.std.specs.declared.cmp.Ordering.{Ordering}
use Rattle.std.specs.declared.cmp.Ordering.TheVariants.{Less, Equal, Greater}
use Rattle.std.proofs.lemmas.Bool.{and_parts}
use Rattle.std.proofs.lemmas.Bool.Decides.{nat_tests}
use Rattle.std.proofs.lemmas.Cmp.{tied_itself, nat_list_cmp_total}
use Rattle.std.proofs.lemmas.List.{get_or_past}
use Rattle.gs_dict.specs.Numbering.{IsDistinct}
use Rattle.gs_pool.specs.declared.nodes.Key.{Key}
use Rattle.gs_keys.specs.Texts.{Terms, text_at, number_cmp, key_cmp, HasTerm, IsGiven}
use Rattle.gs_keys.proofs.KeyLemmas.{no_text_first, tied_numbers}
use Rattle.gs_joins.specs.Numbers.{no_number}
use Rattle.gs_match.specs.Ranges.{is_at, key_in_range, IsRange}

-- the places of a range that a key is in
pub record Fits (r k : Key) : Type 0 where
  pub subject : is_at r.subject k.subject ≡ true
  pub predicate : is_at r.predicate k.predicate ≡ true
  pub object : is_at r.object k.object ≡ true

-- a key in a range stands at each of its places
pub fits : (r k : Key) → key_in_range r k ≡ true → Fits r k
fits r k h =
    let two = and_parts (is_at r.subject k.subject && is_at r.predicate k.predicate) (is_at r.object k.object) h in
    let one = and_parts (is_at r.subject k.subject) (is_at r.predicate k.predicate) two.0 in
    record { subject = one.0; predicate = one.1; object = two.1 }

-- and the other way round
pub in_by : (r k : Key) → Fits r k → key_in_range r k ≡ true
in_by r k f = ap (λ b. (b && is_at r.predicate k.predicate) && is_at r.object k.object) f.subject ∙ ap (λ b. b && is_at r.object k.object) f.predicate ∙ f.object

-- a place that has the number that no term has takes any
any_at : (m n : ℕ) → m ≡ no_number → is_at m n ≡ true
any_at m n e = ap (λ b. b || nat_eq m n) (same m no_number e)
  where
    same : (m l : ℕ) → m ≡ l → nat_eq m l ≡ true
    same m l e = grind (arith, nat_tests)

-- another place takes its own number alone
own_at : (m n : ℕ) → m ≢ no_number → is_at m n ≡ true → m ≡ n
own_at m n ne h = by_test (nat_eq m no_number) refl
  where
    by_test : (b : Bool) → nat_eq m no_number ≡ b → m ≡ n
    by_test true e = absurd (ne (let is : m ≡ no_number = grind (arith, nat_tests) in is))
    by_test false e = let own : nat_eq m n ≡ true = sym (ap (λ b. b || nat_eq m n) e) ∙ h in grind (arith, nat_tests)

-- a place takes its own number
at_own : (m n : ℕ) → m ≡ n → is_at m n ≡ true
at_own m n e = or_true (nat_eq m no_number) (nat_eq m n) (let own : nat_eq m n ≡ true = grind (arith, nat_tests) in own)
  where
    or_true : (a b : Bool) → b ≡ true → (a || b) ≡ true
    or_true true b h = refl
    or_true false b h = h

-- whether a place is known
known_or_not : (m : ℕ) (P : Type 0) → (m ≡ no_number → P) → (m ≢ no_number → P) → P
known_or_not m P any own = by_test (nat_eq m no_number) refl
  where
    by_test : (b : Bool) → nat_eq m no_number ≡ b → P
    by_test true e = any (let is : m ≡ no_number = grind (arith, nat_tests) in is)
    by_test false e = own (λ is. absurd (grind (arith, nat_tests)))

module _ (terms : Terms) (distinct : IsDistinct terms) (few : length terms ≤ no_number) where
  -- a number that no term has comes first
  first : (m n : ℕ) → m ≡ no_number → HasTerm terms n → number_cmp terms m n ≡ Less
  first m n e h = no_text_first terms m n (get_or_past terms m None (omega arith)) h

  -- a number compares as equal to itself
  same_tied : (m n : ℕ) → m ≡ n → number_cmp terms m n ≡ Equal
  same_tied m n e = ap (number_cmp terms m) (sym e) ∙ tied_itself nat_list_cmp_total (text_at terms m)

  -- a key in a range that is no single key is above the range itself
  pub above_range : (r k : Key) → IsRange r → r.object ≡ no_number → IsGiven terms k → key_in_range r k ≡ true → key_cmp terms r k ≡ Less
  above_range r k form none g h = known_or_not r.subject (key_cmp terms r k ≡ Less) any_subject own_subject
    where
      f : Fits r k
      f = fits r k h

      rest : Ordering
      rest = number_cmp terms r.object k.object

      any_subject : r.subject ≡ no_number → key_cmp terms r k ≡ Less
      any_subject e = ap (λ o. ordering_then o (ordering_then (number_cmp terms r.predicate k.predicate) (number_cmp terms r.object k.object))) (first r.subject k.subject e g.subject)

      by_predicate : ordering_then (number_cmp terms r.predicate k.predicate) (number_cmp terms r.object k.object) ≡ Less
      by_predicate = known_or_not r.predicate _
          (λ e. ap (λ o. ordering_then o (number_cmp terms r.object k.object)) (first r.predicate k.predicate e g.predicate))
          (λ ne. ap (λ o. ordering_then o (number_cmp terms r.object k.object)) (same_tied r.predicate k.predicate (own_at r.predicate k.predicate ne f.predicate)) ∙ first r.object k.object none g.object)

      own_subject : r.subject ≢ no_number → key_cmp terms r k ≡ Less
      own_subject ne = ap (λ o. ordering_then o (ordering_then (number_cmp terms r.predicate k.predicate) (number_cmp terms r.object k.object))) (same_tied r.subject k.subject (own_at r.subject k.subject ne f.subject)) ∙ by_predicate

  -- a number between a number and itself is the same
  squeezed : (m n : ℕ) (u v : Ordering) → ordering_then (number_cmp terms m n) u ≢ Greater → ordering_then (number_cmp terms n m) v ≡ Less → (number_cmp terms m n ≡ Equal) × (u ≢ Greater) × (v ≡ Less)
  squeezed m n u v h k = by_answer (number_cmp terms m n) refl (nat_list_cmp_total.antisymm (text_at terms n) (text_at terms m))
    where
      by_answer : (o : Ordering) → number_cmp terms m n ≡ o → number_cmp terms n m ≡ ordering_reverse (number_cmp terms m n) → (number_cmp terms m n ≡ Equal) × (u ≢ Greater) × (v ≡ Less)
      by_answer Less e back = absurd (let bad : Greater ≡ Less = sym (ap (λ o. ordering_then o v) (back ∙ ap ordering_reverse e)) ∙ k in cc)
      by_answer Equal e back = (e, (λ g. h (ap (λ o. ordering_then o u) e ∙ g)), sym (ap (λ o. ordering_then o v) (back ∙ ap ordering_reverse e)) ∙ k)
      by_answer Greater e back = absurd (h (ap (λ o. ordering_then o u) e))

  -- at a place that is known, what is between has its number, and the next place decides
  level : (m n l : ℕ) (u v : Ordering) → m ≢ no_number → HasTerm terms n → HasTerm terms l → is_at m l ≡ true
      → ordering_then (number_cmp terms m n) u ≢ Greater → ordering_then (number_cmp terms n l) v ≡ Less → (is_at m n ≡ true) × (u ≢ Greater) × (v ≡ Less)
  level m n l u v ne hn hl at h k =
      let is : m ≡ l = own_at m l ne at in
      let s = squeezed m n u v h (ap (λ x. ordering_then (number_cmp terms n x) v) is ∙ k) in
      (at_own m n (tied_numbers terms m n distinct (subst (HasTerm terms) (sym is) hl) hn s.0), s.1, s.2)

  -- what is between a range and one of its keys is in the range
  pub between : (r k c : Key) → IsRange r → IsGiven terms k → IsGiven terms c → key_cmp terms r k ≢ Greater → key_cmp terms k c ≡ Less → key_in_range r c ≡ true → key_in_range r k ≡ true
  between r k c form gk gc low high h = known_or_not r.subject (key_in_range r k ≡ true)
      (λ e. in_by r k (record { subject = any_at r.subject k.subject e; predicate = any_at r.predicate k.predicate (form.predicate e); object = any_at r.object k.object (form.object (form.predicate e)) }))
      (λ ne. by_predicate (level r.subject k.subject c.subject (p r k) (p k c) ne gk.subject gc.subject f.subject low high))
    where
      f : Fits r c
      f = fits r c h

      p : Key → Key → Ordering
      p a b = ordering_then (number_cmp terms a.predicate b.predicate) (number_cmp terms a.object b.object)

      by_object : is_at r.subject k.subject ≡ true → (is_at r.predicate k.predicate ≡ true) × (number_cmp terms r.object k.object ≢ Greater) × (number_cmp terms k.object c.object ≡ Less) → key_in_range r k ≡ true
      by_object s q = known_or_not r.object (key_in_range r k ≡ true)
          (λ e. in_by r k (record { subject = s; predicate = q.0; object = any_at r.object k.object e }))
          (λ ne. absurd (q.1 (
          let is : r.object ≡ c.object = own_at r.object c.object ne f.object in
          nat_list_cmp_total.antisymm (text_at terms r.object) (text_at terms k.object) ∙ ap (λ x. ordering_reverse (number_cmp terms k.object x)) is ∙ ap ordering_reverse q.2
          )))

      by_predicate : (is_at r.subject k.subject ≡ true) × (p r k ≢ Greater) × (p k c ≡ Less) → key_in_range r k ≡ true
      by_predicate s = known_or_not r.predicate (key_in_range r k ≡ true)
          (λ e. in_by r k (record { subject = s.0; predicate = any_at r.predicate k.predicate e; object = any_at r.object k.object (form.object e) }))
          (λ ne. by_object s.0 (level r.predicate k.predicate c.predicate (number_cmp terms r.object k.object) (number_cmp terms k.object c.object) ne gk.predicate gc.predicate f.predicate s.1 s.2))

-- a range whose places are all known has its own key alone
pub only_key : (r k : Key) → IsRange r → r.object ≢ no_number → key_in_range r k ≡ true → r ≡ k
only_key r k form ne h =
    let f : Fits r k = fits r k h in
    let p_ne : r.predicate ≢ no_number = λ e. ne (form.object e) in
    let s_ne : r.subject ≢ no_number = λ e. p_ne (form.predicate e) in
    let s_is = own_at r.subject k.subject s_ne f.subject in
    let p_is = own_at r.predicate k.predicate p_ne f.predicate in
    let o_is = own_at r.object k.object ne f.object in
    λ i. record { subject = s_is i; predicate = p_is i; object = o_is i }

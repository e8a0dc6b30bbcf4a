-- Whether two lists have keys that go together hangs on the numbers known for their variables alone.
use Rattle.std.proofs.Common.{◌≡◌, ℕ, Bool, true, false, ◌||◌, cond, List, [], ◌∷◌, slice_get, Option, Some, None, refl, sym, ap, ◌∙◌, subst}
use Rattle.std.specs.declared.cmp.Ordering.{Ordering}
use Rattle.std.specs.declared.cmp.Ordering.TheVariants.{Less, Equal, Greater}
use Rattle.std.specs.Ordering.{nat_cmp, ordering_then, is_eq}
use Rattle.std.specs.Option.{option_cmp}
use Rattle.std.specs.BTreeMap.{BTreeMap, get, IsEmpty, Updates, is_at}
use Rattle.std.specs.Map.{lookup}
use Rattle.std.proofs.lemmas.Map.Lookups.{exact_unsigned}
use Rattle.std.proofs.lemmas.Slice.Eq.{bytes_eq-Decides}
use Rattle.gs_joins.specs.declared.sought.Item.{Item}
use Rattle.gs_joins.specs.declared.sought.Item.TheVariants.{Number, Variable}
use Rattle.gs_joins.specs.declared.sought.Sought.{Sought}
use Rattle.gs_joins.specs.declared.lots.Lot.{Lot}
use Rattle.gs_joins.specs.declared.questions.Places.{Places}
use Rattle.gs_joins.specs.declared.questions.Question.{Question}
use Rattle.gs_joins.specs.Numbers.{BoundNumbers, number_for}
use Rattle.gs_joins.specs.Values.{Values, HasAt}
use Rattle.gs_joins.specs.Choices.{has_choice}
use Rattle.gs_joins.specs.Links.{is_this_variable, has_variable, has_variable_at, one_has}
use Rattle.gs_joins.specs.Answers.{number_bound, places_of, places_in, question_of, places_cmp, question_cmp, IsAnswer}
use Rattle.gs_joins.proofs.ListLemmas.{all_by}
use Rattle.std.proofs.lemmas.List.Elements.{All-contains}
use Rattle.gs_joins.proofs.LinkLemmas.{has_at_is}
use Rattle.gs_joins.proofs.ValueLemmas.{Holds, values_of, holds_own}
use Rattle.gs_joins.proofs.ChoiceLemmas.{choice_sound, choice_complete}
use Rattle.gs_joins.proofs.GroupLemmas.{mixed, has_in}

-- the bindings have the same numbers for the variables of the patterns of these lists
abbrev pub Agree : List Lot → List ℕ → BoundNumbers → BoundNumbers → Type 0
Agree ls is b c = (x : List ℕ) → one_has ls is x ≡ true → number_for b x ≡ number_for c x

module _ (ls : List Lot) (is : List ℕ) where
  -- values for the one are changed to values for the other, at variables that the patterns do not have
  holds_other : (b c : BoundNumbers) (v : Values) → Agree ls is b c → Holds v b → Holds (mixed (one_has ls is) v (values_of c)) c
  holds_other b c v agree h x n e = by_test (one_has ls is x) refl
    where
      by_test : (r : Bool) → one_has ls is x ≡ r → mixed (one_has ls is) v (values_of c) x ≡ n
      by_test true t = ap (λ r. cond r (v x) (values_of c x)) t ∙ h x n (agree x t ∙ e)
      by_test false t = ap (λ r. cond r (v x) (values_of c x)) t ∙ holds_own c x n e

  -- where they go together under the one, they do under the other
  choice_over : (b c : BoundNumbers) → Agree ls is b c → has_choice ls is b ≡ true → has_choice ls is c ≡ true
  choice_over b c agree e =
      let (v, h, s) = choice_sound ls is b e in
      choice_complete ls (mixed (one_has ls is) v (values_of c)) is c (holds_other b c v agree h)
      (all_by (HasAt (mixed (one_has ls is) v (values_of c)) ls) is (λ i there. has_in ls is v (values_of c) i there (All-contains (HasAt v ls) is i s there)))

  -- so the answer is the same
  pub choice_same : (b c : BoundNumbers) → Agree ls is b c → has_choice ls is b ≡ has_choice ls is c
  choice_same b c agree = by_tests (has_choice ls is b) refl (has_choice ls is c) refl
    where
      by_tests : (x : Bool) → has_choice ls is b ≡ x → (y : Bool) → has_choice ls is c ≡ y → has_choice ls is b ≡ has_choice ls is c
      by_tests true e true f = e ∙ sym f
      by_tests true e false f = let bad : true ≡ false = sym (choice_over b c agree e) ∙ f in absurd (cc)
      by_tests false e true f = let bad : true ≡ false = sym (choice_over c b (λ x t. sym (agree x t)) f) ∙ e in absurd (cc)
      by_tests false e false f = e ∙ sym f

-- what is known at an item is what is known for its variable
item_agrees : (b c : BoundNumbers) (i : Item) (x : List ℕ) → number_bound b i ≡ number_bound c i → is_this_variable i x ≡ true → number_for b x ≡ number_for c x
item_agrees b c (Number n) x e t = absurd (cc)
item_agrees b c (Variable y) x e t =
    let same : y.now ≡ x = (bytes_eq-Decides y.now x).0 t in
    subst (λ z. number_for b z ≡ number_for c z) same e

-- one of three tests passes
one_of : (p q r : Bool) (P : Type 0) → (p || (q || r)) ≡ true → (p ≡ true → P) → (q ≡ true → P) → (r ≡ true → P) → P
one_of true q r P e f g h = f refl
one_of false true r P e f g h = g refl
one_of false false r P e f g h = h e

-- the same for the variables of a pattern
sought_agrees : (b c : BoundNumbers) (s : Sought) (x : List ℕ) → places_of b s ≡ places_of c s → has_variable s x ≡ true → number_for b x ≡ number_for c x
sought_agrees b c s x e t =
    one_of (is_this_variable s.subject x) (is_this_variable s.predicate x) (is_this_variable s.object x) (number_for b x ≡ number_for c x) t
    (item_agrees b c s.subject x (ap (λ (p : Places). p.subject) e))
    (item_agrees b c s.predicate x (ap (λ (p : Places). p.predicate) e))
    (item_agrees b c s.object x (ap (λ (p : Places). p.object) e))

-- and of a list
list_agrees : (ls : List Lot) (b c : BoundNumbers) (i : ℕ) (x : List ℕ) → places_in b (slice_get ls i) ≡ places_in c (slice_get ls i) → has_variable_at ls x i ≡ true → number_for b x ≡ number_for c x
list_agrees ls b c i x e t = by_list (slice_get ls i) refl e
  where
    by_list : (o : Option Lot) → slice_get ls i ≡ o → places_in b o ≡ places_in c o → number_for b x ≡ number_for c x
    by_list None at f = absurd (cc)
    by_list (Some l) at f = sought_agrees b c l.sought x f (sym (has_at_is ls i l x at) ∙ t)

-- the bindings under which a question is the same agree
pub questions_agree : (ls : List Lot) (b c : BoundNumbers) (i j : ℕ) → question_of ls b i j ≡ question_of ls c i j → Agree ls (i ∷ j ∷ []) b c
questions_agree ls b c i j e x t = by_test (has_variable_at ls x i) refl t
  where
    by_test : (r : Bool) → has_variable_at ls x i ≡ r → (r || (has_variable_at ls x j || false)) ≡ true → number_for b x ≡ number_for c x
    by_test true f t = list_agrees ls b c i x (ap (λ (q : Question). q.of_first) e) f
    by_test false f t = by_second (has_variable_at ls x j) refl t
      where
        by_second : (r : Bool) → has_variable_at ls x j ≡ r → (r || false) ≡ true → number_for b x ≡ number_for c x
        by_second true g t = list_agrees ls b c j x (ap (λ (q : Question). q.of_second) e) g
        by_second false g t = absurd (cc)

-- what was found is the answer to the question
pub answer_is : (ls : List Lot) (b : BoundNumbers) (i j : ℕ) (q : Question) (found : Bool) → q ≡ question_of ls b i j → found ≡ has_choice ls (i ∷ j ∷ []) b → IsAnswer ls q found
answer_is ls b i j q found is e =
    subst (λ z. IsAnswer ls z found) (sym is) (λ c same. e ∙ choice_same ls (i ∷ j ∷ []) b c (questions_agree ls b c i j (sym same)))

-- an order that tells all values apart
abbrev pub IsExact : {K : Type 0} → (K → K → Ordering) → Type 0
IsExact {K} R = (x y : K) → R x y ≡ Equal → x ≡ y

-- both of two tests are equal
both_equal : (o p : Ordering) → ordering_then o p ≡ Equal → (o ≡ Equal) × (p ≡ Equal)
both_equal Less p e = absurd (cc)
both_equal Equal p e = (refl, e)
both_equal Greater p e = absurd (cc)

-- what is known is told apart
exact_known : IsExact (option_cmp nat_cmp)
exact_known None None e = refl
exact_known None (Some n) e = absurd (cc)
exact_known (Some m) None e = absurd (cc)
exact_known (Some m) (Some n) e = ap (λ k. Some k) (exact_unsigned m n e)

-- so are places
exact_places : IsExact places_cmp
exact_places p q e =
    let first = both_equal (option_cmp nat_cmp p.subject q.subject) (ordering_then (option_cmp nat_cmp p.predicate q.predicate) (option_cmp nat_cmp p.object q.object)) e in
    let rest = both_equal (option_cmp nat_cmp p.predicate q.predicate) (option_cmp nat_cmp p.object q.object) first.1 in
    let by_subject : Option ℕ → Places = λ n. record { subject = n; predicate = p.predicate; object = p.object } in
    let by_predicate : Option ℕ → Places = λ n. record { subject = q.subject; predicate = n; object = p.object } in
    let by_object : Option ℕ → Places = λ n. record { subject = q.subject; predicate = q.predicate; object = n } in
    ap by_subject (exact_known p.subject q.subject first.0) ∙ ap by_predicate (exact_known p.predicate q.predicate rest.0) ∙ ap by_object (exact_known p.object q.object rest.1)

-- and questions
pub exact_questions : IsExact question_cmp
exact_questions p q e =
    let first = both_equal (nat_cmp p.first q.first) (ordering_then (nat_cmp p.second q.second) (ordering_then (places_cmp p.of_first q.of_first) (places_cmp p.of_second q.of_second))) e in
    let second = both_equal (nat_cmp p.second q.second) (ordering_then (places_cmp p.of_first q.of_first) (places_cmp p.of_second q.of_second)) first.1 in
    let places = both_equal (places_cmp p.of_first q.of_first) (places_cmp p.of_second q.of_second) second.1 in
    let by_first : ℕ → Question = λ n. record { first = n; second = p.second; of_first = p.of_first; of_second = p.of_second } in
    let by_second : ℕ → Question = λ n. record { first = q.first; second = n; of_first = p.of_first; of_second = p.of_second } in
    let by_of_first : Places → Question = λ n. record { first = q.first; second = q.second; of_first = n; of_second = p.of_second } in
    let by_of_second : Places → Question = λ n. record { first = q.first; second = q.second; of_first = q.of_first; of_second = n } in
    ap by_first (exact_unsigned p.first q.first first.0) ∙ ap by_second (exact_unsigned p.second q.second second.0)
    ∙ ap by_of_first (exact_places p.of_first q.of_first places.0) ∙ ap by_of_second (exact_places p.of_second q.of_second places.1)

-- what is kept in a map are answers
abbrev pub AllRight : List Lot → BTreeMap Question Bool → Type 0
AllRight ls m = (q : Question) (found : Bool) → get question_cmp m q ≡ Some found → IsAnswer ls q found

-- where nothing is kept
pub none_right : (ls : List Lot) (m : BTreeMap Question Bool) → IsEmpty m → AllRight ls m
none_right ls m none q found e = let bad : None ≡ Some found = sym (ap (lookup (is_at (question_cmp q))) none) ∙ e in absurd (cc)

-- a test that two are equal
is_equal : (o : Ordering) → is_eq o ≡ true → o ≡ Equal
is_equal Less e = absurd (cc)
is_equal Equal e = refl
is_equal Greater e = absurd (cc)

-- one answer more
pub right_more : (ls : List Lot) (old new : BTreeMap Question Bool) (k : Question) (v : Bool) → AllRight ls old → IsAnswer ls k v → Updates question_cmp old new k (Some v) → AllRight ls new
right_more ls old new k v right answer updates q found e = by_test (is_at (question_cmp k) q) refl (sym (updates.0 q) ∙ e)
  where
    by_test : (r : Bool) → is_at (question_cmp k) q ≡ r → cond r (Some v) (get question_cmp old q) ≡ Some found → IsAnswer ls q found
    by_test true t f =
        let own : v ≡ found = cc in
        subst (λ z. IsAnswer ls z found) (exact_questions k q (is_equal (question_cmp k q) t)) (subst (IsAnswer ls k) own answer)
    by_test false t f = right q found f

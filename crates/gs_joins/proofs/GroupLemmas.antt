-- Lists that share no variable are solved apart: values for the ones and values for the others are put together.
use Rattle.std.proofs.Common.{◌≡◌, ◌≤◌, ◌<◌, ℕ, Bool, true, false, ◌||◌, cond, nat_eq, List, [], ◌∷◌, ◌++◌, length, take, drop, get_or, slice_get, Option, Some, None, MatchOption, Result, Ok, Err, IfOk, refl, sym, ap, ◌∙◌, subst, inl, inr, arith}
use Rattle.std.specs.Bool.{Decides}
use Rattle.std.specs.List.{Contains}
use Rattle.std.specs.List.Sorted.{IsPermutation}
use Rattle.std.proofs.lemmas.Bool.Decides.{nat_tests}
use Rattle.std.proofs.lemmas.Slice.Eq.{bytes_eq-Decides}
use Rattle.std.proofs.lemmas.List.Elements.{All-nil, All-append, All-contains, All-get_or, All-take, All-drop}
use Rattle.std.proofs.lemmas.List.Sorted.{All-permutation, Contains-permutation, IsPermutation-sym}
use Rattle.std.proofs.lemmas.Option.{slice_get-get_or, slice_get_cases}
use Rattle.std.proofs.lemmas.List.{take-append-drop}
use Rattle.gs_joins.specs.declared.sought.Item.{Item}
use Rattle.gs_joins.specs.declared.sought.Item.TheVariants.{Number, Variable}
use Rattle.gs_joins.specs.declared.sought.Sought.{Sought}
use Rattle.gs_joins.specs.declared.lots.Lot.{Lot}
use Rattle.gs_joins.specs.Values.{Values, value_of, key_of, Has, HasAt, Solves, SolvesAt, HasSolution}
use Rattle.gs_joins.specs.Choices.{AreAll, has_choice}
use Rattle.gs_joins.specs.Links.{is_this_variable, has_variable, has_variable_at, one_has, IsApart}
use Rattle.gs_joins.proofs.ListLemmas.{get_or_any, all_by, any_has}
use Rattle.gs_joins.proofs.ValueLemmas.{holds_none, values_of, same_key}
use Rattle.gs_joins.proofs.ChoiceLemmas.{choice_sound, choice_complete}
use Rattle.gs_joins.proofs.LinkLemmas.{has_at_is}

-- values of the one kind for the variables that pass a test, and of the other for the others
abbrev pub mixed : (List ℕ → Bool) → Values → Values → Values
mixed h v w x = cond (h x) (v x) (w x)

-- where one of three tests passes
first_of : (a b c : Bool) → a ≡ true → (a || (b || c)) ≡ true
first_of true b c e = refl
first_of false b c e = absurd (cc)

-- the second
second_of : (a b c : Bool) → b ≡ true → (a || (b || c)) ≡ true
second_of true b c e = refl
second_of false true c e = refl
second_of false false c e = absurd (cc)

-- and the third
third_of : (a b c : Bool) → c ≡ true → (a || (b || c)) ≡ true
third_of true b c e = refl
third_of false true c e = refl
third_of false false c e = e

module _ (h : List ℕ → Bool) (v w : Values) where
  -- an item whose variable passes
  item_in : (i : Item) → ((x : List ℕ) → is_this_variable i x ≡ true → h x ≡ true) → value_of (mixed h v w) i ≡ value_of v i
  item_in (Number n) all = refl
  item_in (Variable x) all = ap (λ b. cond b (v x.now) (w x.now)) (all x.now ((bytes_eq-Decides x.now x.now).1 refl))

  -- and one whose variable does not
  item_out : (i : Item) → ((x : List ℕ) → is_this_variable i x ≡ true → h x ≡ false) → value_of (mixed h v w) i ≡ value_of w i
  item_out (Number n) all = refl
  item_out (Variable x) all = ap (λ b. cond b (v x.now) (w x.now)) (all x.now ((bytes_eq-Decides x.now x.now).1 refl))

  -- the same of a pattern
  pub key_in : (s : Sought) → ((x : List ℕ) → has_variable s x ≡ true → h x ≡ true) → key_of (mixed h v w) s ≡ key_of v s
  key_in s all = same_key (key_of (mixed h v w) s) (key_of v s)
      (item_in s.subject (λ x e. all x (first_of (is_this_variable s.subject x) (is_this_variable s.predicate x) (is_this_variable s.object x) e)))
      (item_in s.predicate (λ x e. all x (second_of (is_this_variable s.subject x) (is_this_variable s.predicate x) (is_this_variable s.object x) e)))
      (item_in s.object (λ x e. all x (third_of (is_this_variable s.subject x) (is_this_variable s.predicate x) (is_this_variable s.object x) e)))

  -- and where none of its variables passes
  pub key_out : (s : Sought) → ((x : List ℕ) → has_variable s x ≡ true → h x ≡ false) → key_of (mixed h v w) s ≡ key_of w s
  key_out s all = same_key (key_of (mixed h v w) s) (key_of w s)
      (item_out s.subject (λ x e. all x (first_of (is_this_variable s.subject x) (is_this_variable s.predicate x) (is_this_variable s.object x) e)))
      (item_out s.predicate (λ x e. all x (second_of (is_this_variable s.subject x) (is_this_variable s.predicate x) (is_this_variable s.object x) e)))
      (item_out s.object (λ x e. all x (third_of (is_this_variable s.subject x) (is_this_variable s.predicate x) (is_this_variable s.object x) e)))

module _ (ls : List Lot) where
  -- a list of one of these numbers
  pub has_in : (front : List ℕ) (v w : Values) (i : ℕ) → Contains front i → HasAt v ls i → HasAt (mixed (one_has ls front) v w) ls i
  has_in front v w i there has = by_list (slice_get ls i) refl has
    where
      by_list : (o : Option Lot) → slice_get ls i ≡ o → MatchOption o (Unit {0}) (Has v) → MatchOption (slice_get ls i) (Unit {0}) (Has (mixed (one_has ls front) v w))
      by_list None at has = subst (λ o. MatchOption o (Unit {0}) (Has (mixed (one_has ls front) v w))) (sym at) tt
      by_list (Some l) at has =
          subst (λ o. MatchOption o (Unit {0}) (Has (mixed (one_has ls front) v w))) (sym at)
          (subst (Contains l.keys.items) (sym (key_in (one_has ls front) v w l.sought (λ x e. any_has (has_variable_at ls x) front i there (has_at_is ls i l x at ∙ e)))) has)

  -- a variable of the others is none of theirs
  not_in : (front rest : List ℕ) → IsApart (one_has ls front) (one_has ls rest) → (x : List ℕ) → one_has ls rest x ≡ true → one_has ls front x ≡ false
  not_in front rest apart x e = by_test (one_has ls front x) refl
    where
      by_test : (b : Bool) → one_has ls front x ≡ b → one_has ls front x ≡ false
      by_test true f = let bad : true ≡ false = sym e ∙ apart.other x f in absurd (cc)
      by_test false f = f

  -- a list of one of the others
  has_out : (front rest : List ℕ) (v w : Values) → IsApart (one_has ls front) (one_has ls rest) → (i : ℕ) → Contains rest i → HasAt w ls i → HasAt (mixed (one_has ls front) v w) ls i
  has_out front rest v w apart i there has = by_list (slice_get ls i) refl has
    where
      by_list : (o : Option Lot) → slice_get ls i ≡ o → MatchOption o (Unit {0}) (Has w) → MatchOption (slice_get ls i) (Unit {0}) (Has (mixed (one_has ls front) v w))
      by_list None at has = subst (λ o. MatchOption o (Unit {0}) (Has (mixed (one_has ls front) v w))) (sym at) tt
      by_list (Some l) at has =
          subst (λ o. MatchOption o (Unit {0}) (Has (mixed (one_has ls front) v w))) (sym at)
          (subst (Contains l.keys.items) (sym (key_out (one_has ls front) v w l.sought (λ x e. not_in front rest apart x (any_has (has_variable_at ls x) rest i there (has_at_is ls i l x at ∙ e))))) has)

  -- values for both
  pub solves_both : (front rest : List ℕ) (v w : Values) → IsApart (one_has ls front) (one_has ls rest) → SolvesAt v ls front → SolvesAt w ls rest → SolvesAt (mixed (one_has ls front) v w) ls (front ++ rest)
  solves_both front rest v w apart sv sw =
      All-append (HasAt (mixed (one_has ls front) v w) ls) front rest
      (all_by (HasAt (mixed (one_has ls front) v w) ls) front (λ i there. has_in front v w i there (All-contains (HasAt v ls) front i sv there)))
      (all_by (HasAt (mixed (one_has ls front) v w) ls) rest (λ i there. has_out front rest v w apart i there (All-contains (HasAt w ls) rest i sw there)))

  -- the lists are solved where each is
  pub solves_each : (v : Values) (i : ℕ) → Solves v ls → HasAt v ls i
  solves_each v i s = elim (slice_get_cases ls i).1 [
    | inl found ↦ let (l, within, at, is) = found in subst (λ o. MatchOption o (Unit {0}) (Has v)) (sym at) (subst (Has v) is (All-get_or (Has v) ls i l within s))
    | inr past ↦ subst (λ o. MatchOption o (Unit {0}) (Has v)) (sym past.1) tt
  ]

  -- so any of them are
  pub solves_some : (v : Values) (is : List ℕ) → Solves v ls → SolvesAt v ls is
  solves_some v is s = all_by (HasAt v ls) is (λ i there. solves_each v i s)

  -- and the other way round
  pub solves_all : (v : Values) (is : List ℕ) → AreAll ls is → SolvesAt v ls is → Solves v ls
  solves_all v is all s k d within = subst (λ o. MatchOption o (Unit {0}) (Has v)) (slice_get-get_or ls k d within) (All-contains (HasAt v ls) is k s (all.all k within))

  -- where the first do not stand together, all do not
  pub none_stand : (old new group : List ℕ) (many : ℕ) → IsPermutation old new → group ≡ take many new → false ≡ has_choice ls group [] → Decides false (HasSolution ls old)
  none_stand old new group many same is none = (
    (λ e. absurd (cc)),
    λ (v, s). none ∙ choice_complete ls v group [] (holds_none v)
        (subst (SolvesAt v ls) (sym is) (All-take (HasAt v ls) many new (All-permutation (HasAt v ls) old new same s))),
  )

  -- where they do, the others decide
  pub rest_stand : (old new group rest : List ℕ) (many : ℕ) (found : Bool) → IsPermutation old new → group ≡ take many new → rest ≡ drop many new
      → IsApart (one_has ls (take many new)) (one_has ls (drop many new)) → true ≡ has_choice ls group [] → Decides found (HasSolution ls rest) → Decides found (HasSolution ls old)
  rest_stand old new group rest many found same is_group is_rest apart stands decides = (forth, back)
    where
      forth : found ≡ true → HasSolution ls old
      forth e =
          let (v, hv, sv) = choice_sound ls group [] (sym stands) in
          let (w, sw) = decides.0 e in (
            mixed (one_has ls (take many new)) v w,
            All-permutation (HasAt (mixed (one_has ls (take many new)) v w) ls) new old (IsPermutation-sym old new same)
                (subst (SolvesAt (mixed (one_has ls (take many new)) v w) ls) (take-append-drop many new)
                (solves_both (take many new) (drop many new) v w apart (subst (SolvesAt v ls) is_group sv) (subst (SolvesAt w ls) is_rest sw))),
          )

      back : HasSolution ls old → found ≡ true
      back (v, s) = decides.1 (v, subst (SolvesAt v ls) (sym is_rest) (All-drop (HasAt v ls) many new (All-permutation (HasAt v ls) old new same s)))

  -- the numbers from none on
  pub all_numbers : (is : List ℕ) (n : ℕ) → length is ≡ n → length ls ≤ n → n ≤ length ls → ((j : ℕ) → j < n → get_or is j 0 ≡ j) → AreAll ls is
  all_numbers is n long low high each = record {
    within = λ k d inside. let e : get_or is k d ≡ k = get_or_any is k d 0 inside ∙ each k (omega arith) in omega (arith, e);
    all = λ i inside. let here : i < length is = omega arith in (i, here, get_or_any is i i 0 here ∙ each i (omega arith));
  }

  -- in another order
  pub all_moved : (is js : List ℕ) → IsPermutation is js → AreAll ls is → AreAll ls js
  all_moved is js same all = record {
    within = All-permutation (λ i. i < length ls) is js same all.within;
    all = λ i inside. Contains-permutation is js i same (all.all i inside);
  }

-- an answer, if there is one, as another says it
pub if_ok : {T E : Type 0} (r : Result T E) (P Q : T → Type 0) → ((x : T) → P x → Q x) → IfOk r P → IfOk r Q
if_ok (Ok x) P Q f h = f x h
if_ok (Err e) P Q f h = tt

-- no lists are solved by any values
pub none_left : (ls : List Lot) (is : List ℕ) → true ≡ nat_eq (length is) 0 → Decides true (HasSolution ls is)
none_left ls [] e = ((λ _. (values_of [], All-nil (HasAt (values_of []) ls))), λ _. refl)
none_left ls (i ∷ is) e = absurd (grind (arith, nat_tests))

-- some are left
pub some_left : (is : List ℕ) → false ≡ nat_eq (length is) 0 → 0 < length is
some_left [] e = absurd (grind (arith, nat_tests))
some_left (i ∷ is) e = omega arith

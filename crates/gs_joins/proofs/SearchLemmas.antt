-- How a search for keys that go together goes on, and what it answers.
use Rattle.std.proofs.Common.{◌≡◌, ◌≤◌, ◌<◌, ◌+◌, ℕ, Bool, true, false, ◌||◌, List, ◌∷◌, ◌++◌, length, take, get_or, slice_get, Some, sym, ap, ◌∙◌}
use Rattle.std.specs.List.{list_any}
use Rattle.std.proofs.lemmas.List.{take_all}
use Rattle.std.proofs.lemmas.List.Folds.{list_any_at, list_any_more}
use Rattle.std.proofs.Math.Seq.{take-append_seam}
use Rattle.std.specs.List.Sorted.{IsPermutation}
use Rattle.gs_joins.proofs.ChoiceLemmas.{choice_permuted}
use Rattle.gs_pool.specs.declared.nodes.Key.{Key}
use Rattle.gs_joins.specs.declared.sought.Sought.{Sought}
use Rattle.gs_joins.specs.declared.bindings.Bound.{Bound}
use Rattle.gs_joins.specs.declared.lots.Lot.{Lot}
use Rattle.gs_joins.specs.Numbers.{numbers_of, bind_key, BindsMore, Chooses}
use Rattle.gs_joins.specs.Lots.{Serves}
use Rattle.gs_joins.specs.Choices.{goes_if, goes_on_in, goes_at, has_choice, Searches}

-- what was bound besides is let go
pub truncated : (old now mid last new : List Bound) (n : ℕ) → now ≡ old → BindsMore now mid → last ≡ mid → n ≡ length old → new ≡ take n last → new ≡ old
truncated old now mid last new n same more kept at cut =
    cut ∙ ap (λ m. take m last) at ∙ ap (take (length old)) (kept ∙ more.parts ∙ ap (λ bs. bs ++ more.more) same) ∙ take-append_seam old more.more

module _ (ls : List Lot) (is : List ℕ) (s : Sought) (k : Key) where
  -- where a key is chosen, the others are searched
  pub goes_chosen : (old now mid : List Bound) → now ≡ old → Chooses now mid s k true → goes_at ls is (numbers_of old) s k ≡ has_choice ls is (numbers_of mid)
  goes_chosen old now mid same h = ap (goes_if (has_choice ls is)) (sym (ap (λ bs. bind_key (numbers_of bs) s k) same) ∙ h.1)

  -- and else it does not go on
  pub goes_not : (old now mid : List Bound) → now ≡ old → Chooses now mid s k false → goes_at ls is (numbers_of old) s k ≡ false
  goes_not old now mid same h = ap (goes_if (has_choice ls is)) (sym (ap (λ bs. bind_key (numbers_of bs) s k) same) ∙ h.1)

module _ (ls : List Lot) (i : ℕ) (is : List ℕ) (old new : List Bound) (l : Lot) (near : List Key) (at : slice_get ls i ≡ Some l) (serves : Serves (numbers_of old) l near) (same : new ≡ old) where
  -- the answer is that of the keys near what is bound
  answer_is : has_choice ls (i ∷ is) (numbers_of old) ≡ list_any (goes_at ls is (numbers_of old) l.sought) near
  answer_is = ap (λ o. goes_on_in o (has_choice ls is) (numbers_of old)) at ∙ sym (serves (goes_at ls is (numbers_of old) l.sought) (λ k e. ap (goes_if (has_choice ls is)) e))

  -- one that goes on
  pub searches_true : (n : ℕ) (d : Key) → n < length near → goes_at ls is (numbers_of old) l.sought (get_or near n d) ≡ true → Searches ls (i ∷ is) old new true
  searches_true n d within passes = record { bound = same; answer = sym (answer_is ∙ list_any_at (goes_at ls is (numbers_of old) l.sought) near n d within passes) }

  -- none that does
  pub searches_false : (n : ℕ) → length near ≤ n → list_any (goes_at ls is (numbers_of old) l.sought) (take n near) ≡ false → Searches ls (i ∷ is) old new false
  searches_false n all none = record { bound = same; answer = sym (answer_is ∙ ap (list_any (goes_at ls is (numbers_of old) l.sought)) (sym (take_all n near all)) ∙ none) }

-- one more that does not go on
pub none_more : (p : Key → Bool) (near : List Key) (n : ℕ) (d : Key) → n < length near → list_any p (take n near) ≡ false → p (get_or near n d) ≡ false → list_any p (take (n + 1) near) ≡ false
none_more p near n d within none fails = list_any_more p near n d within ∙ ap (λ b. b || p (get_or near n d)) none ∙ fails

-- the answer is the same in another order
pub searches_moved : (ls : List Lot) (is js : List ℕ) (old new : List Bound) (found : Bool) → IsPermutation is js → Searches ls js old new found → Searches ls is old new found
searches_moved ls is js old new found same h = record { bound = h.bound; answer = h.answer ∙ sym (choice_permuted ls is js (numbers_of old) same) }

-- Keys that go together are the instances under some values.
use Rattle.std.proofs.Common.{◌≡◌, ℕ, true, List, [], ◌∷◌, slice_get, Option, Some, None, refl, sym, ap, ◌∙◌, subst, Bool, false}
use Rattle.std.specs.List.{Contains}
use Rattle.std.proofs.lemmas.List.Elements.{All-nil, All-cons, All-head, All-tail}
use Rattle.std.specs.List.Sorted.{IsPermutation}
use Rattle.std.proofs.lemmas.List.Sorted.{All-permutation, IsPermutation-sym}
use Rattle.gs_pool.specs.declared.nodes.Key.{Key}
use Rattle.gs_joins.specs.declared.sought.Sought.{Sought}
use Rattle.gs_joins.specs.declared.lots.Lot.{Lot}
use Rattle.gs_joins.specs.Numbers.{BoundNumbers, bind_key}
use Rattle.gs_joins.specs.Values.{Values, key_of, HasAt, SolvesAt}
use Rattle.gs_joins.specs.Choices.{goes_if, goes_on_in, goes_at, has_choice}
use Rattle.gs_joins.proofs.ListLemmas.{any_has, any_some}
use Rattle.gs_joins.proofs.ValueLemmas.{Holds, values_of, holds_own, key_complete, key_sound}

module _ (ls : List Lot) where
  -- where the lists have keys that go together, there are such values
  pub choice_sound : (is : List ℕ) (b : BoundNumbers) → has_choice ls is b ≡ true → (v : Values) × Holds v b × SolvesAt v ls is
  choice_sound [] b e = (values_of b, holds_own b, All-nil (HasAt (values_of b) ls))
  choice_sound (i ∷ is) b e = by_list (slice_get ls i) refl e (choice_sound is)
    where
      by_list : (o : Option Lot) → slice_get ls i ≡ o → goes_on_in o (has_choice ls is) b ≡ true
          → ((c : BoundNumbers) → has_choice ls is c ≡ true → (v : Values) × Holds v c × SolvesAt v ls is)
          → (v : Values) × Holds v b × SolvesAt v ls (i ∷ is)
      by_list None at e again =
          let (v, h, s) = again b e in
          (v, h, All-cons (HasAt v ls) i is (rw at tt) s)
      by_list (Some l) at e again =
          let (k, there, passes) = any_some (goes_at ls is b l.sought) l.keys.items e in
          by_bound k there (bind_key b l.sought k) refl passes
        where
          by_bound : (k : Key) → Contains l.keys.items k → (o : Option BoundNumbers) → bind_key b l.sought k ≡ o → goes_if (has_choice ls is) o ≡ true → (v : Values) × Holds v b × SolvesAt v ls (i ∷ is)
          by_bound k there None f passes = absurd (cc)
          by_bound k there (Some c) f passes =
              let (v, h, s) = again c passes in
              let both = key_sound v b c l.sought k f h in
              (v, both.0, All-cons (HasAt v ls) i is (rw at (subst (Contains l.keys.items) (sym both.1) there)) s)

  -- and the other way round
  pub choice_complete : (v : Values) (is : List ℕ) (b : BoundNumbers) → Holds v b → SolvesAt v ls is → has_choice ls is b ≡ true
  choice_complete v [] b h s = refl
  choice_complete v (i ∷ is) b h s = by_list (slice_get ls i) refl (choice_complete v is) (All-head (HasAt v ls) i is s) (All-tail (HasAt v ls) i is s)
    where
      by_list : (o : Option Lot) → slice_get ls i ≡ o → ((c : BoundNumbers) → Holds v c → SolvesAt v ls is → has_choice ls is c ≡ true) → HasAt v ls i → SolvesAt v ls is → goes_on_in o (has_choice ls is) b ≡ true
      by_list None at again has rest = again b h rest
      by_list (Some l) at again has rest =
          let (c, e, hc) = key_complete v b l.sought h in
          any_has (goes_at ls is b l.sought) l.keys.items (key_of v l.sought) (rw at at has) (ap (goes_if (has_choice ls is)) e ∙ again c hc rest)

  -- in another order they have keys that go together where they had
  pub choice_permuted : (is js : List ℕ) (b : BoundNumbers) → IsPermutation is js → has_choice ls is b ≡ has_choice ls js b
  choice_permuted is js b same = by_tests (has_choice ls is b) refl (has_choice ls js b) refl
    where
      over : (us vs : List ℕ) → IsPermutation us vs → has_choice ls us b ≡ true → has_choice ls vs b ≡ true
      over us vs p e = let (v, h, s) = choice_sound us b e in choice_complete v vs b h (All-permutation (HasAt v ls) us vs p s)

      by_tests : (x : Bool) → has_choice ls is b ≡ x → (y : Bool) → has_choice ls js b ≡ y → has_choice ls is b ≡ has_choice ls js b
      by_tests true e true h = e ∙ sym h
      by_tests true e false h = let bad : true ≡ false = sym (over is js same e) ∙ h in absurd (cc)
      by_tests false e true h = let bad : true ≡ false = sym (over js is (IsPermutation-sym is js same) h) ∙ e in absurd (cc)
      by_tests false e false h = e ∙ sym h

-- A key is kept exactly where it is the pattern's instance under a solution of all lists.
use Rattle.std.proofs.Common.{◌≡◌, ◌≤◌, ◌-◌, ℕ, zero, suc, true, false, List, [], ◌∷◌, length, take, drop, slice_get, Option, Some, None, MatchOption, refl, sym, ap, ◌∙◌, subst, length-drop, arith}
use Rattle.std.specs.Bool.{Decides}
use Rattle.std.specs.List.{filter, Contains}
use Rattle.std.proofs.lemmas.List.{take_all, take-append-drop}
use Rattle.std.proofs.lemmas.List.Elements.{All-cons}
use Rattle.gs_pool.specs.declared.nodes.Key.{Key}
use Rattle.gs_joins.specs.declared.lots.Lot.{Lot}
use Rattle.gs_joins.specs.Numbers.{BoundNumbers, bind_key}
use Rattle.gs_joins.specs.Values.{Values, key_of, Has, HasAt, Solves, SolvesAt, HasSolution, KeepsAllKeys, KeepsAt}
use Rattle.gs_joins.specs.Choices.{AreAll, goes_if, goes_at, has_choice, KeepsThose}
use Rattle.gs_joins.specs.Links.{has_variable_at, one_has, Gathers}
use Rattle.gs_joins.proofs.ListLemmas.{contains_none, contains_head, any_has, filter_has, filter_some}
use Rattle.gs_joins.proofs.ValueLemmas.{holds_none, key_complete, key_sound}
use Rattle.gs_joins.proofs.ChoiceLemmas.{choice_sound, choice_complete}
use Rattle.gs_joins.proofs.LinkLemmas.{has_at_is}
use Rattle.gs_joins.proofs.GroupLemmas.{mixed, key_in, solves_both, solves_each, solves_some, solves_all, all_moved}

-- the first number, and those after it
pub front_is : (order : List ℕ) (at many : ℕ) → take 1 order ≡ at ∷ [] → 1 ≤ many → take many order ≡ at ∷ drop 1 (take many order)
front_is [] at many first some = absurd (cc)
front_is (i ∷ order) at zero first some = absurd (omega arith)
front_is (i ∷ order) at (suc many) first some = ap (λ j. j ∷ take many order) (head_is i at first)
  where
    head_is : (a b : ℕ) → a ∷ [] ≡ b ∷ [] → a ≡ b
    head_is a b e = cc

-- a slice from its second element on
pub without_first : (is group : List ℕ) → group ≡ is → take (length group - 1) (drop 1 group) ≡ drop 1 is
without_first is group e = take_all (length group - 1) (drop 1 group) (omega (arith, length-drop 1 group)) ∙ ap (drop 1) e

module _ (ls : List Lot) (at : ℕ) (l : Lot) (own : slice_get ls at ≡ Some l) (old new : List ℕ) (many : ℕ) (all : AreAll ls old) (first : take 1 old ≡ at ∷ []) (gathers : Gathers ls old new many) where
  -- the numbers in front
  group_is : take many new ≡ at ∷ drop 1 (take many new)
  group_is = front_is new at many (gathers.first ∙ first) gathers.some

  -- where the others do not stand, nothing is kept
  pub keeps_no : (rest : List ℕ) → Decides false (HasSolution ls rest) → KeepsAllKeys ls l.sought []
  keeps_no rest decides = record {
    sound = λ k there. absurd (contains_none k there);
    complete = λ v s. let bad : false ≡ true = decides.1 (v, solves_some ls v rest s) in absurd (cc);
  }

  -- where they do, those are kept that go with keys of the lists in front
  pub keeps_those : (others : List ℕ) (rest : List ℕ) (kept : List Key) → others ≡ drop 1 (take many new) → rest ≡ drop many new → Decides true (HasSolution ls rest)
      → kept ≡ filter (goes_at ls others [] l.sought) l.keys.items → KeepsAllKeys ls l.sought kept
  keeps_those others rest kept is_others is_rest decides is_kept = record { sound = sound; complete = complete }
    where
      by_bound : (k : Key) → Contains l.keys.items k → (o : Option BoundNumbers) → bind_key [] l.sought k ≡ o → goes_if (has_choice ls others) o ≡ true → (v : Values) × Solves v ls × (key_of v l.sought ≡ k)
      by_bound k there None e passes = absurd (cc)
      by_bound k there (Some c) e passes =
          let (v, hv, sv) = choice_sound ls others c passes in
          let both = key_sound v [] c l.sought k e hv in
          let (w, sw) = decides.0 refl in
          let here : HasAt v ls at = subst (λ o. MatchOption o (Unit {0}) (Has v)) (sym own) (subst (Contains l.keys.items) (sym both.1) there) in
          let front : SolvesAt v ls (take many new) = subst (SolvesAt v ls) (sym (group_is ∙ ap (λ os. at ∷ os) (sym is_others))) (All-cons (HasAt v ls) at others here sv) in
          let u : Values = mixed (one_has ls (take many new)) v w in
          let solved : SolvesAt u ls new = subst (SolvesAt u ls) (take-append-drop many new) (solves_both ls (take many new) (drop many new) v w gathers.apart front (subst (SolvesAt w ls) is_rest sw)) in
          let inside : Contains (take many new) at = subst (λ js. Contains js at) (sym group_is) (contains_head at (drop 1 (take many new))) in (
            u,
            solves_all ls u new (all_moved ls old new gathers.same all) solved,
            key_in (one_has ls (take many new)) v w l.sought (λ x f. any_has (has_variable_at ls x) (take many new) at inside (has_at_is ls at l x own ∙ f)) ∙ both.1,
          )

      sound : (k : Key) → Contains kept k → (v : Values) × Solves v ls × (key_of v l.sought ≡ k)
      sound k there =
          let both = filter_some (goes_at ls others [] l.sought) l.keys.items k (subst (λ ks. Contains ks k) is_kept there) in
          by_bound k both.0 (bind_key [] l.sought k) refl both.1

      complete : (v : Values) → Solves v ls → Contains kept (key_of v l.sought)
      complete v s =
          let here : Contains l.keys.items (key_of v l.sought) = subst (λ o. MatchOption o (Unit {0}) (Has v)) own (solves_each ls v at s) in
          let (c, e, hc) = key_complete v [] l.sought (holds_none v) in
          subst (λ ks. Contains ks (key_of v l.sought)) (sym is_kept)
          (filter_has (goes_at ls others [] l.sought) l.keys.items (key_of v l.sought) here (ap (goes_if (has_choice ls others)) e ∙ choice_complete ls v others c hc (solves_some ls v others s)))

module _ (ls : List Lot) (at : ℕ) (old new : List ℕ) (many : ℕ) (all : AreAll ls old) (first : take 1 old ≡ at ∷ []) (gathers : Gathers ls old new many) where
  -- the same of the list of this number
  pub keeps_no_at : (rest : List ℕ) → Decides false (HasSolution ls rest) → KeepsAt ls at []
  keeps_no_at rest decides = by_list (slice_get ls at) refl
    where
      by_list : (o : Option Lot) → slice_get ls at ≡ o → MatchOption o (Unit {0}) (λ (l : Lot). KeepsAllKeys ls l.sought [])
      by_list None e = tt
      by_list (Some l) e = keeps_no ls at l e old new many all first gathers rest decides

  -- and where the others stand
  pub keeps_those_at : (others : List ℕ) (rest : List ℕ) (kept : List Key) → others ≡ drop 1 (take many new) → rest ≡ drop many new → Decides true (HasSolution ls rest)
      → KeepsThose ls at others kept → KeepsAt ls at kept
  keeps_those_at others rest kept is_others is_rest decides is_kept = by_list (slice_get ls at) refl is_kept
    where
      by_list : (o : Option Lot) → slice_get ls at ≡ o → MatchOption o (Unit {0}) (λ (l : Lot). kept ≡ filter (goes_at ls others [] l.sought) l.keys.items)
          → MatchOption o (Unit {0}) (λ (l : Lot). KeepsAllKeys ls l.sought kept)
      by_list None e is = tt
      by_list (Some l) e is = keeps_those ls at l e old new many all first gathers others rest kept is_others is_rest decides is

-- Lists of the patterns' instances, and what is found in them.
use Rattle.std.proofs.Common.{◌≡◌, ◌≤◌, ◌<◌, ◌+◌, ℕ, List, [], ◌∷◌, ◌++◌, map, length, take, get_or, slice_get, Option, Some, None, MatchOption, refl, sym, ap, ◌∙◌, subst, inl, inr, append_assoc, append-nil, arith}
use Rattle.std.specs.List.{All, Contains}
use Rattle.std.specs.List.Sorted.{IsPermutation}
use Rattle.std.proofs.lemmas.List.{map-append, take_more, take_all}
use Rattle.std.proofs.lemmas.List.Elements.{All-nil, All-cons, All-head, All-tail, All-push, All-contains, Contains-append_left, Contains-append_right, Contains-append_cases, Contains-push, Contains-push_cases}
use Rattle.std.proofs.lemmas.List.Sorted.{IsPermutation-refl, IsPermutation-sym, IsPermutation-trans, IsPermutation-append_left, IsPermutation-map, All-permutation, Contains-permutation}
use Rattle.std.proofs.lemmas.Option.{slice_get_cases, get_or_from_slice_get}
use Rattle.gs_dict.proofs.NumberLemmas.{has_below}
use Rattle.gs_pool.specs.declared.nodes.Key.{Key}
use Rattle.gs_tree.specs.Keys.{AllKeys, IsRising, merge_keys}
use Rattle.gs_keys.specs.Texts.{Terms, key_cmp, IsGiven}
use Rattle.gs_joins.specs.declared.sought.Sought.{Sought}
use Rattle.gs_joins.specs.declared.lots.Lot.{Lot}
use Rattle.gs_joins.specs.Numbers.{no_number, BoundNumbers, bind_key}
use Rattle.gs_joins.specs.Lots.{IsSmall, IsLot, MakesLot}
use Rattle.gs_joins.specs.Values.{Values, key_of, Has, Solves, KeepsAllKeys, KeepsAt, sought_of}
use Rattle.gs_joins.specs.Reductions.{Reduces}
use Rattle.gs_joins.proofs.ListLemmas.{contains_none, contains_cases, all_by}
use Rattle.gs_joins.proofs.ValueLemmas.{Holds, holds_none, values_of, holds_own, key_complete, key_sound}
use Rattle.gs_match.specs.declared.found.Found.{Found}
use Rattle.gs_match.specs.Found.{keys_if, found_keys, found_at, found_in, IsFound, GainsKeys}
use Rattle.gs_match.specs.Solving.{SolvesAll, AreLots, Collects}
use Rattle.gs_match.specs.Candidates.{ListsThem}
use Rattle.gs_match.proofs.ListLemmas.{flat_has, flat_some, map_some}
use Rattle.gs_match.proofs.FoundLemmas.{same_found, merge_more}

module _ (ks : List Key) where
  -- what is found is an instance under values under which all patterns have instances
  pub found_sound : (ss : List Sought) (b : BoundNumbers) (chosen : List Key) (k : Key) → Contains (found_keys ks ss b chosen) k
      → (v : Values) × Holds v b × SolvesAll v ks ss × Contains (chosen ++ map (key_of v) ss) k
  found_sound [] b chosen k h = (values_of b, holds_own b, All-nil (λ s. Contains ks (key_of (values_of b) s)), Contains-append_left chosen [] k h)
  found_sound (s ∷ ss) b chosen k h =
      let (z, there, here) = flat_some (found_at ks s ss b chosen) ks k h in
      by_bound z there (bind_key b s z) refl here (λ c. found_sound ss c (chosen ++ z ∷ []) k)
    where
      by_bound : (z : Key) → Contains ks z → (o : Option BoundNumbers) → bind_key b s z ≡ o → Contains (keys_if (λ c. found_keys ks ss c (chosen ++ z ∷ [])) o) k
          → ((c : BoundNumbers) → Contains (found_keys ks ss c (chosen ++ z ∷ [])) k → (v : Values) × Holds v c × SolvesAll v ks ss × Contains ((chosen ++ z ∷ []) ++ map (key_of v) ss) k)
          → (v : Values) × Holds v b × SolvesAll v ks (s ∷ ss) × Contains (chosen ++ map (key_of v) (s ∷ ss)) k
      by_bound z there None f here again = absurd (contains_none k here)
      by_bound z there (Some c) f here again =
          let (v, h, all, inside) = again c here in
          let both = key_sound v b c s z f h in (
            v,
            both.0,
            All-cons (λ s. Contains ks (key_of v s)) s ss (subst (Contains ks) (sym both.1) there) all,
            subst (λ x. Contains (chosen ++ x ∷ map (key_of v) ss) k) (sym both.1) (subst (λ xs. Contains xs k) (append_assoc chosen (z ∷ []) (map (key_of v) ss)) inside),
          )

  -- and the other way round
  pub found_complete : (v : Values) (ss : List Sought) (b : BoundNumbers) (chosen : List Key) (k : Key) → Holds v b → SolvesAll v ks ss → Contains (chosen ++ map (key_of v) ss) k
      → Contains (found_keys ks ss b chosen) k
  found_complete v [] b chosen k h all inside = subst (λ xs. Contains xs k) (append-nil chosen) inside
  found_complete v (s ∷ ss) b chosen k h all inside =
      let (c, e, hc) = key_complete v b s h in
      let z : Key = key_of v s in
      flat_has (found_at ks s ss b chosen) ks z k (All-head (λ s. Contains ks (key_of v s)) s ss all)
      (subst (λ o. Contains (keys_if (λ c. found_keys ks ss c (chosen ++ z ∷ [])) o) k) (sym e)
      (found_complete v ss c (chosen ++ z ∷ []) k hc (All-tail (λ s. Contains ks (key_of v s)) s ss all) (subst (λ xs. Contains xs k) (sym (append_assoc chosen (z ∷ []) (map (key_of v) ss))) inside)))

-- what holds of each key
all_at : (P : Key → Type 0) (ks : List Key) (k : Key) → AllKeys P ks → Contains ks k → P k
all_at P [] k all there = absurd (contains_none k there)
all_at P (z ∷ ks) k all there = elim (contains_cases z ks k there) [
  | inl is ↦ subst P is all.0
  | inr later ↦ all_at P ks k all.1 later
]

-- numbers of terms are small
pub small_all : (terms : Terms) (ks xs : List Key) → ((k : Key) → Contains xs k → Contains ks k) → AllKeys (IsGiven terms) ks → length terms ≤ no_number → All IsSmall xs
small_all terms ks xs sound given few = all_by IsSmall xs (λ k there. small k (all_at (IsGiven terms) ks k given (sound k there)))
  where
    small : (k : Key) → IsGiven terms k → IsSmall k
    small k g = record {
      subject = let h : k.subject < length terms = has_below terms k.subject g.subject in omega arith;
      predicate = let h : k.predicate < length terms = has_below terms k.predicate g.predicate in omega arith;
      object = let h : k.object < length terms = has_below terms k.object g.object in omega arith;
    }

-- what holds of all holds of the first ones
all_front : {X : Type 0} (P : X → Type 0) (xs ys : List X) → All P (xs ++ ys) → All P xs
all_front P xs ys all = all_by P xs (λ x there. All-contains P (xs ++ ys) x all (Contains-append_left xs ys x there))

-- and of the last
all_last : {X : Type 0} (P : X → Type 0) (xs : List X) (y : X) → All P (xs ++ y ∷ []) → P y
all_last P xs y all = All-contains P (xs ++ y ∷ []) y all (Contains-push xs y)

-- no pattern
pub lots_none : (ks : List Key) (ls : List Lot) → ls ≡ [] → AreLots ks [] ls
lots_none ks ls none = subst (AreLots ks []) (sym none) (record {
  lots = All-nil IsLot;
  sought = IsPermutation-refl [];
  forth = λ v s. All-nil (Has v);
  back = λ v s. All-nil (λ z. Contains ks (key_of v z));
})

-- a pattern more, with its list
pub lots_more : (ks : List Key) (ss : List Sought) (s : Sought) (ls : List Lot) (l : Lot) (list : List Key) → AreLots ks ss ls → MakesLot s list l → ListsThem ks ls s list → AreLots ks (ss ++ s ∷ []) (ls ++ l ∷ [])
lots_more ks ss s ls l list are makes lists = record {
  lots = All-push IsLot ls l are.lots makes.lot;
  sought = subst (IsPermutation (ss ++ s ∷ [])) (sym (map-append (λ (z : Lot). z.sought) ls (l ∷ []) ∙ ap (λ z. sought_of ls ++ z ∷ []) makes.sought))
      (IsPermutation-append_left (s ∷ []) ss (sought_of ls) are.sought);
  forth = λ v all. let old : Solves v ls = are.forth v (all_front (λ z. Contains ks (key_of v z)) ss (s ∷ []) all) in
      All-push (Has v) ls l old (has v (lists.all v old (all_last (λ z. Contains ks (key_of v z)) ss s all)));
  back = λ v all. All-push (λ z. Contains ks (key_of v z)) ss s (are.back v (all_front (Has v) ls (l ∷ []) all)) (lists.sound (key_of v s) (had v (all_last (Has v) ls l all)));
}
  where
    has : (v : Values) → Contains list (key_of v s) → Has v l
    has v there = subst (λ zs. Contains zs (key_of v l.sought)) (sym makes.keys) (subst (λ (z : Sought). Contains list (key_of v z)) (sym makes.sought) there)

    had : (v : Values) → Has v l → Contains list (key_of v s)
    had v there = subst (λ (z : Sought). Contains list (key_of v z)) makes.sought (subst (λ zs. Contains zs (key_of v l.sought)) makes.keys there)

-- lists for the patterns in another order are lists for them
pub lots_arranged : (ks : List Key) (ss zs : List Sought) (ls : List Lot) → IsPermutation ss zs → AreLots ks zs ls → AreLots ks ss ls
lots_arranged ks ss zs ls same are = record {
  lots = are.lots;
  sought = IsPermutation-trans ss zs (sought_of ls) same are.sought;
  forth = λ v all. are.forth v (All-permutation (λ z. Contains ks (key_of v z)) ss zs same all);
  back = λ v s. All-permutation (λ z. Contains ks (key_of v z)) zs ss (IsPermutation-sym ss zs same) (are.back v s);
}

-- what is found of the first lists
pub record Gathered (terms : Terms) (ls some : List Lot) (f : Found) : Type 0 where
  pub set : IsFound terms f
  pub done : List Key
  pub keys_are : found_in f ≡ merge_keys (key_cmp terms) done []
  pub sound : (k : Key) → Contains done k → (v : Values) × Solves v ls × Contains (map (key_of v) (sought_of some)) k
  pub complete : (v : Values) (k : Key) → Solves v ls → Contains (map (key_of v) (sought_of some)) k → Contains done k

-- nothing yet
pub gathered_none : (terms : Terms) (ls : List Lot) (f : Found) → IsFound terms f → found_in f ≡ [] → Gathered terms ls [] f
gathered_none terms ls f set none = record {
  set = set;
  done = [];
  keys_are = none;
  sound = λ k there. absurd (contains_none k there);
  complete = λ v k s there. absurd (contains_none k there);
}

-- of one list more
pub gathered_more : (terms : Terms) (ls some : List Lot) (l : Lot) (f g : Found) (kept : List Key) → Gathered terms ls some f → KeepsAllKeys ls l.sought kept → GainsKeys terms f g kept → Gathered terms ls (some ++ l ∷ []) g
gathered_more terms ls some l f g kept old keeps gains = record {
  set = gains.set;
  done = old.done ++ kept;
  keys_are = gains.keys_are ∙ ap (merge_keys (key_cmp terms) kept) old.keys_are ∙ sym (merge_more (key_cmp terms) old.done kept []);
  sound = λ k there. elim (Contains-append_cases old.done kept k there) [
    | inl before ↦ let (v, s, here) = old.sound k before in (v, s, subst (λ zs. Contains zs k) (sym (split v)) (Contains-append_left (map (key_of v) (sought_of some)) (key_of v l.sought ∷ []) k here))
    | inr now ↦ let (v, s, is) = keeps.sound k now in (v, s, subst (λ zs. Contains zs k) (sym (split v)) (subst (Contains (map (key_of v) (sought_of some) ++ key_of v l.sought ∷ [])) is (Contains-push (map (key_of v) (sought_of some)) (key_of v l.sought))))
  ];
  complete = λ v k s there. elim (Contains-push_cases (map (key_of v) (sought_of some)) (key_of v l.sought) k (subst (λ zs. Contains zs k) (split v) there)) [
    | inl before ↦ Contains-append_left old.done kept k (old.complete v k s before)
    | inr is ↦ Contains-append_right old.done kept k (subst (Contains kept) is (keeps.complete v s))
  ];
}
  where
    split : (v : Values) → map (key_of v) (sought_of (some ++ l ∷ [])) ≡ map (key_of v) (sought_of some) ++ key_of v l.sought ∷ []
    split v = ap (map (key_of v)) (map-append (λ (z : Lot). z.sought) some (l ∷ [])) ∙ map-append (key_of v) (sought_of some) (l.sought ∷ [])

-- the same of the list of a number
pub gathered_at : (terms : Terms) (ls : List Lot) (i : ℕ) (f g : Found) (kept : List Key) → i < length ls → Gathered terms ls (take i ls) f → KeepsAt ls i kept → GainsKeys terms f g kept → Gathered terms ls (take (i + 1) ls) g
gathered_at terms ls i f g kept within old keeps gains = by_list (slice_get ls i) refl keeps
  where
    by_list : (o : Option Lot) → slice_get ls i ≡ o → MatchOption o (Unit {0}) (λ (l : Lot). KeepsAllKeys ls l.sought kept) → Gathered terms ls (take (i + 1) ls) g
    by_list None e keeps = elim (slice_get_cases ls i).1 [
      | inl found ↦ let (l, h, at, is) = found in let bad : None ≡ Some l = sym e ∙ at in absurd (cc)
      | inr past ↦ let h = past.0 in absurd (omega arith)
    ]
    by_list (Some l) e keeps =
        let is : get_or ls i l ≡ l = get_or_from_slice_get ls i l l e in
        subst (λ zs. Gathered terms ls zs g) (sym (take_more ls i l within ∙ ap (λ z. take i ls ++ z ∷ []) is)) (gathered_more terms ls (take i ls) l f g kept old keeps gains)

-- all lists were gone through
pub collects : (terms : Terms) (ls : List Lot) (i : ℕ) (f : Found) → length ls ≤ i → Gathered terms ls (take i ls) f → Collects terms ls f
collects terms ls i f all g =
    let h : Gathered terms ls ls f = subst (λ zs. Gathered terms ls zs f) (take_all i ls all) g in
    record { set = h.set; done = h.done; keys_are = h.keys_are; sound = h.sound; complete = h.complete }

-- what is found in lists that stand for the patterns is what the patterns have
pub solved : (terms : Terms) (ks : List Key) (ss : List Sought) (ls ms : List Lot) (f : Found) → IsRising (key_cmp terms) ks → AllKeys (IsGiven terms) ks → AreLots ks ss ls → Reduces ls ms → Collects terms ms f
    → found_in f ≡ merge_keys (key_cmp terms) (found_keys ks ss [] []) []
solved terms ks ss ls ms f rising given are reduces collects =
    collects.keys_are ∙ same_found terms ks rising given collects.done (found_keys ks ss [] []) inside forth back
  where
    sought_are : IsPermutation ss (sought_of ms)
    sought_are = subst (IsPermutation ss) (sym reduces.sought) are.sought

    keys_are : (v : Values) → IsPermutation (map (key_of v) ss) (map (key_of v) (sought_of ms))
    keys_are v = IsPermutation-map (key_of v) ss (sought_of ms) sought_are

    keys_back : (v : Values) → IsPermutation (map (key_of v) (sought_of ms)) (map (key_of v) ss)
    keys_back v = IsPermutation-sym (map (key_of v) ss) (map (key_of v) (sought_of ms)) (keys_are v)

    inside : (k : Key) → Contains collects.done k → Contains ks k
    inside k there =
        let (v, s, here) = collects.sound k there in
        let (z, among, is) = map_some (key_of v) (sought_of ms) k here in
        subst (Contains ks) is (All-contains (λ z. Contains ks (key_of v z)) ss z (are.back v (reduces.back v s)) (Contains-permutation (sought_of ms) ss z (IsPermutation-sym ss (sought_of ms) sought_are) among))

    forth : (k : Key) → Contains collects.done k → Contains (found_keys ks ss [] []) k
    forth k there =
        let (v, s, here) = collects.sound k there in
        found_complete ks v ss [] [] k (holds_none v) (are.back v (reduces.back v s)) (Contains-permutation (map (key_of v) (sought_of ms)) (map (key_of v) ss) k (keys_back v) here)

    back : (k : Key) → Contains (found_keys ks ss [] []) k → Contains collects.done k
    back k there =
        let (v, h, s, here) = found_sound ks ss [] [] k there in
        collects.complete v k (reduces.forth v (are.forth v s)) (Contains-permutation (map (key_of v) ss) (map (key_of v) (sought_of ms)) k (keys_are v) here)

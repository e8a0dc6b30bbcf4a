-- How the instances of one pattern are listed.
use Rattle.std.proofs.Common.{◌≡◌, true, false, List, [], ◌∷◌, ◌++◌, length, get_or, Option, Some, None, refl, sym, ap, ◌∙◌, subst, inl, inr, append_assoc, append-nil, arith}
use Rattle.std.specs.List.{flat_map, Contains}
use Rattle.std.specs.declared.cmp.Ordering.{Ordering}
use Rattle.std.specs.declared.cmp.Ordering.TheVariants.{Less}
use Rattle.std.specs.Cmp.{IsTotalOrder}
use Rattle.gs_pool.specs.declared.nodes.Key.{Key}
use Rattle.gs_tree.specs.Keys.{AllKeys, IsRising, merge_keys}
use Rattle.gs_tree.proofs.Merging.{merge_none}
use Rattle.gs_joins.specs.declared.sought.Sought.{Sought}
use Rattle.gs_joins.specs.declared.bindings.Bound.{Bound}
use Rattle.gs_joins.specs.Numbers.{BoundNumbers, numbers_of, bind_key, Chooses}
use Rattle.gs_joins.proofs.ListLemmas.{contains_none, contains_head, contains_cases}
use Rattle.gs_match.specs.Found.{keys_if, found_keys}
use Rattle.gs_match.specs.Ranges.{Covers, IsQuiet}
use Rattle.gs_match.specs.Candidates.{one_if, instances_in, Sifts}
use Rattle.gs_match.proofs.ListLemmas.{flat_has, flat_some}

-- what is found in two lists
pub flat_map_append : (f : Key → List Key) (xs ys : List Key) → flat_map f (xs ++ ys) ≡ flat_map f xs ++ flat_map f ys
flat_map_append f [] ys = refl
flat_map_append f (x ∷ xs) ys = ap (λ zs. f x ++ zs) (flat_map_append f xs ys) ∙ sym (append_assoc (f x) (flat_map f xs) (flat_map f ys))

-- a key that is an instance
pub sifts_one : (old new : List Bound) (s : Sought) (k : Key) (from : List Key) (mid : List Bound) → Chooses old mid s k true → new ≡ old → Sifts old new s (k ∷ []) from (from ++ k ∷ [])
sifts_one old new s k from mid h same = record {
  bound = same;
  more = ap (λ xs. from ++ xs) (sym (append-nil (one_if (numbers_of old) s k) ∙ ap (keys_if (λ c. k ∷ [])) h.1));
}

-- one that is not
pub sifts_none : (old new : List Bound) (s : Sought) (k : Key) (from : List Key) → Chooses old new s k false → Sifts old new s (k ∷ []) from from
sifts_none old new s k from h = record {
  bound = h.0;
  more = sym (ap (λ xs. from ++ xs) (append-nil (one_if (numbers_of old) s k) ∙ ap (keys_if (λ c. k ∷ [])) h.1) ∙ append-nil from);
}

-- no key
pub sifts_nothing : (old new : List Bound) (s : Sought) (from : List Key) → new ≡ old → Sifts old new s [] from from
sifts_nothing old new s from same = record { bound = same; more = sym (append-nil from) }

-- keys, and then more
pub sifts_then : (a b c : List Bound) (s : Sought) (xs ys from mid to : List Key) → Sifts a b s xs from mid → Sifts b c s ys mid to → Sifts a c s (xs ++ ys) from to
sifts_then a b c s xs ys from mid to g h = record {
  bound = h.bound ∙ g.bound;
  more = h.more ∙ ap (λ bs. mid ++ instances_in (numbers_of bs) s ys) g.bound ∙ ap (λ zs. zs ++ instances_in (numbers_of a) s ys) g.more
      ∙ append_assoc from (instances_in (numbers_of a) s xs) (instances_in (numbers_of a) s ys) ∙ ap (λ zs. from ++ zs) (sym (flat_map_append (one_if (numbers_of a) s) xs ys));
}

-- outside the range there is none
pub quiet_one : (terms : List _) (r : Key) (b : BoundNumbers) (s : Sought) → Covers r b s → IsQuiet terms r (one_if b s)
quiet_one terms r b s covers k given out = ap (keys_if (λ c. k ∷ [])) (covers k out)

-- an instance is one of the keys
pub instance_there : (b : BoundNumbers) (s : Sought) (ks : List Key) (k : Key) → Contains (instances_in b s ks) k → Contains ks k
instance_there b s ks k there =
    let (z, inside, here) = flat_some (one_if b s) ks k there in
    by_bound z inside (bind_key b s z) here
  where
    by_bound : (z : Key) → Contains ks z → (o : Option BoundNumbers) → Contains (keys_if (λ c. z ∷ []) o) k → Contains ks k
    by_bound z inside None here = absurd (contains_none k here)
    by_bound z inside (Some c) here = elim (contains_cases z [] k here) [
      | inl is ↦ subst (Contains ks) is inside
      | inr none ↦ absurd (contains_none k none)
    ]

-- a key that can be bound is an instance
pub instance_has : (b c : BoundNumbers) (s : Sought) (ks : List Key) (k : Key) → Contains ks k → bind_key b s k ≡ Some c → Contains (instances_in b s ks) k
instance_has b c s ks k there e = flat_has (one_if b s) ks k k there (subst (λ o. Contains (keys_if (λ c. k ∷ []) o) k) (sym e) (contains_head k []))

-- what holds of keys holds of the instances among them
all_instances : (P : Key → Type 0) (b : BoundNumbers) (s : Sought) (ks : List Key) → AllKeys P ks → AllKeys P (instances_in b s ks)
all_instances P b s [] h = tt
all_instances P b s (k ∷ ks) h = by_bound (bind_key b s k) (all_instances P b s ks h.1)
  where
    by_bound : (o : Option BoundNumbers) → AllKeys P (instances_in b s ks) → AllKeys P (keys_if (λ c. k ∷ []) o ++ instances_in b s ks)
    by_bound None later = later
    by_bound (Some c) later = (h.0, later)

-- those among keys that rise do
pub rising_instances : (cmp : Key → Key → Ordering) (b : BoundNumbers) (s : Sought) (ks : List Key) → IsRising cmp ks → IsRising cmp (instances_in b s ks)
rising_instances cmp b s [] h = tt
rising_instances cmp b s (k ∷ ks) h = by_bound (bind_key b s k) (rising_instances cmp b s ks h.1)
  where
    by_bound : (o : Option BoundNumbers) → IsRising cmp (instances_in b s ks) → IsRising cmp (keys_if (λ c. k ∷ []) o ++ instances_in b s ks)
    by_bound None later = later
    by_bound (Some c) later = (all_instances (λ y. cmp k y ≡ Less) b s ks h.0, later)

-- one pattern's instances are what is found
pub one_pattern : (cmp : Key → Key → Ordering) (total : IsTotalOrder cmp) (s : Sought) (ks found : List Key) → IsRising cmp ks → found ≡ instances_in [] s ks → found ≡ merge_keys cmp (found_keys ks (s ∷ []) [] []) []
one_pattern cmp total s ks found rising is = is ∙ sym (merge_none cmp total (instances_in [] s ks) (rising_instances cmp [] s ks rising))

-- a list of one
pub one_is : (ss : List Sought) (s : Sought) → length ss ≡ 1 → s ≡ get_or ss 0 s → ss ≡ s ∷ []
one_is [] s one is = absurd (omega arith)
one_is (z ∷ []) s one is = ap (λ (y : Sought). y ∷ []) (sym is)
one_is (z ∷ y ∷ ss) s one is = absurd (omega arith)

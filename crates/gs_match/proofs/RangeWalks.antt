-- How a walk over a range of keys goes on, and which instances are listed after it.
use Rattle.std.proofs.Common.{◌≡◌, ◌≤◌, ◌+◌, false, length, List, [], ◌∷◌, ◌++◌, Option, Some, None, refl, sym, ap, ◌∙◌, append_assoc, append-nil, arith}
use Rattle.gs_pool.specs.declared.nodes.Key.{Key}
use Rattle.gs_dict.specs.Numbering.{IsDistinct}
use Rattle.gs_tree.specs.Reading.{keys_at, keys_from, first_key}
use Rattle.gs_keys.specs.Texts.{key_cmp, key_total, IsGiven}
use Rattle.gs_keys.specs.Roots.{IsGraphAt}
use Rattle.gs_joins.specs.declared.sought.Sought.{Sought}
use Rattle.gs_joins.specs.declared.bindings.Bound.{Bound}
use Rattle.gs_joins.specs.Numbers.{no_number, numbers_of}
use Rattle.gs_match.specs.declared.ranges.Keys.{Keys}
use Rattle.gs_match.specs.Ranges.{key_in_range, IsRange, Covers, IsNotBelow, StartsAt, rest_at}
use Rattle.gs_match.specs.Candidates.{one_if, instances_in, Sifts}
use Rattle.gs_match.proofs.WalkLemmas.{from_first, goes_on, ends_above}
use Rattle.gs_match.proofs.SiftLemmas.{quiet_one}

-- the keys of a root
abbrev pub keys_of : Keys → List Key
keys_of keys = keys_at keys.pool.now keys.root

-- the keys that are left of a walk
abbrev pub left_of : Keys → Option Key → List Key
left_of keys next = rest_at (key_cmp keys.order.dict.now.terms) (keys_of keys) next

-- a walk over a range: some instances are listed, and the rest are those from the next key on
pub record Walks (keys : Keys) (s : Sought) (range : Key) (bound now_bound : List Bound) (from to : List Key) (next : Option Key) : Type 0 where
  pub bound_is : now_bound ≡ bound
  pub given : (k : Key) → next ≡ Some k → IsGiven keys.order.dict.now.terms k
  pub not_below : (k : Key) → next ≡ Some k → IsNotBelow (key_cmp keys.order.dict.now.terms) range k
  pub parts : to ++ instances_in (numbers_of bound) s (left_of keys next) ≡ from ++ instances_in (numbers_of bound) s (keys_of keys)

-- the start of a walk
pub starts : (keys : Keys) (s : Sought) (range : Key) (bound : List Bound) (from : List Key) (next : Option Key) → Covers range (numbers_of bound) s → StartsAt keys range next → Walks keys s range bound bound from from next
starts keys s range bound from next covers h = record {
  bound_is = refl;
  given = h.given;
  not_below = h.not_below;
  parts = ap (λ xs. from ++ xs) (sym (h.skips (one_if (numbers_of bound) s) (quiet_one keys.order.dict.now.terms range (numbers_of bound) s covers)));
}

module _ (keys : Keys) (graph : IsGraphAt keys.order.dict.now.terms keys.pool.now keys.root) (distinct : IsDistinct keys.order.dict.now.terms) (few : length keys.order.dict.now.terms ≤ no_number)
    (s : Sought) (range : Key) (form : IsRange range) (bound : List Bound) (from : List Key) where
  -- a key is gone through, and the next one is the first above it
  pub steps : (now_bound after_bound : List Bound) (to after : List Key) (k : Key) (next : Option Key) → Walks keys s range bound now_bound from to (Some k)
      → next ≡ first_key (keys_from (key_cmp keys.order.dict.now.terms) (Some k) (keys_of keys)) → Sifts now_bound after_bound s (k ∷ []) to after → Walks keys s range bound after_bound from after next
  steps now_bound after_bound to after k next w is sifts = record {
    bound_is = sifts.bound ∙ w.bound_is;
    given = λ z e. (goes_on keys.order.dict.now.terms distinct few (keys_of keys) graph.set.rising graph.given range form k (w.not_below k refl) z (sym is ∙ e)).0;
    not_below = λ z e. (goes_on keys.order.dict.now.terms distinct few (keys_of keys) graph.set.rising graph.given range form k (w.not_below k refl) z (sym is ∙ e)).1;
    parts =
        ap (λ xs. xs ++ instances_in (numbers_of bound) s (left_of keys next)) (sifts.more ∙ ap (λ bs. to ++ instances_in (numbers_of bs) s (k ∷ [])) w.bound_is ∙ ap (λ xs. to ++ xs) (append-nil (one_if (numbers_of bound) s k)))
        ∙ append_assoc to (one_if (numbers_of bound) s k) (instances_in (numbers_of bound) s (left_of keys next))
        ∙ ap (λ zs. to ++ (one_if (numbers_of bound) s k ++ instances_in (numbers_of bound) s zs)) (ap (left_of keys) is ∙ sym (from_first (key_cmp keys.order.dict.now.terms) (key_total keys.order.dict.now.terms) k (keys_of keys) graph.set.rising))
        ∙ w.parts;
  }

  -- fewer keys are left
  pub shorter : (k : Key) (next : Option Key) → next ≡ first_key (keys_from (key_cmp keys.order.dict.now.terms) (Some k) (keys_of keys)) → length (left_of keys next) + 1 ≡ length (left_of keys (Some k))
  shorter k next is =
      let same : left_of keys next ≡ keys_from (key_cmp keys.order.dict.now.terms) (Some k) (keys_of keys) =
      ap (left_of keys) is ∙ sym (from_first (key_cmp keys.order.dict.now.terms) (key_total keys.order.dict.now.terms) k (keys_of keys) graph.set.rising) in
      let long : length (left_of keys next) ≡ length (keys_from (key_cmp keys.order.dict.now.terms) (Some k) (keys_of keys)) = ap length same in
      omega (arith, long)

  -- the walk is over where no key is left
  pub ends : (now_bound : List Bound) (to : List Key) → Walks keys s range bound now_bound from to None → Sifts bound now_bound s (keys_of keys) from to
  ends now_bound to w = record { bound = w.bound_is; more = sym (append-nil to) ∙ w.parts }

  -- and where the next one is not in the range
  pub leaves : (now_bound : List Bound) (to : List Key) (k : Key) → Walks keys s range bound now_bound from to (Some k) → Covers range (numbers_of bound) s → key_in_range range k ≡ false → Sifts bound now_bound s (keys_of keys) from to
  leaves now_bound to k w covers out =
      let none = ends_above keys.order.dict.now.terms distinct few (keys_of keys) graph.set.rising graph.given range form k (w.given k refl) (w.not_below k refl) out
      (one_if (numbers_of bound) s) (quiet_one keys.order.dict.now.terms range (numbers_of bound) s covers) in
      record { bound = w.bound_is; more = sym (ap (λ xs. to ++ xs) none ∙ append-nil to) ∙ w.parts }

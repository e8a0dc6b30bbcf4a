-- The keys that are found are those of the instances, in their order.
use Rattle.std.proofs.Common.{◌≡◌, ◌<◌, ◌⊎◌, ℕ, zero, suc, Bool, true, false, ◌||◌, List, [], ◌∷◌, ◌++◌, map, take, length, get_or, Option, Some, None, refl, sym, ap, ◌∙◌, subst, inl, inr, arith}
use Rattle.std.specs.List.{filter, flat_map, Contains}
use Rattle.std.specs.Ordering.{eq_by_cmp, is_eq, ordering_reverse}
use Rattle.std.specs.declared.cmp.Ordering.{Ordering}
use Rattle.std.specs.declared.cmp.Ordering.TheVariants.{Less}
use Rattle.std.proofs.lemmas.Cmp.{tied_itself}
use Rattle.std.proofs.lemmas.List.{take_all}
use Rattle.std.proofs.lemmas.List.Elements.{filter_agree}
use Rattle.std.proofs.lemmas.List.Sums.{fold-append}
use Rattle.gs_model.specs.Triples.{RdfTriple, triple_cmp}
use Rattle.gs_model.specs.Graphs.{triples_of}
use Rattle.gs_model.proofs.GraphLemmas.{triple_total}
use Rattle.gs_term.specs.declared.patterns.Pattern.{Pattern}
use Rattle.gs_event.specs.Solutions.{is_among, instances_of, ListsInstances}
use Rattle.gs_graphs.specs.Solving.{found_from}
use Rattle.gs_graphs.proofs.SolvingLemmas.{all_found, listed}
use Rattle.gs_dict.specs.Numbering.{IsDistinct}
use Rattle.gs_pool.specs.declared.nodes.Key.{Key}
use Rattle.gs_pool.specs.Pool.{Nodes}
use Rattle.gs_tree.specs.Keys.{AllKeys, IsRising, insert_key, merge_keys}
use Rattle.gs_tree.specs.Reading.{keys_at, keys_from}
use Rattle.gs_tree.proofs.Order.{below}
use Rattle.gs_keys.specs.Texts.{Terms, triple_at, key_cmp, key_total, IsGiven}
use Rattle.gs_keys.specs.Roots.{graph_of_root, IsGraphAt}
use Rattle.gs_keys.proofs.KeyLemmas.{key_cmp_is, triples_of_keys}
use Rattle.gs_joins.specs.declared.sought.Sought.{Sought}
use Rattle.gs_joins.specs.Numbers.{BoundNumbers, bind_key}
use Rattle.gs_joins.proofs.ListLemmas.{contains_none, contains_head, contains_tail, contains_cases, any_has, any_some}
use Rattle.gs_match.specs.Instances.{instance_keys}
use Rattle.gs_match.specs.Patterns.{pattern_of, IsGivenSought, AreGiven, IsLacking, OneLacks}
use Rattle.gs_match.specs.Found.{keys_if, found_keys}
use Rattle.gs_match.proofs.NumberLemmas.{found_is, lacks_all}
use Rattle.gs_match.proofs.ListLemmas.{map_has, map_some}

-- the key is one of these
abbrev pub IsIn : Key → List Key → Type 0
IsIn x [] = ⊥
IsIn x (y ∷ ys) = (x ≡ y) ⊎ IsIn x ys

-- what all keys are, one of them is
in_all : (P : Key → Type 0) (x : Key) (ks : List Key) → IsIn x ks → AllKeys P ks → P x
in_all P x [] there h = absurd there
in_all P x (y ∷ ks) there h = elim there [
  | inl is ↦ subst P (sym is) h.0
  | inr later ↦ in_all P x ks later h.1
]

-- what holds of keys holds of those that pass a test
all_filter : (P : Key → Type 0) (q : Key → Bool) (ks : List Key) → AllKeys P ks → AllKeys P (filter q ks)
all_filter P q [] h = tt
all_filter P q (y ∷ ks) h = by_test (q y) refl (all_filter P q ks h.1)
  where
    by_test : (b : Bool) → q y ≡ b → AllKeys P (filter q ks) → AllKeys P (filter q (y ∷ ks))
    by_test true e later = rw e (h.0, later)
    by_test false e later = rw e later

-- what holds of two lists holds of them joined
all_append : (P : Key → Type 0) (xs ys : List Key) → AllKeys P xs → AllKeys P ys → AllKeys P (xs ++ ys)
all_append P [] ys h k = k
all_append P (x ∷ xs) ys h k = (h.0, all_append P xs ys h.1 k)

-- no key passes a test that none passes
none_pass : (ks : List Key) → filter (λ k. false) ks ≡ []
none_pass [] = refl
none_pass (k ∷ ks) = none_pass ks

-- all keys are above none
all_pass : (cmp : Key → Key → Ordering) (ks : List Key) → keys_from cmp None ks ≡ ks
all_pass cmp [] = refl
all_pass cmp (k ∷ ks) = ap (λ xs. k ∷ xs) (all_pass cmp ks)

-- all keys, as they are listed
pub listed_all : (cmp : Key → Key → Ordering) (n : ℕ) (ks : List Key) → n ≡ length ks → take n (keys_from cmp None ks) ≡ ks
listed_all cmp n ks e = ap (take n) (all_pass cmp ks) ∙ take_all n ks (omega (arith, e))

-- laws of `||`
or_false : (b : Bool) → b ≡ (b || false)
or_false true = refl
or_false false = refl

-- and the other one
or_assoc : (a b c : Bool) → ((a || b) || c) ≡ (a || (b || c))
or_assoc true b c = refl
or_assoc false b c = refl

module _ (terms : Terms) where
  -- a triple is equal to itself
  alike_itself : (y : Key) → eq_by_cmp triple_cmp (triple_at terms y) (triple_at terms y) ≡ true
  alike_itself y = ap is_eq (tied_itself triple_total (triple_at terms y))

  -- a key that is below another has another triple
  below_other : (y x : Key) → IsGiven terms y → IsGiven terms x → key_cmp terms y x ≡ Less → eq_by_cmp triple_cmp (triple_at terms y) (triple_at terms x) ≡ false
  below_other y x gy gx low = ap is_eq (sym (key_cmp_is terms y x gy gx) ∙ low)

  -- and one that is above another
  above_other : (y z : Key) → IsGiven terms y → IsGiven terms z → key_cmp terms y z ≡ Less → eq_by_cmp triple_cmp (triple_at terms z) (triple_at terms y) ≡ false
  above_other y z gy gz low = ap is_eq (triple_total.antisymm (triple_at terms z) (triple_at terms y) ∙ ap ordering_reverse (sym (key_cmp_is terms y z gy gz) ∙ low))

  -- a key goes before those that are above it
  insert_above : (x : Key) (zs : List Key) → AllKeys (λ z. key_cmp terms x z ≡ Less) zs → insert_key (key_cmp terms) x zs ≡ x ∷ zs
  insert_above x [] h = refl
  insert_above x (z ∷ zs) h = rw h.0 refl

  -- a test that one key passes besides is the same above it
  same_above : (q : Key → Bool) (y : Key) (zs : List Key) → IsGiven terms y → AllKeys (IsGiven terms) zs → AllKeys (λ z. key_cmp terms y z ≡ Less) zs
      → filter q zs ≡ filter (λ k. q k || eq_by_cmp triple_cmp (triple_at terms k) (triple_at terms y)) zs
  same_above q y [] gy gs h = refl
  same_above q y (z ∷ zs) gy gs h = by_test (q z) refl (same_above q y zs gy gs.1 h.1)
    where
      by_test : (b : Bool) → q z ≡ b → filter q zs ≡ filter (λ k. q k || eq_by_cmp triple_cmp (triple_at terms k) (triple_at terms y)) zs
          → filter q (z ∷ zs) ≡ filter (λ k. q k || eq_by_cmp triple_cmp (triple_at terms k) (triple_at terms y)) (z ∷ zs)
      by_test true e later = rw e (ap (λ xs. z ∷ xs) later)
      by_test false e later = rw (e, above_other y z gy gs.0 h.0) later

  -- a key that goes into those that pass a test
  insert_filter : (q : Key → Bool) (x : Key) (ks : List Key) → IsRising (key_cmp terms) ks → AllKeys (IsGiven terms) ks → IsIn x ks
      → insert_key (key_cmp terms) x (filter q ks) ≡ filter (λ k. q k || eq_by_cmp triple_cmp (triple_at terms k) (triple_at terms x)) ks
  insert_filter q x [] rising given there = absurd there
  insert_filter q x (y ∷ ks) rising given there = elim there [
    | inl is ↦ subst (λ z. insert_key (key_cmp terms) z (filter q (y ∷ ks)) ≡ filter (λ k. q k || eq_by_cmp triple_cmp (triple_at terms k) (triple_at terms z)) (y ∷ ks)) (sym is) (here (q y) refl)
    | inr later ↦ past (in_all (λ z. key_cmp terms y z ≡ Less) x ks later rising.0) (in_all (IsGiven terms) x ks later given.1) (q y) refl (insert_filter q x ks rising.1 given.1 later)
  ]
    where
      here : (b : Bool) → q y ≡ b → insert_key (key_cmp terms) y (filter q (y ∷ ks)) ≡ filter (λ k. q k || eq_by_cmp triple_cmp (triple_at terms k) (triple_at terms y)) (y ∷ ks)
      here true e = rw (e, tied_itself (key_total terms) y) (ap (λ xs. y ∷ xs) (same_above q y ks given.0 given.1 rising.0))
      here false e = rw (e, alike_itself y) (insert_above y (filter q ks) (all_filter (λ z. key_cmp terms y z ≡ Less) q ks rising.0) ∙ ap (λ xs. y ∷ xs) (same_above q y ks given.0 given.1 rising.0))

      past : key_cmp terms y x ≡ Less → IsGiven terms x → (b : Bool) → q y ≡ b
          → insert_key (key_cmp terms) x (filter q ks) ≡ filter (λ k. q k || eq_by_cmp triple_cmp (triple_at terms k) (triple_at terms x)) ks
          → insert_key (key_cmp terms) x (filter q (y ∷ ks)) ≡ filter (λ k. q k || eq_by_cmp triple_cmp (triple_at terms k) (triple_at terms x)) (y ∷ ks)
      past low gx true e again = rw (e, below (key_cmp terms) (key_total terms) y x low) (ap (λ xs. y ∷ xs) again)
      past low gx false e again = rw (e, below_other y x given.0 gx low) again

  module _ (ks : List Key) (rising : IsRising (key_cmp terms) ks) (given : AllKeys (IsGiven terms) ks) where
    -- keys that go into those that pass a test
    merge_filter : (xs : List Key) (q : Key → Bool) → AllKeys (λ x. IsIn x ks) xs → merge_keys (key_cmp terms) xs (filter q ks) ≡ filter (λ k. q k || is_among (map (triple_at terms) xs) (triple_at terms k)) ks
    merge_filter [] q h = filter_agree q (λ k. q k || false) (λ k. or_false (q k)) ks
    merge_filter (x ∷ xs) q h =
        ap (merge_keys (key_cmp terms) xs) (insert_filter q x ks rising given h.0)
        ∙ merge_filter xs (λ k. q k || eq_by_cmp triple_cmp (triple_at terms k) (triple_at terms x)) h.1
        ∙ filter_agree _ _ (λ k. or_assoc (q k) (eq_by_cmp triple_cmp (triple_at terms k) (triple_at terms x)) (is_among (map (triple_at terms) xs) (triple_at terms k))) ks

    -- keys that are put together are those whose triples are among theirs
    merged : (xs : List Key) → AllKeys (λ x. IsIn x ks) xs → merge_keys (key_cmp terms) xs [] ≡ filter (λ k. is_among (map (triple_at terms) xs) (triple_at terms k)) ks
    merged xs h = ap (merge_keys (key_cmp terms) xs) (sym (none_pass ks)) ∙ merge_filter xs (λ k. false) h

-- a key of the rest is a key of all
all_self : (ks zs : List Key) → ((x : Key) → IsIn x zs → IsIn x ks) → AllKeys (λ x. IsIn x ks) zs
all_self ks [] f = tt
all_self ks (z ∷ zs) f = (f z (inl refl), all_self ks zs (λ x there. f x (inr there)))

-- only keys of the root are found
only_keys : (ks : List Key) (ss : List Sought) (b : BoundNumbers) (chosen : List Key) → AllKeys (λ x. IsIn x ks) chosen → AllKeys (λ x. IsIn x ks) (found_keys ks ss b chosen)
only_keys ks [] b chosen h = h
only_keys ks (s ∷ ss) b chosen h = at_each (λ k there o. at_key k there o (λ c. only_keys ks ss c (chosen ++ k ∷ []))) ks (all_self ks ks (λ x there. there))
  where
    at_key : (k : Key) → IsIn k ks → (o : Option BoundNumbers) → ((c : BoundNumbers) → AllKeys (λ x. IsIn x ks) (chosen ++ k ∷ []) → AllKeys (λ x. IsIn x ks) (found_keys ks ss c (chosen ++ k ∷ [])))
        → AllKeys (λ x. IsIn x ks) (keys_if (λ c. found_keys ks ss c (chosen ++ k ∷ [])) o)
    at_key k there None again = tt
    at_key k there (Some c) again = again c (all_append (λ x. IsIn x ks) chosen (k ∷ []) h (there, tt))

    at_each : ((k : Key) → IsIn k ks → (o : Option BoundNumbers) → AllKeys (λ x. IsIn x ks) (keys_if (λ c. found_keys ks ss c (chosen ++ k ∷ [])) o)) → (zs : List Key) → AllKeys (λ x. IsIn x ks) zs
        → AllKeys (λ x. IsIn x ks) (flat_map (λ k. keys_if (λ c. found_keys ks ss c (chosen ++ k ∷ [])) (bind_key b s k)) zs)
    at_each f [] there = tt
    at_each f (z ∷ zs) there = all_append (λ x. IsIn x ks) (keys_if (λ c. found_keys ks ss c (chosen ++ z ∷ [])) (bind_key b s z)) _ (f z there.0 (bind_key b s z)) (at_each f zs there.1)

module _ (terms : Terms) (distinct : IsDistinct terms) (p : Nodes) (root : Option ℕ) (graph : IsGraphAt terms p root) where
  -- what is found is what the patterns have for instances
  pub found_instances : (ss : List Sought) (ps : List Pattern) → AreGiven terms ss → map (pattern_of terms) ss ≡ ps → merge_keys (key_cmp terms) (found_keys (keys_at p root) ss [] []) [] ≡ instance_keys terms p root ps
  found_instances ss ps given is =
      let ks = keys_at p root in
      let xs = found_keys ks ss [] [] in
      let all : map (triple_at terms) xs ≡ instances_of (graph_of_root terms p root) ps =
      found_is terms distinct ks graph.given ss [] [] given tt
      ∙ ap (λ ts. found_from ts (map (pattern_of terms) ss) [] []) (sym (triples_of_keys terms ks graph.set.rising graph.given))
      ∙ ap (λ qs. found_from (triples_of (graph_of_root terms p root)) qs [] []) is
      ∙ all_found (graph_of_root terms p root) ps in
      merged terms ks graph.set.rising graph.given xs (only_keys ks ss [] [] tt) ∙ ap (λ ts. filter (λ k. is_among ts (triple_at terms k)) ks) all

  -- nothing is, where a term of a pattern has no number
  pub no_instances : (ps : List Pattern) → OneLacks terms ps → instance_keys terms p root ps ≡ []
  no_instances ps lacks =
      let ks = keys_at p root in
      let none : instances_of (graph_of_root terms p root) ps ≡ [] =
      sym (all_found (graph_of_root terms p root) ps) ∙ ap (λ ts. found_from ts ps [] []) (triples_of_keys terms ks graph.set.rising graph.given) ∙ lacks_all terms ks graph.given ps [] [] lacks in
      ap (λ ts. filter (λ k. is_among ts (triple_at terms k)) ks) none ∙ none_pass ks

  -- the triples of keys whose triples pass a test
  map_filter : (test : RdfTriple → Bool) (ks : List Key) → map (triple_at terms) (filter (λ k. test (triple_at terms k)) ks) ≡ filter test (map (triple_at terms) ks)
  map_filter test [] = refl
  map_filter test (k ∷ ks) = by_test (test (triple_at terms k)) refl (map_filter test ks)
    where
      by_test : (b : Bool) → test (triple_at terms k) ≡ b → map (triple_at terms) (filter (λ k. test (triple_at terms k)) ks) ≡ filter test (map (triple_at terms) ks)
          → map (triple_at terms) (filter (λ k. test (triple_at terms k)) (k ∷ ks)) ≡ filter test (map (triple_at terms) (k ∷ ks))
      by_test true e later = rw e (ap (λ xs. triple_at terms k ∷ xs) later)
      by_test false e later = rw e later

  -- the triples of these keys are the instances
  pub lists_instances : (ps : List Pattern) (found : List Key) → found ≡ instance_keys terms p root ps → ListsInstances (graph_of_root terms p root) ps (map (triple_at terms) found)
  lists_instances ps found is =
      let g = graph_of_root terms p root in
      let ks = keys_at p root in
      listed g ps (map (triple_at terms) found) (
      ap (map (triple_at terms)) is ∙ map_filter (is_among (instances_of g ps)) ks
      ∙ ap (filter (is_among (instances_of g ps))) (sym (triples_of_keys terms ks graph.set.rising graph.given))
      )

-- a key of a list, in the one form and in the other
pub in_from : (x : Key) (ks : List Key) → Contains ks x → IsIn x ks
in_from x [] there = absurd (contains_none x there)
in_from x (y ∷ ks) there = elim (contains_cases y ks x there) [
  | inl is ↦ inl (sym is)
  | inr later ↦ inr (in_from x ks later)
]

-- keys that are all in a list
all_in : (ks xs : List Key) → ((x : Key) → Contains xs x → Contains ks x) → AllKeys (λ x. IsIn x ks) xs
all_in ks [] f = tt
all_in ks (x ∷ xs) f = (in_from x ks (f x (contains_head x xs)), all_in ks xs (λ y there. f y (contains_tail x xs y there)))

-- lists with the same keys pass a test of one of their triples alike
any_alike : (terms : Terms) (t : RdfTriple) (xs ys : List Key) → ((k : Key) → Contains xs k → Contains ys k) → ((k : Key) → Contains ys k → Contains xs k) → is_among (map (triple_at terms) xs) t ≡ is_among (map (triple_at terms) ys) t
any_alike terms t xs ys f g = by_tests (is_among (map (triple_at terms) xs) t) refl (is_among (map (triple_at terms) ys) t) refl
  where
    over : (us vs : List Key) → ((k : Key) → Contains us k → Contains vs k) → is_among (map (triple_at terms) us) t ≡ true → is_among (map (triple_at terms) vs) t ≡ true
    over us vs h e =
        let (u, there, passes) = any_some (eq_by_cmp triple_cmp t) (map (triple_at terms) us) e in
        let (k, inside, is) = map_some (triple_at terms) us u there in
        any_has (eq_by_cmp triple_cmp t) (map (triple_at terms) vs) u (subst (Contains (map (triple_at terms) vs)) is (map_has (triple_at terms) vs k (h k inside))) passes

    by_tests : (a : Bool) → is_among (map (triple_at terms) xs) t ≡ a → (b : Bool) → is_among (map (triple_at terms) ys) t ≡ b → is_among (map (triple_at terms) xs) t ≡ is_among (map (triple_at terms) ys) t
    by_tests true e true h = e ∙ sym h
    by_tests true e false h = let bad : true ≡ false = sym (over xs ys f e) ∙ h in absurd (cc)
    by_tests false e true h = let bad : true ≡ false = sym (over ys xs g h) ∙ e in absurd (cc)
    by_tests false e false h = e ∙ sym h

-- lists of keys of the root with the same keys make one set
pub same_found : (terms : Terms) (ks : List Key) → IsRising (key_cmp terms) ks → AllKeys (IsGiven terms) ks → (xs ys : List Key) → ((k : Key) → Contains xs k → Contains ks k)
    → ((k : Key) → Contains xs k → Contains ys k) → ((k : Key) → Contains ys k → Contains xs k) → merge_keys (key_cmp terms) xs [] ≡ merge_keys (key_cmp terms) ys []
same_found terms ks rising given xs ys inside f g =
    merged terms ks rising given xs (all_in ks xs inside)
    ∙ filter_agree _ _ (λ k. any_alike terms (triple_at terms k) xs ys f g) ks
    ∙ sym (merged terms ks rising given ys (all_in ks ys (λ k there. inside k (g k there))))

-- one pattern more is sought
pub given_more : (terms : Terms) (ss : List Sought) (s : Sought) → AreGiven terms ss → IsGivenSought terms s → AreGiven terms (ss ++ s ∷ [])
given_more terms [] s h g = (g, tt)
given_more terms (r ∷ ss) s h g = (h.0, given_more terms ss s h.1 g)

-- one of the patterns lacks a number
pub lacks_at : (terms : Terms) (ps : List Pattern) (i : ℕ) (p : Pattern) → i < length ps → p ≡ get_or ps i p → IsLacking terms p → OneLacks terms ps
lacks_at terms [] i p within is lacks = absurd (omega arith)
lacks_at terms (q ∷ ps) zero p within is lacks = inl (subst (IsLacking terms) is lacks)
lacks_at terms (q ∷ ps) (suc i) p within is lacks = inr (lacks_at terms ps i p (omega arith) is lacks)

-- keys that go in one after the other
pub merge_more : (cmp : Key → Key → Ordering) (xs ys zs : List Key) → merge_keys cmp (xs ++ ys) zs ≡ merge_keys cmp ys (merge_keys cmp xs zs)
merge_more cmp xs ys zs = fold-append (λ ks x. insert_key cmp x ks) zs xs ys

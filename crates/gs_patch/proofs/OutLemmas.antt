-- Keys that go out of a staged tree, as triples that go out of its graph.
use Rattle.std.proofs.Common.{◌≡◌, ℕ, Bool, true, false, cond, not, ◌||◌, List, [], ◌∷◌, map, Option, refl, sym, ap, subst, ◌∙◌}
use Rattle.std.specs.List.{filter, list_any}
use Rattle.std.specs.Cmp.{IsTotalOrder}
use Rattle.std.specs.Ordering.{eq_by_cmp, is_eq, ordering_reverse}
use Rattle.std.specs.declared.cmp.Ordering.{Ordering}
use Rattle.std.specs.declared.cmp.Ordering.TheVariants.{Less, Equal, Greater}
use Rattle.gs_model.specs.Triples.{RdfTriple, triple_cmp}
use Rattle.gs_model.specs.Graphs.{graph_of}
use Rattle.gs_model.proofs.GraphLemmas.{triple_total}
use Rattle.gs_event.specs.Solutions.{is_among}
use Rattle.gs_event.specs.Updates.{without_triples}
use Rattle.gs_pool.specs.declared.nodes.Key.{Key}
use Rattle.gs_pool.specs.Pool.{Nodes}
use Rattle.gs_tree.specs.Keys.{AllKeys, IsRising, remove_key, remove_by}
use Rattle.gs_tree.specs.Reading.{keys_at}
use Rattle.gs_tree.specs.Sets.{IsSetAt}
use Rattle.gs_tree.proofs.Order.{AllKeys-map}
use Rattle.gs_keys.specs.Texts.{Terms, triple_at, key_cmp, key_total, IsGiven}
use Rattle.gs_keys.specs.Roots.{graph_of_root}
use Rattle.gs_keys.proofs.KeyLemmas.{key_cmp_is}
use Rattle.gs_changes.specs.Keys.{remove_keys}
use Rattle.gs_staging.specs.Staging.{IsStaged}
use Rattle.gs_staging.proofs.StageLemmas.{staged_triples}
use Rattle.gs_patch.specs.Known.{AreKnown}

-- what holds of keys holds of those that pass a test
pub all_filter : (P : Key → Type 0) (test : Key → Bool) (ks : List Key) → AllKeys P ks → AllKeys P (filter test ks)
all_filter P test [] a = tt
all_filter P test (k ∷ ks) a = by_test (test k) (all_filter P test ks a.1)
  where
    by_test : (b : Bool) → AllKeys P (filter test ks) → AllKeys P (cond b (k ∷ filter test ks) (filter test ks))
    by_test true rest = (a.0, rest)
    by_test false rest = rest

-- a list whose keys all pass stays
all_pass : (test : Key → Bool) (ks : List Key) → AllKeys (λ k. test k ≡ true) ks → filter test ks ≡ ks
all_pass test [] a = refl
all_pass test (k ∷ ks) a = ap (λ b. cond b (k ∷ filter test ks) (filter test ks)) a.0 ∙ ap (λ zs. k ∷ zs) (all_pass test ks a.1)

-- two tests that keys are not to pass, one after the other
filter_twice : (a b : Key → Bool) (ks : List Key) → filter (λ k. not (b k)) (filter (λ k. not (a k)) ks) ≡ filter (λ k. not (a k || b k)) ks
filter_twice a b [] = refl
filter_twice a b (k ∷ ks) = by_test (a k) (filter_twice a b ks)
  where
    once : List Key
    once = filter (λ j. not (a j)) ks

    both : List Key
    both = filter (λ j. not (a j || b j)) ks

    by_test : (r : Bool) → filter (λ j. not (b j)) once ≡ both → filter (λ j. not (b j)) (cond (not r) (k ∷ once) once) ≡ cond (not (r || b k)) (k ∷ both) both
    by_test true rest = rest
    by_test false rest = ap (λ zs. cond (not (b k)) (k ∷ zs) zs) rest

module _ (cmp : Key → Key → Ordering) (total : IsTotalOrder cmp) where
  -- whether a key is one of these
  abbrev pub is_one_of : List Key → Key → Bool
  is_one_of run y = list_any (λ x. eq_by_cmp cmp x y) run

  rising_filter : (test : Key → Bool) (ks : List Key) → IsRising cmp ks → IsRising cmp (filter test ks)
  rising_filter test [] s = tt
  rising_filter test (k ∷ ks) s = by_test (test k) (rising_filter test ks s.1)
    where
      by_test : (b : Bool) → IsRising cmp (filter test ks) → IsRising cmp (cond b (k ∷ filter test ks) (filter test ks))
      by_test true rest = (all_filter (λ y. cmp k y ≡ Less) test ks s.0, rest)
      by_test false rest = rest

  -- of keys that x is below, none is x
  others_stay : (x : Key) (ks : List Key) → AllKeys (λ y. cmp x y ≡ Less) ks → filter (λ y. not (eq_by_cmp cmp x y)) ks ≡ ks
  others_stay x ks a = all_pass (λ y. not (eq_by_cmp cmp x y)) ks (AllKeys-map (λ y. cmp x y ≡ Less) (λ y. not (eq_by_cmp cmp x y) ≡ true) (λ y e. ap (λ o. not (is_eq o)) e) ks a)

  -- a key that goes out of keys that rise: those stay that are not equal to it
  one_out : (x : Key) (ks : List Key) → IsRising cmp ks → remove_key cmp x ks ≡ filter (λ y. not (eq_by_cmp cmp x y)) ks
  one_out x [] s = refl
  one_out x (y ∷ ks) s = by_answer (cmp x y) refl (one_out x ks s.1)
    where
      rest : List Key
      rest = filter (λ z. not (eq_by_cmp cmp x z)) ks

      by_answer : (o : Ordering) → cmp x y ≡ o → remove_key cmp x ks ≡ rest → remove_by o y ks (remove_key cmp x ks) ≡ cond (not (is_eq o)) (y ∷ rest) rest
      by_answer Less e later = ap (λ zs. y ∷ zs) (sym (others_stay x ks (AllKeys-map (λ z. cmp y z ≡ Less) (λ z. cmp x z ≡ Less) (λ z f. total.trans x y z e f) ks s.0)))
      by_answer Equal e later = sym (others_stay x ks (AllKeys-map (λ z. cmp y z ≡ Less) (λ z. cmp x z ≡ Less) (λ z f. total.congr x y z e ∙ f) ks s.0))
      by_answer Greater e later = ap (λ zs. y ∷ zs) later

  -- keys that go out, in any order and with repeats
  pub all_out : (run ks : List Key) → IsRising cmp ks → remove_keys cmp run ks ≡ filter (λ y. not (is_one_of run y)) ks
  all_out [] ks s = sym (all_pass (λ y. true) ks (each ks))
    where
      each : (zs : List Key) → AllKeys (λ z. true ≡ true) zs
      each [] = tt
      each (z ∷ zs) = (refl, each zs)
  all_out (x ∷ run) ks s =
      let out = one_out x ks s in
      let rising = subst (IsRising cmp) (sym out) (rising_filter (λ y. not (eq_by_cmp cmp x y)) ks s) in
      all_out run (remove_key cmp x ks) rising
      ∙ ap (filter (λ y. not (is_one_of run y))) out
      ∙ filter_twice (eq_by_cmp cmp x) (is_one_of run) ks

-- which of two comes first does not make them equal
turned : (o : Ordering) → is_eq (ordering_reverse o) ≡ is_eq o
turned Less = refl
turned Equal = refl
turned Greater = refl

module _ (terms : Terms) where
  -- a key is one of some exactly where its triple is among theirs
  one_among : (run : List Key) (y : Key) → AllKeys (IsGiven terms) run → IsGiven terms y → is_one_of (key_cmp terms) (key_total terms) run y ≡ is_among (map (triple_at terms) run) (triple_at terms y)
  one_among [] y gs g = refl
  one_among (x ∷ run) y gs g =
      let same : eq_by_cmp (key_cmp terms) x y ≡ eq_by_cmp triple_cmp (triple_at terms y) (triple_at terms x) =
      ap is_eq (key_cmp_is terms x y gs.0 g ∙ triple_total.antisymm (triple_at terms x) (triple_at terms y)) ∙ turned (triple_cmp (triple_at terms y) (triple_at terms x)) in
      ap (λ b. b || is_one_of (key_cmp terms) (key_total terms) run y) same
      ∙ ap (λ b. eq_by_cmp triple_cmp (triple_at terms y) (triple_at terms x) || b) (one_among run y gs.1 g)

  -- keys that pass a test, and triples that pass another that says the same of them
  map_filter : (a : Key → Bool) (b : RdfTriple → Bool) (ks : List Key) → AllKeys (λ k. a k ≡ b (triple_at terms k)) ks → map (triple_at terms) (filter (λ k. not (a k)) ks) ≡ filter (λ t. not (b t)) (map (triple_at terms) ks)
  map_filter a b [] h = refl
  map_filter a b (k ∷ ks) h = by_test (a k) (map_filter a b ks h.1) ∙ ap (λ r. cond (not r) (triple_at terms k ∷ others) others) h.0
    where
      stay : List Key
      stay = filter (λ j. not (a j)) ks

      others : List RdfTriple
      others = filter (λ t. not (b t)) (map (triple_at terms) ks)

      by_test : (r : Bool) → map (triple_at terms) stay ≡ others → map (triple_at terms) (cond (not r) (k ∷ stay) stay) ≡ cond (not r) (triple_at terms k ∷ others) others
      by_test true rest = rest
      by_test false rest = ap (λ us. triple_at terms k ∷ us) rest

  -- tests that agree on the triples of keys
  same_filter : (a b : RdfTriple → Bool) (ks : List Key) → AllKeys (λ k. a (triple_at terms k) ≡ b (triple_at terms k)) ks → filter (λ t. not (a t)) (map (triple_at terms) ks) ≡ filter (λ t. not (b t)) (map (triple_at terms) ks)
  same_filter a b ks h = sym (map_filter (λ k. b (triple_at terms k)) a ks (AllKeys-map (λ k. a (triple_at terms k) ≡ b (triple_at terms k)) (λ k. b (triple_at terms k) ≡ a (triple_at terms k)) (λ k e. sym e) ks h)) ∙ map_filter (λ k. b (triple_at terms k)) b ks (each ks)
    where
      each : (zs : List Key) → AllKeys (λ k. b (triple_at terms k) ≡ b (triple_at terms k)) zs
      each [] = tt
      each (z ∷ zs) = (refl, each zs)

  -- keys out of a staged tree: it is staged, and its graph lacks their triples
  pub without_keys :
      (p q : Nodes) (root new : Option ℕ) (run : List Key) → IsStaged terms p root → AllKeys (IsGiven terms) run → IsSetAt (key_cmp terms) q new → keys_at q new ≡ remove_keys (key_cmp terms) run (keys_at p root)
      → IsStaged terms q new × (graph_of_root terms q new ≡ without_triples (graph_of_root terms p root) (map (triple_at terms) run))
  without_keys p q root new run old gs set keys_are =
      let ks = keys_at p root in
      let one : Key → Bool = is_one_of (key_cmp terms) (key_total terms) run in
      let among : RdfTriple → Bool = is_among (map (triple_at terms) run) in
      let is : keys_at q new ≡ filter (λ y. not (one y)) ks = keys_are ∙ all_out (key_cmp terms) (key_total terms) run ks old.set.rising in
      let given : AllKeys (IsGiven terms) (keys_at q new) = subst (AllKeys (IsGiven terms)) (sym is) (all_filter (IsGiven terms) (λ y. not (one y)) ks old.given) in
      let agree = AllKeys-map (IsGiven terms) (λ k. one k ≡ among (triple_at terms k)) (λ k g. one_among run k gs g) ks old.given in (
        record { set = set; given = given },
        ap (λ zs. graph_of (map (triple_at terms) zs)) is ∙ ap graph_of (map_filter one among ks agree)
            ∙ ap (λ us. graph_of (filter (λ t. not (among t)) us)) (sym (staged_triples terms p root old)),
      )

  -- a graph without known triples is the graph without them all
  pub without_known : (p : Nodes) (root : Option ℕ) (ts : List RdfTriple) (ks : List Key) → IsStaged terms p root → AreKnown terms ts ks → without_triples (graph_of_root terms p root) (map (triple_at terms) ks) ≡ without_triples (graph_of_root terms p root) ts
  without_known p root ts ks old known =
      let a : RdfTriple → Bool = is_among (map (triple_at terms) ks) in
      let b : RdfTriple → Bool = is_among ts in
      let is = staged_triples terms p root old in
      ap (λ us. graph_of (filter (λ t. not (a t)) us)) is
      ∙ ap graph_of (same_filter a b (keys_at p root) (AllKeys-map (IsGiven terms) (λ k. a (triple_at terms k) ≡ b (triple_at terms k)) known.among (keys_at p root) old.given))
      ∙ ap (λ us. graph_of (filter (λ t. not (b t)) us)) (sym is)

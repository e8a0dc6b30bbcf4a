-- A run of keys that is united with the set of a root, as graphs.
use Rattle.std.proofs.Common.{◌≡◌, ◌+◌, ℕ, Bool, true, false, ◌||◌, List, [], ◌∷◌, ◌++◌, map, length, Option, None, refl, sym, ap, subst, ◌∙◌, arith}
use Rattle.std.specs.List.{list_any}
use Rattle.std.specs.FinMap as fin
use Rattle.std.specs.Ordering.{eq_by_cmp}
use Rattle.std.specs.declared.cmp.Ordering.{Ordering}
use Rattle.std.specs.declared.cmp.Ordering.TheVariants.{Less, Equal, Greater}
use Rattle.std.proofs.lemmas.List.{length-map}
use Rattle.std.proofs.lemmas.List.Folds.{list_any-append}
use Rattle.gs_model.specs.Triples.{RdfTriple, triple_cmp}
use Rattle.gs_model.specs.Graphs.{Graph, graph_of, triples_of, with_triples, size_of}
use Rattle.gs_model.proofs.GraphLemmas.{same_graph}
use Rattle.gs_dict.specs.Numbering.{Numbered, IsDistinct}
use Rattle.gs_pool.specs.declared.nodes.Key.{Key}
use Rattle.gs_pool.specs.Pool.{Nodes}
use Rattle.gs_tree.specs.declared.unions.Merged.{Merged}
use Rattle.gs_tree.specs.Keys.{AllKeys, insert_key, insert_by, merge_keys}
use Rattle.gs_tree.specs.Reading.{keys_at}
use Rattle.gs_tree.specs.Sets.{IsSetAt, UnitesAt}
use Rattle.gs_keys.specs.Texts.{Terms, KeepTerms, triple_at, key_cmp, IsGiven}
use Rattle.gs_keys.specs.Roots.{graph_of_root, IsGraphAt}
use Rattle.gs_keys.proofs.KeyLemmas.{tied_keys, triples_of_keys}
use Rattle.gs_keys.proofs.RootLemmas.{all_insert, all_merge, all_given_kept, set_kept, set_graph, graph_kept}
use Rattle.gs_staging.proofs.RunLemmas.{any_map}
use Rattle.gs_staging.specs.Keys.{Grows, IsRunOfTriples}
use Rattle.gs_staging.specs.Staging.{IsStaged, IsStillStaged, Stages}

-- the tree of an upload stands for a graph
pub staged_graph : (terms : Terms) (p : Nodes) (root : Option ℕ) → IsStaged terms p root → IsGraphAt terms p root
staged_graph terms p root h = set_graph terms p root h.set h.given

-- its triples are those of its keys
pub staged_triples : (terms : Terms) (p : Nodes) (root : Option ℕ) → IsStaged terms p root → triples_of (graph_of_root terms p root) ≡ map (triple_at terms) (keys_at p root)
staged_triples terms p root h = triples_of_keys terms (keys_at p root) h.set.rising h.given

-- it has as many as the tree has keys
pub staged_size : (terms : Terms) (p : Nodes) (root : Option ℕ) → IsStaged terms p root → size_of (graph_of_root terms p root) ≡ length (keys_at p root)
staged_size terms p root h = ap length (staged_triples terms p root h) ∙ length-map (keys_at p root) (triple_at terms)

-- among later terms it is what it was
pub staged_kept : (terms later : Terms) → KeepTerms terms later → (p : Nodes) (root : Option ℕ) → IsStaged terms p root → IsStillStaged terms later p root
staged_kept terms later keep p root h = record {
  staged = record { set = set_kept terms later keep p root h.set h.given; given = all_given_kept terms later keep (keys_at p root) h.given };
  same = (graph_kept terms later keep p root (staged_graph terms p root h)).same;
}

-- so it is where the dictionary has grown
pub staged_grown : (d e : Numbered) (p : Nodes) (root : Option ℕ) → Grows d e → IsStaged d.terms p root → IsStaged e.terms p root
staged_grown d e p root grows h = (staged_kept d.terms e.terms grows.terms p root h).staged

-- no root is staged
pub none_staged : (terms : Terms) (p : Nodes) → IsStaged terms p None
none_staged terms p = record { set = record { root_is = refl; stands = tt; balanced = tt; rising = tt; apart = λ x. omega arith }; given = tt }

module _ (terms : Terms) (distinct : IsDistinct terms) (p : Key → Bool) where
  -- laws of `||`
  middle : (a b c : Bool) → (a || (b || c)) ≡ (b || (a || c))
  middle true true c = refl
  middle true false c = refl
  middle false true c = refl
  middle false false c = refl

  repeated : (a b : Bool) → (a || b) ≡ (a || (a || b))
  repeated true b = refl
  repeated false b = refl

  turned : (a b c : Bool) → ((a || b) || c) ≡ (b || (a || c))
  turned true true c = refl
  turned true false c = refl
  turned false true c = refl
  turned false false c = refl

  -- a key that goes into keys
  any_insert : (x : Key) (ks : List Key) → IsGiven terms x → AllKeys (IsGiven terms) ks → list_any p (insert_key (key_cmp terms) x ks) ≡ (p x || list_any p ks)
  any_insert x [] g gs = refl
  any_insert x (y ∷ ks) g gs = by_answer (key_cmp terms x y) refl (any_insert x ks g gs.1)
    where
      by_answer : (o : Ordering) → key_cmp terms x y ≡ o → list_any p (insert_key (key_cmp terms) x ks) ≡ (p x || list_any p ks)
          → list_any p (insert_by o x y ks (insert_key (key_cmp terms) x ks)) ≡ (p x || (p y || list_any p ks))
      by_answer Less e later = refl
      by_answer Equal e later = repeated (p y) (list_any p ks) ∙ ap (λ k. p k || (p y || list_any p ks)) (sym (tied_keys terms x y distinct g gs.0 e))
      by_answer Greater e later = ap (λ b. p y || b) later ∙ middle (p y) (p x) (list_any p ks)

  -- a run that goes into keys
  any_merge : (run ks : List Key) → AllKeys (IsGiven terms) run → AllKeys (IsGiven terms) ks → list_any p (merge_keys (key_cmp terms) run ks) ≡ (list_any p ks || list_any p run)
  any_merge [] ks g gs = or_false (list_any p ks)
    where
      or_false : (b : Bool) → b ≡ (b || false)
      or_false true = refl
      or_false false = refl
  any_merge (x ∷ run) ks g gs =
      any_merge run (insert_key (key_cmp terms) x ks) g.1 (all_insert (key_cmp terms) (IsGiven terms) x ks g.0 gs)
      ∙ ap (λ b. b || list_any p run) (any_insert x ks g.0 gs) ∙ turned (p x) (list_any p ks) (list_any p run)

-- a run that goes into keys has the triples of both
merged_graph : (terms : Terms) → IsDistinct terms → (run ks : List Key) → AllKeys (IsGiven terms) run → AllKeys (IsGiven terms) ks
    → graph_of (map (triple_at terms) (merge_keys (key_cmp terms) run ks)) ≡ graph_of (map (triple_at terms) ks ++ map (triple_at terms) run)
merged_graph terms distinct run ks g gs = same_graph _ _ (λ q.
    let has = eq_by_cmp triple_cmp q in
    any_map terms has (merge_keys (key_cmp terms) run ks)
    ∙ any_merge terms distinct (λ k. has (triple_at terms k)) run ks g gs
    ∙ ap (λ b. b || list_any (λ k. has (triple_at terms k)) run) (sym (any_map terms has ks))
    ∙ ap (λ b. list_any has (map (triple_at terms) ks) || b) (sym (any_map terms has run))
    ∙ sym (list_any-append has (map (triple_at terms) ks) (map (triple_at terms) run)))

-- triples that go before others make a graph of their graph
graph_before : (xs ys zs : List RdfTriple) → graph_of ys ≡ graph_of zs → graph_of (xs ++ ys) ≡ graph_of (xs ++ zs)
graph_before [] ys zs e = e
graph_before (x ∷ xs) ys zs e = ap (λ (g : Graph). fin.insert g x tt) (graph_before xs ys zs e)

-- a run in a staged tree, whatever united them: the tree is staged, and its graph has the run's triples too
pub with_run :
    (d e : Numbered) (p q : Nodes) (root new : Option ℕ) (ts : List RdfTriple) (run : List Key) → Grows d e → IsDistinct e.terms → IsStaged d.terms p root → IsRunOfTriples e.terms ts run
    → IsSetAt (key_cmp e.terms) q new → keys_at q new ≡ merge_keys (key_cmp e.terms) run (keys_at p root)
    → IsStaged e.terms q new × (graph_of_root e.terms q new ≡ with_triples (graph_of_root d.terms p root) ts)
with_run d e p q root new ts run grows distinct old is set keys_are =
    let still = staged_grown d e p root grows old in
    let same : graph_of_root e.terms p root ≡ graph_of_root d.terms p root = (staged_kept d.terms e.terms grows.terms p root old).same in
    let given : AllKeys (IsGiven e.terms) (keys_at q new) =
    subst (AllKeys (IsGiven e.terms)) (sym keys_are) (all_merge (key_cmp e.terms) (IsGiven e.terms) run (keys_at p root) is.given still.given) in
    let grown : graph_of_root e.terms q new ≡ with_triples (graph_of_root e.terms p root) ts =
    ap (λ xs. graph_of (map (triple_at e.terms) xs)) keys_are
    ∙ merged_graph e.terms distinct run (keys_at p root) is.given still.given
    ∙ graph_before (map (triple_at e.terms) (keys_at p root)) (map (triple_at e.terms) run) ts is.graph
    ∙ ap (λ xs. graph_of (xs ++ ts)) (sym (staged_triples e.terms p root still)) in
    (record { set = set; given = given }, grown ∙ ap (λ g. with_triples g ts) same)

-- what a union makes of a staged tree
pub stages :
    (birth : ℕ) (d e : Numbered) (p q : Nodes) (root : Option ℕ) (ts : List RdfTriple) (run : List Key) (m : Merged) → Grows d e → IsDistinct e.terms → IsStaged d.terms p root
    → IsRunOfTriples e.terms ts run → UnitesAt (key_cmp e.terms) 0 birth p q root run m → Stages birth d.terms e.terms p q root ts m
stages birth d e p q root ts run m grows distinct old is unites =
    let made = with_run d e p q root m.root ts run grows distinct old is unites.set unites.keys_are in
    let before : size_of (graph_of_root d.terms p root) ≡ length (keys_at p root) = staged_size d.terms p root old in
    let after : size_of (graph_of_root e.terms q m.root) ≡ length (keys_at q m.root) = staged_size e.terms q m.root made.0 in
    record {
      run = run;
      run_graph = is.graph;
      unites = unites;
      staged = made.0;
      graph = made.1;
      added = after ∙ unites.counted ∙ ap (λ n. n + m.added) (sym before);
    }

-- A read of a version goes on as records, pool and dictionary change.
use Rattle.std.proofs.Common.{◌≡◌, ℕ, true, List, [], ◌∷◌, ◌++◌, map, Option, Some, None, refl, sym, ap, subst, ◌∙◌}
use Rattle.std.specs.List.{AllByRecursion}
use Rattle.std.proofs.lemmas.List.{map-append}
use Rattle.std.proofs.lemmas.List.Elements.{recursion_from_All}
use Rattle.gs_term.specs.declared.names.Target.{Target}
use Rattle.gs_pool.specs.declared.nodes.Key.{Key}
use Rattle.gs_pool.specs.Pool.{Nodes}
use Rattle.gs_tree.specs.Keys.{AllKeys, IsRising}
use Rattle.gs_tree.specs.Tree.{root_of, keys, Stands, tree_at}
use Rattle.gs_tree.specs.Reading.{keys_at, keys_from}
use Rattle.gs_tree.proofs.Rotations.{tree_in}
use Rattle.gs_keys.specs.Texts.{Terms, KeepTerms, key_cmp, IsGiven}
use Rattle.gs_keys.specs.Roots.{IsGraphAt}
use Rattle.gs_keys.proofs.RootLemmas.{given_kept, graph_kept}
use Rattle.gs_lines.specs.Graphs.{line_in}
use Rattle.gs_lines.specs.Pieces.{IsCursor, keys_left}
use Rattle.gs_lines.proofs.LineLemmas.{quads_kept}
use Rattle.gs_catalogue.specs.declared.versions.GraphVersion.{GraphVersion}
use Rattle.gs_index.specs.Indexes.{after_number}
use Rattle.gs_records.specs.Records.{Recorded}
use Rattle.gs_records.specs.Order.{has_number, AreListed, graph_of_number}
use Rattle.gs_quads.specs.Places.{Place, target_at, root_at, version_numbers, record_places, all_places, quad_at, quads_left}
use Rattle.gs_quads.specs.Pieces.{AreGraphs, IsQuadPlace}
use Rattle.gs_quads.specs.Laws.{HasSame, HasTrees, ReadGoesOn}
use Rattle.gs_quads.proofs.Numbers.{numbers_had, had_after}
use Rattle.gs_quads.proofs.Same.{numbers_same}
use Rattle.gs_quads.proofs.Whole.{quads_of_places}

-- a root whose tree a pool has is that of the same graph there
pub graph_stands : (terms : Terms) (p q : Nodes) (root : Option ℕ) → IsGraphAt terms p root → Stands q (tree_at p root) → IsGraphAt terms q root
graph_stands terms p q root graph there =
    let same : tree_at q root ≡ tree_at p root = tree_in q root (tree_at p root) graph.set.root_is there in
    record {
      set = record {
        root_is = graph.set.root_is ∙ ap root_of (sym same);
        stands = subst (Stands q) (sym same) there;
        rising = subst (λ t. IsRising (key_cmp terms) (keys t)) (sym same) graph.set.rising;
      };
      given = subst (λ t. AllKeys (IsGiven terms) (keys t)) (sym same) graph.given;
    }

module _ (terms later : Terms) (keep : KeepTerms terms later) (p q : Nodes) (v : ℕ) (old new : Recorded) (al : AreListed old.records old.listed) (al_new : AreListed new.records new.listed) (graphs : AreGraphs terms p v old.records) (same : HasSame v old new) (trees : HasTrees v old.records p q) where
  -- the lines of a record that the version has
  one_lasts : (n : ℕ) → has_number v old.records n ≡ true → (from : Option Key) → IsCursor terms from
      → map (quad_at later new.records) (record_places later q new.records from n) ≡ map (quad_at terms old.records) (record_places terms p old.records from n)
  one_lasts n has from given =
      let graph : graph_of_number new.records n ≡ graph_of_number old.records n = same.graphs n has in
      let target : target_at new.records n ≡ target_at old.records n = ap (λ (g : Target × GraphVersion). g.0) graph in
      let root : root_at new.records n ≡ root_at old.records n = ap (λ (g : Target × GraphVersion). g.1.root) graph in
      let there : tree_at q (root_at old.records n) ≡ tree_at p (root_at old.records n) = tree_in q (root_at old.records n) (tree_at p (root_at old.records n)) (graphs n has).set.root_is (trees n has) in
      let tree : tree_at q (root_at new.records n) ≡ tree_at p (root_at old.records n) = ap (tree_at q) root ∙ there in
      quads_of_places later new.records n (keys_left later q (root_at new.records n) from)
      ∙ (λ i. map (line_in later (target i)) (keys_from (key_cmp later) from (keys (tree i))))
      ∙ quads_kept terms later keep (target_at old.records n) from (keys_at p (root_at old.records n)) given (graphs n has).given
      ∙ sym (quads_of_places terms old.records n (keys_left terms p (root_at old.records n) from))

  -- the lines of some that it has
  all_last : (ns : List ℕ) → AllByRecursion (λ n. has_number v old.records n ≡ true) ns
      → map (quad_at later new.records) (all_places later q new.records ns) ≡ map (quad_at terms old.records) (all_places terms p old.records ns)
  all_last [] h = refl
  all_last (n ∷ ns) h =
      map-append (quad_at later new.records) (record_places later q new.records None n) (all_places later q new.records ns)
      ∙ (λ i. one_lasts n h.0 None tt i ++ all_last ns h.1 i)
      ∙ sym (map-append (quad_at terms old.records) (record_places terms p old.records None n) (all_places terms p old.records ns))

  -- the version has all of its numbers
  had : AllByRecursion (λ n. has_number v old.records n ≡ true) (version_numbers v old)
  had = recursion_from_All (λ n. has_number v old.records n ≡ true) (version_numbers v old) (numbers_had v old)

  -- and has the same later
  numbers : version_numbers v new ≡ version_numbers v old
  numbers = numbers_same v old new al al_new same

  -- the lines after a place, and all where none is
  quads_last : (from : Option Place) → IsQuadPlace terms v old.records from → quads_left later q v new from ≡ quads_left terms p v old from
  quads_last None h =
      ap (λ ns. map (quad_at later new.records) (all_places later q new.records ns)) numbers
      ∙ all_last (version_numbers v old) had
  quads_last (Some x) h =
      let new_quad = quad_at later new.records in
      let old_quad = quad_at terms old.records in
      let ns = after_number x.0 (version_numbers v old) in
      map-append new_quad (record_places later q new.records (Some x.1) x.0) (all_places later q new.records (after_number x.0 (version_numbers v new)))
      ∙ ap (λ ms. map new_quad (record_places later q new.records (Some x.1) x.0) ++ map new_quad (all_places later q new.records (after_number x.0 ms))) numbers
      ∙ (λ i. one_lasts x.0 h.0 (Some x.1) h.1 i ++ all_last ns (had_after (λ n. has_number v old.records n ≡ true) x.0 (version_numbers v old) had) i)
      ∙ sym (map-append old_quad (record_places terms p old.records (Some x.1) x.0) (all_places terms p old.records ns))

  -- what it has are graphs
  graphs_last : AreGraphs later q v new.records
  graphs_last n h =
      let has : has_number v old.records n ≡ true = sym (same.numbers n) ∙ h in
      let root : root_at new.records n ≡ root_at old.records n = ap (λ (g : Target × GraphVersion). g.1.root) (same.graphs n has) in
      let graph : IsGraphAt terms q (root_at old.records n) = graph_stands terms p q (root_at old.records n) (graphs n has) (trees n has) in
      subst (IsGraphAt later q) (sym root) (graph_kept terms later keep q (root_at old.records n) graph).graph

  -- a place is one of it
  place_lasts : (from : Option Place) → IsQuadPlace terms v old.records from → IsQuadPlace later v new.records from
  place_lasts None h = tt
  place_lasts (Some x) h = (same.numbers x.0 ∙ h.0, given_kept terms later keep x.1 h.1)

  -- so a read goes on
  pub read_goes_on : (from : Option Place) → IsQuadPlace terms v old.records from → ReadGoesOn terms later p q v old new from
  read_goes_on from h = record { graphs = graphs_last; place = place_lasts from h; lines = quads_last from h }

-- From the beginning on, the lines of a version are those of its dataset.
use Rattle.std.proofs.Common.{◌≡◌, ℕ, true, List, [], ◌∷◌, ◌++◌, map, MatchOption, Option, Some, None, refl, sym, ap, ◌∙◌}
use Rattle.std.specs.List.{AllByRecursion, flat_map}
use Rattle.std.specs.FinMap as fin
use Rattle.std.proofs.lemmas.Grind.{flat_map-append}
use Rattle.std.proofs.lemmas.List.{append-nil, map-append}
use Rattle.std.proofs.lemmas.List.Elements.{recursion_from_All}
use Rattle.std.proofs.lemmas.List.Folds.{flat_map-map}
use Rattle.gs_model.specs.Triples.{line_of}
use Rattle.gs_model.specs.Graphs.{triples_of, lines_of}
use Rattle.gs_term.specs.declared.names.Target.{Target}
use Rattle.gs_pool.specs.declared.nodes.Key.{Key}
use Rattle.gs_pool.specs.Pool.{Nodes}
use Rattle.gs_tree.specs.Reading.{keys_at}
use Rattle.gs_tree.proofs.FromLemmas.{from_all}
use Rattle.gs_keys.specs.Texts.{Terms, key_cmp}
use Rattle.gs_keys.specs.Roots.{graph_of_root}
use Rattle.gs_keys.proofs.KeyLemmas.{triples_of_keys}
use Rattle.gs_lines.specs.Graphs.{line_for, line_in}
use Rattle.gs_lines.proofs.LineLemmas.{lines_of_triples}
use Rattle.gs_catalogue.specs.declared.versions.GraphVersion.{GraphVersion}
use Rattle.gs_catalogue.specs.Catalogues.{GraphVersions, empty_version}
use Rattle.gs_datasets.specs.Standing.{version_graph, dataset_at}
use Rattle.gs_datasets.proofs.Values.{entries-with_values}
use Rattle.gs_records.specs.Records.{Record, Recorded}
use Rattle.gs_records.specs.Graphs.{graphs_at}
use Rattle.gs_records.specs.Kept.{AreSingle}
use Rattle.gs_records.specs.Order.{has_number, AreListed, graph_of_number, graphs_listed, default_first, with_target, AreInOrder}
use Rattle.gs_records.proofs.Ordering.{listed_in_order}
use Rattle.gs_quads.specs.Places.{target_at, root_at, version_numbers, as_places, record_places, all_places, quad_at, quads_left}
use Rattle.gs_quads.specs.Pieces.{AreGraphs}
use Rattle.gs_event.specs.Datasets.{named_lines, quads_of}
use Rattle.gs_quads.proofs.Numbers.{numbers_had}

-- the lines of places of one record
pub quads_of_places : (terms : Terms) (rs : List Record) (n : ℕ) (ks : List Key) → map (quad_at terms rs) (as_places n ks) ≡ map (line_in terms (target_at rs n)) ks
quads_of_places terms rs n [] = refl
quads_of_places terms rs n (k ∷ ks) = ap (λ xs. line_in terms (target_at rs n) k ∷ xs) (quads_of_places terms rs n ks)

module _ (terms : Terms) (p : Nodes) where
  -- the lines of a graph and its version
  abbrev graph_lines : Target × GraphVersion → List (List ℕ)
  graph_lines g = map (line_for g.0) (triples_of (version_graph terms p g.1))

  module _ (v : ℕ) (rs : List Record) (graphs : AreGraphs terms p v rs) where
    -- the lines of a record are those of its graph
    lines_of_one : (n : ℕ) → has_number v rs n ≡ true → map (quad_at terms rs) (record_places terms p rs None n) ≡ graph_lines (graph_of_number rs n)
    lines_of_one n has =
        let graph = graphs n has in
        let ks = keys_at p (root_at rs n) in
        ap (λ xs. map (quad_at terms rs) (as_places n xs)) (from_all (key_cmp terms) ks)
        ∙ quads_of_places terms rs n ks
        ∙ lines_of_triples terms (target_at rs n) ks
        ∙ ap (map (line_for (target_at rs n))) (sym (triples_of_keys terms ks graph.set.rising graph.given))

    -- the same of some records
    lines_of_all : (ns : List ℕ) → AllByRecursion (λ n. has_number v rs n ≡ true) ns → map (quad_at terms rs) (all_places terms p rs ns) ≡ flat_map graph_lines (map (graph_of_number rs) ns)
    lines_of_all [] h = refl
    lines_of_all (n ∷ ns) h =
        map-append (quad_at terms rs) (record_places terms p rs None n) (all_places terms p rs ns)
        ∙ (λ i. lines_of_one n h.0 i ++ lines_of_all ns h.1 i)

  -- a root of no tree has no line
  lines_of_none : lines_of (graph_of_root terms p None) ≡ []
  lines_of_none = ap (map line_of) (triples_of_keys terms [] tt tt)

  -- the lines of the default graph, where it is there
  lines_of_default : (g : GraphVersion) (unnamed : Option GraphVersion) → MatchOption unnamed (g ≡ empty_version) (λ v. v ≡ g) → flat_map graph_lines (default_first unnamed) ≡ lines_of (version_graph terms p g)
  lines_of_default g None is = sym (ap (λ (v : GraphVersion). lines_of (version_graph terms p v)) is ∙ lines_of_none)
  lines_of_default g (Some v) is = append-nil (lines_of (version_graph terms p v)) ∙ ap (λ (w : GraphVersion). lines_of (version_graph terms p w)) is

  -- the lines of graphs in order are those of the dataset
  lines_in_order : (g : GraphVersions) (graphs : List (Target × GraphVersion)) → AreInOrder g graphs → flat_map graph_lines graphs ≡ quads_of (dataset_at terms p g)
  lines_in_order g graphs o =
      let es = fin.entries g.named in
      let named : flat_map graph_lines (map with_target es) ≡ flat_map named_lines (fin.entries (dataset_at terms p g).named) =
      flat_map-map graph_lines with_target es
      ∙ sym (flat_map-map named_lines (λ (e : List ℕ × GraphVersion). (e.0, version_graph terms p e.1)) es)
      ∙ ap (flat_map named_lines) (sym (entries-with_values (version_graph terms p) g.named)) in
      ap (flat_map graph_lines) o.graphs_are
      ∙ flat_map-append graph_lines (default_first o.unnamed) (map with_target es)
      ∙ (λ i. lines_of_default g.unnamed o.unnamed o.default i ++ named i)

  -- the lines of a version are those of its dataset
  pub all_quads : (v : ℕ) (r : Recorded) → AreSingle r.records → AreListed r.records r.listed → AreGraphs terms p v r.records → quads_left terms p v r None ≡ quads_of (dataset_at terms p (graphs_at v r.records))
  all_quads v r single al graphs =
      lines_of_all v r.records graphs (version_numbers v r) (recursion_from_All (λ n. has_number v r.records n ≡ true) (version_numbers v r) (numbers_had v r))
      ∙ lines_in_order (graphs_at v r.records) (graphs_listed v r.records r.listed) (listed_in_order v r.records r.listed single al)

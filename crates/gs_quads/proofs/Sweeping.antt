-- A read of all graphs of a version, where two lists of terms say the same of the keys of all nodes and of the place where it stands.
use Rattle.std.proofs.Common.{◌≡◌, ℕ, List, [], ◌∷◌, ◌++◌, map, Option, Some, None, refl, sym, ap, ◌∙◌}
use Rattle.std.specs.List.{flat_map}
use Rattle.std.proofs.lemmas.List.{map-append}
use Rattle.gs_pool.specs.declared.nodes.Key.{Key}
use Rattle.gs_pool.specs.Pool.{Nodes}
use Rattle.gs_tree.specs.Reading.{keys_at}
use Rattle.gs_keys.specs.Texts.{Terms, AgreeOn}
use Rattle.gs_keys.specs.Roots.{AgreeOnNodes}
use Rattle.gs_keys.proofs.RootLemmas.{given_same}
use Rattle.gs_keys.proofs.NodeLemmas.{keys_agree, graph_at_same}
use Rattle.gs_lines.specs.Pieces.{keys_left}
use Rattle.gs_lines.proofs.SweepLemmas.{AgreeOnCursor, keys_left_same, quads_same}
use Rattle.gs_index.specs.Indexes.{numbers_after}
use Rattle.gs_records.specs.Records.{Record, Recorded}
use Rattle.gs_quads.specs.Places.{Place, target_at, root_at, version_numbers, as_places, record_places, all_places, own_places, number_at, places_left, quad_at, quads_left}
use Rattle.gs_quads.specs.Pieces.{AreGraphs, IsQuadPlace}
use Rattle.gs_quads.proofs.Whole.{quads_of_places}

-- both lists of terms say the same of a place of a read of all graphs
abbrev pub AgreeOnQuadPlace : Terms → Terms → Option Place → Type 0
AgreeOnQuadPlace terms later None = Unit {0}
AgreeOnQuadPlace terms later (Some x) = AgreeOn terms later x.1

module _ (terms later : Terms) (p : Nodes) (nodes : AgreeOnNodes terms later p) where
  module _ (rs : List Record) where
    -- the places of a record after a key are the same
    pub record_places_same : (from : Option Key) (n : ℕ) → AgreeOnCursor terms later from → record_places later p rs from n ≡ record_places terms p rs from n
    record_places_same from n f = ap (as_places n) (keys_left_same terms later p nodes (root_at rs n) from f)

    -- and so are all places of some records
    pub all_places_same : (ns : List ℕ) → all_places later p rs ns ≡ all_places terms p rs ns
    all_places_same ns = λ i. flat_map (λ n. record_places_same None n tt i) ns

    -- and those of a place's own record
    pub own_places_same : (from : Option Place) → AgreeOnQuadPlace terms later from → own_places later p rs from ≡ own_places terms p rs from
    own_places_same None f = refl
    own_places_same (Some x) f = record_places_same (Some x.1) x.0 f

    -- the lines of a record after a key are the same
    record_quads_same : (from : Option Key) (n : ℕ) → AgreeOnCursor terms later from → map (quad_at later rs) (record_places later p rs from n) ≡ map (quad_at terms rs) (record_places terms p rs from n)
    record_quads_same from n f =
        quads_of_places later rs n (keys_left later p (root_at rs n) from)
        ∙ quads_same terms later (target_at rs n) from (keys_at p (root_at rs n)) f (keys_agree terms later p nodes (root_at rs n))
        ∙ sym (quads_of_places terms rs n (keys_left terms p (root_at rs n) from))

    -- and so are those of some records
    all_quads_same : (ns : List ℕ) → map (quad_at later rs) (all_places later p rs ns) ≡ map (quad_at terms rs) (all_places terms p rs ns)
    all_quads_same [] = refl
    all_quads_same (n ∷ ns) =
        map-append (quad_at later rs) (record_places later p rs None n) (all_places later p rs ns)
        ∙ (λ i. record_quads_same None n tt i ++ all_quads_same ns i)
        ∙ sym (map-append (quad_at terms rs) (record_places terms p rs None n) (all_places terms p rs ns))

    -- and those of a place's own record
    own_quads_same : (from : Option Place) → AgreeOnQuadPlace terms later from → map (quad_at later rs) (own_places later p rs from) ≡ map (quad_at terms rs) (own_places terms p rs from)
    own_quads_same None f = refl
    own_quads_same (Some x) f = record_quads_same (Some x.1) x.0 f

  module _ (v : ℕ) (r : Recorded) (from : Option Place) (f : AgreeOnQuadPlace terms later from) where
    -- the places of a version that are left after one are the same
    pub places_left_same : places_left later p v r from ≡ places_left terms p v r from
    places_left_same =
        let ns = numbers_after (number_at from) (version_numbers v r) in
        λ i. own_places_same r.records from f i ++ all_places_same r.records ns i

    -- and so are the lines there
    pub quads_left_same : quads_left later p v r from ≡ quads_left terms p v r from
    quads_left_same =
        let ns = numbers_after (number_at from) (version_numbers v r) in
        map-append (quad_at later r.records) (own_places later p r.records from) (all_places later p r.records ns)
        ∙ (λ i. own_quads_same r.records from f i ++ all_quads_same r.records ns i)
        ∙ sym (map-append (quad_at terms r.records) (own_places terms p r.records from) (all_places terms p r.records ns))

  -- what a version has are graphs still
  pub graphs_same : (v : ℕ) (rs : List Record) → AreGraphs terms p v rs → AreGraphs later p v rs
  graphs_same v rs graphs n has = graph_at_same terms later p nodes (root_at rs n) (graphs n has)

-- the numbers of a place have terms where they had
pub quad_place_same : (terms later : Terms) (v : ℕ) (rs : List Record) (from : Option Place) → AgreeOnQuadPlace terms later from → IsQuadPlace terms v rs from → IsQuadPlace later v rs from
quad_place_same terms later v rs None f h = tt
quad_place_same terms later v rs (Some x) f h = (h.0, given_same terms later x.1 h.1 f)

-- A walk over the numbers of a version: what is found of the next ones, and of those after them.
use Rattle.std.proofs.Common.{◌≡◌, ℕ, ◌+◌, ◌<◌, ◌≤◌, true, List, [], ◌∷◌, ◌++◌, length, get_or, take, drop, Option, Some, None, refl, sym, ap, ◌∙◌, subst}
use Rattle.std.specs.Prelude.{IfSome}
use Rattle.std.specs.List.{All}
use Rattle.std.proofs.lemmas.Grind.{flat_map-append}
use Rattle.std.proofs.lemmas.List.{append-nil, take_more, take-append-drop}
use Rattle.std.proofs.lemmas.List.Elements.{All-weaker}
use Rattle.gs_index.specs.Indexes.{is_listed, numbers_after}
use Rattle.gs_records.specs.Records.{Recorded, record_at, is_kept, has_at}
use Rattle.gs_records.specs.Order.{has_number, entry_of, AreListed}
use Rattle.gs_records.proofs.Lifetimes.{first_true}
use Rattle.gs_quads.specs.declared.runs.Source.{Source}
use Rattle.gs_quads.specs.declared.runs.Found.{Found}
use Rattle.gs_quads.specs.Places.{Place, version_numbers, number_at, places_left}
use Rattle.gs_quads.specs.Found.{one_graph, all_graphs, own_graph, AreReadable, IsQuadPlaceOf, places_found, FindsMore, IsGraphOf, numbers_past, AreNext}
use Rattle.gs_quads.proofs.Adding.{adds_full, adds_both}
use Rattle.gs_quads.proofs.Numbers.{after_filter}

-- a number that a version has is kept
pub had_kept : (v : ℕ) (r : Recorded) (n : ℕ) → has_number v r.records n ≡ true → is_kept (record_at r.records n) ≡ true
had_kept v r n h = first_true (is_kept (record_at r.records n)) (has_at v (entry_of (record_at r.records n))) h

-- the numbers after a place's number, by both definitions
pub past_is : (v : ℕ) (r : Recorded) (from : Option ℕ) → IfSome from (λ n. has_number v r.records n ≡ true) → numbers_past v r from ≡ numbers_after from (version_numbers v r)
past_is v r None h = refl
past_is v r (Some n) h = after_filter (has_number v r.records) n h r.listed

-- the places of one number more
pub graphs_more : (s : Source) (numbers : List ℕ) (i d : ℕ) → i < length numbers → all_graphs s (take (i + 1) numbers) ≡ all_graphs s (take i numbers) ++ one_graph s None (get_or numbers i d)
graphs_more s numbers i d within =
    let one = one_graph s None (get_or numbers i d) in
    ap (all_graphs s) (take_more numbers i d within)
    ∙ flat_map-append (one_graph s None) (take i numbers) (get_or numbers i d ∷ [])
    ∙ ap (λ xs. all_graphs s (take i numbers) ++ xs) (append-nil one)

-- where there are enough, the numbers that are left add none
pub graphs_full : (s : Source) (most : ℕ) (old new : Found) (numbers : List ℕ) (i : ℕ) → FindsMore s most old new (all_graphs s (take i numbers)) → most ≤ length new.keys.items → FindsMore s most old new (all_graphs s numbers)
graphs_full s most old new numbers i a full =
    let first = all_graphs s (take i numbers) in
    let rest = all_graphs s (drop i numbers) in
    let all : first ++ rest ≡ all_graphs s numbers = sym (flat_map-append (one_graph s None) (take i numbers) (drop i numbers)) ∙ ap (all_graphs s) (take-append-drop i numbers) in
    subst (FindsMore s most old new) all (adds_both s most old new new first rest a (adds_full s most new a.found rest full))

module _ (s : Source) (v : ℕ) (graphs : AreReadable s v) where
  -- what the version has can be read
  pub graph_of : (n : ℕ) → has_number v s.records.now.records n ≡ true → IsGraphOf s n
  graph_of n h = record { kept = had_kept v s.records.now n h; graph = graphs n h }

  -- the same of some numbers
  pub graphs_of : (ns : List ℕ) → All (λ n. has_number v s.records.now.records n ≡ true) ns → All (IsGraphOf s) ns
  graphs_of ns h = All-weaker (λ n. has_number v s.records.now.records n ≡ true) (IsGraphOf s) graph_of ns h

  -- so can the record of a place, which is listed
  pub place_graph : (from : Option Place) → IsQuadPlaceOf s v from → IfSome from (λ x. IsGraphOf s x.0)
  place_graph None h = tt
  place_graph (Some x) h = graph_of x.0 h.0

  -- its number is listed
  pub place_listed : AreListed s.records.now.records s.records.now.listed → (from : Option Place) → IsQuadPlaceOf s v from → IfSome (number_at from) (λ n. is_listed n s.records.now.listed ≡ true)
  place_listed al None h = tt
  place_listed al (Some x) h = al.members x.0 ∙ had_kept v s.records.now x.0 h.0

  -- and the version has it
  place_had : (from : Option Place) → IsQuadPlaceOf s v from → IfSome (number_at from) (λ n. has_number v s.records.now.records n ≡ true)
  place_had None h = tt
  place_had (Some x) h = h.0

  module _ (most : ℕ) where
    -- where the walk ends
    pub walk_ends : (from : Option ℕ) (numbers : List ℕ) (old new : Found) → AreNext v s.records.now from numbers None → FindsMore s most old new (all_graphs s numbers) → FindsMore s most old new (all_graphs s (numbers_past v s.records.now from))
    walk_ends from numbers old new next a = subst (λ ns. FindsMore s most old new (all_graphs s ns)) (sym (next.first ∙ append-nil numbers)) a

    -- where it goes on
    pub walk_goes : (from : Option ℕ) (n : ℕ) (numbers : List ℕ) (old mid new : Found) → AreNext v s.records.now from numbers (Some n)
        → FindsMore s most old mid (all_graphs s numbers) → FindsMore s most mid new (all_graphs s (numbers_past v s.records.now (Some n))) → FindsMore s most old new (all_graphs s (numbers_past v s.records.now from))
    walk_goes from n numbers old mid new next a b =
        let rest = numbers_past v s.records.now (Some n) in
        let both : all_graphs s numbers ++ all_graphs s rest ≡ all_graphs s (numbers_past v s.records.now from) = sym (flat_map-append (one_graph s None) numbers rest) ∙ ap (all_graphs s) (sym next.first) in
        subst (FindsMore s most old new) both (adds_both s most old mid new (all_graphs s numbers) (all_graphs s rest) a b)

    -- the places after one, and all where none is
    pub places_are : (from : Option Place) → IsQuadPlaceOf s v from → (none mid new : Found) → places_found none ≡ []
        → FindsMore s most none mid (own_graph s from) → FindsMore s most mid new (all_graphs s (numbers_past v s.records.now (number_at from)))
        → places_found new ≡ take most (places_left s.dict.now.terms s.pool.now v s.records.now from)
    places_are from h none mid new empty a b =
        let own = own_graph s from in
        let c = adds_both s most none mid new own (all_graphs s (numbers_past v s.records.now (number_at from))) a b in
        c.places
        ∙ ap (λ xs. take most (xs ++ (own ++ all_graphs s (numbers_past v s.records.now (number_at from))))) empty
        ∙ ap (λ ns. take most (own ++ all_graphs s ns)) (past_is v s.records.now (number_at from) (place_had from h))

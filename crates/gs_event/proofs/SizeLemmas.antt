-- How many triples a graph has after an update, and united with another.
use Rattle.std.proofs.Common.{◌≡◌, ◌+◌, ◌≤◌, Bool, true, false, cond, not, List, [], ◌∷◌, ◌++◌, length, Option, Some, None, refl, sym, ap, ◌∙◌, arith}
use Rattle.std.specs.List.{filter, list_any}
use Rattle.std.specs.Ordering.{eq_by_cmp}
use Rattle.std.specs.FinMap as fin
use Rattle.std.proofs.Math.Bool.{or_comm}
use Rattle.std.proofs.lemmas.List.{length-map}
use Rattle.std.proofs.lemmas.List.Folds.{list_any-append}
use Rattle.std.proofs.lemmas.List.Sums.{length-filter, count_by-le-length}
use Rattle.gs_model.specs.Triples.{RdfTriple, triple_cmp, line_of}
use Rattle.gs_model.specs.Graphs.{Graph, graph_of, triples_of, with_triples, size_of}
use Rattle.gs_model.proofs.GraphLemmas.{triple_total, same_graph, empty_has_none, graph_of-triples_of}
use Rattle.gs_event.specs.declared.updates.Op.{Op}
use Rattle.gs_event.specs.declared.updates.Op.TheVariants.{Insert, DeleteData, DeleteWhere}
use Rattle.gs_event.specs.Solutions.{is_among, instances_of}
use Rattle.gs_event.specs.Updates.{operated, inserted_count, removed}
use Rattle.gs_event.specs.Datasets.{lines_if}
use Rattle.gs_event.specs.Operations.{united}
use Rattle.gs_event.specs.NodesInUse.{AddsUp, GoesOneWay}

-- one operation
adds_up_one : (g : Graph) (op : Op) → size_of (operated g op) + removed g op ≡ size_of g + inserted_count g op
adds_up_one g op = omega arith

-- the triples that came and went account for the size of what an update leaves
pub adds_up : (g : Graph) (ops : List Op) → AddsUp g ops
adds_up g [] = refl
adds_up g (op ∷ ops) = omega (arith, adds_up_one g op, adds_up (operated g op) ops)

-- a triple more, by whether it is there
size_after : (g : Graph) (t : RdfTriple) → size_of (fin.insert g t tt) ≡ cond (fin.contains_key g t) (size_of g) (size_of g + 1)
size_after g t =
    let before : size_of g ≡ fin.len g = length-map (fin.entries g) (λ e. e.0) ∙ sym (fin.len-entries g) in
    let now : size_of (fin.insert g t tt) ≡ fin.len (fin.insert g t tt) = length-map (fin.entries (fin.insert g t tt)) (λ e. e.0) ∙ sym (fin.len-entries (fin.insert g t tt)) in
    now ∙ fin.len-insert triple_total g t tt ∙ ap (λ n. cond (fin.contains_key g t) n (n + 1)) (sym before)

-- it adds one at most
one_more : (g : Graph) (t : RdfTriple) → size_of (fin.insert g t tt) ≤ size_of g + 1
one_more g t = rw (size_after g t) (elim (fin.contains_key g t) as (λ b. cond b (size_of g) (size_of g + 1) ≤ size_of g + 1) [ true ↦ omega arith | false ↦ omega arith ])

-- and takes none away
none_less : (g : Graph) (t : RdfTriple) → size_of g ≤ size_of (fin.insert g t tt)
none_less g t = rw (size_after g t) (elim (fin.contains_key g t) as (λ b. size_of g ≤ cond b (size_of g) (size_of g + 1)) [ true ↦ omega arith | false ↦ omega arith ])

-- triples that are added to others add no more than they are
pub graph_few : (xs ts : List RdfTriple) → size_of (graph_of (xs ++ ts)) ≤ length xs + size_of (graph_of ts)
graph_few [] ts = omega arith
graph_few (x ∷ xs) ts = omega (arith, one_more (graph_of (xs ++ ts)) x, graph_few xs ts)

-- a list makes no more triples than it has
pub listed_few : (ts : List RdfTriple) → size_of (graph_of ts) ≤ length ts
listed_few [] = omega (arith, empty_has_none)
listed_few (t ∷ ts) = omega (arith, one_more (graph_of ts) t, listed_few ts)

-- a graph united with another has no more triples than both
pub united_few : (o : Option Graph) (g : Graph) → size_of (united o g) ≤ length (lines_if o) + size_of g
united_few None g = omega arith
united_few (Some old) g = omega (arith, graph_few (triples_of old) (triples_of g), ap size_of (graph_of-triples_of g), length-map (triples_of old) line_of)

-- a list after another makes no fewer triples than alone
graph_grows : (xs ts : List RdfTriple) → size_of (graph_of ts) ≤ size_of (graph_of (xs ++ ts))
graph_grows [] ts = omega arith
graph_grows (x ∷ xs) ts = omega (arith, none_less (graph_of (xs ++ ts)) x, graph_grows xs ts)

-- which list comes first means nothing
pub turned : (xs ys : List RdfTriple) → graph_of (xs ++ ys) ≡ graph_of (ys ++ xs)
turned xs ys = same_graph (xs ++ ys) (ys ++ xs) (λ q.
    let has = eq_by_cmp triple_cmp q in
    list_any-append has xs ys ∙ or_comm (list_any has xs) (list_any has ys) ∙ sym (list_any-append has ys xs))

kept_few : (g : Graph) (p : RdfTriple → Bool) → size_of (graph_of (filter p (triples_of g))) ≤ size_of g
kept_few g p = omega (arith, listed_few (filter p (triples_of g)), length-filter p (triples_of g), count_by-le-length p (triples_of g))

-- an insertion takes none out, and a deletion adds none
pub goes_one_way : (g : Graph) (op : Op) → GoesOneWay g op
goes_one_way g (Insert ts) =
    let same : size_of (with_triples g ts.items) ≡ size_of (graph_of (ts.items ++ triples_of g)) = ap size_of (turned (triples_of g) ts.items) in
    omega (arith, same, graph_grows ts.items (triples_of g), ap size_of (graph_of-triples_of g))
goes_one_way g (DeleteData ts) = omega (arith, kept_few g (λ t. not (is_among ts.items t)))
goes_one_way g (DeleteWhere ps) = omega (arith, kept_few g (λ t. not (is_among (instances_of g ps.items) t)))

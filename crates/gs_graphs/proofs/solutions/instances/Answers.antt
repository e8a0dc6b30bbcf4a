use Rattle.std.proofs.Common.{◌≡◌, sym, ap, ◌∙◌, subst, [], Ok, Err}
use Rattle.std.specs.List.{filter}
use Rattle.std.specs.List.Sorted.{IsStrictlySortedBy}
use Rattle.std.proofs.lemmas.List.Kept.{IsStrictlySortedBy-filter}
use Rattle.gs_model.specs.Triples.{triple_cmp}
use Rattle.gs_model.specs.Graphs.{triples_of}
use Rattle.gs_event.specs.Solutions.{is_among, instances_of, ListsInstances}
use Rattle.gs_graphs.specs.Solving.{found_from}
use Rattle.gs_graphs.proofs.SolvingLemmas.{all_found, listed}
use Rattle.gs_graphs.proofs.solutions.instances.Goals as goal

pub returns-clause-found : goal.returns-clause-found
returns-clause-found c =
    let ts = c.as_slice-triples.result.now in
    let xs = found_from ts c.args.patterns.now [] [] in
    let all : xs ≡ instances_of c.args.graph.now c.args.patterns.now = ap (λ us. found_from us c.args.patterns.now [] []) c.as_slice-triples.ensures.value ∙ all_found c.args.graph.now c.args.patterns.now in
    let some = c.marked.ensures (is_among xs) (c.as_slice.ensures.value ∙ c.in_ok-marks.ensures) in
    elim c.marked.result as (λ r. Rattle.std.specs.Result.IfOk r (λ found. found.items ≡ filter (is_among xs) ts) → Rattle.std.specs.Result.IfOk r (λ found. ListsInstances c.args.graph.now c.args.patterns.now found.items)) [
      | Ok found ↦ λ h. listed c.args.graph.now c.args.patterns.now found.items (h ∙ ap (λ us. filter (is_among xs) us) c.as_slice-triples.ensures.value ∙ ap (λ us. filter (is_among us) (triples_of c.args.graph.now)) all)
      | Err e ↦ λ h. tt
    ] some

pub returns-clause-once : goal.returns-clause-once
returns-clause-once c =
    let ts = c.as_slice-triples.result.now in
    let xs = found_from ts c.args.patterns.now [] [] in
    let some = c.marked.ensures (is_among xs) (c.as_slice.ensures.value ∙ c.in_ok-marks.ensures) in
    elim c.marked.result as (λ r. Rattle.std.specs.Result.IfOk r (λ found. found.items ≡ filter (is_among xs) ts) → Rattle.std.specs.Result.IfOk r (λ found. IsStrictlySortedBy triple_cmp found.items)) [
      | Ok found ↦ λ h. subst (IsStrictlySortedBy triple_cmp) (sym h) (IsStrictlySortedBy-filter triple_cmp (is_among xs) ts c.as_slice-triples.ensures.sorted)
      | Err e ↦ λ h. tt
    ] some

-- What a POST leaves: the upload with the triples that were there.
use Rattle.std.proofs.Common.{◌≡◌, ℕ, ◌+◌, ◌≤◌, List, ◌++◌, length, Option, Some, Result, Ok, Err, IfOk, sym, ap, ◌∙◌, arith}
use Rattle.std.specs.List.{slice_get}
use Rattle.std.specs.FinMap as map
use Rattle.std.proofs.lemmas.List.{length-map}
use Rattle.gs_model.specs.Triples.{line_of}
use Rattle.gs_model.specs.Graphs.{Graph, empty_graph, with_triples, graph_of, triples_of, size_of}
use Rattle.gs_model.proofs.GraphLemmas.{triples_of-empty, graph_of-triples_of}
use Rattle.gs_term.specs.declared.names.Target.{Target}
use Rattle.gs_term.specs.declared.names.Target.TheVariants.{Default, Named}
use Rattle.gs_term.specs.Names.{name_cmp}
use Rattle.gs_event.specs.Datasets.{Dataset, empty_dataset, graph_at, lines_at}
use Rattle.gs_event.specs.Operations.{united}
use Rattle.gs_plain.specs.declared.books.Row.{Row}
use Rattle.gs_plain.specs.Books.{dataset_of, lines_of_row}
use Rattle.gs_plain.specs.Newest.{NewestRow, graph_of_row}

-- an empty graph with the triples of another is that one
pub united_empty : (g : Graph) → with_triples empty_graph (triples_of g) ≡ g
united_empty g = ap (λ ts. graph_of (ts ++ triples_of g)) triples_of-empty ∙ graph_of-triples_of g

united_none : (t : Target) (o : Option Graph) (g : Graph) → o ≡ graph_at empty_dataset t → united o g ≡ g
united_none Default o g is = ap (λ x. united x g) is ∙ united_empty g
united_none (Named n) o g is = ap (λ x. united x g) (is ∙ map.get-empty name_cmp n)

-- a target without a row
pub copied_so : {E : Type 0} (m : Dataset) (t : Target) (upload : Graph) (made : Result Graph E) → graph_at m t ≡ graph_at empty_dataset t → IfOk made (λ copy. copy ≡ upload) → IfOk made (λ g. g ≡ united (graph_at m t) upload)
copied_so m t upload (Err e) none h = h
copied_so m t upload (Ok g) none h = h ∙ sym (united_none t (graph_at m t) upload none)

-- a target with a row
pub united_so : {E : Type 0} (rows : List Row) (t : Target) (i : ℕ) (row : Row) (upload : Graph) (made : Result Graph E) → NewestRow rows t (Some i) → slice_get rows i ≡ Some row → IfOk made (λ both. both ≡ with_triples row.graph (triples_of upload)) → IfOk made (λ g. g ≡ united (graph_at (dataset_of rows) t) upload)
united_so rows t i row upload (Err e) found is h = h
united_so rows t i row upload (Ok g) found is h = h ∙ sym (ap (λ o. united o upload) (found.graph ∙ ap graph_of_row is))

pub united_size : {E : Type 0} (rows : List Row) (t : Target) (i : ℕ) (row : Row) (upload : Graph) (made : Result Graph E) → NewestRow rows t (Some i) → slice_get rows i ≡ Some row → IfOk made (λ both. size_of both ≤ size_of row.graph + size_of upload) → IfOk made (λ g. size_of g ≤ length (lines_at (dataset_of rows) t) + size_of upload)
united_size rows t i row upload (Err e) found is h = h
united_size rows t i row upload (Ok g) found is h =
    let lines : length (lines_at (dataset_of rows) t) ≡ size_of row.graph = sym (ap length found.lines) ∙ ap (λ o. length (lines_of_row o)) is ∙ length-map (triples_of row.graph) line_of in
    omega (arith, lines, h)

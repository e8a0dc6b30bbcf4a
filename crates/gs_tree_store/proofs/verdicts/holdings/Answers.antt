use Rattle.std.proofs.Common.{◌≡◌, ◌≤◌, sym, ◌∙◌, arith}
use Rattle.gs_pool.specs.Pool.{in_use}
use Rattle.gs_catalogue.specs.Catalogues.{triple_count}
use Rattle.gs_event.specs.Datasets.{triples_in, names_in}
use Rattle.gs_datasets.proofs.Sizes.{triples_in-is, names_in-is}
use Rattle.gs_tree_store.specs.Books.{graphs_of, dataset_of}
use Rattle.gs_tree_store.proofs.VerdictLemmas.{triples_in_use}
use Rattle.gs_tree_store.proofs.verdicts.holdings.Goals as goal

pub overflow_cast-result : goal.overflow_cast-result
overflow_cast-result c =
    let few : triple_count (graphs_of c.args.books.now) ≤ in_use c.args.books.now.pool = triples_in_use c.args.books.now c.requires in
    omega (arith, few, c.triples.ensures, c.nodes_in_use-used.ensures.value)

pub returns : goal.returns
returns c =
    let b = c.args.books.now in
    let triples : c.triples.result ≡ triples_in (dataset_of b) = c.triples.ensures ∙ sym (triples_in-is b.dict.terms b.pool (graphs_of b) c.requires.sound.versions) in
    let names : c.names.result ≡ names_in (dataset_of b) = c.names.ensures ∙ sym (names_in-is b.dict.terms b.pool (graphs_of b)) in
    λ i. record { triples = triples i; names = names i; commit = c.commit.ensures i; limits = b.limits }

use Rattle.std.proofs.Common.{◌∙◌, ◌≤◌, arith}
use Rattle.gs_catalogue.specs.Catalogues.{triple_count}
use Rattle.gs_pool.specs.Pool.{in_use}
use Rattle.gs_tree_store.specs.Books.{graphs_of}
use Rattle.gs_tree_store.proofs.CountLemmas.{triples_few, triples_kept}
use Rattle.gs_tree_store.proofs.stores.TreeStore.triples_now.Goals as goal

pub overflow_cast-result : goal.overflow_cast-result
overflow_cast-result c =
    let few : triple_count (graphs_of c.self.inside.books) ≤ in_use c.self.inside.books.pool = triples_few c.self.inside c.self.invariant in
    omega (arith, few, c.triples.ensures, c.nodes_in_use-used.ensures.value)

pub returns : goal.returns
returns c = c.triples.ensures ∙ triples_kept c.self.inside c.self.invariant c.args.self.now c.self.view_is

use Rattle.std.proofs.Common.{is_some, sym, ap, ◌∙◌}
use Rattle.gs_datasets.proofs.Sizes.{is_there-is}
use Rattle.gs_tree_store.specs.Books.{graphs_of}
use Rattle.gs_tree_store.proofs.books.is_there.Goals as goal

pub returns : goal.returns
returns c =
    let b = c.args.books.now in
    c.is_some.ensures ∙ ap is_some c.get.ensures ∙ sym (is_there-is b.dict.terms b.pool (graphs_of b) c.args.target.now)

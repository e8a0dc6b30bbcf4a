use Rattle.std.proofs.Common.{◌≡◌, length, ap, ◌∙◌, arith}
use Rattle.gs_event.specs.Datasets.{lines_at}
use Rattle.gs_event.proofs.DatasetLemmas.{triples_in-without_graph}
use Rattle.gs_plain.specs.Books.{dataset_of, size_now}
use Rattle.gs_plain.proofs.patches.patched.Goals as goal

pub overflow_sub-others : goal.overflow_sub-others
overflow_sub-others c =
    let own : c.size_at-before.result ≡ size_now c.args.books.now c.args.target.now = c.size_at-before.ensures ∙ ap (λ rows. length (lines_at (dataset_of rows) c.args.target.now)) c.as_slice-rows.ensures.value in
    omega (arith, own, c.requires.counted.triples, triples_in-without_graph (dataset_of c.args.books.now.rows.items) c.args.target.now)

use Rattle.std.proofs.Common.{ap, ◌∙◌}
use Rattle.std.specs.List.{count_by}
use Rattle.gs_plain.specs.Books.{will_commit}
use Rattle.gs_plain.proofs.KeptLemmas.{nodes_kept}
use Rattle.gs_plain.proofs.stores.PlainStore.nodes_in_use.Goals as goal

pub returns : goal.returns
returns c =
    let opened = c.open_count.ensures.value ∙ ap (count_by will_commit) c.as_slice.ensures.value in
    nodes_kept c.self.inside c.args.self.now c.record_count-records.result c.open_count.result c.self.view_is c.self.invariant c.record_count-records.ensures.value opened

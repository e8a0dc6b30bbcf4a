use Rattle.std.proofs.Common.{map, ap, ◌∙◌}
use Rattle.gs_event.specs.Updates.{without_triples}
use Rattle.gs_keys.specs.Texts.{triple_at}
use Rattle.gs_keys.specs.Roots.{graph_of_root}
use Rattle.gs_patch.proofs.OperationLemmas.{loses_so}
use Rattle.gs_patch.proofs.OutLemmas.{without_known}
use Rattle.gs_patch.proofs.operations.delete.Goals as goal

pub returns-clause-ok : goal.returns-clause-ok
returns-clause-ok c =
    let terms = c.args.dict.now.terms in
    let p = c.args.pool.now in
    let root = c.args.root in
    let ts = c.args.triples.now.items in
    let same =
    ap (λ ks. without_triples (graph_of_root terms p root) (map (triple_at terms) ks)) c.as_slice.ensures.value
    ∙ without_known terms p root ts c.in-Ok.keys.items c.requires c.in-Ok.ensures in
    loses_so c.take_out.result c.args.birth terms p c.take_out.new.pool root (map (triple_at terms) c.as_slice.result.now) ts same c.take_out.ensures.ok

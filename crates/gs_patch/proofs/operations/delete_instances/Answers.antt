use Rattle.std.proofs.Common.{map, sym, ap, subst, ◌∙◌}
use Rattle.gs_event.specs.Updates.{without_triples}
use Rattle.gs_event.specs.Solutions.{instances_of}
use Rattle.gs_graphs.proofs.SolvingLemmas.{without_instances}
use Rattle.gs_tree.specs.Keys.{AllKeys}
use Rattle.gs_keys.specs.Texts.{triple_at, IsGiven}
use Rattle.gs_keys.specs.Roots.{graph_of_root}
use Rattle.gs_patch.proofs.OperationLemmas.{loses_so, instances_given}
use Rattle.gs_patch.proofs.operations.delete_instances.Goals as goal

pub take_out-requires-clause-given : goal.take_out-requires-clause-given
take_out-requires-clause-given c =
    let terms = c.args.dict.now.terms in
    subst (AllKeys (IsGiven terms)) (sym (c.as_slice.ensures.value ∙ c.in-Ok.ensures.value)) (instances_given terms c.args.pool.now c.args.root c.args.patterns.now c.requires)

pub returns-clause-ok : goal.returns-clause-ok
returns-clause-ok c =
    let terms = c.args.dict.now.terms in
    let p = c.args.pool.now in
    let root = c.args.root in
    let g = graph_of_root terms p root in
    let ps = c.args.patterns.now in
    let same =
    ap (λ ks. without_triples g (map (triple_at terms) ks)) c.as_slice.ensures.value
    ∙ without_instances g ps (map (triple_at terms) c.in-Ok.keys.items) c.in-Ok.ensures.instances in
    loses_so c.take_out.result c.args.birth terms p c.take_out.new.pool root (map (triple_at terms) c.as_slice.result.now) (instances_of g ps) same c.take_out.ensures.ok

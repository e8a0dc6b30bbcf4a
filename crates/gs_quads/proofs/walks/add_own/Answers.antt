use Rattle.std.proofs.Common.{sym, subst}
use Rattle.gs_quads.specs.Found.{own_graph, FindsMore}
use Rattle.gs_quads.proofs.Adding.{adds_none}
use Rattle.gs_quads.proofs.walks.add_own.Goals as goal

pub returns-in-None : goal.returns-in-None
returns-in-None c =
    let s = c.args.source.now in
    subst (λ f. FindsMore s c.args.most c.args.found.now c.args.found.now (own_graph s f)) (sym c.in-None.is) (adds_none s c.args.most c.args.found.now c.requires.found)

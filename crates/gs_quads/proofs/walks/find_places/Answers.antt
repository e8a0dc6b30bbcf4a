use Rattle.std.proofs.Common.{subst}
use Rattle.gs_quads.specs.Found.{all_graphs, numbers_past, FindsMore}
use Rattle.gs_quads.proofs.Adding.{no_places}
use Rattle.gs_quads.proofs.Walking.{places_are}
use Rattle.gs_quads.proofs.walks.find_places.Goals as goal

pub returns-clause-places : goal.returns-clause-places
returns-clause-places c =
    let s = c.args.source.now in
    let none = c.in_ok-found.found in
    places_are s c.args.version c.requires.graphs c.args.most c.args.from c.requires.place none c.add_own.new.found c.add_after.new.found
    (no_places s c.args.most none c.in_ok-found.ensures.0 c.in_ok-found.ensures.1)
    c.in_ok-add_own.ensures
    (subst (λ f. FindsMore s c.args.most c.add_own.new.found c.add_after.new.found (all_graphs s (numbers_past c.args.version s.records.now f))) c.number_at.ensures c.in_ok-add_after.ensures)

use Rattle.std.proofs.Common.{refl, ap, ◌+◌, ◌∙◌, []}
use Rattle.gs_graphs.specs.declared.solutions.Place.{Place}
use Rattle.gs_graphs.specs.Solving.{bound_by}
use Rattle.gs_graphs.proofs.StepLemmas.{given_up}
use Rattle.gs_graphs.proofs.solutions.go_back.Goals as goal

pub returns : goal.returns
returns c = λ marks.
    let new : Place = record { choices = c.pop.new.self; bound = c.bind_all.new.bound; next = c.in-Some.last + 1 } in
    given_up c.args.triples.now c.args.patterns.now c.args.place.now new c.pop.new.self.items c.in-Some.last marks c.requires.place c.requires.tried c.in-Some.ensures.items refl
    (c.in_ok-bind_all.ensures ∙ ap (bound_by c.args.triples.now c.args.patterns.now []) c.as_slice.ensures.value) refl

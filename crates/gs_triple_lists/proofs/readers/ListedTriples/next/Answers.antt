use Rattle.std.proofs.lemmas.List.Elements.{All-rest}
use Rattle.gs_triple_lists.specs.Kept.{IsTripleIn}
use Rattle.gs_triple_lists.proofs.readers.ListedTriples.next.Goals as goal

pub invariant_of-self : goal.invariant_of-self
invariant_of-self c = record { known = All-rest (IsTripleIn c.args.self.now.terms.now) c.in_ok-first.first.now c.in_ok-first.rest.now c.args.self.now.numbers.now c.in_ok-first.ensures.cases.0 c.args.self.now.known }

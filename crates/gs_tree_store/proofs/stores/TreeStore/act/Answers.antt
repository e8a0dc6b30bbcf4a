use Rattle.std.proofs.Common.{◌<◌, ◌≤◌, length, arith, refl}
use Rattle.std.specs.Vec.{with_item}
use Rattle.gs_tree_store.specs.declared.stores.TreeStore.TheInside.{Inside}
use Rattle.gs_tree_store.specs.Kept.{IsKept}
use Rattle.gs_tree_store.proofs.KeptLemmas.{ready_at, opened_here, kept_after}
use Rattle.gs_tree_store.proofs.StepLemmas.{steps_after, uses_after, steps_nowhere}
use Rattle.gs_tree_store.proofs.stores.TreeStore.act.Goals as goal

pub returns-then-place-len-clause-steps : goal.returns-then-place-len-clause-steps
returns-then-place-len-clause-steps c =
    let past : length c.self.inside.seats.items ≤ c.args.number = omega arith in
    steps_nowhere c.self.inside c.args.number c.args.action.now past c.args.self.now c.self.view_is

pub act-answer-requires-clause-ready : goal.act-answer-requires-clause-ready
act-answer-requires-clause-ready c =
    let within : c.args.number < length c.self.inside.seats.items = omega arith in
    ready_at c.self.inside c.args.number c.index_mut-held.result.now c.self.invariant within c.index_mut-held.ensures.value

pub act-answer-requires-clause-opened : goal.act-answer-requires-clause-opened
act-answer-requires-clause-opened c =
    let within : c.args.number < length c.self.inside.seats.items = omega arith in
    opened_here c.self.inside c.args.number c.index_mut-held.result.now c.self.invariant within c.index_mut-held.ensures.value

abbrev after : goal.After-in_use-after → Inside
after c = record { alloc = c.self.inside.alloc; books = c.act-answer.new.books; seats = with_item c.self.inside.seats c.args.number c.act-answer.new.seat; swept = c.self.inside.swept }

is_kept : (c : goal.After-in_use-after) → IsKept (after c)
is_kept c =
    let within : c.args.number < length c.self.inside.seats.items = omega arith in
    kept_after c.self.inside (after c) c.args.number c.index_mut-held.result.now c.act-answer.new.seat c.args.action.now c.act-answer.result c.self.invariant within c.index_mut-held.ensures.value refl c.act-answer.ensures.acts c.act-answer.ensures.records c.latest-listed.ensures.listed c.latest-still.ensures.listed

pub invariant_of-self : goal.invariant_of-self
invariant_of-self c = is_kept c

pub returns-clause-steps : goal.returns-clause-steps
returns-clause-steps c =
    let within : c.args.number < length c.self.inside.seats.items = omega arith in
    steps_after c.self.inside (after c) c.args.number c.index_mut-held.result.now c.act-answer.new.seat c.args.action.now c.act-answer.result c.self.invariant within c.index_mut-held.ensures.value refl c.act-answer.ensures.acts c.act-answer.ensures.records c.latest-listed.ensures.listed c.latest-still.ensures.listed c.args.self.now c.self.view_is

pub returns-clause-uses : goal.returns-clause-uses
returns-clause-uses c =
    let within : c.args.number < length c.self.inside.seats.items = omega arith in
    uses_after c.self.inside (after c) c.args.number c.index_mut-held.result.now c.act-answer.new.seat c.args.action.now c.act-answer.result c.self.invariant within c.index_mut-held.ensures.value refl c.act-answer.ensures.acts c.act-answer.ensures.records c.latest-listed.ensures.listed c.latest-still.ensures.listed c.args.self.now c.self.view_is (is_kept c) c.in_use-before.ensures.parts c.in_use-after.ensures.parts

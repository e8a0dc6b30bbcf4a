use Rattle.std.proofs.Common.{◌≡◌, ◌<◌, length, arith, refl, ap, subst}
use Rattle.std.specs.Vec.{with_item}
use Rattle.gs_plain.specs.declared.stores.PlainStore.TheInside.{Inside}
use Rattle.gs_plain.specs.Actions.{KeepsRoom}
use Rattle.gs_event.specs.Waste.{Shown}
use Rattle.gs_plain.proofs.KeptLemmas.{kept_after, fits_after, next_after}
use Rattle.gs_plain.proofs.PinLemmas.{pins_after}
use Rattle.gs_plain.proofs.stores.PlainStore.act.Goals as goal

pub invariant_of-self : goal.invariant_of-self
invariant_of-self c =
    let within : c.args.seat < length c.self.inside.seats.items = omega arith in
    let seats : c.len-seats.result ≡ length c.self.inside.seats.items = omega arith in
    let room = subst (λ n. KeepsRoom n c.self.inside.books c.act.new.books c.index_mut-held.result.now c.act.new.seat) seats c.act.ensures.room in
    let new : Inside = record { alloc = c.self.inside.alloc; books = c.act.new.books; seats = with_item c.self.inside.seats c.args.seat c.act.new.seat } in
    kept_after c.self.inside new c.args.seat c.index_mut-held.result.now c.act.new.seat c.args.action.now c.act.result within c.index_mut-held.ensures.value refl c.act.ensures.acts room c.self.invariant

pub returns-clause-fits : goal.returns-clause-fits
returns-clause-fits c =
    let within : c.args.seat < length c.self.inside.seats.items = omega arith in
    fits_after c.self.inside c.args.self.now.view c.act.new.books c.args.seat c.index_mut-held.result.now c.act.new.seat c.args.action.now c.act.result (ap (λ (s : Shown). s.view) c.self.view_is) within c.index_mut-held.ensures.value c.act.ensures.acts

pub returns-clause-view : goal.returns-clause-view
returns-clause-view c =
    let within : c.args.seat < length c.self.inside.seats.items = omega arith in
    let new : Inside = record { alloc = c.self.inside.alloc; books = c.act.new.books; seats = with_item c.self.inside.seats c.args.seat c.act.new.seat } in
    next_after c.self.inside new c.args.self.now.view c.args.seat c.index_mut-held.result.now c.act.new.seat c.args.action.now c.act.result (ap (λ (s : Shown). s.view) c.self.view_is) within c.index_mut-held.ensures.value refl c.act.ensures.acts c.self.invariant.known

pub returns-clause-pinned : goal.returns-clause-pinned
returns-clause-pinned c =
    let within : c.args.seat < length c.self.inside.seats.items = omega arith in
    pins_after c.self.inside c.args.self.now (with_item c.self.inside.seats c.args.seat c.act.new.seat).items c.args.seat c.index_mut-held.result.now c.act.new.seat c.args.action.now c.act.result c.self.view_is within c.index_mut-held.ensures.value refl c.act.ensures.acts.pin

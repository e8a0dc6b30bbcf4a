use Rattle.std.proofs.Common.{refl, ap, ◌∙◌, []}
use Rattle.gs_event.specs.Histories.{view_of}
use Rattle.gs_plain.specs.declared.stores.PlainStore.TheInside.{Inside}
use Rattle.gs_plain.proofs.KeptLemmas.{fresh_view, fresh_kept}
use Rattle.gs_plain.proofs.PinLemmas.{fresh_pins}
use Rattle.gs_plain.proofs.stores.PlainStore.starting_at.Goals as goal

pub invariant_of-result : goal.invariant_of-result
invariant_of-result c =
    let new : Inside = record { alloc = c.args.alloc; books = record { base = c.in_ok-base.base; limits = c.args.limits; request = c.args.request; commit = c.args.commit; triples = 0; names = 0; staged = 0; default_write = c.args.commit; last_removal = c.args.commit; rows = c.new.result }; seats = c.in_ok-idle.idle } in
    fresh_kept new c.args.seats c.new.ensures.items c.new.ensures.len c.in_ok-idle.ensures refl refl refl (rw c.in_ok-base.ensures.ok c.requires)

pub returns-clause-view : goal.returns-clause-view
returns-clause-view c =
    let new : Inside = record { alloc = c.args.alloc; books = record { base = c.in_ok-base.base; limits = c.args.limits; request = c.args.request; commit = c.args.commit; triples = 0; names = 0; staged = 0; default_write = c.args.commit; last_removal = c.args.commit; rows = c.new.result }; seats = c.in_ok-idle.idle } in
    fresh_view new c.args.seats c.new.ensures.items c.in_ok-idle.ensures refl refl
    ∙ ap (λ b. view_of (record { seats = c.args.seats; setting = record { base = b; limits = c.args.limits }; request = c.args.request; commit = c.args.commit }) []) c.in_ok-base.ensures.ok

pub returns-clause-pinned : goal.returns-clause-pinned
returns-clause-pinned c = fresh_pins (record { seats = c.args.seats; setting = record { base = c.args.base.now; limits = c.args.limits }; request = c.args.request; commit = c.args.commit }) c.in_ok-idle.idle.items c.in_ok-idle.ensures

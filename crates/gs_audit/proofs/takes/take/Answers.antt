use Rattle.std.proofs.Common.{length, refl}
use Rattle.std.proofs.lemmas.Option.{slice_get_read}
use Rattle.gs_chronicle.specs.Views.{page_of}
use Rattle.gs_audit.proofs.TakeLemmas.{taken_by, absent_by}
use Rattle.gs_audit.proofs.takes.take.Goals as goal

pub returns-in-Some : goal.returns-in-Some
returns-in-Some g c =
    let slots = c.args.slots.now.items in
    let seat = c.in-Seat.seat in
    let slot = c.in-Some.slot.now in
    let there = slice_get_read slots (length slots) seat slot refl c.in-Some.ensures.item.3.0 c.in-Some.ensures.value in
    let t = c.take_at in
    taken_by g.row.ENTRIES g.row.TRIPLES c.args.store.now t.new.store slots (page_of c.args.page.now) (page_of t.new.page) t.result c.requires.seats
    c.args.event.now seat c.in-Seat.field-1 slot t.new.slot c.in-Seat.is there t.ensures.steps t.ensures.phase t.ensures.count t.ensures.page

pub returns-in-None : goal.returns-in-None
returns-in-None g c =
    let s = c.step-in-None in
    absent_by g.row.ENTRIES g.row.TRIPLES c.args.store.now s.new.self c.args.slots.now.items (page_of c.args.page.now) (page_of c.args.page.now) s.result c.requires.seats
    c.args.event.now c.in-Seat.seat c.in-Seat.field-1 c.in-Seat.is c.in-None.ensures.item.3 s.ensures.steps refl

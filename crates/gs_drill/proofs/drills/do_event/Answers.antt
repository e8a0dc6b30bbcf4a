use Rattle.std.proofs.Common.{sym, subst}
use Rattle.gs_event.specs.declared.events.Event.{Event}
use Rattle.gs_drill.specs.Commits.{DoesEvent}
use Rattle.gs_drill.specs.Printing.{reply_text}
use Rattle.gs_drill.specs.Standing.{desk_of}
use Rattle.gs_drill.proofs.PlayLemmas.{printed_by, asks_event}
use Rattle.gs_drill.proofs.drills.do_event.Goals as goal

pub returns-in-Ok-clause-does : goal.returns-in-Ok-clause-does
returns-in-Ok-clause-does g c = λ st.
    let held = g.W.Write.contents in
    let en = c.in-Ok.ensures.does st in
    let text = reply_text c.in-Ok.reply in
    let P : Event → Type 0 = λ e. DoesEvent (desk_of st) e text (desk_of en.0) in
    printed_by desk_of en.0 (DoesEvent (desk_of st) c.args.event) text (held c.args.out.now) (held c.write_reply.new.out) c.write_reply.result (subst P (sym c.in-Some.ensures) en.1) c.write_reply.ensures

pub returns-in-Ok-ask-clause-does : goal.returns-in-Ok-ask-clause-does
returns-in-Ok-ask-clause-does g c = λ st.
    let asked = c.in-Ok-ask.ensures.does st in
    let en = asked.makes in
    record { text = asked.text; last = en.0; makes = asks_event (desk_of st) (desk_of en.0) c.args.event asked.text c.in-None.ensures en.1; written = asked.written }

pub returns-clause-does : goal.returns-clause-does
returns-clause-does g c = λ st.
    let asked = c.in-Err-ask.ensures.does st in
    let en = asked.makes in
    record { text = asked.text; last = desk_of en.0; makes = asks_event (desk_of st) (desk_of en.0) c.args.event asked.text c.in-None.ensures en.1; written = asked.written }

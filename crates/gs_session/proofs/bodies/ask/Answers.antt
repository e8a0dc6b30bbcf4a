use Rattle.std.proofs.Common.{sym, ap, ◌∙◌}
use Rattle.gs_session.specs.Plans.{plan_told}
use Rattle.gs_session.proofs.SkipLemmas.{delete_steps, look_steps, pin_steps, early_steps}
use Rattle.gs_session.proofs.bodies.ask.Goals as goal

pub returns-in-Ok-Delete : goal.returns-in-Ok-Delete
returns-in-Ok-Delete g c = λ e b t over.
    delete_steps g.D.Door.Gives c.args.setup.now e c.args.asked t c.in-Ok-Delete.target c.in-Ok-Delete.since b c.args.door.now c.delete.new.door c.delete.result over (sym c.in-Ok-Delete.ensures ∙ ap plan_told c.in-Ok-Delete.field-0-is) c.delete.ensures

pub returns-in-Ok-Look : goal.returns-in-Ok-Look
returns-in-Ok-Look g c = λ e b t over.
    look_steps g.D.Door.Gives c.args.setup.now e c.args.asked t c.in-Ok-Look.scope b c.args.door.now c.look.new.door c.look.result over (sym c.in-Ok-Look.ensures ∙ ap plan_told c.in-Ok-Look.field-0-is) c.look.ensures

pub returns-in-Ok-Read : goal.returns-in-Ok-Read
returns-in-Ok-Read g c = λ e b t over.
    pin_steps g.D.Door.Gives c.args.setup.now e c.args.asked t c.in-Ok-Read.scope b c.args.door.now c.pin.new.door c.pin.result over (sym c.in-Ok-Read.ensures ∙ ap plan_told c.in-Ok-Read.field-0-is) c.pin.ensures

pub returns-in_default : goal.returns-in_default
returns-in_default g c = λ e b t over. early_steps g.D.Door.Gives c.args.setup.now e c.args.asked t b c.args.door.now c.reply.result c.reply.ensures

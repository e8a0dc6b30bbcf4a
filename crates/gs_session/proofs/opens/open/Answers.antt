use Rattle.std.proofs.Common.{refl, sym, ap, ◌∙◌}
use Rattle.gs_event.specs.declared.events.Action.TheVariants as act
use Rattle.gs_session.specs.Plans.{plan_told}
use Rattle.gs_session.proofs.OpenLemmas.{open_short, open_makes, open_patch_makes}
use Rattle.gs_session.proofs.opens.open.Goals as goal

pub returns-in_default : goal.returns-in_default
returns-in_default g c = λ e b. (refl, open_short c.args.setup.now e c.args.asked b c.reply.result c.reply.ensures)

pub returns-in-Ok-Upload : goal.returns-in-Ok-Upload
returns-in-Ok-Upload g c = λ e b.
    let made = c.open_upload.ensures in
    let plan = ap plan_told (sym c.in-Ok-Upload.field-0-is) ∙ c.in-Ok-Upload.ensures in (
      act.Open c.in-Ok-Upload.kind c.in-Ok-Upload.since,
      made.0,
      made.1,
      open_makes c.args.setup.now e c.args.asked c.in-Ok-Upload.kind c.in-Ok-Upload.since made.0 b c.in-Ok.greeting.items c.open_upload.result plan c.in-Ok.ensures made.2,
    )

pub returns-in-Ok-Patch : goal.returns-in-Ok-Patch
returns-in-Ok-Patch g c = λ e b.
    let made = c.open_patch.ensures in
    let plan = ap plan_told (sym c.in-Ok-Patch.field-0-is) ∙ c.in-Ok-Patch.ensures in (
      act.OpenPatch c.in-Ok-Patch.target c.in-Ok-Patch.since,
      made.0,
      made.1,
      open_patch_makes c.args.setup.now e c.args.asked c.in-Ok-Patch.target c.in-Ok-Patch.since made.0 b c.in-Ok.greeting.items c.open_patch.result plan c.in-Ok.ensures made.2,
    )

pub returns-in_default-plan_of : goal.returns-in_default-plan_of
returns-in_default-plan_of g c = λ e b. (refl, open_short c.args.setup.now e c.args.asked b c.reply-in_default-plan_of.result c.reply-in_default-plan_of.ensures)

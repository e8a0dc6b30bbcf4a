use Rattle.std.proofs.Common.{sym, subst}
use Rattle.gs_update_places.specs.Places.{Follows}
use Rattle.gs_update_places.specs.Steps.{transition_at_place}
use Rattle.gs_update_places.specs.declared.places.Place.{Place}
use Rattle.gs_update_places.specs.declared.places.Place.TheVariants as place
use Rattle.gs_update_places.proofs.PlaceLemmas.{inserting_follows, deleting_follows, seeking_follows}
use Rattle.gs_update_places.proofs.places.Place.step_block.Goals as goal

pub returns-in_ok-step-in-Inserting : goal.returns-in_ok-step-in-Inserting
returns-in_ok-step-in-Inserting c =
    subst (λ (p : Place). Follows (transition_at_place p c.args.symbol) c.in_ok-step-in-Inserting.field-0 (place.Inserting c.step.new.self)) (sym c.in-Inserting.is)
    (inserting_follows c.in-Inserting.block c.step.new.self c.args.symbol c.in_ok-step-in-Inserting.field-0 c.in_ok-step-in-Inserting.ensures.turn c.in_ok-step-in-Inserting.ensures.stays)

pub returns-in_ok-step-in-Deleting : goal.returns-in_ok-step-in-Deleting
returns-in_ok-step-in-Deleting c =
    subst (λ (p : Place). Follows (transition_at_place p c.args.symbol) c.in_ok-step-in-Deleting.field-0 (place.Deleting c.step-in-Deleting.new.self)) (sym c.in-Deleting.is)
    (deleting_follows c.in-Deleting.block c.step-in-Deleting.new.self c.args.symbol c.in_ok-step-in-Deleting.field-0 c.in_ok-step-in-Deleting.ensures.turn c.in_ok-step-in-Deleting.ensures.stays)

pub returns-in_ok-step-in-Seeking : goal.returns-in_ok-step-in-Seeking
returns-in_ok-step-in-Seeking c =
    subst (λ (p : Place). Follows (transition_at_place p c.args.symbol) c.in_ok-step-in-Seeking.field-0 (place.Seeking c.step-in-Seeking.new.self)) (sym c.in-Seeking.is)
    (seeking_follows c.in-Seeking.block c.step-in-Seeking.new.self c.args.symbol c.in_ok-step-in-Seeking.field-0 c.in_ok-step-in-Seeking.ensures.turn c.in_ok-step-in-Seeking.ensures.stays)

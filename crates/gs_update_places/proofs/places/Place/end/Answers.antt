use Rattle.std.proofs.Common.{sym, ap, ◌∙◌}
use Rattle.std.specs.Prelude.{Some}
use Rattle.gs_update_text.specs.Requests.{Inserts, DeletesData}
use Rattle.gs_update_text.specs.Operations.{some_patterns}
use Rattle.gs_update_text.specs.Machine.{ended}
use Rattle.gs_update_places.specs.Views.{state_at}
use Rattle.gs_update_places.specs.declared.places.Place.{Place}
use Rattle.gs_update_places.proofs.places.Place.end.Goals as goal

pub returns-in_ok-end-in-Inserting : goal.returns-in_ok-end-in-Inserting
unfolding ended
returns-in_ok-end-in-Inserting c = ap Some (c.in_ok-end-in-Inserting.ensures (λ P. Some (Inserts P))) ∙ ap (λ (p : Place). ended (state_at p)) (sym c.in-Inserting.is)

pub returns-in_ok-end-in-Deleting : goal.returns-in_ok-end-in-Deleting
unfolding ended
returns-in_ok-end-in-Deleting c = ap Some (c.in_ok-end-in-Deleting.ensures (λ P. Some (DeletesData P))) ∙ ap (λ (p : Place). ended (state_at p)) (sym c.in-Deleting.is)

pub returns-in_ok-end-in-Seeking : goal.returns-in_ok-end-in-Seeking
unfolding ended
returns-in_ok-end-in-Seeking c = ap Some (c.in_ok-end-in-Seeking.ensures some_patterns) ∙ ap (λ (p : Place). ended (state_at p)) (sym c.in-Seeking.is)

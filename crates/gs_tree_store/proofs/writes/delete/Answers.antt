use Rattle.std.proofs.Common.{None, refl, sym, ap, subst, ◌∙◌, true≢false}
use Rattle.gs_event.specs.declared.events.Action.TheVariants.{Delete}
use Rattle.gs_model.specs.declared.refusals.Refusal.TheVariants.{LastNumber}
use Rattle.gs_event.specs.declared.answers.Answer.TheVariants.{Refused, Status}
use Rattle.gs_event.specs.Operations.{is_success}
use Rattle.gs_records.specs.Waste.{waste_in}
use Rattle.gs_tree_store.specs.declared.books.Seat.TheVariants.{Idle}
use Rattle.gs_tree_store.specs.Books.{totals_of, IsReady}
use Rattle.gs_event.specs.Wasting.{DeleteRecords}
use Rattle.gs_tree_store.specs.Opened.{KeepsRecords}
use Rattle.gs_tree_store.specs.Actions.{Acts}
use Rattle.gs_tree_store.proofs.ConditionLemmas.{none_if, change_in_time}
use Rattle.gs_tree_store.proofs.OpenedLemmas.{open_stays}
use Rattle.gs_tree_store.proofs.DeleteLemmas.{found_missing, found_there, deleted, delete_missing, delete_late, delete_refused}
use Rattle.gs_tree_store.proofs.writes.delete.Goals as goal

pub unreachable-requires : goal.unreachable-requires
unreachable-requires c =
    let b = c.args.books.now in
    let there = found_there b c.args.target.now c.get-found.result c.get-found.ensures (rw c.if-is_none.false at c.is_none.ensures) in
    true≢false (sym there ∙ c.in-Missing.ensures)

pub returns-then-is_none-clause-acts : goal.returns-then-is_none-clause-acts
returns-then-is_none-clause-acts c = λ s ready.
    let b = c.args.books.now in
    let t = c.args.target.now in
    let missing = found_missing b t c.get-found.result c.get-found.ensures (rw c.if-is_none.true at c.is_none.ensures) in
    subst (λ x. Acts b b s x x (Delete t c.args.since) (Status 404 None c.commit.result)) (sym c.in-Idle.is)
    (subst (λ n. Acts b b s Idle Idle (Delete t c.args.since) (Status 404 None n)) (sym c.commit.ensures) (delete_missing b s t c.args.since missing (subst (IsReady b s) c.in-Idle.is ready)))

pub returns-in-Some-clause-acts : goal.returns-in-Some-clause-acts
returns-in-Some-clause-acts c = λ s ready.
    let b = c.args.books.now in
    let t = c.args.target.now in
    let there = found_there b t c.get-found.result c.get-found.ensures (rw c.if-is_none.false at c.is_none.ensures) in
    subst (λ x. Acts b b s x x (Delete t c.args.since) (Status 412 None c.in-Some.number)) (sym c.in-Idle.is)
    (delete_late b s t c.args.since c.in-Some.number there c.in-Some.ensures (subst (IsReady b s) c.in-Idle.is ready))

pub returns-in-LastNumber-clause-acts : goal.returns-in-LastNumber-clause-acts
returns-in-LastNumber-clause-acts c = λ s ready.
    let b = c.args.books.now in
    let t = c.args.target.now in
    let decided = c.in-LastNumber.ensures in
    let early = sym c.late_write.ensures ∙ none_if c.late_write.result c.in_default-late_write.not-Some in
    subst (λ x. Acts b b s x x (Delete t c.args.since) (Refused LastNumber)) (sym c.in-Idle.is)
    (delete_refused b s t c.args.since (change_in_time b t c.args.since decided.0 early) decided.0 decided.1 (subst (IsReady b s) c.in-Idle.is ready))

pub returns-in-Granted-clause-acts : goal.returns-in-Granted-clause-acts
returns-in-Granted-clause-acts c = λ s ready.
    let b = c.args.books.now in
    let t = c.args.target.now in
    let decided = c.in-Granted.ensures in
    let early = sym c.late_write.ensures ∙ none_if c.late_write.result c.in_default-late_write.not-Some in
    let number = c.commit-in-Granted.result in
    subst (λ x. Acts b c.remove_version.new.books s x x (Delete t c.args.since) (Status c.in-Granted.status None number)) (sym c.in-Idle.is)
    (deleted b c.remove_version.new.books s t c.args.since c.in-Granted.status number c.remove_version.ensures (change_in_time b t c.args.since decided.0 early) decided.0 decided.1 decided.2 c.commit-in-Granted.ensures (subst (IsReady b s) c.in-Idle.is ready))

pub returns-in-Granted-clause-records : goal.returns-in-Granted-clause-records
returns-in-Granted-clause-records c =
    let b = c.args.books.now in
    let t = c.args.target.now in
    let new = c.remove_version.new.books in
    let gone = c.remove_version.ensures in
    let answer = Status c.in-Granted.status None c.commit-in-Granted.result in
    let well = ap is_success c.in-Granted.ensures.1 in
    subst (λ x. KeepsRecords b new x x (Delete t c.args.since) answer) (sym c.in-Idle.is)
    (open_stays b new Idle Idle (Delete t c.args.since) answer refl gone.same_opened gone.same gone.counts gone.counts.used
    (subst (λ x. DeleteRecords (totals_of b) t x (waste_in b.records.records) (waste_in new.records.records)) (sym well) gone.waste))

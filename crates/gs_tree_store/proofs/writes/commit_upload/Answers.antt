use Rattle.std.proofs.Common.{None, refl, sym, ap, subst}
use Rattle.gs_event.specs.declared.events.Action.TheVariants.{Commit}
use Rattle.gs_event.specs.declared.answers.Answer.TheVariants.{Status}
use Rattle.gs_records.specs.Waste.{waste_in}
use Rattle.gs_tree_store.specs.declared.books.Seat.TheVariants.{Writing}
use Rattle.gs_tree_store.specs.Books.{totals_of}
use Rattle.gs_tree_store.specs.Opened.{own_record}
use Rattle.gs_tree_store.specs.Actions.{Acts}
use Rattle.gs_tree_store.proofs.ConditionLemmas.{upload_late}
use Rattle.gs_tree_store.proofs.OpenedLemmas.{record_given_up}
use Rattle.gs_tree_store.proofs.WriteLemmas.{upload_graph, has_upload, late_takes, commit_failed, failed_records}
use Rattle.gs_tree_store.proofs.writes.commit_upload.Goals as goal

pub drop_upload-requires-clause-upload : goal.drop_upload-requires-clause-upload
drop_upload-requires-clause-upload c = has_upload c.args.books.now c.args.kind c.args.request c.args.upload c.args.opened c.args.since c.requires.ready

pub drop_upload-requires-clause-opened : goal.drop_upload-requires-clause-opened
drop_upload-requires-clause-opened c = c.requires.opened c.args.opened refl

pub returns-in-Some-clause-acts : goal.returns-in-Some-clause-acts
returns-in-Some-clause-acts c = λ s ready.
    let b = c.args.books.now in
    let k = c.args.kind in
    let r = c.args.request in
    let v = c.args.upload in
    let new = c.drop_upload.new.books in
    let number = c.in-Some.number in
    subst (λ x. Acts b new s (Writing k r v c.args.opened c.args.since) x Commit (Status 412 None number)) (sym c.requires.idle)
    (commit_failed b new s k r v c.args.opened c.args.since 412 number c.drop_upload.ensures (upload_late b k r (upload_graph b v) c.args.since number c.in-Some.ensures) refl ready (late_takes k r (upload_graph b v) c.args.since number))

pub returns-in-Some-clause-records : goal.returns-in-Some-clause-records
returns-in-Some-clause-records c =
    let b = c.args.books.now in
    let k = c.args.kind in
    let new = c.drop_upload.new.books in
    let was = Writing k c.args.request c.args.upload c.args.opened c.args.since in
    record_given_up b new was c.args.seat.now Commit (Status 412 None c.in-Some.number) c.args.opened refl (ap own_record c.requires.idle) (c.requires.opened c.args.opened refl) c.drop_upload.ensures.gives (λ e. e)
    (failed_records (totals_of b) k (upload_graph b c.args.upload) (waste_in b.records.records) (waste_in new.records.records))

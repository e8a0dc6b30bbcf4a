use Rattle.std.proofs.Common.{arith, None, Some, string_bytes, refl, sym, ap, subst, ◌∙◌}
use Rattle.gs_model.specs.Graphs.{size_of}
use Rattle.gs_model.specs.declared.refusals.Refusal.TheVariants.{LastNumber as NoNumber, NoMemory}
use Rattle.gs_term.specs.declared.names.Target.TheVariants.{Named}
use Rattle.gs_event.specs.declared.events.UploadKind.TheVariants.{New}
use Rattle.gs_event.specs.declared.events.Action.TheVariants.{Commit}
use Rattle.gs_event.specs.declared.answers.Answer.TheVariants.{Refused, Status}
use Rattle.gs_event.specs.declared.verdicts.Verdict.TheVariants.{Full, LastNumber, Granted}
use Rattle.gs_event.specs.Datasets.{is_there, size_at}
use Rattle.gs_event.specs.Operations.{Creates, is_success}
use Rattle.gs_event.proofs.VerdictLemmas.{made_well}
use Rattle.gs_records.specs.Waste.{waste_in}
use Rattle.gs_tree_store.specs.declared.books.Seat.TheVariants.{Writing}
use Rattle.gs_tree_store.specs.Books.{books_setting, dataset_of, totals_of}
use Rattle.gs_event.specs.Wasting.{UploadRecords}
use Rattle.gs_tree_store.specs.Writes.{Puts}
use Rattle.gs_tree_store.specs.Verdicts.{name_for, DecidesUpload}
use Rattle.gs_tree_store.specs.Opened.{own_record}
use Rattle.gs_tree_store.specs.Actions.{Acts}
use Rattle.gs_tree_store.proofs.ConditionLemmas.{no_number}
use Rattle.gs_tree_store.proofs.VerdictLemmas.{is_stored, is_not_stored, would_be_stored, name_reported, no_name_reported, new_is_empty}
use Rattle.gs_tree_store.proofs.RecordLemmas.{new_wastes}
use Rattle.gs_tree_store.proofs.OpenedLemmas.{records_stay, record_let_go, record_given_up}
use Rattle.gs_tree_store.proofs.WriteLemmas.{upload_graph, asked_by, has_upload, commit_refused, upload_full, commit_stored, taken_over}
use Rattle.gs_tree_store.proofs.writes.commit_new.Goals as goal

pub drop_upload-requires-clause-upload : goal.drop_upload-requires-clause-upload
drop_upload-requires-clause-upload c = has_upload c.args.books.now New c.args.request c.args.upload c.args.opened c.args.since c.requires.ready

pub drop_upload-requires-clause-opened : goal.drop_upload-requires-clause-opened
drop_upload-requires-clause-opened c = c.requires.opened c.args.opened refl

pub put_version-requires-clause-opened : goal.put_version-requires-clause-opened
put_version-requires-clause-opened c = c.requires.opened c.args.opened refl

pub returns-in-Full-clause-acts : goal.returns-in-Full-clause-acts
returns-in-Full-clause-acts c = λ s ready.
    let b = c.args.books.now in
    let r = c.args.request in
    let w = books_setting b in
    let m = dataset_of b in
    let own = name_for b r in
    let g = upload_graph b c.args.upload in
    let new = c.drop_upload.new.books in
    let decided = subst (λ n. DecidesUpload b (Named n) c.args.upload Full) c.in-Ok.ensures.0 c.in-Full.ensures in
    let not = is_not_stored w m b.versions.commit (Creates r g) (Named own) g refl refl decided in
    subst (λ x. Acts b new s (Writing New r c.args.upload c.args.opened c.args.since) x Commit (Status 507 None c.commit.result)) (sym c.requires.idle)
    (upload_full b new s New r c.args.upload c.args.opened c.args.since c.commit.result c.drop_upload.ensures refl not (no_name_reported w m r g decided) c.commit.ensures ready (λ m n same. same))

pub returns-in-LastNumber-clause-acts : goal.returns-in-LastNumber-clause-acts
returns-in-LastNumber-clause-acts c = λ s ready.
    let b = c.args.books.now in
    let r = c.args.request in
    let g = upload_graph b c.args.upload in
    let decided = subst (λ n. DecidesUpload b (Named n) c.args.upload LastNumber) c.in-Ok.ensures.0 c.in-LastNumber.ensures in
    commit_refused b s New r c.args.upload c.args.opened c.args.since (no_number (totals_of b) (asked_by b New r c.args.upload c.args.since) refl (would_be_stored (books_setting b) (dataset_of b) b.versions.commit (Creates r g) (Named (name_for b r)) g refl refl decided) decided.1) ready

pub returns-in-Granted-clause-acts : goal.returns-in-Granted-clause-acts
returns-in-Granted-clause-acts c = λ s ready.
    let b = c.args.books.now in
    let new = c.put_version.new.books in
    let r = c.args.request in
    let w = books_setting b in
    let m = dataset_of b in
    let own = name_for b r in
    let g = upload_graph b c.args.upload in
    let status = c.in-Granted.status in
    let decided = subst (λ n. DecidesUpload b (Named n) c.args.upload (Granted status c.in-Granted.field-1 c.in-Granted.field-2)) c.in-Ok.ensures.0 c.in-Granted.ensures in
    let stored = is_stored w m b.versions.commit (Creates r g) (Named own) g refl refl status c.in-Granted.field-1 c.in-Granted.field-2 decided in
    let puts = subst (λ n. Puts b new c.args.opened (Named n) c.args.upload) c.in-Ok.ensures.0 c.put_version.ensures in
    let name = ap Some c.in-Ok.ensures.1 ∙ name_reported w m r g decided.0 in
    subst (λ x. Acts b new s (Writing New r c.args.upload c.args.opened c.args.since) x Commit (Status status (Some c.in-Ok.location) c.commit-in-Granted.result)) (sym c.requires.idle)
    (commit_stored b new s New r c.args.upload c.args.opened c.args.since (Named own) status (Some c.in-Ok.location) c.commit-in-Granted.result puts decided.2 refl stored name c.commit-in-Granted.ensures refl
    (λ x y j. taken_over b.versions.commit (size_of g) (size_at m (Named own)) x y (omega (arith, new_is_empty (string_bytes b.base) m r)) j) (λ x handed none. (handed, none)) ready)

pub returns-in_default-clause-records : goal.returns-in_default-clause-records
returns-in_default-clause-records c =
    let b = c.args.books.now in
    let was = Writing New c.args.request c.args.upload c.args.opened c.args.since in
    records_stay b b was was Commit (Refused NoMemory) refl refl refl refl

pub returns-in-Full-clause-records : goal.returns-in-Full-clause-records
returns-in-Full-clause-records c =
    let b = c.args.books.now in
    let new = c.drop_upload.new.books in
    let was = Writing New c.args.request c.args.upload c.args.opened c.args.since in
    record_given_up b new was c.args.seat.now Commit (Status 507 None c.commit.result) c.args.opened refl (ap own_record c.requires.idle) (c.requires.opened c.args.opened refl) c.drop_upload.ensures.gives (λ e. e) (λ j. j)

pub returns-in-LastNumber-clause-records : goal.returns-in-LastNumber-clause-records
returns-in-LastNumber-clause-records c =
    let b = c.args.books.now in
    let was = Writing New c.args.request c.args.upload c.args.opened c.args.since in
    records_stay b b was was Commit (Refused NoNumber) refl refl refl refl

pub returns-in-Granted-clause-records : goal.returns-in-Granted-clause-records
returns-in-Granted-clause-records c =
    let b = c.args.books.now in
    let r = c.args.request in
    let new = c.put_version.new.books in
    let own = name_for b r in
    let g = upload_graph b c.args.upload in
    let status = c.in-Granted.status in
    let decided = subst (λ n. DecidesUpload b (Named n) c.args.upload (Granted status c.in-Granted.field-1 c.in-Granted.field-2)) c.in-Ok.ensures.0 c.in-Granted.ensures in
    let puts = subst (λ n. Puts b new c.args.opened (Named n) c.args.upload) c.in-Ok.ensures.0 c.put_version.ensures in
    let well = ap is_success decided.1 ∙ made_well (is_there (dataset_of b) (Named own)) in
    let wastes = new_wastes (totals_of b) r g (waste_in b.records.records) (waste_in new.records.records) puts.waste in
    record_let_go b new (Writing New r c.args.upload c.args.opened c.args.since) c.args.seat.now Commit (Status status (Some c.in-Ok.location) c.commit-in-Granted.result) c.args.opened refl (ap own_record c.requires.idle) puts.lets_go puts.same puts.counts puts.counts.used
    (subst (λ x. UploadRecords (totals_of b) New g x (waste_in b.records.records) (waste_in new.records.records)) (sym well) wastes)

use Rattle.std.proofs.Common.{None, refl, sym, ap, subst, ◌∙◌}
use Rattle.gs_model.specs.declared.refusals.Refusal.TheVariants.{LastNumber as NoNumber}
use Rattle.gs_event.specs.declared.events.UploadKind.TheVariants.{Put}
use Rattle.gs_event.specs.declared.events.Action.TheVariants.{Commit}
use Rattle.gs_event.specs.declared.answers.Answer.TheVariants.{Refused, Status}
use Rattle.gs_event.specs.Datasets.{is_there}
use Rattle.gs_event.specs.Operations.{Puts, is_success}
use Rattle.gs_event.proofs.VerdictLemmas.{made_well}
use Rattle.gs_records.specs.Waste.{waste_in}
use Rattle.gs_tree_store.specs.declared.books.Seat.TheVariants.{Writing}
use Rattle.gs_tree_store.specs.Books.{books_setting, dataset_of, totals_of}
use Rattle.gs_event.specs.Wasting.{UploadRecords}
use Rattle.gs_tree_store.specs.Opened.{own_record}
use Rattle.gs_tree_store.specs.Actions.{Acts}
use Rattle.gs_tree_store.proofs.ConditionLemmas.{upload_in_time}
use Rattle.gs_tree_store.proofs.VerdictLemmas.{is_stored, is_not_stored}
use Rattle.gs_tree_store.proofs.OpenedLemmas.{records_stay, record_let_go, record_given_up}
use Rattle.gs_tree_store.proofs.WriteLemmas.{upload_graph, has_upload, upload_full, commit_stored}
use Rattle.gs_tree_store.proofs.writes.commit_put.Goals as goal

pub drop_upload-requires-clause-upload : goal.drop_upload-requires-clause-upload
drop_upload-requires-clause-upload c = has_upload c.args.books.now (Put c.args.target) c.args.request c.args.upload c.args.opened c.args.since c.requires.ready

pub drop_upload-requires-clause-opened : goal.drop_upload-requires-clause-opened
drop_upload-requires-clause-opened c = c.requires.opened c.args.opened refl

pub put_version-requires-clause-opened : goal.put_version-requires-clause-opened
put_version-requires-clause-opened c = c.requires.opened c.args.opened refl

pub returns-in-Full-clause-acts : goal.returns-in-Full-clause-acts
returns-in-Full-clause-acts c = λ s ready.
    let b = c.args.books.now in
    let t = c.args.target in
    let g = upload_graph b c.args.upload in
    let new = c.drop_upload.new.books in
    let not = is_not_stored (books_setting b) (dataset_of b) b.versions.commit (Puts t g) t g refl refl c.in-Full.ensures in
    subst (λ x. Acts b new s (Writing (Put t) c.args.request c.args.upload c.args.opened c.args.since) x Commit (Status 507 None c.commit.result)) (sym c.requires.idle)
    (upload_full b new s (Put t) c.args.request c.args.upload c.args.opened c.args.since c.commit.result c.drop_upload.ensures (upload_in_time b t c.args.since c.requires.in_time) not refl c.commit.ensures ready (λ m n same. same))

pub returns-in-Granted-clause-acts : goal.returns-in-Granted-clause-acts
returns-in-Granted-clause-acts c = λ s ready.
    let b = c.args.books.now in
    let t = c.args.target in
    let g = upload_graph b c.args.upload in
    let decided = c.in-Granted.ensures in
    let stored = is_stored (books_setting b) (dataset_of b) b.versions.commit (Puts t g) t g refl refl c.in-Granted.status c.in-Granted.field-1 c.in-Granted.field-2 decided in
    subst (λ x. Acts b c.put_version.new.books s (Writing (Put t) c.args.request c.args.upload c.args.opened c.args.since) x Commit (Status c.in-Granted.status None c.commit-in-Granted.result)) (sym c.requires.idle)
    (commit_stored b c.put_version.new.books s (Put t) c.args.request c.args.upload c.args.opened c.args.since t c.in-Granted.status None c.commit-in-Granted.result c.put_version.ensures decided.2 (upload_in_time b t c.args.since c.requires.in_time) stored refl c.commit-in-Granted.ensures refl (λ a b j. j) (λ x handed none. (handed, none)) ready)

pub returns-in-Full-clause-records : goal.returns-in-Full-clause-records
returns-in-Full-clause-records c =
    let b = c.args.books.now in
    let new = c.drop_upload.new.books in
    let was = Writing (Put c.args.target) c.args.request c.args.upload c.args.opened c.args.since in
    record_given_up b new was c.args.seat.now Commit (Status 507 None c.commit.result) c.args.opened refl (ap own_record c.requires.idle) (c.requires.opened c.args.opened refl) c.drop_upload.ensures.gives (λ e. e) (λ j. j)

pub returns-in-LastNumber-clause-records : goal.returns-in-LastNumber-clause-records
returns-in-LastNumber-clause-records c =
    let b = c.args.books.now in
    let was = Writing (Put c.args.target) c.args.request c.args.upload c.args.opened c.args.since in
    records_stay b b was was Commit (Refused NoNumber) refl refl refl refl

pub returns-in-Granted-clause-records : goal.returns-in-Granted-clause-records
returns-in-Granted-clause-records c =
    let b = c.args.books.now in
    let t = c.args.target in
    let new = c.put_version.new.books in
    let puts = c.put_version.ensures in
    let status = c.in-Granted.status in
    let was = Writing (Put t) c.args.request c.args.upload c.args.opened c.args.since in
    let well = ap is_success c.in-Granted.ensures.1 ∙ made_well (is_there (dataset_of b) t) in
    record_let_go b new was c.args.seat.now Commit (Status status None c.commit-in-Granted.result) c.args.opened refl (ap own_record c.requires.idle) puts.lets_go puts.same puts.counts puts.counts.used
    (subst (λ x. UploadRecords (totals_of b) (Put t) (upload_graph b c.args.upload) x (waste_in b.records.records) (waste_in new.records.records)) (sym well) puts.waste)

use Rattle.std.proofs.Common.{refl, sym, ap, subst}
use Rattle.gs_event.specs.declared.events.Action.TheVariants.{Cancel}
use Rattle.gs_event.specs.declared.answers.Answer.TheVariants.{Cancelled}
use Rattle.gs_tree_store.specs.declared.books.Books.{Books}
use Rattle.gs_tree_store.specs.declared.books.Seat.TheVariants.{Idle, Writing, Patching, Reading, ReadingAll}
use Rattle.gs_tree_store.specs.Opened.{own_record, KeepsRecords}
use Rattle.gs_tree_store.specs.Actions.{Acts}
use Rattle.gs_tree_store.proofs.OpenedLemmas.{records_stay, record_given_up}
use Rattle.gs_tree_store.proofs.AlikeLemmas.{gives_up_same}
use Rattle.gs_tree_store.proofs.ActionLemmas.{seat_upload, upload_cancelled, patch_cancelled, read_cancelled, all_cancelled}
use Rattle.gs_tree_store.proofs.actions.cancel.Goals as goal
use Rattle.gs_tree_store.proofs.actions.cancel.Goals.{in-Writing, in-Patching, in-Reading, in-ReadingAll}

pub drop_upload-requires-clause-upload : goal.drop_upload-requires-clause-upload
drop_upload-requires-clause-upload c = seat_upload c.args.books.now c.args.number c.args.seat.now c.in-Writing.field-0 c.in-Writing.field-1 c.in-Writing.upload c.in-Writing.opened c.in-Writing.field-4 c.in-Writing.is c.requires.ready

pub drop_upload-requires-clause-opened : goal.drop_upload-requires-clause-opened
drop_upload-requires-clause-opened c = c.requires.opened c.in-Writing.opened (ap own_record c.in-Writing.is)

pub give_up-requires : goal.give_up-requires
give_up-requires c = c.requires.opened c.in-Patching.opened (ap own_record c.in-Patching.is)

pub returns-clause-acts : goal.returns-clause-acts
returns-clause-acts c =
    let b = c.args.books.now in
    let n = c.args.number in
    let seat = c.args.seat.now in
    elim c.match-seat.branch [
      | in-Writing w ↦
          subst (λ y. Acts b y n seat Idle Cancel Cancelled) (sym w.books-is)
          (upload_cancelled b w.drop_upload.new.books n seat w.in-Writing.field-0 w.in-Writing.field-1 w.in-Writing.upload w.in-Writing.opened w.in-Writing.field-4 w.in-Writing.is w.drop_upload.ensures c.requires.ready)
      | in-Patching w ↦ patch_cancelled b c.match-seat.books n seat w.in-Patching.field-0 w.in-Patching.field-1 w.in-Patching.opened w.in-Patching.field-3 w.give_up.new.self
          w.in-Patching.is w.books-is (gives_up_same b.records w.give_up.new.self w.in-Patching.opened w.give_up.ensures) c.requires.ready
      | in-Reading w ↦ read_cancelled b c.match-seat.books n seat w.in-Reading.field-0 w.in-Reading.field-1 w.unpin.new.self w.in-Reading.is w.books-is w.unpin.ensures c.requires.ready
      | in-ReadingAll w ↦ all_cancelled b c.match-seat.books n seat w.in-ReadingAll.field-0 w.in-ReadingAll.field-1 w.unpin-in-ReadingAll.new.self w.in-ReadingAll.is w.books-is w.unpin-in-ReadingAll.ensures c.requires.ready
    ]

pub returns-clause-records : goal.returns-clause-records
returns-clause-records c =
    let b = c.args.books.now in
    let d = c.match-seat.books in
    let seat = c.args.seat.now in
    elim c.match-seat.branch [
      | in-Writing w ↦
          let o = w.in-Writing.opened in
          let new = w.drop_upload.new.books in
          let was = Writing w.in-Writing.field-0 w.in-Writing.field-1 w.in-Writing.upload o w.in-Writing.field-4 in
          subst (λ x. KeepsRecords b d x Idle Cancel Cancelled) (sym w.in-Writing.is)
          (subst (λ y. KeepsRecords b y was Idle Cancel Cancelled) (sym w.books-is) (record_given_up b new was Idle Cancel Cancelled o refl refl (c.requires.opened o (ap own_record w.in-Writing.is)) w.drop_upload.ensures.gives (λ e. e) (λ j. j)))
      | in-Patching w ↦
          let o = w.in-Patching.opened in
          let new : Books = record b { records = w.give_up.new.self } in
          let was = Patching w.in-Patching.field-0 w.in-Patching.field-1 o w.in-Patching.field-3 in
          subst (λ x. KeepsRecords b d x Idle Cancel Cancelled) (sym w.in-Patching.is)
          (subst (λ y. KeepsRecords b y was Idle Cancel Cancelled) (sym w.books-is) (record_given_up b new was Idle Cancel Cancelled o refl refl (c.requires.opened o (ap own_record w.in-Patching.is)) w.give_up.ensures (λ e. e) (λ j. j)))
      | in-Reading w ↦
          let was = Reading w.in-Reading.field-0 w.in-Reading.field-1 in
          subst (λ x. KeepsRecords b d x Idle Cancel Cancelled) (sym w.in-Reading.is)
          (subst (λ y. KeepsRecords b y was Idle Cancel Cancelled) (sym w.books-is) (records_stay b (record b { versions = w.unpin.new.self }) was Idle Cancel Cancelled refl refl refl refl))
      | in-ReadingAll w ↦
          let was = ReadingAll w.in-ReadingAll.field-0 w.in-ReadingAll.field-1 in
          subst (λ x. KeepsRecords b d x Idle Cancel Cancelled) (sym w.in-ReadingAll.is)
          (subst (λ y. KeepsRecords b y was Idle Cancel Cancelled) (sym w.books-is) (records_stay b (record b { versions = w.unpin-in-ReadingAll.new.self }) was Idle Cancel Cancelled refl refl refl refl))
    ]

use Rattle.std.proofs.Common.{◌≡◌, ◌+◌, true, None, refl, sym, ap, subst, ◌∙◌, arith}
use Rattle.gs_model.specs.declared.refusals.Refusal.TheVariants.{LastNumber as NoNumber, NoMemory}
use Rattle.gs_event.specs.declared.events.UploadKind.TheVariants.{Post}
use Rattle.gs_event.specs.declared.events.Action.TheVariants.{Commit}
use Rattle.gs_event.specs.declared.answers.Answer.TheVariants.{Status}
use Rattle.gs_records.specs.Waste.{waste_in}
use Rattle.gs_versions.specs.Pins.{Pins}
use Rattle.gs_tree_store.specs.declared.books.Books.{Books}
use Rattle.gs_tree_store.specs.declared.books.Seat.TheVariants.{Writing}
use Rattle.gs_tree_store.specs.LastWrites.{by_target}
use Rattle.gs_tree_store.specs.Books.{totals_of}
use Rattle.gs_tree_store.specs.Uploads.{TakesKeys}
use Rattle.gs_event.specs.Wasting.{UploadRecords}
use Rattle.gs_tree_store.specs.Opened.{own_record, KeepsRecords}
use Rattle.gs_tree_store.specs.Actions.{Acts}
use Rattle.gs_tree_store.proofs.RecordLemmas.{granted_well, post_wastes}
use Rattle.gs_tree_store.proofs.OpenedLemmas.{refused_stays, put_lets_go, all_put, record_let_go, record_given_up}
use Rattle.gs_tree_store.proofs.AlikeLemmas.{gives_up_same, with_records}
use Rattle.gs_tree_store.proofs.UndoneLemmas.{with_nodes}
use Rattle.gs_tree_store.proofs.DraftLemmas.{with_draft, put_next, put_last}
use Rattle.gs_tree_store.proofs.WriteLemmas.{upload_graph, next_later}
use Rattle.gs_tree_store.proofs.UploadLemmas.{upload_draft, post_unread}
use Rattle.gs_tree_store.proofs.PostLemmas.{mid_can, again_fits, post_unmade, draft_undone, draft_last, draft_full, draft_stored}
use Rattle.gs_tree_store.proofs.posts.commit_post.Goals as goal

pub take_keys-requires-clause-draft : goal.take_keys-requires-clause-draft
take_keys-requires-clause-draft c = upload_draft c.args.books.now (Post c.args.target) c.args.request c.args.upload c.args.opened c.args.since c.requires.ready

pub returns-in_default-clause-acts : goal.returns-in_default-clause-acts
returns-in_default-clause-acts c = λ s ready.
    post_unread c.args.books.now _ s c.args.target c.args.request c.args.upload c.args.opened c.args.since _ _ c.requires.in_time c.in_default.ensures.kept c.leave_open.ensures refl ready

pub united-requires-clause-can : goal.united-requires-clause-can
united-requires-clause-can c =
    mid_can c.args.books.now c.args.target c.args.request c.args.upload c.args.opened c.args.since _ _ c.requires.ready c.requires.in_time c.in-Ok.ensures.ok c.version_of-old.result (c.commit-birth.result + 1) c.version_of-old.ensures (omega (arith, c.commit-birth.ensures))

pub make_again-upload-requires : goal.make_again-upload-requires
make_again-upload-requires c =
    let apart = subst (λ xs. TakesKeys c.args.books.now.pool c.take_keys.new.pool c.args.upload.root xs) (sym c.as_slice-run.ensures.value) c.in-Ok.ensures.ok in
    again_fits c.args.books.now c.args.target c.args.request c.args.upload c.args.opened c.args.since _ c.as_slice-run.result.now c.requires.ready c.requires.in_time apart _ c.in_default-united.ensures.kept c.in_default-united.ensures.total

pub returns-in_default-united-clause-acts : goal.returns-in_default-united-clause-acts
returns-in_default-united-clause-acts c = λ s ready.
    let apart = subst (λ xs. TakesKeys c.args.books.now.pool c.take_keys.new.pool c.args.upload.root xs) (sym c.as_slice-run.ensures.value) c.in-Ok.ensures.ok in
    post_unmade c.args.books.now c.args.target c.args.request c.args.upload c.args.opened c.args.since _ c.as_slice-run.result.now c.requires.ready c.requires.in_time apart _ c.in_default-united.ensures.kept
    _ (c.commit-birth.result + 1) s c.make_again-upload.result _ _ (omega (arith, c.commit-birth.ensures)) c.make_again-upload.ensures c.leave_open-in_default-united.ensures refl ready

pub make_again-upload-requires-in-LastNumber : goal.make_again-upload-requires-in-LastNumber
make_again-upload-requires-in-LastNumber c =
    let apart = subst (λ xs. TakesKeys c.args.books.now.pool c.take_keys.new.pool c.args.upload.root xs) (sym c.as_slice-run.ensures.value) c.in-Ok.ensures.ok in
    let back = draft_undone c.args.books.now c.args.target c.args.request c.args.upload c.args.opened c.args.since _ c.as_slice-run.result.now c.requires.ready c.requires.in_time apart
    _ (c.commit-birth.result + 1) c.version_of-old.result c.in-Ok-united.draft c.version_of-old.ensures c.in-Ok-united.ensures.ok _ c.take_back-in-LastNumber.ensures.undoes in
    again_fits c.args.books.now c.args.target c.args.request c.args.upload c.args.opened c.args.since _ c.as_slice-run.result.now c.requires.ready c.requires.in_time apart _ back (omega (arith, c.in-Ok-united.ensures.total, c.take_back-in-LastNumber.ensures.total))

pub returns-in-Full-clause-acts : goal.returns-in-Full-clause-acts
returns-in-Full-clause-acts c = λ s ready.
    let b = c.args.books.now in
    let apart = subst (λ xs. TakesKeys c.args.books.now.pool c.take_keys.new.pool c.args.upload.root xs) (sym c.as_slice-run.ensures.value) c.in-Ok.ensures.ok in
    let new = with_records (with_nodes b b.dict c.take_back.new.pool) c.give_up.new.self in
    let was = Writing (Post c.args.target) c.args.request c.args.upload c.args.opened c.args.since in
    subst (λ n. Acts b new s was c.args.seat.now Commit (Status 507 None n)) (sym c.commit.ensures)
    (draft_full c.args.books.now c.args.target c.args.request c.args.upload c.args.opened c.args.since _ c.as_slice-run.result.now c.requires.ready c.requires.in_time apart
    _ (c.commit-birth.result + 1) c.version_of-old.result c.in-Ok-united.draft c.version_of-old.ensures c.in-Ok-united.ensures.ok _ _ c.holdings-held.ensures c.place-place.ensures
    c.take_back.new.pool c.give_up.new.self s c.args.seat.now c.requires.idle (gives_up_same c.args.books.now.records c.give_up.new.self c.args.opened c.give_up.ensures) c.in-Full.ensures c.take_back.ensures.undoes ready)

pub returns-in-LastNumber-clause-acts : goal.returns-in-LastNumber-clause-acts
returns-in-LastNumber-clause-acts c = λ s ready.
    let apart = subst (λ xs. TakesKeys c.args.books.now.pool c.take_keys.new.pool c.args.upload.root xs) (sym c.as_slice-run.ensures.value) c.in-Ok.ensures.ok in
    draft_last c.args.books.now c.args.target c.args.request c.args.upload c.args.opened c.args.since _ c.as_slice-run.result.now c.requires.ready c.requires.in_time apart
    _ (c.commit-birth.result + 1) c.version_of-old.result c.in-Ok-united.draft c.version_of-old.ensures c.in-Ok-united.ensures.ok _ _ c.holdings-held.ensures c.place-place.ensures
    _ _ s c.make_again-upload-in-LastNumber.result _ _ c.in-LastNumber.ensures c.take_back-in-LastNumber.ensures.undoes (omega (arith, c.commit-birth.ensures))
    c.make_again-upload-in-LastNumber.ensures c.leave_open-in-LastNumber.ensures refl ready

pub returns-in-Granted-clause-acts : goal.returns-in-Granted-clause-acts
returns-in-Granted-clause-acts c = λ s ready.
    let b = c.args.books.now in
    let t = c.args.target in
    let v = c.in-Ok-united.draft in
    let birth = c.commit-birth.result + 1 in
    let write = by_target t birth b.default_write in
    let k = c.keep_version.new.books in
    let kept = c.keep_version.ensures in
    let new = with_draft b b.dict k.pool k.versions k.records write in
    let status = c.in-Granted.status in
    let was = Writing (Post t) c.args.request c.args.upload c.args.opened c.args.since in
    let apart = subst (λ xs. TakesKeys b.pool c.take_keys.new.pool c.args.upload.root xs) (sym c.as_slice-run.ensures.value) c.in-Ok.ensures.ok in
    let last : c.commit-in-Granted.result ≡ b.versions.commit + 1 = c.commit-in-Granted.ensures ∙ ap (λ (x : Pins). x.commit) kept.commit in
    subst (λ x. Acts b x s was c.args.seat.now Commit (Status status None c.commit-in-Granted.result)) (sym kept.is)
    (subst (λ n. Acts b new s was c.args.seat.now Commit (Status status None n)) (sym last)
    (draft_stored b t c.args.request c.args.upload c.args.opened c.args.since _ c.as_slice-run.result.now c.requires.ready c.requires.in_time apart
    _ birth c.version_of-old.result v c.version_of-old.ensures c.in-Ok-united.ensures.ok _ _ c.holdings-held.ensures c.place-place.ensures
    k.pool k.versions k.records write s status _ _ c.args.seat.now c.requires.idle c.in-Granted.ensures
    (omega (arith, c.commit-birth.ensures)) kept.ledgers kept.commit kept.nodes kept.aside kept.puts.now (put_next b b.dict k.pool k.versions k.records c.args.opened t v birth kept.puts ready.sound.written)
    (put_last b b.dict k.pool k.versions k.records c.args.opened t v birth kept.puts) ready))

pub give_up-requires : goal.give_up-requires
give_up-requires c = c.requires.opened c.args.opened refl

pub keep_version-requires-clause-opened : goal.keep_version-requires-clause-opened
keep_version-requires-clause-opened c = c.requires.opened c.args.opened refl

pub keep_version-requires-clause-later : goal.keep_version-requires-clause-later
keep_version-requires-clause-later c = next_later c.args.books.now (Writing (Post c.args.target) c.args.request c.args.upload c.args.opened c.args.since) (c.commit-birth.result + 1) (omega (arith, c.commit-birth.ensures)) c.requires.ready

pub returns-in_default-clause-records : goal.returns-in_default-clause-records
returns-in_default-clause-records c =
    let b = c.args.books.now in
    refused_stays b (with_nodes b b.dict _) (Writing (Post c.args.target) c.args.request c.args.upload c.args.opened c.args.since) _ Commit _ NoMemory refl (ap own_record c.leave_open.ensures) refl refl refl

pub returns-in_default-united-clause-records : goal.returns-in_default-united-clause-records
returns-in_default-united-clause-records c =
    let b = c.args.books.now in
    refused_stays b (with_nodes b b.dict _) (Writing (Post c.args.target) c.args.request c.args.upload c.args.opened c.args.since) _ Commit _ NoMemory refl (ap own_record c.leave_open-in_default-united.ensures) refl refl refl

pub returns-in-Full-clause-records : goal.returns-in-Full-clause-records
returns-in-Full-clause-records c =
    let b = c.args.books.now in
    let new : Books = with_records (with_nodes b b.dict c.take_back.new.pool) c.give_up.new.self in
    let was = Writing (Post c.args.target) c.args.request c.args.upload c.args.opened c.args.since in
    record_given_up b new was c.args.seat.now Commit (Status 507 None c.commit.result) c.args.opened refl (ap own_record c.requires.idle) (c.requires.opened c.args.opened refl) c.give_up.ensures (λ e. e) (λ j. j)

pub returns-in-LastNumber-clause-records : goal.returns-in-LastNumber-clause-records
returns-in-LastNumber-clause-records c =
    let b = c.args.books.now in
    refused_stays b (with_nodes b b.dict _) (Writing (Post c.args.target) c.args.request c.args.upload c.args.opened c.args.since) _ Commit _ NoNumber refl (ap own_record c.leave_open-in-LastNumber.ensures) refl refl refl

pub returns-in-Granted-clause-records : goal.returns-in-Granted-clause-records
returns-in-Granted-clause-records c =
    let b = c.args.books.now in
    let t = c.args.target in
    let v = c.in-Ok-united.draft in
    let birth = c.commit-birth.result + 1 in
    let write = by_target t birth b.default_write in
    let k = c.keep_version.new.books in
    let kept = c.keep_version.ensures in
    let new = with_draft b b.dict k.pool k.versions k.records write in
    let status = c.in-Granted.status in
    let was = Writing (Post t) c.args.request c.args.upload c.args.opened c.args.since in
    let apart = subst (λ xs. TakesKeys b.pool c.take_keys.new.pool c.args.upload.root xs) (sym c.as_slice-run.ensures.value) c.in-Ok.ensures.ok in
    let next : birth ≡ b.versions.commit + 1 = omega (arith, c.commit-birth.ensures) in
    let some = c.requires.ready in
    let puts = kept.puts in
    let answer = Status status None c.commit-in-Granted.result in
    let well = granted_well c.holdings-held.result c.place-place.result v.triples true status c.in-Granted.field-1 c.in-Granted.field-2 c.in-Granted.ensures in
    let done : Acts b new some.number was c.args.seat.now Commit (Status status None (b.versions.commit + 1)) =
    draft_stored b t c.args.request c.args.upload c.args.opened c.args.since _ c.as_slice-run.result.now c.requires.ready c.requires.in_time apart
    _ birth c.version_of-old.result v c.version_of-old.ensures c.in-Ok-united.ensures.ok _ _ c.holdings-held.ensures c.place-place.ensures
    k.pool k.versions k.records write some.number status _ _ c.args.seat.now c.requires.idle c.in-Granted.ensures
    next kept.ledgers kept.commit kept.nodes kept.aside kept.puts.now (put_next b b.dict k.pool k.versions k.records c.args.opened t v birth kept.puts some.ready.sound.written)
    (put_last b b.dict k.pool k.versions k.records c.args.opened t v birth kept.puts) some.ready in
    let wastes = post_wastes b new some.number status c.args.seat.now t c.args.request c.args.opened c.args.since v birth (b.versions.commit + 1) next puts some.ready.sound well c.args.upload done in
    subst (λ x. KeepsRecords b x was c.args.seat.now Commit answer) (sym kept.is)
    (record_let_go b new was c.args.seat.now Commit answer c.args.opened refl (ap own_record c.requires.idle) (put_lets_go b new c.args.opened t v birth puts) (all_put b new c.args.opened t v birth (omega (arith, next)) (c.requires.opened c.args.opened refl) puts) puts.counts puts.counts.used
    (subst (λ x. UploadRecords (totals_of b) (Post t) (upload_graph b c.args.upload) x (waste_in b.records.records) (waste_in new.records.records)) (sym well) wastes))

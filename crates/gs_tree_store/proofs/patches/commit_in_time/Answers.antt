use Rattle.std.proofs.Common.{◌≡◌, ◌+◌, ℕ, false, None, refl, sym, ap, subst, ◌∙◌, arith}
use Rattle.gs_model.specs.declared.refusals.Refusal.TheVariants.{LastNumber as NoNumber, NoMemory}
use Rattle.gs_event.specs.declared.events.Action.TheVariants.{CommitPatch}
use Rattle.gs_event.specs.declared.answers.Answer.TheVariants.{Refused, Status}
use Rattle.gs_event.specs.declared.verdicts.Verdict.TheVariants.{Full, LastNumber, Granted}
use Rattle.gs_records.specs.Waste.{waste_in}
use Rattle.gs_versions.specs.Pins.{Pins}
use Rattle.gs_tree_store.specs.declared.books.Books.{Books}
use Rattle.gs_tree_store.specs.declared.books.Seat.TheVariants.{Idle, Patching}
use Rattle.gs_tree_store.specs.LastWrites.{by_target}
use Rattle.gs_tree_store.specs.Books.{totals_of, IsReady}
use Rattle.gs_event.specs.Wasting.{UpdateRecords}
use Rattle.gs_tree_store.specs.Opened.{own_record, KeepsRecords}
use Rattle.gs_tree_store.specs.Actions.{Acts}
use Rattle.gs_tree_store.proofs.RecordLemmas.{granted_well, patch_wastes}
use Rattle.gs_tree_store.proofs.OpenedLemmas.{records_stay, put_lets_go, all_put, record_let_go, record_given_up}
use Rattle.gs_tree_store.proofs.AlikeLemmas.{gives_up_same, with_records}
use Rattle.gs_tree_store.proofs.WriteLemmas.{has_counts, next_later}
use Rattle.gs_tree_store.proofs.UndoneLemmas.{with_nodes}
use Rattle.gs_tree_store.proofs.DraftLemmas.{with_draft, put_next, put_last}
use Rattle.gs_tree_store.proofs.BeginLemmas.{can_draft}
use Rattle.gs_tree_store.proofs.PatchLemmas.{drafts_here, draft_undone, patch_decided, patch_unmade, patch_last, patch_full, patch_kept}
use Rattle.gs_tree_store.proofs.patches.commit_in_time.Goals as goal

pub patched-draft-requires : goal.patched-draft-requires
patched-draft-requires c =
    let b = c.args.books.now in
    let t = c.args.target in
    can_draft b t c.version_of-old.result (c.commit-birth.result + 1) c.version_of-old.ensures (omega (arith, c.commit-birth.ensures)) (has_counts b (Patching t c.args.request c.args.opened c.args.since) c.requires.ready)

pub returns-in_default-clause-acts : goal.returns-in_default-clause-acts
returns-in_default-clause-acts c = λ s ready.
    patch_unmade c.args.books.now c.patched-draft.new.dict c.patched-draft.new.pool s c.args.target c.args.request c.args.opened c.args.since c.args.operations.now c.in_default.ensures.grows c.in_default.ensures.kept c.requires.there c.requires.in_time ready

pub give_up-requires : goal.give_up-requires
give_up-requires c = c.requires.opened c.args.opened refl

pub keep_version-requires-clause-opened : goal.keep_version-requires-clause-opened
keep_version-requires-clause-opened c = c.requires.opened c.args.opened refl

pub keep_version-requires-clause-later : goal.keep_version-requires-clause-later
keep_version-requires-clause-later c = next_later c.args.books.now (Patching c.args.target c.args.request c.args.opened c.args.since) (c.commit-birth.result + 1) (omega (arith, c.commit-birth.ensures)) c.requires.ready

pub returns-in-Full-clause-acts : goal.returns-in-Full-clause-acts
returns-in-Full-clause-acts c = λ s ready.
    let b = c.args.books.now in
    let t = c.args.target in
    let d = c.patched-draft.new.dict in
    let q = c.patched-draft.new.pool in
    let r = c.take_back.new.pool in
    let ops = c.args.operations.now in
    let v = c.in-Ok.draft in
    let birth = c.commit-birth.result + 1 in
    let there = c.requires.there in
    let made = drafts_here birth b d q t c.version_of-old.result v c.as_slice.result.now ops.items c.version_of-old.ensures c.as_slice.ensures.value c.in-Ok.ensures.ok in
    let decided = patch_decided b t there birth d q ops.items v c.holdings-held.result c.place-place.result Full made c.holdings-held.ensures c.place-place.ensures c.in-Full.ensures in
    let x = c.give_up.new.self in
    let same = gives_up_same b.records x c.args.opened c.give_up.ensures in
    subst (λ n. Acts b (with_records (with_nodes b d r) x) s (Patching t c.args.request c.args.opened c.args.since) c.args.seat.now (CommitPatch ops) (Status 507 None n)) (sym c.commit.ensures)
    (subst (λ y. Acts b (with_records (with_nodes b d r) x) s (Patching t c.args.request c.args.opened c.args.since) y (CommitPatch ops) (Status 507 None b.versions.commit)) (sym c.requires.idle)
    (patch_full b d r s t c.args.request c.args.opened c.args.since ops c.in-Ok.ensures.grows (draft_undone birth b d q r t ops.items v made c.take_back.ensures.undoes) there c.requires.in_time ready x same decided))

pub returns-in-LastNumber-clause-acts : goal.returns-in-LastNumber-clause-acts
returns-in-LastNumber-clause-acts c = λ s ready.
    let b = c.args.books.now in
    let t = c.args.target in
    let d = c.patched-draft.new.dict in
    let q = c.patched-draft.new.pool in
    let r = c.take_back-in-LastNumber.new.pool in
    let ops = c.args.operations.now in
    let v = c.in-Ok.draft in
    let birth = c.commit-birth.result + 1 in
    let there = c.requires.there in
    let made = drafts_here birth b d q t c.version_of-old.result v c.as_slice.result.now ops.items c.version_of-old.ensures c.as_slice.ensures.value c.in-Ok.ensures.ok in
    let decided = patch_decided b t there birth d q ops.items v c.holdings-held.result c.place-place.result LastNumber made c.holdings-held.ensures c.place-place.ensures c.in-LastNumber.ensures in
    patch_last b d r s t c.args.request c.args.opened c.args.since ops c.in-Ok.ensures.grows (draft_undone birth b d q r t ops.items v made c.take_back-in-LastNumber.ensures.undoes) there c.requires.in_time ready decided

-- the books once the draft is kept
abbrev after : goal.After-commit-in-Granted → Books
after c =
    let b = c.args.books.now in
    let k = c.keep_version.new.books in
    with_draft b c.patched-draft.new.dict k.pool k.versions k.records (by_target c.args.target (c.commit-birth.result + 1) b.default_write)

stored : (c : goal.After-commit-in-Granted) (s : ℕ) → IsReady c.args.books.now s (Patching c.args.target c.args.request c.args.opened c.args.since)
    → Acts c.args.books.now (after c) s (Patching c.args.target c.args.request c.args.opened c.args.since) Idle (CommitPatch c.args.operations.now) (Status c.in-Granted.status None (c.args.books.now.versions.commit + 1))
stored c s ready =
    let b = c.args.books.now in
    let t = c.args.target in
    let d = c.patched-draft.new.dict in
    let q = c.patched-draft.new.pool in
    let k = c.keep_version.new.books in
    let kept = c.keep_version.ensures in
    let ops = c.args.operations.now in
    let v = c.in-Ok.draft in
    let g = c.in-Granted in
    let birth = c.commit-birth.result + 1 in
    let made = drafts_here birth b d q t c.version_of-old.result v c.as_slice.result.now ops.items c.version_of-old.ensures c.as_slice.ensures.value c.in-Ok.ensures.ok in
    let decided = patch_decided b t c.requires.there birth d q ops.items v c.holdings-held.result c.place-place.result (Granted g.status g.field-1 g.field-2) made c.holdings-held.ensures c.place-place.ensures g.ensures in
    patch_kept b d q k.pool k.versions k.records (by_target t birth b.default_write) s t c.args.request c.args.opened c.args.since ops v birth g.status g.field-1 g.field-2 (omega (arith, c.commit-birth.ensures)) c.in-Ok.ensures.grows made
    kept.ledgers kept.commit kept.nodes kept.aside kept.puts.now (put_next b d k.pool k.versions k.records c.args.opened t v birth kept.puts ready.sound.written) (put_last b d k.pool k.versions k.records c.args.opened t v birth kept.puts) c.requires.in_time decided ready

pub returns-in-Granted-clause-acts : goal.returns-in-Granted-clause-acts
returns-in-Granted-clause-acts c = λ s ready.
    let b = c.args.books.now in
    let was = Patching c.args.target c.args.request c.args.opened c.args.since in
    let action = CommitPatch c.args.operations.now in
    let status = c.in-Granted.status in
    let kept = c.keep_version.ensures in
    let last : c.commit-in-Granted.result ≡ b.versions.commit + 1 = c.commit-in-Granted.ensures ∙ ap (λ (x : Pins). x.commit) kept.commit in
    subst (λ x. Acts b x s was c.args.seat.now action (Status status None c.commit-in-Granted.result)) (sym kept.is)
    (subst (λ x. Acts b (after c) s was x action (Status status None c.commit-in-Granted.result)) (sym c.requires.idle)
    (subst (λ n. Acts b (after c) s was Idle action (Status status None n)) (sym last) (stored c s ready)))

pub returns-in_default-clause-records : goal.returns-in_default-clause-records
returns-in_default-clause-records c =
    let b = c.args.books.now in
    let seat = Patching c.args.target c.args.request c.args.opened c.args.since in
    records_stay b (with_nodes b c.patched-draft.new.dict c.patched-draft.new.pool) seat seat (CommitPatch c.args.operations.now) (Refused NoMemory) refl refl refl refl

pub returns-in-Full-clause-records : goal.returns-in-Full-clause-records
returns-in-Full-clause-records c =
    let b = c.args.books.now in
    let new : Books = with_records (with_nodes b c.patched-draft.new.dict c.take_back.new.pool) c.give_up.new.self in
    let was = Patching c.args.target c.args.request c.args.opened c.args.since in
    record_given_up b new was c.args.seat.now (CommitPatch c.args.operations.now) (Status 507 None c.commit.result) c.args.opened refl (ap own_record c.requires.idle) (c.requires.opened c.args.opened refl) c.give_up.ensures (λ e. e) (λ j. j)

pub returns-in-LastNumber-clause-records : goal.returns-in-LastNumber-clause-records
returns-in-LastNumber-clause-records c =
    let b = c.args.books.now in
    let seat = Patching c.args.target c.args.request c.args.opened c.args.since in
    records_stay b (with_nodes b c.patched-draft.new.dict c.take_back-in-LastNumber.new.pool) seat seat (CommitPatch c.args.operations.now) (Refused NoNumber) refl refl refl refl

pub returns-in-Granted-clause-records : goal.returns-in-Granted-clause-records
returns-in-Granted-clause-records c =
    let b = c.args.books.now in
    let t = c.args.target in
    let o = c.args.opened in
    let ops = c.args.operations.now in
    let v = c.in-Ok.draft in
    let g = c.in-Granted in
    let birth = c.commit-birth.result + 1 in
    let next : birth ≡ b.versions.commit + 1 = omega (arith, c.commit-birth.ensures) in
    let puts = c.keep_version.ensures.puts in
    let some = c.requires.ready in
    let was = Patching t c.args.request o c.args.since in
    let answer = Status g.status None c.commit-in-Granted.result in
    let well = granted_well c.holdings-held.result c.place-place.result v.triples false g.status g.field-1 g.field-2 g.ensures in
    let wastes = patch_wastes b (after c) some.number g.status Idle t c.args.request o c.args.since v birth (b.versions.commit + 1) next puts some.ready.sound well ops (stored c some.number some.ready) in
    subst (λ x. KeepsRecords b x was c.args.seat.now (CommitPatch ops) answer) (sym c.keep_version.ensures.is)
    (record_let_go b (after c) was c.args.seat.now (CommitPatch ops) answer o refl (ap own_record c.requires.idle) (put_lets_go b (after c) o t v birth puts) (all_put b (after c) o t v birth (omega (arith, next)) (c.requires.opened o refl) puts) puts.counts puts.counts.used
    (subst (λ x. UpdateRecords (totals_of b) t ops.items x (waste_in b.records.records) (waste_in (after c).records.records)) (sym well) wastes))

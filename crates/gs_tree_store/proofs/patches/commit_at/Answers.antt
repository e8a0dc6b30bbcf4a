use Rattle.std.proofs.Common.{None, refl, sym, ap, subst}
use Rattle.gs_event.specs.declared.events.Action.TheVariants.{CommitPatch}
use Rattle.gs_event.specs.declared.answers.Answer.TheVariants.{Status}
use Rattle.gs_tree_store.specs.declared.books.Seat.TheVariants.{Patching}
use Rattle.gs_tree_store.specs.Opened.{own_record}
use Rattle.gs_tree_store.specs.Actions.{Acts}
use Rattle.gs_tree_store.proofs.OpenedLemmas.{record_given_up}
use Rattle.gs_tree_store.proofs.AlikeLemmas.{gives_up_same, with_records}
use Rattle.gs_tree_store.proofs.PatchLemmas.{patch_missing, patch_late}
use Rattle.gs_tree_store.proofs.patches.commit_at.Goals as goal

pub give_up-requires : goal.give_up-requires
give_up-requires c = c.requires.opened c.args.opened refl

pub give_up-requires-in-Some : goal.give_up-requires-in-Some
give_up-requires-in-Some c = c.requires.opened c.args.opened refl

pub returns-then-not-is_there-clause-acts : goal.returns-then-not-is_there-clause-acts
returns-then-not-is_there-clause-acts c = λ s ready.
    let b = c.args.books.now in
    let x = c.give_up.new.self in
    let was = Patching c.args.target c.args.request c.args.opened c.args.since in
    let action = CommitPatch c.args.operations.now in
    let same = gives_up_same b.records x c.args.opened c.give_up.ensures in
    subst (λ n. Acts b (with_records b x) s was c.args.seat.now action (Status 404 None n)) (sym c.commit.ensures)
    (subst (λ y. Acts b (with_records b x) s was y action (Status 404 None b.versions.commit)) (sym c.requires.idle)
    (patch_missing b x s c.args.target c.args.request c.args.opened c.args.since c.args.operations.now same ready (sym c.if-not-is_there.ensures)))

pub returns-in-Some-clause-acts : goal.returns-in-Some-clause-acts
returns-in-Some-clause-acts c = λ s ready.
    let b = c.args.books.now in
    let x = c.give_up-in-Some.new.self in
    let was = Patching c.args.target c.args.request c.args.opened c.args.since in
    let same = gives_up_same b.records x c.args.opened c.give_up-in-Some.ensures in
    subst (λ y. Acts b (with_records b x) s was y (CommitPatch c.args.operations.now) (Status 412 None c.in-Some.number)) (sym c.requires.idle)
    (patch_late b x s c.args.target c.args.request c.args.opened c.args.since c.args.operations.now same ready c.in-Some.number (sym c.if-not-is_there.ensures) c.in-Some.ensures)

pub returns-then-not-is_there-clause-records : goal.returns-then-not-is_there-clause-records
returns-then-not-is_there-clause-records c =
    let b = c.args.books.now in
    let was = Patching c.args.target c.args.request c.args.opened c.args.since in
    record_given_up b (with_records b c.give_up.new.self) was c.args.seat.now (CommitPatch c.args.operations.now) (Status 404 None c.commit.result) c.args.opened refl (ap own_record c.requires.idle) (c.requires.opened c.args.opened refl) c.give_up.ensures (λ e. e) (λ j. j)

pub returns-in-Some-clause-records : goal.returns-in-Some-clause-records
returns-in-Some-clause-records c =
    let b = c.args.books.now in
    let was = Patching c.args.target c.args.request c.args.opened c.args.since in
    record_given_up b (with_records b c.give_up-in-Some.new.self) was c.args.seat.now (CommitPatch c.args.operations.now) (Status 412 None c.in-Some.number) c.args.opened refl (ap own_record c.requires.idle) (c.requires.opened c.args.opened refl) c.give_up-in-Some.ensures (λ e. e) (λ j. j)

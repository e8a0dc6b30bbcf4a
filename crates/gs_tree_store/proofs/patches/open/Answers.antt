use Rattle.std.proofs.Common.{◌+◌, refl, sym, subst}
use Rattle.gs_event.specs.declared.events.Action.TheVariants.{OpenPatch}
use Rattle.gs_event.specs.declared.answers.Answer.TheVariants.{Opened}
use Rattle.gs_tree_store.specs.declared.books.Books.{Books}
use Rattle.gs_tree_store.specs.declared.books.Seat.TheVariants.{Idle, Patching}
use Rattle.gs_tree_store.specs.Opened.{KeepsRecords}
use Rattle.gs_tree_store.proofs.OpenedLemmas.{record_opened}
use Rattle.gs_tree_store.proofs.patches.open.Goals as goal

pub returns-clause-records : goal.returns-clause-records
returns-clause-records c =
    let b = c.args.books.now in
    let new : Books = record b { request = b.request + 1; records = c.open.new.self } in
    let n = c.in-Ok-open.opened in
    let opens = c.in-Ok-open.ensures.ok in
    let now = Patching c.in-Ok.kept (b.request + 1) n c.args.since in
    subst (λ x. KeepsRecords b new x now (OpenPatch c.args.target.now c.args.since) (Opened (b.request + 1))) (sym c.in-Idle.is)
    (record_opened b new Idle now (OpenPatch c.args.target.now c.args.since) (Opened (b.request + 1)) n refl refl opens opens.used opens.waste)

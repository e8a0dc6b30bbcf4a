use Rattle.std.proofs.Common.{◌≡◌, ◌+◌, rules, refl, sym, subst, arith}
use Rattle.gs_event.specs.declared.events.Action.TheVariants.{Open}
use Rattle.gs_event.specs.declared.answers.Answer.TheVariants.{Opened}
use Rattle.gs_tree_store.specs.declared.books.Books.{Books}
use Rattle.gs_tree_store.specs.declared.books.Seat.TheVariants.{Idle, Writing}
use Rattle.gs_tree_store.specs.Opened.{KeepsRecords}
use Rattle.gs_tree_store.proofs.OpenedLemmas.{record_opened}
use Rattle.gs_tree_store.proofs.ActionLemmas.{upload_opened}
use Rattle.gs_tree_store.proofs.actions.open.Goals as goal

pub returns-clause-acts : goal.returns-clause-acts
returns-clause-acts c = λ s.
    let same : c.in-Ok.kept ≡ c.args.kind.now = search rules in
    upload_opened c.args.books.now s c.args.seat.now c.args.kind.now c.in-Ok.kept c.empty.result c.in-Ok-open.opened c.args.since c.open.new.self c.in-Idle.is same c.empty.ensures (omega arith) c.in-Ok-open.ensures.ok

pub returns-clause-records : goal.returns-clause-records
returns-clause-records c =
    let b = c.args.books.now in
    let new : Books = record b { request = b.request + 1; records = c.open.new.self } in
    let n = c.in-Ok-open.opened in
    let opens = c.in-Ok-open.ensures.ok in
    let now = Writing c.in-Ok.kept (b.request + 1) c.empty.result n c.args.since in
    subst (λ x. KeepsRecords b new x now (Open c.args.kind.now c.args.since) (Opened (b.request + 1))) (sym c.in-Idle.is)
    (record_opened b new Idle now (Open c.args.kind.now c.args.since) (Opened (b.request + 1)) n refl refl opens opens.used opens.waste)

use Rattle.std.proofs.Common.{◌≡◌, None, sym, ap, subst, ◌∙◌}
use Rattle.gs_event.specs.declared.events.Action.TheVariants.{Pin}
use Rattle.gs_event.specs.declared.events.Scope.TheVariants.{One}
use Rattle.gs_event.specs.declared.answers.Answer.TheVariants.{Pinned}
use Rattle.gs_versions.specs.Pins.{Pins}
use Rattle.gs_tree_store.specs.declared.books.Books.{Books}
use Rattle.gs_tree_store.specs.declared.books.Seat.TheVariants.{Reading}
use Rattle.gs_tree_store.specs.Actions.{Acts}
use Rattle.gs_tree_store.proofs.ReadLemmas.{pin_missing, pin_found}
use Rattle.gs_tree_store.proofs.reads.pin_one.Goals as goal

pub returns-in_default-get-clause-acts : goal.returns-in_default-get-clause-acts
returns-in_default-get-clause-acts c =
    let b = c.args.books.now in
    subst (λ n. Acts b b c.args.number c.args.seat.now c.args.seat.now (Pin (One c.args.target.now)) (Pinned 404 n)) (sym c.commit.ensures)
    (pin_missing c.args.books.now c.args.number c.args.seat.now c.args.target.now c.in-Idle.is (sym c.in_default-get.ensures) c.requires)

pub returns-clause-acts : goal.returns-clause-acts
returns-clause-acts c =
    let b = c.args.books.now in
    let new : Books = record b { versions = c.pin.new.self } in
    let last : c.commit-2.result ≡ b.versions.commit = c.commit-2.ensures ∙ ap (λ (x : Pins). x.commit) c.pin.ensures in
    subst (λ n. Acts b new c.args.number c.args.seat.now (Reading c.in-Some.version.root None) (Pin (One c.args.target.now)) (Pinned 200 n)) (sym last)
    (pin_found c.args.books.now c.args.number c.args.seat.now c.args.target.now c.in-Some.version c.pin.new.self c.in-Idle.is (sym c.in-Some.ensures) c.pin.ensures c.requires)

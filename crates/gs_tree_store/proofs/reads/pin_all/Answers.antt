use Rattle.std.proofs.Common.{◌≡◌, ◌∙◌, None, ap, subst, sym}
use Rattle.gs_event.specs.declared.events.Action.TheVariants.{Pin}
use Rattle.gs_event.specs.declared.events.Scope.TheVariants.{All}
use Rattle.gs_event.specs.declared.answers.Answer.TheVariants.{Pinned}
use Rattle.gs_tree_store.specs.declared.books.Books.{Books}
use Rattle.gs_tree_store.specs.declared.books.Seat.TheVariants.{ReadingAll}
use Rattle.gs_tree_store.specs.Actions.{Acts}
use Rattle.gs_versions.specs.Pins.{Pins}
use Rattle.gs_tree_store.proofs.AllLemmas.{pin_all_found}
use Rattle.gs_tree_store.proofs.reads.pin_all.Goals as goal

pub returns-clause-acts : goal.returns-clause-acts
returns-clause-acts c =
    let last = c.latest-last.ensures in
    let pins = c.pinned.ensures.pins in
    let version = c.pinned.ensures.version ∙ sym (ap (λ (x : Pins). x.commit) pins) in
    let b = c.args.books.now in
    let new : Books = record b { versions = c.pinned.new.versions } in
    let number : c.commit.result ≡ b.versions.commit = c.commit.ensures ∙ ap (λ (x : Pins). x.commit) pins in
    subst (λ n. Acts b new c.args.number c.args.seat.now (ReadingAll c.pinned.result None) (Pin All) (Pinned 200 n)) (sym number)
    (pin_all_found c.args.books.now c.args.number c.args.seat.now c.pinned.result c.pinned.new.versions c.in-Idle.is version pins last.single last.listed last.dated c.requires)

use Rattle.std.proofs.Common.{rules}
use Rattle.std.proofs.lemmas.Result.{IfOk-weaker}
use Rattle.gs_feeding.specs.SeatTexts.{first_context}
use Rattle.gs_feeding.proofs.TextLemmas.{feeds_first}
use Rattle.gs_feeding.proofs.texts.SeatText.feed.Goals as goal

pub returns-in_ok-begin-in-Unfed : goal.returns-in_ok-begin-in-Unfed
returns-in_ok-begin-in-Unfed c =
    let begun = c.in_ok-begin-in-Unfed in
    IfOk-weaker c.go_on.result _ _
    (λ p on. feeds_first c.args.cut c.args.self begun.field-0 p.0 (first_context c.args.language c.args.opening.now) c.args.text.now p.1.items c.in-Unfed.is begun.ensures on) c.go_on.ensures

pub returns-in_default : goal.returns-in_default
returns-in_default c = search rules

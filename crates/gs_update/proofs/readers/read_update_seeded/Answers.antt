use Rattle.std.proofs.Common.{sym, subst}
use Rattle.gs_update_text.specs.Texts.{request_by}
use Rattle.gs_update.specs.Answers.{AreOperationsOf}
use Rattle.gs_update.proofs.TextLemmas.{refused_whole, read_whole}
use Rattle.gs_update.proofs.readers.read_update_seeded.Goals as goal

pub returns-in-Err : goal.returns-in-Err
returns-in-Err c =
    refused_whole _ c.args.base.now c.args.request c.in_ok-parser.parser c.args.text.now c.in_ok-parser.ensures c.in-Err.ensures.fault

pub returns-in-Ok : goal.returns-in-Ok
returns-in-Ok c =
    subst (λ v. AreOperationsOf v.items (request_by c.args.base.now c.args.request c.args.text.now)) (sym c.into_operations.ensures)
    (read_whole c.args.base.now c.args.request c.in_ok-parser.parser c.take_text.new.parser c.args.text.now c.in_ok-parser.ensures c.in-Ok.ensures.ok)

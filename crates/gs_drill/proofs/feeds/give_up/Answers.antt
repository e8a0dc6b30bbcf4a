use Rattle.std.proofs.Common.{refl}
use Rattle.gs_drill.proofs.feeds.give_up.Goals as goal

pub returns-clause-does : goal.returns-clause-does
returns-clause-does c = λ st. let en = c.answer.ensures.does st in (en.0, record { answer = c.answer.result; answers = en.1; printed = refl })

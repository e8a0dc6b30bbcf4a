use Rattle.std.proofs.Common.{refl}
use Rattle.gs_drill.specs.Printing.{answer_text}
use Rattle.gs_drill.proofs.drills.ask.Goals as goal

pub returns-clause-does : goal.returns-clause-does
returns-clause-does g c = λ st.
    let en = c.answer-answer.ensures.does st in
    record { text = answer_text c.answer-answer.result; makes = (en.0, record { answer = c.answer-answer.result; answers = en.1; printed = refl }); written = c.print_answer.ensures }

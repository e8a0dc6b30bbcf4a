use Rattle.std.proofs.Common.{◌≡◌, subst}
use Rattle.gs_joins.specs.Numbers.{numbers_of}
use Rattle.gs_joins.specs.Answers.{question_of}
use Rattle.gs_joins.proofs.AnswerLemmas.{answer_is}
use Rattle.gs_joins.proofs.pairs.has_two.Goals as goal

pub returns-clause-answers : goal.returns-clause-answers
returns-clause-answers c =
    let ls = c.args.lots.now in
    c.in_ok-keep.ensures ls c.requires.answers
    (answer_is ls (numbers_of c.args.bound.now.items) c.args.first c.args.second c.question_for-asked.result c.in_ok-found.found
    (subst (λ bs. c.question_for-asked.result ≡ question_of ls (numbers_of bs) c.args.first c.args.second) c.as_slice-2.ensures.value c.question_for-asked.ensures)
    c.in_ok-found.ensures.answer)

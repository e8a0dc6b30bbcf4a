use Rattle.std.proofs.Common.{sym, subst}
use Rattle.gs_joins.specs.declared.answers.Answers.{Answers}
use Rattle.gs_joins.specs.Answers.{AreRight}
use Rattle.gs_joins.proofs.AnswerLemmas.{AllRight, none_right, right_more}
use Rattle.gs_joins.proofs.answers.Answers.keep.Goals as goal
use Rattle.gs_joins.proofs.answers.Answers.keep.Goals.{then-len-ge-MAX_ANSWERS, else-len-ge-MAX_ANSWERS}

pub returns : goal.returns
returns c = λ ls right answer.
    right_more ls c.if-len-ge-MAX_ANSWERS.self.kept c.insert.new.self c.args.question c.args.found (elim c.if-len-ge-MAX_ANSWERS.branch [
      | then-len-ge-MAX_ANSWERS w ↦ subst (λ (a : Answers). AllRight ls a.kept) (sym w.self-is) (none_right ls w.clear.new.self w.clear.ensures.empty)
      | else-len-ge-MAX_ANSWERS w ↦ subst (AreRight ls) (sym w.self-is) right
    ]) answer c.in_ok-insert.ensures.updates

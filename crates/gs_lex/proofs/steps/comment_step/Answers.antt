use Rattle.std.proofs.Common.{arith, sym}
use Rattle.gs_automaton.proofs.ScanLemmas.{begins-some}
use Rattle.gs_lex.proofs.RunLemmas.{pass-comments}
use Rattle.gs_lex.proofs.StepLemmas.{pass-line-end, pass-comment, fail-comment, ends_line, ends_text, bad-some, some-front, some-length, short-end}
use Rattle.gs_automaton.proofs.BecomeLemmas.{short-begins}
use Rattle.gs_lex.proofs.steps.comment_step.Goals as goal

pub returns-then-is_line_end-clause-fits : goal.returns-then-is_line_end-clause-fits
returns-then-is_line_end-clause-fits c =
    pass-line-end c.args.is_end c.args.at c.args.rest.now c.requires (omega arith)
    (λ z m. ends_line c.args.is_end c.in-Character.c c.in-Character.size c.args.rest.now z c.in-Character.ensures (sym c.if-is_line_end.ensures) m)

pub returns-else-is_line_end-clause-moves : goal.returns-else-is_line_end-clause-moves
returns-else-is_line_end-clause-moves c =
    let k = begins-some c.in-Character.c c.in-Character.size c.args.rest.now c.in-Character.ensures in
    (c.in-Character.ensures.within, omega (arith, k.1))

pub returns-else-is_line_end-clause-fits : goal.returns-else-is_line_end-clause-fits
returns-else-is_line_end-clause-fits c =
    pass-comment c.args.is_end c.args.at c.args.rest.now c.in-Character.c c.in-Character.size c.requires c.in-Character.ensures (sym c.if-is_line_end.ensures)

pub returns-in-Bad-clause-fits : goal.returns-in-Bad-clause-fits
returns-in-Bad-clause-fits c =
    fail-comment c.args.is_end c.args.at c.args.rest.now c.requires
    (λ y m. (some-front c.args.rest.now y (bad-some c.args.rest.now c.in-Bad.ensures), c.in-Bad.ensures y))

pub returns-then-rest-eq0-clause-fits : goal.returns-then-rest-eq0-clause-fits
returns-then-rest-eq0-clause-fits c =
    pass-line-end c.args.is_end c.args.at c.args.rest.now c.requires (omega arith)
    (λ z m. ends_text c.args.is_end c.args.rest.now z c.if-not-is_end.false (omega arith) m)

pub returns-else-rest-eq0-clause-fits : goal.returns-else-rest-eq0-clause-fits
returns-else-rest-eq0-clause-fits c =
    fail-comment c.args.is_end c.args.at c.args.rest.now c.requires
    (λ y m. (some-front c.args.rest.now y (some-length c.args.rest.now (omega arith)), short-end c.args.is_end c.args.rest.now y c.if-not-is_end.false (short-begins c.args.rest.now c.in-Short.ensures) m))

pub returns-then-plain-gt0-clause-fits : goal.returns-then-plain-gt0-clause-fits
returns-then-plain-gt0-clause-fits c =
    pass-comments c.args.is_end c.args.at c.args.rest.now c.comment_run-plain.result c.requires c.comment_run-plain.ensures.within (omega arith) c.comment_run-plain.ensures.plain

use Rattle.std.proofs.Common.{sym, subst, arith}
use Rattle.gs_automaton.specs.Fronts.{GoesOver}
use Rattle.gs_automaton.specs.declared.scans.Scan.{Scan}
use Rattle.gs_lex.proofs.PlainLemmas.{plain-found}
use Rattle.gs_lex.proofs.plains.plain_token.Goals as goal

pub returns-in-Some-token_kind : goal.returns-in-Some-token_kind
returns-in-Some-token_kind c =
    let x = c.args.rest.now in
    let r = c.over_front-is_last.result in
    plain-found c.args.updates x r c.in-Some.terminal c.in-Some-token_kind.kind
    (subst (λ (s : Scan). GoesOver x s r) c.new.ensures c.over_front-is_last.ensures) c.if-not-is_last.false c.in-Some.is (omega arith) (sym c.in-Some-token_kind.ensures)

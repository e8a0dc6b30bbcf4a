use Rattle.std.proofs.Common.{Bool, cond, sym, ap, ◌∙◌}
use Rattle.gs_stream.specs.Heads.{TooLong, Open}
use Rattle.gs_stream.proofs.PartLemmas.{head-after, head-none}
use Rattle.gs_stream.proofs.heads.find_head.Goals as goal

pub returns-in-Some-clause-cut : goal.returns-in-Some-clause-cut
returns-in-Some-clause-cut c = (head-after c.args.buffer.now c.front.result.now c.in-Some.end c.front.ensures c.in-Some.ensures).2

pub returns-in-Some-clause-within : goal.returns-in-Some-clause-within
returns-in-Some-clause-within c =
    let f = head-after c.args.buffer.now c.front.result.now c.in-Some.end c.front.ensures c.in-Some.ensures in
    (f.0, f.1)

pub returns-then-is_full-clause-cut : goal.returns-then-is_full-clause-cut
returns-then-is_full-clause-cut c =
    ap (λ (b : Bool). cond b TooLong Open) (sym c.if-is_full.true ∙ c.is_full.ensures) ∙ head-none c.args.buffer.now c.front.result.now c.front.ensures c.in-None.ensures

pub returns-else-is_full-clause-cut : goal.returns-else-is_full-clause-cut
returns-else-is_full-clause-cut c =
    ap (λ (b : Bool). cond b TooLong Open) (sym c.if-is_full.false ∙ c.is_full.ensures) ∙ head-none c.args.buffer.now c.front.result.now c.front.ensures c.in-None.ensures

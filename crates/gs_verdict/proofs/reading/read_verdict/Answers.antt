use Rattle.std.proofs.lemmas.Result.{IfOk-weaker}
use Rattle.gs_verdict.proofs.SeenLemmas.{judged-bytes}
use Rattle.gs_verdict.proofs.reading.read_verdict.Goals as goal

pub returns-in-Some : goal.returns-in-Some
returns-in-Some c =
    let read = rw c.in-Some.is at c.in_ok-read_head.ensures in
    IfOk-weaker c.judge_head.result _ _ (λ v q. judged-bytes c.args.base.now c.args.bytes.now c.in-Some.head read.0 v read.1 read.2 q) c.judge_head.ensures

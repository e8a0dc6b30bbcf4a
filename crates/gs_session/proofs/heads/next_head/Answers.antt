use Rattle.std.proofs.Common.{◌≡◌, ◌≤◌, ℕ, List, length, take, drop, sym, ap, subst, ◌∙◌, arith}
use Rattle.gs_verdict.specs.Bytes.{head_verdict}
use Rattle.gs_stream.specs.Heads.{TooLong, Whole, head_at}
use Rattle.gs_stream.specs.Heads as heads
use Rattle.gs_session.specs.Heads.{AfterHead}
use Rattle.gs_session.proofs.HeadStepLemmas.{head-sizes, bare_by, waits_between, denies_long, takes_head}
use Rattle.gs_session.proofs.heads.next_head.Goals as goal

pub take_head-next-requires : goal.take_head-next-requires
take_head-next-requires c =
    let b : List ℕ = c.as_slice-2.result.now in
    let few = head-sizes b (take c.in-After.count b) (drop c.in-After.count b) (sym c.in-After.ensures.cut) in
    omega (arith, few.1, ap (λ (z : List ℕ). length (take c.in-After.count z)) (c.as_slice-in-After.ensures ∙ sym c.as_slice-2.ensures))

pub returns-in-Open : goal.returns-in-Open
returns-in-Open c = λ e.
    waits_between c.args.setup.now e c.args.input.now c.skip.new.self
    (bare_by c.args.input.now c.as_slice.result.now c.skip.new.self c.leading-lead.result c.as_slice.ensures c.leading-lead.ensures.dropped c.skip.ensures)
    (subst (λ (b : List ℕ). heads.Open ≡ head_at b) c.as_slice-2.ensures c.in-Open.ensures.cut)

pub returns-in-TooLong : goal.returns-in-TooLong
returns-in-TooLong c = λ e.
    denies_long c.args.setup.now e c.args.input.now c.skip.new.self c.leading-lead.result c.reply.result c.skip.ensures
    (bare_by c.args.input.now c.as_slice.result.now c.skip.new.self c.leading-lead.result c.as_slice.ensures c.leading-lead.ensures.dropped c.skip.ensures)
    (subst (λ (b : List ℕ). TooLong ≡ head_at b) c.as_slice-2.ensures c.in-TooLong.ensures.cut) c.reply.ensures

pub returns-in-After : goal.returns-in-After
returns-in-After c = λ e.
    takes_head c.args.setup.now e c.args.input.now c.skip.new.self c.skip-in-After.new.self c.leading-lead.result c.in-After.count c.take_head-next.result c.skip.ensures
    (bare_by c.args.input.now c.as_slice.result.now c.skip.new.self c.leading-lead.result c.as_slice.ensures c.leading-lead.ensures.dropped c.skip.ensures)
    (subst (λ (b : List ℕ). Whole (take c.in-After.count b) (drop c.in-After.count b) ≡ head_at b) c.as_slice-2.ensures c.in-After.ensures.cut)
    (subst (λ (b : List ℕ). c.in-After.count ≤ length b) c.as_slice-2.ensures c.in-After.ensures.within.0) c.in-After.ensures.within.1 c.skip-in-After.ensures
    (subst (λ (b : List ℕ). AfterHead (head_verdict c.args.setup.now.site (take c.in-After.count b)) c.take_head-next.result) c.as_slice-in-After.ensures c.take_head-next.ensures)

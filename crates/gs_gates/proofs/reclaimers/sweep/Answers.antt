use Rattle.std.proofs.Common.{◌≡◌, List, ◌∷◌, true, false, sym, ◌∙◌, arith, length, suc}
use Rattle.gs_event.specs.declared.answers.Answer.{Answer}
use Rattle.gs_gates.specs.Sweeps.{has_more}
use Rattle.gs_gates.proofs.SweepLemmas.{all_cons, goes_on_all}
use Rattle.gs_gates.proofs.reclaimers.sweep.Goals as goal

pub returns-then-not-free_some : goal.returns-then-not-free_some
returns-then-not-free_some g c =
    let v = c.loop.invariant in
    let made = c.free_some.ensures in
    let stops : has_more made.0 ≡ false = sym made.2 ∙ c.if-not-free_some.true in
    (made.0 ∷ v.0, ((c.loop.door, v.1, made.1), (v.2, λ on. let goes : has_more made.0 ≡ true = on in absurd (cc))))

pub loop-preserved : goal.loop-preserved
loop-preserved g c =
    let v = c.loop.invariant in
    let made = c.free_some.ensures in
    let on : has_more made.0 ≡ true = sym made.2 ∙ c.if-not-free_some.false in
    (made.0 ∷ v.0, (c.loop.door, v.1, made.1), all_cons (λ b. has_more b ≡ true) made.0 v.0 on v.2, omega (arith, v.3))

pub returns : goal.returns
returns g c =
    let v = c.loop.invariant in
    (v.0, (v.1, goes_on_all v.0 (omega (arith, v.3, c.loop-test.false, c.loop.auto.counter-end)) v.2))

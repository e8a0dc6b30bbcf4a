use Rattle.std.proofs.Common.{◌≡◌, ◌+◌, length, ◌∙◌, sym, subst, arith}
use Rattle.gs_shared.specs.Seats.{From, IsFreshOf}
use Rattle.gs_shared.proofs.EndLemmas.{from_push}
use Rattle.gs_shared.proofs.shared.Shared.handed_out.Goals as goal

pub loop-preserved : goal.loop-preserved
loop-preserved g c =
    let v = c.loop.invariant in
    let pass = c.next-pass.result in
    let here : c.loop.self.handed ≡ c.args.self.now.handed + length c.loop.passes.items = omega (arith, v.handed, v.made) in record {
      left = omega (arith, v.left, c.in-Some.ensures.cases);
      made = omega (arith, v.made, c.push_reserved.ensures.len);
      room = c.push_reserved.ensures.capacity ∙ v.room;
      handed = omega (arith, v.handed, c.next-pass.ensures.handed.0);
      seats = c.next-pass.ensures.handed.1 ∙ v.seats;
      from = subst (λ ps. From (λ seat p. IsFreshOf seat p.record) c.args.self.now.handed ps) (sym c.push_reserved.ensures.items)
          (from_push _ c.args.self.now.handed c.loop.passes.items pass v.from (subst (λ n. IsFreshOf n pass.record) here c.next-pass.ensures.fresh));
    }

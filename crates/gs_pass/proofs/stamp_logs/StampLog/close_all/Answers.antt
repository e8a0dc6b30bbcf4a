use Rattle.std.proofs.Common.{[], ◌∷◌, ◌++◌, length, ap, ◌∙◌, sym, arith, length-append}
use Rattle.std.proofs.lemmas.List.{length-map, map-append}
use Rattle.std.proofs.lemmas.List.Sums.{sum_by-append}
use Rattle.gs_pass.proofs.ClaimLemmas.{backed_push}
use Rattle.gs_pass.proofs.stamp_logs.StampLog.close_all.Goals as goal

pub push_reserved-requires : goal.push_reserved-requires
push_reserved-requires g c =
    let n = ap length c.loop-pass.invariant.records ∙ length-map c.loop-pass.yielded _ in
    let s = ap length c.in-Some.ensures.steps.0 in
    omega (arith, n, s, c.loop-pass.invariant.whole, c.loop-pass.invariant.room, c.requires.room)

pub loop-pass-preserved : goal.loop-pass-preserved
loop-pass-preserved g c =
    let w = c.close-record.ensures in
    let v = c.loop-pass.invariant in
    let pass = c.in-Some.pass in
    let longer = length-append c.loop-pass.yielded (pass ∷ []) in record {
      stamps = w.stamps ∙ v.stamps;
      calls_total = w.totals.0 ∙ v.calls_total;
      triples_total = w.totals.1 ∙ v.triples_total;
      call_parts = omega (arith, w.calls.0, v.call_parts, longer);
      triple_parts = omega (arith, w.triples.0, v.triple_parts, longer);
      calls = omega (arith, w.calls.1, v.calls, sum_by-append (λ p. p.call_share.amount) c.loop-pass.yielded (pass ∷ []));
      triples = omega (arith, w.triples.1, v.triples, sum_by-append (λ p. p.triple_share.amount) c.loop-pass.yielded (pass ∷ []));
      whole = omega (arith, v.whole, ap length c.in-Some.ensures.steps.0, longer);
      room = c.push_reserved.ensures.capacity ∙ v.room;
      records = c.push_reserved.ensures.items ∙ (λ i. v.records i ++ w.record i ∷ []) ∙ sym (map-append (λ p. p.record) c.loop-pass.yielded (pass ∷ []));
      backed = backed_push _ _ c.loop-pass.records.items _ c.close-record.result c.push_reserved.ensures.items v.stamps v.backed w.backed;
    }

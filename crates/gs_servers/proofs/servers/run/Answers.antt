use Rattle.std.proofs.Common.{◌≡◌, ◌+◌, [], ◌∷◌, ◌++◌, length, map, take, refl, ap, ◌∙◌, sym, subst, arith, length-append}
use Rattle.std.proofs.lemmas.List.{length-map, map-append}
use Rattle.gs_talk.specs.Logs.{Server}
use Rattle.gs_shared.specs.Seats.{BeganAs, From, IsFreshOf}
use Rattle.gs_workers.specs.Served.{WasServed}
use Rattle.gs_servers.proofs.RecordLemmas.{from_seats, from_front, from_push, from_map, from_last, take_front, fresh_last}
use Rattle.gs_servers.proofs.servers.run.Goals as goal

pub end-requires : goal.end-requires
end-requires g c =
    let rest = c.pop.new.self.items in
    let back = c.in-Some-with_threads.back.items in
    let count = ap length c.in-Some.ensures.items ∙ length-append rest (c.in-Some.last ∷ []) in
    let all = ap length c.in-Ok.ensures ∙ length-append back (c.in-Some-with_threads.last ∷ []) in
    record { back = omega (arith, count, c.in-Some-with_threads.ensures.many, all, c.in_ok-passes.ensures.passes.0, c.in_ok-passes.ensures.handed.0, c.in_ok-shared.ensures.fresh.1) }

pub returns-clause-ended : goal.returns-clause-ended
returns-clause-ended g c =
    let p : Server = record { base = c.args.plan.base.now; piece = c.args.plan.piece } in
    let rest = c.pop.new.self.items in
    let last = c.in-Some.last in
    let back = c.in-Some-with_threads.back.items in
    let after = c.in-Some-with_threads.last in
    let count = ap length c.in-Some.ensures.items ∙ length-append rest (last ∷ []) in
    let came = c.in-Some-with_threads.ensures.many in
    let many : length back ≡ c.args.workers = omega (arith, count, came, c.in_ok-passes.ensures.passes.0) in
    let kept = c.in-Some-with_threads.ensures.last in
    let fresh = subst (λ n. From (λ seat x. IsFreshOf seat x.record) n c.in_ok-passes.passes.items) c.in_ok-shared.ensures.fresh.1 c.in_ok-passes.ensures.passes.1 in
    let handed = subst (From (λ seat x. IsFreshOf seat x.record) 0) c.in-Some.ensures.items fresh in
    let untold = from_last (λ seat x. IsFreshOf seat x.record) 0 rest last handed in
    let served = from_map (WasServed p) (λ x. x.record) 0 back
    (c.in-Some-with_threads.ensures.served (from_front (λ seat x. IsFreshOf seat x.record) 0 rest (last ∷ []) handed)) in
    let records = c.end.ensures.records ∙ (ap (map (λ x. x.record)) c.in-Ok.ensures ∙ map-append (λ x. x.record) back (after ∷ [])) in
    let told = length-map back (λ x. x.record) in
    let seat : after.record.seat ≡ 0 + length (map (λ x. x.record) back) = kept.0 ∙ (untold.0 ∙ omega (arith, count, came, told)) in record {
      passes = (
        ap length records ∙ omega (arith, length-append (map (λ x. x.record) back) (after.record ∷ []), told, many),
        subst (From (λ seat r. r.seat ≡ seat) 0) (sym records)
            (from_push (λ seat r. r.seat ≡ seat) 0 (map (λ x. x.record) back) after.record (from_seats p 0 (map (λ x. x.record) back) served) seat),
      );
      served = subst (From (WasServed p) 0)
          (sym (take_front (map (λ x. x.record) back) (after.record ∷ [])) ∙ (ap (λ n. take n (map (λ x. x.record) back ++ after.record ∷ [])) (told ∙ many) ∙ ap (take c.args.workers) (sym records))) served;
      reclaimer = fresh_last (λ x. x.record) last.record after.record back after c.args.workers c.end.result.passes.items refl kept untold.1
          many (c.end.ensures.records ∙ ap (map (λ x. x.record)) c.in-Ok.ensures);
      within = c.end.ensures.within;
      turned = c.end.ensures.turned;
      many = c.end.ensures.many;
      stand = c.end.ensures.stand;
      began = subst (λ start. BeganAs start c.end.result.audited.store.view) c.requires.start c.end.ensures.began;
    }

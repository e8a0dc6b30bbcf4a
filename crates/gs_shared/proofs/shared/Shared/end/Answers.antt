use Rattle.std.proofs.Common.{◌≡◌, ◌-◌, ◌^◌, length, ap, ◌∙◌, arith}
use Rattle.std.specs.List.{sum_by}
use Rattle.gs_pass.specs.declared.records.Record.{Record}
use Rattle.std.proofs.lemmas.List.{length-map}
use Rattle.gs_chronicle.specs.PageEntries.{own_entries}
use Rattle.gs_chronicle.specs.Rows.{row_of}
use Rattle.gs_chronicle.specs.Views.{page_of}
use Rattle.gs_shared.specs.Ends.{counted_calls, counted_triples}
use Rattle.gs_shared.proofs.EndLemmas.{amounts_below, counts_below, sum_by-map, zero_of, all_stand}
use Rattle.gs_shared.proofs.shared.Shared.end.Goals as goal

pub returns-clause-turned : goal.returns-clause-turned
returns-clause-turned g c = λ fit.
    let few = fit.0 in
    let small = fit.1 in
    let h = c.close_all.ensures in
    let s = c.args.self in
    let d = c.into_inner-audited.result in
    let ps = c.args.passes.items in
    let calls-are = ap counted_calls h.records ∙ sum_by-map (λ p. p.record) (λ (r : Record). r.calls) ps in
    let triples-are = ap counted_triples h.records ∙ sum_by-map (λ p. p.record) (λ (r : Record). r.triples) ps in
    let calls = amounts_below (λ p. p.record.calls) (λ p. p.call_share.amount) (2 ^ 64 - 1) ps (λ p. p.counts_calls) (omega (arith, calls-are, few)) in
    let triples = amounts_below (λ p. p.record.triples) (λ p. p.triple_share.amount) (2 ^ 64 - 1) ps (λ p. p.counts_triples) (omega (arith, triples-are, small)) in
    let whole-calls = c.audit.ensures.calls (omega (arith, h.calls.0, s.call_parts, c.requires, s.whole_calls.whole)) in
    let whole-triples = c.audit.ensures.triples (omega (arith, h.triples.0, s.triple_parts, c.requires, s.whole_triples.whole)) in
    zero_of _ (λ z. d.counted.1 z (omega (arith, whole-calls, h.totals.0, h.calls.1, s.no_calls, calls, calls-are, few)) (omega (arith, whole-triples, h.totals.1, h.triples.1, s.no_triples, triples, triples-are, small)))

pub returns-clause-within : goal.returns-clause-within
returns-clause-within g c =
    let page = c.into_inner-audited.result.audited.chronicle in
    (omega (arith, page.few, length-map (own_entries page.entries) row_of), omega (arith, page.counted, page.small))

pub returns-clause-many : goal.returns-clause-many
returns-clause-many g c = λ z.
    let h = c.close_all.ensures in
    let s = c.args.self in
    let d = c.into_inner-audited.result in
    let ps = c.args.passes.items in
    let calls-are = ap counted_calls h.records ∙ sum_by-map (λ p. p.record) (λ (r : Record). r.calls) ps in
    let whole-calls = c.audit.ensures.calls (omega (arith, h.calls.0, s.call_parts, c.requires, s.whole_calls.whole)) in
    let rows = (d.counted.0 z).0 in
    let few = d.audited.chronicle.few in
    let entries = length-map (own_entries d.audited.chronicle.entries) row_of in
    let amounts : sum_by (λ p. p.call_share.amount) ps ≡ length (page_of d.audited.chronicle).rows = omega (arith, rows, whole-calls, h.totals.0, h.calls.1, s.no_calls) in
    let calls = counts_below (λ p. p.record.calls) (λ p. p.call_share.amount) (2 ^ 64 - 1) ps (λ p. p.counts_calls) (omega (arith, few, entries, amounts)) in
    omega (arith, amounts, calls, calls-are)

pub returns-clause-stand : goal.returns-clause-stand
returns-clause-stand g c = λ z.
    let d = c.into_inner-audited.result in
    all_stand _ _ _ d.audited.chronicle.numbered (d.tied z) c.close_all.ensures.backed

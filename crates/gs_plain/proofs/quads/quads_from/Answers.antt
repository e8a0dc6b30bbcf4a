use Rattle.std.proofs.Common.{◌≡◌, ◌+◌, ◌-◌, ◌++◌, take, drop, length, map as each, ap, sym, ◌∙◌, arith}
use Rattle.std.specs.List.{concat, flat_map}
use Rattle.std.specs.Map.Iter.{deref_pair}
use Rattle.std.specs.FinMap as map
use Rattle.gs_model.specs.Graphs.{lines_of}
use Rattle.gs_event.specs.Datasets.{named_lines}
use Rattle.gs_plain.specs.Past.{dataset_at}
use Rattle.gs_plain.proofs.QuadLemmas.{named_entries, length-named_lines, length-quads_of, quads_begin, passes_begin, quads_more, passes_more, shown_of}
use Rattle.gs_plain.proofs.quads.quads_from.Goals as goal

pub loop-name-init : goal.loop-name-init
loop-name-init c =
    let m = dataset_at c.args.version c.args.rows.now in
    let gives = c.into_iter-name-iterator.ensures.into_iter_gives in
    let rest : flat_map named_lines (each deref_pair c.into_iter-name-iterator.result) ≡ flat_map named_lines (map.entries m.named) =
    ap (λ es. flat_map named_lines (each deref_pair es)) gives.0 ∙ ap (flat_map named_lines) (named_entries c.in_ok-named.named m c.in_ok-named.ensures gives.5) in
    record {
      shown = quads_begin c.args.given c.args.count c.in_ok-bytes.passed c.in_ok-bytes.bytes.items (lines_of m.unnamed) _ _ c.in_ok-bytes.ensures.bytes c.in_ok-bytes.ensures.all rest;
      passes = passes_begin c.in_ok-bytes.passed (lines_of m.unnamed) _ _ c.in_ok-bytes.ensures.all rest;
    }

pub overflow_add-passed : goal.overflow_add-passed
overflow_add-passed c =
    let own = length-named_lines c.in-Some.name.now.now c.in-Some.graph.now.now in
    let all = ap (λ es. c.loop-name.passed + length (flat_map named_lines (each deref_pair es))) (sym c.in-Some.ensures.steps) ∙ c.loop-name.invariant.passes in
    let most = passes_more c.loop-name.passed c.len-passed.result _ _ _ all (c.len-passed.ensures ∙ own) in
    omega (arith, most, length-quads_of (dataset_at c.args.version c.args.rows.now), c.requires)

pub loop-name-preserved : goal.loop-name-preserved
loop-name-preserved c =
    let own = length-named_lines c.in-Some.name.now.now c.in-Some.graph.now.now in
    let all = ap (λ es. c.loop-name.passed + length (flat_map named_lines (each deref_pair es))) (sym c.in-Some.ensures.steps) ∙ c.loop-name.invariant.passes in
    let sofar = ap (λ es. c.loop-name.bytes.items ++ shown_of c.args.given c.args.count c.loop-name.passed (flat_map named_lines (each deref_pair es))) (sym c.in-Some.ensures.steps) ∙ c.loop-name.invariant.shown in
    let more : c.in_ok-more.more.items ≡ shown_of c.args.given c.args.count c.loop-name.passed (named_lines (c.in-Some.name.now.now, c.in-Some.graph.now.now)) =
    c.in_ok-more.ensures
    ∙ ap (λ n. concat (take n (drop c.saturating_sub-start.result (named_lines (c.in-Some.name.now.now, c.in-Some.graph.now.now))))) (c.saturating_sub-room.ensures ∙ ap (λ n. c.args.count - n) c.saturating_sub.ensures)
    ∙ ap (λ n. concat (take (c.args.count - (c.loop-name.passed - c.args.given)) (drop n (named_lines (c.in-Some.name.now.now, c.in-Some.graph.now.now))))) c.saturating_sub-start.ensures in
    let bytes : c.extend_from_slice.new.self.items ≡ c.loop-name.bytes.items ++ c.in_ok-more.more.items = c.in_ok-extend_from_slice.ensures.items ∙ ap (λ bs. c.loop-name.bytes.items ++ bs) c.as_slice.ensures.value in
    record {
      shown = rw bytes (quads_more c.args.given c.args.count c.loop-name.passed c.loop-name.bytes.items c.in_ok-more.more.items _ _ _ c.len-passed.result sofar more (c.len-passed.ensures ∙ own));
      passes = passes_more c.loop-name.passed c.len-passed.result _ _ _ all (c.len-passed.ensures ∙ own);
    }

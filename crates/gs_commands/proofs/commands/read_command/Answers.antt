use Rattle.std.specs.Prelude.{codes}
use Rattle.std.proofs.lemmas.Result.{IfOk-weaker}
use Rattle.gs_commands.proofs.RowLemmas.{skipped_none, store_none, reclaim_none, cut_none, finds_at, not_text, IsOther}
use Rattle.gs_commands.proofs.commands.read_command.Goals as goal

pub returns-in-Err : goal.returns-in-Err
returns-in-Err c = skipped_none c.args.line.now c.if-is_skipped.ensures c.in-Err.ensures.cases.0

pub returns-in-None : goal.returns-in-None
returns-in-None c = store_none c.args.line.now c.in-Some.rest.now c.in-Some.ensures c.if-is_skipped.ensures c.in-None.ensures

pub returns-in-None-number : goal.returns-in-None-number
returns-in-None-number c = reclaim_none c.args.line.now c.in-Some-after.rest.now c.in-Some-after.ensures c.if-is_skipped.ensures c.in-None-number.ensures

pub returns-in-None-number-2 : goal.returns-in-None-number-2
returns-in-None-number-2 c = cut_none c.args.line.now c.in-Some-after-2.rest.now c.in-Some-after-2.ensures c.if-is_skipped.ensures c.in-None-number-2.ensures

pub returns : goal.returns
returns c =
    let other : IsOther c.args.line.now = record {
      plain = c.if-is_skipped.ensures;
      no_counts = not_text c.args.line.now c.as_slice.result.now (codes "counts") c.as_slice.ensures c.if-eq.ensures;
      no_store = c.in_default.ensures;
      no_reclaim = c.in_default-after.ensures;
      no_cut = c.in_default-after-2.ensures;
    } in
    IfOk-weaker c.read_at_seat.result _ _ (λ found h. finds_at c.args.line.now other found h) c.read_at_seat.ensures

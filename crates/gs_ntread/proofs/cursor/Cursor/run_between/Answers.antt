use Rattle.std.proofs.lemmas.List.{take_rest}
use Rattle.gs_ntread.proofs.WholeRuns.{blanks_then}
use Rattle.gs_ntread.proofs.cursor.Cursor.run_between.Goals as goal

pub returns-clause-run : goal.returns-clause-run
returns-clause-run c =
    let x = c.args.piece.now in
    let k = c.short_run_len-blanks.result in
    rw c.requires (blanks_then _ _ x k c.in_ok-n.n c.short_run_len-blanks.ensures.all (rw (take_rest x k, c.requires) at c.in_ok-n.ensures.run))

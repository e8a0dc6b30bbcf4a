use Rattle.gs_ntread.proofs.RunLemmas.{string_runs}
use Rattle.gs_ntread.proofs.cursor.Cursor.run_in_string.Goals as goal

pub returns-clause-run : goal.returns-clause-run
returns-clause-run c = rw (c.requires, c.in_ok-push_all.ensures) (string_runs _ _ _ c.run_len-n.ensures.all)

use Rattle.gs_ntread.proofs.RunLemmas.{label_runs}
use Rattle.gs_ntread.proofs.cursor.Cursor.run_in_label.Goals as goal

pub returns-clause-run : goal.returns-clause-run
returns-clause-run c = rw (c.requires, c.in_ok-push_all.ensures) (label_runs _ _ _ c.short_run_len-n.ensures.all)

use Rattle.gs_ntread.proofs.RunLemmas.{comment_runs}
use Rattle.gs_ntread.proofs.cursor.Cursor.run_in_comment.Goals as goal

pub returns-clause-run : goal.returns-clause-run
returns-clause-run c = rw c.requires (comment_runs _ c.run_len.ensures.all)

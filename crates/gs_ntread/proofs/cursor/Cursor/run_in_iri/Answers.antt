use Rattle.gs_ntread.proofs.RunLemmas.{iri_runs}
use Rattle.gs_ntread.proofs.cursor.Cursor.run_in_iri.Goals as goal

pub returns-clause-run : goal.returns-clause-run
returns-clause-run c = rw (c.requires, c.in_ok-push_all.ensures) (iri_runs _ _ _ c.run_len-n.ensures.all)

use Rattle.std.specs.Prelude.{◌+◌}
use Rattle.gs_core.specs.Settings.{start_at}
use Rattle.gs_servers.proofs.servers.serve_within.Given as goal

abbrev pub ghosts-run-C-Ledger : goal.ghosts-run-C-Ledger
ghosts-run-C-Ledger g a = record { name = a.parts.calls.name; parts = a.parts.calls.parts }

abbrev pub ghosts-run-C-CountedLedger : goal.ghosts-run-C-CountedLedger
ghosts-run-C-CountedLedger g a = record { all = a.parts.calls.parts }

abbrev pub ghosts-run-T-Ledger : goal.ghosts-run-T-Ledger
ghosts-run-T-Ledger g a = record { name = a.parts.triples.name; parts = a.parts.triples.parts }

abbrev pub ghosts-run-T-CountedLedger : goal.ghosts-run-T-CountedLedger
ghosts-run-T-CountedLedger g a = record { all = a.parts.triples.parts }

abbrev pub ghosts-run-B-Room : goal.ghosts-run-B-Room
ghosts-run-B-Room g a = record { table = a.parts.cell.table.shared.table_id; start = start_at (a.workers + 1) a.plan.base.now 0 0 }

use Rattle.std.specs.Prelude.{codes}
use Rattle.gs_core.specs.Settings.{start_at}
use Rattle.gs_lock_tests.proofs.answers.printed_by_passes.Given as goal

abbrev pub ghosts-printed_by_new-C-Ledger : goal.ghosts-printed_by_new-C-Ledger
ghosts-printed_by_new-C-Ledger g a = record { name = a.parts.calls.name; parts = a.parts.calls.parts }

abbrev pub ghosts-printed_by_new-C-CountedLedger : goal.ghosts-printed_by_new-C-CountedLedger
ghosts-printed_by_new-C-CountedLedger g a = record { all = a.parts.calls.parts }

abbrev pub ghosts-printed_by_new-T-Ledger : goal.ghosts-printed_by_new-T-Ledger
ghosts-printed_by_new-T-Ledger g a = record { name = a.parts.triples.name; parts = a.parts.triples.parts }

abbrev pub ghosts-printed_by_new-T-CountedLedger : goal.ghosts-printed_by_new-T-CountedLedger
ghosts-printed_by_new-T-CountedLedger g a = record { all = a.parts.triples.parts }

abbrev pub ghosts-printed_by_new-B-Room : goal.ghosts-printed_by_new-B-Room
ghosts-printed_by_new-B-Room g a = record { table = a.parts.cell.table.shared.table_id; start = start_at 4 (codes "http://localhost") 0 0 }

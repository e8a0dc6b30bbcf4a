use Rattle.gs_ledger.proofs.Marked.{said_by_marks}
use Rattle.gs_ledger.proofs.laws.marks_say_what_is_dead.Goals as goal

pub returns : goal.returns
returns c = said_by_marks

use Rattle.gs_document.proofs.ReaderLemmas.{machine_reports}
use Rattle.gs_document.proofs.laws.machine_reports_the_document.Goals as goal

pub returns : goal.returns
returns c = machine_reports

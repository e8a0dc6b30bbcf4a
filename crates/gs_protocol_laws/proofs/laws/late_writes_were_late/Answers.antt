use Rattle.gs_protocol_laws.proofs.LateLemmas.{late_writes}
use Rattle.gs_protocol_laws.proofs.laws.late_writes_were_late.Goals as goal

pub returns : goal.returns
returns c = late_writes

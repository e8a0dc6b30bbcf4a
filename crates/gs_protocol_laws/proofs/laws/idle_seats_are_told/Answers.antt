use Rattle.gs_protocol_laws.proofs.StatusLemmas.{idle_heads, idle_pins}
use Rattle.gs_protocol_laws.proofs.laws.idle_seats_are_told.Goals as goal

pub returns-clause-head : goal.returns-clause-head
returns-clause-head c = idle_heads

pub returns-clause-get : goal.returns-clause-get
returns-clause-get c = idle_pins

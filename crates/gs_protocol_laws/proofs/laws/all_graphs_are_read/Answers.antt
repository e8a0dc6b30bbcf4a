use Rattle.gs_protocol_laws.proofs.AllGraphsLemmas.{all_gets_give, all_heads, all_pins, all_gets_agree, all_gets_have, puts_in_all}
use Rattle.gs_protocol_laws.proofs.laws.all_graphs_are_read.Goals as goal

pub returns-clause-lines : goal.returns-clause-lines
returns-clause-lines c = all_gets_give

pub returns-clause-head : goal.returns-clause-head
returns-clause-head c = all_heads

pub returns-clause-get : goal.returns-clause-get
returns-clause-get c = all_pins

pub returns-clause-agree : goal.returns-clause-agree
returns-clause-agree c = all_gets_agree

pub returns-clause-graph : goal.returns-clause-graph
returns-clause-graph c = all_gets_have

pub returns-clause-put : goal.returns-clause-put
returns-clause-put c = puts_in_all

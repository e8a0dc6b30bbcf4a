use Rattle.gs_protocol_laws.proofs.NumberLemmas.{commits_count, pins_report, heads_report, writes_report}
use Rattle.gs_protocol_laws.proofs.laws.numbers_are_of_commits.Goals as goal

pub returns-clause-count : goal.returns-clause-count
returns-clause-count c = commits_count

pub returns-clause-get : goal.returns-clause-get
returns-clause-get c = pins_report

pub returns-clause-head : goal.returns-clause-head
returns-clause-head c = heads_report

pub returns-clause-write : goal.returns-clause-write
returns-clause-write c = writes_report

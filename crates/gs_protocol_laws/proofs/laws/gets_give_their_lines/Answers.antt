use Rattle.gs_protocol_laws.proofs.ReadLemmas.{gets_give, cut_gets_give}
use Rattle.gs_protocol_laws.proofs.ReadBackLemmas.{gets_agree}
use Rattle.gs_protocol_laws.proofs.laws.gets_give_their_lines.Goals as goal

pub returns-clause-lines : goal.returns-clause-lines
returns-clause-lines c = gets_give

pub returns-clause-cut : goal.returns-clause-cut
returns-clause-cut c = cut_gets_give

pub returns-clause-agree : goal.returns-clause-agree
returns-clause-agree c = gets_agree

use Rattle.gs_lex.specs.Pieces.{left_in}
use Rattle.gs_lex.proofs.StandingLemmas.{stands-last}
use Rattle.gs_lex.proofs.laws.a_text_may_end.Goals as goal

pub returns : goal.returns
returns c u l x ts h = stands-last u l.at (left_in l) x ts h

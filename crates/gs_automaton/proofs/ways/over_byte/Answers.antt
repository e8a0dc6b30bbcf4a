use Rattle.std.proofs.Common.{sym, subst}
use Rattle.gs_automaton.specs.Fronts.{ScanGoesOn}
use Rattle.gs_automaton.proofs.FrontLemmas.{goes-byte}
use Rattle.gs_automaton.proofs.ways.over_byte.Goals as goal

pub returns-clause-went : goal.returns-clause-went
returns-clause-went c =
    let a = c.args in
    subst (ScanGoesOn a.text.now a.from) (sym c.onward.ensures) (goes-byte a.text.now a.from a.state c.requires.best c.requires.leads)

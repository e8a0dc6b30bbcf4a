use Rattle.gs_dict.specs.Chains.{IsLinked, Agree}
use Rattle.gs_dict.proofs.chains.relink.Given as goal

abbrev pub invariant-loop-i : goal.invariant-loop-i
invariant-loop-i l = record { linked : IsLinked l.i l.entries l.heads; kept : Agree l.initial.entries l.entries }

use Rattle.std.proofs.Common.{◌≡◌, [], take}
use Rattle.gs_machine.specs.Machines.{steps}
use Rattle.gs_machine.specs.Utf8.{Ready, utf8}
use Rattle.gs_automaton.proofs.symbols.wide_front.Given as goal

abbrev pub invariant-loop-i : goal.invariant-loop-i
invariant-loop-i l = steps utf8 Ready (take l.i l.text) ≡ (l.decoder, [])

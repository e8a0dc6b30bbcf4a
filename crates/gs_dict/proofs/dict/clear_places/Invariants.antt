use Rattle.gs_dict.specs.Kept.{ClearsPlaces}
use Rattle.gs_dict.proofs.dict.clear_places.Given as goal

abbrev pub invariant-loop-number : goal.invariant-loop-number
invariant-loop-number l = ClearsPlaces l.marks l.fn.from l.number l.initial.entries l.entries

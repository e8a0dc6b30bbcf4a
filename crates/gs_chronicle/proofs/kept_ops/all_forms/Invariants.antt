use Rattle.std.proofs.Common.{◌≡◌, map, take}
use Rattle.gs_chronicle.specs.KeptOps.{brings, kept_brings}
use Rattle.gs_chronicle.proofs.kept_ops.all_forms.Given as goal

abbrev pub invariant-loop-op : goal.invariant-loop-op
invariant-loop-op l = map kept_brings l.forms.items ≡ map brings (take l.op-index l.ops)

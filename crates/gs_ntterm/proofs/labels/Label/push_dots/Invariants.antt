use Rattle.std.proofs.Common.{◌≡◌}
use Rattle.gs_ntterm.specs.Labels.{label_of, add_dots}
use Rattle.gs_ntterm.proofs.labels.Label.push_dots.Given as goal

abbrev pub invariant-loop : goal.invariant-loop
invariant-loop l = label_of l.self ≡ add_dots (label_of l.fn.self) l.counter

use Rattle.std.proofs.Common.{◌≡◌, take}
use Rattle.std.specs.List.{filter}
use Rattle.gs_records.specs.Order.{has_number}
use Rattle.gs_records.proofs.records.Records.had_of.Given as goal

abbrev pub invariant-loop-number : goal.invariant-loop-number
invariant-loop-number l = l.had.items ≡ filter (has_number l.version l.self.records) (take l.number-index l.numbers)

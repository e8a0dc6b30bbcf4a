use Rattle.std.proofs.Common.{◌-◌, ◌≤◌, Bool, length}
use Rattle.gs_automaton.specs.Scans.{IsScanned}
use Rattle.gs_automaton.proofs.scans.read_on.Given as goal

abbrev pub invariant-loop-scan : goal.invariant-loop-scan
invariant-loop-scan l = record {
  within : l.scan.len ≤ length l.text;
  best_within : l.scan.best_len ≤ l.scan.len;
  scanned : (updates : Bool) → IsScanned updates l.text l.fn.from → IsScanned updates l.text l.scan;
}

abbrev pub decreases-loop-scan : goal.decreases-loop-scan
decreases-loop-scan l = length l.text - l.scan.len

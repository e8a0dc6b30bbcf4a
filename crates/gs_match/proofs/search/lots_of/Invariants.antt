-- the lists of the patterns that were gone through
use Rattle.std.proofs.Common.{take}
use Rattle.gs_tree.specs.Reading.{keys_at}
use Rattle.gs_match.specs.Solving.{AreLots}
use Rattle.gs_match.proofs.search.lots_of.Given as goal

abbrev pub invariant-loop-one : goal.invariant-loop-one
invariant-loop-one l = AreLots (keys_at l.keys.pool.now l.keys.root) (take l.one-index l.one-items) l.lots.items

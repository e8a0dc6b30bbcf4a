-- all instances with the numbers that were seen are found
use Rattle.std.proofs.Common.{take}
use Rattle.gs_tree.specs.Reading.{keys_at}
use Rattle.gs_match.proofs.SeedLemmas.{Seen}
use Rattle.gs_match.proofs.candidates.by_numbers.Given as goal

abbrev pub invariant-loop-key : goal.invariant-loop-key
invariant-loop-key l = Seen (keys_at l.keys.pool.now l.keys.root) l.sought l.name l.turn (take l.key-index l.key-items) l.last l.found.items

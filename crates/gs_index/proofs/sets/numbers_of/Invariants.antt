-- the numbers are those of the keys that were gone through, with room for the rest
use Rattle.std.proofs.Common.{◌≡◌, ◌≤◌, length, map, take, vec_len, vec_capacity}
use Rattle.gs_index.specs.Kept.{key_number}
use Rattle.gs_index.proofs.sets.numbers_of.Given as goal

abbrev pub invariant-loop-key : goal.invariant-loop-key
invariant-loop-key l = (l.numbers.items ≡ map key_number (take l.key-index l.keys)) × (length l.keys ≤ vec_capacity l.numbers) × (vec_len l.numbers ≡ l.key-index)

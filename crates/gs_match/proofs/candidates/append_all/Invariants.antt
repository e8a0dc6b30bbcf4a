-- what was walked over is appended, and the rest is left
use Rattle.std.proofs.Common.{◌≡◌, ◌++◌, length}
use Rattle.gs_tree.specs.Reading.{keys_at, keys_from}
use Rattle.gs_keys.specs.Texts.{key_cmp}
use Rattle.gs_joins.specs.Numbers.{numbers_of}
use Rattle.gs_match.specs.Candidates.{instances_in}
use Rattle.gs_match.proofs.candidates.append_all.Given as goal

abbrev pub invariant-chunks : goal.invariant-chunks
invariant-chunks l = record {
  bound : l.bound.items ≡ l.fn.bound.items;
  parts : l.to.items ++ instances_in (numbers_of l.fn.bound.items) l.sought (keys_from (key_cmp l.keys.order.dict.now.terms) l.from (keys_at l.keys.pool.now l.keys.root))
      ≡ l.fn.to.items ++ instances_in (numbers_of l.fn.bound.items) l.sought (keys_at l.keys.pool.now l.keys.root);
}

abbrev pub decreases-chunks : goal.decreases-chunks
decreases-chunks l = length (keys_from (key_cmp l.keys.order.dict.now.terms) l.from (keys_at l.keys.pool.now l.keys.root))

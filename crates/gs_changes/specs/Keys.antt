-- Keys out of a list of keys.
use Rattle.std.specs.Prelude.{List, fold}
use Rattle.std.specs.declared.cmp.Ordering.{Ordering}
use Rattle.gs_pool.specs.declared.nodes.Key.{Key}
use Rattle.gs_tree.specs.Keys.{remove_key}

-- the keys of ys without those of the run
abbrev pub remove_keys : (Key → Key → Ordering) → List Key → List Key → List Key
remove_keys cmp run ys = fold (λ ks x. remove_key cmp x ks) ys run

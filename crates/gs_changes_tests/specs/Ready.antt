-- Two sets of commit 1 that commit 2 may work on.
use Rattle.std.specs.Prelude.{◌≡◌}
use Rattle.gs_pool.specs.Pool.{Nodes, aside_count}
use Rattle.gs_tree.specs.Tree.{tree_at}
use Rattle.gs_tree.specs.Sets.{IsSetAt}
use Rattle.gs_changes.specs.Changes.{IsEarlier}
use Rattle.gs_changes.specs.Endings.{IsDraftAt}
use Rattle.gs_tree_tests.specs.ObjectOrder.{by_object}
use Rattle.gs_changes_tests.specs.declared.commits.Roots.{Roots}

-- what `add_keys` asks for of the first set, and `free_tree` of the other
pub record IsReady (p : Nodes) (roots : Roots) : Type 0 where
  pub set : IsSetAt by_object p roots.set
  pub earlier : IsEarlier 2 p (tree_at p roots.set)
  pub none_aside : aside_count p ≡ 0
  pub other : IsDraftAt p roots.other

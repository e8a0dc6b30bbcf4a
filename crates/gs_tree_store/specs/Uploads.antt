-- An upload apart from its tree, while a graph takes its keys. No public clause cites this module.
use Rattle.std.specs.Prelude.{◌≡◌, ℕ, List, length, Option}
use Rattle.gs_pool.specs.declared.nodes.Key.{Key}
use Rattle.gs_pool.specs.Pool.{Nodes}
use Rattle.gs_tree.specs.Tree.{tree_at}
use Rattle.gs_tree.specs.Reading.{keys_at}
use Rattle.gs_tree.specs.Steps.{SameTotal}
use Rattle.gs_tree.specs.Merging.{BuiltAt}
use Rattle.gs_changes.specs.Endings.{FreesTree}
use Rattle.gs_catalogue.specs.declared.versions.GraphVersion.{GraphVersion}

-- the keys of a root's tree, whose nodes are free now
pub record TakesKeys (p q : Nodes) (root : Option ℕ) (ks : List Key) : Type 0 where
  pub keys_are : ks ≡ keys_at p root
  pub frees : FreesTree p q (tree_at p root)
  pub total : SameTotal p q

-- a version of new nodes, which has just these keys
pub record MakesAgain (birth : ℕ) (p q : Nodes) (ks : List Key) (v : GraphVersion) : Type 0 where
  pub built : BuiltAt birth p q ks v.root
  pub counted : v.triples ≡ length ks

-- Drafts of a graph's tree, by copies. No public clause cites this module.
use Rattle.std.specs.Prelude.{◌≡◌, ◌≤◌, ℕ, List, length}
use Rattle.gs_model.specs.Graphs.{Graph}
use Rattle.gs_pool.specs.declared.nodes.Key.{Key}
use Rattle.gs_pool.specs.Pool.{Nodes, aside_count}
use Rattle.gs_tree.specs.Keys.{AllKeys, IsRising}
use Rattle.gs_tree.specs.Tree.{occurrences, tree_at}
use Rattle.gs_tree.specs.Reading.{keys_at}
use Rattle.gs_tree.specs.Steps.{Step}
use Rattle.gs_keys.specs.Texts.{Terms, key_cmp, IsGiven}
use Rattle.gs_keys.specs.Roots.{graph_of_root}
use Rattle.gs_changes.specs.Changes.{IsEarlier, CanBegin}
use Rattle.gs_changes.specs.Endings.{IsDraftAt}
use Rattle.gs_staging.specs.Staging.{IsStaged}
use Rattle.gs_catalogue.specs.declared.versions.GraphVersion.{GraphVersion}
use Rattle.gs_ledger.specs.Ledger.{IsTreeOf}
use Rattle.gs_datasets.specs.Standing.{IsVersion}

-- A version that a draft can be made of at this commit: its root means a set of keys whose numbers have terms, its tree is older, and nothing is set aside.
pub record CanDraft (birth : ℕ) (terms : Terms) (p : Nodes) (v : GraphVersion) : Type 0 where
  pub staged : IsStaged terms p v.root
  pub earlier : IsEarlier birth p (tree_at p v.root)
  pub none_aside : aside_count p ≡ 0
  pub counted : v.triples ≡ length (keys_at p v.root)

-- keys in the order of their texts, whose numbers all have terms
pub record IsRun (terms : Terms) (ks : List Key) : Type 0 where
  pub rising : IsRising (key_cmp terms) ks
  pub given : AllKeys (IsGiven terms) ks

-- Copies of the tree of a version are its draft, whose graph is g. What they replaced is set aside: so many nodes at most.
pub record Drafts (birth : ℕ) (grown : Terms) (p q : Nodes) (old v : GraphVersion) (g : Graph) (most : ℕ) : Type 0 where
  pub began : CanBegin birth p (tree_at p old.root)
  pub step : Step birth birth p q (occurrences (tree_at p old.root)) (occurrences (tree_at q v.root))
  pub tree : IsTreeOf q birth (tree_at q v.root)
  pub draft : IsDraftAt q v.root
  pub version : IsVersion grown q v
  pub graph : graph_of_root grown q v.root ≡ g
  pub few : aside_count q ≤ most

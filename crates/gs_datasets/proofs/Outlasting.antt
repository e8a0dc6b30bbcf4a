-- Keyed trees among later terms.
use Rattle.std.proofs.Common.{refl, ap}
use Rattle.gs_model.specs.Graphs.{graph_of}
use Rattle.gs_tree.specs.Tree.{Tree, keys}
use Rattle.gs_keys.specs.Texts.{Terms, KeepTerms}
use Rattle.gs_keys.proofs.RootLemmas.{rising_kept, triples_kept, all_given_kept}
use Rattle.gs_datasets.specs.Standing.{IsKeyed}
use Rattle.gs_datasets.specs.Trees.{Outlasts}

-- a tree of keys whose numbers have terms is one where each number keeps its term
pub keys_outlast : (terms later : Terms) → KeepTerms terms later → (t : Tree) → IsKeyed terms t → Outlasts terms later t
keys_outlast terms later keep t k = record {
  keyed = record { balanced = k.balanced; rising = rising_kept terms later keep (keys t) k.given k.rising; given = all_given_kept terms later keep (keys t) k.given };
  same = ap graph_of (triples_kept terms later keep (keys t) k.given);
}

-- and among the same
pub keys_last : (terms : Terms) (t : Tree) → IsKeyed terms t → Outlasts terms terms t
keys_last terms t k = record { keyed = k; same = refl }

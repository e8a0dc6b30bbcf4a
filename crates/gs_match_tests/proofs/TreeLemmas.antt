-- The tree of the first commit may be changed by the second.
use Rattle.std.proofs.Common.{◌≡◌, List, None, refl, arith}
use Rattle.gs_model.specs.Triples.{RdfTriple}
use Rattle.gs_pool.specs.Pool.{Nodes, aside_count}
use Rattle.gs_tree.specs.declared.unions.Merged.{Merged}
use Rattle.gs_tree.specs.Tree.{tree_at}
use Rattle.gs_changes.specs.Changes.{IsEarlier}
use Rattle.gs_changes.proofs.ChangeLemmas.{born_before}
use Rattle.gs_keys.specs.Texts.{Terms}
use Rattle.gs_staging.specs.Staging.{Stages}

-- a tree that was staged at commit 1 is earlier than commit 2
pub staged_earlier : (terms grown : Terms) (p q : Nodes) (ts : List RdfTriple) (m : Merged) → Stages 1 terms grown p q None ts m → IsEarlier 2 q (tree_at q m.root)
staged_earlier terms grown p q ts m s =
    let made = s.unites.births tt tt in
    record { stands = s.staged.set.stands; descends = made.0; before = born_before 1 2 (tree_at q m.root) (omega arith) made.1 }

-- staging sets nothing aside
pub none_aside : (terms grown : Terms) (p q : Nodes) (ts : List RdfTriple) (m : Merged) → Stages 1 terms grown p q None ts m → aside_count p ≡ 0 → aside_count q ≡ 0
none_aside terms grown p q ts m s fresh = omega (arith, s.unites.exact, s.unites.in_place refl, fresh)

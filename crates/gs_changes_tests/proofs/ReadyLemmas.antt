-- Two sets that were made one after the other at commit 1.
use Rattle.std.proofs.Common.{◌≡◌, ℕ, ◌+◌, List, Option, None, refl, sym, subst, inl, inr, arith}
use Rattle.gs_pool.specs.declared.nodes.Key.{Key}
use Rattle.gs_pool.specs.Pool.{Nodes, aside_count}
use Rattle.gs_tree.specs.declared.unions.Merged.{Merged}
use Rattle.gs_tree.specs.Tree.{tree_at}
use Rattle.gs_tree.specs.Reading.{IsReadable}
use Rattle.gs_tree.specs.Sets.{UnitesAt}
use Rattle.gs_changes.specs.Changes.{IsEarlier, ChangesAt}
use Rattle.gs_changes.specs.Endings.{IsDraft, IsDraftAt}
use Rattle.gs_changes.proofs.ChangeLemmas.{born_before, older_nodes, then, draft}
use Rattle.gs_tree_tests.specs.ObjectOrder.{by_object}
use Rattle.gs_changes_tests.specs.declared.commits.Roots.{Roots}
use Rattle.gs_changes_tests.specs.Ready.{IsReady}

-- a set of commit 1 is earlier than commit 2
made_earlier : (p q : Nodes) (run : List Key) (m : Merged) → UnitesAt by_object 0 1 p q None run m → IsEarlier 2 q (tree_at q m.root)
made_earlier p q run m u =
    let births = u.births tt tt in
    record { stands = u.set.stands; descends = births.0; before = born_before 1 2 (tree_at q m.root) (omega arith) births.1 }

-- it sets nothing aside
none_aside : (p q : Nodes) (run : List Key) (m : Merged) → UnitesAt by_object 0 1 p q None run m → aside_count p ≡ 0 → aside_count q ≡ 0
none_aside p q run m u fresh = omega (arith, u.exact, u.in_place refl, fresh)

-- one set, and then the other
pub made_ready : (p q r : Nodes) (theirs_run ours_run : List Key) (theirs ours : Merged) → aside_count p ≡ 0
    → UnitesAt by_object 0 1 p q None theirs_run theirs → UnitesAt by_object 0 1 q r None ours_run ours → IsReady r (record { set = ours.root; other = theirs.root })
made_ready p q r theirs_run ours_run theirs ours fresh u v =
    let there = made_earlier p q theirs_run theirs u in
    let kept = v.others (tree_at q theirs.root) u.set.stands (λ x n h e. inl refl) in
    let is : tree_at r theirs.root ≡ tree_at q theirs.root = subst (λ root. tree_at r root ≡ tree_at q root) (sym u.set.root_is) kept.1 in
    record {
      set = v.set;
      earlier = made_earlier q r ours_run ours v;
      none_aside = none_aside q r ours_run ours v (none_aside p q theirs_run theirs u fresh);
      other = subst (IsDraft r theirs.root) (sym is) (record { root_is = u.set.root_is; stands = kept.0; descends = there.descends; apart = λ x. omega (arith, u.set.apart x, v.step.balance x) });
    }

-- what keys in and keys out made of the first set can be taken back
pub made_draft : (p q r : Nodes) (roots : Roots) (more less : Option ℕ) (added removed : ℕ) → IsReady p roots
    → ChangesAt by_object 2 p q roots.set more added 0 → ChangesAt by_object 2 q r more less 0 removed → IsDraftAt r less
made_draft p q r roots more less added removed ready f g =
    draft by_object 2 p r less (added + 0) (0 + removed) (tree_at p roots.set) (tree_at r less) ready.earlier
    (then by_object 2 p q r more less added 0 0 removed (tree_at p roots.set) (tree_at q more) (tree_at r less) f g)

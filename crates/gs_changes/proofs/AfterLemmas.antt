-- Sets after a change has ended: what was taken back is a set again, and what was kept is one of its version.
use Rattle.std.proofs.Common.{◌≡◌, ℕ, zero, suc, ◌<◌, ◌≤◌, Option, None, refl, sym, ap, subst, ◌∙◌, arith, get_or}
use Rattle.std.specs.declared.cmp.Ordering.{Ordering}
use Rattle.gs_pool.specs.declared.nodes.Key.{Key}
use Rattle.gs_pool.specs.Pool.{Nodes, plain, mark_at, retired_mark, KeepsNodes}
use Rattle.gs_tree.specs.Tree.{Tree, occurrences, Stands, tree_at}
use Rattle.gs_tree.specs.Steps.{plain_count}
use Rattle.gs_tree.specs.Sets.{IsSet, IsSetAt}
use Rattle.gs_tree.proofs.TreeLemmas.{Stands-same, plain_count_same, plain_found}
use Rattle.gs_tree.proofs.Rotations.{tree_in}
use Rattle.gs_changes.specs.Changes.{Changes, IsEarlier}
use Rattle.gs_changes.specs.Endings.{Restores, Retires}
use Rattle.gs_changes.proofs.ChangeLemmas.{born_before, at_most}

-- a tree stands where each number has its node
pub Stands-nodes : (p q : Nodes) (t : Tree) → KeepsNodes p q → Stands p t → Stands q t
Stands-nodes p q t same s = Stands-same p q t (λ x n h e. same x ∙ e) s

-- a set stays one where each number has its node and what is plain stays plain
pub set_stays : (cmp : Key → Key → Ordering) (p q : Nodes) (root : Option ℕ) → KeepsNodes p q → ((x : ℕ) → mark_at p x ≡ plain → mark_at q x ≡ plain) → IsSetAt cmp p root → IsSetAt cmp q root × (tree_at q root ≡ tree_at p root)
set_stays cmp p q root nodes marks s =
    let stands = Stands-nodes p q (tree_at p root) nodes s.stands in
    let is : tree_at q root ≡ tree_at p root = tree_in q root (tree_at p root) s.root_is stands in
    (subst (IsSet cmp q root) (sym is) (record { root_is = s.root_is; stands = stands; balanced = s.balanced; rising = s.rising; apart = apart }), is)
  where
    counted : (x n : ℕ) → n ≡ plain_count p x → n ≤ plain_count q x
    counted x zero e = omega arith
    counted x (suc n) e =
        let was = plain_found p x (omega arith) in
        omega (arith, e, plain_count_same p q x (nodes x) (marks x was.1 ∙ sym was.1))

    apart : (x : ℕ) → occurrences (tree_at p root) x ≤ plain_count q x
    apart x = omega (arith, s.apart x, counted x (plain_count p x) refl)

-- what was taken back
pub restored_set : (cmp : Key → Key → Ordering) (p q : Nodes) (root : Option ℕ) → Restores p q → IsSetAt cmp p root → IsSetAt cmp q root × (tree_at q root ≡ tree_at p root)
restored_set cmp p q root r s = set_stays cmp p q root r.nodes (λ x e. r.marks x ∙ e) s

-- what was kept
pub retired_set : (cmp : Key → Key → Ordering) (death : ℕ) (p q : Nodes) (root : Option ℕ) → Retires death p q → IsSetAt cmp p root → IsSetAt cmp q root × (tree_at q root ≡ tree_at p root)
retired_set cmp death p q root r s = set_stays cmp p q root (λ x. ap (λ ns. get_or ns x None) r.nodes) (λ x e. r.marks x ∙ ap (retired_mark death) e) s

-- what a commit made is before the next one
pub next_earlier : (cmp : Key → Key → Ordering) (birth next : ℕ) (p q : Nodes) (root : Option ℕ) (added removed : ℕ) (t new : Tree) → birth < next → IsEarlier birth p t → Changes cmp birth p q root added removed t new → IsEarlier next q new
next_earlier cmp birth next p q root added removed t new later e c =
    let made = c.births e.descends (at_most birth t e.before) in
    record { stands = c.set.stands; descends = made.0; before = born_before birth next new later made.1 }

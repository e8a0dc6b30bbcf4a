-- What was taken back is as it was.
use Rattle.std.proofs.Common.{◌≡◌, ◌⊎◌, ℕ, zero, suc, ◌<◌, ◌≤◌, false, true≢false, Option, Some, None, is_some, IsSome, get_or, refl, sym, ap, subst, ◌∙◌, inl, inr, arith}
use Rattle.std.proofs.lemmas.Bool.{cases_lt}
use Rattle.gs_pool.specs.declared.nodes.Node.{Node}
use Rattle.gs_pool.specs.Pool.{Nodes, NodeMark, plain, aside, retired, is_aside, node_at, mark_at, KeepsNodes, KeepsMarks}
use Rattle.gs_tree.specs.Tree.{Tree, occurrences}
use Rattle.gs_tree.specs.Steps.{plain_count, plain_mark, Step, IsOlder}
use Rattle.gs_tree.proofs.TreeLemmas.{plain_count_none, plain_count_mark}
use Rattle.gs_tree.proofs.Counting.{occurrences_used}
use Rattle.gs_changes.specs.Changes.{CanBegin}
use Rattle.gs_changes.specs.Endings.{returned, FreesYoung, KeepsAllMarks, Returns, TakesBack, Restores}
use Rattle.gs_changes.proofs.Counts.{count_same, none_counted}
use Rattle.gs_changes.proofs.StepLemmas.{step_retired}
use Rattle.gs_changes.proofs.ChangeLemmas.{older_nodes}

zero_or : (n : ℕ) → (n ≡ 0) ⊎ (0 < n)
zero_or zero = inl refl
zero_or (suc n) = inr (omega arith)

-- a mark that is not set aside stays where such marks become plain
pub returned_same : (m : NodeMark) → is_aside m ≡ false → returned m ≡ m
returned_same plain h = refl
returned_same (aside death whole) h = absurd (true≢false h)
returned_same (retired death whole) h = refl

-- what was young is freed, and then what was set aside is plain
pub taken_back : (since : ℕ) (p q r : Nodes) (t : Tree) → FreesYoung since p q t → KeepsAllMarks p q → Returns q r → TakesBack since p r t
taken_back since p q r t f m b =
    let at : (x : ℕ) → node_at r x ≡ node_at q x = λ x. ap (λ ns. get_or ns x None) b.nodes in
    record {
      frees = record {
        gone = λ x n h e young. at x ∙ f.gone x n h e young;
        rest = λ x h. at x ∙ f.rest x h;
      };
      marks = λ x. b.marks x ∙ ap returned (m.marks x);
      aside = b.aside;
      retired = b.retired ∙ m.retired;
    }

module _ (since : ℕ) (p q r : Nodes) (t new : Tree) (b : CanBegin since p t) (s : Step since since p q (occurrences t) (occurrences new)) (k : TakesBack since q r new) where
  -- the tree has no number that is free
  off_free : (x : ℕ) → node_at p x ≡ None → occurrences t x ≡ 0
  off_free x e = elim (zero_or (occurrences t x)) [
    | inl none ↦ none
    | inr some ↦ absurd (true≢false (sym (subst IsSome e (occurrences_used p t b.earlier.stands x some))))
  ]

  -- nor one that is no older than the commit
  off_young : (x : ℕ) (n : Node) → node_at p x ≡ Some n → since ≤ n.birth → occurrences t x ≡ 0
  off_young x n e young = elim (zero_or (occurrences t x)) [
    | inl none ↦ none
    | inr some ↦ absurd (let low = older_nodes since p t b.earlier x n some e in omega arith)
  ]

  -- where a number was not older, its mark stayed
  same_mark : (x : ℕ) → (IsOlder since p x → Unit {0} → ⊥) → mark_at q x ≡ mark_at p x
  same_mark x not = elim (s.marks x) [ inl same ↦ same | inr gone ↦ absurd (not gone.0 tt) ]

  -- a number that was free is free again
  free_again : (x : ℕ) → node_at p x ≡ None → node_at r x ≡ None
  free_again x e = by_now (node_at q x) refl
    where
      was : plain_count p x ≡ 0
      was = plain_count_none p x e

      by_now : (o : Option Node) → node_at q x ≡ o → node_at r x ≡ None
      by_now None f = k.frees.rest x (inl (omega (arith, s.balance x, was, plain_count_none q x f, off_free x e))) ∙ f
      by_now (Some m) f = elim (cases_lt m.birth since) [
        | inl old ↦ absurd (let there = s.older x m f old in let bad : None ≡ Some m = sym e ∙ there in cc)
        | inr young ↦
            let mark : mark_at q x ≡ plain = same_mark x (λ old _. let bad : None ≡ Some old.0 = sym e ∙ old.1 in cc) ∙ b.parted x e in
            let now : plain_count q x ≡ 1 = plain_count_mark q x (ap is_some f) ∙ ap plain_mark mark in
            k.frees.gone x m (omega (arith, s.balance x, was)) f young
      ]

  -- a number that was in use has its node
  used_again : (x : ℕ) (n : Node) → node_at p x ≡ Some n → node_at r x ≡ Some n
  used_again x n e = elim (cases_lt n.birth since) [
    | inl old ↦ let there = s.kept x n e (inr old) in k.frees.rest x (inr (n, there, old)) ∙ there
    | inr young ↦
        let off = off_young x n e young in
        let there = s.kept x n e (inl off) in
        let mark = same_mark x (λ old _. let same : Some old.0 ≡ Some n = sym old.1 ∙ e in let one : old.0.birth ≡ n.birth = cc in omega (arith, old.2)) in
        let was = plain_count_mark p x (ap is_some e) in
        let now = plain_count_mark q x (ap is_some there) ∙ ap plain_mark mark in
        k.frees.rest x (inl (omega (arith, s.balance x))) ∙ there
  ]

  nodes_again : KeepsNodes p r
  nodes_again x = by_node (node_at p x) refl
    where
      by_node : (o : Option Node) → node_at p x ≡ o → node_at r x ≡ node_at p x
      by_node None e = free_again x e ∙ sym e
      by_node (Some n) e = used_again x n e ∙ sym e

  marks_again : KeepsMarks p r
  marks_again x = k.marks x ∙ elim (s.marks x) [
    | inl same ↦ ap returned same ∙ returned_same (mark_at p x) (none_counted is_aside plain refl p.marks b.none_aside x)
    | inr gone ↦ ap returned gone.2 ∙ sym gone.1
  ]

  pub restored : Restores p r
  restored = record {
    nodes = nodes_again;
    marks = marks_again;
    in_use = count_same is_some None refl r.nodes p.nodes (λ x. ap is_some (nodes_again x));
    aside = k.aside;
    retired = k.retired ∙ step_retired since p q t new s;
  }

-- Changes: of nothing, by one union, by one removal, and one after another.
use Rattle.std.proofs.Common.{◌≡◌, ℕ, ◌+◌, ◌<◌, List, Option, Some, refl, sym, ◌∙◌, inl, arith}
use Rattle.std.specs.declared.cmp.Ordering.{Ordering}
use Rattle.gs_pool.specs.declared.nodes.Key.{Key}
use Rattle.gs_pool.specs.declared.nodes.Node.{Node}
use Rattle.gs_pool.specs.Pool.{Nodes, node_at}
use Rattle.gs_tree.specs.Tree.{Tree, leaf, fork, occurrences, Stands, BirthAtMost, Descends}
use Rattle.gs_tree.specs.Steps.{Step}
use Rattle.gs_tree.specs.Sets.{IsSet, Unites, RemovesOneKey}
use Rattle.gs_tree.proofs.TreeLemmas.{Step-then, born_at}
use Rattle.gs_changes.specs.Changes.{Changes, IsBornBefore, IsEarlier}
use Rattle.gs_changes.specs.Endings.{IsDraft}
use Rattle.gs_changes.proofs.StepLemmas.{step_aside, step_others, step_retired}

-- a step that changes nothing
pub same_step : (birth : ℕ) (p : Nodes) (f : ℕ → ℕ) → Step birth birth p p f f
same_step birth p f = record {
  kept = λ x n e h. e;
  balance = λ x. refl;
  older = λ x n e h. e;
  born = λ x n e. inl e;
  marks = λ x. inl refl;
}

-- the change before any key
pub unchanged : (cmp : Key → Key → Ordering) (birth : ℕ) (p : Nodes) (root : Option ℕ) (t : Tree) → IsSet cmp p root t → Changes cmp birth p p root 0 0 t t
unchanged cmp birth p root t s =
    let step = same_step birth p (occurrences t) in
    record {
      set = s;
      births = λ d b. (d, b);
      step = step;
      others = step_others birth p p t t step;
      aside = λ x. inl refl;
      still = λ z. (s.root_is, refl, refl);
      counted = refl;
      copied = refl;
      exact = refl;
      retired = refl;
      few = omega arith;
    }

-- a union is a change
pub unites_changes : (cmp : Key → Key → Ordering) (birth : ℕ) (p q : Nodes) (root : Option ℕ) (added : ℕ) (t : Tree) (run : List Key) (new : Tree) → Unites cmp birth birth p q root added t run new → Changes cmp birth p q root added 0 t new
unites_changes cmp birth p q root added t run new u = record {
  set = u.set;
  births = u.births;
  step = u.step;
  others = u.others;
  aside = step_aside birth p q t new u.step u.set.apart;
  still = λ z. u.still (omega arith);
  counted = omega (arith, u.counted);
  copied = omega (arith, u.copied);
  exact = omega (arith, u.exact);
  retired = step_retired birth p q t new u.step;
  few = omega (arith, u.few);
}

-- a removal is a change
pub removes_changes : (cmp : Key → Key → Ordering) (birth : ℕ) (p q : Nodes) (root : Option ℕ) (key : Key) (t new : Tree) → RemovesOneKey cmp birth birth p q root key t new → Changes cmp birth p q root 0 1 t new
removes_changes cmp birth p q root key t new u = record {
  set = u.set;
  births = u.births;
  step = u.step;
  others = u.others;
  aside = step_aside birth p q t new u.step u.set.apart;
  still = λ z. absurd (omega arith);
  counted = omega (arith, u.counted);
  copied = omega (arith, u.copied);
  exact = omega (arith, u.exact);
  retired = step_retired birth p q t new u.step;
  few = omega (arith, u.few);
}

-- two changes, one after the other, are one
pub then : (cmp : Key → Key → Ordering) (birth : ℕ) (p q r : Nodes) (first second : Option ℕ) (a b c d : ℕ) (t u v : Tree) → Changes cmp birth p q first a b t u → Changes cmp birth q r second c d u v → Changes cmp birth p r second (a + c) (b + d) t v
then cmp birth p q r first second a b c d t u v f g =
    let step = Step-then birth birth p q r (occurrences t) (occurrences u) (occurrences v) f.step g.step in
    record {
      set = g.set;
      births = λ e h. let m = f.births e h in g.births m.0 m.1;
      step = step;
      others = step_others birth p r t v step;
      aside = step_aside birth p r t v step g.set.apart;
      still = λ z.
          let one = f.still (omega arith) in
          let two = g.still (omega arith) in
          (two.0 ∙ sym f.set.root_is ∙ one.0, two.1 ∙ one.1, two.2 ∙ one.2);
      counted = omega (arith, f.counted, g.counted);
      copied = omega (arith, f.copied, g.copied);
      exact = omega (arith, f.exact, g.exact);
      retired = g.retired ∙ f.retired;
      few = omega (arith, f.few, g.few);
    }

-- where no node is after the commit number v, the tree is before the next commit
pub born_before : (v birth : ℕ) (t : Tree) → v < birth → BirthAtMost v t → IsBornBefore birth t
born_before v birth leaf h b = tt
born_before v birth (fork id i l k r) h b = omega arith

pub at_most : (birth : ℕ) (t : Tree) → IsBornBefore birth t → BirthAtMost birth t
at_most birth leaf b = tt
at_most birth (fork id i l k r) b = omega arith

-- each node of an earlier tree is older than the commit
pub older_nodes : (birth : ℕ) (p : Nodes) (t : Tree) → IsEarlier birth p t → (x : ℕ) (n : Node) → 0 < occurrences t x → node_at p x ≡ Some n → n.birth < birth
older_nodes birth p t e x n h f = by_tree t e.stands e.descends e.before h
  where
    by_tree : (u : Tree) → Stands p u → Descends u → IsBornBefore birth u → 0 < occurrences u x → n.birth < birth
    by_tree leaf s d b h = absurd (omega arith)
    by_tree (fork id i l k r) s d b h =
        let low : BirthAtMost i (fork id i l k r) = omega arith in
        omega (arith, b, born_at p i (fork id i l k r) x n s d low h f)

-- what an earlier tree became can be taken back
pub draft : (cmp : Key → Key → Ordering) (birth : ℕ) (p q : Nodes) (root : Option ℕ) (added removed : ℕ) (t new : Tree) → IsEarlier birth p t → Changes cmp birth p q root added removed t new → IsDraft q root new
draft cmp birth p q root added removed t new e c = record {
  root_is = c.set.root_is;
  stands = c.set.stands;
  descends = (c.births e.descends (at_most birth t e.before)).0;
  apart = c.set.apart;
}

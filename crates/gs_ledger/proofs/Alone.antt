-- Nodes that are set aside, as nodes that died alone.
use Rattle.std.proofs.Common.{◌≡◌, ◌≢◌, ◌⊎◌, ℕ, zero, suc, ◌<◌, ◌≤◌, Bool, true, false, cond, [], length, Option, Some, None, refl, ap, ◌∙◌, inl, inr, arith}
use Rattle.std.proofs.lemmas.List.Elements.{All-append, All-cons, All-nil}
use Rattle.std.proofs.lemmas.Bool.{cases_lt}
use Rattle.std.proofs.lemmas.List.{get_or_past}
use Rattle.std.specs.List.{All}
use Rattle.gs_pool.specs.declared.nodes.Node.{Node}
use Rattle.gs_pool.specs.Pool.{Nodes, NodeMark, plain, aside, retired, is_aside, node_at, mark_at, retired_mark}
use Rattle.gs_tree.specs.Tree.{leaf}
use Rattle.gs_tree.specs.Steps.{one}
use Rattle.gs_tree.proofs.TreeLemmas.{one_cases}
use Rattle.gs_ledger.specs.Entries.{Dead, dead_have, dead_have_after, tops}
use Rattle.gs_ledger.specs.Marks.{death_of}
use Rattle.gs_ledger.specs.Ledger.{IsDead}
use Rattle.gs_ledger.specs.Changes.{RetiresAside, alone_at, alone_below, aside_dead}
use Rattle.gs_ledger.proofs.Sums.{dead_cons, dead_append, after_cons, after_append, after_yes, tops_cons, tops_append}
use Rattle.gs_ledger.proofs.Frames.{tree_leaf}

-- 1 where a node is set aside
abbrev pub set_aside : Option Node → Bool → ℕ
set_aside None is = 0
set_aside (Some n) is = cond {A = ℕ} is 1 0

abbrev lone : ℕ → ℕ → ℕ → Dead
lone death x birth = record { id = x; birth = birth; death = death; whole = false; left = leaf; right = leaf }

-- a node alone has its own number, and is its own top
one_have : (death i : ℕ) (o : Option Node) (is : Bool) (x : ℕ) → ((i ≡ x) × (dead_have (alone_at death i o is) x ≡ set_aside o is)) ⊎ ((i ≢ x) × (dead_have (alone_at death i o is) x ≡ 0))
one_have death i o is x = elim (one_cases i x) [
  | inl here ↦ inl (here.0, same o is here.1)
  | inr ne ↦ inr (ne.0, other o is ne.1)
]
  where
    same : (o : Option Node) (is : Bool) → one i x ≡ 1 → dead_have (alone_at death i o is) x ≡ set_aside o is
    same None is h = refl
    same (Some n) true h = omega (arith, h, dead_cons (lone death i n.birth) [] x)
    same (Some n) false h = refl

    other : (o : Option Node) (is : Bool) → one i x ≡ 0 → dead_have (alone_at death i o is) x ≡ 0
    other None is h = refl
    other (Some n) true h = omega (arith, h, dead_cons (lone death i n.birth) [] x)
    other (Some n) false h = refl

below_past : (death n : ℕ) (p : Nodes) (x : ℕ) → n ≤ x → dead_have (alone_below death n p) x ≡ 0
below_past death zero p x h = refl
below_past death (suc n) p x h = elim (one_have death n (node_at p n) (is_aside (mark_at p n)) x) [
  | inl here ↦ absurd (let e : n ≡ x = here.0 in omega arith)
  | inr ne ↦ omega (arith, ne.1, dead_append (alone_at death n (node_at p n) (is_aside (mark_at p n))) (alone_below death n p) x, below_past death n p x (omega arith))
]

below_here : (death n : ℕ) (p : Nodes) (x : ℕ) → x < n → dead_have (alone_below death n p) x ≡ set_aside (node_at p x) (is_aside (mark_at p x))
below_here death zero p x h = absurd (omega arith)
below_here death (suc n) p x h = elim (one_have death n (node_at p n) (is_aside (mark_at p n)) x) [
  | inl here ↦ let e : n ≡ x = here.0 in
      let at : set_aside (node_at p n) (is_aside (mark_at p n)) ≡ set_aside (node_at p x) (is_aside (mark_at p x)) = ap (λ i. set_aside (node_at p i) (is_aside (mark_at p i))) e in
      omega (arith, here.1, at, dead_append (alone_at death n (node_at p n) (is_aside (mark_at p n))) (alone_below death n p) x, below_past death n p x (omega arith))
  | inr ne ↦ omega (arith, ne.1, dead_append (alone_at death n (node_at p n) (is_aside (mark_at p n))) (alone_below death n p) x, below_here death n p x (lower ne.0))
]
  where
    lower : n ≢ x → x < n
    lower ne = omega arith

-- a number is among the nodes that are set aside just where its node is
pub aside_have : (death : ℕ) (p : Nodes) (x : ℕ) → dead_have (aside_dead death p) x ≡ set_aside (node_at p x) (is_aside (mark_at p x))
aside_have death p x = elim (cases_lt x (length p.nodes)) [
  | inl within ↦ below_here death (length p.nodes) p x within
  | inr past ↦ omega (arith, below_past death (length p.nodes) p x past, ap (λ o. set_aside o (is_aside (mark_at p x))) (get_or_past p.nodes x None past))
]

-- each of them is a top, and none has sides
one_tops : (death i : ℕ) (o : Option Node) (is : Bool) (x : ℕ) → tops (alone_at death i o is) x ≡ dead_have (alone_at death i o is) x
one_tops death i None is x = refl
one_tops death i (Some n) true x = omega (arith, tops_cons (lone death i n.birth) [] x, dead_cons (lone death i n.birth) [] x)
one_tops death i (Some n) false x = refl

pub alone_tops : (death n : ℕ) (p : Nodes) (x : ℕ) → tops (alone_below death n p) x ≡ dead_have (alone_below death n p) x
alone_tops death zero p x = refl
alone_tops death (suc n) p x =
    let first = alone_at death n (node_at p n) (is_aside (mark_at p n)) in
    let rest = alone_below death n p in
    omega (arith, tops_append first rest x, dead_append first rest x, one_tops death n (node_at p n) (is_aside (mark_at p n)) x, alone_tops death n p x)

-- each of them has this death
one_after : (w death i : ℕ) (o : Option Node) (is : Bool) (x : ℕ) → w < death → dead_have_after w (alone_at death i o is) x ≡ dead_have (alone_at death i o is) x
one_after w death i None is x h = refl
one_after w death i (Some n) true x h = omega (arith, after_cons w (lone death i n.birth) [] x, after_yes w (lone death i n.birth) x h, dead_cons (lone death i n.birth) [] x)
one_after w death i (Some n) false x h = refl

pub alone_after : (w death n : ℕ) (p : Nodes) (x : ℕ) → w < death → dead_have_after w (alone_below death n p) x ≡ dead_have (alone_below death n p) x
alone_after w death zero p x h = refl
alone_after w death (suc n) p x h =
    let first = alone_at death n (node_at p n) (is_aside (mark_at p n)) in
    let rest = alone_below death n p in
    omega (arith, after_append w first rest x, dead_append first rest x, one_after w death n (node_at p n) (is_aside (mark_at p n)) x h, alone_after w death n p x h)

-- a mark of a node that is set aside, once it is retired
retired_alone : (death : ℕ) (m : NodeMark) → is_aside m ≡ true → death_of (retired_mark death m) ≡ Some (death, false)
retired_alone death plain e = absurd (cc)
retired_alone death (aside d w) e = refl
retired_alone death (retired d w) e = absurd (cc)

-- once they are retired they are dead
pub alone_dead : (q r : Nodes) (c death n : ℕ) → death ≤ c → RetiresAside q r death → All (IsDead r c) (alone_below death n q)
alone_dead q r c death zero le h = All-nil (IsDead r c)
alone_dead q r c death (suc n) le h = All-append (IsDead r c) (alone_at death n (node_at q n) (is_aside (mark_at q n))) (alone_below death n q) (by_node (node_at q n) refl (is_aside (mark_at q n)) refl) (alone_dead q r c death n le h)
  where
    by_node : (o : Option Node) → node_at q n ≡ o → (is : Bool) → is_aside (mark_at q n) ≡ is → All (IsDead r c) (alone_at death n o is)
    by_node None e is m = All-nil (IsDead r c)
    by_node (Some k) e false m = All-nil (IsDead r c)
    by_node (Some k) e true m = All-cons (IsDead r c) (lone death n k.birth) [] (record {
      top = k;
      found = h.nodes n ∙ e;
      birth_is = refl;
      marked = ap death_of (h.marks n) ∙ retired_alone death (mark_at q n) m;
      sides = (refl, refl);
      left_tree = tree_leaf r k.birth;
      right_tree = tree_leaf r k.birth;
      died = le;
    }) (All-nil (IsDead r c))

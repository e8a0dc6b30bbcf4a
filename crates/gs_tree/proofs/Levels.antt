-- One level of a tree.
use Rattle.std.proofs.Common.{◌≡◌, ℕ, ◌+◌, ◌<◌, ◌≤◌, max, Option, Some, is_some, IsSome, sym, ap, subst, ◌∙◌, inl, inr, arith}
use Rattle.std.proofs.lemmas.Bool.{cases_lt}
use Rattle.gs_pool.specs.declared.nodes.Node.{Node}
use Rattle.gs_pool.specs.Pool.{Nodes, plain, node_at, mark_at}
use Rattle.gs_tree.specs.Tree.{Tree, leaf, fork, root_of, height, occurrences, top_node, Stands, older_birth, older_count}
use Rattle.gs_tree.specs.Steps.{plain_count, one, Step, IsOlder, IsWritable, CopiesIfOlder}
use Rattle.gs_tree.specs.Joining.{IsHeightAfter}
use Rattle.gs_tree.proofs.TreeLemmas.{one_same, plain_count_most, plain_found, Stands-step, Step-then, Step-beside, CopiesIfOlder-step, birth_same, old_birth}

-- the top of a tree that a root names
pub record Opened (p : Nodes) (id : ℕ) (node : Node) (t : Tree) : Type 0 where
  pub birth : ℕ
  pub birth_is : birth ≡ node.birth
  pub l : Tree
  pub r : Tree
  pub is : t ≡ fork id birth l node.key r
  pub left_is : node.left ≡ root_of l
  pub right_is : node.right ≡ root_of r
  pub height_is : node.height ≡ max (height l) (height r) + 1
  pub sl : Stands p l
  pub sr : Stands p r
  pub used : IsSome (node_at p id)

pub opened : (p : Nodes) (root : Option ℕ) (id : ℕ) (node : Node) (t : Tree) → root ≡ root_of t → Stands p t → root ≡ Some id → node_at p id ≡ Some node → Opened p id node t
opened p root id node leaf e s is found = absurd (cc)
opened p root id node (fork i birth l k r) e s is found =
    let same : i ≡ id = cc in
    let here : node_at p id ≡ Some (top_node birth l k r) = subst (λ j. node_at p j ≡ Some (top_node birth l k r)) same s.0 in
    let n : top_node birth l k r ≡ node = cc in
    record {
      birth = birth;
      birth_is = ap (λ (m : Node). m.birth) n;
      l = l;
      r = r;
      is = ap (λ a. fork a birth l k r) same ∙ ap (λ (m : Node). fork id birth l m.key r) n;
      left_is = sym (ap (λ (m : Node). m.left) n);
      right_is = sym (ap (λ (m : Node). m.right) n);
      height_is = sym (ap (λ (m : Node). m.height) n);
      sl = s.1;
      sr = s.2;
      used = ap is_some found;
    }

-- how many nodes are older, by the top and the sides
pub opened_older : (since : ℕ) (p : Nodes) (id : ℕ) (node : Node) (t : Tree) (o : Opened p id node t) → older_count since t ≡ older_birth since node.birth + older_count since o.l + older_count since o.r
opened_older since p id node t o = ap (older_count since) o.is ∙ ap (λ b. older_birth since b + older_count since o.l + older_count since o.r) o.birth_is

-- an older node counts
pub older_counts : (since : ℕ) (p : Nodes) (id : ℕ) (node : Node) → node_at p id ≡ Some node → IsOlder since p id → (older_birth since node.birth ≡ 1) × (0 < since)
older_counts since p id node found old =
    let same : old.0.birth ≡ node.birth = birth_same _ _ (sym old.1 ∙ found) in
    (old_birth since node.birth (omega (arith, old.2)), omega (arith, old.2))

-- a tree whose top is older has an older node
pub older_root : (since : ℕ) (p : Nodes) (root : Option ℕ) (id : ℕ) (node : Node) (t : Tree) → root ≡ root_of t → Stands p t → root ≡ Some id → node_at p id ≡ Some node → IsOlder since p id → (1 ≤ older_count since t) × (0 < since)
older_root since p root id node t e s is found old =
    let o = opened p root id node t e s is found in
    let c = older_counts since p id node found old in
    (omega (arith, opened_older since p id node t o, c.0), c.1)

-- the top of a tree of plain nodes is plain
pub root_plain : (p : Nodes) (root : Option ℕ) (id : ℕ) (node : Node) (t : Tree) → root ≡ root_of t → Stands p t → root ≡ Some id → node_at p id ≡ Some node → ((x : ℕ) → occurrences t x ≤ plain_count p x) → mark_at p id ≡ plain
root_plain p root id node t e s is found apart =
    let o = opened p root id node t e s is found in
    (plain_found p id (omega (arith, apart id, ap (λ u. occurrences u id) o.is, one_same id))).1

-- the top stays plain while a side changes
pub top_plain : (since birth : ℕ) (p q : Nodes) (id : ℕ) (a b c : ℕ → ℕ) → Step since birth p q a b → ((x : ℕ) → one id x + a x + c x ≤ plain_count p x) → mark_at q id ≡ plain
top_plain since birth p q id a b c s within = (plain_found q id (omega (arith, s.balance id, within id, one_same id))).1

-- the sides do not have the top
pub side_off : (p : Nodes) (id : ℕ) (node : Node) (t : Tree) (o : Opened p id node t) → ((x : ℕ) → occurrences t x ≤ plain_count p x) → (occurrences o.l id ≡ 0) × (occurrences o.r id ≡ 0)
side_off p id node t o apart = let a = apart id in let e = ap (λ u. occurrences u id) o.is in let s = one_same id in let m = plain_count_most p id in (omega arith, omega arith)

-- the top stays as it is while a side changes
pub top_same : (since birth : ℕ) (p q : Nodes) (id : ℕ) (node : Node) (a b : ℕ → ℕ) → node_at p id ≡ Some node → a id ≡ 0 → Step since birth p q a b → node_at q id ≡ Some node
top_same since birth p q id node a b found off s = s.kept id node found (inl off)

-- the top stays in use while a side changes
pub top_stays : (since birth : ℕ) (p q : Nodes) (id : ℕ) (node : Node) (a b : ℕ → ℕ) → node_at p id ≡ Some node → a id ≡ 0 → Step since birth p q a b → IsSome (node_at q id)
top_stays since birth p q id node a b found off s = ap is_some (s.kept id node found (inl off))

-- a side became the tree a', and the node above it may be written
pub record ChildDone (since birth : ℕ) (p q : Nodes) (id top : ℕ) (a : ℕ → ℕ) (a' b : Tree) : Type 0 where
  pub child : Stands q a'
  pub other : Stands q b
  pub writable : IsWritable since q top
  pub apart : (i : ℕ) → one top i + occurrences a' i + occurrences b i ≤ plain_count q i
  pub step : Step since birth p q (λ i. one id i + a i + occurrences b i) (λ i. one top i + occurrences a' i + occurrences b i)

pub child_done : (since birth : ℕ) (p p1 p2 : Nodes) (id top : ℕ) (a : ℕ → ℕ) (a' b : Tree) → Stands p b → ((i : ℕ) → one id i + a i + occurrences b i ≤ plain_count p i) → Stands p1 a' → Step since birth p p1 a (occurrences a') → CopiesIfOlder since birth p1 p2 id top → ChildDone since birth p p2 id top a a' b
child_done since birth p p1 p2 id top a a' b sb within sa' s o =
    let copied = CopiesIfOlder-step since birth p1 p2 id top o in
    let apart1 : (i : ℕ) → one id i + occurrences a' i + occurrences b i ≤ 1 = λ i. omega (arith, s.balance i, within i, plain_count_most p1 i) in
    let s1 : Step since birth p p1 (λ i. one id i + a i + occurrences b i) (λ i. one id i + occurrences a' i + occurrences b i) = Step-beside since birth p p1 a (occurrences a') _ _ s (λ i. omega arith) (λ i. omega arith) in
    let s2 : Step since birth p1 p2 (λ i. one id i + occurrences a' i + occurrences b i) (λ i. one top i + occurrences a' i + occurrences b i) = Step-beside since birth p1 p2 (one id) (one top) _ _ copied (λ i. omega arith) (λ i. omega arith) in
    let both = Step-then since birth p p1 p2 _ _ _ s1 s2 in
    let sb1 : Stands p1 b = Stands-step since birth p p1 a (occurrences a') b s (λ i h. omega (arith, within i, plain_count_most p i)) sb in
    record {
      child = Stands-step since birth p1 p2 (one id) (one top) a' copied (λ i h. omega (arith, apart1 i)) sa';
      other = Stands-step since birth p1 p2 (one id) (one top) b copied (λ i h. omega (arith, apart1 i)) sb1;
      writable = record { used = o.used; recent = o.recent };
      apart = λ i. omega (arith, both.balance i, within i);
      step = both;
    }

-- a tree whose side grew by one level at most is no lower
pub settled_low : (l l' r n : ℕ) → l ≤ r + 1 → r ≤ l + 1 → l ≤ l' → l' ≤ l + 1 → IsHeightAfter l' r n → max l r + 1 ≤ n
settled_low l l' r n a b c d h =
    let h0 : max l' r ≤ n = h.0 in
    elim (cases_lt (r + 1) l') [
      | inl far ↦ omega arith
      | inr near ↦ let e = h.2 (near, omega arith) in omega arith
    ]

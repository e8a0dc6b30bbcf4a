-- What stays of trees, dead nodes and reads as a pool changes beside them.
use Rattle.std.proofs.Common.{◌≡◌, ℕ, ◌<◌, ◌≤◌, Bool, true, false, List, [], get_or, Option, Some, None, is_some, refl, ap, ◌∙◌, arith, cond}
use Rattle.std.proofs.lemmas.List.Elements.{All-cons, All-nil, All-head}
use Rattle.std.specs.List.{All}
use Rattle.gs_pool.specs.declared.nodes.Node.{Node}
use Rattle.gs_pool.specs.Pool.{Nodes, NodeMark, plain, aside, retired, node_at, mark_at}
use Rattle.gs_tree.specs.Tree.{Tree, leaf, fork, occurrences, top_node}
use Rattle.gs_tree.specs.Steps.{one, plain_mark}
use Rattle.gs_tree.proofs.TreeLemmas.{Stands-same, BirthAtMost-later, born_at, one_same}
use Rattle.gs_ledger.specs.Entries.{Dead, trees_have, entry_has, dead_have, tops, died_whole}
use Rattle.gs_ledger.specs.Marks.{death_of, used_count}
use Rattle.gs_ledger.specs.Ledger.{IsTreeOf, IsDead, IsRead, IsReadAt}
use Rattle.gs_ledger.specs.Changes.{IsMarked}
use Rattle.gs_ledger.proofs.Sums.{sum_at}

-- a pool has what another has of these numbers
abbrev pub Keeps : Nodes → Nodes → (ℕ → ℕ) → Type 0
Keeps p q f = (x : ℕ) (n : Node) → 0 < f x → node_at p x ≡ Some n → node_at q x ≡ Some n

-- a number in use counts 1, and a free one 0
pub used_some : (p : Nodes) (x : ℕ) (n : Node) → node_at p x ≡ Some n → used_count p x ≡ 1
used_some p x n e = ap (λ o. cond {A = ℕ} (is_some o) 1 0) e

pub used_none : (p : Nodes) (x : ℕ) → node_at p x ≡ None → used_count p x ≡ 0
used_none p x e = ap (λ o. cond {A = ℕ} (is_some o) 1 0) e

pub used_same : (p q : Nodes) (x : ℕ) → node_at q x ≡ node_at p x → used_count q x ≡ used_count p x
used_same p q x e = ap (λ o. cond {A = ℕ} (is_some o) 1 0) e

pub used_most : (p : Nodes) (x : ℕ) → used_count p x ≤ 1
used_most p x = elim (is_some (node_at p x)) as (λ b. cond {A = ℕ} b 1 0 ≤ 1) [ true ↦ omega arith | false ↦ omega arith ]

-- a number that counts has a node
pub used_found : (p : Nodes) (x : ℕ) → 0 < used_count p x → (n : Node) × (node_at p x ≡ Some n)
used_found p x h = by_node (node_at p x) h
  where
    by_node : (o : Option Node) → 0 < cond {A = ℕ} (is_some o) 1 0 → (n : Node) × (o ≡ Some n)
    by_node None h = absurd (omega arith)
    by_node (Some n) h = (n, refl)

-- trees
pub tree_kept : (p q : Nodes) (v : ℕ) (t : Tree) → Keeps p q (occurrences t) → IsTreeOf p v t → IsTreeOf q v t
tree_kept p q v t kept s = record { stands = Stands-same p q t kept s.stands; descends = s.descends; born = s.born }

pub tree_later : (p : Nodes) (a b : ℕ) (t : Tree) → a ≤ b → IsTreeOf p a t → IsTreeOf p b t
tree_later p a b t h s = record { stands = s.stands; descends = s.descends; born = BirthAtMost-later a b t h s.born }

pub tree_leaf : (p : Nodes) (v : ℕ) → IsTreeOf p v leaf
tree_leaf p v = record { stands = tt; descends = tt; born = tt }

pub left_of : (p : Nodes) (v id birth : ℕ) (l : Tree) (k : _) (r : Tree) → IsTreeOf p v (fork id birth l k r) → IsTreeOf p birth l
left_of p v id birth l k r s = record { stands = s.stands.1; descends = s.descends.2; born = s.descends.0 }

pub right_of : (p : Nodes) (v id birth : ℕ) (l : Tree) (k : _) (r : Tree) → IsTreeOf p v (fork id birth l k r) → IsTreeOf p birth r
right_of p v id birth l k r s = record { stands = s.stands.2; descends = s.descends.3; born = s.descends.1 }

-- each node of a tree of v was born by v
pub born_by : (p : Nodes) (v : ℕ) (t : Tree) (x : ℕ) (n : Node) → IsTreeOf p v t → 0 < occurrences t x → node_at p x ≡ Some n → n.birth ≤ v
born_by p v t x n s h e = born_at p v t x n s.stands s.descends s.born h e

pub trees_kept : (p q : Nodes) (v : ℕ) (ts : List Tree) → Keeps p q (trees_have ts) → All (IsTreeOf p v) ts → All (IsTreeOf q v) ts
trees_kept p q v ts kept a = λ k d h. tree_kept p q v (get_or ts k d) (λ x n g e. kept x n (omega (arith, sum_at (λ t. occurrences t x) ts k d h)) e) (a k d h)

pub trees_later : (p : Nodes) (a b : ℕ) (ts : List Tree) → a ≤ b → All (IsTreeOf p a) ts → All (IsTreeOf p b) ts
trees_later p a b ts le s = λ k d h. tree_later p a b (get_or ts k d) le (s k d h)

-- dead nodes
pub dead_kept_one : (p q : Nodes) (c : ℕ) (d : Dead) → Keeps p q (entry_has d) → mark_at q d.id ≡ mark_at p d.id → IsDead p c d → IsDead q c d
dead_kept_one p q c d kept mark s = record {
  top = s.top;
  found = kept d.id s.top (omega (arith, one_same d.id)) s.found;
  birth_is = s.birth_is;
  marked = ap death_of mark ∙ s.marked;
  sides = s.sides;
  left_tree = tree_kept p q d.birth d.left (λ x n h e. kept x n (omega arith) e) s.left_tree;
  right_tree = tree_kept p q d.birth d.right (λ x n h e. kept x n (omega arith) e) s.right_tree;
  died = s.died;
}

pub dead_kept : (p q : Nodes) (c : ℕ) (ds : List Dead) → Keeps p q (dead_have ds) → ((x : ℕ) → 0 < tops ds x → mark_at q x ≡ mark_at p x) → All (IsDead p c) ds → All (IsDead q c) ds
dead_kept p q c ds kept marks a = λ k d h.
    let e = get_or ds k d in
    dead_kept_one p q c e
    (λ x n g f. kept x n (omega (arith, sum_at (λ m. entry_has m x) ds k d h)) f)
    (marks e.id (omega (arith, sum_at (λ m. one m.id e.id) ds k d h, one_same e.id)))
    (a k d h)

pub dead_later : (p : Nodes) (a b : ℕ) (ds : List Dead) → a ≤ b → All (IsDead p a) ds → All (IsDead p b) ds
dead_later p a b ds le s = λ k d h. record {
  top = (s k d h).top;
  found = (s k d h).found;
  birth_is = (s k d h).birth_is;
  marked = (s k d h).marked;
  sides = (s k d h).sides;
  left_tree = (s k d h).left_tree;
  right_tree = (s k d h).right_tree;
  died = omega (arith, (s k d h).died);
}

-- a tree of some version that died whole
pub dead_tree : (p : Nodes) (v c death : ℕ) (t : Tree) → death ≤ c → IsTreeOf p v t → All (IsMarked p) (died_whole death t) → All (IsDead p c) (died_whole death t)
dead_tree p v c death leaf le s m = λ k d h. absurd (omega arith)
dead_tree p v c death (fork id birth l k r) le s m = All-cons (IsDead p c) _ [] (record {
  top = top_node birth l k r;
  found = s.stands.0;
  birth_is = refl;
  marked = All-head (IsMarked p) _ [] m;
  sides = (refl, refl);
  left_tree = left_of p v id birth l k r s;
  right_tree = right_of p v id birth l k r s;
  died = le;
}) (All-nil (IsDead p c))

-- reads
pub read_map : (p q : Nodes) (c c' : ℕ) (gs gs' : List Tree) (ds ds' : List Dead) (pin : Option ℕ) (ts : List Tree) → c ≤ c' → ((v : ℕ) (t : Tree) → pin ≡ Some v → IsRead p c gs ds v t → IsRead q c' gs' ds' v t) → IsReadAt p c gs ds pin ts → IsReadAt q c' gs' ds' pin ts
read_map p q c c' gs gs' ds ds' None ts le f h = tt
read_map p q c c' gs gs' ds ds' (Some v) ts le f h = (omega (arith, h.0), λ k d lt. f v (get_or ts k d) refl (h.1 k d lt))

-- a mark that says a death is not plain
pub marked_one : (m : NodeMark) (d : ℕ × Bool) → death_of m ≡ Some d → plain_mark m ≡ 0
marked_one plain d e = absurd (cc)
marked_one (aside death whole) d e = refl
marked_one (retired death whole) d e = refl

-- How many nodes are in use, and how many lifetimes the waste has.
use Rattle.std.proofs.Common.{◌≡◌, ℕ, zero, suc, ◌+◌, ◌<◌, ◌≤◌, cond, List, [], ◌∷◌, length, take, Option, None, is_some, count_by, refl, sym, ap, ◌∙◌, inl, inr, arith, length-append}
use Rattle.std.proofs.lemmas.Bool.{cases_lt}
use Rattle.std.proofs.lemmas.List.{get_or_past, take_all}
use Rattle.std.proofs.lemmas.List.Sums.{sum_by-cons, sum_by-append, sum_by_more}
use Rattle.std.specs.List.{sum_by}
use Rattle.gs_pool.specs.declared.nodes.Node.{Node}
use Rattle.gs_pool.specs.Pool.{Nodes, in_use}
use Rattle.gs_tree.specs.Tree.{Tree, leaf, fork, keys, occurrences}
use Rattle.gs_tree.specs.Steps.{one}
use Rattle.gs_tree.proofs.TreeLemmas.{one_same}
use Rattle.gs_tree.proofs.Heights.{size, size-keys}
use Rattle.gs_tree.proofs.Counting.{below, below_add, below_same, below_none, below_one, below_occurrences}
use Rattle.gs_versions.specs.Pins.{Pins}
use Rattle.gs_event.specs.Waste.{Lifetime}
use Rattle.gs_ledger.specs.Entries.{Dead, trees_have, keys_in, entry_has, dead_have, tree_lives, entry_lives, lives}
use Rattle.gs_ledger.specs.Marks.{used_count, dead_at, waste_at}
use Rattle.gs_ledger.specs.Ledger.{IsLedger}
use Rattle.gs_ledger.specs.Laws.{SameLives, Counts as CountsNodes}
use Rattle.gs_ledger.proofs.Sums.{trees_cons, dead_cons}
use Rattle.gs_ledger.proofs.Marked.{said_by_marks}

pub length_tree : (death : ℕ) (t : Tree) → length (tree_lives death t) ≡ size t
length_tree death leaf = refl
length_tree death (fork id birth l k r) = omega (arith, length-append (tree_lives death l) (tree_lives death r), length_tree death l, length_tree death r)

below_trees : (ts : List Tree) (n : ℕ) → ((x : ℕ) → 0 < trees_have ts x → x < n) → below (trees_have ts) n ≡ keys_in ts
below_trees [] n h = below_none n
below_trees (t ∷ ts) n h = omega (
  arith,
  below_same (trees_have (t ∷ ts)) (λ x. occurrences t x + trees_have ts x) n (λ x l. trees_cons t ts x),
  below_add (occurrences t) (trees_have ts) n,
  below_occurrences t n (λ x g. h x (omega (arith, trees_cons t ts x))),
  size-keys t,
  below_trees ts n (λ x g. h x (omega (arith, trees_cons t ts x))),
  sum_by-cons (λ u. length (keys u)) t ts,
)

below_entry : (d : Dead) (n : ℕ) → ((x : ℕ) → 0 < entry_has d x → x < n) → below (entry_has d) n ≡ length (entry_lives d)
below_entry d n h =
    let a = below_add (λ x. one d.id x + occurrences d.left x) (occurrences d.right) n in
    let b = below_add (one d.id) (occurrences d.left) n in
    omega (
      arith,
      a,
      b,
      below_one d.id n (h d.id (omega (arith, one_same d.id))),
      below_occurrences d.left n (λ x g. h x (omega arith)),
      below_occurrences d.right n (λ x g. h x (omega arith)),
      length-append (tree_lives d.death d.left) (tree_lives d.death d.right),
      length_tree d.death d.left,
      length_tree d.death d.right,
    )

below_dead : (ds : List Dead) (n : ℕ) → ((x : ℕ) → 0 < dead_have ds x → x < n) → below (dead_have ds) n ≡ length (lives ds)
below_dead [] n h = below_none n
below_dead (d ∷ ds) n h = omega (
  arith,
  below_same (dead_have (d ∷ ds)) (λ x. entry_has d x + dead_have ds x) n (λ x l. dead_cons d ds x),
  below_add (entry_has d) (dead_have ds) n,
  below_entry d n (λ x g. h x (omega (arith, dead_cons d ds x))),
  below_dead ds n (λ x g. h x (omega (arith, dead_cons d ds x))),
  length-append (entry_lives d) (lives ds),
)

below_used : (p : Nodes) (n : ℕ) → n ≤ length p.nodes → below (used_count p) n ≡ count_by is_some (take n p.nodes)
below_used p zero h = refl
below_used p (suc n) h =
    let more = sum_by_more (λ (o : Option Node). cond {A = ℕ} (is_some o) 1 0) p.nodes n None (omega arith) in
    let next : suc n ≡ n + 1 = omega arith in
    omega (arith, below_used p n (omega arith), more, ap (λ k. count_by is_some (take k p.nodes)) next)

module _ (p : Nodes) (v : Pins) (gs us : List Tree) (rs : List (List Tree)) (ds : List Dead) (l : IsLedger p v gs us rs ds) where
  -- a number in use is a place of the pool
  pub within : (x : ℕ) → 0 < used_count p x → x < length p.nodes
  within x h = elim (cases_lt x (length p.nodes)) [
    | inl inside ↦ inside
    | inr past ↦ absurd (let none : used_count p x ≡ 0 = ap (λ o. cond {A = ℕ} (is_some o) 1 0) (get_or_past p.nodes x None past) in omega arith)
  ]

  -- the nodes in use, by whose they are
  pub in_use_is : in_use p ≡ keys_in gs + keys_in us + length (lives ds)
  in_use_is =
      let n = length p.nodes in
      let all : take n p.nodes ≡ p.nodes = take_all n p.nodes (omega arith) in
      omega (
        arith,
        below_used p n (omega arith),
        ap (count_by is_some) all,
        below_same (λ x. trees_have gs x + trees_have us x + dead_have ds x) (used_count p) n (λ x h. l.once x),
        below_add (λ x. trees_have gs x + trees_have us x) (dead_have ds) n,
        below_add (trees_have gs) (trees_have us) n,
        below_trees gs n (λ x h. within x (omega (arith, l.once x))),
        below_trees us n (λ x h. within x (omega (arith, l.once x))),
        below_dead ds n (λ x h. within x (omega (arith, l.once x))),
      )

-- a list is as long as its sum of ones
pub length_sum : (ls : List Lifetime) → sum_by (λ l. 1) ls ≡ length ls
length_sum [] = refl
length_sum (l ∷ ls) = omega (arith, sum_by-cons (λ (m : Lifetime). 1) l ls, length_sum ls)

-- lists with the same lifetimes are as long
pub same_length : (old new : List Lifetime) → SameLives old new → length new ≡ length old
same_length old new same = omega (arith, length_sum new, length_sum old, same (λ l. 1))

-- a sum over the waste, by dead nodes
pub lives_sum : (f : Lifetime → ℕ) (ds : List Dead) → sum_by f (lives ds) ≡ sum_by (λ d. sum_by f (entry_lives d)) ds
lives_sum f [] = refl
lives_sum f (d ∷ ds) = omega (arith, sum_by-append f (entry_lives d) (lives ds), lives_sum f ds, sum_by-cons (λ e. sum_by f (entry_lives e)) d ds)

-- the waste of a ledger is what the marks say
pub waste_is : (p : Nodes) (v : Pins) (gs us : List Tree) (rs : List (List Tree)) (ds : List Dead) → IsLedger p v gs us rs ds → SameLives (lives ds) (waste_at p)
waste_is p v gs us rs ds l f = lives_sum f (dead_at p) ∙ (said_by_marks p v gs us rs ds l).sums (λ d. sum_by f (entry_lives d)) ∙ sym (lives_sum f ds)

-- The nodes in use are counted by the ledger.
pub nodes_counted : (p : Nodes) (v : Pins) (gs us : List Tree) (rs : List (List Tree)) (ds : List Dead) → IsLedger p v gs us rs ds → CountsNodes p gs us ds
nodes_counted p v gs us rs ds l =
    let same = waste_is p v gs us rs ds l in
    record {
      nodes = omega (arith, in_use_is p v gs us rs ds l, same_length (lives ds) (waste_at p) same);
      waste = same;
    }

-- What becomes of births where nodes are made and freed.
use Rattle.std.proofs.Common.{◌≡◌, ℕ, zero, suc, ◌+◌, ◌*◌, ◌<◌, ◌≤◌, List, [], ◌∷◌, ◌++◌, length, length-append, Option, Some, None, refl, sym, ap, ◌∙◌, inl, inr, arith, cond, is_some, nat_eq, true, add-mul, one-mul, zero-mul, zero-add}
use Rattle.std.specs.List.{sum_by, All}
use Rattle.std.proofs.lemmas.Bool.{eq-eqb}
use Rattle.std.proofs.lemmas.List.Elements.{All-cons, All-nil, All-head, All-tail}
use Rattle.std.proofs.lemmas.List.Sums.{sum_by-cons, sum_by-append}
use Rattle.gs_pool.specs.declared.nodes.Node.{Node}
use Rattle.gs_pool.specs.Pool.{Nodes, node_at}
use Rattle.gs_tree.specs.Tree.{Tree, leaf, fork, keys, occurrences, Stands}
use Rattle.gs_tree.specs.Steps.{one, BornAt}
use Rattle.gs_tree.proofs.TreeLemmas.{one_cases, one_same}
use Rattle.gs_tree.proofs.Counting.{below, below_add, below_same, below_none}
use Rattle.gs_versions.specs.Pins.{Pins}
use Rattle.gs_event.specs.Waste.{Lifetime}
use Rattle.gs_ledger.specs.Entries.{Dead, trees_have, entry_has, dead_have, tree_births, tree_lives, entry_lives, lives}
use Rattle.gs_ledger.specs.Marks.{used_count}
use Rattle.gs_ledger.specs.Ledger.{IsTreeOf, IsDead, IsLedger}
use Rattle.gs_event.specs.Born.{ended_sum}
use Rattle.gs_event.specs.Wasting.{Joins, EndsAt}
use Rattle.gs_ledger.specs.Marks.{waste_at}
use Rattle.gs_ledger.specs.Laws.{StageBirths, CopyBirths, PutBirths}
use Rattle.gs_ledger.proofs.Sums.{trees_cons, dead_cons}
use Rattle.gs_ledger.proofs.Counts.{within, waste_is}

-- the births of the nodes of these trees
abbrev births_in : List Tree → List ℕ
births_in [] = []
births_in (t ∷ ts) = tree_births t ++ births_in ts

-- f of the birth of a node, 0 where there is none
abbrev at_birth : (ℕ → ℕ) → Option Node → ℕ
at_birth f None = 0
at_birth f (Some n) = f n.birth

-- the same of what a number has
abbrev weight : (ℕ → ℕ) → Nodes → ℕ → ℕ
weight f p x = at_birth f (node_at p x)

-- the sum of a function over the place of one number
below_at_past : (w : ℕ → ℕ) (id n : ℕ) → n ≤ id → below (λ x. one id x * w x) n ≡ 0
below_at_past w id zero h = refl
below_at_past w id (suc n) h = elim (one_cases id n) [
  | inl e ↦ absurd (omega (arith, e.0))
  | inr ne ↦ omega (arith, below_at_past w id n (omega arith), ap (λ k. k * w n) ne.1, zero-mul (w n))
]

below_at : (w : ℕ → ℕ) (id n : ℕ) → id < n → below (λ x. one id x * w x) n ≡ w id
below_at w id zero h = absurd (omega arith)
below_at w id (suc n) h = elim (one_cases id n) [
  | inl e ↦ omega (arith, below_at_past w id n (omega (arith, e.0)), ap (λ k. k * w n) e.1, one-mul (w n), ap w e.0)
  | inr ne ↦ let lower : id < n = omega (arith, ne.0) in omega (arith, below_at w id n lower, ap (λ k. k * w n) ne.1, zero-mul (w n))
]

-- a sum of two numbers, weighed
below_two : (f g w : ℕ → ℕ) (n : ℕ) → below (λ x. (f x + g x) * w x) n ≡ below (λ x. f x * w x) n + below (λ x. g x * w x) n
below_two f g w n = below_same (λ x. (f x + g x) * w x) (λ x. f x * w x + g x * w x) n (λ x h. add-mul (f x) (g x) (w x)) ∙ below_add (λ x. f x * w x) (λ x. g x * w x) n

below_zero : (w : ℕ → ℕ) (n : ℕ) → below (λ x. 0 * w x) n ≡ 0
below_zero w n = below_same (λ x. 0 * w x) (λ x. 0) n (λ x h. zero-mul (w x)) ∙ below_none n

-- a tree's nodes, weighed, are its births
below_tree : (f : ℕ → ℕ) (p : Nodes) (t : Tree) (n : ℕ) → Stands p t → ((x : ℕ) → 0 < occurrences t x → x < n) → below (λ x. occurrences t x * weight f p x) n ≡ sum_by f (tree_births t)
below_tree f p leaf n s h = below_zero (weight f p) n
below_tree f p (fork id birth l k r) n s h =
    let w : ℕ → ℕ = weight f p in
    omega (
      arith,
      below_two (λ x. one id x + occurrences l x) (occurrences r) w n,
      below_two (one id) (occurrences l) w n,
      below_at w id n (h id (omega (arith, one_same id))),
      ap (at_birth f) s.0,
      below_tree f p l n s.1 (λ x g. h x (omega arith)),
      below_tree f p r n s.2 (λ x g. h x (omega arith)),
      sum_by-cons f birth (tree_births l ++ tree_births r),
      sum_by-append f (tree_births l) (tree_births r),
    )

below_trees : (f : ℕ → ℕ) (p : Nodes) (c : ℕ) (ts : List Tree) (n : ℕ) → All (IsTreeOf p c) ts → ((x : ℕ) → 0 < trees_have ts x → x < n) → below (λ x. trees_have ts x * weight f p x) n ≡ sum_by f (births_in ts)
below_trees f p c [] n all h = below_zero (weight f p) n
below_trees f p c (t ∷ ts) n all h =
    let w : ℕ → ℕ = weight f p in
    omega (
      arith,
      below_same (λ x. trees_have (t ∷ ts) x * w x) (λ x. (occurrences t x + trees_have ts x) * w x) n (λ x l. ap (λ k. k * w x) (trees_cons t ts x)),
      below_two (occurrences t) (trees_have ts) w n,
      below_tree f p t n (All-head (IsTreeOf p c) t ts all).stands (λ x g. h x (omega (arith, trees_cons t ts x))),
      below_trees f p c ts n (All-tail (IsTreeOf p c) t ts all) (λ x g. h x (omega (arith, trees_cons t ts x))),
      sum_by-append f (tree_births t) (births_in ts),
    )

-- the lifetimes of a tree that died have its births
births_of_lives : (f : ℕ → ℕ) (death : ℕ) (t : Tree) → sum_by (λ (l : Lifetime). f l.birth) (tree_lives death t) ≡ sum_by f (tree_births t)
births_of_lives f death leaf = refl
births_of_lives f death (fork id birth l k r) = omega (
  arith,
  sum_by-cons (λ (m : Lifetime). f m.birth) (record { birth = birth; death = death }) (tree_lives death l ++ tree_lives death r),
  sum_by-append (λ (m : Lifetime). f m.birth) (tree_lives death l) (tree_lives death r),
  births_of_lives f death l,
  births_of_lives f death r,
  sum_by-cons f birth (tree_births l ++ tree_births r),
  sum_by-append f (tree_births l) (tree_births r),
)

-- a dead node and what went with it
below_entry : (f : ℕ → ℕ) (p : Nodes) (c : ℕ) (d : Dead) (n : ℕ) → IsDead p c d → ((x : ℕ) → 0 < entry_has d x → x < n) → below (λ x. entry_has d x * weight f p x) n ≡ sum_by (λ (l : Lifetime). f l.birth) (entry_lives d)
below_entry f p c d n dead h =
    let w : ℕ → ℕ = weight f p in
    let of : Lifetime → ℕ = λ m. f m.birth in
    omega (
      arith,
      below_two (λ x. one d.id x + occurrences d.left x) (occurrences d.right) w n,
      below_two (one d.id) (occurrences d.left) w n,
      below_at w d.id n (h d.id (omega (arith, one_same d.id))),
      ap (at_birth f) dead.found,
      ap f dead.birth_is,
      below_tree f p d.left n dead.left_tree.stands (λ x g. h x (omega arith)),
      below_tree f p d.right n dead.right_tree.stands (λ x g. h x (omega arith)),
      sum_by-cons of (record { birth = d.birth; death = d.death }) (tree_lives d.death d.left ++ tree_lives d.death d.right),
      sum_by-append of (tree_lives d.death d.left) (tree_lives d.death d.right),
      births_of_lives f d.death d.left,
      births_of_lives f d.death d.right,
    )

below_dead : (f : ℕ → ℕ) (p : Nodes) (c : ℕ) (ds : List Dead) (n : ℕ) → All (IsDead p c) ds → ((x : ℕ) → 0 < dead_have ds x → x < n) → below (λ x. dead_have ds x * weight f p x) n ≡ sum_by (λ (l : Lifetime). f l.birth) (lives ds)
below_dead f p c [] n all h = below_zero (weight f p) n
below_dead f p c (d ∷ ds) n all h =
    let w : ℕ → ℕ = weight f p in
    omega (
      arith,
      below_same (λ x. dead_have (d ∷ ds) x * w x) (λ x. (entry_has d x + dead_have ds x) * w x) n (λ x l. ap (λ k. k * w x) (dead_cons d ds x)),
      below_two (entry_has d) (dead_have ds) w n,
      below_entry f p c d n (All-head (IsDead p c) d ds all) (λ x g. h x (omega (arith, dead_cons d ds x))),
      below_dead f p c ds n (All-tail (IsDead p c) d ds all) (λ x g. h x (omega (arith, dead_cons d ds x))),
      sum_by-append (λ (m : Lifetime). f m.birth) (entry_lives d) (lives ds),
    )

-- a number that has no node weighs nothing
used_weight : (f : ℕ → ℕ) (p : Nodes) (x : ℕ) → used_count p x * weight f p x ≡ weight f p x
used_weight f p x = elim (node_at p x) as (λ o. cond {A = ℕ} (is_some o) 1 0 * at_birth f o ≡ at_birth f o) [
  | None ↦ zero-mul 0
  | Some n ↦ one-mul (f n.birth)
]

-- the births of a pool, by whose its nodes are
pool_births : (f : ℕ → ℕ) (p : Nodes) (v : Pins) (gs us : List Tree) (rs : List (List Tree)) (ds : List Dead) (n : ℕ) → IsLedger p v gs us rs ds → length p.nodes ≤ n
    → below (weight f p) n ≡ sum_by f (births_in gs) + sum_by f (births_in us) + sum_by (λ (l : Lifetime). f l.birth) (lives ds)
pool_births f p v gs us rs ds n l long =
    let w : ℕ → ℕ = weight f p in
    let all : ℕ → ℕ = λ x. trees_have gs x + trees_have us x + dead_have ds x in
    omega (
      arith,
      below_same (λ x. all x * w x) w n (λ x h. ap (λ k. k * w x) (l.once x) ∙ used_weight f p x),
      below_two (λ x. trees_have gs x + trees_have us x) (dead_have ds) w n,
      below_two (trees_have gs) (trees_have us) w n,
      below_trees f p v.commit gs n l.current (λ x h. omega (arith, within p v gs us rs ds l x (omega (arith, l.once x)))),
      below_trees f p (v.commit + 1) us n l.staged (λ x h. omega (arith, within p v gs us rs ds l x (omega (arith, l.once x)))),
      below_dead f p v.commit ds n l.waste (λ x h. omega (arith, within p v gs us rs ds l x (omega (arith, l.once x)))),
    )

-- a birth for each key
pub tree_births_long : (t : Tree) → length (tree_births t) ≡ length (keys t)
tree_births_long leaf = refl
tree_births_long (fork id birth l k r) =
    omega (arith, length-append (tree_births l) (tree_births r), length-append (keys l) (k ∷ keys r), tree_births_long l, tree_births_long r)

-- below n, some nodes were freed, and others made, all with this birth
record Changed (birth : ℕ) (p q : Nodes) (n : ℕ) : Type 0 where
  freed : List ℕ
  made : List ℕ
  next : All (λ b. b ≡ birth) made
  same : (f : ℕ → ℕ) → below (weight f q) n + sum_by f freed ≡ below (weight f p) n + sum_by f made

-- the births that go with a number that had this
abbrev freed_too : List ℕ → Option Node → List ℕ
freed_too freed None = freed
freed_too freed (Some m) = m.birth ∷ freed

freed_sum : (f : ℕ → ℕ) (freed : List ℕ) (o : Option Node) → sum_by f (freed_too freed o) ≡ at_birth f o + sum_by f freed
freed_sum f freed None = sym (zero-add (sum_by f freed))
freed_sum f freed (Some m) = sum_by-cons f m.birth freed

module _ (birth : ℕ) (p q : Nodes) (born : BornAt birth p q) where
  -- one number more
  changed_at : (n : ℕ) → Changed birth p q n → (o : Option Node) → node_at q n ≡ o → (r : Option Node) → node_at p n ≡ r → Changed birth p q (suc n)
  changed_at n c None is r was = record {
    freed = freed_too c.freed r;
    made = c.made;
    next = c.next;
    same = λ f. omega (arith, c.same f, ap (at_birth f) is, ap (at_birth f) was, freed_sum f c.freed r);
  }
  changed_at n c (Some k) is r was = elim (born n k is) [
    | inl there ↦ record { freed = c.freed; made = c.made; next = c.next; same = λ f. omega (arith, c.same f, ap (at_birth f) is, ap (at_birth f) there) }
    | inr now ↦ record {
      freed = freed_too c.freed r;
      made = k.birth ∷ c.made;
      next = All-cons (λ b. b ≡ birth) k.birth c.made now c.next;
      same = λ f. omega (arith, c.same f, ap (at_birth f) is, ap (at_birth f) was, freed_sum f c.freed r, sum_by-cons f k.birth c.made);
    }
  ]

  changed : (n : ℕ) → Changed birth p q n
  changed zero = record { freed = []; made = []; next = All-nil (λ b. b ≡ birth); same = λ f. refl }
  changed (suc n) = changed_at n (changed n) (node_at q n) refl (node_at p n) refl

-- what joins by a commit counts as ended by it
all_ended : (commit : ℕ) (f : ℕ → ℕ) (more : List Lifetime) → All (EndsAt commit) more → ended_sum commit f more ≡ sum_by (λ (l : Lifetime). f l.birth) more
all_ended commit f [] all = refl
all_ended commit f (l ∷ more) all =
    let own : nat_eq l.death commit ≡ true = eq-eqb l.death commit (All-head (EndsAt commit) l more all).1 in
    omega (
      arith,
      sum_by-cons (λ (k : Lifetime). cond {A = ℕ} (nat_eq k.death commit) (f k.birth) 0) l more,
      ap (λ b. cond {A = ℕ} b (f l.birth) 0) own,
      sum_by-cons (λ (k : Lifetime). f k.birth) l more,
      all_ended commit f more (All-tail (EndsAt commit) l more all),
    )

joined_sum : (commit most : ℕ) (a b : List Lifetime) (f : ℕ → ℕ) → Joins (EndsAt commit) most a b
    → ended_sum commit f b + sum_by (λ (l : Lifetime). f l.birth) a ≡ ended_sum commit f a + sum_by (λ (l : Lifetime). f l.birth) b
joined_sum commit most a b f joins = omega (
  arith,
  joins.same (λ (l : Lifetime). cond {A = ℕ} (nat_eq l.death commit) (f l.birth) 0),
  joins.same (λ (l : Lifetime). f l.birth),
  all_ended commit f joins.more joins.ended,
)

-- sums of births of lists that have one tree more
births_one : (f : ℕ → ℕ) (t : Tree) (ts : List Tree) → sum_by f (births_in (t ∷ ts)) ≡ sum_by f (tree_births t) + sum_by f (births_in ts)
births_one f t ts = sum_by-append f (tree_births t) (births_in ts)

pub stage_births : StageBirths
stage_births p q v w old new graphs uploads reads reads' dead dead' before after born same =
    let n = length p.nodes + length q.nodes in
    let c = changed (v.commit + 1) p q born n in
    record {
      freed = c.freed;
      made = c.made;
      next = c.next;
      same = λ f. omega (
        arith,
        c.same f,
        pool_births f p v graphs (old ∷ uploads) reads dead n before (omega arith),
        pool_births f q w graphs (new ∷ uploads) reads' dead' n after (omega arith),
        births_one f old uploads,
        births_one f new uploads,
        waste_is p v graphs (old ∷ uploads) reads dead before (λ l. f l.birth),
        waste_is q w graphs (new ∷ uploads) reads' dead' after (λ l. f l.birth),
        same (λ l. f l.birth),
      );
    }

pub copy_births : CopyBirths
copy_births p q v w most old new graphs uploads reads reads' dead dead' before after born joins =
    let n = length p.nodes + length q.nodes in
    let c = changed (v.commit + 1) p q born n in
    record {
      freed = c.freed;
      made = c.made;
      next = c.next;
      same = λ f. omega (
        arith,
        c.same f,
        pool_births f p v (old ∷ graphs) uploads reads dead n before (omega arith),
        pool_births f q w (new ∷ graphs) uploads reads' dead' n after (omega arith),
        births_one f old graphs,
        births_one f new graphs,
        waste_is p v (old ∷ graphs) uploads reads dead before (λ l. f l.birth),
        waste_is q w (new ∷ graphs) uploads reads' dead' after (λ l. f l.birth),
        joined_sum (v.commit + 1) most (waste_at p) (waste_at q) f joins,
      );
    }

pub put_births : PutBirths
put_births p q v w most old new graphs uploads reads reads' dead dead' before after keeps joins =
    let n = length p.nodes + length q.nodes in
    record {
      freed = [];
      same = λ f. omega (
        arith,
        below_same (weight f q) (weight f p) n (λ x l. ap (at_birth f) (keeps x)),
        pool_births f p v (old ∷ graphs) (new ∷ uploads) reads dead n before (omega arith),
        pool_births f q w (new ∷ graphs) uploads reads' dead' n after (omega arith),
        births_one f old graphs,
        births_one f new uploads,
        births_one f new graphs,
        waste_is p v (old ∷ graphs) (new ∷ uploads) reads dead before (λ l. f l.birth),
        waste_is q w (new ∷ graphs) uploads reads' dead' after (λ l. f l.birth),
        joined_sum (v.commit + 1) most (waste_at p) (waste_at q) f joins,
      );
    }

-- How many nodes are in use, by what accounts for each.
use Rattle.std.proofs.Common.{◌∙◌, get_or, IsSome, subst, sym, true≢false, ◌≡◌, ◌≢◌, ℕ, zero, suc, ◌+◌, ◌^◌, ◌<◌, ◌≤◌, cond, length, Option, Some, None, is_some, count_by, refl, ap, inl, inr, arith, [], ◌∷◌, List}
use Rattle.gs_pool.specs.declared.nodes.Node.{Node}
use Rattle.gs_pool.specs.Pool.{Nodes, NodeMark, plain, is_aside, node_at, in_use}
use Rattle.std.proofs.lemmas.Bool.{cases_lt}
use Rattle.std.proofs.lemmas.List.{get_or_past}
use Rattle.std.proofs.lemmas.List.Sums.{sum_by-cons}
use Rattle.gs_tree.specs.Tree.{Tree, leaf, fork, occurrences, Stands, height, IsBalanced}
use Rattle.gs_tree.specs.Steps.{plain_count, one}
use Rattle.gs_tree.proofs.TreeLemmas.{one_cases, one_same, plain_count_most}
use Rattle.gs_tree.proofs.Heights.{size, height_digits}

-- the sum of f at the numbers below n
abbrev pub below : (ℕ → ℕ) → ℕ → ℕ
below f zero = 0
below f (suc n) = below f n + f n

pub below_add : (f g : ℕ → ℕ) (n : ℕ) → below (λ x. f x + g x) n ≡ below f n + below g n
below_add f g zero = refl
below_add f g (suc n) = omega (arith, below_add f g n)

pub below_same : (f g : ℕ → ℕ) (n : ℕ) → ((x : ℕ) → x < n → f x ≡ g x) → below f n ≡ below g n
below_same f g zero h = refl
below_same f g (suc n) h = omega (arith, below_same f g n (λ x l. h x (omega arith)), h n (omega arith))

pub below_none : (n : ℕ) → below (λ x. 0) n ≡ 0
below_none zero = refl
below_none (suc n) = omega (arith, below_none n)

pub below_past : (id n : ℕ) → n ≤ id → below (one id) n ≡ 0
below_past id zero h = refl
below_past id (suc n) h = elim (one_cases id n) [ inl e ↦ absurd (omega arith) | inr ne ↦ omega (arith, below_past id n (omega arith), ne.1) ]

pub below_one : (id n : ℕ) → id < n → below (one id) n ≡ 1
below_one id zero h = absurd (omega arith)
below_one id (suc n) h = elim (one_cases id n) [
  | inl e ↦ let q : id ≡ n = e.0 in omega (arith, below_past id n (omega arith), e.1)
  | inr ne ↦ omega (arith, below_one id n (lower ne.0), ne.1)
]
  where
    lower : id ≢ n → id < n
    lower ne = omega arith

-- a tree's nodes are as many as its keys
pub below_occurrences : (t : Tree) (n : ℕ) → ((x : ℕ) → 0 < occurrences t x → x < n) → below (occurrences t) n ≡ size t
below_occurrences leaf n h = below_none n
below_occurrences (fork id birth l k r) n h =
    let a = below_add (λ x. one id x + occurrences l x) (occurrences r) n in
    let b = below_add (one id) (occurrences l) n in
    omega (arith, a, b, below_one id n (h id (omega (arith, one_same id))), below_occurrences l n (λ x g. h x (omega arith)), below_occurrences r n (λ x g. h x (omega arith)))

below_most : (f : ℕ → ℕ) (n : ℕ) → ((x : ℕ) → f x ≤ 1) → below f n ≤ n
below_most f zero h = omega arith
below_most f (suc n) h = omega (arith, below_most f n h, h n)

-- each node of a tree is in use
pub occurrences_used : (p : Nodes) (t : Tree) → Stands p t → (x : ℕ) → 0 < occurrences t x → IsSome (node_at p x)
occurrences_used p leaf s x h = absurd (omega arith)
occurrences_used p (fork id birth l k r) s x h = elim (one_cases id x) [
  | inl here ↦ subst (λ y. IsSome (node_at p y)) here.0 (ap is_some s.0)
  | inr other ↦ elim (cases_lt 0 (occurrences l x)) [
    | inl left ↦ occurrences_used p l s.1 x left
    | inr none ↦ occurrences_used p r s.2 x (omega (arith, other.1))
  ]
]

-- a number in use is a place of the pool
used_within : (p : Nodes) (x : ℕ) → IsSome (node_at p x) → x < length p.nodes
used_within p x u = elim (cases_lt x (length p.nodes)) [
  | inl l ↦ l
  | inr past ↦ absurd (let none : node_at p x ≡ None = get_or_past p.nodes x None past in true≢false (sym (subst IsSome none u)))
]

-- a tree that has each of its nodes once has no more of them than the pool has places
pub tree_size : (p : Nodes) (t : Tree) → Stands p t → ((x : ℕ) → occurrences t x ≤ 1) → size t ≤ length p.nodes
tree_size p t s once = omega (arith, below_occurrences t (length p.nodes) (λ x h. used_within p x (occurrences_used p t s x h)), below_most (occurrences t) (length p.nodes) once)

-- a tree of plain nodes has no more of them than the pool has places
pub low_size : (p : Nodes) (t : Tree) → Stands p t → ((x : ℕ) → occurrences t x ≤ plain_count p x) → length p.nodes < 2 ^ 32 → size t < 2 ^ 32
low_size p t s apart small = omega (arith, tree_size p t s (λ x. omega (arith, apart x, plain_count_most p x)))

-- a balanced tree in a pool of fewer than 2 ^ 32 places is no higher than 64
pub low_height : (p : Nodes) (t : Tree) → Stands p t → ((x : ℕ) → occurrences t x ≤ plain_count p x) → IsBalanced t → length p.nodes < 2 ^ 32 → height t ≤ 64
low_height p t s apart balanced small = height_digits t 32 balanced (low_size p t s apart small)

-- 1 for a replaced mark
abbrev weight : NodeMark → ℕ
weight m = cond (is_aside m) 1 0

-- two lists that have the same mark at each place have equally many replaced ones
pub same_marks : (a b : List NodeMark) → ((x : ℕ) → get_or a x plain ≡ get_or b x plain) → count_by is_aside a ≡ count_by is_aside b
same_marks [] [] h = refl
same_marks [] (m ∷ b) h =
    let few : count_by is_aside (m ∷ b) ≡ weight m + count_by is_aside b = sum_by-cons (λ o. cond (is_aside o) 1 0) m b in
    let none : weight m ≡ 0 = ap weight (sym (h 0)) in
    let tail : count_by is_aside b ≡ 0 = sym (same_marks [] b (λ x. h (suc x))) in
    let rest : 0 + count_by is_aside b ≡ 0 = omega (arith, tail) in
    sym (few ∙ ap (λ n. n + count_by is_aside b) none ∙ rest)
same_marks (m ∷ a) [] h =
    let few : count_by is_aside (m ∷ a) ≡ weight m + count_by is_aside a = sum_by-cons (λ o. cond (is_aside o) 1 0) m a in
    let none : weight m ≡ 0 = ap weight (h 0) in
    let tail : count_by is_aside a ≡ 0 = same_marks a [] (λ x. h (suc x)) in
    let rest : 0 + count_by is_aside a ≡ 0 = omega (arith, tail) in
    few ∙ ap (λ n. n + count_by is_aside a) none ∙ rest
same_marks (m ∷ a) (n ∷ b) h =
    let few : count_by is_aside (m ∷ a) ≡ weight m + count_by is_aside a = sum_by-cons (λ o. cond (is_aside o) 1 0) m a in
    let more : count_by is_aside (n ∷ b) ≡ weight n + count_by is_aside b = sum_by-cons (λ o. cond (is_aside o) 1 0) n b in
    let one : weight m ≡ weight n = ap weight (h 0) in
    let rest : count_by is_aside a ≡ count_by is_aside b = same_marks a b (λ x. h (suc x)) in
    few ∙ ap (λ k. k + count_by is_aside a) one ∙ ap (λ k. weight n + k) rest ∙ sym more

-- a sum, with its first number apart
below_first : (f : ℕ → ℕ) (n : ℕ) → below f (suc n) ≡ f 0 + below (λ x. f (suc x)) n
below_first f zero = omega arith
below_first f (suc n) = omega (arith, below_first f n)

-- 1 where a node is
abbrev there : Option Node → ℕ
there o = cond (is_some o) 1 0

there_some : (o : Option Node) → IsSome o → there o ≡ 1
there_some None h = absurd (true≢false (sym h))
there_some (Some n) h = refl

-- a list has as many nodes as its places say
below_there : (xs : List (Option Node)) → below (λ x. there (get_or xs x None)) (length xs) ≡ count_by is_some xs
below_there [] = refl
below_there (o ∷ xs) =
    let few : count_by is_some (o ∷ xs) ≡ there o + count_by is_some xs = sum_by-cons (λ m. cond (is_some m) 1 0) o xs in
    omega (arith, below_first (λ x. there (get_or (o ∷ xs) x None)) (length xs), below_there xs, few)

below_le : (f g : ℕ → ℕ) (n : ℕ) → ((x : ℕ) → f x ≤ g x) → below f n ≤ below g n
below_le f g zero h = omega arith
below_le f g (suc n) h = omega (arith, below_le f g n h, h n)

-- a tree that has each of its nodes once has no more of them than are in use
pub tree_used : (p : Nodes) (t : Tree) → Stands p t → ((x : ℕ) → occurrences t x ≤ 1) → size t ≤ in_use p
tree_used p t s once = omega (arith, below_occurrences t (length p.nodes) (λ x h. used_within p x (occurrences_used p t s x h)), below_le (occurrences t) (λ x. there (get_or p.nodes x None)) (length p.nodes) each, below_there p.nodes)
  where
    each : (x : ℕ) → occurrences t x ≤ there (get_or p.nodes x None)
    each x = elim (cases_lt 0 (occurrences t x)) [
      | inl some ↦ omega (arith, once x, there_some (get_or p.nodes x None) (occurrences_used p t s x some))
      | inr none ↦ omega arith
    ]

-- Sums over lists, and what trees and dead nodes have of a number.
use Rattle.std.proofs.Common.{◌≡◌, ◌⊎◌, ℕ, zero, suc, ◌+◌, ◌<◌, ◌≤◌, true, List, [], ◌∷◌, ◌++◌, length, get_or, refl, ap, subst, inl, inr, arith}
use Rattle.std.proofs.lemmas.List.Elements.{All-cons, All-head, All-tail}
use Rattle.std.proofs.lemmas.Bool.{cases_lt, lt-ltb, le-ltb}
use Rattle.std.proofs.lemmas.List.Sums.{sum_by-cons, sum_by-append}
use Rattle.std.specs.List.{sum_by, All, Contains}
use Rattle.gs_tree.specs.Tree.{Tree, leaf, fork, occurrences}
use Rattle.gs_tree.specs.Steps.{one}
use Rattle.gs_ledger.specs.Entries.{Dead, trees_have, entry_has, dead_have, has_after, dead_have_after, tops, died_whole, sides_of}

pub zero_or : (n : ℕ) → (n ≡ 0) ⊎ (0 < n)
zero_or zero = inl refl
zero_or (suc n) = inr (omega arith)

-- what holds of all holds of one
pub all_at : {X : Type 0} (P : X → Type 0) (xs : List X) (x : X) → All P xs → Contains xs x → P x
all_at P xs x a c = subst P c.2 (a c.0 x c.1)

-- an element's part of a sum
pub sum_at : {X : Type 0} (f : X → ℕ) (xs : List X) (k : ℕ) (d : X) → k < length xs → f (get_or xs k d) ≤ sum_by f xs
sum_at f [] k d h = absurd (omega arith)
sum_at f (x ∷ xs) zero d h = omega (arith, sum_by-cons f x xs)
sum_at f (x ∷ xs) (suc k) d h = omega (arith, sum_by-cons f x xs, sum_at f xs k d (omega arith))

pub sum_contained : {X : Type 0} (f : X → ℕ) (xs : List X) (x : X) → Contains xs x → f x ≤ sum_by f xs
sum_contained f xs x c = omega (arith, sum_at f xs c.0 x c.1, ap f c.2)

-- sums of functions that are equal, or one below the other, at each element
pub sum_le : {X : Type 0} (f g : X → ℕ) (xs : List X) → ((x : X) → f x ≤ g x) → sum_by f xs ≤ sum_by g xs
sum_le f g [] h = omega arith
sum_le f g (x ∷ xs) h = omega (arith, sum_by-cons f x xs, sum_by-cons g x xs, h x, sum_le f g xs h)

-- trees
pub trees_cons : (t : Tree) (ts : List Tree) (x : ℕ) → trees_have (t ∷ ts) x ≡ occurrences t x + trees_have ts x
trees_cons t ts x = sum_by-cons (λ u. occurrences u x) t ts

-- dead nodes
pub dead_cons : (d : Dead) (ds : List Dead) (x : ℕ) → dead_have (d ∷ ds) x ≡ entry_has d x + dead_have ds x
dead_cons d ds x = sum_by-cons (λ e. entry_has e x) d ds

pub dead_append : (cs ds : List Dead) (x : ℕ) → dead_have (cs ++ ds) x ≡ dead_have cs x + dead_have ds x
dead_append cs ds x = sum_by-append (λ e. entry_has e x) cs ds

pub after_cons : (v : ℕ) (d : Dead) (ds : List Dead) (x : ℕ) → dead_have_after v (d ∷ ds) x ≡ has_after v d x + dead_have_after v ds x
after_cons v d ds x = sum_by-cons (λ e. has_after v e x) d ds

pub after_append : (v : ℕ) (cs ds : List Dead) (x : ℕ) → dead_have_after v (cs ++ ds) x ≡ dead_have_after v cs x + dead_have_after v ds x
after_append v cs ds x = sum_by-append (λ e. has_after v e x) cs ds

pub tops_cons : (d : Dead) (ds : List Dead) (x : ℕ) → tops (d ∷ ds) x ≡ one d.id x + tops ds x
tops_cons d ds x = sum_by-cons (λ e. one e.id x) d ds

pub tops_append : (cs ds : List Dead) (x : ℕ) → tops (cs ++ ds) x ≡ tops cs x + tops ds x
tops_append cs ds x = sum_by-append (λ e. one e.id x) cs ds

pub tops_most : (ds : List Dead) (x : ℕ) → tops ds x ≤ dead_have ds x
tops_most ds x = sum_le (λ d. one d.id x) (λ d. entry_has d x) ds (λ d. omega arith)

-- a dead node counts where it died after a version
pub after_yes : (v : ℕ) (d : Dead) (x : ℕ) → v < d.death → has_after v d x ≡ entry_has d x
after_yes v d x h = rw (lt-ltb v d.death h)

pub after_no : (v : ℕ) (d : Dead) (x : ℕ) → d.death ≤ v → has_after v d x ≡ 0
after_no v d x h = rw (le-ltb v d.death h)

pub after_cases : (v : ℕ) (d : Dead) (x : ℕ) → ((v < d.death) × (has_after v d x ≡ entry_has d x)) ⊎ ((d.death ≤ v) × (has_after v d x ≡ 0))
after_cases v d x = elim (cases_lt v d.death) [ inl lt ↦ inl (lt, after_yes v d x lt) | inr ge ↦ inr (ge, after_no v d x ge) ]

after_one_most : (v x : ℕ) (d : Dead) → has_after v d x ≤ entry_has d x
after_one_most v x d = elim (after_cases v d x) [ inl late ↦ omega (arith, late.1) | inr early ↦ omega (arith, early.1) ]

pub after_most : (v : ℕ) (ds : List Dead) (x : ℕ) → dead_have_after v ds x ≤ dead_have ds x
after_most v ds x = sum_le (λ d. has_after v d x) (λ d. entry_has d x) ds (after_one_most v x)

-- a tree that died whole
pub dead_whole : (death : ℕ) (t : Tree) (x : ℕ) → dead_have (died_whole death t) x ≡ occurrences t x
dead_whole death leaf x = refl
dead_whole death (fork id birth l k r) x = omega (arith, dead_cons (record { id = id; birth = birth; death = death; whole = true; left = l; right = r }) [] x)

pub after_whole : (v death : ℕ) (t : Tree) (x : ℕ) → v < death → dead_have_after v (died_whole death t) x ≡ occurrences t x
after_whole v death leaf x h = refl
after_whole v death (fork id birth l k r) x h =
    let d : Dead = record { id = id; birth = birth; death = death; whole = true; left = l; right = r } in
    omega (arith, after_cons v d [] x, after_yes v d x h)

-- the sides of a dead node
pub dead_sides : (d : Dead) (x : ℕ) → dead_have (sides_of d) x ≡ occurrences d.left x + occurrences d.right x
dead_sides d x = omega (arith, dead_append (died_whole d.death d.left) (died_whole d.death d.right) x, dead_whole d.death d.left x, dead_whole d.death d.right x)

pub after_sides : (v : ℕ) (d : Dead) (x : ℕ) → v < d.death → dead_have_after v (sides_of d) x ≡ occurrences d.left x + occurrences d.right x
after_sides v d x h = omega (arith, after_append v (died_whole d.death d.left) (died_whole d.death d.right) x, after_whole v d.death d.left x h, after_whole v d.death d.right x h)

-- what holds of all of two lists holds of the first, and of the second
pub all_front : {X : Type 0} (P : X → Type 0) (xs ys : List X) → All P (xs ++ ys) → All P xs
all_front P [] ys a = λ k d h. absurd (omega arith)
all_front P (x ∷ xs) ys a = All-cons P x xs (All-head P x (xs ++ ys) a) (all_front P xs ys (All-tail P x (xs ++ ys) a))

pub all_back : {X : Type 0} (P : X → Type 0) (xs ys : List X) → All P (xs ++ ys) → All P ys
all_back P [] ys a = a
all_back P (x ∷ xs) ys a = all_back P xs ys (All-tail P x (xs ++ ys) a)

-- Lists of trees up to order, where a leaf stands for no tree.
use Rattle.std.proofs.Common.{◌≡◌, ◌⊎◌, ℕ, zero, suc, ◌<◌, List, [], ◌∷◌, ◌++◌, length, get_or, set, refl, subst, inl, inr, arith}
use Rattle.std.proofs.lemmas.List.Elements.{All-append, All-cons, All-weaker, All-contains_itself, Contains-append_left, Contains-append_right}
use Rattle.std.proofs.lemmas.List.Sums.{sum_by-cons, sum_by-append}
use Rattle.std.specs.List.{All, Contains}
use Rattle.gs_tree.specs.Tree.{Tree, leaf}
use Rattle.gs_ledger.specs.Changes.{AreSameTrees}

-- a leaf, or one of these trees
abbrev pub IsLeafOr : List Tree → Tree → Type 0
IsLeafOr ts t = (t ≡ leaf) ⊎ Contains ts t

-- trees that are all among others
among : (ts us : List Tree) → ((t : Tree) → Contains us t → Contains ts t) → All (IsLeafOr ts) us
among ts us f = All-weaker (Contains us) (IsLeafOr ts) (λ t c. inr (f t c)) us (All-contains_itself us)

first : (t : Tree) (ts : List Tree) → Contains (t ∷ ts) t
first t ts = (0, omega arith, refl)

later : (t u : Tree) (ts : List Tree) → Contains ts u → Contains (t ∷ ts) u
later t u ts c = Contains-append_right (t ∷ []) ts u c

-- the first goes further back
pub tree_back : (t : Tree) (xs ys : List Tree) → AreSameTrees (t ∷ (xs ++ ys)) (xs ++ t ∷ ys)
tree_back t xs ys =
    let ts = t ∷ (xs ++ ys) in
    record {
      sums = λ f h. omega (arith, sum_by-append f xs (t ∷ ys), sum_by-cons f t ys, sum_by-cons f t (xs ++ ys), sum_by-append f xs ys);
      each = All-append (IsLeafOr ts) xs (t ∷ ys)
          (among ts xs (λ u c. later t u (xs ++ ys) (Contains-append_left xs ys u c)))
          (All-cons (IsLeafOr ts) t ys (inr (first t (xs ++ ys))) (among ts ys (λ u c. later t u (xs ++ ys) (Contains-append_right xs ys u c))));
    }

-- and to the front
pub tree_front : (t : Tree) (xs ys : List Tree) → AreSameTrees (xs ++ t ∷ ys) (t ∷ (xs ++ ys))
tree_front t xs ys =
    let ts = xs ++ t ∷ ys in
    record {
      sums = λ f h. omega (arith, sum_by-append f xs (t ∷ ys), sum_by-cons f t ys, sum_by-cons f t (xs ++ ys), sum_by-append f xs ys);
      each = All-cons (IsLeafOr ts) t (xs ++ ys) (inr (Contains-append_right xs (t ∷ ys) t (first t ys))) (All-append (IsLeafOr ts) xs ys
          (among ts xs (λ u c. Contains-append_left xs (t ∷ ys) u c))
          (among ts ys (λ u c. Contains-append_right xs (t ∷ ys) u (later t u ys c))));
    }

-- a leaf more, or less, means nothing
pub leaf_more : (ts : List Tree) → AreSameTrees ts (leaf ∷ ts)
leaf_more ts = record {
  sums = λ f h. omega (arith, sum_by-cons f leaf ts, h);
  each = All-cons (IsLeafOr ts) leaf ts (inl refl) (among ts ts (λ t c. c));
}

pub leaf_less : (ts : List Tree) → AreSameTrees (leaf ∷ ts) ts
leaf_less ts = record {
  sums = λ f h. omega (arith, sum_by-cons f leaf ts, h);
  each = among (leaf ∷ ts) ts (λ t c. later leaf t ts c);
}

-- a tree more at the front of both
pub tree_beside : (t : Tree) (ts us : List Tree) → AreSameTrees ts us → AreSameTrees (t ∷ ts) (t ∷ us)
tree_beside t ts us same = record {
  sums = λ f h. omega (arith, sum_by-cons f t ts, sum_by-cons f t us, same.sums f h);
  each = All-cons (IsLeafOr (t ∷ ts)) t us (inr (first t ts))
      (All-weaker (IsLeafOr ts) (IsLeafOr (t ∷ ts)) (λ u c. elim c [ inl is ↦ inl is | inr at ↦ inr (later t u ts at) ]) us same.each);
}

-- one after the other
pub trees_then : (ts us vs : List Tree) → AreSameTrees ts us → AreSameTrees us vs → AreSameTrees ts vs
trees_then ts us vs a b = record {
  sums = λ f h. omega (arith, a.sums f h, b.sums f h);
  each = All-weaker (IsLeafOr us) (IsLeafOr ts) (λ u c. elim c [
    | inl is ↦ inl is
    | inr at ↦ subst (IsLeafOr ts) at.2 (a.each at.0 u at.1)
  ]) vs b.each;
}

-- the first two change places
pub trees_turned : (t u : Tree) (ts : List Tree) → AreSameTrees (t ∷ u ∷ ts) (u ∷ t ∷ ts)
trees_turned t u ts = tree_back t (u ∷ []) ts

-- the tree at a place comes out, and a leaf is left
pub out_of_place : (ts : List Tree) (s : ℕ) → AreSameTrees ts (get_or ts s leaf ∷ set ts s leaf)
out_of_place [] s = leaf_more []
out_of_place (t ∷ ts) zero = tree_beside t ts (leaf ∷ ts) (leaf_more ts)
out_of_place (t ∷ ts) (suc s) =
    let u = get_or ts s leaf in
    trees_then (t ∷ ts) (t ∷ u ∷ set ts s leaf) (u ∷ t ∷ set ts s leaf)
    (tree_beside t ts (u ∷ set ts s leaf) (out_of_place ts s))
    (trees_turned t u (set ts s leaf))

-- a tree goes in where a leaf was
pub into_place : (ts : List Tree) (s : ℕ) (new : Tree) → s < length ts → AreSameTrees (new ∷ set ts s leaf) (set ts s new)
into_place [] s new h = absurd (omega arith)
into_place (t ∷ ts) zero new h = tree_beside new (leaf ∷ ts) ts (leaf_less ts)
into_place (t ∷ ts) (suc s) new h =
    trees_then (new ∷ t ∷ set ts s leaf) (t ∷ new ∷ set ts s leaf) (t ∷ set ts s new)
    (trees_turned new t (set ts s leaf))
    (tree_beside t (new ∷ set ts s leaf) (set ts s new) (into_place ts s new (omega arith)))

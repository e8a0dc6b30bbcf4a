-- Keys into a set, piece by piece.
use Rattle.std.proofs.Common.{◌≡◌, ℕ, ◌+◌, ◌^◌, ◌<◌, List, [], length, take, drop, Option, refl, sym, ap, subst, ◌∙◌, arith, take-append-drop}
use Rattle.std.specs.declared.cmp.Ordering.{Ordering}
use Rattle.std.specs.Cmp.{IsTotalOrder}
use Rattle.gs_pool.specs.declared.nodes.Key.{Key}
use Rattle.gs_pool.specs.Pool.{Nodes}
use Rattle.gs_tree.specs.declared.unions.Merged.{Merged}
use Rattle.gs_tree.specs.Tree.{tree_at}
use Rattle.gs_tree.specs.Keys.{IsRising, merge_keys}
use Rattle.gs_tree.specs.Reading.{keys_at}
use Rattle.gs_tree.specs.Sets.{IsSetAt, UnitesAt}
use Rattle.gs_tree.specs.Steps.{SameTotal}
use Rattle.gs_tree.proofs.Heights.{size-keys}
use Rattle.gs_tree.proofs.Counting.{low_size}
use Rattle.gs_tree.proofs.Merging.{rising_after}
use Rattle.gs_tree.proofs.Order.{rising_front}
use Rattle.gs_changes.specs.Changes.{ChangesAt}
use Rattle.gs_changes.specs.Pieces.{AddsPiece}
use Rattle.gs_changes.proofs.ChangeLemmas.{unchanged, unites_changes, then}
use Rattle.gs_changes.proofs.KeyLemmas.{merge_parts}

-- a set in a pool of fewer than 2 ^ 32 places has no more keys
pub few_keys : (cmp : Key → Key → Ordering) (p : Nodes) (root : Option ℕ) → IsSetAt cmp p root → length p.nodes < 2 ^ 32 → length (keys_at p root) < 2 ^ 32
few_keys cmp p root s small = omega (arith, size-keys (tree_at p root), low_size p (tree_at p root) s.stands s.apart small)

-- one union more
pub piece_added : (cmp : Key → Key → Ordering) (birth : ℕ) (p q : Nodes) (old m : Merged) (piece : List Key) (n : ℕ) → m.added ≡ old.added + n → UnitesAt cmp birth birth p q old.root piece (record { root = m.root; added = n }) → AddsPiece cmp birth p q old piece m
piece_added cmp birth p q old m piece n e u = record {
  more = n;
  total = e;
  changes = unites_changes cmp birth p q m.root n (tree_at p old.root) piece (tree_at q m.root) u;
  keys_are = u.keys_are;
}

-- the keys before those that are left are in
pub record Adding (cmp : Key → Key → Ordering) (birth : ℕ) (p q : Nodes) (root : Option ℕ) (ks : List Key) (m : Merged) (rest : List Key) : Type 0 where
  pub changes : ChangesAt cmp birth p q root m.root m.added 0
  pub left : merge_keys cmp rest (keys_at q m.root) ≡ merge_keys cmp ks (keys_at p root)
  pub rising : IsRising cmp rest
  pub total : SameTotal p q

pub adding_start : (cmp : Key → Key → Ordering) (birth : ℕ) (p : Nodes) (root : Option ℕ) (ks : List Key) → IsSetAt cmp p root → IsRising cmp ks → Adding cmp birth p p root ks (record { root = root; added = 0 }) ks
adding_start cmp birth p root ks s rising = record {
  changes = unchanged cmp birth p root (tree_at p root) s;
  left = refl;
  rising = rising;
  total = omega arith;
}

-- the first keys of a run rise
pub rising_take : (cmp : Key → Key → Ordering) (total : IsTotalOrder cmp) (n : ℕ) (rest piece : List Key) → piece ≡ take n rest → IsRising cmp rest → IsRising cmp piece
rising_take cmp total n rest piece front s =
    subst (IsRising cmp) (sym front) (rising_front cmp total (take n rest) (drop n rest) (subst (IsRising cmp) (sym (take-append-drop n rest)) s))

-- a piece went in
pub adding_more : (cmp : Key → Key → Ordering) (total : IsTotalOrder cmp) (birth : ℕ) (p q r : Nodes) (root : Option ℕ) (old m : Merged) (n : ℕ) (ks rest piece later : List Key) → piece ≡ take n rest → later ≡ drop n rest → AddsPiece cmp birth q r old piece m → SameTotal q r
    → Adding cmp birth p q root ks old rest → Adding cmp birth p r root ks m later
adding_more cmp total birth p q r root old m n ks rest piece later front back k same i =
    let both = then cmp birth p q r old.root m.root old.added 0 k.more 0 (tree_at p root) (tree_at q old.root) (tree_at r m.root) i.changes k.changes in
    let now : keys_at r m.root ≡ merge_keys cmp (take n rest) (keys_at q old.root) = k.keys_are ∙ ap (λ xs. merge_keys cmp xs (keys_at q old.root)) front in
    record {
      changes = rw k.total both;
      left = ap (λ xs. merge_keys cmp xs (keys_at r m.root)) back ∙ ap (merge_keys cmp (drop n rest)) now ∙ merge_parts cmp n rest (keys_at q old.root) ∙ i.left;
      rising = subst (IsRising cmp) (sym back) (rising_after cmp total (take n rest) (drop n rest) (subst (IsRising cmp) (sym (take-append-drop n rest)) i.rising));
      total = omega (arith, same, i.total);
    }

-- no key is left
pub adding_end : (cmp : Key → Key → Ordering) (birth : ℕ) (p q : Nodes) (root : Option ℕ) (ks : List Key) (m : Merged) (rest : List Key) → rest ≡ [] → Adding cmp birth p q root ks m rest → keys_at q m.root ≡ merge_keys cmp ks (keys_at p root)
adding_end cmp birth p q root ks m rest none i = ap (λ xs. merge_keys cmp xs (keys_at q m.root)) (sym none) ∙ i.left

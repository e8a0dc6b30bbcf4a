-- What is read from a tree, by its top and its sides.
use Rattle.std.proofs.Common.{◌≡◌, ℕ, ◌+◌, ◌<◌, ◌≤◌, Bool, true, false, ◌∷◌, ◌++◌, Option, Some, None, refl, sym, ap, subst, arith, length, length-append}
use Rattle.std.specs.Bool.{Decides}
use Rattle.std.specs.declared.cmp.Ordering.{Ordering}
use Rattle.std.specs.declared.cmp.Ordering.TheVariants.{Less, Equal, Greater}
use Rattle.std.specs.Cmp.{IsTotalOrder}
use Rattle.gs_pool.specs.declared.nodes.Key.{Key}
use Rattle.gs_pool.specs.declared.nodes.Node.{Node}
use Rattle.gs_pool.specs.Pool.{Nodes, node_at}
use Rattle.gs_tree.specs.Tree.{height, occurrences, keys, height_at, tree_at}
use Rattle.gs_tree.specs.Keys.{IsRising, HasKey}
use Rattle.gs_tree.specs.Reading.{HasTreeAt, IsReadableAt, IsTreeAt, keys_at, is_less, is_past, keys_from, first_key}
use Rattle.gs_tree.specs.Sets.{IsSetAt}
use Rattle.gs_tree.proofs.TreeLemmas.{plain_count_most}
use Rattle.gs_tree.proofs.Order.{rising_front, rising_back}
use Rattle.gs_tree.proofs.RemovalOrder.{has_left, has_right}
use Rattle.gs_tree.proofs.FromLemmas.{or_else, first_append, from_past, from_not_past, has_front, has_back, has_after}
use Rattle.gs_tree.proofs.Rotations.{height_in, tree_in}
use Rattle.gs_tree.proofs.Levels.{Opened, opened}
use Rattle.gs_tree.proofs.Heights.{size-keys}
use Rattle.gs_tree.proofs.Counting.{tree_size}

-- a set that can be read, cut at its top: both sides can be read, and are lower
pub record Parts (cmp : Key → Key → Ordering) (p : Nodes) (root : Option ℕ) (node : Node) : Type 0 where
  pub left_set : IsReadableAt cmp p node.left
  pub right_set : IsReadableAt cmp p node.right
  pub left_falls : height_at p node.left < height_at p root
  pub right_falls : height_at p node.right < height_at p root
  pub keys_are : keys_at p root ≡ keys_at p node.left ++ node.key ∷ keys_at p node.right
  pub rises : IsRising cmp (keys_at p node.left ++ node.key ∷ keys_at p node.right)

pub parts : (cmp : Key → Key → Ordering) → IsTotalOrder cmp → (p : Nodes) (root : Option ℕ) (id : ℕ) (node : Node) → IsReadableAt cmp p root → root ≡ Some id → node_at p id ≡ Some node → Parts cmp p root node
parts cmp total p root id node c is found =
    let o : Opened p id node (tree_at p root) = opened p root id node (tree_at p root) c.root_is c.stands is found in
    let left_is : tree_at p node.left ≡ o.l = tree_in p node.left o.l o.left_is o.sl in
    let right_is : tree_at p node.right ≡ o.r = tree_in p node.right o.r o.right_is o.sr in
    let cut : keys_at p root ≡ keys_at p node.left ++ node.key ∷ keys_at p node.right = rw (left_is, right_is) (ap keys o.is) in
    let rises : IsRising cmp (keys_at p node.left ++ node.key ∷ keys_at p node.right) = subst (IsRising cmp) cut c.rising in
    let high : height_at p root ≡ height (tree_at p root) = height_in p root (tree_at p root) c.root_is c.stands in
    record {
      left_set = record { root_is = rw left_is o.left_is; stands = rw left_is o.sl; rising = rising_front cmp total _ _ rises };
      right_set = record { root_is = rw right_is o.right_is; stands = rw right_is o.sr; rising = rising_back cmp total _ _ _ rises };
      left_falls = omega (arith, height_in p node.left o.l o.left_is o.sl, high, ap height o.is);
      right_falls = omega (arith, height_in p node.right o.r o.right_is o.sr, high, ap height o.is);
      keys_are = cut;
      rises = rises;
    }

module _ (cmp : Key → Key → Ordering) (total : IsTotalOrder cmp) (p : Nodes) (root : Option ℕ) (node : Node) (s : Parts cmp p root node) where
  -- where the key is below the top, the left side decides
  pub contains_left : (key : Key) (b : Bool) → cmp key node.key ≡ Less → Decides b (HasKey cmp key (keys_at p node.left)) → Decides b (HasKey cmp key (keys_at p root))
  contains_left key b less d = rw s.keys_are (
    (λ yes. has_front cmp total key node.key _ _ (d.0 yes)),
    (λ has. d.1 (has_left cmp total key node.key _ _ less s.rises has)),
  )

  pub contains_right : (key : Key) (b : Bool) → cmp key node.key ≡ Greater → Decides b (HasKey cmp key (keys_at p node.right)) → Decides b (HasKey cmp key (keys_at p root))
  contains_right key b more d = rw s.keys_are (
    (λ yes. has_after cmp total key node.key _ _ (d.0 yes)),
    (λ has. d.1 (has_right cmp total key node.key _ _ more s.rises has)),
  )

  pub contains_top : (key : Key) → cmp key node.key ≡ Equal → Decides true (HasKey cmp key (keys_at p root))
  contains_top key same = rw s.keys_are ((λ _. has_back cmp total key node.key _ _ same), (λ _. refl))

  -- where the top is past, it stands between the keys of the left side that are past and all of the right side
  pub top_past : (from : Option Key) → is_past cmp from node.key ≡ true → keys_from cmp from (keys_at p root) ≡ keys_from cmp from (keys_at p node.left) ++ node.key ∷ keys_from cmp None (keys_at p node.right)
  top_past from h = rw s.keys_are (from_past cmp total from node.key _ _ h s.rises)

  pub top_not_past : (from : Option Key) → is_past cmp from node.key ≡ false → keys_from cmp from (keys_at p root) ≡ keys_from cmp from (keys_at p node.right)
  top_not_past from h = rw s.keys_are (from_not_past cmp total from node.key _ _ h s.rises)

  -- the first key above one
  pub after_left : (key : Key) (found : Option Key) → is_less (cmp key node.key) ≡ true → found ≡ first_key (keys_from cmp (Some key) (keys_at p node.left)) → or_else found node.key ≡ first_key (keys_from cmp (Some key) (keys_at p root))
  after_left key found less is = rw (top_past (Some key) less, is) (sym (first_append _ node.key _))

  pub after_right : (key : Key) (found : Option Key) → is_less (cmp key node.key) ≡ false → found ≡ first_key (keys_from cmp (Some key) (keys_at p node.right)) → found ≡ first_key (keys_from cmp (Some key) (keys_at p root))
  after_right key found not_less is = rw (top_not_past (Some key) not_less) is

-- a tree cut at its top: the pool has both sides, which are lower
pub record Sides (p : Nodes) (root : Option ℕ) (node : Node) : Type 0 where
  pub left_tree : HasTreeAt p node.left
  pub right_tree : HasTreeAt p node.right
  pub left_falls : height_at p node.left < height_at p root
  pub right_falls : height_at p node.right < height_at p root
  pub keys_are : keys_at p root ≡ keys_at p node.left ++ node.key ∷ keys_at p node.right

pub sides : (p : Nodes) (root : Option ℕ) (id : ℕ) (node : Node) → HasTreeAt p root → root ≡ Some id → node_at p id ≡ Some node → Sides p root node
sides p root id node c is found =
    let o : Opened p id node (tree_at p root) = opened p root id node (tree_at p root) c.root_is c.stands is found in
    let left_is : tree_at p node.left ≡ o.l = tree_in p node.left o.l o.left_is o.sl in
    let right_is : tree_at p node.right ≡ o.r = tree_in p node.right o.r o.right_is o.sr in
    let high : height_at p root ≡ height (tree_at p root) = height_in p root (tree_at p root) c.root_is c.stands in
    record {
      left_tree = record { root_is = rw left_is o.left_is; stands = rw left_is o.sl };
      right_tree = record { root_is = rw right_is o.right_is; stands = rw right_is o.sr };
      left_falls = omega (arith, height_in p node.left o.l o.left_is o.sl, high, ap height o.is);
      right_falls = omega (arith, height_in p node.right o.r o.right_is o.sr, high, ap height o.is);
      keys_are = rw (left_is, right_is) (ap keys o.is);
    }

-- a set that can be read is a tree that the pool has
pub readable_tree : (cmp : Key → Key → Ordering) (p : Nodes) (root : Option ℕ) → IsReadableAt cmp p root → HasTreeAt p root
readable_tree cmp p root s = record { root_is = s.root_is; stands = s.stands }

-- a tree cut at its top, and how many keys it has
pub record Counted (p : Nodes) (root : Option ℕ) (node : Node) : Type 0 where
  pub left_tree : IsTreeAt p node.left
  pub right_tree : IsTreeAt p node.right
  pub left_falls : height_at p node.left < height_at p root
  pub right_falls : height_at p node.right < height_at p root
  pub count : length (keys_at p root) ≡ length (keys_at p node.left) + length (keys_at p node.right) + 1
  pub most : length (keys_at p root) ≤ length p.nodes

pub counted : (p : Nodes) (root : Option ℕ) (id : ℕ) (node : Node) → IsTreeAt p root → root ≡ Some id → node_at p id ≡ Some node → Counted p root node
counted p root id node c is found =
    let o : Opened p id node (tree_at p root) = opened p root id node (tree_at p root) c.root_is c.stands is found in
    let left_is : tree_at p node.left ≡ o.l = tree_in p node.left o.l o.left_is o.sl in
    let right_is : tree_at p node.right ≡ o.r = tree_in p node.right o.r o.right_is o.sr in
    let high : height_at p root ≡ height (tree_at p root) = height_in p root (tree_at p root) c.root_is c.stands in
    record {
      left_tree = record { root_is = rw left_is o.left_is; stands = rw left_is o.sl; once = rw left_is (λ x. omega (arith, c.once x, ap (λ u. occurrences u x) o.is)) };
      right_tree = record { root_is = rw right_is o.right_is; stands = rw right_is o.sr; once = rw right_is (λ x. omega (arith, c.once x, ap (λ u. occurrences u x) o.is)) };
      left_falls = omega (arith, height_in p node.left o.l o.left_is o.sl, high, ap height o.is);
      right_falls = omega (arith, height_in p node.right o.r o.right_is o.sr, high, ap height o.is);
      count = rw (left_is, right_is) (omega (arith, ap (λ u. length (keys u)) o.is, length-append (keys o.l) (node.key ∷ keys o.r)));
      most = omega (arith, size-keys (tree_at p root), tree_size p (tree_at p root) c.stands c.once);
    }

-- a set that can be changed can be read
pub set_readable : (cmp : Key → Key → Ordering) (p : Nodes) (root : Option ℕ) → IsSetAt cmp p root → IsReadableAt cmp p root
set_readable cmp p root s = record { root_is = s.root_is; stands = s.stands; rising = s.rising }

-- it has each of its nodes once
pub set_tree : (cmp : Key → Key → Ordering) (p : Nodes) (root : Option ℕ) → IsSetAt cmp p root → IsTreeAt p root
set_tree cmp p root s = record { root_is = s.root_is; stands = s.stands; once = λ x. omega (arith, s.apart x, plain_count_most p x) }

-- no root means the empty set
pub empty_set : (cmp : Key → Key → Ordering) (p : Nodes) → IsSetAt cmp p None
empty_set cmp p = record { root_is = refl; stands = tt; balanced = tt; rising = tt; apart = λ x. omega arith }

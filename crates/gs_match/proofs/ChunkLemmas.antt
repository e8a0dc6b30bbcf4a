-- How all keys are listed, some at a time.
use Rattle.std.proofs.Common.{◌≡◌, ◌≤◌, ◌<◌, ◌+◌, ℕ, List, [], ◌++◌, length, take, drop, get_or, Option, Some, sym, ap, ◌∙◌, append_assoc, append-nil, length-drop, length-take, arith}
use Rattle.std.specs.declared.cmp.Ordering.{Ordering}
use Rattle.std.specs.Cmp.{IsTotalOrder}
use Rattle.std.proofs.lemmas.List.{take_all, get_or-take}
use Rattle.gs_pool.specs.declared.nodes.Key.{Key}
use Rattle.gs_tree.specs.Keys.{IsRising}
use Rattle.gs_tree.specs.Reading.{keys_from}
use Rattle.gs_tree.proofs.KeysAfter.{left_after, cut_at}
use Rattle.gs_joins.specs.declared.sought.Sought.{Sought}
use Rattle.gs_joins.specs.declared.bindings.Bound.{Bound}
use Rattle.gs_joins.specs.Numbers.{numbers_of}
use Rattle.gs_match.specs.Candidates.{instances_in, Sifts, one_if}
use Rattle.gs_match.proofs.SiftLemmas.{flat_map_append}

-- what was read is no more than there is
pub enough : (most : ℕ) (read left : List Key) → read ≡ take most left → most ≤ length read → most ≤ length left
enough most read left is full = let e : length read ≡ length (take most left) = ap length is in omega (arith, e, length-take most left)

-- what was read is all where it is less than was asked for
pub all_read : (most : ℕ) (read left : List Key) → read ≡ take most left → length read < most → left ≡ read ++ []
all_read most read left is few =
    let e : length read ≡ length (take most left) = ap length is in
    sym (append-nil read ∙ is ∙ take_all most left (omega (arith, e, length-take most left)))

module _ (cmp : Key → Key → Ordering) (total : IsTotalOrder cmp) (ks : List Key) (rising : IsRising cmp ks) (most : ℕ) where
  -- the keys after the last of those that were read
  pub rest_after : (from : Option Key) (read : List Key) (n : ℕ) (k d : Key) → most ≡ n + 1 → read ≡ take most (keys_from cmp from ks) → most ≤ length read → k ≡ get_or read n d → keys_from cmp (Some k) ks ≡ drop most (keys_from cmp from ks)
  rest_after from read n k d is_most is_read full is_last =
      let left : List Key = keys_from cmp from ks in
      let many : most ≤ length left = enough most read left is_read full in
      let inside : n < length left = omega arith in
      let last : k ≡ get_or left n d = is_last ∙ ap (λ zs. get_or zs n d) is_read ∙ get_or-take most left n d (omega arith) in
      ap (λ z. keys_from cmp (Some z) ks) last ∙ left_after cmp total from ks (take n left) (get_or left n d) (drop (n + 1) left) rising (cut_at left n d inside) ∙ ap (λ m. drop m left) (sym is_most)

  -- are fewer
  pub fewer : (from : Option Key) (read : List Key) (n : ℕ) (k d : Key) → most ≡ n + 1 → read ≡ take most (keys_from cmp from ks) → most ≤ length read → k ≡ get_or read n d → length (keys_from cmp (Some k) ks) < length (keys_from cmp from ks)
  fewer from read n k d is_most is_read full is_last =
      let many : most ≤ length (keys_from cmp from ks) = enough most read (keys_from cmp from ks) is_read full in
      let e : length (keys_from cmp (Some k) ks) ≡ length (drop most (keys_from cmp from ks)) = ap length (rest_after from read n k d is_most is_read full is_last) in
      omega (arith, e, length-drop most (keys_from cmp from ks))

module _ (old now new : List Bound) (s : Sought) (start from to left read rest : List Key) (all : List Key) where
  -- what was read is listed, and the rest is left
  pub chunk_more : now ≡ old → to ++ instances_in (numbers_of old) s left ≡ start ++ instances_in (numbers_of old) s all → left ≡ read ++ rest → Sifts now new s read to from
      → from ++ instances_in (numbers_of old) s rest ≡ start ++ instances_in (numbers_of old) s all
  chunk_more same parts cut sifts =
      ap (λ xs. xs ++ instances_in (numbers_of old) s rest) (sifts.more ∙ ap (λ bs. to ++ instances_in (numbers_of bs) s read) same)
      ∙ append_assoc to (instances_in (numbers_of old) s read) (instances_in (numbers_of old) s rest)
      ∙ ap (λ zs. to ++ zs) (sym (flat_map_append (one_if (numbers_of old) s) read rest) ∙ ap (instances_in (numbers_of old) s) (sym cut))
      ∙ parts

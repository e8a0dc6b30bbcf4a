-- Stretches of a list that are in order, and a stretch that moves before another.
use Rattle.std.proofs.Common.{◌≡◌, ℕ, ◌+◌, ◌-◌, ◌<◌, ◌≤◌, Bool, false, List, ◌++◌, length, take, drop, get_or, inl, inr, refl, sym, ap, subst, ◌∙◌, arith, length-drop, get_or-take}
use Rattle.std.specs.List.{RotatedRight}
use Rattle.std.specs.List.Sorted.{IsPermutation, IsSortedBy, IsSortedWithin}
use Rattle.std.proofs.lemmas.Bool.{cases_order}
use Rattle.std.proofs.lemmas.List.{get_or_append_left, get_or-append_right, get_or-drop, length-take-le, take-append-drop}
use Rattle.std.proofs.lemmas.List.Sorted.{IsPermutation-append_comm}
use borrow.Rule.Slice.PartMut.{mid_of, put_mid, post_of}

module _ {X : Type 0} where
  -- what stands before a stretch that was written
  pub put_below : (a n : ℕ) (xs ys : List X) (k : ℕ) (d : X) → k < a → a ≤ length xs → get_or (put_mid a n xs ys) k d ≡ get_or xs k d
  put_below a n xs ys k d low within =
      let long : length (take a xs) ≡ a = length-take-le a xs within in
      get_or_append_left (take a xs) _ d k (omega (arith, long, low)) ∙ get_or-take a xs k d low

  -- what stands in it
  pub put_inside : (a n : ℕ) (xs ys : List X) (k j : ℕ) (d : X) → k ≡ a + j → j < length ys → a ≤ length xs → get_or (put_mid a n xs ys) k d ≡ get_or ys j d
  put_inside a n xs ys k j d at low within =
      let long : length (take a xs) ≡ a = length-take-le a xs within in
      let here : k - a ≡ j = omega (arith, at) in
      get_or-append_right (take a xs) _ a k d long (omega (arith, at)) ∙ ap (λ i. get_or (ys ++ post_of a n xs) i d) here ∙ get_or_append_left ys _ d j low

  -- what stood in it
  pub mid_inside : (a n : ℕ) (xs : List X) (k j : ℕ) (d : X) → k ≡ a + j → j < n → get_or (mid_of a n xs) j d ≡ get_or xs k d
  mid_inside a n xs k j d at low = get_or-take n (drop a xs) j d low ∙ get_or-drop a xs j d ∙ ap (λ i. get_or xs i d) (sym at)

  -- after the elements from m on were put before the others
  pub turned_moves : (zs ys : List X) (m : ℕ) → ys ≡ drop m zs ++ take m zs → IsPermutation zs ys
  turned_moves zs ys m e =
      let same : take m zs ++ drop m zs ≡ zs = take-append-drop m zs in
      subst (IsPermutation zs) (sym e) (subst (λ l. IsPermutation l (drop m zs ++ take m zs)) same (IsPermutation-append_comm (take m zs) (drop m zs)))

  pub turned_places : (zs ys : List X) (m n k : ℕ) → ys ≡ drop m zs ++ take m zs → length zs ≡ n → m + k ≡ n → RotatedRight zs ys n k
  turned_places zs ys m n k e long both =
      let back : length (drop m zs) ≡ k = omega (arith, length-drop m zs, long, both) in (
        λ j d low.
            let at : m + j ≡ n - k + j = omega (arith, both) in
            ap (λ l. get_or l j d) e ∙ get_or_append_left (drop m zs) (take m zs) d j (omega (arith, back, low)) ∙ get_or-drop m zs j d ∙ ap (λ i. get_or zs i d) at,
        λ j d high low. ap (λ l. get_or l j d) e ∙ get_or-append_right (drop m zs) (take m zs) k j d back high ∙ get_or-take m zs (j - k) d (omega (arith, both, high, low)),
      )

module _ {X : Type 0} (lt : X → X → Bool) where
  -- a test gives the same where its sides do
  same_test : (a b x y : X) → a ≡ x → b ≡ y → lt x y ≡ false → lt a b ≡ false
  same_test a b x y p q h = (λ i. lt (p i) (q i)) ∙ h

  -- a stretch that stayed is in order
  pub kept_below : (xs ys : List X) (n : ℕ) → ((k : ℕ) (d : X) → k < n → get_or ys k d ≡ get_or xs k d) → IsSortedWithin lt xs 0 n → IsSortedWithin lt ys 0 n
  kept_below xs ys n same up k d above below = same_test _ _ _ _ (same (k + 1) d below) (same k d (omega (arith, below))) (up k d above below)

  -- a stretch that was moved is in order
  pub moved_stretch :
      (xs ys : List X) (low high from : ℕ) → ((k j : ℕ) (d : X) → low ≤ k → k < high → j + low ≡ k + from → get_or ys k d ≡ get_or xs j d) → IsSortedWithin lt xs from (from + (high - low))
      → IsSortedWithin lt ys low high
  moved_stretch xs ys low high from same sorted k d above below =
      let first : get_or ys k d ≡ get_or xs (k - low + from) d = same k (k - low + from) d above (omega (arith, below)) (omega (arith, above)) in
      let second : get_or ys (k + 1) d ≡ get_or xs (k - low + from + 1) d = same (k + 1) (k - low + from + 1) d (omega (arith, above)) below (omega (arith, above)) in
      same_test _ _ _ _ second first (sorted (k - low + from) d (omega arith) (omega (arith, above, below)))

  -- two stretches are one where the second may follow the first
  pub joined : (xs : List X) (low mid high : ℕ) → IsSortedWithin lt xs low mid → IsSortedWithin lt xs mid high → ((d : X) → low < mid → mid < high → lt (get_or xs mid d) (get_or xs (mid - 1) d) ≡ false) → IsSortedWithin lt xs low high
  joined xs low mid high below above seam k d from to = elim (cases_order (k + 1) mid) [
    | inl e ↦ let before : k ≡ mid - 1 = omega (arith, e) in
        same_test _ _ _ _ (ap (λ i. get_or xs i d) e) (ap (λ i. get_or xs i d) before) (seam d (omega (arith, e, from)) (omega (arith, e, to)))
    | inr (inl l) ↦ below k d from l
    | inr (inr g) ↦ above k d (omega (arith, g)) to
  ]

  -- what was sorted by itself is in order where it was put back
  pub sorted_in_place : (xs ys : List X) (from end : ℕ) → from ≤ end → end ≤ length xs → length ys ≡ end - from → IsSortedBy lt ys → IsSortedWithin lt (put_mid from (end - from) xs ys) from end
  sorted_in_place xs ys from end low within long up =
      moved_stretch ys (put_mid from (end - from) xs ys) from end 0
      (λ k j d above below at. put_inside from (end - from) xs ys k j d (omega (arith, at)) (omega (arith, at, long, above, below)) (omega (arith, low, within)))
      (λ k d above below. up k d above (omega (arith, below, long)))

  -- the stretch from `from` up to `end` moved to `place`, where it may stand
  pub settled :
      (xs ys : List X) (place from end : ℕ) → place ≤ from → from < end → end ≤ length xs → length ys ≡ end - place → RotatedRight (mid_of place (end - place) xs) ys (end - place) (end - from)
      → IsSortedWithin lt xs 0 from → IsSortedWithin lt xs from end
      → ((d : X) → 0 < place → lt (get_or xs from d) (get_or xs (place - 1) d) ≡ false)
      → ((d : X) → place < from → lt (get_or xs place d) (get_or xs (end - 1) d) ≡ false)
      → IsSortedWithin lt (put_mid place (end - place) xs ys) 0 end
  settled xs ys place from end before some within long turned low_up group_up after_low before_high =
      joined new 0 place end low_part (joined new place (place + (end - from)) end group_part high_part (λ d _ here. seam_high d here)) (λ d here _. seam_low d here)
    where
      new : List X
      new = put_mid place (end - place) xs ys

      low : (k j : ℕ) (d : X) → 0 ≤ k → k < place → j + 0 ≡ k + 0 → get_or new k d ≡ get_or xs j d
      low k j d _ below at =
          let same : k ≡ j = omega (arith, at) in
          put_below place (end - place) xs ys k d below (omega (arith, before, some, within)) ∙ ap (λ i. get_or xs i d) same

      group : (k j : ℕ) (d : X) → place ≤ k → k < place + (end - from) → j + place ≡ k + from → get_or new k d ≡ get_or xs j d
      group k j d above below at =
          put_inside place (end - place) xs ys k (k - place) d (omega (arith, above)) (omega (arith, long, above, below, before, some)) (omega (arith, before, some, within))
          ∙ turned.0 (k - place) d (omega (arith, above, below))
          ∙ mid_inside place (end - place) xs j (end - place - (end - from) + (k - place)) d (omega (arith, at, above, before, some)) (omega (arith, above, below, before, some))

      high : (k j : ℕ) (d : X) → place + (end - from) ≤ k → k < end → j + (place + (end - from)) ≡ k + place → get_or new k d ≡ get_or xs j d
      high k j d above below at =
          put_inside place (end - place) xs ys k (k - place) d (omega (arith, above)) (omega (arith, long, above, below)) (omega (arith, before, some, within))
          ∙ turned.1 (k - place) d (omega (arith, above)) (omega (arith, above, below))
          ∙ mid_inside place (end - place) xs j (k - place - (end - from)) d (omega (arith, at, above)) (omega (arith, above, below))

      low_part : IsSortedWithin lt new 0 place
      low_part = moved_stretch xs new 0 place 0 low (λ k d above below. low_up k d above (omega (arith, below, before)))

      group_part : IsSortedWithin lt new place (place + (end - from))
      group_part = moved_stretch xs new place (place + (end - from)) from group (λ k d above below. group_up k d above (omega (arith, below, some)))

      high_part : IsSortedWithin lt new (place + (end - from)) end
      high_part = moved_stretch xs new (place + (end - from)) end place high (λ k d above below. low_up k d (omega arith) (omega (arith, above, below, before, some)))

      seam_low : (d : X) → 0 < place → lt (get_or new place d) (get_or new (place - 1) d) ≡ false
      seam_low d here = same_test _ _ _ _ (group place from d (omega arith) (omega (arith, some)) (omega arith)) (low (place - 1) (place - 1) d (omega arith) (omega (arith, here)) refl) (after_low d here)

      seam_high : (d : X) → place + (end - from) < end → lt (get_or new (place + (end - from)) d) (get_or new (place + (end - from) - 1) d) ≡ false
      seam_high d here =
          same_test _ _ _ _ (high (place + (end - from)) place d (omega arith) here (omega arith)) (group (place + (end - from) - 1) (end - 1) d (omega (arith, some)) (omega (arith, some)) (omega (arith, some)))
          (before_high d (omega (arith, here, some)))

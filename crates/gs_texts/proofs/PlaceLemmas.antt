-- Places: what they are made of, and that texts stay where blocks only gain bytes.
use Rattle.std.proofs.Common.{◌≡◌, ℕ, ◌+◌, ◌-◌, ◌<◌, ◌≤◌, List, [], ◌∷◌, ◌++◌, length, ap, sym, ◌∙◌, inl, inr, arith, take, drop, cond, Result, Ok, Err, length-append}
use Rattle.std.proofs.lemmas.Bool.{cases_eq}
use Rattle.std.proofs.lemmas.List.{get_or_append_left, get_or_push, length_push, take_all, take-append-le, drop-append-le, drop_at, length-drop, append-nil}
use Rattle.std.specs.declared.alloc.AllocError.{AllocError}
use Rattle.std.specs.Result.{IfOk, is_ok}
use Rattle.gs_texts.specs.declared.places.Place.{Place}
use Rattle.gs_texts.specs.Places.{IsPlaceOf, block_of, offset_of, length_of, block_at, text_in, LiesInBlock, HoldsText, KeepsBytes}

-- a part of a list is the same part of a longer one
pub part_of_longer : (o n : ℕ) (xs ys : List ℕ) → o + n ≤ length xs → take (o + n - o) (drop o (xs ++ ys)) ≡ take (o + n - o) (drop o xs)
part_of_longer o n xs ys inside =
    let within : o ≤ length xs = omega arith in
    let left : o + n - o ≤ length (drop o xs) = omega (arith, length-drop o xs) in
    ap (take (o + n - o)) (drop-append-le o xs ys within) ∙ take-append-le (o + n - o) (drop o xs) ys left

-- where blocks keep their bytes, a place still lies in its block
pub lies_kept : (old new : List (List ℕ)) (p : Place) → KeepsBytes old new → LiesInBlock old p → LiesInBlock new p
lies_kept old new p keeps lies =
    let kept = keeps.begins (block_of p) lies.block in
    record {
      block = omega (arith, keeps.count, lies.block);
      inside = omega (arith, lies.inside, ap length kept.1, length-append (block_at old (block_of p)) kept.0);
    }

-- and its text is the same
pub text_kept : (old new : List (List ℕ)) (p : Place) → KeepsBytes old new → LiesInBlock old p → text_in new p ≡ text_in old p
unfolding text_in
text_kept old new p keeps lies =
    let kept = keeps.begins (block_of p) lies.block in
    ap (λ z. take (offset_of p + length_of p - offset_of p) (drop (offset_of p) z)) kept.1
    ∙ part_of_longer (offset_of p) (length_of p) (block_at old (block_of p)) kept.0 lies.inside

-- blocks that stay as they are
pub keeps_same : (blocks : List (List ℕ)) → KeepsBytes blocks blocks
keeps_same blocks = record { count = omega arith; begins = λ b p. ([], sym (append-nil (block_at blocks b))) }

-- more bytes in the last block
keeps_last : (sealed : List (List ℕ)) (z y more : List ℕ) → y ≡ z ++ more → KeepsBytes (sealed ++ z ∷ []) (sealed ++ y ∷ [])
keeps_last sealed z y more is = record {
  count = omega (arith, length_push sealed z, length_push sealed y);
  begins = λ b p. elim (cases_eq b (length sealed)) [
    | inl at ↦ (more, get_or_push sealed y [] b (sym at) ∙ (is ∙ ap (λ k. k ++ more) (sym (get_or_push sealed z [] b (sym at)))))
    | inr other ↦
        let before : b < length sealed = omega (arith, p, other, length_push sealed z) in
        let same : (w : List ℕ) → block_at (sealed ++ w ∷ []) b ≡ block_at sealed b = λ w. get_or_append_left sealed (w ∷ []) [] b before in
        ([], same y ∙ (sym (same z) ∙ sym (append-nil (block_at (sealed ++ z ∷ []) b))))
  ];
}

-- a text that ends the last block
pub ends_block :
    (sealed : List (List ℕ)) (p : Place) (n : ℕ) (before y x : List ℕ) → y ≡ before ++ x → n ≡ length sealed
    → IsPlaceOf p n (length before) (length x) → HoldsText (sealed ++ y ∷ []) p x
unfolding text_in
ends_block sealed p n before y x bytes number place =
    let blocks : List (List ℕ) = sealed ++ y ∷ [] in
    let o : ℕ = offset_of p in
    let k : ℕ = o + length_of p - o in
    let enough : length x ≤ k = omega (arith, place.length_is) in
    let is : block_at blocks (block_of p) ≡ before ++ x = get_or_push sealed y [] (block_of p) (sym (place.block_is ∙ number)) ∙ bytes in
    record {
      lies = record {
        block = omega (arith, place.block_is, number, length_push sealed y);
        inside = omega (arith, place.offset_is, place.length_is, ap length is, length-append before x);
      };
      text = ap (λ z. take k (drop o z)) is ∙ (ap (take k) (drop_at before x o (sym place.offset_is)) ∙ take_all k x enough);
    }

-- A text that is written after the bytes of the last block, or is not: the other bytes stay, and it is at its place.
pub written_keeps :
    (r : Result Place AllocError) (sealed : List (List ℕ)) (z y x : List ℕ) → y ≡ cond (is_ok r) (z ++ x) z
    → KeepsBytes (sealed ++ z ∷ []) (sealed ++ y ∷ [])
written_keeps (Ok p) sealed z y x bytes = keeps_last sealed z y x bytes
written_keeps (Err e) sealed z y x bytes = keeps_last sealed z y [] (bytes ∙ sym (append-nil z))

pub written :
    (r : Result Place AllocError) (sealed : List (List ℕ)) (n : ℕ) (z y x : List ℕ) → n ≡ length sealed → y ≡ cond (is_ok r) (z ++ x) z
    → IfOk r (λ p. IsPlaceOf p n (length z) (length x)) → IfOk r (λ p. HoldsText (sealed ++ y ∷ []) p x)
written (Ok p) sealed n z y x number bytes place = ends_block sealed p n z y x bytes number place
written (Err e) sealed n z y x number bytes place = tt

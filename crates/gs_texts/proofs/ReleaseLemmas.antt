-- Blocks that are given back: one more of the sealed ones, and places whose text is kept.
use Rattle.std.proofs.Common.{◌≡◌, ℕ, ◌+◌, ◌-◌, ◌<◌, ◌≤◌, ◌^◌, Bool, true, false, List, [], length, set, take, drop, ap, sym, ◌∙◌, refl, inl, inr, arith, length-set, get_or-set_same, get_or-set_other}
use Rattle.std.proofs.lemmas.Bool.{cases_eq}
use Rattle.std.proofs.lemmas.List.{get_or_past}
use Rattle.gs_texts.specs.declared.places.Place.{Place}
use Rattle.gs_texts.specs.Places.{block_of, offset_of, length_of, block_at, LiesInBlock, text_in}
use Rattle.gs_texts.specs.Releasing.{is_gone, EmptiesMarked, AreEmptied, KeepsOthers, IsSpared}
use Rattle.gs_texts.proofs.LineLemmas.{text_length}

-- a text has fewer than 2^16 bytes
pub text_short : (blocks : List (List ℕ)) (p : Place) → LiesInBlock blocks p → length (text_in blocks p) < 2 ^ 16
unfolding length_of
text_short blocks p lies = let is : length (text_in blocks p) ≡ length_of p = text_length blocks p lies in omega arith

-- where nothing is emptied yet, all is kept
pub emptied_none : (gone : List Bool) (blocks : List (List ℕ)) → EmptiesMarked gone blocks blocks
emptied_none gone blocks = record { count = refl; others = λ b _. refl; either = λ b. inl refl }

-- one marked block more is emptied
pub emptied_one :
    (gone : List Bool) (old new : List (List ℕ)) (i : ℕ) → EmptiesMarked gone old new → i < length new → is_gone gone i ≡ true
    → EmptiesMarked gone old (set new i [])
emptied_one gone old new i is inside marked = record {
  count = length-set new i [] ∙ is.count;
  others = λ b spared. elim (cases_eq b i) [
    | inl at ↦ let no : true ≡ false = sym marked ∙ (ap (is_gone gone) (sym at) ∙ spared) in cc
    | inr other ↦ get_or-set_other new i b [] [] other ∙ is.others b spared
  ];
  either = λ b. elim (cases_eq b i) [
    | inl at ↦ inr (ap (block_at (set new i [])) at ∙ get_or-set_same new i [] [] inside)
    | inr other ↦ elim (is.either b) [
      | inl same ↦ inl (get_or-set_other new i b [] [] other ∙ same)
      | inr none ↦ inr (get_or-set_other new i b [] [] other ∙ none)
    ]
  ];
}

-- then each marked one up to it is without bytes
pub emptied_up_to :
    (gone : List Bool) (new : List (List ℕ)) (i : ℕ) → AreEmptied gone new i → i < length new → AreEmptied gone (set new i []) (i + 1)
emptied_up_to gone new i done inside b below marked = elim (cases_eq b i) [
  | inl at ↦ ap (block_at (set new i [])) at ∙ get_or-set_same new i [] [] inside
  | inr other ↦ let before : b < i = omega arith in get_or-set_other new i b [] [] other ∙ done b before marked
]

-- a block that is not marked is passed
pub emptied_past :
    (gone : List Bool) (new : List (List ℕ)) (i : ℕ) → AreEmptied gone new i → is_gone gone i ≡ false → AreEmptied gone new (i + 1)
emptied_past gone new i done spared b below marked = elim (cases_eq b i) [
  | inl at ↦ let no : true ≡ false = sym marked ∙ (ap (is_gone gone) at ∙ spared) in cc
  | inr other ↦ let before : b < i = omega arith in done b before marked
]

-- a place whose text is kept lies in its block still
pub lies_spared :
    (gone : List Bool) (old new : List (List ℕ)) (p : Place) → KeepsOthers gone old new → IsSpared gone p → LiesInBlock old p → LiesInBlock new p
lies_spared gone old new p keeps (inl spared) lies = record {
  block = omega (arith, keeps.count, lies.block);
  inside = omega (arith, lies.inside, ap length (keeps.others (block_of p) spared));
}
lies_spared gone old new p keeps (inr none) lies = record { block = omega (arith, keeps.count, lies.block); inside = omega (arith, none) }

-- and has its text
pub text_spared :
    (gone : List Bool) (old new : List (List ℕ)) (p : Place) → KeepsOthers gone old new → IsSpared gone p → text_in new p ≡ text_in old p
unfolding text_in
text_spared gone old new p keeps (inl spared) = ap (λ z. take (offset_of p + length_of p - offset_of p) (drop (offset_of p) z)) (keeps.others (block_of p) spared)
text_spared gone old new p keeps (inr none) =
    let no_bytes : offset_of p + length_of p - offset_of p ≡ 0 = omega (arith, none) in
    ap (λ k. take k (drop (offset_of p) (block_at new (block_of p)))) no_bytes
    ∙ sym (ap (λ k. take k (drop (offset_of p) (block_at old (block_of p)))) no_bytes)

-- a place whose block is past the marks keeps its text
pub spared_past : (gone : List Bool) (p : Place) → length gone ≤ block_of p → IsSpared gone p
spared_past gone p past = inl (get_or_past gone (block_of p) false past)

-- Where the terms of a list are packed: each number of a term has a place, which is that of the term's text among all texts.
use Rattle.std.specs.Prelude.{◌≡◌, ℕ, ◌<◌, List, length, slice_get, slice_index_or, Some}
use Rattle.gs_model.specs.Terms.{Term, text_of}
use Rattle.gs_triple_lists.specs.Kept.{term_of_number}
use Rattle.gs_triple_lists.specs.declared.lists.TripleNumbers.{TripleNumbers}
use Rattle.gs_packed_texts.specs.Texts.{texts_of}
use Rattle.gs_small_triples.specs.Kept.{IsBelow, moved}
use Rattle.gs_small_triples.specs.declared.packings.Packing.{Packing}

-- for each number of a term the place of its text
abbrev pub term_places : Packing → List ℕ
term_places p = p.places.items

-- the text of a number's term is at the place of the number
abbrev pub IsPlaced : List Term → Packing → ℕ → Type 0
IsPlaced terms p k = slice_get (texts_of p.texts) (slice_index_or p.places.items k 0) ≡ Some (text_of (term_of_number terms k))

-- each term that is at its place is there still
abbrev pub StayPlaced : List Term → Packing → Packing → Type 0
StayPlaced terms p q = (k : ℕ) → IsPlaced terms p k → IsPlaced terms q k

-- each term is at its place
pub record ArePlaced (terms : List Term) (p : Packing) : Type 0 where
  pub noted : length p.places.items ≡ length terms
  pub placed : (k : ℕ) → k < length terms → IsPlaced terms p k

-- each of three numbers has a place, and each place a text
pub record HavePlaces (p : Packing) (k : TripleNumbers) : Type 0 where
  pub noted : IsBelow (length p.places.items) k
  pub places : IsBelow p.count (moved p.places.items k)

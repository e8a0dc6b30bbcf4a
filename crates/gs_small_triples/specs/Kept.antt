-- How the small form is kept: terms as texts, and their places as numbers of one byte, two or four.
use Rattle.std.specs.Prelude.{ℕ, ◌<◌, ◌^◌, List, map, slice_index_or}
use Rattle.std.specs.List.{All}
use Rattle.gs_model.specs.Terms.{Term}
use Rattle.gs_model.specs.Texts.{term_of, IsCanonical}
use Rattle.gs_packed_texts.specs.Texts.{split_bytes}
use Rattle.gs_packed_texts.specs.declared.readers.SplitText.{SplitText}
use Rattle.gs_triple_lists.specs.declared.lists.TripleNumbers.{TripleNumbers}
use Rattle.gs_small_triples.specs.declared.numbers.ByteNumbers.{ByteNumbers}
use Rattle.gs_small_triples.specs.declared.numbers.WordNumbers.{WordNumbers}
use Rattle.gs_small_triples.specs.declared.numbers.Numbers.{Numbers}
use Rattle.gs_small_triples.specs.declared.numbers.Numbers.TheVariants.{Bytes, Words, Whole}

-- numbers of a byte each, as a list has them
abbrev pub from_bytes : ByteNumbers → TripleNumbers
from_bytes k = record { subject = k.subject; predicate = k.predicate; object = k.object }

-- numbers of two bytes each, as a list has them
abbrev pub from_words : WordNumbers → TripleNumbers
from_words k = record { subject = k.subject; predicate = k.predicate; object = k.object }

-- the numbers of each triple
abbrev pub numbers_in : Numbers → List TripleNumbers
numbers_in (Bytes kept) = map from_bytes kept.items
numbers_in (Words kept) = map from_words kept.items
numbers_in (Whole kept) = kept.items

-- each number that can be kept is below this
abbrev pub width : Numbers → ℕ
width (Bytes kept) = 2 ^ 8
width (Words kept) = 2 ^ 16
width (Whole kept) = 2 ^ 32

-- three numbers are below this
pub record IsBelow (n : ℕ) (k : TripleNumbers) : Type 0 where
  pub subject : k.subject < n
  pub predicate : k.predicate < n
  pub object : k.object < n

-- three numbers, each moved to its place
abbrev pub moved : List ℕ → TripleNumbers → TripleNumbers
moved places k = record {
  subject = slice_index_or places k.subject 0;
  predicate = slice_index_or places k.predicate 0;
  object = slice_index_or places k.object 0;
}

-- the terms of texts
abbrev pub terms_of : List (List ℕ) → List Term
terms_of xs = map term_of xs

-- the terms of texts in two parts
abbrev pub terms_split : List SplitText → List Term
terms_split ss = terms_of (map split_bytes ss)

-- texts in two parts are canonical
abbrev pub AreSplit : List SplitText → Type 0
AreSplit ss = All IsCanonical (map split_bytes ss)

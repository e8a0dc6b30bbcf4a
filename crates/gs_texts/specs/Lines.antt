-- Lines: three texts, each with a space after it, and a tail.
use Rattle.std.specs.Prelude.{ℕ, ◌+◌, ◌-◌, ◌<◌, ◌≤◌, List, ◌∷◌, ◌++◌, length, map, slice_range, refl}
use Rattle.std.specs.List.{concat}
use Rattle.std.specs.Coded.{Coded, code_by, coded_ℕ, coded_list}
use Rattle.gs_model.specs.Characters.{space}
use Rattle.gs_texts.specs.declared.parts.LinePlaces.{LinePlaces}
use Rattle.gs_texts.specs.Places.{block_of, LiesInBlock, text_in}

-- what a contract sees of lines: their bytes
pub record Written : Type 0 where
  pub items : List ℕ

-- it is stored as its field
abbrev pub written_code : Coded Written
written_code = code_by (List ℕ) (coded_list coded_ℕ) (λ w. w.items) (λ xs. record { items = xs }) (λ _. refl)

-- these bytes
abbrev pub written : List ℕ → Written
written xs = record { items = xs }

-- the line of three texts and a tail
abbrev pub line_of_texts : List ℕ → List ℕ → List ℕ → List ℕ → List ℕ
line_of_texts subject predicate object tail = subject ++ space ∷ predicate ++ space ∷ object ++ space ∷ tail

-- the line whose texts stand at these places
abbrev pub line_placed : List (List ℕ) → List ℕ → LinePlaces → List ℕ
line_placed blocks tails l = line_of_texts (text_in blocks l.subject) (text_in blocks l.predicate) (text_in blocks l.object) (slice_range tails l.tail_from (l.tail_from + l.tail_count))

-- such lines, one after another
abbrev pub lines_placed : List (List ℕ) → List ℕ → List LinePlaces → List ℕ
lines_placed blocks tails ls = concat (map (line_placed blocks tails) ls)

-- the texts of the line lie in their blocks, and its tail is there
pub record LiesThere (blocks : List (List ℕ)) (tails : List ℕ) (l : LinePlaces) : Type 0 where
  pub subject : LiesInBlock blocks l.subject
  pub predicate : LiesInBlock blocks l.predicate
  pub object : LiesInBlock blocks l.object
  pub tail : l.tail_from + l.tail_count ≤ length tails

-- its texts are in sealed blocks
pub record IsSealedLine (blocks : List (List ℕ)) (l : LinePlaces) : Type 0 where
  pub subject : block_of l.subject < length blocks - 1
  pub predicate : block_of l.predicate < length blocks - 1
  pub object : block_of l.object < length blocks - 1

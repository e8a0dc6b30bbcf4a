-- Lines that are built up from places of texts.
use Rattle.std.specs.Prelude.{◌≡◌, ℕ, ◌≤◌, Bool, true, List, [], ◌++◌, length, drop, refl}
use Rattle.std.specs.List.{All}
use Rattle.std.specs.Coded.{Coded, code_by, coded×, coded_ℕ, coded_list}
use Rattle.gs_texts.specs.declared.parts.LinePlaces.{LinePlaces}
use Rattle.gs_texts.specs.Lines.{line_of_texts, lines_placed, LiesThere, IsSealedLine}

-- the blocks of the texts, the tail of the lines that follow, and the bytes of the lines so far
pub record Built : Type 0 where
  pub blocks : List (List ℕ)
  pub tail : List ℕ
  pub items : List ℕ

-- it is stored as the triple of its fields
abbrev pub built_code : Coded Built
built_code =
    code_by (List (List ℕ) × (List ℕ × List ℕ)) (coded× (coded_list (coded_list coded_ℕ)) (coded× (coded_list coded_ℕ) (coded_list coded_ℕ))) (λ b. (b.blocks, (b.tail, b.items)))
    (λ p. record { blocks = p.0; tail = p.1.0; items = p.1.1 }) (λ _. refl)

-- no lines of these blocks, and an empty tail
abbrev pub built_over : List (List ℕ) → Built
built_over blocks = record { blocks = blocks; tail = []; items = [] }

-- the same lines, with another tail for those that follow
abbrev pub with_tail : Built → List ℕ → Built
with_tail b tail = record { blocks = b.blocks; tail = tail; items = b.items }

-- one line more, of three texts
abbrev pub with_line : Built → List ℕ → List ℕ → List ℕ → Built
with_line b subject predicate object =
    record { blocks = b.blocks; tail = b.tail; items = b.items ++ line_of_texts subject predicate object b.tail }

-- the lines that stand at these places; the tail of the lines that follow begins at `start` among all
abbrev pub built : List (List ℕ) → List ℕ → ℕ → List LinePlaces → Built
built blocks tails start ls = record { blocks = blocks; tail = drop start tails; items = lines_placed blocks tails ls }

-- The texts of the lines are there, and the last tail begins among all; so many bytes have the lines; where it is said that they are
-- sealed, all their texts are in sealed blocks.
pub record IsBuilt (blocks : List (List ℕ)) (tails : List ℕ) (start : ℕ) (ls : List LinePlaces) (size : ℕ) (is_sealed : Bool) : Type 0 where
  pub there : All (LiesThere blocks tails) ls
  pub begun : start ≤ length tails
  pub counted : size ≡ length (lines_placed blocks tails ls)
  pub sealed : is_sealed ≡ true → All (IsSealedLine blocks) ls

-- What is noted of the terms of a list while their numbers are found. No public clause cites this module.
use Rattle.std.specs.Prelude.{◌≡◌, ◌≤◌, ℕ, true, false, List, length, slice_index_or}
use Rattle.std.specs.List.{All}
use Rattle.gs_model.specs.Terms.{Term}
use Rattle.gs_dict.specs.Numbering.{Terms, IsNumberOf}
use Rattle.gs_triple_lists.specs.Kept.{term_of_number}
use Rattle.gs_staging.specs.declared.keys.Noted.{Noted}

-- what is noted at a place, and nothing past the end
abbrev pub noted_at : List Noted → ℕ → Noted
noted_at ns n = slice_index_or ns n (record { id = record { number = 0 }; is_known = false })

-- it is a guess, on which nothing rests
abbrev pub IsGuess : Noted → Type 0
IsGuess x = x.is_known ≡ false

-- there are so many, and all are guesses
pub record AreGuesses (n : ℕ) (ns : List Noted) : Type 0 where
  pub count : length ns ≡ n
  pub all : All IsGuess ns

-- there is a place for each term of a list, and a number that is known is the term's in the dictionary
pub record AreNoted (given : Terms) (terms : List Term) (ns : List Noted) : Type 0 where
  pub places : length terms ≤ length ns
  pub known : (n : ℕ) → (noted_at ns n).is_known ≡ true → IsNumberOf given (noted_at ns n).id.number (term_of_number terms n)

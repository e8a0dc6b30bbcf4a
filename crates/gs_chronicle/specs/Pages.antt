-- A page of history as it is seen, and the rules by which it takes a call.
use Rattle.std.specs.Prelude.{◌≡◌, ℕ, ◌+◌, ◌-◌, ◌^◌, min, List, [], ◌∷◌, ◌++◌, length, map, Bool, ◌&&◌, nat_lt, nat_le, if◌then◌else◌}
use Rattle.std.specs.List.{sum_by, range_with_len}
use Rattle.gs_event.specs.Conditions.{Asked}

-- one call that was decided: by which seat, what the abstract store was asked and on which condition, as how many
-- triples the request counts (`Sizes`), with repeats, and its status
pub record Decided : Type 0 where
  pub seat : ℕ
  pub asked : Asked
  pub triples : ℕ
  pub status : ℕ

-- an entry as it is seen: its number in the page, and the call
pub record Row : Type 0 where
  pub number : ℕ
  pub call : Decided

-- a page as it is seen: its number, and its rows, the oldest first
pub record PageView : Type 0 where
  pub number : ℕ
  pub rows : List Row

-- the first page, before any call
abbrev pub fresh_page : PageView
fresh_page = record { number = 0; rows = [] }

-- as how many triples the rows count
abbrev pub stored_in : List Row → ℕ
stored_in rows = sum_by (λ r. r.call.triples) rows

-- the numbers of the rows are 0, 1, 2 and so on
abbrev pub AreNumbered : List Row → Type 0
AreNumbered rows = map (λ r. r.number) rows ≡ range_with_len 0 (length rows)

-- the page turned: without rows, under the next number, which stops at 2^64 - 1
abbrev pub turned : PageView → PageView
turned p = record { number = min (p.number + 1) (2 ^ 64 - 1); rows = [] }

-- the page with one row more, under the next number
abbrev pub with_row : PageView → Decided → PageView
with_row p d = record { number = p.number; rows = p.rows ++ record { number = length p.rows; call = d } ∷ [] }

-- whether a page of at most so many rows and triples has room for the call
abbrev pub has_room : ℕ → ℕ → PageView → Decided → Bool
has_room most_rows most_triples p d = nat_lt (length p.rows) most_rows && nat_le (stored_in p.rows + d.triples) most_triples

-- The page after a call: where it has no room, it is turned first. A call that counts as more triples than a page holds is
-- not stored, and turns the page.
abbrev pub page_after : ℕ → ℕ → PageView → Decided → PageView
page_after most_rows most_triples p d =
    if nat_lt most_triples d.triples
    then turned p
    else if has_room most_rows most_triples p d then with_row p d else with_row (turned p) d

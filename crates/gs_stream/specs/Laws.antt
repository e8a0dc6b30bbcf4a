-- What is proved of the definitions.
use Rattle.std.specs.Prelude.{◌≡◌, ℕ, List, ◌∷◌, ◌++◌}
use Rattle.gs_model.specs.Ascii.{carriage_return, line_feed}
use Rattle.gs_stream.specs.Heads.{head_at, stripped, TooLong, Whole}
use Rattle.gs_stream.specs.Requests.{by_head, requests}

-- a head that is whole stays so, and what comes later stands after it
abbrev pub HeadsStay : Type 0
HeadsStay = (x y head rest : List ℕ) → head_at x ≡ Whole head rest → head_at (x ++ y) ≡ Whole head (rest ++ y)

-- and so does one that is too long
abbrev pub LongStays : Type 0
LongStays = (x y : List ℕ) → head_at x ≡ TooLong → head_at (x ++ y) ≡ TooLong

-- an LF, and a CR LF, before a head are dropped
abbrev pub LeadDoesNotCount : Type 0
LeadDoesNotCount =
    (x : List ℕ)
    → (stripped (line_feed ∷ x) ≡ stripped x) × (stripped (carriage_return ∷ line_feed ∷ x) ≡ stripped x)

-- the requests of a stream are read from its first head on, and then from what stands after it
abbrev pub ReadsOn : Type 0
ReadsOn = (base x : List ℕ) → requests base x ≡ by_head base (requests base) (head_at (stripped x))

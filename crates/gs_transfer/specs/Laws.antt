-- What is proved of the definitions: a body in chunks is what the grammar says.
use Rattle.std.specs.Prelude.{◌≡◌, ◌↔◌, ℕ, List, ◌++◌, length, take, drop, ◌≤◌}
use Rattle.gs_http.specs.declared.framing.Framing.TheVariants.{Bytes, Chunked}
use Rattle.gs_transfer.specs.Grammar.{IsChunked}
use Rattle.gs_transfer.specs.Cuts.{Faulty, Whole, body_at}

-- a body in chunks is whole exactly where it stands at the front of the text by the grammar, within the limit
abbrev pub ChunkedIsTheGrammar : Type 0
ChunkedIsTheGrammar = (limit : ℕ) (x body rest : List ℕ) → (body_at limit Chunked x ≡ record { bytes = body; end = Whole rest }) ↔ IsChunked limit x body rest

-- a body of so many bytes is those at the front of the text
abbrev pub SizedIsTheFront : Type 0
SizedIsTheFront = (limit n : ℕ) (x : List ℕ) → n ≤ length x → body_at limit (Bytes n) x ≡ record { bytes = take n x; end = Whole (drop n x) }

-- what is settled stays so, however the text goes on
abbrev pub StaysWhole : Type 0
StaysWhole = (limit : ℕ) (x y body rest : List ℕ) → body_at limit Chunked x ≡ record { bytes = body; end = Whole rest } → body_at limit Chunked (x ++ y) ≡ record { bytes = body; end = Whole (rest ++ y) }

-- and so does a fault
abbrev pub StaysFaulty : Type 0
StaysFaulty = (limit status : ℕ) (x y body : List ℕ) → body_at limit Chunked x ≡ record { bytes = body; end = Faulty status } → body_at limit Chunked (x ++ y) ≡ record { bytes = body; end = Faulty status }

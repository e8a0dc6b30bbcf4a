-- Where the reading of a body stands, and what one byte does (RFC 9112, sections 6.2 and 7.1).
use Rattle.std.specs.Prelude.{ℕ, zero, suc, ◌+◌, ◌-◌, ◌==◌, nat_lt, nat_le, if◌then◌else◌, List, [], ◌∷◌, ◌++◌, length, Option, Some, None}
use Rattle.gs_model.specs.Ascii.{carriage_return, line_feed}
use Rattle.gs_http.specs.Chunks.{chunk_size_of}
use Rattle.gs_http.specs.declared.framing.Framing.{Framing}
use Rattle.gs_http.specs.declared.framing.Framing.TheVariants.{Bytes, Chunked}
use Rattle.gs_transfer.specs.Limits.{max_size_line_bytes, max_trailer_bytes}

-- where a trailer section stands: at the start of a line, after a CR there, within a line, after a CR in it
pub data TrailerPlace : Type 0 where
  Start : TrailerPlace
  StartCr : TrailerPlace
  Inside : TrailerPlace
  InsideCr : TrailerPlace

-- so many bytes are left; the line of a size so far, after so many bytes of data; so many bytes of a chunk's data are left
-- after so many; the CR and the LF after them are due; in the trailer section, after so many of its bytes; the body is over
pub data TransferState : Type 0 where
  Left : (n : ℕ) → TransferState
  SizeLine : (sum : ℕ) (line : List ℕ) → TransferState
  Data : (sum n : ℕ) → TransferState
  DataEnd : (sum : ℕ) → TransferState
  DataEndCr : (sum : ℕ) → TransferState
  Trailer : (place : TrailerPlace) (count : ℕ) → TransferState
  Over : TransferState

-- what a byte is: data of the body, or none, and where the reading stands after it; or it is a fault, with its status
pub data ByteStep : Type 0 where
  Gives : (next : TransferState) → ByteStep
  Passes : (next : TransferState) → ByteStep
  Fails : (status : ℕ) → ByteStep

-- after a size line: the chunk's data, or the trailer section
abbrev pub sized : ℕ → ℕ → Option ℕ → ByteStep
sized limit sum None = Fails 400
sized limit sum (Some zero) = Passes (Trailer Start 0)
sized limit sum (Some (suc n)) = if nat_lt limit (sum + suc n) then Fails 413 else Passes (Data (sum + suc n) (suc n))

-- one byte more of a size line
abbrev pub size_byte : ℕ → ℕ → List ℕ → ℕ → ByteStep
size_byte limit sum line c =
    if c == line_feed then sized limit sum (chunk_size_of (line ++ c ∷ []))
    else if nat_le max_size_line_bytes (length line + 1) then Fails 400
    else Passes (SizeLine sum (line ++ c ∷ []))

-- after a byte of a chunk's data
abbrev pub data_left : ℕ → ℕ → TransferState
data_left sum zero = DataEnd sum
data_left sum (suc n) = Data sum (suc n)

-- within a line, after a byte that does not end it
abbrev pub inside_place : ℕ → TrailerPlace
inside_place c = if c == carriage_return then InsideCr else Inside

-- where a trailer section stands after a byte that does not end it
abbrev pub trailer_place : TrailerPlace → ℕ → TrailerPlace
trailer_place Start c = if c == carriage_return then StartCr else Inside
trailer_place StartCr c = inside_place c
trailer_place Inside c = inside_place c
trailer_place InsideCr c = if c == line_feed then Start else inside_place c

-- one byte more of a trailer section, which may not be its last where it has too many
abbrev pub trailer_goes : TrailerPlace → ℕ → ByteStep
trailer_goes place count = if nat_le max_trailer_bytes count then Fails 400 else Passes (Trailer place count)

-- the LF of the empty line ends the body
abbrev pub trailer_byte : TrailerPlace → ℕ → ℕ → ByteStep
trailer_byte StartCr count c = if c == line_feed then Passes Over else trailer_goes (trailer_place StartCr c) (count + 1)
trailer_byte place count c = trailer_goes (trailer_place place c) (count + 1)

-- one byte of a body that is not over
abbrev pub step : ℕ → TransferState → ℕ → ByteStep
step limit (Left n) c = Gives (Left (n - 1))
step limit (SizeLine sum line) c = size_byte limit sum line c
step limit (Data sum n) c = Gives (data_left sum (n - 1))
step limit (DataEnd sum) c = if c == carriage_return then Passes (DataEndCr sum) else Fails 400
step limit (DataEndCr sum) c = if c == line_feed then Passes (SizeLine sum []) else Fails 400
step limit (Trailer place count) c = trailer_byte place count c
step limit Over c = Passes Over

-- where a body begins, by its framing; a framing that is refused announces none
abbrev pub start_state : Framing → TransferState
start_state (Bytes n) = Left n
start_state Chunked = SizeLine 0 []
start_state f = Over

-- What a place stands for.
use Rattle.std.specs.Prelude.{◌-◌, ◌<◌, ℕ, []}
use Rattle.gs_transfer.specs.Limits.{max_trailer_bytes}
use Rattle.gs_transfer.specs.States.{TransferState}
use Rattle.gs_transfer.specs.States as state
use Rattle.gs_transfer.specs.Trailers.{trailer_line_at}
use Rattle.gs_transfer.specs.declared.places.Place.{Place}
use Rattle.gs_transfer.specs.declared.places.Place.TheVariants as place

-- a place, after so many bytes of the chunks' data
abbrev pub state_at_place : ℕ → Place → TransferState
state_at_place sum (place.Left n) = state.Left n
state_at_place sum place.Size = state.SizeLine sum []
state_at_place sum (place.Data n) = state.Data sum n
state_at_place sum place.DataEnd = state.DataEnd sum
state_at_place sum place.DataEndCr = state.DataEndCr sum
state_at_place sum (place.Trailer at count) = state.Trailer (trailer_line_at at) count
state_at_place sum place.Over = state.Over

-- of how many bytes there is room: those left of a chunk's data, those that a trailer section may still have; else one
abbrev pub room_of : Place → ℕ
room_of (place.Data n) = n
room_of (place.Trailer at count) = max_trailer_bytes - count
room_of at = 1

-- there is room for a byte
abbrev pub HasByteRoom : Place → Type 0
HasByteRoom at = 0 < room_of at

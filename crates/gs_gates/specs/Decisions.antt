-- What is decided from times, in nanoseconds: whether a number of failures may be told, and whether a client was heard long enough.
use Rattle.std.specs.Prelude.{ℕ, ◌-◌, ◌^◌, Bool, true, ◌&&◌, ◌||◌, ◌==◌, nat_le, Option, Some, None, min, max}
use Rattle.std.specs.Time.{instant_nanos}
use Rattle.std.specs.declared.time.Instant.{Instant}
use Rattle.gs_gates.specs.Limits.{silence, linger_patience}

-- how long ago a count began, within 64 bits, and 1 at least, since 0 stands for no time; 1 where the clock could not be read
abbrev pub age : (start now : Option Instant) → ℕ
age (Some start) (Some now) = max (min (instant_nanos now - instant_nanos start) (2 ^ 64 - 1)) 1
age start now = 1

-- a number may be told now: none was told, for which 0 stands, or the last one a second ago or more
abbrev pub may_tell : (told now : ℕ) → Bool
may_tell told now = told == 0 || nat_le silence (now - told)

-- a client that still sends was heard for this whole time, or for a second while others wait; or the clock could not be read
abbrev pub was_heard : (start now : Option Instant) → (whole : ℕ) → (has_others : Bool) → Bool
was_heard (Some start) (Some now) whole has_others =
    let taken = instant_nanos now - instant_nanos start in
    nat_le whole taken || (nat_le linger_patience taken && has_others)
was_heard start now whole has_others = true

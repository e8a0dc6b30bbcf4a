-- What a decoder's fields mean.
use Rattle.std.specs.Prelude.{ℕ, ◌^◌}
use Rattle.gs_machine.specs.Utf8.{Decoding, Ready, Within, Lost}
use Rattle.gs_machine.specs.declared.decoder.Phase.{Phase}
use Rattle.gs_machine.specs.declared.decoder.Phase.TheVariants as phase
use Rattle.gs_machine.specs.declared.decoder.State.{State}

-- what a phase stands for, with the value so far and the bounds of the next byte
abbrev pub decoding : Phase → ℕ → ℕ → ℕ → Decoding
decoding phase.Between v low high = Ready
decoding phase.Last v low high = Within 0 v low high
decoding phase.TwoLeft v low high = Within 1 v low high
decoding phase.ThreeLeft v low high = Within 2 v low high
decoding phase.Lost v low high = Lost

-- what the fields stand for
abbrev pub decoding_of : State → Decoding
decoding_of s = decoding s.phase s.value s.low s.high

-- every value so far is below this
abbrev pub value_bound : Phase → ℕ
value_bound phase.Between = 2 ^ 25
value_bound phase.Last = 2 ^ 17
value_bound phase.TwoLeft = 2 ^ 10
value_bound phase.ThreeLeft = 8
value_bound phase.Lost = 2 ^ 25

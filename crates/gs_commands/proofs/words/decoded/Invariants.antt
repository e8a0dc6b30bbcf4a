use Rattle.std.proofs.Common.{◌≡◌, ◌-◌, map, drop}
use Rattle.std.specs.Int.Digits.{number_from_digits_after}
use Rattle.gs_model.specs.Texts.{number_of}
use Rattle.gs_commands.proofs.words.decoded.Given as goal

abbrev pub invariant-loop-b : goal.invariant-loop-b
invariant-loop-b l = number_of l.digits ≡ number_from_digits_after 10 l.value (map (λ d. d - 48) (drop l.b-index l.digits))

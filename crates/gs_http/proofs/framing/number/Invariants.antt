use Rattle.std.proofs.Common.{◌≡◌, take}
use Rattle.std.specs.Str.Parse.{digits_value}
use Rattle.gs_http.specs.Framing.{capped}
use Rattle.gs_http.proofs.framing.number.Given as goal

abbrev pub invariant-loop-c : goal.invariant-loop-c
invariant-loop-c l = l.n ≡ capped (digits_value 10 (take l.c-index l.value))

-- what is noted so far are guesses
use Rattle.std.specs.List.{All}
use Rattle.gs_staging.specs.Noted.{IsGuess}
use Rattle.gs_staging.proofs.keys.guesses.Given as goal

abbrev pub invariant-loop-together : goal.invariant-loop-together
invariant-loop-together l = All IsGuess l.noted.items

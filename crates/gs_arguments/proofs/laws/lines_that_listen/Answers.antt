use Rattle.std.proofs.Common.{refl}
use Rattle.clap.proofs.OnLiterals.{clap_on_literals}
use Rattle.gs_arguments.proofs.laws.lines_that_listen.Goals as goal

pub returns : goal.returns
unfolding clap_on_literals
returns c = record {
  address = refl;
  all = refl;
  least = refl;
}

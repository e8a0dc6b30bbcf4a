use Rattle.std.proofs.Common.{refl}
use Rattle.clap.proofs.OnLiterals.{clap_on_literals}
use Rattle.gs_arguments.proofs.laws.lines_that_are_bad.Goals as goal

pub returns : goal.returns
unfolding clap_on_literals
returns c = record {
  no_words = refl;
  no_name = refl;
  no_once = refl;
  twice = refl;
  piece_zero = refl;
  piece_over = refl;
  piece_text = refl;
  base_empty = refl;
  base_other = refl;
  unknown = refl;
  extra = refl;
  both = refl;
  no_address = refl;
  listen_twice = refl;
  workers_zero = refl;
  workers_over = refl;
  workers_text = refl;
  once_zero = refl;
  once_over = refl;
  once_text = refl;
  listen_base = refl;
}

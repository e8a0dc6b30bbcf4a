use Rattle.std.proofs.Common.{arith, codes}
use Rattle.clap.specs.Words.{found_of}
use Rattle.gs_arguments.proofs.NumberLemmas.{number_read}
use Rattle.gs_arguments.proofs.tasks.workers_of.Goals as goal

pub returns : goal.returns
returns c =
    number_read 16 256 (codes "workers") (omega arith) (found_of c.args.matches.now) c.get_one.result c.requires c.get_one.ensures.none c.get_one.ensures.value

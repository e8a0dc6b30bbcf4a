use Rattle.std.proofs.Common.{arith, map}
use Rattle.std.specs.Char.{to_ascii_lowercase}
use Rattle.std.proofs.lemmas.Grind.{common_steps}
use Rattle.gs_term.proofs.MakingLemmas.{suffix_tag}
use Rattle.gs_term.proofs.literals.push_tag.Goals as goal

pub returns : goal.returns
returns c =
    let t = suffix_tag (map to_ascii_lowercase c.args.tag.now) in
    rw t (grind (arith, common_steps))

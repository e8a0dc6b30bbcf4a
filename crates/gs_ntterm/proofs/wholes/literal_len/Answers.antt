use Rattle.std.proofs.Common.{arith}
use Rattle.gs_ntterm.specs.Wholes.{StringFront}
use Rattle.gs_ntterm.proofs.WholeLemmas.{plain_both, literal_text}
use Rattle.gs_ntterm.proofs.wholes.literal_len.Goals as goal

pub returns-in_default-2 : goal.returns-in_default-2
returns-in_default-2 c =
    let f : StringFront c.args.piece.now c.string_len-quoted.result = c.string_len-quoted.ensures (omega arith) in
    literal_text _ _ _ f.within (plain_both _ _ f (omega arith))

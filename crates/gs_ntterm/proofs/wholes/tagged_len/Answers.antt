use Rattle.std.proofs.Common.{List, ℕ, subst, arith}
use Rattle.std.proofs.lemmas.List.{take_rest}
use Rattle.gs_ntterm.specs.Wholes.{TagFront}
use Rattle.gs_ntterm.proofs.WholeLemmas.{tagged_both, literal_text, room}
use Rattle.gs_ntterm.proofs.wholes.tagged_len.Goals as goal

pub returns : goal.returns
returns c =
    let x = c.args.piece.now in
    let q = c.args.quoted in
    let n = c.tag_len-n.result in
    let tag = subst (λ (z : List ℕ). TagFront z n) (take_rest x q) (c.tag_len-n.ensures (omega arith)) in
    literal_text x _ _ (room x q c.requires n tag.within) (tagged_both x q c.requires n tag (omega arith))

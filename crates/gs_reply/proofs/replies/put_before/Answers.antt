use Rattle.std.proofs.Common.{◌∙◌, ap, ◌++◌}
use Rattle.gs_reply.proofs.DrainLemmas.{items_given}
use Rattle.gs_reply.proofs.replies.put_before.Goals as goal

pub returns : goal.returns
returns c =
    let all = c.in_ok-splice.ensures.items in
    let given = items_given all.1 all.0 all.3.1.0 all.3.0 all.3.1.1 all.3.1.2 ∙ all.2.0 in
    all.4 ∙ ap (λ l. l ++ c.args.piece.items) given

use Rattle.std.proofs.Common.{ap}
use Rattle.gs_ntread.proofs.LineTakes.{line_texts, line_added}
use Rattle.gs_ntread.proofs.numbers.push_line.Goals as goal

pub push_texts-requires : goal.push_texts-requires
push_texts-requires c =
    line_texts c.args.request c.args.numbering.now _ _ c.args.line c.in_ok-subject.subject c.in_ok-object.object _ _ c.requires c.in_ok-subject.ensures.node c.in_ok-object.ensures.node
    c.text_of.ensures c.text_of-2.ensures

pub returns-clause-ok : goal.returns-clause-ok
returns-clause-ok c =
    line_added c.args.request c.args.numbering.now _ _ c.args.line c.in_ok-subject.subject c.in_ok-object.object _ _ c.requires c.in_ok-subject.ensures.node c.in_ok-object.ensures.node
    c.text_of.ensures c.text_of-2.ensures _ _ (ap (λ z. z.items) c.in_ok-push_texts.ensures.added)

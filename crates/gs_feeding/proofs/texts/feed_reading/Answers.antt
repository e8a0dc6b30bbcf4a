use Rattle.std.proofs.Common.{[], cond, sym, ap, ◌∙◌, Bool}
use Rattle.gs_triple_lists.specs.Lists.{Listed}
use Rattle.gs_feeding.proofs.TextLemmas.{fed_pieces}
use Rattle.gs_feeding.proofs.texts.feed_reading.Goals as goal

pub returns-then-has_fault : goal.returns-then-has_fault
returns-then-has_fault c =
    let fed = c.feed_pieces.new.triples.items in
    fed_pieces c.args.reading.now c.feed_pieces.new.self c.args.text.now c.args.cut c.new-triples.result.items fed c.new.result.items (ap (λ (l : Listed). l.items) c.new-triples.ensures)
    c.in_ok-feed_pieces.ensures.pieces c.in_ok-feed_pieces.ensures.given (ap (λ (l : Listed). l.items) c.new.ensures ∙ ap (λ (b : Bool). cond b [] fed) (sym c.if-has_fault.true ∙ c.has_fault.ensures))

pub returns : goal.returns
returns c =
    let fed = c.feed_pieces.new.triples.items in
    fed_pieces c.args.reading.now c.feed_pieces.new.self c.args.text.now c.args.cut c.new-triples.result.items fed fed (ap (λ (l : Listed). l.items) c.new-triples.ensures)
    c.in_ok-feed_pieces.ensures.pieces c.in_ok-feed_pieces.ensures.given (ap (λ (b : Bool). cond b [] fed) (sym c.if-has_fault.false ∙ c.has_fault.ensures))

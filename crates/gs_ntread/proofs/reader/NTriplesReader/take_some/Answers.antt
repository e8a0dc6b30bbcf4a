use Rattle.std.proofs.Common.{◌≡◌, take, ◌∙◌, arith}
use Rattle.gs_ntread.specs.Readers.{TakesEach}
use Rattle.gs_ntread.proofs.Takes.{on_err, if_ok, took-after, took-nothing}
use Rattle.gs_ntread.proofs.reader.NTriplesReader.take_some.Goals as goal

pub returns-clause-ok : goal.returns-clause-ok
returns-clause-ok c =
    let x = c.args.piece.now in
    let s = c.args.self.now in
    let l = c.take_line.new.self in
    let b = c.take_part.new.self in
    let ts = c.args.triples.now.items in
    let us = c.take_line.new.triples.items in
    let vs = c.take_part.new.triples.items in
    if_ok c.take_part.result (λ n. TakesEach l b us vs (take n x)) (λ n. TakesEach s b ts vs (take n x))
    (λ n h. took-after s l b ts us vs x c.in_ok-count.count n (omega (arith, c.if-count-gt0.false)) c.in_ok-count.ensures.ok h) c.take_part.ensures.ok

pub returns-clause-err : goal.returns-clause-err
returns-clause-err c =
    let ts = c.args.triples.now.items in
    let us = c.take_line.new.triples.items in
    let vs = c.take_part.new.triples.items in
    let same : us ≡ ts = took-nothing c.args.self.now c.take_line.new.self ts us c.args.piece.now c.in_ok-count.count (omega (arith, c.if-count-gt0.false)) c.in_ok-count.ensures.ok in
    on_err c.take_part.result (vs ≡ us) (vs ≡ ts) (λ e. e ∙ same) c.take_part.ensures.err

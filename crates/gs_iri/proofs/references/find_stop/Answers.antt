use Rattle.std.proofs.Common.{◌≡◌, ◌∙◌, sym, arith, length}
use Rattle.std.proofs.lemmas.List.Sums.{position_or_len_is}
use Rattle.gs_iri.specs.References.{is_one_of}
use Rattle.gs_iri.proofs.references.find_stop.Goals as goal

pub returns-then-contains-clause-place : goal.returns-then-contains-clause-place
returns-then-contains-clause-place c =
    sym (position_or_len_is (is_one_of c.args.stops.now) c.args.bytes.now c.loop-i.i 0 c.loop-i.auto.i-end c.loop-i.invariant (λ _. sym c.contains.ensures.value ∙ c.if-contains.true))

pub returns-clause-place : goal.returns-clause-place
returns-clause-place c =
    let whole : length c.args.bytes.now ≡ c.loop-i.i = omega arith in
    whole ∙ sym (position_or_len_is (is_one_of c.args.stops.now) c.args.bytes.now c.loop-i.i 0 c.loop-i.auto.i-end c.loop-i.invariant (λ l. absurd (omega arith)))

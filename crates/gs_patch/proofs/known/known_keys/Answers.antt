use Rattle.std.proofs.Common.{◌+◌, take, subst, sym}
use Rattle.gs_triple_lists.specs.declared.lists.TripleNumbers.{TripleNumbers}
use Rattle.gs_patch.specs.Known.{AreFound, AreKnown}
use Rattle.gs_patch.proofs.KnownLemmas.{known_next, unknown_next}
use Rattle.gs_patch.proofs.known.known_keys.Goals as goal

-- what stands in the place of three numbers past the end of a list
abbrev none : TripleNumbers
none = record { subject = 0; predicate = 0; object = 0 }

pub loop-three-preserved-in_default : goal.loop-three-preserved-in_default
loop-three-preserved-in_default c =
    let terms = c.args.dict.now.terms in
    let us = c.parts.result.0.now in
    let all = subst (AreFound terms us) (sym c.as_slice.ensures.value) c.in_ok-ids.ensures in
    unknown_next terms us c.as_slice.result.now c.parts.result.1.now c.args.triples.now.items all c.parts.ensures.known c.parts.ensures.triples c.loop-three.three-index none c.loop-three-test.true c.loop-three.keys.items c.loop-three.invariant
    c.in_default.ensures

pub loop-three-preserved : goal.loop-three-preserved
loop-three-preserved c =
    let terms = c.args.dict.now.terms in
    let us = c.parts.result.0.now in
    let ts = c.args.triples.now.items in
    let i = c.loop-three.three-index in
    let all = subst (AreFound terms us) (sym c.as_slice.ensures.value) c.in_ok-ids.ensures in
    subst (AreKnown terms (take (i + 1) ts)) (sym c.in_ok-push.ensures.items)
    (known_next terms us c.as_slice.result.now c.parts.result.1.now ts all c.parts.ensures.known c.parts.ensures.triples i none c.loop-three-test.true c.loop-three.keys.items c.loop-three.invariant c.in-Some.key c.in-Some.ensures)

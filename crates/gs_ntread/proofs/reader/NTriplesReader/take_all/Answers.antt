use Rattle.std.proofs.Common.{refl, arith, length-drop}
use Rattle.std.proofs.lemmas.List.{take_rest}
use Rattle.gs_machine.proofs.MachineLemmas.{steps-nil}
use Rattle.gs_ntread.proofs.Takes.{took-none, took-on}
use Rattle.gs_ntread.proofs.reader.NTriplesReader.take_all.Goals as goal

pub loop-at-init : goal.loop-at-init
loop-at-init c = record { within = omega arith; taken = took-none c.args.self.now c.args.self.now c.args.triples.now.items _ (steps-nil _ _) refl refl refl }

pub loop-at-preserved : goal.loop-at-preserved
loop-at-preserved c =
    let x = c.args.piece.now in
    let at = c.loop-at.at in
    let bound = rw (take_rest x at) at c.in_ok-at.ensures.bound in
    let took = rw (take_rest x at) at c.in_ok-at.ensures.ok in
    record {
      within = omega (arith, bound.1, length-drop at x);
      taken = took-on c.args.self.now c.loop-at.self c.take_some.new.self _ _ _ x at c.in_ok-at.field-0 c.loop-at.invariant.taken took;
    }

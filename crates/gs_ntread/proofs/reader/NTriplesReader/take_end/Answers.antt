use Rattle.std.proofs.Common.{[], sym, subst, ◌∙◌}
use Rattle.gs_machine.specs.Machines.{rest}
use Rattle.gs_body.specs.Bodies.{Meaning}
use Rattle.gs_ntread.specs.Reader.{stating, ntriples}
use Rattle.gs_ntread.specs.Readers.{EndsWell, FaultyEnd, led_of, Sound}
use Rattle.gs_ntread.proofs.Whole.{ready_end}
use Rattle.gs_ntread.proofs.Takes.{on_ok, if_err}
use Rattle.gs_ntread.proofs.reader.NTriplesReader.take_end.Goals as goal

pub returns-then-is_ready-clause-ok : goal.returns-then-is_ready-clause-ok
returns-then-is_ready-clause-ok c =
    let s = c.args.self.now in
    let e = ready_end s.request s.decoder (led_of s).1 (sym c.is_ready.ensures ∙ c.if-is_ready.true) in
    on_ok c.end_between.result _ _ (subst (λ (t : Meaning). EndsWell c.args.triples.now.items c.end_between.new.triples.items t) (sym e)) c.end_between.ensures.ok

pub returns-then-is_ready-clause-fault : goal.returns-then-is_ready-clause-fault
returns-then-is_ready-clause-fault c =
    let s = c.args.self.now in
    let e = ready_end s.request s.decoder (led_of s).1 (sym c.is_ready.ensures ∙ c.if-is_ready.true) in
    if_err c.end_between.result (λ r. FaultyEnd r s.last (rest (stating s.request) (led_of s).1.1 [])) (λ r. Sound (led_of s) → FaultyEnd r s.last (rest (ntriples s.request) (led_of s) []))
    (λ r h sound. subst (λ (t : Meaning). FaultyEnd r s.last t) (sym e) h) c.end_between.ensures.fault

use Rattle.std.proofs.Common.{sym, subst}
use Rattle.gs_machine.specs.Utf8.{bad}
use Rattle.gs_body.specs.Bodies.{Meaning}
use Rattle.gs_ntread.specs.Reader.{placing}
use Rattle.gs_ntread.specs.Readers.{FaultyEnd, led_of}
use Rattle.gs_ntread.proofs.Takes.{broken-end, bad-end, unready}
use Rattle.gs_ntread.proofs.reader.NTriplesReader.end_within.Goals as goal

pub returns-in-Some-clause-fault : goal.returns-in-Some-clause-fault
returns-in-Some-clause-fault c = λ sound. broken-end c.in-Some.refusal c.args.self.now c.in-Some.ensures.some

pub returns-in-Some-fault-clause-fault : goal.returns-in-Some-fault-clause-fault
returns-in-Some-fault-clause-fault c = λ sound.
    let s = c.args.self.now in
    subst (λ (t : Meaning). FaultyEnd c.in-Some-fault.refusal s.last t) (sym (unready s.request s.decoder (led_of s).1 c.requires (λ e. c.in-None.ensures.none (sound e))))
    (bad-end c.in-Some-fault.refusal s c.character.new.self _ _ ((placing s.request).step (led_of s).1 bad) c.in_ok-character.ensures.ok c.in-Some-fault.ensures.some)

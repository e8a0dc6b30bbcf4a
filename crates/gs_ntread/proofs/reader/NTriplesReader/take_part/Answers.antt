use Rattle.std.proofs.Common.{◌≡◌, ℕ, [], sym, ap, subst, ◌∙◌, arith}
use Rattle.std.specs.Prelude.{Option}
use Rattle.gs_machine.proofs.MachineLemmas.{steps-nil}
use Rattle.gs_ntread.specs.Reader.{Led}
use Rattle.gs_ntread.specs.Readers.{CompletesTriple, TakesParts, led_of}
use Rattle.gs_ntread.specs.declared.parts.Parts.{Parts}
use Rattle.gs_ntread.proofs.Takes.{took-none, took-from, took-more, took-after}
use Rattle.gs_ntread.proofs.reader.NTriplesReader.take_part.Goals as goal

pub returns-then-count-gt0-clause-ok : goal.returns-then-count-gt0-clause-ok
returns-then-count-gt0-clause-ok c = c.in_ok-count.ensures.ok c.args.triples.now.items

pub returns-in_ok-step-in-None-clause-ok : goal.returns-in_ok-step-in-None-clause-ok
returns-in_ok-step-in-None-clause-ok c =
    let x = c.args.piece.now in
    let s = c.args.self.now in
    let r = c.take_run.new.self in
    let o = c.take_object.new.self in
    let ts = c.args.triples.now.items in
    let kept = c.in_ok-take_object.ensures in
    let same : led_of o ≡ led_of r = subst (λ (w : Option (Parts × ℕ)). TakesParts r o x w) c.in-None.is kept.ok in
    took-after s r _ ts ts _ x c.in_ok-count.count 1 (omega (arith, c.if-count-gt0.false)) (c.in_ok-count.ensures.ok ts)
    (took-more r o _ _ _ _ x 0 (omega arith) (took-none r o ts _ (steps-nil _ _ ∙ ap (λ (l : Led). (l, [])) (sym same)) kept.last kept.request kept.closed) c.in_ok-step-in-None.ensures.ok)

pub returns-in_ok-give-in-Some-clause-ok : goal.returns-in_ok-give-in-Some-clause-ok
returns-in_ok-give-in-Some-clause-ok c =
    let x = c.args.piece.now in
    let s = c.args.self.now in
    let r = c.take_run.new.self in
    let o = c.take_object.new.self in
    let ts = c.args.triples.now.items in
    let n = c.in-Some.n in
    let kept = c.in_ok-take_object.ensures in
    let whole : CompletesTriple r o x c.in-Some.parts n = subst (λ (w : Option (Parts × ℕ)). TakesParts r o x w) c.in-Some.is kept.ok in
    took-after s r _ ts ts _ x c.in_ok-count.count n (omega (arith, c.if-count-gt0.false)) (c.in_ok-count.ensures.ok ts)
    (took-from r o _ ts _ _ _ kept.last kept.request kept.closed whole.led c.in_ok-give-in-Some.ensures.ok)

use Rattle.std.proofs.Common.{◌≡◌, ◌+◌, ℕ, [], refl, sym, ap, ◌∙◌, length, take, arith}
use Rattle.std.proofs.lemmas.List.{length-take-le}
use Rattle.gs_machine.specs.Machines.{steps}
use Rattle.gs_machine.specs.Utf8.{Decoding, Ready}
use Rattle.gs_machine.proofs.MachineLemmas.{steps-nil}
use Rattle.gs_ntterm.specs.Marks.{counted}
use Rattle.gs_ntread.specs.States.{LineState}
use Rattle.gs_ntread.specs.Reader.{ntriples}
use Rattle.gs_ntread.specs.Views.{cursor_state}
use Rattle.gs_ntread.proofs.RunLemmas.{ran, ready_is}
use Rattle.gs_ntread.proofs.Takes.{took-none}
use Rattle.gs_ntread.proofs.reader.NTriplesReader.take_run.Goals as goal

pub returns-then-not-is_ready-clause-ok : goal.returns-then-not-is_ready-clause-ok
returns-then-not-is_ready-clause-ok c = λ ts. took-none c.args.self.now _ ts _ (steps-nil _ _) refl refl refl

pub returns-clause-ok : goal.returns-clause-ok
returns-clause-ok c = λ ts.
    let s = c.args.self.now in
    let xs = take c.in_ok-count.count c.args.piece.now in
    let q : LineState = cursor_state s.cursor in
    let q2 : LineState = cursor_state c.take_run.new.self in
    let d : s.decoder ≡ Ready = ready_is s.decoder (sym c.is_ready.ensures ∙ c.if-not-is_ready.false) in
    let n : c.saturating_add-self.result ≡ counted (s.read + length xs) = c.saturating_add-self.ensures ∙ ap (λ k. counted (s.read + k)) (sym (length-take-le _ c.args.piece.now c.in_ok-count.ensures.bound)) in
    took-none s _ ts _
    (ap (λ (u : Decoding). steps (ntriples s.request) (u, (s.read, (q, s.numbering))) xs) d
    ∙ ran s.request s.read q q2 s.numbering xs c.in_ok-count.ensures.run (omega arith)
    ∙ ap (λ (u : Decoding). ((u, (counted (s.read + length xs), (q2, s.numbering))), [])) (sym d)
    ∙ ap (λ (k : ℕ). ((s.decoder, (k, (q2, s.numbering))), [])) (sym n))
    refl refl refl

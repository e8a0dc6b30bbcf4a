use Rattle.std.proofs.Common.{◌≡◌, ◌+◌, ℕ, [], length, take, refl, sym, ap, subst, ◌∙◌, arith}
use Rattle.std.proofs.lemmas.List.{length-take-le}
use Rattle.gs_machine.specs.Machines.{steps}
use Rattle.gs_machine.specs.Utf8.{Decoding, Ready}
use Rattle.gs_machine.proofs.MachineLemmas.{steps-nil}
use Rattle.gs_ntterm.specs.Marks.{counted}
use Rattle.gs_ntread.specs.LineFronts.{TakesFed, TakesAtLine}
use Rattle.gs_ntread.specs.declared.lines.Taken.TheVariants.{Begun}
use Rattle.gs_ntread.specs.Reader.{ntriples}
use Rattle.gs_ntread.specs.States.{LineState}
use Rattle.gs_ntread.specs.Views.{cursor_state}
use Rattle.gs_ntread.proofs.RunLemmas.{ran, ready_is}
use Rattle.gs_ntread.proofs.Takes.{took-none}
use Rattle.gs_ntread.proofs.LineTakes.{took-line}
use Rattle.gs_ntread.proofs.reader.NTriplesReader.take_line.Goals as goal

pub returns-then-not-is_ready-clause-ok : goal.returns-then-not-is_ready-clause-ok
returns-then-not-is_ready-clause-ok c = took-none c.args.self.now _ c.args.triples.now.items _ (steps-nil _ _) refl refl refl

pub returns-in-Nothing-clause-ok : goal.returns-in-Nothing-clause-ok
returns-in-Nothing-clause-ok c =
    let s = c.args.self.now in
    let x = c.args.piece.now in
    let same : cursor_state c.take_line.new.self ≡ cursor_state s.cursor = subst (TakesAtLine s.cursor c.take_line.new.self x) c.in-Nothing.is c.in_ok-take_line.ensures in
    took-none s _ c.args.triples.now.items _ (steps-nil _ _ ∙ ap (λ (q : LineState). ((s.decoder, (s.read, (q, s.numbering))), [])) (sym same)) refl refl refl

pub returns-in-Begun-clause-ok : goal.returns-in-Begun-clause-ok
returns-in-Begun-clause-ok c =
    let s = c.args.self.now in
    let x = c.args.piece.now in
    let n = c.in-Begun.n in
    let xs = take n x in
    let q : LineState = cursor_state s.cursor in
    let q2 : LineState = cursor_state c.take_line.new.self in
    let d : s.decoder ≡ Ready = ready_is s.decoder (sym c.is_ready.ensures ∙ c.if-not-is_ready.false) in
    let taken : TakesAtLine s.cursor c.take_line.new.self x (Begun n) = subst (TakesAtLine s.cursor c.take_line.new.self x) c.in-Begun.is c.in_ok-take_line.ensures in
    let k : c.saturating_add-self.result ≡ counted (s.read + length xs) = c.saturating_add-self.ensures ∙ ap (λ m. counted (s.read + m)) (sym (length-take-le n x taken.0)) in
    took-none s _ c.args.triples.now.items _
    (ap (λ (u : Decoding). steps (ntriples s.request) (u, (s.read, (q, s.numbering))) xs) d
    ∙ ran s.request s.read q q2 s.numbering xs taken.1 (omega arith)
    ∙ ap (λ (u : Decoding). ((u, (counted (s.read + length xs), (q2, s.numbering))), [])) (sym d)
    ∙ ap (λ (m : ℕ). ((s.decoder, (m, (q2, s.numbering))), [])) (sym k))
    refl refl refl

pub returns-in_ok-push_line-in-Line-clause-ok : goal.returns-in_ok-push_line-in-Line-clause-ok
returns-in_ok-push_line-in-Line-clause-ok c =
    let s = c.args.self.now in
    let l = c.in-Line.line in
    let feed = c.in-Line.feed in
    let d : s.decoder ≡ Ready = ready_is s.decoder (sym c.is_ready.ensures ∙ c.if-not-is_ready.false) in
    let fed : TakesFed s.cursor c.take_line.new.self c.args.piece.now l feed = subst (TakesAtLine s.cursor c.take_line.new.self c.args.piece.now) c.in-Line.is c.in_ok-take_line.ensures in
    let read : c.saturating_add-self-in-Line.result ≡ counted (counted (s.read + l.len) + feed) = c.saturating_add-self-in-Line.ensures ∙ ap (λ (z : ℕ). counted (z + feed)) c.saturating_add-end.ensures in
    took-line s _ c.args.triples.now.items _ c.args.piece.now l feed d (omega arith) fed c.in_ok-push_line-in-Line.ensures.ok refl read c.saturating_add-end.ensures refl refl

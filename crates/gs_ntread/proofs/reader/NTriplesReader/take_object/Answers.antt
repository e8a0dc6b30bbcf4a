use Rattle.std.proofs.Common.{◌≡◌, ◌+◌, ℕ, sym, ap, subst, ◌∙◌, length, take, arith}
use Rattle.std.specs.Prelude.{Option}
use Rattle.std.proofs.lemmas.List.{length-take-le}
use Rattle.gs_machine.specs.Machines.{steps}
use Rattle.gs_machine.specs.Utf8.{Decoding, Ready}
use Rattle.gs_ntterm.specs.Marks.{counted}
use Rattle.gs_ntread.specs.Clauses.{TakesObject}
use Rattle.gs_ntread.specs.Documents.{line_stated}
use Rattle.gs_ntread.specs.Reader.{ntriples}
use Rattle.gs_ntread.specs.States.{LineState}
use Rattle.gs_ntread.specs.Views.{cursor_state, sentence_of}
use Rattle.gs_ntread.specs.Wholes.{EndsFront, EndsIn}
use Rattle.gs_ntread.specs.declared.parts.Parts.{Parts}
use Rattle.gs_ntread.proofs.RunLemmas.{ready_is}
use Rattle.gs_ntread.proofs.WholeRuns.{ended}
use Rattle.gs_ntread.proofs.reader.NTriplesReader.take_object.Goals as goal

pub returns-in-Some-clause-ok : goal.returns-in-Some-clause-ok
returns-in-Some-clause-ok c =
    let s = c.args.self.now in
    let x = c.args.piece.now in
    let n = c.in-Some.n in
    let xs = take n x in
    let q : LineState = cursor_state s.cursor in
    let q2 : LineState = cursor_state c.take_object.new.self in
    let w = sentence_of c.in-Some.parts in
    let u = line_stated s.request s.numbering w in
    let d : s.decoder ≡ Ready = ready_is s.decoder (sym c.is_ready.ensures ∙ c.if-not-is_ready.false) in
    let f : EndsFront q x s.read n q2 w = subst (λ (o : Option (Parts × ℕ)). TakesObject s.cursor c.take_object.new.self x s.read o) c.in-Some.is c.in_ok-take_object.ensures in
    let k : counted (s.read + n) ≡ counted (s.read + length xs) = ap (λ z. counted (s.read + z)) (sym (length-take-le n x f.within)) in
    record {
      some = f.some;
      within = f.within;
      led =
          ap (λ (v : Decoding). steps (ntriples s.request) (v, (s.read, (q, s.numbering))) xs) d
          ∙ ended s.request s.read q q2 s.numbering xs w (subst (λ (z : ℕ). EndsIn q xs z q2 w) k f.ends) (omega arith)
          ∙ ap (λ (v : Decoding). ((v, (counted (s.read + length xs), (q2, u.0))), u.1)) (sym d)
          ∙ ap (λ (z : ℕ). ((s.decoder, (z, (q2, u.0))), u.1)) (sym (f.ends.ends ∙ k));
    }

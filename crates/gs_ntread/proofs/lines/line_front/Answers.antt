use Rattle.std.proofs.Common.{ℕ, List, length-drop, subst, arith}
use Rattle.std.proofs.lemmas.List.{take_rest}
use Rattle.gs_model.specs.Texts.{term_of}
use Rattle.gs_ntread.specs.States.{AtSubject, AtEnd, Between, sentence}
use Rattle.gs_ntread.specs.LineFronts.{ObjectFront, written_term, begun_state}
use Rattle.gs_ntread.proofs.LineRuns.{ends_more}
use Rattle.gs_ntread.proofs.lines.line_front.Goals as goal

pub returns : goal.returns
returns c =
    let x = c.args.piece.now in
    let b = c.args.begun in
    let o = c.in_ok-object.object in
    let m = c.in_ok-object.n in
    let f = c.requires in
    let s = written_term b.subject in
    let p = term_of b.predicate.now in
    let object = subst (λ (z : List ℕ). ObjectFront z o m) (take_rest x b.len) c.in_ok-object.ensures in
    record {
      line = record { begun = f.begun; object = object.is };
      some = omega (arith, object.front.some);
      within = omega (arith, f.within, object.front.within, length-drop b.len x);
      ends = λ end. ends_more (AtSubject, Between) (begun_state b.subject b.predicate.now) (AtEnd, Between) x b.len m end (sentence s p (written_term o) end) f.run (object.front.ends s p end);
    }

use Rattle.std.proofs.Common.{◌≡◌, ℕ, refl, sym, ap, ◌∙◌, List, [], ◌∷◌}
use Rattle.gs_body.specs.Bodies.{Statement}
use Rattle.gs_ntterm.specs.Marks.{char_end}
use Rattle.gs_ntread.specs.Documents.{line_stated}
use Rattle.gs_ntread.specs.States.{LineState}
use Rattle.gs_ntread.specs.Transitions.{transition}
use Rattle.gs_ntread.specs.Views.{cursor_state, sentences_of, sentence_of}
use Rattle.gs_ntread.proofs.Whole.{Placed, character-none, character-some}
use Rattle.gs_ntread.proofs.Takes.{on_ok, took-none, took-from}
use Rattle.gs_ntread.proofs.reader.NTriplesReader.character.Goals as goal

pub returns-in-None-clause-ok : goal.returns-in-None-clause-ok
returns-in-None-clause-ok c =
    let s = c.args.self.now in
    let q : LineState = cursor_state s.cursor in
    let q2 : LineState = cursor_state c.take.new.self in
    let n = c.end_after_char-self.ensures in
    let e : (q2, []) ≡ transition q.0 q.1 c.args.c (char_end s.read c.args.c) =
    ap (λ o. (q2, sentences_of o)) (sym c.in-None.is) ∙ c.in_ok-take.ensures ∙ ap (transition q.0 q.1 c.args.c) n in
    took-none s _ c.args.triples.now.items _
    (ap (λ (u : Placed × List Statement). ((s.decoder, u.0), u.1)) (character-none s.request s.read q q2 s.numbering c.args.c e) ∙ ap (λ (k : ℕ). ((s.decoder, (k, (q2, s.numbering))), [])) (sym n))
    refl refl refl

pub returns-in-Some-clause-ok : goal.returns-in-Some-clause-ok
returns-in-Some-clause-ok c =
    let s = c.args.self.now in
    let q : LineState = cursor_state s.cursor in
    let q2 : LineState = cursor_state c.take.new.self in
    let n = c.end_after_char-self.ensures in
    let w = sentence_of c.in-Some.parts in
    let e : (q2, w ∷ []) ≡ transition q.0 q.1 c.args.c (char_end s.read c.args.c) =
    ap (λ o. (q2, sentences_of o)) (sym c.in-Some.is) ∙ c.in_ok-take.ensures ∙ ap (transition q.0 q.1 c.args.c) n in
    on_ok c.give.result _ _
    (took-from s _ c.give.new.self c.args.triples.now.items c.give.new.triples.items _ _ refl refl refl
    (ap (λ (u : Placed × List Statement). ((s.decoder, u.0), u.1)) (character-some s.request s.read q q2 s.numbering c.args.c w e) ∙ ap (λ (k : ℕ). ((s.decoder, (k, (q2, (line_stated s.request s.numbering w).0))), (line_stated s.request s.numbering w).1)) (sym n)))
    c.give.ensures.ok

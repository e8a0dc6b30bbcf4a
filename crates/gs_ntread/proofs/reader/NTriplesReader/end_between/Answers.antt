use Rattle.std.proofs.Common.{◌≡◌, [], ◌++◌, sym, ap, ◌∙◌, append-nil}
use Rattle.gs_machine.specs.Machines.{rest}
use Rattle.gs_body.specs.Bodies.{Ending, Whole, Meaning, all_stated, end_after}
use Rattle.gs_ntread.specs.Documents.{line_stated}
use Rattle.gs_ntread.specs.States.{LineState}
use Rattle.gs_ntread.specs.Reader.{stating}
use Rattle.gs_ntread.specs.Readers.{EndsWell, FaultyEnd, ConcludesAs}
use Rattle.gs_ntread.specs.Views.{cursor_state, sentences_of, ending_of, sentence_of}
use Rattle.gs_ntread.proofs.Whole.{end-none, end-some}
use Rattle.gs_ntread.proofs.Takes.{on_ok, if_err, concluded}
use Rattle.gs_ntread.proofs.reader.NTriplesReader.end_between.Goals as goal

pub returns-in-None-clause-ok : goal.returns-in-None-clause-ok
returns-in-None-clause-ok c =
    let s = c.args.self.now in
    let ts = c.args.triples.now.items in
    let q : LineState = cursor_state s.cursor in
    let f : Ending = ending_of c.in_ok-parts.end in
    let e : rest (stating s.request) (q, s.numbering) [] ≡ ([], f) = end-none s.request q s.numbering f (ap (λ o. (sentences_of o, f)) (sym c.in-None.is) ∙ c.in_ok-parts.ensures) in
    on_ok c.conclude.result (f ≡ Whole) (EndsWell ts ts (rest (stating s.request) (q, s.numbering) []))
    (λ w. record { whole = ap (λ (t : Meaning). t.1) e ∙ w; given = sym (append-nil ts) ∙ ap (λ (t : Meaning). ts ++ all_stated t.0) (sym e) }) c.conclude.ensures.ok

pub returns-in-None-clause-fault : goal.returns-in-None-clause-fault
returns-in-None-clause-fault c =
    let s = c.args.self.now in
    let q : LineState = cursor_state s.cursor in
    let f : Ending = ending_of c.in_ok-parts.end in
    let e : rest (stating s.request) (q, s.numbering) [] ≡ ([], f) = end-none s.request q s.numbering f (ap (λ o. (sentences_of o, f)) (sym c.in-None.is) ∙ c.in_ok-parts.ensures) in
    if_err c.conclude.result (λ r. ConcludesAs r s.last f) (λ r. FaultyEnd r s.last (rest (stating s.request) (q, s.numbering) []))
    (λ r h. concluded r s.last s.last f (rest (stating s.request) (q, s.numbering) []) (ap (λ (t : Meaning). t.1) e) (ap (λ (t : Meaning). end_after s.last t.0) (sym e)) h) c.conclude.ensures.fault

pub returns-in_ok-give-in-Some-clause-ok : goal.returns-in_ok-give-in-Some-clause-ok
returns-in_ok-give-in-Some-clause-ok c =
    let s = c.args.self.now in
    let ts = c.args.triples.now.items in
    let q : LineState = cursor_state s.cursor in
    let f : Ending = ending_of c.in_ok-parts.end in
    let w = sentence_of c.in-Some.parts in
    let e : rest (stating s.request) (q, s.numbering) [] ≡ ((line_stated s.request s.numbering w).1, f) = end-some s.request q s.numbering f w (ap (λ o. (sentences_of o, f)) (sym c.in-Some.is) ∙ c.in_ok-parts.ensures) in
    on_ok c.conclude-in-Some.result (f ≡ Whole) (EndsWell ts c.give.new.triples.items (rest (stating s.request) (q, s.numbering) []))
    (λ k. record { whole = ap (λ (t : Meaning). t.1) e ∙ k; given = c.in_ok-give-in-Some.ensures.ok.given ∙ ap (λ (t : Meaning). ts ++ all_stated t.0) (sym e) }) c.conclude-in-Some.ensures.ok

pub returns-in_ok-give-in-Some-clause-fault : goal.returns-in_ok-give-in-Some-clause-fault
returns-in_ok-give-in-Some-clause-fault c =
    let s = c.args.self.now in
    let q : LineState = cursor_state s.cursor in
    let f : Ending = ending_of c.in_ok-parts.end in
    let w = sentence_of c.in-Some.parts in
    let e : rest (stating s.request) (q, s.numbering) [] ≡ ((line_stated s.request s.numbering w).1, f) = end-some s.request q s.numbering f w (ap (λ o. (sentences_of o, f)) (sym c.in-Some.is) ∙ c.in_ok-parts.ensures) in
    if_err c.conclude-in-Some.result (λ r. ConcludesAs r c.give.new.self.last f) (λ r. FaultyEnd r s.last (rest (stating s.request) (q, s.numbering) []))
    (λ r h. concluded r s.last c.give.new.self.last f (rest (stating s.request) (q, s.numbering) []) (ap (λ (t : Meaning). t.1) e) (c.in_ok-give-in-Some.ensures.ok.last ∙ ap (λ (t : Meaning). end_after s.last t.0) (sym e)) h) c.conclude-in-Some.ensures.fault

-- A statement that stands whole is added to a list, and a reader goes over it.
use Rattle.std.proofs.Common.{◌≡◌, ℕ, ◌+◌, ◌≤◌, ◌^◌, ◌-◌, true, List, [], ◌∷◌, ◌++◌, take, refl, sym, ap, ap₂, subst, ◌∙◌}
use Rattle.std.specs.Prelude.{◌&&◌, Option, Some, None}
use Rattle.gs_model.specs.Terms.{Term, Iri, Blank, Literal, text_of, IsTerm}
use Rattle.gs_model.specs.Texts.{IsCanonical}
use Rattle.gs_model.specs.Texts as text
use Rattle.gs_model.specs.Triples.{RdfTriple, is_iri, is_subject}
use Rattle.gs_machine.specs.Machines.{steps}
use Rattle.gs_machine.specs.Utf8.{Decoding, Ready}
use Rattle.gs_body.specs.Bodies.{Statement, all_stated, end_after}
use Rattle.gs_blank.specs.Numbers.{Numbers}
use Rattle.gs_term.proofs.MakingLemmas.{term_of-bytes}
use Rattle.gs_triple_lists.specs.Texts.{triple_of_texts, AreTexts}
use Rattle.gs_ntterm.specs.Marks.{counted}
use Rattle.gs_ntread.specs.Documents.{term_of, line_stated, one_statement}
use Rattle.gs_ntread.specs.LineFronts.{written_term, IsWrittenLine, IsWritten, MayBeSubject, line_triple, TakesFed, AnswersNode, IsTextAsWritten, AddsLine}
use Rattle.gs_ntread.specs.Reader.{Led, ntriples}
use Rattle.gs_ntread.specs.Readers.{led_of, Advances}
use Rattle.gs_ntread.specs.States.{LineState, AtSubject, Between}
use Rattle.gs_ntread.specs.Views.{cursor_state}
use Rattle.gs_ntread.specs.declared.lines.Written.{Written}
use Rattle.gs_ntread.specs.declared.lines.Written.TheVariants as written
use Rattle.gs_ntread.specs.declared.lines.Line.{Line}
use Rattle.gs_ntread.specs.declared.reader.NTriplesReader.{NTriplesReader}
use Rattle.gs_ntread.proofs.LineRuns.{line_taken}

-- the text of a blank node
pub node_text : (t : Term) (bytes : List ℕ) → bytes ≡ text_of t → IsTerm t → IsCanonical bytes × (text.term_of bytes ≡ t)
node_text t bytes e v =
    let same = term_of-bytes t bytes e in
    (record { canonical = ap text_of same ∙ sym e; valid = subst (λ (u : Term). IsTerm u) (sym same) v }, same)

-- the text of a term that is written so
pub written_text : (r : ℕ) (old new : Numbers) (w : Written) (o : Option Term) (bytes : List ℕ) → AnswersNode r old new w o → IsWritten w → IsTextAsWritten w o bytes
    → IsCanonical bytes × ((text.term_of bytes, new) ≡ term_of r old (written_term w))
written_text r old new (written.Text x) None bytes a i t = (subst (λ (z : List ℕ). IsCanonical z) (sym t) i, ap₂ (λ (u : List ℕ) (n : Numbers). (text.term_of u, n)) t a)
written_text r old new (written.Text x) (Some u) bytes a i t = absurd a
written_text r old new (written.Label l) None bytes a i t = absurd a
written_text r old new (written.Label l) (Some u) bytes a i t = (t.0, ap (λ (v : Term). (v, new)) t.1 ∙ a)

-- an IRI may be a subject
iri_subject : (t : Term) → is_iri t ≡ true → is_subject t ≡ true
iri_subject (Iri x) e = refl
iri_subject (Blank r k) e = refl
iri_subject (Literal x k) e = absurd (Prim.cc)

-- so may a subject that is written so
pub subject_kind : (r : ℕ) (old new : Numbers) (w : Written) (o : Option Term) (bytes : List ℕ) → AnswersNode r old new w o → MayBeSubject w → IsTextAsWritten w o bytes → is_subject (text.term_of bytes) ≡ true
subject_kind r old new (written.Text x) None bytes a k t = ap (λ (u : List ℕ). is_subject (text.term_of u)) t ∙ iri_subject (text.term_of x.now) k
subject_kind r old new (written.Text x) (Some u) bytes a k t = absurd a
subject_kind r old new (written.Label l) None bytes a k t = absurd a
subject_kind r old new (written.Label l) (Some u) bytes a k t = ap is_subject t.1 ∙ ap (λ (q : Term × Numbers). is_subject q.0) a

-- the texts of a line's terms, and its triple
module _ (r : ℕ) (n0 n1 n2 : Numbers) (l : Line) (a b : Option Term) (x y : List ℕ) (is : IsWrittenLine l) (front : AnswersNode r n0 n1 l.subject a) (back : AnswersNode r n1 n2 l.object b)
    (subject : IsTextAsWritten l.subject a x) (object : IsTextAsWritten l.object b y) where
  -- they are canonical, and of the kinds of a triple
  pub line_texts : AreTexts x l.predicate.now y
  line_texts = record {
    subject_canonical = (written_text r n0 n1 l.subject a x front is.begun.subject_text subject).0;
    predicate_canonical = is.begun.predicate_text;
    object_canonical = (written_text r n1 n2 l.object b y back is.object object).0;
    kinds = ap₂ (λ u v. u && v) (subject_kind r n0 n1 l.subject a x front is.begun.subject_kind subject) is.begun.predicate_kind;
  }

  -- with the triple the list has what the line states
  pub line_added : (before after : List RdfTriple) → after ≡ before ++ triple_of_texts x l.predicate.now y ∷ [] → AddsLine r n0 n2 before after l
  line_added before after g n =
      let p = text.term_of l.predicate.now in
      let u : line_stated r n0 (line_triple l n) ≡ (n2, one_statement (triple_of_texts x l.predicate.now y) n) =
      ap (λ (s : Term × Numbers). let o = term_of r s.1 (written_term l.object) in (o.1, one_statement (record { subject = s.0; predicate = p; object = o.0 }) n)) (sym (written_text r n0 n1 l.subject a x front is.begun.subject_text subject).1)
      ∙ ap (λ (o : Term × Numbers). (o.1, one_statement (record { subject = text.term_of x; predicate = p; object = o.0 }) n)) (sym (written_text r n1 n2 l.object b y back is.object object).1) in
      (ap (λ (v : Numbers × List Statement). v.0) (sym u), g ∙ ap (λ (v : Numbers × List Statement). before ++ all_stated v.1) (sym u))

-- a reader goes over a line and its line feed
pub took-line : (a b : NTriplesReader) (ts us : List RdfTriple) (x : List ℕ) (l : Line) (feed : ℕ) → a.decoder ≡ Ready → a.read ≤ 2 ^ 64 - 1 → TakesFed a.cursor b.cursor x l feed
    → AddsLine a.request a.numbering b.numbering ts us l → b.decoder ≡ a.decoder → b.read ≡ counted (counted (a.read + l.len) + feed) → b.last ≡ counted (a.read + l.len)
    → b.request ≡ a.request → b.is_closed ≡ a.is_closed → Advances a b ts us (steps (ntriples a.request) (led_of a) (take (l.len + feed) x))
took-line a b ts us x l feed d h t add same read last r k =
    let end = counted (a.read + l.len) in
    let u = line_stated a.request a.numbering (line_triple l end) in
    let q : LineState = cursor_state b.cursor in
    let given = add end in
    let start : led_of a ≡ (Ready, (a.read, ((AtSubject, Between), a.numbering))) =
    ap (λ (v : Decoding). (v, (a.read, (cursor_state a.cursor, a.numbering)))) d ∙ ap (λ (v : LineState). (Ready, (a.read, (v, a.numbering)))) t.begins in
    let e : steps (ntriples a.request) (led_of a) (take (l.len + feed) x) ≡ ((Ready, (counted (end + feed), (q, u.0))), u.1) =
    ap (λ (v : Led). steps (ntriples a.request) v (take (l.len + feed) x)) start ∙ line_taken a.request a.read q a.numbering x l feed t.front t.run t.within h in
    let led : led_of b ≡ (Ready, (counted (end + feed), (q, u.0))) =
    ap (λ (v : Decoding). (v, (b.read, (q, b.numbering)))) (same ∙ d) ∙ ap (λ (n : ℕ). (Ready, (n, (q, b.numbering)))) read ∙ ap (λ (v : Numbers). (Ready, (counted (end + feed), (q, v)))) given.0 in
    record {
      led = led ∙ ap (λ (v : Led × List Statement). v.0) (sym e);
      given = given.1 ∙ ap (λ (v : Led × List Statement). ts ++ all_stated v.1) (sym e);
      last = last ∙ ap (λ (v : Led × List Statement). end_after a.last v.1) (sym e);
      request = r;
      closed = k;
    }

-- Statements that stand whole at the front of a piece, by their terms as they are written.
use Rattle.std.specs.Prelude.{◌≡◌, ℕ, ◌+◌, ◌<◌, ◌≤◌, ◌==◌, true, if◌then◌else◌, List, ◌++◌, length, take, drop, Option, Some, None}
use Rattle.gs_model.specs.Terms.{Term}
use Rattle.gs_model.specs.Texts.{IsCanonical}
use Rattle.gs_model.specs.Texts as text
use Rattle.gs_model.specs.Triples.{RdfTriple, is_iri}
use Rattle.gs_body.specs.Bodies.{all_stated}
use Rattle.gs_blank.specs.Numbers.{Numbers}
use Rattle.gs_ntterm.specs.LineTerms.{LineTerm, Fixed, Labelled}
use Rattle.gs_ntread.specs.LineTriples.{LineTriple}
use Rattle.gs_ntread.specs.Documents.{term_of, line_stated}
use Rattle.gs_ntread.specs.States.{LineState, AtSubject, AtPredicate, AtObject, AtEnd, Between, sentence}
use Rattle.gs_ntread.specs.Runs.{RunsTo}
use Rattle.gs_ntread.specs.Wholes.{EndsIn, IsObjectToken, IsObjectFront}
use Rattle.gs_ntread.specs.Views.{cursor_state}
use Rattle.gs_ntread.specs.declared.cursor.Cursor.{Cursor}
use Rattle.gs_ntread.specs.declared.lines.Written.{Written}
use Rattle.gs_ntread.specs.declared.lines.Written.TheVariants as written
use Rattle.gs_ntread.specs.declared.lines.Line.{Line}
use Rattle.gs_ntread.specs.declared.lines.Begun.{Begun}
use Rattle.gs_ntread.specs.declared.lines.Taken.{Taken}
use Rattle.gs_ntread.specs.declared.lines.Taken.TheVariants as taken

-- a text or a label as a line's term
abbrev pub written_term : Written → LineTerm
written_term (written.Text x) = Fixed (text.term_of x.now)
written_term (written.Label l) = Labelled l.now

-- a text is a term's, and canonical
abbrev pub IsWritten : Written → Type 0
IsWritten (written.Text x) = IsCanonical x.now
IsWritten (written.Label l) = Unit {0}

-- it is an IRI's text or a label
abbrev pub MayBeSubject : Written → Type 0
MayBeSubject (written.Text x) = is_iri (text.term_of x.now) ≡ true
MayBeSubject (written.Label l) = Unit {0}

-- a subject and a predicate are written so, by a label or the text of a term, of the kinds of a triple
pub record AreBegun (subject : Written) (predicate : List ℕ) : Type 0 where
  pub subject_text : IsWritten subject
  pub subject_kind : MayBeSubject subject
  pub predicate_text : IsCanonical predicate
  pub predicate_kind : is_iri (text.term_of predicate) ≡ true

-- where a cursor stands after them
abbrev pub begun_state : Written → List ℕ → LineState
begun_state s p = (AtObject (written_term s) (text.term_of p), Between)

-- the line triple of a line whose dot ends after n bytes
abbrev pub line_triple : Line → ℕ → LineTriple
line_triple l n = sentence (written_term l.subject) (text.term_of l.predicate.now) (written_term l.object) n

-- the texts of a line are those of terms, of the kinds of a triple
pub record IsWrittenLine (l : Line) : Type 0 where
  pub begun : AreBegun l.subject l.predicate.now
  pub object : IsWritten l.object

-- the first n bytes lead over a subject, which is so written
pub record SubjectFront (piece : List ℕ) (w : Written) (n : ℕ) : Type 0 where
  pub is : IsWritten w
  pub kind : MayBeSubject w
  pub within : n ≤ length piece
  pub run : RunsTo (AtSubject, Between) (take n piece) (AtPredicate (written_term w), Between)

-- the first n bytes are an object, which is so written, after which blanks and a dot may come
pub record ObjectToken (piece : List ℕ) (w : Written) (n : ℕ) : Type 0 where
  pub is : IsWritten w
  pub token : IsObjectToken piece n (written_term w)

-- the first n bytes are an object, which is so written, and the dot after it
pub record ObjectFront (piece : List ℕ) (w : Written) (n : ℕ) : Type 0 where
  pub is : IsWritten w
  pub front : IsObjectFront piece n (written_term w)

-- a subject, a predicate and the blanks after them are at the front of a piece
pub record BegunFront (piece : List ℕ) (b : Begun) : Type 0 where
  pub begun : AreBegun b.subject b.predicate.now
  pub within : b.len ≤ length piece
  pub run : RunsTo (AtSubject, Between) (take b.len piece) (begun_state b.subject b.predicate.now)

-- a line is at the front of a piece, with its dot
pub record LineFront (piece : List ℕ) (l : Line) : Type 0 where
  pub line : IsWrittenLine l
  pub some : 0 < l.len
  pub within : l.len ≤ length piece
  pub ends : (n : ℕ) → EndsIn (AtSubject, Between) (take l.len piece) n (AtEnd, Between) (line_triple l n)

-- after a statement's dot and a line feed of so many bytes
abbrev pub after_feed : ℕ → LineState
after_feed n = if n == 0 then (AtEnd, Between) else (AtSubject, Between)

-- the first n bytes lead from a statement's end to the next line, or are none
abbrev pub IsFeed : List ℕ → ℕ → Type 0
IsFeed rest n = RunsTo (AtEnd, Between) (take n rest) (after_feed n)

-- a line and a line feed of so many bytes after it stand at the front of a piece, where a line begins, and a cursor goes over them
pub record TakesFed (old new : Cursor) (piece : List ℕ) (l : Line) (feed : ℕ) : Type 0 where
  pub begins : cursor_state old ≡ (AtSubject, Between)
  pub front : LineFront piece l
  pub within : l.len + feed ≤ length piece
  pub run : RunsTo (AtEnd, Between) (take feed (drop l.len piece)) (cursor_state new)

-- the same, or a cursor goes over the first n bytes, which complete nothing, or nothing is done
abbrev pub TakesAtLine : (old new : Cursor) → (piece : List ℕ) → Taken → Type 0
TakesAtLine old new piece taken.Nothing = cursor_state new ≡ cursor_state old
TakesAtLine old new piece (taken.Begun n) = (n ≤ length piece) × RunsTo (cursor_state old) (take n piece) (cursor_state new)
TakesAtLine old new piece (taken.Line l feed) = TakesFed old new piece l feed

-- a label's blank node is this in request r, and these are the numbers then; a text needs none
abbrev pub AnswersNode : ℕ → (old new : Numbers) → Written → Option Term → Type 0
AnswersNode r old new (written.Text x) None = new ≡ old
AnswersNode r old new (written.Label l) (Some t) = (t, new) ≡ term_of r old (Labelled l.now)
AnswersNode r old new w _ = ⊥

-- a text is what is written, or the text of the blank node that stands for it; of a label without its node, which does not
-- occur (`AnswersNode`), nothing is said
abbrev pub IsTextAsWritten : Written → Option Term → List ℕ → Type 0
IsTextAsWritten (written.Text x) _ bytes = bytes ≡ x.now
IsTextAsWritten (written.Label l) (Some t) bytes = (IsCanonical bytes) × (text.term_of bytes ≡ t)
IsTextAsWritten (written.Label l) None bytes = Unit {0}

-- the triple of a line in request r is added, and these are the numbers then
abbrev pub AddsLine : ℕ → (old new : Numbers) → (before after : List RdfTriple) → Line → Type 0
AddsLine r old new before after l = (n : ℕ) → let u = line_stated r old (line_triple l n) in ((new ≡ u.0) × (after ≡ before ++ all_stated u.1))

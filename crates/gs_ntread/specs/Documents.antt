-- What a document of N-Triples says: its lines, each blank or a triple, up to the first fault.
use Rattle.std.specs.Prelude.{◌≡◌, ℕ, ◌==◌, if◌then◌else◌, List, [], ◌∷◌, ◌++◌, Ok, Err}
use Rattle.gs_model.specs.Characters.{number_sign}
use Rattle.gs_model.specs.Terms.{Term, Blank}
use Rattle.gs_model.specs.Triples.{RdfTriple}
use Rattle.gs_machine.specs.Utf8.{symbols}
use Rattle.gs_machine.specs.Machines.{Machine, rest}
use Rattle.gs_model.specs.declared.faults.Fault.TheVariants.{Syntax}
use Rattle.gs_body.specs.Bodies.{Ending, Whole, Faulty, Statement, Meaning}
use Rattle.gs_blank.specs.Numbers.{Numbers, no_numbers, label_number}
use Rattle.gs_ntterm.specs.Marks.{Mark, marks}
use Rattle.gs_model.specs.Escapes.{is_line_end}
use Rattle.gs_ntterm.specs.Classes.{is_space, may_stand_in_comment}
use Rattle.gs_ntterm.specs.LineTerms.{LineTerm, Fixed, Labelled}
use Rattle.gs_ntterm.specs.Terminals.{FrontRead}
use Rattle.gs_ntread.specs.LineTriples.{LineTriple}
use Rattle.gs_ntread.specs.Grammar.{line_triple_at}

-- line triples before the first fault, and how the text ends
abbrev pub Meant : Type 0
Meant = List LineTriple × Ending

-- a comment after its '#'
abbrev pub comment_meant : List Mark → Ending
comment_meant [] = Whole
comment_meant (m ∷ ms) = if may_stand_in_comment m.0 then comment_meant ms else Faulty Syntax

-- the rest of a line after a triple: blanks, and a comment if there is one
abbrev pub rest_meant : List Mark → Ending
rest_meant [] = Whole
rest_meant (m ∷ ms) = if is_space m.0 then rest_meant ms else if m.0 == number_sign then comment_meant ms else Faulty Syntax

-- a triple with the rest of its line, or its fault
abbrev pub triple_meant : FrontRead LineTriple → Meant
triple_meant (Err e) = ([], Faulty e)
triple_meant (Ok r) = (r.0 ∷ [], rest_meant r.1)

-- a line is blanks, with a comment if there is one, or a triple
abbrev pub line_meant : List Mark → Meant
line_meant [] = ([], Whole)
line_meant (m ∷ ms) =
    if is_space m.0 then line_meant ms
    else if m.0 == number_sign then ([], comment_meant ms)
    else triple_meant (line_triple_at (m ∷ ms))

-- one line after another, where the first has no fault
abbrev pub then_meant : Meant → Meant → Meant
then_meant (ts, Whole) next = (ts ++ next.0, next.1)
then_meant (ts, Faulty e) next = (ts, Faulty e)

-- [1] document: what its lines mean, which EOL parts; `line` is a prefix of the first
abbrev pub lines_meant : List Mark → List Mark → Meant
lines_meant line [] = line_meant line
lines_meant line (m ∷ ms) =
    if is_line_end m.0 then then_meant (line_meant line) (lines_meant [] ms)
    else lines_meant (line ++ m ∷ []) ms

-- a whole document
abbrev pub document_meant : List Mark → Meant
document_meant text = lines_meant [] text

-- a line's term as a term of request r, and the numbers then
abbrev pub term_of : ℕ → Numbers → LineTerm → Term × Numbers
term_of r n (Fixed t) = (t, n)
term_of r n (Labelled label) = (Blank r (label_number n label).0, (label_number n label).1)

-- a statement that states this triple, and ends after so many bytes
abbrev pub one_statement : RdfTriple → ℕ → List Statement
one_statement t n = record { triples = t ∷ []; end = n } ∷ []

-- a line triple as a triple of request r, and the numbers then
abbrev pub line_stated : ℕ → Numbers → LineTriple → Numbers × List Statement
line_stated r n s =
    let a = term_of r n s.subject in
    let o = term_of r a.1 s.object in
    (o.1, one_statement (record { subject = a.0; predicate = s.predicate; object = o.0 }) s.end)

-- from line triples to triples, whose blank nodes are numbered by first appearance
abbrev pub numbering : ℕ → Machine Numbers LineTriple Statement (Unit {0})
numbering r = record { step = line_stated r; ended = λ n. ([], tt) }

-- what a body of N-Triples says, in a request of number r
unfoldable pub meaning_by : ℕ → List ℕ → Meaning
meaning_by r text =
    let d = document_meant (marks 0 (symbols text)) in
    ((rest (numbering r) no_numbers d.0).0, d.1)

-- what is read of each text is what a body of N-Triples says in a request of number r
abbrev pub Means : (List ℕ → Meaning) → ℕ → Type 0
Means read r = (x : List ℕ) → read x ≡ meaning_by r x

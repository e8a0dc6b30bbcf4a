-- What the private calls of a cursor do, in short, for their contracts.
use Rattle.std.specs.Prelude.{◌≡◌, ℕ, Bool, List, [], Option, Some, None, Result, IfOk}
use Rattle.gs_model.specs.Terms.{Term}
use Rattle.gs_model.specs.Triples.{RdfTriple}
use Rattle.gs_model.specs.declared.refusals.Refusal.{Refusal}
use Rattle.gs_model.specs.declared.faults.Fault.{Fault}
use Rattle.gs_body.specs.Bodies.{Ending, Statement}
use Rattle.gs_blank.specs.Numbers.{Numbers}
use Rattle.gs_ntterm.specs.LineTerms.{LineTerm}
use Rattle.gs_ntterm.specs.Terminals.{Inside, Digits}
use Rattle.gs_ntterm.specs.Tokens.{Held, Text, iri_held, typed_held}
use Rattle.gs_ntterm.specs.Labels.{label_of}
use Rattle.gs_ntterm.specs.Views.{held_of}
use Rattle.gs_ntterm.specs.declared.tokens.Token.{Token}
use Rattle.gs_ntread.specs.LineTriples.{LineTriple}
use Rattle.gs_ntread.specs.Documents.{one_statement, term_of, line_stated}
use Rattle.gs_ntread.specs.States.{TokenMode, InLabel, InDots, InTag, Hyphen, LineState, LineTransition}
use Rattle.gs_ntread.specs.Lines.{dot_next, iri_closed}
use Rattle.gs_ntread.specs.Runs.{RunsTo}
use Rattle.gs_ntread.specs.Wholes.{EndsFront}
use Rattle.gs_ntread.specs.Transitions.{transition, iri_numbered, string_numbered, iri_transition, string_transition, dotted_transition}
use Rattle.gs_ntread.specs.Machine.{dots_end}
use Rattle.gs_ntread.specs.Views.{shown, settled, stage_at, cursor_state, subject_of, sentence_of, sentences_of, ending_of}
use Rattle.gs_ntread.specs.declared.cursor.Cursor.{Cursor}
use Rattle.gs_ntread.specs.declared.parts.Subject.{Subject}
use Rattle.gs_ntread.specs.declared.parts.Parts.{Parts}
use Rattle.gs_ntterm.specs.declared.names.Name.{Name}
use Rattle.gs_ntread.specs.declared.parts.Place.{Place}
use Rattle.gs_ntread.specs.declared.parts.Within.{Within}

-- where a cursor stands after a character, with the triple that it completes
abbrev pub MovesTo : Cursor → Option Parts → LineTransition → Type 0
MovesTo new o t = (cursor_state new, sentences_of o) ≡ t

-- the same of a call that may want memory
abbrev pub AnswersTransition : {E : Type 0} → Cursor → Result (Option Parts) E → LineTransition → Type 0
AnswersTransition new answer t = IfOk answer (λ o. MovesTo new o t)

-- a character more, where a cursor stands
abbrev pub next_transition : Cursor → ℕ → ℕ → LineTransition
next_transition old c n = transition (cursor_state old).0 (cursor_state old).1 c n

-- a character more, at the part of a line where a cursor stands, in such a mode
abbrev pub transition_in : Cursor → TokenMode → ℕ → ℕ → LineTransition
transition_in old m c n = transition (stage_at old) m c n

-- a character more of an IRI, where a cursor stands
abbrev pub iri_transition_of : Cursor → Inside → ℕ → LineState
iri_transition_of old v c = iri_transition v (stage_at old) (held_of old.text) c

-- the same of a string
abbrev pub string_transition_of : Cursor → Inside → ℕ → LineState
string_transition_of old v c = string_transition v (stage_at old) (held_of old.text) c

-- the whole number of an escape in an IRI, where a cursor stands
abbrev pub iri_number_of : Cursor → ℕ → LineState
iri_number_of old v = iri_numbered (stage_at old) (held_of old.text) v

-- the same in a string
abbrev pub string_number_of : Cursor → ℕ → LineState
string_number_of old v = string_numbered (stage_at old) (held_of old.text) v

-- the escape by its number so far, with so many digits to come after the next
abbrev pub digits_so_far : Cursor → Inside
digits_so_far old = Digits old.count old.value

-- the label so far
abbrev pub label_so_far : Cursor → TokenMode
label_so_far old = InLabel (label_of old.label)

-- the language tag so far, where digits may stand in its part or not
abbrev pub tag_so_far : (digits : Bool) → Cursor → TokenMode
tag_so_far digits old = InTag digits (held_of old.text)

-- the language tag before a hyphen
abbrev pub hyphen_so_far : Cursor → TokenMode
hyphen_so_far old = Hyphen (held_of old.text)

-- the dots after a label: the end of the first, and how many more
abbrev pub dots_so_far : Cursor → TokenMode
dots_so_far old = InDots (label_of old.label) old.value old.count

-- a character after a label and dots, where a cursor stands
abbrev pub dotted_transition_of : Cursor → ℕ → LineTransition
dotted_transition_of old c = dotted_transition (stage_at old) (label_of old.label) old.value old.count c

-- a token begins where a cursor stands
abbrev pub opened_token : Cursor → Within → LineState
opened_token old w = shown w (stage_at old) (Text []) (label_of old.label) old.count old.value

-- a place, or the fault, is what this state has, whichever string stands before a suffix
abbrev pub SettlesAs : {E : Type 0} → Result (Result Place Fault) E → LineState → Type 0
SettlesAs answer s = IfOk answer (λ place. (l : Held) → settled place l ≡ s)

-- the `>` of an IRI, where a cursor stands
abbrev pub iri_closed_of : Cursor → LineState
iri_closed_of old = iri_closed (stage_at old) (held_of old.text)

-- the term of an IRI's token, or its fault
abbrev pub token_iri : Token → Result Term Fault
token_iri t = iri_held (held_of t)

-- the stage after a literal with its datatype
abbrev pub typed_next : Subject → Name → Token → Token → LineState
typed_next s p lexical t = dot_next (subject_of s) p.term (typed_held (held_of lexical) (held_of t))

-- the numbers then, and a triple by its parts as a triple of request r
abbrev pub parts_stated : ℕ → Numbers → Parts → Numbers × List Statement
parts_stated r n p = line_stated r n (sentence_of p)

-- a term is that of a line's term in request r, and these are the numbers then
abbrev pub AnswersTerm : ℕ → (old new : Numbers) → LineTerm → Result Term Refusal → Type 0
AnswersTerm r old new l answer = IfOk answer (λ t. (t, new) ≡ term_of r old l)

-- a triple is that of its parts in request r, and these are the numbers then
abbrev pub AnswersTriple : ℕ → (old new : Numbers) → Parts → Result RdfTriple Refusal → Type 0
AnswersTriple r old new p answer = IfOk answer (λ t. (new, one_statement t p.end) ≡ parts_stated r old p)

-- these characters of ASCII lead from where one cursor stands to where the other stands
abbrev pub RunsOver : Cursor → Cursor → List ℕ → Type 0
RunsOver old new bytes = RunsTo (cursor_state old) bytes (cursor_state new)

-- an object with its dot, in so many bytes of a piece, or nothing that is done
abbrev pub TakesObject : (old new : Cursor) → (piece : List ℕ) → (read : ℕ) → Option (Parts × ℕ) → Type 0
TakesObject old new piece read None = cursor_state new ≡ cursor_state old
TakesObject old new piece read (Some w) = EndsFront (cursor_state old) piece read w.1 (cursor_state new) (sentence_of w.0)

-- how a text ends, with the triple that is complete by that
abbrev pub ClosesAs : {E : Type 0} → Result (Option Parts × Result (Unit {0}) Fault) E → List LineTriple × Ending → Type 0
ClosesAs answer t = IfOk answer (λ r. (sentences_of r.0, ending_of r.1) ≡ t)

-- the end of a text after a label and dots, where a cursor stands
abbrev pub dots_end_of : Cursor → List LineTriple × Ending
dots_end_of old = dots_end (stage_at old) (label_of old.label) old.value old.count

-- What the fields of a cursor and of a reader mean.
use Rattle.std.specs.Prelude.{ℕ, true, false, List, [], ◌∷◌, Option, Some, None, Result, Ok, Err, string_bytes}
use Rattle.gs_model.specs.declared.faults.Fault.{Fault}
use Rattle.gs_body.specs.Bodies.{Ending, Whole, Faulty}
use Rattle.gs_ntterm.specs.LineTerms.{LineTerm, Fixed, Labelled}
use Rattle.gs_ntterm.specs.Terminals.{Plain, Escape, Digits}
use Rattle.gs_ntterm.specs.Tokens.{Held}
use Rattle.gs_ntterm.specs.Labels.{label_of}
use Rattle.gs_ntterm.specs.Views.{held_of}
use Rattle.gs_ntread.specs.LineTriples.{LineTriple}
use Rattle.gs_ntread.specs.States.{Stage, AtSubject, AtPredicate, AtObject, AtSuffix, AtDatatype, AtDot, AtEnd, LineState, Between, Comment, InIri, InString, Underscore, Colon, InLabel, InDots, Caret, AtSign, InTag, Hyphen, broken}
use Rattle.gs_ntread.specs.declared.parts.Subject.{Subject}
use Rattle.gs_ntread.specs.declared.parts.Subject.TheVariants as subject
use Rattle.gs_ntread.specs.declared.parts.Object.{Object}
use Rattle.gs_ntread.specs.declared.parts.Object.TheVariants as object
use Rattle.gs_ntread.specs.declared.parts.Parts.{Parts}
use Rattle.gs_ntread.specs.declared.parts.Place.{Place}
use Rattle.gs_ntread.specs.declared.parts.Place.TheVariants as at
use Rattle.gs_ntread.specs.declared.parts.Within.{Within}
use Rattle.gs_ntread.specs.declared.parts.Within.TheVariants as within
use Rattle.gs_ntread.specs.declared.cursor.Cursor.{Cursor}

-- a subject as a line's term
abbrev pub subject_of : Subject → LineTerm
subject_of (subject.Iri n) = Fixed n.term
subject_of (subject.Label l) = Labelled (string_bytes l)

-- an object as a line's term
abbrev pub object_of : Object → LineTerm
object_of (object.Term t) = Fixed t
object_of (object.Label l) = Labelled (string_bytes l)

-- what was read of the line, where l is the string before a suffix
abbrev pub stage_of : Place → Held → Stage
stage_of at.Subject l = AtSubject
stage_of (at.Predicate s) l = AtPredicate (subject_of s)
stage_of (at.Object s p) l = AtObject (subject_of s) p.term
stage_of (at.Suffix s p) l = AtSuffix (subject_of s) p.term l
stage_of (at.Datatype s p) l = AtDatatype (subject_of s) p.term l
stage_of (at.Dot s p o) l = AtDot (subject_of s) p.term (object_of o)
stage_of at.End l = AtEnd

-- what the fields stand for: each kind of token has only some of them
abbrev pub shown : Within → Stage → Held → List ℕ → ℕ → ℕ → LineState
shown within.Between g t label c v = (g, Between)
shown within.Comment g t label c v = (AtSubject, Comment)
shown within.Iri g t label c v = (g, InIri Plain t)
shown within.IriEscape g t label c v = (g, InIri Escape t)
shown within.IriDigits g t label c v = (g, InIri (Digits c v) t)
shown within.Quoted g t label c v = (g, InString Plain t)
shown within.QuotedEscape g t label c v = (g, InString Escape t)
shown within.QuotedDigits g t label c v = (g, InString (Digits c v) t)
shown within.Underscore g t label c v = (g, Underscore)
shown within.Colon g t label c v = (g, Colon)
shown within.Label g t label c v = (g, InLabel label)
shown within.Dots g t label c v = (g, InDots label v c)
shown within.Caret g t label c v = (g, Caret)
shown within.AtSign g t label c v = (g, AtSign)
shown within.Tag g t label c v = (g, InTag false t)
shown within.TagPart g t label c v = (g, InTag true t)
shown within.Hyphen g t label c v = (g, Hyphen t)
shown (within.Faulty fault) g t label c v = broken fault

-- the part of a line at which a cursor stands
abbrev pub stage_at : Cursor → Stage
stage_at c = stage_of c.place (held_of c.lexical)

-- where a cursor stands
abbrev pub cursor_state : Cursor → LineState
cursor_state c = shown c.within (stage_at c) (held_of c.text) (label_of c.label) c.count c.value

-- a cursor at a place where no token has begun, or the fault
abbrev pub settled : Result Place Fault → Held → LineState
settled (Ok place) l = (stage_of place l, Between)
settled (Err fault) l = broken fault

-- after a string
abbrev pub IsSuffix : Place → Type 0
IsSuffix (at.Suffix s p) = Unit {0}
IsSuffix place = ⊥

-- where the dot comes
abbrev pub IsDot : Place → Type 0
IsDot (at.Dot s p o) = Unit {0}
IsDot place = ⊥

-- the line triple of its parts
abbrev pub sentence_of : Parts → LineTriple
sentence_of p = record { subject = subject_of p.subject; predicate = p.predicate.term; object = object_of p.object; end = p.end }

-- the triple that is complete, if there is one
abbrev pub sentences_of : Option Parts → List LineTriple
sentences_of None = []
sentences_of (Some p) = sentence_of p ∷ []

-- how a text ends
abbrev pub ending_of : Result (Unit {0}) Fault → Ending
ending_of (Ok _) = Whole
ending_of (Err fault) = Faulty fault

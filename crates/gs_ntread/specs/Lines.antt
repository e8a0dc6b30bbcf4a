-- How a line is read: a character between two tokens, and the mark that closes a token.
use Rattle.std.specs.Prelude.{ℕ, ◌==◌, if◌then◌else◌, [], ◌∷◌, Result, Ok, Err}
use Rattle.gs_model.specs.Characters.{quote, number_sign, dot, less_than, at_sign, caret, underscore}
use Rattle.gs_model.specs.Terms.{Term}
use Rattle.gs_model.specs.declared.faults.Fault.{Fault}
use Rattle.gs_model.specs.declared.faults.Fault.TheVariants.{Syntax}
use Rattle.gs_model.specs.Escapes.{is_line_end}
use Rattle.gs_ntterm.specs.Classes.{is_space}
use Rattle.gs_ntterm.specs.LineTerms.{LineTerm, Fixed, fault_of}
use Rattle.gs_ntterm.specs.Terminals.{Plain}
use Rattle.gs_ntterm.specs.Tokens.{Held, Text, iri_held, typed_held, plain_held}
use Rattle.gs_ntread.specs.States.{Stage, AtSubject, AtPredicate, AtObject, AtSuffix, AtDatatype, AtDot, AtEnd, Between, Comment, InIri, InString, Underscore, Caret, AtSign, LineState, LineTransition, broken, no_triple, sentence}

-- after a dot, or after a line
abbrev pub end_state : ℕ → LineState
end_state c =
    if is_space c then (AtEnd, Between)
    else if is_line_end c then (AtSubject, Between)
    else if c == number_sign then (AtSubject, Comment)
    else broken Syntax

-- where the dot comes
abbrev pub at_dot : LineTerm → Term → LineTerm → ℕ → ℕ → LineTransition
at_dot s p o c n =
    if is_space c then no_triple (AtDot s p o, Between)
    else if c == dot then ((AtEnd, Between), sentence s p o n ∷ [])
    else no_triple (broken Syntax)

-- the same after a literal that ended before c
abbrev pub after_literal : LineTerm → Term → Result Term Fault → ℕ → ℕ → LineTransition
after_literal s p (Ok t) c n = at_dot s p (Fixed t) c n
after_literal s p (Err e) c n = no_triple (broken e)

-- a character where only an IRI may begin, for private contracts
abbrev pub iri_begins : Stage → ℕ → LineState
iri_begins g c = if is_space c then (g, Between) else if c == less_than then (g, InIri Plain (Text [])) else broken Syntax

-- a character where an object may begin, for private contracts
abbrev pub object_comes : Stage → ℕ → LineState
object_comes g c =
    if is_space c then (g, Between)
    else if c == less_than then (g, InIri Plain (Text []))
    else if c == underscore then (g, Underscore)
    else if c == quote then (g, InString Plain (Text []))
    else broken Syntax

-- a character between two tokens
abbrev pub between_transition : Stage → ℕ → ℕ → LineTransition
between_transition AtSubject c n =
    if is_space c then no_triple (AtSubject, Between)
    else if is_line_end c then no_triple (AtSubject, Between)
    else if c == number_sign then no_triple (AtSubject, Comment)
    else if c == less_than then no_triple (AtSubject, InIri Plain (Text []))
    else if c == underscore then no_triple (AtSubject, Underscore)
    else no_triple (broken Syntax)
between_transition (AtPredicate s) c n =
    if is_space c then no_triple (AtPredicate s, Between)
    else if c == less_than then no_triple (AtPredicate s, InIri Plain (Text []))
    else no_triple (broken Syntax)
between_transition (AtObject s p) c n =
    if is_space c then no_triple (AtObject s p, Between)
    else if c == less_than then no_triple (AtObject s p, InIri Plain (Text []))
    else if c == underscore then no_triple (AtObject s p, Underscore)
    else if c == quote then no_triple (AtObject s p, InString Plain (Text []))
    else no_triple (broken Syntax)
between_transition (AtSuffix s p l) c n =
    if is_space c then no_triple (AtSuffix s p l, Between)
    else if c == caret then no_triple (AtSuffix s p l, Caret)
    else if c == at_sign then no_triple (AtSuffix s p l, AtSign)
    else after_literal s p (plain_held l) c n
between_transition (AtDatatype s p l) c n =
    if is_space c then no_triple (AtDatatype s p l, Between)
    else if c == less_than then no_triple (AtDatatype s p l, InIri Plain (Text []))
    else no_triple (broken Syntax)
between_transition (AtDot s p o) c n = at_dot s p o c n
between_transition AtEnd c n = no_triple (end_state c)

-- the stage after a subject that was read, if it is a term
abbrev pub predicate_next : Result Term Fault → LineState
predicate_next (Ok t) = (AtPredicate (Fixed t), Between)
predicate_next (Err e) = broken e

-- the same after a predicate
abbrev pub object_next : LineTerm → Result Term Fault → LineState
object_next s (Ok p) = (AtObject s p, Between)
object_next s (Err e) = broken e

-- the same after an object
abbrev pub dot_next : LineTerm → Term → Result Term Fault → LineState
dot_next s p (Ok t) = (AtDot s p (Fixed t), Between)
dot_next s p (Err e) = broken e

-- the '>' of an IRI
abbrev pub iri_closed : Stage → Held → LineState
iri_closed AtSubject h = predicate_next (iri_held h)
iri_closed (AtPredicate s) h = object_next s (iri_held h)
iri_closed (AtObject s p) h = dot_next s p (iri_held h)
iri_closed (AtDatatype s p l) h = dot_next s p (typed_held l h)
iri_closed g h = broken Syntax

-- the second '"' of a string
abbrev pub string_closed : Stage → Held → LineState
string_closed (AtObject s p) h = (AtSuffix s p h, Between)
string_closed g h = broken Syntax

-- the second '^'
abbrev pub caret_closed : Stage → LineState
caret_closed (AtSuffix s p l) = (AtDatatype s p l, Between)
caret_closed g = broken Syntax

-- the fault of a string after which no suffix begins, where one must
abbrev pub string_fault : Stage → Fault
string_fault (AtSuffix s p l) = fault_of (plain_held l)
string_fault g = Syntax

-- Where in a document the characters so far lead.
use Rattle.std.specs.Prelude.{ℕ, Bool, List, []}
use Rattle.gs_model.specs.Terms.{Term}
use Rattle.gs_model.specs.declared.faults.Fault.{Fault}
use Rattle.gs_ntterm.specs.LineTerms.{LineTerm}
use Rattle.gs_ntterm.specs.Terminals.{Inside}
use Rattle.gs_ntterm.specs.Tokens.{Held}
use Rattle.gs_ntread.specs.LineTriples.{LineTriple}

-- which part of a line comes, with what was read of the line
pub data Stage : Type 0 where
  AtSubject : Stage
  AtPredicate : LineTerm → Stage
  AtObject : LineTerm → Term → Stage
  AtSuffix : LineTerm → Term → Held → Stage
  AtDatatype : LineTerm → Term → Held → Stage
  AtDot : LineTerm → Term → LineTerm → Stage
  AtEnd : Stage

-- Between two tokens, or within one. In dots that a label may go on after: the end of the first, and how many more. In a
-- tag: whether digits may stand. After a '-' that a tag may go on after: the tag without it.
pub data TokenMode : Type 0 where
  Between : TokenMode
  Comment : TokenMode
  InIri : Inside → Held → TokenMode
  InString : Inside → Held → TokenMode
  Underscore : TokenMode
  Colon : TokenMode
  InLabel : List ℕ → TokenMode
  InDots : List ℕ → (first more : ℕ) → TokenMode
  Caret : TokenMode
  AtSign : TokenMode
  InTag : (digits : Bool) → Held → TokenMode
  Hyphen : Held → TokenMode
  Broken : Fault → TokenMode

-- where the characters so far lead
abbrev pub LineState : Type 0
LineState = Stage × TokenMode

-- the state after a character, and the triple that it completes
abbrev pub LineTransition : Type 0
LineTransition = LineState × List LineTriple

-- at the front of a document
abbrev pub line_start : LineState
line_start = (AtSubject, Between)

-- nothing more is read
abbrev pub broken : Fault → LineState
broken e = (AtSubject, Broken e)

-- no triple is complete
abbrev pub no_triple : LineState → LineTransition
no_triple s = (s, [])

-- a triple that is complete
abbrev pub sentence : LineTerm → Term → LineTerm → ℕ → LineTriple
sentence s p o n = record { subject = s; predicate = p; object = o; end = n }

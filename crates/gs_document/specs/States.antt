-- The states of the machine that reads Turtle.
use Rattle.std.specs.Prelude.{ℕ, Bool, List, []}
use Rattle.gs_blank.specs.Numbers.{Numbers}
use Rattle.gs_body.specs.Bodies.{Statement}
use Rattle.gs_model.specs.Terms.{Term}
use Rattle.gs_model.specs.Triples.{RdfTriple}
use Rattle.gs_triples.specs.Meanings.{Fault}
use Rattle.gs_triples.specs.States as triples
use Rattle.gs_triples.specs.States.{Lost}
use Rattle.gs_document.specs.Contexts.{TurtleContext}

-- between statements, within a directive, or within the triples of a statement
pub data DocumentState : Type 0 where
  Between : TurtleContext → Numbers → DocumentState
  -- after '@prefix' (and then a dot comes at the end) or 'PREFIX'
  InPrefix : (dot : Bool) → TurtleContext → Numbers → DocumentState
  InPrefixIri : (dot : Bool) → List ℕ → TurtleContext → Numbers → DocumentState
  InBase : (dot : Bool) → TurtleContext → Numbers → DocumentState
  AtDot : TurtleContext → Numbers → DocumentState
  Within : triples.State Term RdfTriple → DocumentState

-- a fault, from which nothing leads away
abbrev pub lost : Fault → DocumentState
lost e = Within (Lost e)

-- the state after a symbol, and what is stated
abbrev pub Transition : Type 0
Transition = DocumentState × List Statement

-- nothing is stated
abbrev pub states_nothing : DocumentState → Transition
states_nothing s = (s, [])

-- The states of the machine that reads triples, and its stack.
use Rattle.std.specs.Prelude.{ℕ, List, []}
use Rattle.gs_blank.specs.Numbers.{Numbers}
use Rattle.gs_triples.specs.Meanings.{Fault, Context}
use Rattle.gs_triples.specs.Goals.{Goal}

-- what is done with a value once it is read, or with a list of verbs once it ends
pub data Frame (Value : Type 0) : Type 0 where
  ToObject : (depth : ℕ) (subject verb : Value) → Frame Value
  -- the properties of a blank node that is an object
  ToClose : (number : ℕ) → Frame Value
  ToFirst : (depth number : ℕ) → Frame Value
  ToItem : (depth first last number : ℕ) → Frame Value
  -- a collection that is a subject
  ToVerbs : Frame Value
  -- the properties of a blank node that opens the triples
  ToMore : (number : ℕ) → Frame Value

-- at a goal of the triples, with those that were read before
pub data State (Value Triple : Type 0) : Type 0 where
  -- after a '[' that opens the triples
  Opened : Context Value Triple → Numbers → State Value Triple
  -- after a subject that may stand alone, with triples of its own: properties in brackets, or a collection
  Closed : (subject : Value) → Context Value Triple → List Triple → Numbers → State Value Triple
  Heading : Goal Value → List (Frame Value) → Context Value Triple → List Triple → Numbers → State Value Triple
  -- after a string, and after its '^^'
  Held : List ℕ → List (Frame Value) → Context Value Triple → List Triple → Numbers → State Value Triple
  Typing : List ℕ → List (Frame Value) → Context Value Triple → List Triple → Numbers → State Value Triple
  -- after a fault, from which nothing leads away
  Lost : Fault → State Value Triple

-- What a symbol does: it is taken, or the triples are over before it, with their context and numbers.
pub data Turn (Value Triple : Type 0) : Type 0 where
  Goes : State Value Triple → Turn Value Triple
  Ends : Context Value Triple → List Triple → Numbers → Turn Value Triple

module _ {Value Triple : Type 0} where
  -- the triples that a state has
  abbrev pub triples_so_far : State Value Triple → List Triple
  triples_so_far (Opened env n) = []
  triples_so_far (Closed v env P n) = P
  triples_so_far (Heading g fs env P n) = P
  triples_so_far (Held x fs env P n) = P
  triples_so_far (Typing x fs env P n) = P
  triples_so_far (Lost e) = []

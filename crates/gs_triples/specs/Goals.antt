-- What stands next in the triples of a statement (Turtle, section 6.5), within so many brackets.
use Rattle.std.specs.Prelude.{ℕ, ◌+◌, Bool, ◌&&◌, nat_lt, codes}
use Rattle.gs_blank.specs.Numbers.{Numbers}
use Rattle.gs_model.specs.Limits.{max_nesting}
pub use Rattle.gs_triples.specs.Languages.{triple}
use Rattle.gs_triples.specs.Meanings.{Context, blank, rdf_value}

-- a production, or what is left of one, with what was read of it
pub data Goal (Value : Type 0) : Type 0 where
  -- [12] object
  Object : (depth : ℕ) → Goal Value
  -- after the '[' of a blank node of this number
  Inside : (depth number : ℕ) → Goal Value
  -- [7] predicateObjectList of this subject
  Verbs : (depth : ℕ) (subject : Value) → Goal Value
  -- what follows an object of this subject and verb
  After : (depth : ℕ) (subject verb : Value) → Goal Value
  -- what follows a ';'
  Semis : (depth : ℕ) (subject : Value) → Goal Value
  -- after the '(' of [15] collection
  Begun : (depth : ℕ) → Goal Value
  -- after an object of a collection, with the numbers of its first cell and of this one
  Items : (depth first last : ℕ) → Goal Value

-- one bracket more may open
abbrev pub may_open : ℕ → Bool
may_open depth = nat_lt depth max_nesting

-- the next number
abbrev pub next_number : Numbers → ℕ
next_number n = n.1 + 1

module _ {Value Triple : Type 0} where
  -- one blank node more may open in brackets
  abbrev pub may_open_node : Context Value Triple → ℕ → Bool
  may_open_node env depth = env.language.nodes && may_open depth

  -- 2.8: the object of a cell
  abbrev pub first_is : Context Value Triple → ℕ → Value → Triple
  first_is env m o = env.language.triple (blank env m) (rdf_value env (codes "first")) o

  -- 2.8: what stands after a cell
  abbrev pub rest_is : Context Value Triple → ℕ → Value → Triple
  rest_is env m o = env.language.triple (blank env m) (rdf_value env (codes "rest")) o

-- The history of a reader that is a machine, on bytes or on what is made of them.
use Rattle.std.specs.Prelude.{◌≡◌, ℕ, List}
use Rattle.gs_model.specs.Triples.{RdfTriple}
use Rattle.gs_machine.specs.Machines.{Machine, steps}
use Rattle.gs_body.specs.Bodies.{Statement, Ending, all_stated, end_after}

-- The input x leads the machine from its start to a state, and to having given the triples ts
-- of statements the last of which ends after so many bytes.
pub record IsLed {S I : Type 0} (m : Machine S I Statement Ending) (start s : S) (last : ℕ) (x : List I) (ts : List RdfTriple) : Type 0 where
  pub statements : List Statement
  pub run : steps m start x ≡ (s, statements)
  pub given : ts ≡ all_stated statements
  pub place : last ≡ end_after 0 statements

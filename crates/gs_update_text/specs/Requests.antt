-- What the text of an update says (SPARQL 1.1 Update, 21 March 2013, sections 3.1.1, 3.1.2 and 3.1.3.3).
use Rattle.std.specs.Prelude.{◌≡◌, ℕ, List, [], ◌∷◌, Option, Some}
use Rattle.gs_model.specs.Triples.{RdfTriple}
use Rattle.gs_term.specs.declared.patterns.Pattern.{Pattern}
use Rattle.gs_triples.specs.Meanings.{Fault, Syntax}

-- an operation, with the triples that are to be in the graph or not, or with patterns of those that are not to be
pub data UpdateOperation : Type 0 where
  Inserts : List RdfTriple → UpdateOperation
  DeletesData : List RdfTriple → UpdateOperation
  DeletesWhere : List Pattern → UpdateOperation

-- an operation of a request, and the number of bytes up to the end of its closing brace
pub record Written : Type 0 where
  pub operation : UpdateOperation
  pub end : ℕ

-- why a text is no update that is served: it breaks the grammar or has a term that is too long; or its first departure
-- from what is served is an update's all the same
pub data Rejection : Type 0 where
  Broken : (fault : Fault) → Rejection
  OutOfProfile : Rejection

-- the operations before the first departure, and that departure, where there is one
abbrev pub UpdateRequest : Type 0
UpdateRequest = List Written × Option Rejection

-- the end of the last operation, where one that ends after n bytes stands before
abbrev pub end_of_last : ℕ → List Written → ℕ
end_of_last n [] = n
end_of_last n (o ∷ os) = end_of_last o.end os

-- The text breaks the grammar, first after an operation that ends after so many bytes, or after none and 0.
pub record IsBrokenUpdate (r : UpdateRequest) (at : ℕ) : Type 0 where
  pub broken : r.1 ≡ Some (Broken Syntax)
  pub place : at ≡ end_of_last 0 r.0

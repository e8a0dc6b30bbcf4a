-- How a triple's line with a graph's name stands to its line alone (N-Triples and N-Quads, section 2).
use Rattle.std.specs.Prelude.{◌≡◌, ℕ, List, [], ◌∷◌, ◌++◌}
use Rattle.gs_model.specs.Characters.{line_feed, space, dot}
use Rattle.gs_model.specs.Iris.{IsName}
use Rattle.gs_model.specs.Triples.{RdfTriple, IsTriple, line_of}
use Rattle.gs_term.specs.Names.{in_brackets, quad_line_of}

-- The line with a name is the line alone, with the name and a space before its dot.
pub record StandsInLine (name : List ℕ) (t : RdfTriple) : Type 0 where
  pub front : List ℕ
  pub alone : line_of t ≡ front ++ dot ∷ line_feed ∷ []
  pub named : quad_line_of name t ≡ front ++ in_brackets name ++ space ∷ dot ∷ line_feed ∷ []

-- Two such lines that are equal are of one name and one triple.
abbrev pub QuadLinesTell : Type 0
QuadLinesTell = (n k : List ℕ) (t u : RdfTriple) → IsName n → IsName k → IsTriple t → IsTriple u → quad_line_of n t ≡ quad_line_of k u → (n ≡ k) × (t ≡ u)

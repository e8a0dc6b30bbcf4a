-- The context of a statement of Turtle (25 February 2014, section 7.1).
use Rattle.gs_model.specs.Terms.{Term}
use Rattle.gs_model.specs.Triples.{RdfTriple}
use Rattle.gs_triples.specs.Meanings.{Context}

-- what earlier statements leave, where triples are made of terms
abbrev pub TurtleContext : Type 0
TurtleContext = Context Term RdfTriple

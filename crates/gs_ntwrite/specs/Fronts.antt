-- What the line of a triple and that of a quad begin with. No public clause cites this module.
use Rattle.std.specs.Prelude.{ℕ, List, [], ◌∷◌, ◌++◌}
use Rattle.gs_model.specs.Characters.{space}
use Rattle.gs_model.specs.Terms.{text_of}
use Rattle.gs_model.specs.Triples.{RdfTriple}

-- the three texts, each with a space after it
abbrev pub spaced_terms : RdfTriple → List ℕ
spaced_terms t = text_of t.subject ++ space ∷ text_of t.predicate ++ space ∷ text_of t.object ++ space ∷ []

-- What a text means in its language.
use Rattle.std.specs.Prelude.{ℕ, List}
use Rattle.gs_body.specs.Bodies.{Meaning}
use Rattle.gs_ntread.specs.Documents as ntriples
use Rattle.gs_turtle.specs.Documents as turtle
use Rattle.gs_upload.specs.declared.languages.Language.{Language}
use Rattle.gs_upload.specs.declared.languages.Language.TheVariants.{NTriples, Turtle}

-- what a text means in a language, under a base, in a request; N-Triples has no base
abbrev pub meaning_in : Language → List ℕ → ℕ → List ℕ → Meaning
meaning_in NTriples b r x = ntriples.meaning_by r x
meaning_in Turtle b r x = turtle.meaning_by b r x

-- how a text is read: its language, its base, and the number of the request whose blank nodes it names
pub record TextContext : Type 0 where
  pub language : Language
  pub base : List ℕ
  pub request : ℕ

-- what a text means as it is read
abbrev pub meaning_in_context : TextContext → List ℕ → Meaning
meaning_in_context c x = meaning_in c.language c.base c.request x

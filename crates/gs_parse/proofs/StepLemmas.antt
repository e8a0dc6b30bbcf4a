-- The list of triples after a transition: with those of a statement that ends, or as it was.
use Rattle.std.proofs.Common.{◌≡◌, ℕ, List, ◌++◌, ◌∙◌, sym, ap}
use Rattle.std.proofs.lemmas.List.{append-nil}
use Rattle.gs_model.specs.Triples.{RdfTriple}
use Rattle.gs_body.specs.Bodies.{all_stated}
use Rattle.gs_document.specs.Documents.{stated}
use Rattle.gs_document.specs.States.{Transition}
use Rattle.gs_parse.specs.Steps.{MovesQuietly, MovesBy}
use Rattle.gs_parse.specs.declared.parser.Parser.{Parser}

triples_stated : (end : ℕ) (P : List RdfTriple) → all_stated (stated end P) ≡ P
triples_stated end P = append-nil P

-- the list with the triples of a statement that ends there
pub given_stated : (end : ℕ) (old new P : List RdfTriple) → new ≡ old ++ P → new ≡ old ++ all_stated (stated end P)
given_stated end old new P h = h ∙ ap (λ Q. old ++ Q) (sym (triples_stated end P))

-- a transition that gives no triple
pub quiet_moves : (old new : Parser) (t : Transition) → MovesQuietly old new t → MovesBy old new t
quiet_moves old new t h = record { state = h.state; last = h.last }

-- leaves the list
pub quiet_given : (old new : Parser) (t : Transition) (before : List RdfTriple) → MovesQuietly old new t → before ≡ before ++ all_stated t.1
quiet_given old new t before h = sym (append-nil before) ∙ ap (λ Q. before ++ Q) (sym h.given)

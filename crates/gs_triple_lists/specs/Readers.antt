-- What a reader of a list of triples has before it.
use Rattle.std.specs.Prelude.{◌≡◌, List, [], ◌∷◌, Option, Some, None}
use Rattle.gs_model.specs.Triples.{RdfTriple}
use Rattle.gs_triple_lists.specs.Kept.{triples_of_numbers}
use Rattle.gs_triple_lists.specs.declared.readers.ListedTriple.{ListedTriple}
use Rattle.gs_triple_lists.specs.declared.readers.ListedTriples.{ListedTriples}

-- a triple as it stands in a list
abbrev pub triple_listed : ListedTriple → RdfTriple
triple_listed t = record { subject = t.subject.now; predicate = t.predicate.now; object = t.object.now }

-- the triples that a reader has before it
abbrev pub listed_left : ListedTriples → List RdfTriple
listed_left r = triples_of_numbers r.terms.now r.numbers.now

-- a reader gave the first of the triples before it, or there was none
abbrev pub GivesListed : List RdfTriple → Option ListedTriple → List RdfTriple → Type 0
GivesListed old None new = (old ≡ []) × (new ≡ [])
GivesListed old (Some t) new = old ≡ triple_listed t ∷ new

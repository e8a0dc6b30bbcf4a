-- What the small form of a list of triples is.
use Rattle.std.specs.Prelude.{List}
use Rattle.gs_model.specs.Triples.{RdfTriple}
use Rattle.gs_triple_lists.specs.Kept.{triples_of_numbers}
use Rattle.gs_packed_texts.specs.Closed.{closed_texts}
use Rattle.gs_small_triples.specs.Kept.{numbers_in, terms_of}
use Rattle.gs_small_triples.specs.declared.triples.SmallTriples.{SmallTriples}

-- the triples, in the order in which they came, with repeats: those of the numbers, by the terms of the texts
abbrev pub small_triples : SmallTriples → List RdfTriple
small_triples s = triples_of_numbers (terms_of (closed_texts s.texts)) (numbers_in s.numbers)

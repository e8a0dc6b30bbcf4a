-- What packed triples are after which no more come.
use Rattle.std.specs.Prelude.{ℕ, List}
use Rattle.gs_model.specs.Triples.{RdfTriple}
use Rattle.gs_packed_texts.specs.Closed.{closed_texts, closed_room}
use Rattle.gs_packed_triples.specs.Formed.{triples_unpacked}
use Rattle.gs_packed_triples.specs.declared.closed.ClosedTriples.{ClosedTriples}

-- the triples, in the order in which they came, with repeats
abbrev pub closed_triples : ClosedTriples → List RdfTriple
closed_triples c = triples_unpacked (closed_texts c.texts)

-- for how many bytes of their own the texts of the triples have room
abbrev pub closed_triples_room : ClosedTriples → ℕ
closed_triples_room c = closed_room c.texts

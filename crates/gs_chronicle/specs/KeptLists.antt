-- The triples of lists, as an upload keeps these.
use Rattle.std.specs.Prelude.{List}
use Rattle.std.specs.List.{flat_map}
use Rattle.gs_model.specs.Triples.{RdfTriple}
use Rattle.gs_packed_triples.specs.Closed.{closed_triples}
use Rattle.gs_small_triples.specs.Small.{small_triples}
use Rattle.gs_chronicle.specs.declared.kept_lists.KeptList.{KeptList}
use Rattle.gs_chronicle.specs.declared.kept_lists.KeptList.TheVariants.{Small, Gathered}

-- the triples of a kept list
abbrev pub kept_triples : KeptList → List RdfTriple
kept_triples (Small s) = small_triples s
kept_triples (Gathered g) = closed_triples g

-- the triples of kept lists, one list after the other
abbrev pub all_triples : List KeptList → List RdfTriple
all_triples lists = flat_map kept_triples lists

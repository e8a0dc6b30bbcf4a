-- The places of a read of all graphs of a version of the dataset, in order, and the lines there.
use Rattle.std.specs.Prelude.{ℕ, List, [], ◌++◌, map, Option, Some, None}
use Rattle.std.specs.Option.{option_map}
use Rattle.std.specs.List.{filter, flat_map}
use Rattle.gs_term.specs.declared.names.Target.{Target}
use Rattle.gs_pool.specs.declared.nodes.Key.{Key}
use Rattle.gs_pool.specs.Pool.{Nodes}
use Rattle.gs_keys.specs.Texts.{Terms}
use Rattle.gs_lines.specs.Graphs.{line_in}
use Rattle.gs_lines.specs.Pieces.{keys_left}
use Rattle.gs_index.specs.Indexes.{numbers_after}
use Rattle.gs_records.specs.Records.{Record, Recorded, record_at}
use Rattle.gs_records.specs.Order.{entry_of, has_number}

-- a key of the graph of a record, by the number of the record
abbrev pub Place : Type 0
Place = ℕ × Key

-- the graph that a record is of
abbrev pub target_at : List Record → ℕ → Target
target_at rs n = (entry_of (record_at rs n)).target

-- the root of its version
abbrev pub root_at : List Record → ℕ → Option ℕ
root_at rs n = (entry_of (record_at rs n)).version.root

-- the numbers that version v has, in the order of their graphs
abbrev pub version_numbers : ℕ → Recorded → List ℕ
version_numbers v r = filter (has_number v r.records) r.listed

-- keys of a record, as places
abbrev pub as_places : ℕ → List Key → List Place
as_places n ks = map (λ k. (n, k)) ks

-- the places of a record: those of its keys above the one given, and of all where none is
abbrev pub record_places : Terms → Nodes → List Record → Option Key → ℕ → List Place
record_places terms p rs from n = as_places n (keys_left terms p (root_at rs n) from)

-- all places of some records, one after another
abbrev pub all_places : Terms → Nodes → List Record → List ℕ → List Place
all_places terms p rs ns = flat_map (record_places terms p rs None) ns

-- those of a place's own record that stand after it
abbrev pub own_places : Terms → Nodes → List Record → Option Place → List Place
own_places terms p rs None = []
own_places terms p rs (Some x) = record_places terms p rs (Some x.1) x.0

-- the number of a place
abbrev pub number_at : Option Place → Option ℕ
number_at from = option_map (λ x. x.0) from

-- the places after the one given, and all where none is: those of its own record, and those of the numbers after it
abbrev pub places_left : Terms → Nodes → ℕ → Recorded → Option Place → List Place
places_left terms p v r from =
    own_places terms p r.records from ++ all_places terms p r.records (numbers_after (number_at from) (version_numbers v r))

-- the line at a place: with the name of its graph, if it has one
abbrev pub quad_at : Terms → List Record → Place → List ℕ
quad_at terms rs x = line_in terms (target_at rs x.0) x.1

-- the lines at these places
abbrev pub quads_left : Terms → Nodes → ℕ → Recorded → Option Place → List (List ℕ)
quads_left terms p v r from = map (quad_at terms r.records) (places_left terms p v r from)

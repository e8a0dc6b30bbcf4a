-- The prefixes of a document, as a tree of texts keeps them.
use Rattle.std.specs.Prelude.{ℕ, List, map, string_bytes, String}
use Rattle.std.specs.FinMap as finite
use Rattle.std.specs.BTreeMap.{BTreeMap}
use Rattle.gs_triples.specs.Prefixes.{Prefixes}
use Rattle.gs_token_terms.specs.declared.prefixes.Absolute.{Absolute}

-- an entry with its texts' bytes
abbrev pub as_texts : {Y : Type 0} → String Y × Absolute → List ℕ × List ℕ
as_texts e = (string_bytes e.0, string_bytes e.1.text)

-- a tree of texts as a map
abbrev pub prefix_texts : {Y : Type 0} → BTreeMap (String Y) Absolute → Prefixes
prefix_texts m = finite.from_entries (map as_texts m.entries)

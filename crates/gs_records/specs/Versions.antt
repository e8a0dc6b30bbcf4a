-- What is true of the version that each record is of.
use Rattle.std.specs.Prelude.{◌≡◌, ℕ, ◌<◌, ◌^◌, false, List}
use Rattle.gs_index.specs.declared.entries.Entry.{Entry}
use Rattle.gs_records.specs.Records.{Record, kept, record_at}
use Rattle.gs_records.specs.Calls.{is_nothing}

-- its count of triples is below 2^64, and it is not that of an empty default graph, of which no record is kept
pub record IsVersionEntry (e : Entry) : Type 0 where
  pub small : e.version.triples < 2 ^ 64
  pub something : is_nothing e.target e.version ≡ false

-- each version of a graph is so
abbrev pub AreVersions : List Record → Type 0
AreVersions rs = (n : ℕ) (e : Entry) → record_at rs n ≡ kept e → IsVersionEntry e

-- What the laws say.
use Rattle.std.specs.Prelude.{◌≡◌, ℕ, ◌<◌, Bool, true, false, List, [], ◌∷◌, length, slice_index_or, Option, Some, None}
use Rattle.std.specs.List.{concat, flat_map}
use Rattle.gs_term.specs.declared.names.Target.{Target}
use Rattle.gs_pool.specs.Pool.{Nodes}
use Rattle.gs_tree.specs.Tree.{Stands, tree_at}
use Rattle.gs_tree.specs.Reading.{keys_at}
use Rattle.gs_keys.specs.Texts.{Terms, KeepTerms}
use Rattle.gs_catalogue.specs.declared.versions.GraphVersion.{GraphVersion}
use Rattle.gs_catalogue.specs.Catalogues.{triple_count}
use Rattle.gs_datasets.specs.Standing.{dataset_at}
use Rattle.gs_records.specs.Records.{Record, opened, Recorded, record_at}
use Rattle.gs_records.specs.Graphs.{graphs_at}
use Rattle.gs_records.specs.Kept.{AreSingle}
use Rattle.gs_records.specs.Calls.{Opens, GivesUp, RemovesVersion, MakesCurrent}
use Rattle.gs_records.specs.Reclaims.{ReclaimsRecords}
use Rattle.gs_records.specs.Order.{entry_of, has_number, age_at, AreListed, graph_of_number}
use Rattle.gs_quads.specs.declared.pieces.QuadPiece.{QuadPiece}
use Rattle.gs_quads.specs.Places.{Place, root_at, quads_left}
use Rattle.gs_quads.specs.Pieces.{AreGraphs, IsQuadPlace, IsQuadPiece}
use Rattle.gs_event.specs.Datasets.{quads_of}

-- from the beginning on, the lines of a version are those of its dataset
abbrev pub AllAreTheDatasets : Type 0
AllAreTheDatasets =
    (terms : Terms) (p : Nodes) (v : ℕ) (r : Recorded)
    → AreSingle r.records → AreListed r.records r.listed → AreGraphs terms p v r.records
    → quads_left terms p v r None ≡ quads_of (dataset_at terms p (graphs_at v r.records))

-- Version v has the same numbers, and each is of the same graph with the same version of it, made by the same commit. A death may have
-- been written down since.
pub record HasSame (v : ℕ) (old new : Recorded) : Type 0 where
  pub numbers : (n : ℕ) → has_number v new.records n ≡ has_number v old.records n
  pub graphs : (n : ℕ) → has_number v old.records n ≡ true → graph_of_number new.records n ≡ graph_of_number old.records n
  pub ages : (n : ℕ) → has_number v old.records n ≡ true → age_at new.records n ≡ age_at old.records n

-- a later pool has each node of the trees that the roots of version v mean
abbrev pub HasTrees : ℕ → List Record → Nodes → Nodes → Type 0
HasTrees v rs p q = (n : ℕ) → has_number v rs n ≡ true → Stands q (tree_at p (root_at rs n))

-- A read of version v goes on among other terms, in another pool and other records: the version can be read there, the place where
-- the read stands is one of it still, and the lines from there on are the same.
pub record ReadGoesOn (terms later : Terms) (p q : Nodes) (v : ℕ) (old new : Recorded) (from : Option Place) : Type 0 where
  pub graphs : AreGraphs later q v new.records
  pub place : IsQuadPlace later v new.records from
  pub lines : quads_left later q v new from ≡ quads_left terms p v old from

-- so it does where each number that has a term keeps it, in a later pool that has the trees of the version, and among later records that have the version
abbrev pub QuadsOutlast : Type 0
QuadsOutlast =
    (terms later : Terms) → KeepTerms terms later → (p q : Nodes) (v : ℕ) (old new : Recorded) (from : Option Place)
    → AreListed old.records old.listed → AreListed new.records new.listed
    → AreGraphs terms p v old.records → IsQuadPlace terms v old.records from
    → HasSame v old new → HasTrees v old.records p q
    → ReadGoesOn terms later p q v old new from

-- A read of version v to the end, piece by piece, of so many lines each as was asked for then. The next piece begins at the last place of
-- the one before, among terms, in a pool and in records where the lines from there on are the same.
pub data IsReadByPieces (v : ℕ) : Terms → Nodes → Recorded → Option Place → List QuadPiece → Type 0 where
  ends : (terms : Terms) (p : Nodes) (r : Recorded) (from : Option Place) (count : ℕ) (piece : QuadPiece)
      → IsQuadPiece terms p v r from count piece → piece.is_end ≡ true
      → IsReadByPieces v terms p r from (piece ∷ [])
  goes : (terms later : Terms) (p q : Nodes) (r new : Recorded) (from : Option Place) (count : ℕ) (piece : QuadPiece) (rest : List QuadPiece)
      → IsQuadPiece terms p v r from count piece → piece.is_end ≡ false
      → quads_left later q v new piece.last ≡ quads_left terms p v r piece.last
      → IsReadByPieces v later q new piece.last rest
      → IsReadByPieces v terms p r from (piece ∷ rest)

-- the bytes of its pieces, joined, are those of all lines from its beginning on
abbrev pub PiecesAreAll : Type 0
PiecesAreAll =
    (v : ℕ) (terms : Terms) (p : Nodes) (r : Recorded) (from : Option Place) (pieces : List QuadPiece)
    → IsReadByPieces v terms p r from pieces
    → flat_map (λ (piece : QuadPiece). piece.lines.items) pieces ≡ concat (quads_left terms p v r from)

-- the count of each version that version v has is how many keys its root means
abbrev pub CountTriples : ℕ → Nodes → List Record → Type 0
CountTriples v p rs = (n : ℕ) → has_number v rs n ≡ true → (entry_of (record_at rs n)).version.triples ≡ length (keys_at p (root_at rs n))

-- then a version has as many lines as its graphs have triples, by the count of each
abbrev pub AsManyAsTriples : Type 0
AsManyAsTriples =
    (terms : Terms) (p : Nodes) (v : ℕ) (r : Recorded)
    → AreSingle r.records → AreListed r.records r.listed → CountTriples v p r.records
    → length (quads_left terms p v r None) ≡ triple_count (graphs_at v r.records)

-- A version has the same after one call and then another. Opening a record and giving one up leave it all that it has; so does what ends or
-- makes a graph at a later commit, and a reclaim where a seat has pinned it.
pub record CallsKeep (v : ℕ) : Type 0 where
  pub then : (old mid new : Recorded) → HasSame v old mid → HasSame v mid new → HasSame v old new
  pub opens : (old new : Recorded) (n : ℕ) → Opens old new n → HasSame v old new
  pub gives_up : (old new : Recorded) (n : ℕ) → record_at old.records n ≡ opened → GivesUp old new n → HasSame v old new
  pub removes : (old new : Recorded) (t : Target) (commit : ℕ) → v < commit → RemovesVersion old new t commit → HasSame v old new
  pub puts : (old new : Recorded) (n : ℕ) (t : Target) (g : GraphVersion) (commit : ℕ) → v < commit
      → record_at old.records n ≡ opened → MakesCurrent old new n t g commit → HasSame v old new
  pub reclaims : (old new : Recorded) (pins : List (Option ℕ)) (seat most freed : ℕ) (left : Bool)
      → slice_index_or pins seat None ≡ Some v → ReclaimsRecords pins most freed left old new → HasSame v old new

-- so it is with each version
abbrev pub CallsKeepVersions : Type 0
CallsKeepVersions = (v : ℕ) → CallsKeep v

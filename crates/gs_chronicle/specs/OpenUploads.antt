-- An open upload: what it is for, and what was staged to it so far.
use Rattle.std.specs.Prelude.{◌≡◌, ℕ, ◌+◌, ◌≤◌, Bool, ◌==◌, ◌&&◌, ◌||◌, nat_lt, nat_le, List, ◌++◌, length, min, vec_len, vec_capacity, Option, MatchOption}
use Rattle.gs_model.specs.Triples.{RdfTriple}
use Rattle.gs_model.specs.Graphs.{Graph, graph_of}
use Rattle.gs_event.specs.declared.events.UploadKind.{UploadKind}
use Rattle.gs_packed_triples.specs.Triples.{packed_triples, HasRoomFor}
use Rattle.gs_small_triples.specs.Small.{small_triples}
use Rattle.gs_small_triples.specs.declared.triples.SmallTriples.{SmallTriples}
use Rattle.gs_chronicle.specs.KeptLists.{all_triples}
use Rattle.gs_chronicle.specs.Sizes.{triples_size}
use Rattle.gs_chronicle.specs.declared.open_uploads.OpenUpload.{OpenUpload}

-- what it does to its target
abbrev pub open_upload_kind : OpenUpload → UploadKind
open_upload_kind u = u.kind

-- its request number
abbrev pub open_upload_request : OpenUpload → ℕ
open_upload_request u = u.request

-- the number of the commit since which its target must not have been written, if there is one
abbrev pub open_upload_since : OpenUpload → Option ℕ
open_upload_since u = u.since

-- the triples that were staged so far, in the order in which they came, with repeats
abbrev pub triples_so_far : OpenUpload → List RdfTriple
triples_so_far u = all_triples u.lists.items ++ packed_triples u.gathered

-- the graph of all that was staged so far
abbrev pub graph_so_far : OpenUpload → Graph
graph_so_far u = graph_of (triples_so_far u)

-- as how many triples counts what was staged so far, with repeats
abbrev pub count_so_far : OpenUpload → ℕ
count_so_far u = u.count

-- how many lists it keeps so far: small forms, and what was gathered before one, as one list; what was gathered after the last one is
-- not counted
abbrev pub lists_kept_apart : OpenUpload → ℕ
lists_kept_apart u = vec_len u.lists

-- the small form of the list that is staged next, or of one that the store refused, where it is kept by one
abbrev pub next_form : OpenUpload → Option SmallTriples
next_form u = u.next

-- Whether a list is kept by its small form, where it has one: after so many triples, and beside so many lists that are kept
-- apart, it is the first that has a triple, or it has at least 32 and fewer than 16,384 lists are kept apart.
abbrev pub keeps_form : ℕ → ℕ → ℕ → Bool
keeps_form before apart count = (before == 0 && nat_lt 0 count) || (nat_le 32 count && nat_lt apart 16_384)

-- there are places for what is gathered and for one list more
abbrev pub HasPlace : OpenUpload → Type 0
HasPlace u = vec_len u.lists + min (length (packed_triples u.gathered)) 1 + 1 ≤ vec_capacity u.lists

-- There is room for a list: as how many triples it counts is noted, there is a place for it after what is gathered, and
-- either its small form or room where it is gathered.
pub record HasRoomToStage (u : OpenUpload) (ts : List RdfTriple) : Type 0 where
  pub count : u.next_count ≡ triples_size ts
  pub place : HasPlace u
  pub list : MatchOption u.next (HasRoomFor u.gathered ts) (λ s. small_triples s ≡ ts)

-- What packed triples are, and what a reader of them has before it.
use Rattle.std.specs.Prelude.{◌≡◌, ℕ, ◌+◌, ◌*◌, ◌<◌, ◌^◌, List, [], ◌∷◌, length, Option, Some, None}
use Rattle.gs_model.specs.Triples.{RdfTriple}
use Rattle.gs_packed_texts.specs.Texts.{texts_of, left_of, split_bytes, own_bytes, HasRoom}
use Rattle.gs_packed_triples.specs.Formed.{triple_of_texts, triples_unpacked}
use Rattle.gs_packed_triples.specs.Room.{triples_bytes}
use Rattle.gs_packed_triples.specs.declared.triples.PackedTriples.{PackedTriples}
use Rattle.gs_packed_triples.specs.declared.readers.PackedTriple.{PackedTriple}
use Rattle.gs_packed_triples.specs.declared.readers.UnpackedTriples.{UnpackedTriples}

-- the triples, in the order in which they came, with repeats
abbrev pub packed_triples : PackedTriples → List RdfTriple
packed_triples p = triples_unpacked (texts_of p.texts)

-- how many bytes of their own the texts of the triples have
abbrev pub packed_bytes : PackedTriples → ℕ
packed_bytes p = own_bytes p.texts

-- there is room for these triples, and for counting them
pub record HasRoomFor (p : PackedTriples) (ts : List RdfTriple) : Type 0 where
  pub texts : HasRoom p.texts (3 * length ts) (triples_bytes ts)
  pub count : p.count + length ts < 2 ^ 64

-- a triple takes room for one triple, of its bytes, and leaves the rest
abbrev pub LeavesRoomFor : PackedTriples → RdfTriple → PackedTriples → Type 0
LeavesRoomFor p t q = (ts : List RdfTriple) → HasRoomFor p (t ∷ ts) → HasRoomFor q ts

-- a triple as it stands where it is packed
abbrev pub triple_unpacked : PackedTriple → RdfTriple
triple_unpacked t = triple_of_texts (split_bytes t.subject) (split_bytes t.predicate) (split_bytes t.object)

-- the triples that a reader has before it
abbrev pub triples_left : UnpackedTriples → List RdfTriple
triples_left r = triples_unpacked (left_of r.texts)

-- a reader gave the first of the triples before it, or there was none
abbrev pub GivesTriple : List RdfTriple → Option PackedTriple → List RdfTriple → Type 0
GivesTriple old None new = (old ≡ []) × (new ≡ [])
GivesTriple old (Some t) new = old ≡ triple_unpacked t ∷ new

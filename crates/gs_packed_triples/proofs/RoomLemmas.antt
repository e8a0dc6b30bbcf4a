-- Room for texts and for triples.
use Rattle.std.proofs.Common.{◌≡◌, ℕ, ◌+◌, ◌*◌, ◌≤◌, List, ◌∷◌, length, ap, arith}
use Rattle.std.proofs.lemmas.List.Sums.{sum_by-cons}
use Rattle.gs_model.specs.Terms.{Term, text_of}
use Rattle.gs_model.specs.Triples.{RdfTriple}
use Rattle.gs_packed_texts.specs.Texts.{HasRoom}
use Rattle.gs_packed_texts.specs.declared.texts.PackedTexts.{PackedTexts}
use Rattle.gs_packed_triples.specs.Room.{triple_bytes, triples_bytes, LeavesRoom}

-- how many bytes a term's text has
abbrev len : Term → ℕ
len t = length (text_of t)

-- room for some texts is room for fewer
room_for_fewer : (p : PackedTexts) (n k m l : ℕ) → HasRoom p n k → m ≤ n → l ≤ k → HasRoom p m l
room_for_fewer p n k m l room texts bytes = grind arith

-- what room is left once a term's text was added
left : (p q : PackedTexts) (t : Term) (n k m l : ℕ) → LeavesRoom p (text_of t) q → HasRoom p n k → m + 1 ≤ n → l + len t ≤ k → HasRoom q m l
left p q t n k m l leaves room texts bytes = leaves m l (room_for_fewer p n k (m + 1) (l + len t) room texts bytes)

-- room for triples, and for so many texts more, with so many bytes
pub record HasRoomAnd (p : PackedTexts) (n k : ℕ) (ts : List RdfTriple) : Type 0 where
  pub room : HasRoom p (3 * length ts + n) (triples_bytes ts + k)

-- before any text was added, there is room for all three
pub room_before_subject :
    (p : PackedTexts) (t : RdfTriple) (ts : List RdfTriple) → HasRoom p (3 * length (t ∷ ts)) (triples_bytes (t ∷ ts)) → HasRoomAnd p 3 (triple_bytes t) ts
room_before_subject p t ts room =
    let whole : triples_bytes (t ∷ ts) ≡ triple_bytes t + triples_bytes ts = sum_by-cons triple_bytes t ts in
    record { room = room_for_fewer p _ _ _ _ room (omega arith) (omega arith) }

-- once the subject's text was added, there is room for the other two texts and the other triples
pub room_after_subject :
    (p q : PackedTexts) (s : Term) (t : RdfTriple) (ts : List RdfTriple) → LeavesRoom p (text_of s) q → s ≡ t.subject
    → HasRoom p (3 * length (t ∷ ts)) (triples_bytes (t ∷ ts)) → HasRoomAnd q 2 (len t.predicate + len t.object) ts
room_after_subject p q s t ts leaves same room =
    let whole : triples_bytes (t ∷ ts) ≡ triple_bytes t + triples_bytes ts = sum_by-cons triple_bytes t ts in
    let long : len s ≡ len t.subject = ap len same in
    record { room = left p q s _ _ _ _ leaves room (omega arith) (omega arith) }

-- once the predicate's text was added, there is room for the object's and the other triples
pub room_after_predicate :
    (p q : PackedTexts) (s : Term) (t : RdfTriple) (ts : List RdfTriple) → LeavesRoom p (text_of s) q → s ≡ t.predicate
    → HasRoomAnd p 2 (len t.predicate + len t.object) ts → HasRoomAnd q 1 (len t.object) ts
room_after_predicate p q s t ts leaves same room =
    let long : len s ≡ len t.predicate = ap len same in
    record { room = left p q s _ _ _ _ leaves room.room (omega arith) (omega arith) }

-- once the object's text was added, there is room for the other triples
pub room_after_object :
    (p q : PackedTexts) (s : Term) (t : RdfTriple) (ts : List RdfTriple) → LeavesRoom p (text_of s) q → s ≡ t.object
    → HasRoomAnd p 1 (len t.object) ts → HasRoom q (3 * length ts) (triples_bytes ts)
room_after_object p q s t ts leaves same room =
    let long : len s ≡ len t.object = ap len same in
    left p q s _ _ _ _ leaves room.room (omega arith) (omega arith)

-- where there is room for more, there is room for a text
pub room_for_text : (p : PackedTexts) (n k : ℕ) (ts : List RdfTriple) (s t : Term) → HasRoomAnd p n k ts → s ≡ t → 1 ≤ n → len t ≤ k → HasRoom p 1 (len s)
room_for_text p n k ts s t room same texts bytes =
    let long : len s ≡ len t = ap len same in
    room_for_fewer p _ _ 1 (len s) room.room (omega arith) (omega arith)

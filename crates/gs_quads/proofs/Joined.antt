-- The pieces of a read to its end, joined.
use Rattle.std.proofs.Common.{◌≡◌, ℕ, ◌≤◌, List, ◌++◌, length, take, drop, Option, sym, ap, ◌∙◌}
use Rattle.std.specs.List.{concat, flat_map}
use Rattle.std.proofs.lemmas.Bool.{leb-true}
use Rattle.std.proofs.lemmas.List.{append-nil, take_all, take-append-drop}
use Rattle.std.proofs.lemmas.List.Folds.{concat-append}
use Rattle.gs_pool.specs.Pool.{Nodes}
use Rattle.gs_keys.specs.Texts.{Terms}
use Rattle.gs_records.specs.Records.{Recorded}
use Rattle.gs_quads.specs.declared.pieces.QuadPiece.{QuadPiece}
use Rattle.gs_quads.specs.Places.{Place, quads_left}
use Rattle.gs_quads.specs.Laws.{IsReadByPieces, ends, goes}

-- the first lines, and the others
whole : (count : ℕ) (xs : List (List ℕ)) → concat (take count xs) ++ concat (drop count xs) ≡ concat xs
whole count xs = sym (concat-append (take count xs) (drop count xs)) ∙ ap concat (take-append-drop count xs)

-- the bytes of a read to its end
pub pieces_joined : (v : ℕ) (terms : Terms) (p : Nodes) (r : Recorded) (from : Option Place) (pieces : List QuadPiece) → IsReadByPieces v terms p r from pieces
    → flat_map (λ (piece : QuadPiece). piece.lines.items) pieces ≡ concat (quads_left terms p v r from)
pieces_joined v terms p r from pieces (ends _ _ _ _ count piece is last) =
    let xs = quads_left terms p v r from in
    let few : length xs ≤ count = leb-true (length xs) count (sym is.end ∙ last) in
    append-nil piece.lines.items ∙ is.bytes ∙ ap concat (take_all count xs few)
pieces_joined v terms p r from pieces (goes _ later _ q _ new _ count piece rest is more same read) =
    let xs = quads_left terms p v r from in
    let others = pieces_joined v later q new piece.last rest read ∙ ap concat (same ∙ is.rest more) in
    (λ i. is.bytes i ++ others i) ∙ whole count xs

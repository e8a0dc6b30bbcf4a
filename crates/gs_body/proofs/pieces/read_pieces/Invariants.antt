use Rattle.std.proofs.Common.{◌≡◌, ℕ, List, take, false}
use Rattle.std.specs.List.{flat_map}
use Rattle.gs_body.proofs.pieces.read_pieces.Given as goal

abbrev pub invariant-loop-piece : goal.invariant-loop-piece
invariant-loop-piece g l = record {
  leads : g.R.BodyReader.Leads l.reader (flat_map (λ piece. piece.items) (take l.piece-index l.pieces)) l.triples.items;
  unread : g.R.BodyReader.is_closed l.reader ≡ false;
  same : (x : List ℕ) → g.R.BodyReader.meaning_of l.reader x ≡ g.R.BodyReader.meaning_of l.fn.reader x;
}

use Rattle.std.proofs.Common.{ℕ, ◌+◌, List, length, sym, subst}
use Rattle.gs_packed_texts.specs.Texts.{HasRoom}
use Rattle.gs_packed_triples.proofs.triples.push_term.Goals as goal

pub returns-clause-room : goal.returns-clause-room
returns-clause-room c = λ n k room.
    let P : List ℕ → Type 0 = λ x. HasRoom c.args.texts.now (n + 1) (k + length x) in
    c.push.ensures.room n k (subst P (sym c.as_bytes.ensures.text) room)

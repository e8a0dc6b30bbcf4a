use Rattle.std.proofs.Common.{◌≡◌, List, [], ◌∷◌, ◌++◌, ap, ◌∙◌, append_assoc, sym, subst}
use Rattle.gs_packed_triples.specs.Triples.{HasRoomFor}
use Rattle.gs_packed_triples.proofs.triples.PackedTriples.add.Goals as goal

-- once the first of those that are left was added, it and the rest are still all
added_first : {X : Type 0} (now new left rest all : List X) (x : X) → now ++ left ≡ all → left ≡ x ∷ rest → new ≡ now ++ x ∷ [] → new ++ rest ≡ all
added_first now new left rest all x is first added =
    ap (λ xs. xs ++ rest) added
    ∙ append_assoc now (x ∷ []) rest
    ∙ ap (λ xs. now ++ xs) (sym first)
    ∙ is

pub loop-triple-preserved : goal.loop-triple-preserved
loop-triple-preserved c = record {
  triples = added_first _ _ _ _ _ _ c.loop-triple.invariant.triples c.in-Some.ensures c.add_one.ensures.triples;
  room = c.add_one.ensures.room _ (subst (HasRoomFor c.loop-triple.self) c.in-Some.ensures c.loop-triple.invariant.room);
}

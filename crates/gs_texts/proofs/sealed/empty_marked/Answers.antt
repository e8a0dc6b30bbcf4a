use Rattle.std.proofs.Common.{ℕ, ◌+◌, ◌<◌, List, length, map, ap, sym, ◌∙◌, subst, arith}
use Rattle.std.specs.Arc.{arc_value}
use Rattle.std.proofs.lemmas.List.{length-map}
use Rattle.gs_texts.specs.Releasing.{EmptiesMarked, AreEmptied}
use Rattle.gs_texts.proofs.ReleaseLemmas.{emptied_one, emptied_up_to, emptied_past}
use Rattle.gs_texts.proofs.SealedLemmas.{values_set}
use Rattle.gs_texts.proofs.sealed.empty_marked.Goals as goal
use Rattle.gs_texts.proofs.sealed.empty_marked.Goals.{then-is_marked+in_ok-blocks, else-is_marked}

pub loop-i-preserved : goal.loop-i-preserved
loop-i-preserved c = elim c.if-is_marked.branch [
  | then-is_marked+in_ok-blocks w ↦
      let marked = sym c.is_marked.ensures ∙ w.if-is_marked.true in
      let inside : c.loop-i.i < length (map arc_value c.loop-i.blocks) = omega (arith, length-map c.loop-i.blocks (arc_value {X = List ℕ}), c.loop-i.auto.blocks) in
      let values = sym (values_set c.loop-i.blocks c.if-is_marked.blocks c.loop-i.i w.in_ok-blocks.field-0 w.blocks-is (w.in_ok-blocks.ensures.cases ∙ c.requires)) in
      record {
        kept = subst (EmptiesMarked c.args.gone.now (map arc_value c.args.blocks.now)) values (emptied_one _ _ _ _ c.loop-i.invariant.kept inside marked);
        done = subst (λ (z : List (List ℕ)). AreEmptied c.args.gone.now z (c.loop-i.i + 1)) values (emptied_up_to _ _ _ c.loop-i.invariant.done inside);
      }
  | else-is_marked w ↦
      let values = ap (map arc_value) (sym w.blocks-is) in
      record {
        kept = subst (EmptiesMarked c.args.gone.now (map arc_value c.args.blocks.now)) values c.loop-i.invariant.kept;
        done =
            subst (λ (z : List (List ℕ)). AreEmptied c.args.gone.now z (c.loop-i.i + 1)) values
            (emptied_past _ _ _ c.loop-i.invariant.done (sym c.is_marked.ensures ∙ w.if-is_marked.false));
      }
]

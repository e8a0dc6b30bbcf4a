use Rattle.std.proofs.Common.{◌≡◌, ◌++◌, [], ◌∷◌, Vec, Global, get_or, sym, ap, ◌∙◌, subst}
use Rattle.std.specs.List.{All}
use Rattle.std.proofs.lemmas.List.Elements.{All-push, All-get_or}
use Rattle.gs_pool.specs.declared.nodes.Key.{Key}
use Rattle.gs_joins.specs.declared.lots.Lot.{Lot}
use Rattle.gs_joins.specs.Lots.{IsSmall, IsLot}
use Rattle.gs_joins.proofs.LotLemmas.{part_more, part_none, part_all}
use Rattle.gs_joins.proofs.reduction.partnered.Goals as goal
use Rattle.gs_joins.proofs.reduction.partnered.Goals.{then-branch+in_ok-push, else-branch}

-- any key
abbrev zero_key : Key
zero_key = record { subject = 0; predicate = 0; object = 0 }

pub loop-key-preserved : goal.loop-key-preserved
loop-key-preserved c =
    let ls = c.args.lots.now in
    let l = c.index-lots-at.result in
    let ks = c.deref-key-items.result.now in
    let i = c.loop-key.key-index in
    let small : IsSmall (get_or ks i zero_key) =
    All-get_or IsSmall ks i zero_key c.loop-key-test.true
    (subst (All IsSmall) (sym c.deref-key-items.ensures.value) (All-get_or IsLot ls c.args.at l c.requires.at c.requires.lots).small) in
    elim c.if-branch.branch [
      | then-branch+in_ok-push w ↦
          let grown : c.if-branch.kept.items ≡ c.loop-key.kept.items ++ get_or ks i zero_key ∷ [] = ap (λ (v : Vec Key Global). v.items) w.kept-is ∙ w.in_ok-push.ensures.items in
          record {
            small = subst (All IsSmall) (sym grown) (All-push IsSmall c.loop-key.kept.items (get_or ks i zero_key) c.loop-key.invariant.small small);
            keeps = part_more ls c.args.at l ks c.loop-key.kept.items c.if-branch.kept.items i zero_key c.requires.at c.index-lots-at.is c.loop-key-test.true grown c.loop-key.invariant.keeps;
          }
      | else-branch w ↦
          let same : c.if-branch.kept.items ≡ c.loop-key.kept.items = ap (λ (v : Vec Key Global). v.items) w.kept-is in
          record {
            small = subst (All IsSmall) (sym same) c.loop-key.invariant.small;
            keeps = part_none ls c.args.at l ks c.loop-key.kept.items c.if-branch.kept.items i zero_key c.requires.at c.index-lots-at.is c.loop-key-test.true same
                (c.in_ok-has_partners.ensures w.if-branch.false) c.loop-key.invariant.keeps;
          }
    ]

pub returns : goal.returns
returns c =
    let l = c.index-lots-at.result in (
      c.loop-key.invariant.small,
      part_all c.args.lots.now c.args.at l c.deref-key-items.result.now c.loop-key.kept.items c.loop-key.key-index c.requires.at c.index-lots-at.is
          (c.deref-key-items.ensures.value ∙ ap (λ (z : Lot). z.keys.items) (sym c.index-lots-at.is)) c.loop-key-test.false c.loop-key.invariant.keeps,
    )

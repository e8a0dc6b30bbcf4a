use Rattle.std.proofs.Common.{◌≡◌, ◌<◌, arith, ℕ, List, length, take, [], refl, sym, ap, subst}
use Rattle.std.proofs.lemmas.List.{length-take-le}
use Rattle.gs_triple_lists.specs.Lists.{Listed}
use Rattle.gs_session.specs.declared.phases.Phase.TheVariants.{Serving}
use Rattle.gs_session.specs.declared.phases.Work.TheVariants.{Uploading}
use Rattle.gs_session.specs.declared.steps.Step.TheVariants.{Silent, Made}
use Rattle.gs_session.specs.Steps.{Rests, DoesStep}
use Rattle.gs_session.proofs.UploadLemmas.{Reads}
use Rattle.gs_session.proofs.UploadStepLemmas.{emptied, filled, fed_by, fed_short, fed_on, fed_staged}
use Rattle.gs_session.proofs.uploads.feed.Goals as goal

pub returns-in-Err : goal.returns-in-Err
returns-in-Err g c e t some p = (
  refl,
  subst (λ (z : List ℕ). Rests c.args.setup.now e (Serving c.args.asked (Uploading c.args.reading t)) c.args.input.now (Silent c.silently.result) z) (sym c.skip.ensures)
      (fed_short c.args.setup.now e c.args.asked c.args.reading t c.args.transfer (take c.args.count c.args.input.now) c.args.input.now c.args.count c.silently.result some c.requires.within p c.silently.ensures),
)

pub returns-then-is_empty : goal.returns-then-is_empty
returns-then-is_empty g c e t some p =
    let b = c.args.input.now in
    let n = c.args.count in
    let k2 = c.feed-fed.new.self in
    let us = c.feed-fed.new.triples.items in
    let none : us ≡ [] = emptied us c.is_empty.result c.is_empty.ensures c.if-is_empty.true in
    let reads : Reads c.args.reading k2 (take n b) us = subst (λ (z : List ℕ). Reads c.args.reading k2 (take n z) us) c.as_slice.ensures (fed_by c.args.reading k2 _ _ us (ap (λ (l : Listed). l.items) c.new-triples.ensures) c.in-Ok.ensures.given) in (
      refl,
      subst (λ (z : List ℕ). Rests c.args.setup.now e (Serving c.args.asked (Uploading c.args.reading t)) b (Silent c.silently-then-is_empty.result) z) (sym c.skip.ensures)
          (fed_on c.args.setup.now e c.args.asked c.args.reading k2 t c.args.transfer (take n b) b n c.silently-then-is_empty.result some c.requires.within p
          (subst (λ vs. Reads c.args.reading k2 (take n b) vs) none reads) c.silently-then-is_empty.ensures),
    )

pub returns-else-is_empty : goal.returns-else-is_empty
returns-else-is_empty g c e t some p =
    let b = c.args.input.now in
    let n = c.args.count in
    let k2 = c.feed-fed.new.self in
    let v = c.feed-fed.new.triples in
    let full = filled v.items c.is_empty.result c.is_empty.ensures c.if-is_empty.false in
    let reads : Reads c.args.reading k2 (take n b) v.items = subst (λ (z : List ℕ). Reads c.args.reading k2 (take n z) v.items) c.as_slice.ensures (fed_by c.args.reading k2 _ _ v.items (ap (λ (l : Listed). l.items) c.new-triples.ensures) c.in-Ok.ensures.given) in
    let long : 0 < length (take n b) = omega (arith, length-take-le n b c.requires.within, some) in
    subst (λ (z : List ℕ). DoesStep g.D.Door.Gives c.args.setup.now e (Serving c.args.asked (Uploading c.args.reading t)) b c.args.door.now (Made c.stage.result) z c.stage.new.door) (sym c.skip.ensures)
    (fed_staged g.D.Door.Gives c.args.setup.now e c.args.asked c.args.reading k2 t c.args.transfer (take n b) b n v c.args.door.now c.stage.new.door c.stage.result p long full reads c.stage.ensures)

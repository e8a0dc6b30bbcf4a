use Rattle.std.proofs.Common.{None, refl, sym, ap, ◌∙◌, arith}
use Rattle.std.proofs.lemmas.List.{length-map}
use Rattle.gs_pool.specs.Places.{place_at, free_place, relinked}
use Rattle.gs_pool.specs.Lists.{pin_of}
use Rattle.gs_pool.proofs.MapLemmas.{at_itself}
use Rattle.gs_pool.proofs.StateLemmas.{retired_listed}
use Rattle.gs_pool.proofs.FollowLemmas.{has_last, nodes_same, marks_same, pin_shown}
use Rattle.gs_pool.proofs.HandOverLemmas.{some_first, few_handed, handed_sound, pins_handed, counts_handed}
use Rattle.gs_pool.proofs.pools.Pool.hand_over.Goals as goal

pub relink-requires-clause-within : goal.relink-requires-clause-within
relink-requires-clause-within c =
    let lt = rw (← c.self.view_is, length-map c.self.inside.holds.items pin_of) at c.requires.list in
    let some = some_first c.index.result.now.first (rw c.if-is_none.false at c.is_none.ensures) in
    let last = has_last _ _ _ _ _ _ _ _ _ c.args.list c.index.result.now c.self.invariant lt c.index.ensures some.0 some.1 in
    omega (arith, last.within)

pub relink-requires-clause-listed : goal.relink-requires-clause-listed
relink-requires-clause-listed c =
    let lt = rw (← c.self.view_is, length-map c.self.inside.holds.items pin_of) at c.requires.list in
    let some = some_first c.index.result.now.first (rw c.if-is_none.false at c.is_none.ensures) in
    let last = has_last _ _ _ _ _ _ _ _ _ c.args.list c.index.result.now c.self.invariant lt c.index.ensures some.0 some.1 in
    let d = place_at c.self.inside.places c.index.result.now.last in
    retired_listed d.state d.death (last.retired d (at_itself c.self.inside.places.items c.index.result.now.last (free_place None)))

pub joined-requires : goal.joined-requires
joined-requires c =
    let lt = rw (← c.self.view_is, length-map c.self.inside.holds.items pin_of) at c.requires.list in
    let to = rw (← c.self.view_is, length-map c.self.inside.holds.items pin_of) at c.requires.other in
    omega (arith, few_handed _ _ _ _ _ _ _ _ _ c.args.list c.args.other c.index.result.now c.index-onto.result.now c.self.invariant lt to c.requires.apart c.index.ensures c.index-onto.ensures, c.self.invariant.small)

pub invariant_of-self : goal.invariant_of-self
invariant_of-self c =
    let lt = rw (← c.self.view_is, length-map c.self.inside.holds.items pin_of) at c.requires.list in
    let to = rw (← c.self.view_is, length-map c.self.inside.holds.items pin_of) at c.requires.other in
    let some = some_first c.index.result.now.first (rw c.if-is_none.false at c.is_none.ensures) in
    let pins = sym (pin_shown c.args.self.now c.self.inside.holds.items c.args.list c.index.result.now (ap (λ p. p.pins) (sym c.self.view_is)) lt c.index.ensures) ∙ c.requires.same ∙ pin_shown c.args.self.now c.self.inside.holds.items c.args.other c.index-onto.result.now (ap (λ p. p.pins) (sym c.self.view_is)) to c.index-onto.ensures in
    rw (c.relink.ensures, c.empty.ensures, c.joined.ensures) (handed_sound _ _ _ _ _ _ _ _ _ c.args.list c.args.other c.index.result.now c.index-onto.result.now c.self.invariant lt to c.requires.apart c.index.ensures c.index-onto.ensures some.0 (relinked (place_at c.self.inside.places c.index.result.now.last) c.index-onto.result.now.first) (place_at c.self.inside.places c.index.result.now.last) some.1 pins (at_itself c.self.inside.places.items c.index.result.now.last (free_place None)) refl refl refl refl)

pub returns-clause-nodes : goal.returns-clause-nodes
returns-clause-nodes c =
    let lt = rw (← c.self.view_is, length-map c.self.inside.holds.items pin_of) at c.requires.list in
    rw (← c.self.view_is, c.relink.ensures) (nodes_same _ _ _ _ _ _ _ _ _ c.args.list c.index.result.now c.self.invariant lt c.index.ensures (relinked (place_at c.self.inside.places c.index.result.now.last) c.index-onto.result.now.first) (place_at c.self.inside.places c.index.result.now.last) (at_itself c.self.inside.places.items c.index.result.now.last (free_place None)) refl refl)

pub returns-clause-marks : goal.returns-clause-marks
returns-clause-marks c =
    let lt = rw (← c.self.view_is, length-map c.self.inside.holds.items pin_of) at c.requires.list in
    rw (← c.self.view_is, c.relink.ensures) (marks_same _ _ _ _ _ _ _ _ _ c.args.list c.index.result.now c.self.invariant lt c.index.ensures (relinked (place_at c.self.inside.places c.index.result.now.last) c.index-onto.result.now.first) (place_at c.self.inside.places c.index.result.now.last) (at_itself c.self.inside.places.items c.index.result.now.last (free_place None)) refl refl)

pub returns-clause-pins : goal.returns-clause-pins
returns-clause-pins c =
    let lt = rw (← c.self.view_is, length-map c.self.inside.holds.items pin_of) at c.requires.list in
    let to = rw (← c.self.view_is, length-map c.self.inside.holds.items pin_of) at c.requires.other in
    rw (← c.self.view_is, c.empty.ensures, c.joined.ensures) (pins_handed _ _ _ _ _ _ _ _ _ c.args.list c.args.other c.index.result.now c.index-onto.result.now c.self.invariant lt to c.requires.apart c.index.ensures c.index-onto.ensures)

pub returns-clause-held : goal.returns-clause-held
returns-clause-held c =
    let lt = rw (← c.self.view_is, length-map c.self.inside.holds.items pin_of) at c.requires.list in
    let to = rw (← c.self.view_is, length-map c.self.inside.holds.items pin_of) at c.requires.other in
    rw (c.empty.ensures, c.joined.ensures) (counts_handed _ _ _ _ _ _ _ _ _ c.args.list c.args.other c.index.result.now c.index-onto.result.now c.self.invariant lt to c.requires.apart c.index.ensures c.index-onto.ensures c.args.self.now _ (ap (λ p. p.held) (sym c.self.view_is)) refl)

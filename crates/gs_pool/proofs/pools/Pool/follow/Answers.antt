use Rattle.std.proofs.Common.{None, refl, sym, ap, ◌∙◌, arith, get_or}
use Rattle.std.proofs.lemmas.List.{length-map}
use Rattle.gs_pool.specs.Places.{place_at, free_place, relinked}
use Rattle.gs_pool.specs.Lists.{pin_of, hold_count}
use Rattle.gs_pool.proofs.MapLemmas.{at_itself}
use Rattle.gs_pool.proofs.StateLemmas.{retired_listed}
use Rattle.gs_pool.proofs.FollowLemmas.{emptied_sound, released_sound, few_held, has_last, nodes_same, marks_same, pins_set, pins_follow, none_let_go, all_let_go, none_counted, counts_else, counts_own, held_shown}
use Rattle.gs_pool.proofs.pools.Pool.follow.Goals as goal

pub returns-then-eq-clause-pins : goal.returns-then-eq-clause-pins
returns-then-eq-clause-pins c =
    let lt = rw (← c.self.view_is, length-map c.self.inside.holds.items pin_of) at c.requires in
    rw (← c.self.view_is) (pins_follow c.self.inside.holds.items c.args.list c.index.result.now c.args.pin lt c.index.ensures (sym c.eq.ensures ∙ c.if-eq.true))

pub invariant_of-self : goal.invariant_of-self
invariant_of-self c =
    let lt = rw (← c.self.view_is, length-map c.self.inside.holds.items pin_of) at c.requires in
    rw c.empty.ensures (emptied_sound _ _ _ _ _ _ _ _ _ c.args.list c.index.result.now c.self.invariant lt c.index.ensures c.args.pin c.in_default.is)

pub returns-in_default-clause-pins : goal.returns-in_default-clause-pins
returns-in_default-clause-pins c = rw (← c.self.view_is) (pins_set c.self.inside.holds.items c.args.list c.empty.result c.args.pin (ap pin_of c.empty.ensures))

pub relink-requires-clause-within : goal.relink-requires-clause-within
relink-requires-clause-within c =
    let lt = rw (← c.self.view_is, length-map c.self.inside.holds.items pin_of) at c.requires in
    let last = has_last _ _ _ _ _ _ _ _ _ c.args.list c.index.result.now c.self.invariant lt c.index.ensures c.in-Some.first c.in-Some.is in
    omega (arith, last.within)

pub relink-requires-clause-listed : goal.relink-requires-clause-listed
relink-requires-clause-listed c =
    let lt = rw (← c.self.view_is, length-map c.self.inside.holds.items pin_of) at c.requires in
    let last = has_last _ _ _ _ _ _ _ _ _ c.args.list c.index.result.now c.self.invariant lt c.index.ensures c.in-Some.first c.in-Some.is in
    let d = place_at c.self.inside.places c.index.result.now.last in
    retired_listed d.state d.death (last.retired d (at_itself c.self.inside.places.items c.index.result.now.last (free_place None)))

pub overflow_add-self : goal.overflow_add-self
overflow_add-self c =
    let lt = rw (← c.self.view_is, length-map c.self.inside.holds.items pin_of) at c.requires in
    omega (arith, few_held _ _ _ _ _ _ _ _ _ c.args.list c.index.result.now c.self.invariant lt c.index.ensures, c.self.invariant.small)

pub invariant_of-self-2 : goal.invariant_of-self-2
invariant_of-self-2 c =
    let lt = rw (← c.self.view_is, length-map c.self.inside.holds.items pin_of) at c.requires in
    rw (c.relink.ensures, c.empty.ensures) (released_sound _ _ _ _ _ _ _ _ _ c.args.list c.index.result.now c.self.invariant lt c.index.ensures c.args.pin c.in-Some.first (relinked (place_at c.self.inside.places c.index.result.now.last) c.self.inside.first_retired) (place_at c.self.inside.places c.index.result.now.last) c.in-Some.is (at_itself c.self.inside.places.items c.index.result.now.last (free_place None)) refl refl refl refl)

pub returns-clause-nodes : goal.returns-clause-nodes
returns-clause-nodes c =
    let lt = rw (← c.self.view_is, length-map c.self.inside.holds.items pin_of) at c.requires in
    rw (← c.self.view_is, c.relink.ensures) (nodes_same _ _ _ _ _ _ _ _ _ c.args.list c.index.result.now c.self.invariant lt c.index.ensures (relinked (place_at c.self.inside.places c.index.result.now.last) c.self.inside.first_retired) (place_at c.self.inside.places c.index.result.now.last) (at_itself c.self.inside.places.items c.index.result.now.last (free_place None)) refl refl)

pub returns-clause-marks : goal.returns-clause-marks
returns-clause-marks c =
    let lt = rw (← c.self.view_is, length-map c.self.inside.holds.items pin_of) at c.requires in
    rw (← c.self.view_is, c.relink.ensures) (marks_same _ _ _ _ _ _ _ _ _ c.args.list c.index.result.now c.self.invariant lt c.index.ensures (relinked (place_at c.self.inside.places c.index.result.now.last) c.self.inside.first_retired) (place_at c.self.inside.places c.index.result.now.last) (at_itself c.self.inside.places.items c.index.result.now.last (free_place None)) refl refl)

pub returns-clause-pins : goal.returns-clause-pins
returns-clause-pins c = rw (← c.self.view_is) (pins_set c.self.inside.holds.items c.args.list c.empty.result c.args.pin (ap pin_of c.empty.ensures))

pub returns-then-eq-clause-loose : goal.returns-then-eq-clause-loose
returns-then-eq-clause-loose c =
    let lt = rw (← c.self.view_is, length-map c.self.inside.holds.items pin_of) at c.requires in
    omega (arith, none_let_go c.args.self.now c.self.inside.holds.items c.args.list c.index.result.now c.args.pin (ap (λ p. p.pins) (sym c.self.view_is)) lt c.index.ensures (sym c.eq.ensures ∙ c.if-eq.true))

pub returns-in_default-clause-loose : goal.returns-in_default-clause-loose
returns-in_default-clause-loose c =
    let lt = rw (← c.self.view_is, length-map c.self.inside.holds.items pin_of) at c.requires in
    omega (arith, ap (λ p. p.loose) c.self.view_is, all_let_go c.args.self.now c.self.inside.holds.items c.args.list c.index.result.now c.args.pin (ap (λ p. p.pins) (sym c.self.view_is)) (ap (λ p. p.held) (sym c.self.view_is)) lt c.index.ensures (sym c.eq.ensures ∙ c.if-eq.false), none_counted _ _ _ _ _ c.args.list c.index.result.now c.self.invariant.retired_lists lt c.index.ensures c.in_default.is)

pub returns-clause-loose : goal.returns-clause-loose
returns-clause-loose c =
    let lt = rw (← c.self.view_is, length-map c.self.inside.holds.items pin_of) at c.requires in
    omega (arith, ap (λ p. p.loose) c.self.view_is, all_let_go c.args.self.now c.self.inside.holds.items c.args.list c.index.result.now c.args.pin (ap (λ p. p.pins) (sym c.self.view_is)) (ap (λ p. p.held) (sym c.self.view_is)) lt c.index.ensures (sym c.eq.ensures ∙ c.if-eq.false))

pub returns-in_default-clause-held : goal.returns-in_default-clause-held
returns-in_default-clause-held c = λ other ne. counts_else c.self.inside.holds.items c.args.list other c.empty.result ne ∙ ap (λ p. get_or p.held other 0) c.self.view_is

pub returns-clause-held : goal.returns-clause-held
returns-clause-held c = λ other ne. counts_else c.self.inside.holds.items c.args.list other c.empty.result ne ∙ ap (λ p. get_or p.held other 0) c.self.view_is

pub returns-in_default-clause-own : goal.returns-in_default-clause-own
returns-in_default-clause-own c =
    let lt = rw (← c.self.view_is, length-map c.self.inside.holds.items pin_of) at c.requires in
    omega (arith, counts_own c.self.inside.holds.items c.args.list c.empty.result lt, ap hold_count c.empty.ensures, held_shown c.args.self.now c.self.inside.holds.items c.args.list c.index.result.now (ap (λ p. p.held) (sym c.self.view_is)) lt c.index.ensures, all_let_go c.args.self.now c.self.inside.holds.items c.args.list c.index.result.now c.args.pin (ap (λ p. p.pins) (sym c.self.view_is)) (ap (λ p. p.held) (sym c.self.view_is)) lt c.index.ensures (sym c.eq.ensures ∙ c.if-eq.false))

pub returns-clause-own : goal.returns-clause-own
returns-clause-own c =
    let lt = rw (← c.self.view_is, length-map c.self.inside.holds.items pin_of) at c.requires in
    omega (arith, counts_own c.self.inside.holds.items c.args.list c.empty.result lt, ap hold_count c.empty.ensures, held_shown c.args.self.now c.self.inside.holds.items c.args.list c.index.result.now (ap (λ p. p.held) (sym c.self.view_is)) lt c.index.ensures, all_let_go c.args.self.now c.self.inside.holds.items c.args.list c.index.result.now c.args.pin (ap (λ p. p.pins) (sym c.self.view_is)) (ap (λ p. p.held) (sym c.self.view_is)) lt c.index.ensures (sym c.eq.ensures ∙ c.if-eq.false))

use Rattle.std.proofs.Common.{◌≡◌, ◌-◌, min, length-set, refl, sym, ap, arith, ◌∙◌, get_or}
use Rattle.std.specs.Prelude.{is_none}
use Rattle.gs_pool.specs.Pool.{plain, retired, is_retired, is_aside}
use Rattle.gs_pool.specs.Places.{place_at, listed_place, content_of, node_of, retired_state}
use Rattle.gs_pool.specs.Lists.{pin_of, hold_count}
use Rattle.gs_pool.proofs.StateLemmas.{retired_is_listed, node_in_retired, mark_in_retired}
use Rattle.gs_pool.proofs.PlaceLemmas.{is_plain_at, relists, marked}
use Rattle.gs_pool.proofs.FollowLemmas.{few_held, list_within, needed_place, more_sound, pins_kept, counts_else, counts_own, held_shown}
use Rattle.gs_pool.proofs.pools.Pool.hold.Goals as goal

pub list-requires-clause-within : goal.list-requires-clause-within
list-requires-clause-within c =
    let u = is_plain_at c.self.inside.places.items c.args.entry.id (rw (← c.self.view_is) at c.requires.used) (rw (← c.self.view_is) at c.requires.unlisted) in
    u.used.within

pub list-requires-clause-plain : goal.list-requires-clause-plain
list-requires-clause-plain c =
    let u = is_plain_at c.self.inside.places.items c.args.entry.id (rw (← c.self.view_is) at c.requires.used) (rw (← c.self.view_is) at c.requires.unlisted) in
    u.state

pub list-requires-clause-listed : goal.list-requires-clause-listed
list-requires-clause-listed c = rw c.retired-state.ensures (retired_is_listed c.args.entry.whole)

pub with_first-requires : goal.with_first-requires
with_first-requires c =
    let lt = list_within c.args.self.now c.self.inside.holds.items c.args.list c.args.entry.id c.args.entry.death c.requires.needed (ap (λ p. p.pins) (sym c.self.view_is)) in
    omega (arith, few_held _ _ _ _ _ _ _ _ _ c.args.list c.index-hold.result.now c.self.invariant lt c.index-hold.ensures, c.self.invariant.small)

pub invariant_of-self : goal.invariant_of-self
invariant_of-self c =
    let d = place_at c.self.inside.places c.args.entry.id in
    let s = listed_place (retired_state c.args.entry.whole) (content_of d) c.args.entry.death c.index-hold.result.now.first in
    let u = is_plain_at c.self.inside.places.items c.args.entry.id (rw (← c.self.view_is) at c.requires.used) (rw (← c.self.view_is) at c.requires.unlisted) in
    let mark = mark_in_retired c.args.entry.whole c.args.entry.death in
    let same : node_of s ≡ node_of d = node_in_retired c.args.entry.whole (content_of d) ∙ sym u.used.node in
    let lt = list_within c.args.self.now c.self.inside.holds.items c.args.list c.args.entry.id c.args.entry.death c.requires.needed (ap (λ p. p.pins) (sym c.self.view_is)) in
    let kept = needed_place c.args.self.now c.self.inside.places.items c.self.inside.holds.items c.args.list c.args.entry.id c.args.entry.death s d c.requires.needed u.used (ap (λ p. p.nodes) (sym c.self.view_is)) (ap (λ p. p.pins) (sym c.self.view_is)) refl refl (ap is_retired mark) in
    rw (c.list.ensures, c.retired-state.ensures, c.with_first.ensures) (more_sound _ _ _ _ _ _ _ _ _ c.args.list c.index-hold.result.now c.self.invariant lt c.index-hold.ensures c.args.entry.id s d u.read u.used.within u.used.not_free u.unlisted (ap is_none same ∙ u.used.not_free) (ap is_aside mark) kept refl)

pub returns-clause-marks : goal.returns-clause-marks
returns-clause-marks c =
    let d = place_at c.self.inside.places c.args.entry.id in
    let s = listed_place (retired_state c.args.entry.whole) (content_of d) c.args.entry.death c.index-hold.result.now.first in
    let u = is_plain_at c.self.inside.places.items c.args.entry.id (rw (← c.self.view_is) at c.requires.used) (rw (← c.self.view_is) at c.requires.unlisted) in
    let mark = mark_in_retired c.args.entry.whole c.args.entry.death in
    let same : node_of s ≡ node_of d = node_in_retired c.args.entry.whole (content_of d) ∙ sym u.used.node in
    let r = relists c.self.inside.places.items c.args.entry.id s d plain (retired c.args.entry.death c.args.entry.whole) u.used.within u.read same u.unlisted mark in
    rw (← c.self.view_is, c.list.ensures, c.retired-state.ensures) (marked _ _ c.self.inside.places.items c.args.entry.id s plain (retired c.args.entry.death c.args.entry.whole) r refl refl refl refl (ap (λ n. min c.self.inside.places.capacity c.self.inside.limit - n) (length-set c.self.inside.places.items c.args.entry.id s)) refl)

pub returns-clause-aside : goal.returns-clause-aside
returns-clause-aside c =
    let d = place_at c.self.inside.places c.args.entry.id in
    let s = listed_place (retired_state c.args.entry.whole) (content_of d) c.args.entry.death c.index-hold.result.now.first in
    let u = is_plain_at c.self.inside.places.items c.args.entry.id (rw (← c.self.view_is) at c.requires.used) (rw (← c.self.view_is) at c.requires.unlisted) in
    let mark = mark_in_retired c.args.entry.whole c.args.entry.death in
    let same : node_of s ≡ node_of d = node_in_retired c.args.entry.whole (content_of d) ∙ sym u.used.node in
    let r = relists c.self.inside.places.items c.args.entry.id s d plain (retired c.args.entry.death c.args.entry.whole) u.used.within u.read same u.unlisted mark in
    rw (← c.self.view_is, c.list.ensures, c.retired-state.ensures) (omega (arith, r.aside_ones))

pub returns-clause-pins : goal.returns-clause-pins
returns-clause-pins c = rw (← c.self.view_is) (pins_kept c.self.inside.holds.items c.args.list c.with_first.result c.index-hold.result.now c.index-hold.ensures (ap pin_of c.with_first.ensures))

pub returns-clause-held : goal.returns-clause-held
returns-clause-held c = λ other ne. counts_else c.self.inside.holds.items c.args.list other c.with_first.result ne ∙ ap (λ p. get_or p.held other 0) c.self.view_is

pub returns-clause-own : goal.returns-clause-own
returns-clause-own c =
    let lt = list_within c.args.self.now c.self.inside.holds.items c.args.list c.args.entry.id c.args.entry.death c.requires.needed (ap (λ p. p.pins) (sym c.self.view_is)) in
    omega (arith, counts_own c.self.inside.holds.items c.args.list c.with_first.result lt, ap hold_count c.with_first.ensures, held_shown c.args.self.now c.self.inside.holds.items c.args.list c.index-hold.result.now (ap (λ p. p.held) (sym c.self.view_is)) lt c.index-hold.ensures)

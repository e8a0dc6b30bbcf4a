use Rattle.std.proofs.Common.{◌≡◌, ◌-◌, min, length-set, refl, sym, ap, arith, ◌∙◌}
use Rattle.std.specs.Prelude.{is_none}
use Rattle.gs_pool.specs.Pool.{plain, retired}
use Rattle.gs_pool.specs.Places.{place_at, listed_place, content_of, node_of, retired_state}
use Rattle.gs_pool.proofs.StateLemmas.{retired_is_listed, node_in_retired, mark_in_retired}
use Rattle.gs_pool.proofs.PlaceLemmas.{is_plain_at, relists, marked, retired_sound}
use Rattle.gs_pool.proofs.pools.Pool.retire.Goals as goal

pub list-requires-clause-within : goal.list-requires-clause-within
list-requires-clause-within c =
    let u = is_plain_at c.self.inside.places.items c.args.entry.id (rw (← c.self.view_is) at c.requires.used) (rw (← c.self.view_is) at c.requires.unlisted) in
    u.used.within

pub list-requires-clause-plain : goal.list-requires-clause-plain
list-requires-clause-plain c =
    let u = is_plain_at c.self.inside.places.items c.args.entry.id (rw (← c.self.view_is) at c.requires.used) (rw (← c.self.view_is) at c.requires.unlisted) in
    u.state

pub list-requires-clause-listed : goal.list-requires-clause-listed
list-requires-clause-listed c = rw c.retired-state.ensures (retired_is_listed c.args.entry.whole)

pub invariant_of-self : goal.invariant_of-self
invariant_of-self c =
    let d = place_at c.self.inside.places c.args.entry.id in
    let s = listed_place (retired_state c.args.entry.whole) (content_of d) c.args.entry.death c.self.inside.first_retired in
    let u = is_plain_at c.self.inside.places.items c.args.entry.id (rw (← c.self.view_is) at c.requires.used) (rw (← c.self.view_is) at c.requires.unlisted) in
    let mark = mark_in_retired c.args.entry.whole c.args.entry.death in
    let same : node_of s ≡ node_of d = node_in_retired c.args.entry.whole (content_of d) ∙ sym u.used.node in
    rw (c.list.ensures, c.retired-state.ensures) (retired_sound _ _ _ _ _ _ _ _ _ _ s d c.self.invariant u.read c.args.entry.death c.args.entry.whole u.used.within u.used.not_free u.unlisted (ap is_none same ∙ u.used.not_free) mark refl)

pub returns-clause-marks : goal.returns-clause-marks
returns-clause-marks c =
    let d = place_at c.self.inside.places c.args.entry.id in
    let s = listed_place (retired_state c.args.entry.whole) (content_of d) c.args.entry.death c.self.inside.first_retired in
    let u = is_plain_at c.self.inside.places.items c.args.entry.id (rw (← c.self.view_is) at c.requires.used) (rw (← c.self.view_is) at c.requires.unlisted) in
    let mark = mark_in_retired c.args.entry.whole c.args.entry.death in
    let same : node_of s ≡ node_of d = node_in_retired c.args.entry.whole (content_of d) ∙ sym u.used.node in
    let r = relists c.self.inside.places.items c.args.entry.id s d plain (retired c.args.entry.death c.args.entry.whole) u.used.within u.read same u.unlisted mark in
    rw (← c.self.view_is, c.list.ensures, c.retired-state.ensures) (marked _ _ c.self.inside.places.items c.args.entry.id s plain (retired c.args.entry.death c.args.entry.whole) r refl refl refl refl (ap (λ n. min c.self.inside.places.capacity c.self.inside.limit - n) (length-set c.self.inside.places.items c.args.entry.id s)) refl)

pub returns-clause-aside : goal.returns-clause-aside
returns-clause-aside c =
    let d = place_at c.self.inside.places c.args.entry.id in
    let s = listed_place (retired_state c.args.entry.whole) (content_of d) c.args.entry.death c.self.inside.first_retired in
    let u = is_plain_at c.self.inside.places.items c.args.entry.id (rw (← c.self.view_is) at c.requires.used) (rw (← c.self.view_is) at c.requires.unlisted) in
    let mark = mark_in_retired c.args.entry.whole c.args.entry.death in
    let same : node_of s ≡ node_of d = node_in_retired c.args.entry.whole (content_of d) ∙ sym u.used.node in
    let r = relists c.self.inside.places.items c.args.entry.id s d plain (retired c.args.entry.death c.args.entry.whole) u.used.within u.read same u.unlisted mark in
    rw (← c.self.view_is, c.list.ensures, c.retired-state.ensures) (omega (arith, r.aside_ones))

pub returns-clause-retired : goal.returns-clause-retired
returns-clause-retired c =
    let d = place_at c.self.inside.places c.args.entry.id in
    let s = listed_place (retired_state c.args.entry.whole) (content_of d) c.args.entry.death c.self.inside.first_retired in
    let u = is_plain_at c.self.inside.places.items c.args.entry.id (rw (← c.self.view_is) at c.requires.used) (rw (← c.self.view_is) at c.requires.unlisted) in
    let mark = mark_in_retired c.args.entry.whole c.args.entry.death in
    let same : node_of s ≡ node_of d = node_in_retired c.args.entry.whole (content_of d) ∙ sym u.used.node in
    let r = relists c.self.inside.places.items c.args.entry.id s d plain (retired c.args.entry.death c.args.entry.whole) u.used.within u.read same u.unlisted mark in
    rw (← c.self.view_is, c.list.ensures, c.retired-state.ensures) (omega (arith, r.retired_ones))

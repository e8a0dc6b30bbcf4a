use Rattle.std.proofs.Common.{◌-◌, min, length-set, None, refl, sym, ap, arith}
use Rattle.gs_pool.specs.Pool.{plain, retired, is_aside, is_retired}
use Rattle.gs_pool.specs.Places.{place_at, free_place, plain_place, content_of, is_whole}
use Rattle.gs_pool.proofs.HoldLemmas.{none_loose, loose_within}
use Rattle.gs_pool.proofs.FollowLemmas.{are_held}
use Rattle.gs_pool.proofs.StateLemmas.{retired_listed}
use Rattle.gs_pool.proofs.PlaceLemmas.{marked, unretired_sound}
use Rattle.gs_pool.proofs.MapLemmas.{at_itself}
use Rattle.gs_pool.proofs.ShownLemmas.{leaves_retired}
use Rattle.gs_pool.proofs.pools.Pool.next_retired.Goals as goal

pub returns-in_err-id-clause-loose : goal.returns-in_err-id-clause-loose
returns-in_err-id-clause-loose c =
    let none = none_loose c.self.inside.places.items c.self.inside.first_retired c.self.inside.holds.items c.self.inside.loose c.self.inside.retired c.self.invariant.retired_lists c.in_err-id.was in
    rw (c.from_residual.ensures, ← c.self.view_is) none

pub returns-in_err-id-clause-held : goal.returns-in_err-id-clause-held
returns-in_err-id-clause-held c =
    let held = are_held c.args.self.now c.self.inside.places.items c.self.inside.first_retired c.self.inside.holds.items c.self.inside.loose c.self.inside.retired c.self.invariant.retired_lists c.in_err-id.was (ap (λ p. p.nodes) (sym c.self.view_is)) (ap (λ p. p.marks) (sym c.self.view_is)) (ap (λ p. p.pins) (sym c.self.view_is)) in
    rw c.from_residual.ensures held

pub unlist-next-requires-clause-within : goal.unlist-next-requires-clause-within
unlist-next-requires-clause-within c = omega (arith, loose_within c.self.inside.places.items c.self.inside.first_retired c.self.inside.holds.items c.self.inside.loose c.self.inside.retired c.self.invariant.retired_lists c.in_ok-id.id c.in_ok-id.was)

pub unlist-next-requires-clause-listed : goal.unlist-next-requires-clause-listed
unlist-next-requires-clause-listed c =
    let d = place_at c.self.inside.places c.in_ok-id.id in
    let s = plain_place (content_of d) in
    let l = leaves_retired c.self.inside.places.items c.self.inside.first_retired c.self.inside.holds.items c.self.inside.loose c.self.inside.retired c.in_ok-id.id s d c.self.invariant.retired_lists c.in_ok-id.was (at_itself c.self.inside.places.items c.in_ok-id.id (free_place None)) refl refl refl in
    retired_listed d.state d.death (ap is_retired l.was)

pub invariant_of-self : goal.invariant_of-self
invariant_of-self c =
    let d = place_at c.self.inside.places c.in_ok-id.id in
    let s = plain_place (content_of d) in
    let l = leaves_retired c.self.inside.places.items c.self.inside.first_retired c.self.inside.holds.items c.self.inside.loose c.self.inside.retired c.in_ok-id.id s d c.self.invariant.retired_lists c.in_ok-id.was (at_itself c.self.inside.places.items c.in_ok-id.id (free_place None)) refl refl refl in
    rw (c.unlist-next.ensures.places, c.unlist-next.ensures.next) (unretired_sound _ _ _ _ _ _ _ _ _ _ s d c.self.invariant (at_itself c.self.inside.places.items c.in_ok-id.id (free_place None)) c.in_ok-id.was l.not_free (ap is_aside l.was) l.still_used l.now)

pub returns-clause-takes : goal.returns-clause-takes
returns-clause-takes c =
    let d = place_at c.self.inside.places c.in_ok-id.id in
    let s = plain_place (content_of d) in
    let l = leaves_retired c.self.inside.places.items c.self.inside.first_retired c.self.inside.holds.items c.self.inside.loose c.self.inside.retired c.in_ok-id.id s d c.self.invariant.retired_lists c.in_ok-id.was (at_itself c.self.inside.places.items c.in_ok-id.id (free_place None)) refl refl refl in
    rw (← c.self.view_is, c.unlist-next.ensures.places, c.unlist-next.ensures.taken) record {
      used = (content_of d, l.shown);
      was = l.mark;
      marks = marked _ _ c.self.inside.places.items c.in_ok-id.id s (retired d.death (is_whole d.state)) plain l.relists refl refl refl refl (ap (λ n. min c.self.inside.places.capacity c.self.inside.limit - n) (length-set c.self.inside.places.items c.in_ok-id.id s)) refl;
    }

pub returns-clause-aside : goal.returns-clause-aside
returns-clause-aside c =
    let d = place_at c.self.inside.places c.in_ok-id.id in
    let s = plain_place (content_of d) in
    let l = leaves_retired c.self.inside.places.items c.self.inside.first_retired c.self.inside.holds.items c.self.inside.loose c.self.inside.retired c.in_ok-id.id s d c.self.invariant.retired_lists c.in_ok-id.was (at_itself c.self.inside.places.items c.in_ok-id.id (free_place None)) refl refl refl in
    rw (← c.self.view_is, c.unlist-next.ensures.places) (omega (arith, l.relists.aside_ones))

pub returns-clause-retired : goal.returns-clause-retired
returns-clause-retired c =
    let d = place_at c.self.inside.places c.in_ok-id.id in
    let s = plain_place (content_of d) in
    let l = leaves_retired c.self.inside.places.items c.self.inside.first_retired c.self.inside.holds.items c.self.inside.loose c.self.inside.retired c.in_ok-id.id s d c.self.invariant.retired_lists c.in_ok-id.was (at_itself c.self.inside.places.items c.in_ok-id.id (free_place None)) refl refl refl in
    rw (← c.self.view_is, c.unlist-next.ensures.places) (omega (arith, l.relists.retired_ones))

use Rattle.std.proofs.Common.{◌-◌, min, length-set, None, refl, ap, arith, ◌∙◌}
use Rattle.gs_pool.specs.Pool.{plain, aside, is_aside, is_retired}
use Rattle.gs_pool.specs.Places.{place_at, free_place, plain_place, next_of, content_of, is_whole, is_aside_place}
use Rattle.gs_pool.proofs.ListLemmas.{none_listed, first_within}
use Rattle.gs_pool.proofs.StateLemmas.{aside_listed}
use Rattle.gs_pool.proofs.PlaceLemmas.{marked, unaside_sound}
use Rattle.gs_pool.specs.Places.{mark_of}
use Rattle.gs_pool.proofs.MapLemmas.{at_itself, count_shown}
use Rattle.gs_pool.proofs.ShownLemmas.{leaves_aside}
use Rattle.gs_pool.proofs.pools.Pool.next_aside.Goals as goal

pub returns-in_err-id-clause-none : goal.returns-in_err-id-clause-none
returns-in_err-id-clause-none c =
    let none = none_listed next_of is_aside_place c.self.inside.places.items c.self.inside.first_aside c.self.invariant.aside_list c.in_err-id.was in
    rw (c.from_residual.ensures, ← c.self.view_is) (count_shown is_aside mark_of c.self.inside.places.items ∙ none)

pub unlist-next-requires-clause-within : goal.unlist-next-requires-clause-within
unlist-next-requires-clause-within c = omega (arith, first_within next_of is_aside_place c.self.inside.places.items c.self.inside.first_aside c.in_ok-id.id c.self.invariant.aside_list c.in_ok-id.was)

pub unlist-next-requires-clause-listed : goal.unlist-next-requires-clause-listed
unlist-next-requires-clause-listed c =
    let d = place_at c.self.inside.places c.in_ok-id.id in
    let s = plain_place (content_of d) in
    let l = leaves_aside c.self.inside.places.items c.self.inside.first_aside c.in_ok-id.id s d c.self.invariant.aside_list c.in_ok-id.was (at_itself c.self.inside.places.items c.in_ok-id.id (free_place None)) refl refl refl in
    aside_listed d.state d.death (ap is_aside l.was)

pub invariant_of-self : goal.invariant_of-self
invariant_of-self c =
    let d = place_at c.self.inside.places c.in_ok-id.id in
    let s = plain_place (content_of d) in
    let l = leaves_aside c.self.inside.places.items c.self.inside.first_aside c.in_ok-id.id s d c.self.invariant.aside_list c.in_ok-id.was (at_itself c.self.inside.places.items c.in_ok-id.id (free_place None)) refl refl refl in
    rw (c.unlist-next.ensures.places, c.unlist-next.ensures.next) (unaside_sound _ _ _ _ _ _ _ _ _ _ s d c.self.invariant (at_itself c.self.inside.places.items c.in_ok-id.id (free_place None)) c.in_ok-id.was l.not_free (ap is_retired l.was) l.still_used l.now)

pub returns-clause-takes : goal.returns-clause-takes
returns-clause-takes c =
    let d = place_at c.self.inside.places c.in_ok-id.id in
    let s = plain_place (content_of d) in
    let l = leaves_aside c.self.inside.places.items c.self.inside.first_aside c.in_ok-id.id s d c.self.invariant.aside_list c.in_ok-id.was (at_itself c.self.inside.places.items c.in_ok-id.id (free_place None)) refl refl refl in
    rw (← c.self.view_is, c.unlist-next.ensures.places, c.unlist-next.ensures.taken) record {
      used = (content_of d, l.shown);
      was = l.mark;
      marks = marked _ _ c.self.inside.places.items c.in_ok-id.id s (aside d.death (is_whole d.state)) plain l.relists refl refl refl refl (ap (λ n. min c.self.inside.places.capacity c.self.inside.limit - n) (length-set c.self.inside.places.items c.in_ok-id.id s)) refl;
    }

pub returns-clause-none : goal.returns-clause-none
returns-clause-none c =
    let d = place_at c.self.inside.places c.in_ok-id.id in
    let s = plain_place (content_of d) in
    let l = leaves_aside c.self.inside.places.items c.self.inside.first_aside c.in_ok-id.id s d c.self.invariant.aside_list c.in_ok-id.was (at_itself c.self.inside.places.items c.in_ok-id.id (free_place None)) refl refl refl in
    rw (← c.self.view_is, c.unlist-next.ensures.places) (omega (arith, l.relists.aside_ones))

pub returns-clause-retired : goal.returns-clause-retired
returns-clause-retired c =
    let d = place_at c.self.inside.places c.in_ok-id.id in
    let s = plain_place (content_of d) in
    let l = leaves_aside c.self.inside.places.items c.self.inside.first_aside c.in_ok-id.id s d c.self.invariant.aside_list c.in_ok-id.was (at_itself c.self.inside.places.items c.in_ok-id.id (free_place None)) refl refl refl in
    rw (← c.self.view_is, c.unlist-next.ensures.places) (omega (arith, l.relists.retired_ones))

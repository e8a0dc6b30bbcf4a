use Rattle.std.proofs.Common.{None, ◌<◌, refl, arith, length, length-set}
use Rattle.std.specs.Prelude.{is_none}
use Rattle.std.proofs.lemmas.List.{length_push}
use Rattle.gs_pool.specs.Places.{place_at, free_place, plain_place, next_of, is_free_place, node_of}
use Rattle.gs_pool.proofs.ListLemmas.{none_listed}
use Rattle.gs_pool.proofs.MapLemmas.{at_itself, count_shown}
use Rattle.gs_pool.proofs.StateLemmas.{free_state_is, unlisted_state}
use Rattle.gs_pool.proofs.PlaceLemmas.{filled_sound}
use Rattle.gs_pool.proofs.ShownLemmas.{filled, pushed, pushed_sound}
use Rattle.gs_pool.proofs.pools.Pool.alloc_reserved.Goals as goal

pub next_free-self-inside-requires-clause-within : goal.next_free-self-inside-requires-clause-within
next_free-self-inside-requires-clause-within c =
    let f = filled _ _ _ _ _ _ _ _ _ c.in-Some.id (plain_place c.args.node) (place_at c.self.inside.places c.in-Some.id) c.args.node c.self.invariant c.in-Some.is (at_itself c.self.inside.places.items c.in-Some.id (free_place None)) refl refl in
    f.within

pub next_free-self-inside-requires-clause-free : goal.next_free-self-inside-requires-clause-free
next_free-self-inside-requires-clause-free c =
    let d = place_at c.self.inside.places c.in-Some.id in
    let f = filled _ _ _ _ _ _ _ _ _ c.in-Some.id (plain_place c.args.node) (place_at c.self.inside.places c.in-Some.id) c.args.node c.self.invariant c.in-Some.is (at_itself c.self.inside.places.items c.in-Some.id (free_place None)) refl refl in
    free_state_is d.state (d.node) f.was

pub put-requires-clause-within : goal.put-requires-clause-within
put-requires-clause-within c =
    let f = filled _ _ _ _ _ _ _ _ _ c.in-Some.id (plain_place c.args.node) (place_at c.self.inside.places c.in-Some.id) c.args.node c.self.invariant c.in-Some.is (at_itself c.self.inside.places.items c.in-Some.id (free_place None)) refl refl in
    f.within

pub put-requires-clause-unlisted : goal.put-requires-clause-unlisted
put-requires-clause-unlisted c =
    let d = place_at c.self.inside.places c.in-Some.id in
    let f = filled _ _ _ _ _ _ _ _ _ c.in-Some.id (plain_place c.args.node) (place_at c.self.inside.places c.in-Some.id) c.args.node c.self.invariant c.in-Some.is (at_itself c.self.inside.places.items c.in-Some.id (free_place None)) refl refl in
    unlisted_state d.state d.death f.mark

pub invariant_of-self : goal.invariant_of-self
invariant_of-self c =
    let f = filled _ _ _ _ _ _ _ _ _ c.in-Some.id (plain_place c.args.node) (place_at c.self.inside.places c.in-Some.id) c.args.node c.self.invariant c.in-Some.is (at_itself c.self.inside.places.items c.in-Some.id (free_place None)) refl refl in
    let sound = filled_sound _ _ _ _ _ _ _ _ _ c.in-Some.id (plain_place c.args.node) (place_at c.self.inside.places c.in-Some.id) c.self.invariant (at_itself c.self.inside.places.items c.in-Some.id (free_place None)) c.in-Some.is f.mark refl refl in
    rw (c.put.ensures, c.next_free-self-inside.ensures) sound.1

pub push-requires : goal.push-requires
push-requires c =
    let none = none_listed next_of is_free_place _ _ c.self.invariant.free_list c.in-None.is in
    let room = rw (← c.self.view_is) at c.requires in
    omega (arith, count_shown is_none node_of c.self.inside.places.items)

pub invariant_of-self-in-None : goal.invariant_of-self-in-None
invariant_of-self-in-None c =
    let none = none_listed next_of is_free_place _ _ c.self.invariant.free_list c.in-None.is in
    let room = rw (← c.self.view_is) at c.requires in
    let short : length c.self.inside.places.items < c.self.inside.limit = omega (arith, count_shown is_none node_of c.self.inside.places.items) in
    rw c.push.ensures (pushed_sound _ _ _ _ _ _ _ _ _ (plain_place c.args.node) c.args.node c.self.invariant short refl refl)

pub returns-in-Some-clause-fills : goal.returns-in-Some-clause-fills
returns-in-Some-clause-fills c =
    let f = filled _ _ _ _ _ _ _ _ _ c.in-Some.id (plain_place c.args.node) (place_at c.self.inside.places c.in-Some.id) c.args.node c.self.invariant c.in-Some.is (at_itself c.self.inside.places.items c.in-Some.id (free_place None)) refl refl in
    rw (← c.self.view_is, c.put.ensures) (f.fills _ _ refl refl refl refl refl)

pub returns-in-Some-clause-room : goal.returns-in-Some-clause-room
returns-in-Some-clause-room c =
    let f = filled _ _ _ _ _ _ _ _ _ c.in-Some.id (plain_place c.args.node) (place_at c.self.inside.places c.in-Some.id) c.args.node c.self.invariant c.in-Some.is (at_itself c.self.inside.places.items c.in-Some.id (free_place None)) refl refl in
    rw (← c.self.view_is, c.put.ensures) (omega (arith, f.fewer, length-set c.self.inside.places.items c.in-Some.id (plain_place c.args.node)))

pub returns-in-None-clause-fills : goal.returns-in-None-clause-fills
returns-in-None-clause-fills c =
    let none = none_listed next_of is_free_place _ _ c.self.invariant.free_list c.in-None.is in
    let room = rw (← c.self.view_is) at c.requires in
    let short : length c.self.inside.places.items < c.self.inside.limit = omega (arith, count_shown is_none node_of c.self.inside.places.items) in
    let p = pushed _ _ _ _ _ _ _ _ _ (plain_place c.args.node) c.args.node c.self.invariant c.in-None.is short refl refl in
    rw (← c.self.view_is, c.len-id.ensures, c.push.ensures) (p.fills _ _ refl refl refl refl refl)

pub returns-in-None-clause-room : goal.returns-in-None-clause-room
returns-in-None-clause-room c =
    let none = none_listed next_of is_free_place _ _ c.self.invariant.free_list c.in-None.is in
    let room = rw (← c.self.view_is) at c.requires in
    let short : length c.self.inside.places.items < c.self.inside.limit = omega (arith, count_shown is_none node_of c.self.inside.places.items) in
    let p = pushed _ _ _ _ _ _ _ _ _ (plain_place c.args.node) c.args.node c.self.invariant c.in-None.is short refl refl in
    rw (← c.self.view_is, c.push.ensures) (omega (arith, p.free, length_push c.self.inside.places.items (plain_place c.args.node), count_shown is_none node_of c.self.inside.places.items))

use Rattle.std.proofs.Common.{refl, sym, ap, arith, is_some}
use Rattle.std.specs.Prelude.{is_none}
use Rattle.gs_pool.specs.Places.{place_at, plain_place}
use Rattle.gs_pool.proofs.StateLemmas.{unlisted_state}
use Rattle.gs_pool.proofs.PlaceLemmas.{is_plain_at, writes, changed_sound}
use Rattle.gs_pool.proofs.ShownLemmas.{marks_kept, numbers_kept}
use Rattle.gs_pool.proofs.pools.Pool.set.Goals as goal

pub put-requires-clause-within : goal.put-requires-clause-within
put-requires-clause-within c =
    let u = is_plain_at c.self.inside.places.items c.args.id (rw (← c.self.view_is) at c.requires.used) (rw (← c.self.view_is) at c.requires.unlisted) in
    u.used.within

pub put-requires-clause-unlisted : goal.put-requires-clause-unlisted
put-requires-clause-unlisted c =
    let d = place_at c.self.inside.places c.args.id in
    let u = is_plain_at c.self.inside.places.items c.args.id (rw (← c.self.view_is) at c.requires.used) (rw (← c.self.view_is) at c.requires.unlisted) in
    unlisted_state d.state d.death u.unlisted

pub invariant_of-self : goal.invariant_of-self
invariant_of-self c =
    let s = plain_place c.args.node in
    let d = place_at c.self.inside.places c.args.id in
    let u = is_plain_at c.self.inside.places.items c.args.id (rw (← c.self.view_is) at c.requires.used) (rw (← c.self.view_is) at c.requires.unlisted) in
    rw c.put.ensures (changed_sound _ _ _ _ _ _ _ _ _ _ s d c.self.invariant u.read u.used.within u.used.not_free u.unlisted refl refl)

pub returns-clause-updates : goal.returns-clause-updates
returns-clause-updates c =
    let s = plain_place c.args.node in
    let d = place_at c.self.inside.places c.args.id in
    let u = is_plain_at c.self.inside.places.items c.args.id (rw (← c.self.view_is) at c.requires.used) (rw (← c.self.view_is) at c.requires.unlisted) in
    let w = writes c.self.inside.places.items c.args.id s d u.used.within u.read in
    rw (← c.self.view_is, c.put.ensures) record {
      changed = w.node;
      others = λ x ne. w.node_others x ne;
    }

pub returns-clause-marks : goal.returns-clause-marks
returns-clause-marks c =
    let s = plain_place c.args.node in
    let d = place_at c.self.inside.places c.args.id in
    let u = is_plain_at c.self.inside.places.items c.args.id (rw (← c.self.view_is) at c.requires.used) (rw (← c.self.view_is) at c.requires.unlisted) in
    rw (← c.self.view_is, c.put.ensures) (marks_kept c.self.inside.places.items c.args.id s d u.read (sym u.unlisted))

pub returns-clause-room : goal.returns-clause-room
returns-clause-room c =
    let s = plain_place c.args.node in
    let d = place_at c.self.inside.places c.args.id in
    let u = is_plain_at c.self.inside.places.items c.args.id (rw (← c.self.view_is) at c.requires.used) (rw (← c.self.view_is) at c.requires.unlisted) in
    let w = writes c.self.inside.places.items c.args.id s d u.used.within u.read in
    let same = rw (ap is_none u.used.node) at w.free in
    rw (← c.self.view_is, c.put.ensures) (omega (arith, same))

pub returns-clause-in_use : goal.returns-clause-in_use
returns-clause-in_use c =
    let s = plain_place c.args.node in
    let d = place_at c.self.inside.places c.args.id in
    let u = is_plain_at c.self.inside.places.items c.args.id (rw (← c.self.view_is) at c.requires.used) (rw (← c.self.view_is) at c.requires.unlisted) in
    let w = writes c.self.inside.places.items c.args.id s d u.used.within u.read in
    let same = rw (ap is_some u.used.node) at w.used in
    rw (← c.self.view_is, c.put.ensures) (omega (arith, same))

pub returns-clause-numbers : goal.returns-clause-numbers
returns-clause-numbers c = rw (← c.self.view_is, c.put.ensures) (numbers_kept c.self.inside.places.items c.args.id (plain_place c.args.node))

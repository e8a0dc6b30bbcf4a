use Rattle.std.proofs.Common.{ap}
use Rattle.std.proofs.lemmas.List.{length-map}
use Rattle.gs_pool.specs.Places.{is_listed}
use Rattle.gs_pool.specs.Slots.{place_of}
use Rattle.gs_pool.proofs.SlotLemmas.{pushed_laid}
use Rattle.gs_pool.proofs.places.Places.push.Goals as goal

pub invariant_of-self : goal.invariant_of-self
invariant_of-self c =
    let room = rw (← c.self.view_is, length-map c.self.inside.slots.items (place_of c.self.inside.tails)) at c.requires in
    rw (c.push_reserved.ensures.items, c.push_reserved.ensures.capacity) (pushed_laid c.self.inside.slots.items c.self.inside.tails c.self.inside.room c.self.inside.slots.cap c.self.invariant c.plain.result (ap is_listed c.plain.ensures.state) room)

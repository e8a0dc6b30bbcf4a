use Rattle.std.proofs.Common.{sym, ap, ◌∙◌, get_or}
use Rattle.std.proofs.lemmas.List.{length-map}
use Rattle.gs_pool.specs.Places.{PlaceList, free_place, is_listed}
use Rattle.gs_pool.specs.Slots.{place_of}
use Rattle.gs_pool.proofs.MapLemmas.{at_itself}
use Rattle.gs_pool.proofs.SlotLemmas.{free_seen, state_read, put_laid, put_seen}
use Rattle.gs_pool.proofs.places.Places.free.Goals as goal

pub invariant_of-self : goal.invariant_of-self
invariant_of-self c =
    let within = rw (← c.self.view_is, length-map c.self.inside.slots.items (place_of c.self.inside.tails)) at c.requires.within in
    let d = get_or c.self.inside.slots.items c.args.id c.free.result in
    let read = at_itself c.self.inside.slots.items c.args.id c.free.result in
    let unlisted = rw (← c.self.view_is) at c.requires.unlisted in
    let off = ap is_listed (sym (state_read c.self.inside.slots.items c.self.inside.tails c.self.inside.room c.self.inside.slots.cap c.self.invariant c.args.id d within read)) ∙ unlisted in
    put_laid c.self.inside.slots.items c.self.inside.tails c.self.inside.room c.self.inside.slots.cap c.self.invariant c.args.id d within read c.free.result off (ap is_listed c.free.ensures.state)

pub returns : goal.returns
returns c =
    let within = rw (← c.self.view_is, length-map c.self.inside.slots.items (place_of c.self.inside.tails)) at c.requires.within in
    let d = get_or c.self.inside.slots.items c.args.id c.free.result in
    let read = at_itself c.self.inside.slots.items c.args.id c.free.result in
    rw (← c.self.view_is) (ap {B = PlaceList} (λ xs. record { items = xs; capacity = c.self.inside.room }) (put_seen c.self.inside.slots.items c.self.inside.tails c.self.inside.room c.self.inside.slots.cap c.self.invariant c.args.id d within read c.free.result (free_place c.args.next) (free_seen c.self.inside.tails c.free.result c.args.next c.free.ensures.state c.free.ensures.left)))

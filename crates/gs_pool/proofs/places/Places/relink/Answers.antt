use Rattle.std.proofs.Common.{sym, ap, ◌∙◌}
use Rattle.std.proofs.lemmas.List.{length-map}
use Rattle.gs_pool.specs.Places.{PlaceList, relinked, is_listed}
use Rattle.gs_pool.specs.Slots.{place_of}
use Rattle.gs_pool.proofs.SlotLemmas.{tail_seen, place_read, state_read, relink_laid, relink_seen}
use Rattle.gs_pool.proofs.places.Places.relink.Goals as goal

pub invariant_of-self : goal.invariant_of-self
invariant_of-self c =
    let within = rw (← c.self.view_is, length-map c.self.inside.slots.items (place_of c.self.inside.tails)) at c.requires.within in
    let d = c.index.result.now in
    let on = ap is_listed (sym (state_read c.self.inside.slots.items c.self.inside.tails c.self.inside.room c.self.inside.slots.cap c.self.invariant c.args.id d within c.index.ensures)) ∙ (rw (← c.self.view_is) at c.requires.listed) in
    relink_laid c.self.inside.slots.items c.self.inside.tails c.self.inside.room c.self.inside.slots.cap c.self.invariant c.args.id d within c.index.ensures c.set.new.self _ on c.set.ensures.sets c.set.ensures.used

pub returns : goal.returns
returns c =
    let within = rw (← c.self.view_is, length-map c.self.inside.slots.items (place_of c.self.inside.tails)) at c.requires.within in
    let d = c.index.result.now in
    let on = ap is_listed (sym (state_read c.self.inside.slots.items c.self.inside.tails c.self.inside.room c.self.inside.slots.cap c.self.invariant c.args.id d within c.index.ensures)) ∙ (rw (← c.self.view_is) at c.requires.listed) in
    let was = place_read c.self.inside.slots.items c.self.inside.tails c.self.inside.room c.self.inside.slots.cap c.self.invariant c.args.id d within c.index.ensures ∙ tail_seen c.self.inside.tails d c.get-tail.result on c.get-tail.ensures in
    let now = tail_seen c.set.new.self d _ on c.set.ensures.sets.now ∙ ap (λ p. relinked p c.args.next) (sym was) in
    rw (← c.self.view_is) (ap {B = PlaceList} (λ xs. record { items = xs; capacity = c.self.inside.room }) (relink_seen c.self.inside.slots.items c.self.inside.tails c.self.inside.room c.self.inside.slots.cap c.self.invariant c.args.id d within c.index.ensures c.set.new.self _ on c.set.ensures.sets _ now))

use Rattle.std.proofs.Common.{refl, sym, ap, ◌∙◌}
use Rattle.std.proofs.lemmas.List.{length-map}
use Rattle.gs_pool.specs.declared.slots.State.TheVariants.{Plain}
use Rattle.gs_pool.specs.Places.{PlaceList, plain_place, content_of, is_listed}
use Rattle.gs_pool.specs.Slots.{place_of, node_born, reused}
use Rattle.gs_pool.proofs.SlotLemmas.{plain_seen, tail_seen, place_read, state_read, unlist_laid, unlist_seen}
use Rattle.gs_pool.proofs.places.Places.unlist.Goals as goal

pub invariant_of-self : goal.invariant_of-self
invariant_of-self c =
    let within = rw (← c.self.view_is, length-map c.self.inside.slots.items (place_of c.self.inside.tails)) at c.requires.within in
    let d = c.index-slot.result.now in
    let on = ap is_listed (sym (state_read c.self.inside.slots.items c.self.inside.tails c.self.inside.room c.self.inside.slots.cap c.self.invariant c.args.id d within c.index-slot.ensures)) ∙ (rw (← c.self.view_is) at c.requires.listed) in
    rw c.with_birth.ensures (unlist_laid c.self.inside.slots.items c.self.inside.tails c.self.inside.room c.self.inside.slots.cap c.self.invariant c.args.id d within c.index-slot.ensures (reused d Plain c.take-tail.result.birth) c.take-tail.new.self on c.take-tail.ensures.sets refl c.take-tail.ensures.used)

pub returns-clause-places : goal.returns-clause-places
returns-clause-places c =
    let within = rw (← c.self.view_is, length-map c.self.inside.slots.items (place_of c.self.inside.tails)) at c.requires.within in
    let d = c.index-slot.result.now in
    let t = c.take-tail.result in
    let s = reused d Plain t.birth in
    let on = ap is_listed (sym (state_read c.self.inside.slots.items c.self.inside.tails c.self.inside.room c.self.inside.slots.cap c.self.invariant c.args.id d within c.index-slot.ensures)) ∙ (rw (← c.self.view_is) at c.requires.listed) in
    let node = ap content_of (place_read c.self.inside.slots.items c.self.inside.tails c.self.inside.room c.self.inside.slots.cap c.self.invariant c.args.id d within c.index-slot.ensures ∙ tail_seen c.self.inside.tails d t on c.take-tail.ensures.was) in
    let now = plain_seen c.take-tail.new.self s (node_born d t.birth) refl refl ∙ ap plain_place (sym node) in
    rw (c.with_birth.ensures, ← c.self.view_is) (ap {B = PlaceList} (λ xs. record { items = xs; capacity = c.self.inside.room }) (unlist_seen c.self.inside.slots.items c.self.inside.tails c.self.inside.room c.self.inside.slots.cap c.self.invariant c.args.id d within c.index-slot.ensures s c.take-tail.new.self on c.take-tail.ensures.sets _ now))

use Rattle.std.proofs.Common.{◌≡◌, refl, sym, ap, ◌∙◌}
use Rattle.std.proofs.lemmas.List.{length-map}
use Rattle.gs_pool.specs.Places.{PlaceList, listed_place, content_of, is_listed}
use Rattle.gs_pool.specs.Slots.{place_of, node_born, reused}
use Rattle.gs_pool.proofs.SlotLemmas.{plain_seen, tail_seen, place_read, state_read, has_room, list_laid, list_seen}
use Rattle.gs_pool.proofs.places.Places.list.Goals as goal

pub add-number-requires : goal.add-number-requires
add-number-requires c =
    let within = rw (← c.self.view_is, length-map c.self.inside.slots.items (place_of c.self.inside.tails)) at c.requires.within in
    let d = c.index-slot.result.now in
    let plain = sym (state_read c.self.inside.slots.items c.self.inside.tails c.self.inside.room c.self.inside.slots.cap c.self.invariant c.args.id d within c.index-slot.ensures) ∙ (rw (← c.self.view_is) at c.requires.plain) in
    has_room c.self.inside.slots.items c.self.inside.tails c.self.inside.room c.self.inside.slots.cap c.self.invariant c.args.id d within c.index-slot.ensures (ap is_listed plain)

pub invariant_of-self : goal.invariant_of-self
invariant_of-self c =
    let within = rw (← c.self.view_is, length-map c.self.inside.slots.items (place_of c.self.inside.tails)) at c.requires.within in
    let d = c.index-slot.result.now in
    let plain = sym (state_read c.self.inside.slots.items c.self.inside.tails c.self.inside.room c.self.inside.slots.cap c.self.invariant c.args.id d within c.index-slot.ensures) ∙ (rw (← c.self.view_is) at c.requires.plain) in
    rw c.with_birth.ensures (list_laid c.self.inside.slots.items c.self.inside.tails c.self.inside.room c.self.inside.slots.cap c.self.invariant c.args.id d within c.index-slot.ensures (reused d c.args.state c.add-number.result) c.add-number.new.self _ c.add-number.ensures.sets (ap is_listed plain) c.requires.listed c.add-number.ensures.was_free c.add-number.ensures.used)

pub returns : goal.returns
returns c =
    let within = rw (← c.self.view_is, length-map c.self.inside.slots.items (place_of c.self.inside.tails)) at c.requires.within in
    let d = c.index-slot.result.now in
    let s = reused d c.args.state c.add-number.result in
    let plain = sym (state_read c.self.inside.slots.items c.self.inside.tails c.self.inside.room c.self.inside.slots.cap c.self.invariant c.args.id d within c.index-slot.ensures) ∙ (rw (← c.self.view_is) at c.requires.plain) in
    let was : place_of c.self.inside.tails d ≡ _ = plain_seen c.self.inside.tails d (node_born d d.birth) plain refl in
    let node = ap content_of (place_read c.self.inside.slots.items c.self.inside.tails c.self.inside.room c.self.inside.slots.cap c.self.invariant c.args.id d within c.index-slot.ensures ∙ was) in
    let now = tail_seen c.add-number.new.self s _ c.requires.listed c.add-number.ensures.sets.now ∙ ap (λ n. listed_place c.args.state n c.args.death c.args.next) (sym node) in
    rw (c.with_birth.ensures, ← c.self.view_is) (ap {B = PlaceList} (λ xs. record { items = xs; capacity = c.self.inside.room }) (list_seen c.self.inside.slots.items c.self.inside.tails c.self.inside.room c.self.inside.slots.cap c.self.invariant c.args.id d within c.index-slot.ensures s c.add-number.new.self _ c.add-number.ensures.sets _ c.add-number.ensures.was_free now))

use Rattle.std.proofs.Common.{refl, sym, ap}
use Rattle.std.proofs.lemmas.List.{length-map}
use Rattle.gs_pool.specs.Lists.{pin_of}
use Rattle.gs_pool.proofs.HandOverLemmas.{exchanged_sound, exchanges}
use Rattle.gs_pool.proofs.pools.Pool.exchange.Goals as goal

pub invariant_of-self : goal.invariant_of-self
invariant_of-self c =
    let lt = rw (← c.self.view_is, length-map c.self.inside.holds.items pin_of) at c.requires.list in
    let to = rw (← c.self.view_is, length-map c.self.inside.holds.items pin_of) at c.requires.other in
    exchanged_sound _ _ _ _ _ _ _ _ _ c.args.list c.args.other c.index-hold.result.now c.index-onto.result.now c.self.invariant lt to c.requires.apart c.index-hold.ensures c.index-onto.ensures

pub returns-clause-lists : goal.returns-clause-lists
returns-clause-lists c =
    let lt = rw (← c.self.view_is, length-map c.self.inside.holds.items pin_of) at c.requires.list in
    let to = rw (← c.self.view_is, length-map c.self.inside.holds.items pin_of) at c.requires.other in
    exchanges _ _ _ _ _ _ _ _ _ c.args.list c.args.other c.index-hold.result.now c.index-onto.result.now c.self.invariant lt to c.requires.apart c.index-hold.ensures c.index-onto.ensures c.args.self.now _ (ap (λ p. p.pins) (sym c.self.view_is)) (ap (λ p. p.held) (sym c.self.view_is)) refl refl

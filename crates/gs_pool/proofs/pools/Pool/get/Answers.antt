use Rattle.std.proofs.Common.{None, is_some, ap}
use Rattle.gs_pool.specs.Places.{place_at, free_place}
use Rattle.gs_pool.proofs.MapLemmas.{at_itself}
use Rattle.gs_pool.proofs.PlaceLemmas.{is_used}
use Rattle.gs_pool.proofs.pools.Pool.get.Goals as goal

pub node-requires : goal.node-requires
node-requires c =
    let u = is_used c.self.inside.places.items c.args.id (place_at c.self.inside.places c.args.id) (at_itself c.self.inside.places.items c.args.id (free_place None)) (rw (← c.self.view_is) at c.requires) in
    ap is_some u.node

pub returns : goal.returns
returns c =
    let u = is_used c.self.inside.places.items c.args.id (place_at c.self.inside.places c.args.id) (at_itself c.self.inside.places.items c.args.id (free_place None)) (rw (← c.self.view_is) at c.requires) in
    rw (← c.self.view_is, c.node.ensures) u.shown

use Rattle.std.proofs.Common.{arith}
use Rattle.std.specs.Prelude.{is_none, map}
use Rattle.std.proofs.lemmas.List.{length-map}
use Rattle.gs_pool.specs.Places.{node_of}
use Rattle.gs_pool.proofs.MapLemmas.{all_counted, count_shown}
use Rattle.gs_pool.proofs.ShownLemmas.{free_is_unmarked}
use Rattle.gs_pool.proofs.pools.Pool.nodes_in_use.Goals as goal

pub returns-clause-value : goal.returns-clause-value
returns-clause-value c = rw (← c.self.view_is) (omega (arith, c.len.ensures, c.self.invariant.counted, count_shown is_none node_of c.self.inside.places.items, all_counted (map node_of c.self.inside.places.items), length-map c.self.inside.places.items node_of))

pub returns-clause-parted : goal.returns-clause-parted
returns-clause-parted c = rw (← c.self.view_is) (omega (arith, c.len.ensures, c.self.invariant.counted, count_shown is_none node_of c.self.inside.places.items, length-map c.self.inside.places.items node_of, all_counted (map node_of c.self.inside.places.items)))

pub returns-clause-unmarked : goal.returns-clause-unmarked
returns-clause-unmarked c = rw (← c.self.view_is) (free_is_unmarked c.self.inside.places.items)

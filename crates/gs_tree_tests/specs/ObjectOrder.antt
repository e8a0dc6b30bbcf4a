-- The order of the tests' keys.
use Rattle.std.specs.Ordering.{nat_cmp}
use Rattle.std.specs.declared.cmp.Ordering.{Ordering}
use Rattle.gs_pool.specs.declared.nodes.Key.{Key}

-- keys are compared by their objects
abbrev pub by_object : Key → Key → Ordering
by_object a b = nat_cmp a.object b.object

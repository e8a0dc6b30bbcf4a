-- What becomes of a connection at which one read waited in vain.
use Rattle.std.specs.Prelude.{Bool, true, false, Option, Some, None}
use Rattle.gs_workers.specs.declared.ways.Way.{Way}
use Rattle.gs_workers.specs.declared.ways.Way.TheVariants.{Idle, Waits}

-- Within a request it stays, whatever else holds. Between two, one that was idle for as long as it may be ends, and another gives
-- way where others wait.
abbrev pub way_in_vain : (between stale others : Bool) → Option Way
way_in_vain false stale others = None
way_in_vain true true others = Some Idle
way_in_vain true false true = Some Waits
way_in_vain true false false = None

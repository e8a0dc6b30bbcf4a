-- A patch, as a page stores it.
use Rattle.std.specs.Prelude.{ℕ, Option}
use Rattle.gs_term.specs.declared.names.Target.{Target}
use Rattle.gs_chronicle.specs.declared.kept_ops.KeptOps.{KeptOps}
use Rattle.gs_chronicle.specs.declared.patches.Patch.{Patch}

-- the graph that is patched
abbrev pub patch_target : Patch → Target
patch_target p = p.target

-- the number of the commit since which its target must not have been written, if there is one
abbrev pub patch_since : Patch → Option ℕ
patch_since p = p.since

-- its operations, as the page keeps them
abbrev pub patch_ops : Patch → KeptOps
patch_ops p = p.ops

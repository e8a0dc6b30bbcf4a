-- An open patch: what it is for, what is noted for its operations, and when it is ready for them.
use Rattle.std.specs.Prelude.{◌≡◌, ℕ, List, map, Option, IfSome}
use Rattle.std.specs.declared.alloc.Global.{Global}
use Rattle.std.specs.declared.vec.Vec.{Vec}
use Rattle.gs_term.specs.declared.names.Target.{Target}
use Rattle.gs_event.specs.declared.updates.Op.{Op}
use Rattle.gs_chronicle.specs.declared.kept_ops.KeptOp.{KeptOp}
use Rattle.gs_chronicle.specs.declared.patches.OpenPatch.{OpenPatch}
use Rattle.gs_chronicle.specs.KeptOps.{brings, kept_brings}
use Rattle.gs_chronicle.specs.Sizes.{ops_size}

-- the graph that is patched
abbrev pub open_patch_target : OpenPatch → Target
open_patch_target p = p.target

-- its request number
abbrev pub open_patch_request : OpenPatch → ℕ
open_patch_request p = p.request

-- the number of the commit since which its target must not have been written, if there is one
abbrev pub open_patch_since : OpenPatch → Option ℕ
open_patch_since p = p.since

-- the forms that are noted of the operations that are committed next, or of those that the store refused, if they could be made
abbrev pub open_patch_forms : OpenPatch → Option (Vec KeptOp Global)
open_patch_forms p = p.forms

-- as how many triples these operations count, as is noted
abbrev pub open_patch_count : OpenPatch → ℕ
open_patch_count p = p.count

-- as how many triples the operations count is noted, and the forms, where there are some, are of these
pub record HasFormsOf (p : OpenPatch) (ops : List Op) : Type 0 where
  pub count : p.count ≡ ops_size ops
  pub forms : IfSome p.forms (λ v. map kept_brings v.items ≡ map brings ops)

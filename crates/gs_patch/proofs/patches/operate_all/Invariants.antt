-- some operations are done, and the rest is left
use Rattle.std.proofs.Common.{length}
use Rattle.gs_staging.specs.Keys.{GivesOnly}
use Rattle.gs_patch.specs.Inserted.{IsInserted}
use Rattle.gs_patch.proofs.PatchLemmas.{Patching, LeavesOnly}
use Rattle.gs_patch.proofs.patches.operate_all.Given as goal

abbrev pub invariant-loop-operation : goal.invariant-loop-operation
invariant-loop-operation l =
    Patching l.birth l.fn.dict l.dict l.fn.pool l.pool l.fn.root l.operations l.left l.draft
    × LeavesOnly l.left l.operations × GivesOnly (IsInserted l.operations) l.fn.dict.terms l.dict.terms

abbrev pub decreases-loop-operation : goal.decreases-loop-operation
decreases-loop-operation l = length l.left

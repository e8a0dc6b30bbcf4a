use Rattle.std.proofs.Common.{ap, sym, ◌∙◌}
use Rattle.gs_chronicle.specs.declared.kinds.ActionKind.TheVariants.{CommitPatch as PatchKind}
use Rattle.gs_chronicle.specs.Sizes.{ops_size}
use Rattle.gs_shared.specs.declared.asked.EventAsk.TheVariants.{Status as AsksStatus}
use Rattle.gs_shared.specs.Asked.{ask_of_action}
use Rattle.gs_shared.proofs.asked.EventAsk.within.Goals as goal

pub returns-in-CommitPatch : goal.returns-in-CommitPatch
returns-in-CommitPatch c = ap (AsksStatus PatchKind) (c.ops_size.ensures ∙ ap ops_size c.deref.ensures.value) ∙ sym (ap ask_of_action c.in-CommitPatch.is)

use Rattle.std.proofs.Common.{ap, sym, ◌∙◌}
use Rattle.gs_chronicle.specs.Sizes.{ops_size}
use Rattle.gs_audit.specs.Forms.{action_counts}
use Rattle.gs_audit.proofs.forms.count_in.Goals as goal

pub returns-in-CommitPatch : goal.returns-in-CommitPatch
returns-in-CommitPatch c = c.ops_size.ensures ∙ ap ops_size c.deref.ensures.value ∙ sym (ap action_counts c.in-CommitPatch.is)

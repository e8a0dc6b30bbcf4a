use Rattle.std.proofs.Common.{sym, ◌∙◌}
use Rattle.gs_shared.proofs.AskedLemmas.{another_kind}
use Rattle.gs_shared.proofs.shared_stores.SharedStore.event.Goals as goal

pub returns-then-is_of_another-clause-kind : goal.returns-then-is_of_another-clause-kind
returns-then-is_of_another-clause-kind g c = another_kind _ c.args.event (sym c.is_of_another.ensures ∙ c.if-is_of_another.true)

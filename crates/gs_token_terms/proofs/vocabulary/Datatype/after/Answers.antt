use Rattle.gs_token_terms.proofs.AfterLemmas.{integer_after, decimal_after, double_after, boolean_after}
use Rattle.gs_token_terms.proofs.vocabulary.Datatype.after.Goals as goal

pub returns-in-Integer-clause-after : goal.returns-in-Integer-clause-after
returns-in-Integer-clause-after c = integer_after

pub returns-in-Decimal-clause-after : goal.returns-in-Decimal-clause-after
returns-in-Decimal-clause-after c = decimal_after

pub returns-in-Double-clause-after : goal.returns-in-Double-clause-after
returns-in-Double-clause-after c = double_after

pub returns-in-Boolean-clause-after : goal.returns-in-Boolean-clause-after
returns-in-Boolean-clause-after c = boolean_after

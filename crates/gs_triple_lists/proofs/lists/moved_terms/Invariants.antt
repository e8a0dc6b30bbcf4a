use Rattle.gs_triple_lists.proofs.RenumberLemmas.{TermsMove}
use Rattle.gs_triple_lists.proofs.lists.moved_terms.Given as goal

abbrev pub invariant-loop-term : goal.invariant-loop-term
invariant-loop-term l = TermsMove l.fn.to.terms.items l.fn.from.terms.items l.to.terms.items l.from.terms.items l.numbers.items

abbrev pub decreases-loop-term : goal.decreases-loop-term
decreases-loop-term l = goal.left-loop-term l

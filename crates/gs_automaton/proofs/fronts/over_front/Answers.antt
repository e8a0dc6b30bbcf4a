use Rattle.std.proofs.Common.{sym, ◌∙◌}
use Rattle.gs_automaton.proofs.FrontLemmas.{leads-letter, leads-digit}
use Rattle.gs_automaton.proofs.fronts.over_front.Goals as goal

pub word-requires-clause-leads : goal.word-requires-clause-leads
word-requires-clause-leads c = leads-letter c.args.text.now c.args.from c.requires.start c.requires.within (sym c.is_letter.ensures ∙ c.if-is_letter.true)

pub number-requires-clause-leads : goal.number-requires-clause-leads
number-requires-clause-leads c = leads-digit c.args.text.now c.args.from c.requires.start c.requires.within (sym c.is_numeral.ensures ∙ c.if-is_numeral.true)

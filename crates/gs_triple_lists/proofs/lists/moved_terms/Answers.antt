use Rattle.std.proofs.Common.{sym, subst}
use Rattle.gs_triple_lists.proofs.RenumberLemmas.{TermsMove, terms_move_none, terms_move_next}
use Rattle.gs_triple_lists.proofs.lists.moved_terms.Goals as goal

pub loop-term-init : goal.loop-term-init
loop-term-init c =
    terms_move_none c.args.to.now.terms.items c.args.from.now.terms.items c.reverse.new.self.items c.in_ok-numbers.numbers.items c.reverse.ensures.items c.in_ok-numbers.ensures.items

pub loop-term-preserved : goal.loop-term-preserved
loop-term-preserved c =
    let first = c.args.to.now.terms.items in
    let given = c.args.from.now.terms.items in
    let l = c.loop-term in
    subst (TermsMove first given c.number_of.new.self.terms.items c.pop.new.self.items) (sym c.in_ok-push.ensures.items)
    (terms_move_next first given l.to.terms.items l.from.terms.items c.number_of.new.self.terms.items c.pop.new.self.items l.numbers.items c.in-Some.term c.in_ok-number.number l.invariant c.in-Some.ensures.items c.number_of.ensures.more c.in_ok-number.ensures.ok)

use Rattle.std.proofs.Common.{◌∙◌, [], ◌∷◌, ◌++◌, ap, sym, subst}
use Rattle.gs_triple_lists.specs.Lists.{listed}
use Rattle.gs_triple_lists.specs.Kept.{AreNumbersOf, AreTriplesIn, triple_of_terms, triples_of_numbers}
use Rattle.gs_triple_lists.proofs.ListLemmas.{on_err, triples_stay, still_triples, one_more, all_known}
use Rattle.gs_triple_lists.proofs.lists.TripleList.push.Goals as goal

pub returns-in_err-three-clause-kept : goal.returns-in_err-three-clause-kept
returns-in_err-three-clause-kept c =
    let old = c.self.inside.table.terms.items in
    let new = c.numbers_of.new.table.terms.items in
    let ks = c.self.inside.numbers.items in
    let same = ap listed (ap (triples_of_numbers new) c.reserve.ensures.items ∙ triples_stay old new ks c.numbers_of.ensures.more c.self.invariant.0) ∙ c.self.view_is in
    on_err c.from_residual-in_err-three.result same

pub invariant_of-self-in_err-three : goal.invariant_of-self-in_err-three
invariant_of-self-in_err-three c =
    let old = c.self.inside.table.terms.items in
    let new = c.numbers_of.new.table.terms.items in
    (subst (AreTriplesIn new) (sym c.reserve.ensures.items) (still_triples old new c.self.inside.numbers.items c.numbers_of.ensures.more c.self.invariant.0), tt)

pub invariant_of-self-2 : goal.invariant_of-self-2
invariant_of-self-2 c =
    let old = c.self.inside.table.terms.items in
    let new = c.numbers_of.new.table.terms.items in
    let three = c.in_ok-three.three in
    let added = c.push_reserved.ensures.items ∙ ap (λ xs. xs ++ three ∷ []) c.reserve.ensures.items in
    (all_known old new c.self.inside.numbers.items _ three _ c.numbers_of.ensures.more c.self.invariant.0 c.in_ok-three.ensures.ok added, tt)

pub returns-clause-added : goal.returns-clause-added
returns-clause-added c =
    let old = c.self.inside.table.terms.items in
    let new = c.numbers_of.new.table.terms.items in
    let three = c.in_ok-three.three in
    let t = c.args.triple in
    let is : AreNumbersOf new t three = subst (λ u. AreNumbersOf new u three) (ap (λ r. triple_of_terms r.0 r.1 r.2) c.into_terms-subject.ensures) c.in_ok-three.ensures.ok in
    let added = c.push_reserved.ensures.items ∙ ap (λ xs. xs ++ three ∷ []) c.reserve.ensures.items in
    ap listed (
    one_more old new c.self.inside.numbers.items _ three t c.numbers_of.ensures.more c.self.invariant.0 is added
    ∙ ap (λ l. l.items ++ t ∷ []) c.self.view_is)

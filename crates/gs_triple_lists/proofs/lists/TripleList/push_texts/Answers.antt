use Rattle.std.proofs.Common.{◌∙◌, [], ◌∷◌, ◌++◌, ap, subst}
use Rattle.gs_triple_lists.specs.Lists.{listed}
use Rattle.gs_triple_lists.specs.Kept.{AreNumbersOf, triples_of_numbers}
use Rattle.gs_triple_lists.specs.Texts.{triple_of_texts}
use Rattle.gs_triple_lists.proofs.ListLemmas.{on_err, same_triple, triples_stay, one_more, all_known}
use Rattle.gs_triple_lists.proofs.lists.TripleList.push_texts.Goals as goal

pub returns-in_err-three-clause-kept : goal.returns-in_err-three-clause-kept
returns-in_err-three-clause-kept c =
    let old = c.self.inside.table.terms.items in
    let new = c.numbers_of.new.table.terms.items in
    let ks = c.self.inside.numbers.items in
    let same = ap listed (ap (triples_of_numbers new) c.reserve.ensures.items ∙ triples_stay old new ks c.numbers_of.ensures.more c.self.invariant.0) ∙ c.self.view_is in
    on_err c.from_residual-in_err-three.result same

pub invariant_of-self-2 : goal.invariant_of-self-2
invariant_of-self-2 c =
    let old = c.self.inside.table.terms.items in
    let new = c.numbers_of.new.table.terms.items in
    let three = c.in_ok-three.three in
    let added = c.push_reserved.ensures.items ∙ ap (λ xs. xs ++ three ∷ []) c.reserve.ensures.items in
    (all_known old new c.self.inside.numbers.items _ three _ c.numbers_of.ensures.more c.self.invariant.0 c.in_ok-three.ensures.ok added, tt)

pub returns-clause-added : goal.returns-clause-added
returns-clause-added c =
    let old = c.self.inside.table.terms.items in
    let new = c.numbers_of.new.table.terms.items in
    let three = c.in_ok-three.three in
    let t = triple_of_texts c.args.subject.now c.args.predicate.now c.args.object.now in
    let is : AreNumbersOf new t three = subst (λ u. AreNumbersOf new u three) (same_triple c.new-subject.ensures c.new-predicate.ensures c.new-object.ensures) c.in_ok-three.ensures.ok in
    let added = c.push_reserved.ensures.items ∙ ap (λ xs. xs ++ three ∷ []) c.reserve.ensures.items in
    ap listed (
    one_more old new c.self.inside.numbers.items _ three t c.numbers_of.ensures.more c.self.invariant.0 is added
    ∙ ap (λ l. l.items ++ t ∷ []) c.self.view_is)

use Rattle.gs_triple_lists.specs.Kept.{triple_of_terms}
use Rattle.gs_triple_lists.proofs.ListLemmas.{number_stays, more_after, are_numbers}
use Rattle.gs_triple_lists.proofs.lists.numbers_of.Goals as goal

pub returns-clause-ok : goal.returns-clause-ok
returns-clause-ok g c =
    let term = g.C.Candidate.term in
    let last = c.number_of.new.self.terms.items in
    let s = c.subject_number.new.table.terms.items in
    let p = c.predicate_number.new.table.terms.items in
    are_numbers last _ (triple_of_terms (term c.args.subject) (term c.args.predicate) (term c.args.object))
    (number_stays s last _ _ (more_after s p last c.predicate_number.ensures.more c.number_of.ensures.more) c.in_ok-subject.ensures.ok)
    (number_stays p last _ _ c.number_of.ensures.more c.in_ok-predicate.ensures.ok)
    c.in_ok-object.ensures.ok
    c.requires

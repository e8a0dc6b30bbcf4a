use Rattle.std.proofs.Common.{◌≡◌, ◌∙◌, [], subst, inl, refl, Ok}
use Rattle.std.proofs.lemmas.List.{get_or_default}
use Rattle.gs_model.specs.Terms.{Iri}
use Rattle.gs_dict.specs.Numbering.{Interns}
use Rattle.gs_triple_lists.specs.Kept.{term_of_number}
use Rattle.gs_staging.proofs.NotedLemmas.{noted_still, noted_given}
use Rattle.gs_staging.proofs.keys.number_of.Goals as goal

pub returns-then-before-clause-value : goal.returns-then-before-clause-value
returns-then-before-clause-value c = inl (record { there = c.requires.noted.known c.args.number c.if-before.true; same = refl })

pub returns-in_err-id-clause-noted : goal.returns-in_err-id-clause-noted
returns-in_err-id-clause-noted c = noted_still c.args.dict.now c.intern_near.new.self c.index-terms-number.result c.intern_near.result c.args.terms.now c.args.noted.now c.intern_near.ensures c.requires.noted

pub returns-clause-noted : goal.returns-clause-noted
returns-clause-noted c =
    let d = c.args.dict.now in
    let e = c.intern_near.new.self in
    let terms = c.args.terms.now in
    let n = c.args.number in
    let same : c.index-terms-number.result ≡ term_of_number terms n = c.index-terms-number.is ∙ get_or_default terms n c.index-terms-number.result (Iri []) c.requires.given in
    noted_given d e terms c.args.noted.now n c.in_ok-id.id c.requires.given c.requires.noted (subst (λ t. Interns d t (Ok c.in_ok-id.id) e) same c.in_ok-id.ensures)

use Rattle.std.proofs.Common.{◌∙◌, ◌<◌, length, get_or, refl, ap, sym, arith}
use Rattle.std.specs.Prelude.{Some}
use Rattle.std.proofs.lemmas.Bool.Decides.{nat_tests}
use Rattle.std.proofs.lemmas.Option.{slice_get_read}
use Rattle.gs_triple_lists.proofs.ListLemmas.{same_term}
use Rattle.gs_triple_lists.proofs.tables.TermTable.is_number_of.Goals as goal

pub returns-in-Some : goal.returns-in-Some
returns-in-Some g c same =
    let known = c.in-Some.known.now in
    let there = c.in-Some.ensures.lookup.0 in
    let inside : c.args.number < length c.args.self.now.terms.items = grind (arith, nat_tests, there, c.deref.ensures.value) in
    slice_get_read c.args.self.now.terms.items _ c.args.number known refl inside (c.in-Some.ensures.lookup.1 ∙ ap (λ ts. get_or ts c.args.number known) c.deref.ensures.value)
    ∙ ap Some (same_term known (g.C.Candidate.term c.args.candidate.now) _ _ c.as_bytes.ensures.text c.text.ensures (sym c.eq.ensures ∙ same))

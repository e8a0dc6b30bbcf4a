use Rattle.std.proofs.Common.{rules, arith, length-append, ◌∷◌, []}
use Rattle.gs_model.specs.Terms.{Iri}
use Rattle.gs_term.proofs.MakingLemmas.{canonical, term_of-bytes}
use Rattle.gs_term.proofs.terms.TermText.iri.Goals as goal

pub invariant_of-result : goal.invariant_of-result
invariant_of-result c =
    canonical (Iri c.args.text.now) _ c.in_ok-bytes.ensures (search rules) c.utf8.text (rw c.in_ok-bytes.ensures (omega (arith, length-append c.args.text.now (62 ∷ []))))

pub returns : goal.returns
returns c = (
  term_of-bytes (Iri c.args.text.now) _ c.in_ok-bytes.ensures,
  search rules,
  omega (arith, length-append c.args.text.now (62 ∷ [])),
)

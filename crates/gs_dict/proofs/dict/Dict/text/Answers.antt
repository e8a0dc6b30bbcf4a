use Rattle.std.proofs.Common.{arith, subst, sym}
use Rattle.gs_dict.proofs.TermLemmas.{has_inside, given_text, number_valid}
use Rattle.gs_dict.specs.Numbering.{Numbered, IsNumberOf, HasTerm}
use Rattle.gs_dict.proofs.dict.Dict.text.Goals as goal

pub text_at-requires-clause-given : goal.text_at-requires-clause-given
text_at-requires-clause-given c =
    omega (arith, has_inside c.self.inside.texts c.self.inside.entries.items c.args.id.number (subst (λ (d : Numbered). HasTerm d.terms c.args.id.number) (sym c.self.view_is) c.requires))

pub returns-clause-value : goal.returns-clause-value
returns-clause-value c =
    rw (← c.self.view_is, rw c.deref.ensures.value at c.text_at.ensures)
    (given_text _ _ _ _ _ c.self.invariant c.args.id.number
    (subst (λ (d : Numbered). HasTerm d.terms c.args.id.number) (sym c.self.view_is) c.requires))

pub returns-clause-valid : goal.returns-clause-valid
returns-clause-valid c = λ t number. number_valid _ _ _ _ _ c.self.invariant c.args.id.number t (subst (λ (d : Numbered). IsNumberOf d.terms c.args.id.number t) (sym c.self.view_is) number)

use Rattle.std.proofs.Common.{◌∙◌, ◌++◌, ap, sym, take}
use Rattle.std.specs.Prelude.{codes}
use Rattle.gs_iri.specs.Resolving.{front_text, through_last}
use Rattle.gs_iri.proofs.TextLemmas.{range_front, through_last-take, through_last-none}
use Rattle.gs_iri.proofs.resolving.before_last_slash.Goals as goal

pub returns-in-Some : goal.returns-in-Some
unfolding front_text
returns-in-Some c =
    ap (λ z. z ++ codes "/") (c.range.ensures.value ∙ range_front c.args.path.now c.in-Some.i ∙ ap (take c.in-Some.i) (sym c.as_bytes.ensures.value))
    ∙ through_last-take c.as_bytes.result.now c.in-Some.i c.in-Some.ensures
    ∙ ap through_last c.as_bytes.ensures.value

pub returns-in-None : goal.returns-in-None
unfolding front_text
returns-in-None c = sym (ap through_last (sym c.as_bytes.ensures.value) ∙ through_last-none c.as_bytes.result.now c.in-None.ensures)

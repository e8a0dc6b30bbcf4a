use Rattle.std.proofs.Common.{rules, arith, ◌≡◌, sym, ◌∙◌}
use Rattle.std.proofs.lemmas.Grind.{common_steps}
use Rattle.gs_model.specs.Terms.{escaped}
use Rattle.gs_term.proofs.MakingLemmas.{escaped_more, escaped_plain}
use Rattle.gs_term.proofs.literals.push_escaped.Goals as goal

pub loop-b-preserved : goal.loop-b-preserved
loop-b-preserved c = grind (arith, common_steps, escaped_more)

pub returns-then-count-eq0 : goal.returns-then-count-eq0
returns-then-count-eq0 c =
    let e : escaped c.args.lexical.now ≡ c.args.lexical.now = escaped_plain c.args.lexical.now (sym c.if-count-eq0.true ∙ c.requires) in
    rw e (search rules)

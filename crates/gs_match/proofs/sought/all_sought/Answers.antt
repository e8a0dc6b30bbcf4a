use Rattle.std.proofs.Common.{◌∷◌, ◌++◌, [], map, take, sym, ap, ◌∙◌, subst}
use Rattle.std.proofs.lemmas.List.{map-append, take_more}
use Rattle.gs_match.specs.Patterns.{pattern_of, AreGiven}
use Rattle.gs_match.proofs.FoundLemmas.{given_more, lacks_at}
use Rattle.gs_match.proofs.sought.all_sought.Goals as goal

pub returns-in_default : goal.returns-in_default
returns-in_default c = lacks_at c.args.dict.now.terms c.args.patterns.now c.loop-pattern.pattern-index c.pattern-item.result c.loop-pattern-test.true c.pattern-item.is c.in_default.ensures

pub loop-pattern-preserved : goal.loop-pattern-preserved
loop-pattern-preserved c =
    let terms = c.args.dict.now.terms in
    let items = c.in_ok-push.ensures.items in (
      subst (AreGiven terms) (sym items) (given_more terms c.loop-pattern.all.items c.in-Some.sought c.loop-pattern.invariant.0 c.in-Some.ensures.0),
      ap (map (pattern_of terms)) items ∙ map-append (pattern_of terms) c.loop-pattern.all.items (c.in-Some.sought ∷ [])
          ∙ ap (λ qs. qs ++ pattern_of terms c.in-Some.sought ∷ []) c.loop-pattern.invariant.1 ∙ ap (λ q. take c.loop-pattern.pattern-index c.args.patterns.now ++ q ∷ []) (c.in-Some.ensures.1 ∙ c.pattern-item.is)
          ∙ sym (take_more c.args.patterns.now c.loop-pattern.pattern-index c.pattern-item.result c.loop-pattern-test.true),
    )

use Rattle.std.proofs.Common.{ap, ◌∙◌, subst}
use Rattle.gs_joins.specs.Numbers.{numbers_of}
use Rattle.gs_joins.specs.Lots.{weight_of, least_key_of, known_key_of, IsBetween}
use Rattle.gs_joins.proofs.TableLemmas.{serves_is}
use Rattle.gs_joins.proofs.lots.Lot.near.Goals as goal

pub returns : goal.returns
returns c =
    let t = c.turn_for-turn.result in
    let b = numbers_of c.args.bound.now in
    let known = known_key_of b c.args.self.now.sought in
    serves_is c.args.self.now b t c.table.result.now c.between.result.now c.requires c.table.ensures
    (subst (λ n. IsBetween t n (weight_of t known) c.table.result.now c.between.result.now) (c.weight.ensures ∙ ap (weight_of t) (c.least_key.ensures ∙ ap least_key_of c.known_key-known.ensures))
    (subst (λ n. IsBetween t c.weight.result n c.table.result.now c.between.result.now) (c.weight-2.ensures ∙ ap (weight_of t) c.known_key-known.ensures) c.between.ensures))

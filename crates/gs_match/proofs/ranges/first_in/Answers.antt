use Rattle.std.proofs.Common.{◌≡◌, true, false, sym, ◌∙◌, subst}
use Rattle.gs_tree.specs.Reading.{keys_at}
use Rattle.gs_match.specs.Ranges.{StartsIn}
use Rattle.gs_match.proofs.WalkLemmas.{starts_above, starts_here, starts_nowhere}
use Rattle.gs_match.proofs.ranges.first_in.Goals as goal

pub returns-then-range-eq-NO_NUMBER : goal.returns-then-range-eq-NO_NUMBER
returns-then-range-eq-NO_NUMBER c =
    let terms = c.args.keys.now.order.dict.now.terms in
    let ks = keys_at c.args.keys.now.pool.now c.args.keys.now.root in
    subst (StartsIn terms ks c.args.range) (sym c.after.ensures)
    (starts_above terms c.requires.distinct c.requires.few ks c.requires.graph.set.rising c.requires.graph.given c.args.range c.requires.form c.if-range-eq-NO_NUMBER.true)

pub returns-then-contains : goal.returns-then-contains
returns-then-contains c =
    let terms = c.args.keys.now.order.dict.now.terms in
    let ks = keys_at c.args.keys.now.pool.now c.args.keys.now.root in
    starts_here terms c.requires.distinct c.requires.few ks c.requires.graph.set.rising c.requires.graph.given c.args.range c.requires.form c.if-range-eq-NO_NUMBER.false (c.contains.ensures.0 c.if-contains.true)

pub returns-else-contains : goal.returns-else-contains
returns-else-contains c =
    let terms = c.args.keys.now.order.dict.now.terms in
    let ks = keys_at c.args.keys.now.pool.now c.args.keys.now.root in
    starts_nowhere terms c.requires.distinct c.requires.few ks c.requires.graph.set.rising c.requires.graph.given c.args.range c.requires.form c.if-range-eq-NO_NUMBER.false (λ has. let bad : true ≡ false = sym (c.contains.ensures.1 has) ∙ c.if-contains.false in cc)

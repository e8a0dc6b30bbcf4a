use Rattle.std.proofs.Common.{◌≡◌, [], Vec, Global}
use Rattle.gs_pool.specs.declared.nodes.Key.{Key}
use Rattle.gs_tree.specs.Reading.{keys_at}
use Rattle.gs_joins.specs.declared.lots.Lot.{Lot}
use Rattle.gs_joins.proofs.LotLemmas.{at_has}
use Rattle.gs_joins.proofs.GroupLemmas.{if_ok}
use Rattle.gs_match.specs.Candidates.{instances_in, ListsBy, ListsThem}
use Rattle.gs_match.specs.Seeds.{IsTurnOf}
use Rattle.gs_match.proofs.SeedLemmas.{lists_by, lists_all, lists_none}
use Rattle.gs_match.proofs.candidates.candidates.Goals as goal

pub returns-then-has_empty : goal.returns-then-has_empty
returns-then-has_empty c =
    lists_none (keys_at c.args.keys.now.pool.now c.args.keys.now.root) c.args.lots.now c.args.sought.now c.new.result.items c.new.ensures.items (c.has_empty.ensures c.if-has_empty.true)

pub returns-in-Some : goal.returns-in-Some
returns-in-Some c =
    let ks = keys_at c.args.keys.now.pool.now c.args.keys.now.root in
    let ls = c.args.lots.now in
    let s = c.args.sought.now in
    let l = c.index-lots-seed.result in
    let seed = c.in-Some.seed in
    if_ok c.by_numbers.result (λ (found : Vec Key Global). ListsBy ks s seed.turn c.in-Variable.name.now l.keys.items found.items) (λ (found : Vec Key Global). ListsThem ks ls s found.items)
    (λ (found : Vec Key Global) h. lists_by ks ls s seed.at l c.in-Variable.name.now seed.turn found.items c.in-Some.ensures.0 c.index-lots-seed.is
    (at_has (λ (z : Lot). IsTurnOf z.sought c.in-Variable.name.now seed.turn) ls seed.at l c.in-Some.ensures.0 c.index-lots-seed.is c.in-Some.ensures.1) h)
    c.by_numbers.ensures

pub returns : goal.returns
returns c =
    let ks = keys_at c.args.keys.now.pool.now c.args.keys.now.root in
    if_ok c.instances.result (λ (found : Vec Key Global). found.items ≡ instances_in [] c.args.sought.now ks) (λ (found : Vec Key Global). ListsThem ks c.args.lots.now c.args.sought.now found.items)
    (λ (found : Vec Key Global) h. lists_all ks c.args.lots.now c.args.sought.now found.items h) c.instances.ensures

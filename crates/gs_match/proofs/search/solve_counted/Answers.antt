use Rattle.std.proofs.Common.{◌≡◌, List, length, sym, ap, ◌∙◌, subst, [], arith}
use Rattle.gs_dict.specs.Numbering.{Numbered}
use Rattle.gs_tree.specs.Keys.{merge_keys}
use Rattle.gs_tree.specs.Reading.{keys_at}
use Rattle.gs_keys.specs.Texts.{key_cmp, key_total}
use Rattle.gs_joins.specs.declared.sought.Sought.{Sought}
use Rattle.gs_joins.specs.declared.lots.Lot.{Lot}
use Rattle.gs_match.specs.Patterns.{ArePatterns}
use Rattle.gs_match.specs.Found.{found_keys}
use Rattle.gs_match.specs.Solving.{AreLots, Collects}
use Rattle.gs_match.proofs.SiftLemmas.{one_is, one_pattern}
use Rattle.gs_match.proofs.FoundLemmas.{found_instances, no_instances, lists_instances}
use Rattle.gs_match.proofs.SolveLemmas.{solved}
use Rattle.gs_match.proofs.search.solve_counted.Goals as goal

pub returns-in_default-clause-value : goal.returns-in_default-clause-value
returns-in_default-clause-value c =
    c.new.ensures.items ∙ sym (no_instances c.args.dict.now.terms c.len-terms.ensures.distinct c.args.pool.now c.args.root c.requires c.args.patterns.now
    (subst (λ o. ArePatterns c.args.dict.now.terms c.args.patterns.now o) c.in_default.is c.in_ok-sought.ensures))

pub returns-in_default-clause-instances : goal.returns-in_default-clause-instances
returns-in_default-clause-instances c =
    lists_instances c.args.dict.now.terms c.len-terms.ensures.distinct c.args.pool.now c.args.root c.requires c.args.patterns.now c.new.result.items
    (c.new.ensures.items ∙ sym (no_instances c.args.dict.now.terms c.len-terms.ensures.distinct c.args.pool.now c.args.root c.requires c.args.patterns.now
    (subst (λ o. ArePatterns c.args.dict.now.terms c.args.patterns.now o) c.in_default.is c.in_ok-sought.ensures)))

pub returns-then-len-eq1-clause-value : goal.returns-then-len-eq1-clause-value
returns-then-len-eq1-clause-value c =
    let terms = c.args.dict.now.terms in
    let ks = keys_at c.args.pool.now c.args.root in
    let ss = c.in-Some.sought.items in
    let s = c.index.result.now in
    let sought = subst (λ o. ArePatterns terms c.args.patterns.now o) c.in-Some.is c.in_ok-sought.ensures in
    let many : length ss ≡ 1 = omega arith in
    one_pattern (key_cmp terms) (key_total terms) s ks c.in_ok-keys.keys.items c.requires.set.rising c.in_ok-keys.ensures
    ∙ ap (λ (zs : List Sought). merge_keys (key_cmp terms) (found_keys ks zs [] []) []) (sym (one_is ss s many c.index.ensures))
    ∙ found_instances terms c.len-terms.ensures.distinct c.args.pool.now c.args.root c.requires ss c.args.patterns.now sought.0 sought.1

pub returns-then-len-eq1-clause-instances : goal.returns-then-len-eq1-clause-instances
returns-then-len-eq1-clause-instances c =
    lists_instances c.args.dict.now.terms c.len-terms.ensures.distinct c.args.pool.now c.args.root c.requires c.args.patterns.now c.in_ok-keys.keys.items (returns-then-len-eq1-clause-value c)

pub returns-clause-value : goal.returns-clause-value
returns-clause-value c =
    let terms = c.args.dict.now.terms in
    let ks = keys_at c.args.pool.now c.args.root in
    let ss = c.in-Some.sought.items in
    let sought = subst (λ o. ArePatterns terms c.args.patterns.now o) c.in-Some.is c.in_ok-sought.ensures in
    let lots = subst (λ (zs : List Sought). AreLots ks zs c.in_ok-lots.lots.items) c.as_slice.ensures.value c.in_ok-lots.ensures in
    let collects =
    subst (λ (d : Numbered). Collects d.terms c.reduce.new.lots.items c.in_ok-found.found) c.new-order.ensures
    (subst (λ (zs : List Lot). Collects c.new-order.result.dict.now.terms zs c.in_ok-found.found) c.as_slice-2.ensures.value c.in_ok-found.ensures) in
    c.in_ok-keys-2.ensures
    ∙ solved terms ks ss c.in_ok-lots.lots.items c.reduce.new.lots.items c.in_ok-found.found c.requires.set.rising c.requires.given lots c.in_ok-reduce.ensures collects
    ∙ found_instances terms c.len-terms.ensures.distinct c.args.pool.now c.args.root c.requires ss c.args.patterns.now sought.0 sought.1

pub returns-clause-instances : goal.returns-clause-instances
returns-clause-instances c =
    lists_instances c.args.dict.now.terms c.len-terms.ensures.distinct c.args.pool.now c.args.root c.requires c.args.patterns.now c.in_ok-keys-2.keys.items (returns-clause-value c)

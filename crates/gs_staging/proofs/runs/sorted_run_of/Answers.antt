use Rattle.std.proofs.Common.{subst}
use Rattle.gs_staging.specs.Keys.{AreKeysOf, IsRunOf}
use Rattle.gs_staging.proofs.RunLemmas.{run_of_triples}
use Rattle.gs_staging.proofs.runs.sorted_run_of.Goals as goal

pub returns-clause-ok : goal.returns-clause-ok
returns-clause-ok c =
    let ks = c.in_ok-keys.keys.items in
    let run = c.put_in_order.new.keys.items in
    let sorted = subst (λ n. IsRunOf n.terms ks run) c.new-order.ensures c.put_in_order.ensures in
    run_of_triples c.keys_of.new.dict.terms c.args.triples.now.items ks run (subst (λ ts. AreKeysOf c.keys_of.new.dict.terms ts ks) c.parts.ensures.triples c.in_ok-keys.ensures.ok) sorted

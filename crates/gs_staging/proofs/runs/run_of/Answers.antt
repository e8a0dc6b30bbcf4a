use Rattle.std.proofs.lemmas.Result.{IfOk-weaker}
use Rattle.gs_triple_lists.specs.Kept.{triples_of_numbers}
use Rattle.gs_staging.specs.Keys.{AreKeysOf, IsRunOfTriples}
use Rattle.gs_staging.proofs.OrderedLemmas.{ordered_only, ordered_run}
use Rattle.gs_staging.proofs.runs.run_of.Goals as goal

pub returns-in-Some-clause-only : goal.returns-in-Some-clause-only
returns-in-Some-clause-only c =
    ordered_only c.in-Some.terms.now c.args.triples.now.items c.in-Some.numbers.now c.args.dict.now.terms c.keys_of.new.dict.terms c.in-Some.ensures c.keys_of.ensures.only

pub returns-in-Some-clause-ok : goal.returns-in-Some-clause-ok
returns-in-Some-clause-ok c =
    let known = c.in-Some.terms.now in
    let ns = c.in-Some.numbers.now in
    let terms = c.keys_of.new.dict.terms in
    let ts = c.args.triples.now.items in
    IfOk-weaker c.keys_of.result (λ keys. AreKeysOf terms (triples_of_numbers known ns) keys.items) (λ run. IsRunOfTriples terms ts run.items) (λ keys are. ordered_run terms known ts ns keys.items c.in-Some.ensures are) c.keys_of.ensures.ok

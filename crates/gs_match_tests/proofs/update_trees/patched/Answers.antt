use Rattle.gs_staging.proofs.StageLemmas.{none_staged}
use Rattle.gs_match_tests.proofs.TreeLemmas.{staged_earlier, none_aside}
use Rattle.gs_match_tests.proofs.update_trees.patched.Goals as goal

pub stage-requires : goal.stage-requires
stage-requires c = record { staged = none_staged c.args.dict.now.terms c.args.pool.now }

pub patch-requires-clause-earlier : goal.patch-requires-clause-earlier
patch-requires-clause-earlier c = staged_earlier c.args.dict.now.terms c.stage.new.dict.terms c.args.pool.now c.stage.new.pool c.args.triples.now.items c.in_ok-merged.merged c.in_ok-merged.ensures.ok

pub patch-requires-clause-none_aside : goal.patch-requires-clause-none_aside
patch-requires-clause-none_aside c = none_aside c.args.dict.now.terms c.stage.new.dict.terms c.args.pool.now c.stage.new.pool c.args.triples.now.items c.in_ok-merged.merged c.in_ok-merged.ensures.ok c.requires

use Rattle.gs_changes_tests.proofs.commits.+put_keys.Given as goal

abbrev pub decreases-put_keys : goal.decreases-put_keys
decreases-put_keys l = l.depth

use Rattle.gs_quads_tests.proofs.trees.plant_both.Goals as goal

pub returns : goal.returns
returns c = record { one = c.in_ok-two.ensures.others c.in_ok-one.one c.in_ok-one.ensures.graph; two = c.in_ok-two.ensures.graph }

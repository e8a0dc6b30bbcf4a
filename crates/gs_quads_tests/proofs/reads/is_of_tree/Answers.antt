use Rattle.gs_quads_tests.proofs.Readable.{root_there}
use Rattle.gs_quads_tests.proofs.reads.is_of_tree.Goals as goal

pub returns : goal.returns
returns c holds = root_there c.args.roots.now c.args.records.now.records c.args.number c.record.result.now c.record.ensures (c.is_one_of.ensures holds)

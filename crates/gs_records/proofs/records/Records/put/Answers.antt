use Rattle.std.proofs.Common.{sym, ◌∙◌}
use Rattle.gs_records.proofs.Putting.{puts_made}
use Rattle.gs_records.proofs.records.Records.put.Goals as goal

pub returns-else-is_nothing_of : goal.returns-else-is_nothing_of
returns-else-is_nothing_of c = puts_made c.args.self.now c.remove.new.self c.place.new.self c.args.number c.args.target c.args.version c.args.commit (sym c.is_nothing_of.ensures ∙ c.if-is_nothing_of.false) c.remove.ensures c.place.ensures

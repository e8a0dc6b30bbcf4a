use Rattle.std.proofs.Common.{option_map}
use Rattle.gs_triple_lists.specs.Lists.{Listed}
use Rattle.gs_drill.proofs.SeatLemmas.{text_ended}
use Rattle.gs_drill.proofs.uploads.Uploads.finish.Goals as goal

pub returns-clause-given : goal.returns-clause-given
returns-clause-given c =
    let old = c.args.self.now.texts.items in
    text_ended old c.take-held.new.self.texts.items c.put.new.self.texts.items c.args.seat c.take-held.result c.in_ok-ended.ended (option_map (λ (l : Listed). l.items) c.in_ok-ended.given)
    c.take-held.ensures.taken c.take-held.ensures.texts c.in_ok-ended.ensures c.put.ensures.texts

use Rattle.std.proofs.Common.{option_map, rules}
use Rattle.std.proofs.lemmas.Result.{IfOk-weaker}
use Rattle.gs_triple_lists.specs.Lists.{Listed}
use Rattle.gs_feeding.proofs.TextLemmas.{ends_text}
use Rattle.gs_feeding.proofs.texts.SeatText.finish.Goals as goal

pub returns-in-Fed : goal.returns-in-Fed
returns-in-Fed c =
    IfOk-weaker c.finish_reading.result _ _
    (λ p ended. ends_text c.args.self p.0 c.in-Fed.language c.in-Fed.reading (option_map (λ (l : Listed). l.items) p.1) c.in-Fed.is ended) c.finish_reading.ensures

pub returns-in-Faulted : goal.returns-in-Faulted
returns-in-Faulted c = search rules

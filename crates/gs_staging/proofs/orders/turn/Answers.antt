use Rattle.std.proofs.Common.{rules}
use Rattle.std.proofs.lemmas.List.{reverse-append, reverse-reverse}
use Rattle.gs_staging.proofs.orders.turn.Goals as goal

pub returns : goal.returns
returns c = search (rules, reverse-append, reverse-reverse)

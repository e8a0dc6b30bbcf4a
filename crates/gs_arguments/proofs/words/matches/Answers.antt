use Rattle.std.proofs.lemmas.Result.{IfOk-weaker}
use Rattle.gs_arguments.proofs.NumberLemmas.{workers_found, piece_found}
use Rattle.gs_arguments.proofs.words.matches.Goals as goal

pub returns-clause-workers : goal.returns-clause-workers
returns-clause-workers c =
    IfOk-weaker c.try_get_matches_from.result _ _ (λ m p. workers_found c.in_ok-command.command m c.in_ok-command.ensures p) c.try_get_matches_from.ensures.parsed

pub returns-clause-piece : goal.returns-clause-piece
returns-clause-piece c =
    IfOk-weaker c.try_get_matches_from.result _ _ (λ m p. piece_found c.in_ok-command.command m c.in_ok-command.ensures p) c.try_get_matches_from.ensures.parsed

use Rattle.std.proofs.Common.{◌≡◌, ◌∙◌, refl, sym, subst}
use Rattle.std.specs.Option.{MatchOption}
use Rattle.clap.specs.Words.{found_of}
use Rattle.gs_arguments.specs.Asked.{AskedTask, IsTask, nothing}
use Rattle.gs_arguments.proofs.AskedLemmas.{asked_by_found-is, asked_of-no_workers, asked_of-no_piece, asked_of-nothing, asked_of-way}
use Rattle.gs_arguments.proofs.tasks.task_of.Goals as goal

pub returns-in_err-workers : goal.returns-in_err-workers
returns-in_err-workers c =
    rw c.from_residual-in_err-workers.ensures
    (asked_by_found-is (found_of c.args.matches.now) _ _ _ _ _ refl refl refl c.in_err-workers.ensures refl ∙ asked_of-no_workers _ _ _ _)

pub returns-in_err-piece : goal.returns-in_err-piece
returns-in_err-piece c =
    rw c.from_residual-in_err-piece.ensures
    (asked_by_found-is (found_of c.args.matches.now) _ _ _ _ _ refl refl refl refl c.in_err-piece.ensures ∙ asked_of-no_piece _ _ _ _)

pub returns-then-is_base : goal.returns-then-is_base
returns-then-is_base c =
    let f = found_of c.args.matches.now in
    let workers = c.in_ok-workers.ensures in
    let piece = c.in_ok-piece.ensures in
    let is = asked_by_found-is f _ _ _ _ _ (sym c.get_str-listen.ensures) (sym c.in_ok-once.ensures) (sym c.in_ok-base.ensures) workers.1 piece.1
    ∙ asked_of-way _ c.in_ok-once.once.now c.in_ok-base.base.now workers.0 piece.0 c.eq.result c.in_ok-workers.workers c.in_ok-piece.piece
    c.eq.ensures (sym c.is_base.ensures ∙ c.if-is_base.true) workers.2 piece.2 in
    subst (λ (a : AskedTask). MatchOption c.way.result (a ≡ nothing) (IsTask a)) (sym is) c.way.ensures

pub returns-else-is_base : goal.returns-else-is_base
returns-else-is_base c =
    let f = found_of c.args.matches.now in
    let workers = c.in_ok-workers.ensures in
    let piece = c.in_ok-piece.ensures in
    asked_by_found-is f _ _ _ _ _ (sym c.get_str-listen.ensures) (sym c.in_ok-once.ensures) (sym c.in_ok-base.ensures) workers.1 piece.1
    ∙ asked_of-nothing _ c.in_ok-once.once.now c.in_ok-base.base.now workers.0 piece.0 (sym c.is_base.ensures ∙ c.if-is_base.false)

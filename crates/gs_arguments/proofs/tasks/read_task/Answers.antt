use Rattle.std.proofs.Common.{◌∙◌, sym, subst, map}
use Rattle.clap.specs.Words.{fault_of, found_of}
use Rattle.gs_arguments.specs.Options.{gsd}
use Rattle.gs_arguments.specs.Asked.{AskedTask, IsTask}
use Rattle.gs_arguments.proofs.FaultLemmas.{gsd_one}
use Rattle.gs_arguments.proofs.AskedLemmas.{asked_by_found-words, asked_at-help, asked_at-nothing}
use Rattle.gs_arguments.proofs.tasks.read_task.Goals as goal

pub returns-in-Some : goal.returns-in-Some
returns-in-Some c =
    let words = map (λ w. w.now) c.args.words.now in
    subst (λ (a : AskedTask). IsTask a c.in-Some.task) (asked_by_found-words (found_of c.in-Ok.matches) words c.in-Ok.ensures.ok c.in-Ok.ensures.kinds) c.in-Some.ensures

pub returns-in-Ok : goal.returns-in-Ok
returns-in-Ok c =
    let words = map (λ w. w.now) c.args.words.now in
    sym (asked_by_found-words (found_of c.in-Ok.matches) words c.in-Ok.ensures.ok c.in-Ok.ensures.kinds) ∙ c.in-None.ensures

pub returns-in-DisplayHelp : goal.returns-in-DisplayHelp
returns-in-DisplayHelp c =
    let words = map (λ w. w.now) c.args.words.now in
    (asked_at-help (fault_of gsd words) words c.in-Err.error.kind (gsd_one words) (sym c.kind.ensures ∙ c.in-DisplayHelp.is) c.in-Err.ensures.kinds, tt)

pub returns : goal.returns
returns c =
    let words = map (λ w. w.now) c.args.words.now in
    asked_at-nothing (fault_of gsd words) words c.in-Err.error.kind (gsd_one words) (λ e. c.in_default.not-DisplayHelp (c.kind.ensures ∙ e))
    (λ e. c.in_default.not-OutOfMemory (c.kind.ensures ∙ e)) c.in-Err.ensures.kinds

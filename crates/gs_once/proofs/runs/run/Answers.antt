use Rattle.std.proofs.Common.{sym, subst}
use Rattle.gs_arguments.specs.Asked.{asked_for}
use Rattle.gs_once.specs.Runs.{Performs, traffic}
use Rattle.gs_arguments.specs.declared.tasks.Task.{Task}
use Rattle.gs_once.proofs.runs.run.Goals as goal

pub returns-in-Help : goal.returns-in-Help
returns-in-Help g c =
    let unread = g.R.Read.remaining c.args.reader.now in
    let t = traffic unread unread (g.W.Write.contents c.args.out.now) (g.W.Write.contents c.show_help.new.out) in
    subst (λ (k : Task). Performs (asked_for k) t c.show_help.result) (sym c.in-Help.is) (c.show_help.ensures unread)

use Rattle.gs_commands.specs.Commands.{SaysCommand}
use Rattle.gs_drill.specs.Standing.{Standing, run_state}
use Rattle.gs_commands.proofs.CommandLemmas.{found_says}
use Rattle.gs_drill.proofs.PlayLemmas.{does_takes}
use Rattle.gs_drill.proofs.drills.take_line.Goals as goal

pub returns-in-Ok-Some : goal.returns-in-Ok-Some
returns-in-Ok-Some g c = λ st.
    let held = g.W.Write.contents in
    let does = c.do_command in
    does_takes {T = Standing does.new.store does.new.uploads} (run_state c.args.begun.now st) (run_state does.new.begun) c.in-Ok-Some.command c.args.line.now (held c.args.out.now) (held does.new.out) does.result
    (found_says SaysCommand c.args.line.now c.in-Ok-Some.field-0 c.in-Ok-Some.ensures c.in-Ok-Some.command c.in-Ok-Some.field-0-is) (does.ensures st)

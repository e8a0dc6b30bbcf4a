use Rattle.std.proofs.Common.{◌∙◌}
use Rattle.gs_commands.proofs.LineReaderLemmas.{read_line_none, read_line_other}
use Rattle.gs_commands.proofs.lines.read_line.Goals as goal

pub returns-in_default : goal.returns-in_default
returns-in_default c = read_line_none c.args.line.now c.in_ok-triple.field-0 c.in_ok-triple.ensures c.in_default.is

pub returns-else-eq : goal.returns-else-eq
returns-else-eq c =
    read_line_other c.args.line.now c.in_ok-triple.field-0 c.in-Some.triple c.as_slice.result.now c.in_ok-triple.ensures c.in-Some.is (c.as_slice.ensures.value ∙ c.in_ok-shown.ensures) c.if-eq.ensures

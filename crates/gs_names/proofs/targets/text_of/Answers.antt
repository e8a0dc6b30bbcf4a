-- What is read as text is UTF-8, and nothing else is refused.
use Rattle.std.proofs.lemmas.Str.{is_utf8-from_IsUtf8}
use Rattle.gs_names.proofs.TargetLemmas.{is_utf8-fails}
use Rattle.gs_names.proofs.targets.text_of.Goals as goal

pub returns-in-Ok : goal.returns-in-Ok
returns-in-Ok c = (c.in-Ok.ensures.cases.0, is_utf8-from_IsUtf8 c.args.bytes.now c.in-Ok.ensures.cases.1)

pub returns-in-Err : goal.returns-in-Err
returns-in-Err c = is_utf8-fails c.args.bytes.now c.in-Err.ensures.cases.0

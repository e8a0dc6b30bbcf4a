use Rattle.gs_commands.proofs.WordLemmas.{after_other}
use Rattle.gs_commands.proofs.words.after.Goals as goal

pub returns-else-eq : goal.returns-else-eq
returns-else-eq c = after_other c.args.bytes.now c.args.word.now c.split_at.result.0.now c.split_at.ensures.front c.if-eq.ensures

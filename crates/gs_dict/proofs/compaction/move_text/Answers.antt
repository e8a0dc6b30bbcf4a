use Rattle.std.proofs.Common.{refl}
use Rattle.gs_dict.proofs.CompactionLemmas.{moved_one, spared_set, spared_written}
use Rattle.gs_dict.proofs.compaction.move_text.Goals as goal

pub returns-in_ok-entries-clause-moved : goal.returns-in_ok-entries-clause-moved
returns-in_ok-entries-clause-moved c =
    moved_one _ _ _ _ _ c.requires.given c.requires.placed c.push_again.ensures.kept c.in_ok-entries.ensures.ok refl refl

pub returns-in_ok-entries-clause-ok : goal.returns-in_ok-entries-clause-ok
returns-in_ok-entries-clause-ok c =
    spared_set _ _ _ _ c.requires.given (spared_written _ _ _ _ c.requires.sealed c.push_again.ensures.kept c.in_ok-entries.ensures.last)

use Rattle.gs_dict.proofs.CompactionLemmas.{moved_twice, moved_released}
use Rattle.gs_dict.proofs.compaction.compact.Goals as goal

pub returns-clause-kept : goal.returns-clause-kept
returns-clause-kept c =
    let moved = c.move_texts.ensures.moved in
    (moved_twice _ _ _ _ _ _ moved (moved_released _ _ _ _ moved.placed c.in_ok-move_texts.ensures.ok c.release.ensures.kept)).kept

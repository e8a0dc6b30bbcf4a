use Rattle.gs_texts.proofs.PlaceLemmas.{written_keeps, written}
use Rattle.gs_texts.proofs.texts.Texts.push.Goals as goal

pub returns-clause-kept : goal.returns-clause-kept
returns-clause-kept c = rw (← c.self.view_is) (written_keeps c.write.result _ _ _ _ c.write.ensures.bytes)

pub returns-clause-ok : goal.returns-clause-ok
returns-clause-ok c = written c.write.result _ _ _ _ _ c.len-number.ensures c.write.ensures.bytes c.write.ensures.place

use Rattle.std.proofs.Common.{arith, take, drop, length, ◌++◌}
use Rattle.gs_dict.proofs.TableLemmas.{Given, given_whole}
use Rattle.gs_dict.proofs.chains.give.Goals as goal

-- what the whole call leaves
whole :
    (c : goal.After-heads-1)
    → Given c.args.number c.args.texts.now c.args.entries.now.items c.push.new.self
    (take c.args.entries.now.len (c.move_to.new.entries ++ drop (length c.move_to.new.entries) c.args.entries.now.items))
    (take c.args.heads.now.len (c.move_to.new.heads ++ drop (length c.move_to.new.heads) c.args.heads.now.items)) c.args.text.now c.args.hash
whole c =
    given_whole _ _ _ _ _ _ _ _ _ _ _ _ c.requires.table c.requires.given c.move_to.ensures.linked (omega arith) c.move_to.ensures.moved c.deref_mut.ensures.value
    c.push.ensures.kept c.in_ok-place.ensures.ok (omega arith) (omega arith)

pub returns-clause-table : goal.returns-clause-table
returns-clause-table c = (whole c).table

pub returns-clause-others : goal.returns-clause-others
returns-clause-others c = (whole c).others

pub returns-clause-ok : goal.returns-clause-ok
returns-clause-ok c = (whole c).has

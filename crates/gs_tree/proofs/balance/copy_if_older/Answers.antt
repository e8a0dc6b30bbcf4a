use Rattle.std.proofs.Common.{is_some, sym, ap, ◌∙◌, inr, arith}
use Rattle.gs_tree.proofs.TreeLemmas.{birth_same, old_birth}
use Rattle.gs_tree.proofs.Costs.{copies_some}
use Rattle.gs_tree.proofs.balance.copy_if_older.Goals as goal

pub replace-requires-clause-room : goal.replace-requires-clause-room
replace-requires-clause-room c = c.requires.room (c.get-node.result, c.get-node.ensures, omega arith)

pub returns-else-node-since : goal.returns-else-node-since
returns-else-node-since c =
    let r = c.replace.ensures.replaces in
    record {
      cases = inr (record {
        was_free = r.was_free;
        others = r.updates.others;
        was_plain = c.requires.unlisted;
        set_aside = r.changed;
        plain_now = r.plain_now;
        older = (c.get-node.result, c.get-node.ensures, omega arith);
        marks = r.others;
        born = λ n e. sym (birth_same _ _ (sym r.updates.changed ∙ e));
      });
      used = ap is_some r.updates.changed;
      recent = λ n e. omega (arith, birth_same _ _ (sym r.updates.changed ∙ e));
      total = omega (arith, r.in_use, c.replace.ensures.room);
      few = omega (arith, r.in_use, copies_some c.args.since 1 (omega arith));
      copied = λ n e. let same = birth_same _ _ (sym c.get-node.ensures ∙ e) in omega (arith, r.in_use, old_birth c.args.since n.birth (omega arith));
      exact = omega (arith, r.in_use, r.aside_more);
    }

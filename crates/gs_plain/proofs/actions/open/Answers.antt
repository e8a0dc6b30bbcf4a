use Rattle.std.proofs.Common.{◌≡◌, ap, ◌∙◌, rules, arith}
use Rattle.gs_model.specs.Graphs.{size_of}
use Rattle.gs_model.proofs.GraphLemmas.{empty_has_none}
use Rattle.gs_plain.proofs.WriteLemmas.{same_rows}
use Rattle.gs_plain.proofs.actions.open.Goals as goal

pub returns-clause-acts : goal.returns-clause-acts
returns-clause-acts c =
    let none : size_of c.new.result ≡ 0 = ap size_of c.new.ensures ∙ empty_has_none in
    record {
      fits = search rules;
      totals = search rules;
      seat = search rules;
      pin = search rules;
      known = search rules;
      rows = rw c.reserve.ensures.items (same_rows c.args.books.now.commit c.args.books.now.rows.items);
      counted = search rules;
      staged = rw c.in-Idle.is (omega (arith, none));
    }

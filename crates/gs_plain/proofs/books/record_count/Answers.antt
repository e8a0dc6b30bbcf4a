use Rattle.std.proofs.Common.{ap, arith, length}
use Rattle.gs_plain.proofs.RowLemmas.{names_few}
use Rattle.gs_plain.proofs.books.record_count.Goals as goal

pub returns-then-size_at-eq0-clause-few : goal.returns-then-size_at-eq0-clause-few
returns-then-size_at-eq0-clause-few c = omega (arith, c.requires.names, names_few c.args.books.now.rows.items, ap length c.as_slice.ensures.value, c.as_slice.type_inv.1)

pub overflow_add-result : goal.overflow_add-result
overflow_add-result c = omega (arith, c.requires.names, names_few c.args.books.now.rows.items, ap length c.as_slice.ensures.value, c.as_slice.type_inv.1)

pub returns-clause-few : goal.returns-clause-few
returns-clause-few c = omega (arith, c.requires.names, names_few c.args.books.now.rows.items, ap length c.as_slice.ensures.value, c.as_slice.type_inv.1)

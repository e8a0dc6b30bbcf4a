use Rattle.std.proofs.Common.{◌≡◌, ◌+◌, None, Some, arith, refl, sym, ap, ◌∙◌, subst}
use Rattle.gs_event.specs.Datasets.{triples_in, names_in, without_graph}
use Rattle.gs_event.proofs.DatasetLemmas.{triples_in-without_graph}
use Rattle.gs_plain.specs.Books.{dataset_of}
use Rattle.gs_plain.specs.LastWrites.{names_written}
use Rattle.gs_plain.specs.Newest.{NewestRow}
use Rattle.gs_plain.proofs.LastWriteLemmas.{writes, writes_end, writes_without}
use Rattle.gs_plain.proofs.PastLemmas.{dated_more, dated_end}
use Rattle.gs_plain.proofs.RowLemmas.{last_at}
use Rattle.gs_plain.proofs.WriteLemmas.{same_rows, rows_end, dataset_end, dataset_without}
use Rattle.gs_plain.proofs.books.end_version.Goals as goal

pub returns-in_default : goal.returns-in_default
returns-in_default c =
    let books = c.args.books.now in
    let m = dataset_of books.rows.items in
    let found : NewestRow books.rows.items c.args.target.now None = subst (λ rows. NewestRow rows c.args.target.now None) c.as_slice.ensures.value c.in_default.ensures in
    let same : m ≡ without_graph m c.args.target.now = dataset_without m c.args.target.now found.graph in
    record {
      dataset = same;
      kept = record { rows = same_rows books.commit books.rows.items; dated = dated_more books.commit (books.commit + 1) (omega arith) books.rows.items c.requires.counted.dated; staged = refl; request = refl; commit = refl; base = refl; limits = refl; room = refl };
      triples = c.requires.triples ∙ sym (ap triples_in same);
      fewer = omega (arith, c.requires.triples, triples_in-without_graph m c.args.target.now, c.requires.counted.triples);
      names = c.requires.names ∙ sym (ap names_in same);
      last_writes = (λ i. writes (c.default_after-books.ensures i) (names_written books.rows.items) (c.removal_after-books.ensures i)) ∙ writes_without books.default_write books.last_removal (books.commit + 1) books.rows.items c.args.target.now found;
      as_many = refl;
    }

pub returns : goal.returns
returns c =
    let books = c.args.books.now in
    let m = dataset_of books.rows.items in
    let found = subst (λ rows. NewestRow rows c.args.target.now (Some c.in-Some.i)) c.as_slice.ensures.value c.in-Some.ensures in
    let at = last_at books.rows.items c.args.target.now c.in-Some.i found.last in
    let items = c.end_row.ensures.row found.last.row at in
    let ended : dataset_of c.end_row.new.rows.items ≡ without_graph m c.args.target.now = ap dataset_of items ∙ dataset_end (books.commit + 1) books.rows.items c.args.target.now c.in-Some.i found.last in
    record {
      dataset = ended;
      kept = record { rows = rw items (rows_end books.commit books.rows.items c.in-Some.i found.last.row at found.last.stays); dated = rw items (dated_end (books.commit + 1) books.rows.items c.in-Some.i found.last.row at (dated_more books.commit (books.commit + 1) (omega arith) books.rows.items c.requires.counted.dated)); staged = refl; request = refl; commit = refl; base = refl; limits = refl; room = c.end_row.ensures.capacity };
      triples = c.requires.triples ∙ sym (ap triples_in ended);
      fewer = omega (arith, c.requires.triples, triples_in-without_graph m c.args.target.now, c.requires.counted.triples);
      names = c.requires.names ∙ sym (ap names_in ended);
      last_writes = (λ i. writes (c.default_after-books.ensures i) (names_written (items i)) (c.removal_after-books.ensures i)) ∙ writes_end books.default_write books.last_removal (books.commit + 1) books.rows.items c.args.target.now c.in-Some.i found.last;
      as_many = c.end_row.ensures.len;
    }

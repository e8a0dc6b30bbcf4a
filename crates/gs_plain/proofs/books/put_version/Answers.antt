use Rattle.std.proofs.Common.{◌≡◌, ◌+◌, None, arith, refl, sym, ap, ◌∙◌}
use Rattle.gs_event.specs.Datasets.{triples_in, names_in, with_graph}
use Rattle.gs_event.proofs.DatasetLemmas.{triples_in-with_graph}
use Rattle.gs_plain.specs.declared.books.Row.{Row}
use Rattle.gs_plain.specs.Books.{dataset_of}
use Rattle.gs_plain.specs.LastWrites.{names_written}
use Rattle.gs_plain.proofs.LastWriteLemmas.{writes, writes_push}
use Rattle.gs_plain.proofs.PastLemmas.{dated_push, dated_more}
use Rattle.gs_plain.proofs.RowLemmas.{dataset_push}
use Rattle.gs_plain.proofs.WriteLemmas.{rows_push}
use Rattle.gs_plain.proofs.books.put_version.Goals as goal

pub returns : goal.returns
returns c =
    let m = dataset_of c.args.books.now.rows.items in
    let row : Row = record { target = c.args.target; graph = c.args.graph; birth = c.args.books.now.commit + 1; ended = None } in
    let pushed : dataset_of c.push_reserved.new.self.items ≡ with_graph m c.args.target c.args.graph = ap dataset_of c.push_reserved.ensures.items ∙ dataset_push c.args.books.now.rows.items row in
    record {
      dataset = pushed;
      kept = record {
        rows = rw c.push_reserved.ensures.items (rows_push c.args.books.now.commit c.args.books.now.rows.items row (omega arith));
        staged = refl;
        request = refl;
        commit = refl;
        base = refl;
        limits = refl;
        dated = rw c.push_reserved.ensures.items (dated_push (c.args.books.now.commit + 1) c.args.books.now.rows.items row (omega arith) refl (dated_more c.args.books.now.commit (c.args.books.now.commit + 1) (omega arith) c.args.books.now.rows.items c.requires.counted.dated));
        room = c.push_reserved.ensures.capacity;
      };
      triples = c.requires.triples ∙ sym (ap triples_in pushed);
      moved = omega (arith, c.requires.triples, triples_in-with_graph m c.args.target c.args.graph, c.requires.counted.triples);
      names = c.requires.names ∙ sym (ap names_in pushed);
      last_writes = (λ i. writes (c.default_after-books.ensures i) (names_written (c.push_reserved.ensures.items i)) c.args.books.now.last_removal) ∙ writes_push c.args.books.now.default_write c.args.books.now.last_removal c.args.books.now.rows.items row refl;
      one_more = c.push_reserved.ensures.len;
    }

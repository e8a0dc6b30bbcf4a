use Rattle.std.proofs.Common.{◌≤◌, ap, arith, rules}
use Rattle.gs_event.specs.Datasets.{quads_of, triples_in}
use Rattle.gs_event.specs.Phases as phase
use Rattle.gs_plain.specs.Books.{most_nodes}
use Rattle.gs_plain.specs.Past.{dataset_at}
use Rattle.gs_plain.proofs.PastLemmas.{past_now}
use Rattle.gs_plain.proofs.reads.pin_all.Goals as goal

pub returns-clause-acts : goal.returns-clause-acts
returns-clause-acts c =
    let books = c.args.books.now in
    let now = past_now books.commit books.rows.items c.requires.counted.dated in
    let few : triples_in (dataset_at books.commit books.rows.items) ≤ most_nodes = rw now (omega (arith, c.requires.counted.few, c.requires.counted.triples)) in
    record {
      fits = search rules;
      totals = search rules;
      seat = rw c.in-Idle.is (ap (λ m. phase.Reading (quads_of m)) now);
      pin = search rules;
      known = (omega arith, few);
      rows = search rules;
      counted = search rules;
      staged = search rules;
    }

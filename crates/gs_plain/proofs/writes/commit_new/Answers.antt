use Rattle.std.proofs.Common.{rules}
use Rattle.gs_plain.proofs.CommitLemmas.{last_new, new_fits, new_totals}
use Rattle.gs_plain.proofs.writes.commit_new.Goals as goal

pub returns-in-LastNumber-clause-acts : goal.returns-in-LastNumber-clause-acts
returns-in-LastNumber-clause-acts c = last_new c.args.books.now c.args.request c.args.upload c.args.since c.in-Ok.name c.in-Ok.ensures.0 c.in-LastNumber.ensures.0 c.in-LastNumber.ensures.1 c.requires.ready

pub returns-in-Granted-clause-acts : goal.returns-in-Granted-clause-acts
returns-in-Granted-clause-acts c =
    record {
      fits = new_fits c.args.books.now c.args.request c.args.upload c.args.since c.in-Ok.name c.in-Ok.location c.in-Granted.status c.put_version.new.books.commit c.in-Ok.ensures.0 c.in-Ok.ensures.1 c.in-Granted.ensures.0 c.in-Granted.ensures.1 c.in-Granted.ensures.2 c.put_version.ensures.kept.commit;
      totals = new_totals c.args.books.now c.put_version.new.books c.args.request c.args.upload c.args.since c.in-Ok.name c.in-Ok.location c.in-Granted.status c.put_version.new.books.commit c.in-Ok.ensures.0 c.in-Granted.ensures.0 c.put_version.ensures.dataset c.put_version.ensures.last_writes c.put_version.ensures.kept;
      seat = search rules;
      pin = search rules;
      known = search rules;
      rows = search rules;
      counted = search rules;
      staged = search rules;
    }

use Rattle.std.proofs.Common.{sym, subst, arith}
use Rattle.gs_automaton.specs.Scans.{IsScanned}
use Rattle.gs_automaton.proofs.RunLemmas.{scan-stays}
use Rattle.gs_automaton.proofs.scans.over_run_of.Goals as goal

pub returns-clause-went : goal.returns-clause-went
returns-clause-went g c =
    let x = c.args.text.now in
    let run = c.run_end.ensures in
    let stay = c.stay.ensures in
    record {
      onward = omega (arith, stay.len, run.after);
      within = omega (arith, stay.len, run.within);
      best_within = stay.best_within;
      scanned = λ u h. subst (IsScanned u x) (sym stay.stayed) (scan-stays u x c.args.scan g.R.Run.plain c.run_end.result c.requires.stays run.after run.within run.all h);
    }

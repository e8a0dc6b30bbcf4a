use Rattle.std.proofs.Common.{◌≡◌, sym, ap, subst, arith}
use Rattle.gs_automaton.specs.Runs.{Stays}
use Rattle.gs_automaton.specs.Scans.{IsScanned, onward_of}
use Rattle.gs_automaton.specs.declared.scans.Scan.{Scan}
use Rattle.gs_automaton.proofs.FrontLemmas.{goes-byte}
use Rattle.gs_automaton.proofs.RunLemmas.{scan-stays}
use Rattle.gs_automaton.proofs.ways.over_byte_and_run.Goals as goal

pub returns-clause-went : goal.returns-clause-went
returns-clause-went g c =
    let a = c.args in
    let x = a.text.now in
    let byte = goes-byte x a.from a.state c.requires.best c.requires.leads in
    let on : c.onward-scan.result ≡ onward_of a.from a.state 1 = c.onward-scan.ensures in
    let run = c.run_end.ensures in
    let stay = c.stay.ensures in
    record {
      onward = omega (arith, stay.len, run.after, byte.onward, ap (λ (s : Scan). s.len) on);
      within = omega (arith, stay.len, run.within);
      best_within = stay.best_within;
      scanned = λ u h. subst (IsScanned u x) (sym stay.stayed)
          (scan-stays u x c.onward-scan.result g.R.Run.plain c.run_end.result
          (subst (λ (s : Scan). Stays g.R.Run.plain s.state) (sym on) c.requires.stays)
          run.after run.within run.all
          (subst (IsScanned u x) (sym on) (byte.scanned u h)));
    }

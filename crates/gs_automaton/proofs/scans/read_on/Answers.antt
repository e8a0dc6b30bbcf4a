use Rattle.std.proofs.Common.{◌≡◌, arith, subst, sym, ap, ◌∙◌, drop}
use Rattle.gs_automaton.specs.Scans.{IsScanned}
use Rattle.gs_automaton.specs.declared.scans.Scan.{Scan}
use Rattle.gs_automaton.proofs.ScanLemmas.{scan-on, scan-within, scan-barren, ended-stuck, not-ended, nothing-left, stuck-barren, stuck-character, stuck-bad, stuck-nothing}
use Rattle.gs_automaton.proofs.BecomeLemmas.{becomes-bad, short-begins}
use Rattle.gs_automaton.proofs.scans.read_on.Goals as goal
use Rattle.gs_automaton.proofs.scans.read_on.Goals.{in-WordDots, in_default}
use Rattle.gs_automaton.specs.declared.states.State.TheVariants as at

pub loop-scan-smaller : goal.loop-scan-smaller
loop-scan-smaller c =
    let w = scan-within c.loop-scan.scan c.args.text.now c.in-Character.c c.in-Character.size c.loop-scan.invariant.within c.in-Character.ensures in
    omega (arith, w.0, w.1, ap (λ (s : Scan). s.len) c.onward.ensures, c.over_run-scan.ensures.onward, c.over_run-scan.ensures.within)

pub loop-scan-preserved : goal.loop-scan-preserved
loop-scan-preserved c =
    let h = c.loop-scan.invariant in
    record {
      within = c.over_run-scan.ensures.within;
      best_within = c.over_run-scan.ensures.best_within;
      scanned = λ u g. c.over_run-scan.ensures.scanned u (subst (IsScanned u c.args.text.now) (sym c.onward.ensures)
          (scan-on u c.args.text.now c.loop-scan.scan c.in-Character.c c.in-Character.size c.in-Some.state (h.scanned u g) c.in-Character.ensures (sym c.in-Some.ensures)));
    }

pub returns-in-None-clause-stuck : goal.returns-in-None-clause-stuck
returns-in-None-clause-stuck c is_end u h b z m = stuck-barren u _ _ (stuck-character is_end c.loop-scan.scan.state c.in-Character.c c.in-Character.size (drop c.loop-scan.scan.len c.args.text.now) c.in-Character.ensures (sym c.in-None.ensures) z m)

pub returns-clause-stuck : goal.returns-clause-stuck
returns-clause-stuck c is_end u h b = ended-stuck is_end u c.is_ended-is_done.result c.loop-scan.scan.state (drop c.loop-scan.scan.len c.args.text.now) c.is_ended-is_done.ensures (stuck-barren u _ _ (stuck-nothing c.loop-scan.scan.state c.loop-scan.scan.len c.args.text.now (omega arith)))

pub returns-in-Bad-clause-stuck : goal.returns-in-Bad-clause-stuck
returns-in-Bad-clause-stuck c is_end u h b z m = stuck-barren u _ _ (stuck-bad c.loop-scan.scan.state z (becomes-bad is_end (drop c.loop-scan.scan.len c.args.text.now) z c.in-Bad.ensures m))

pub returns-in-Short-clause-stuck : goal.returns-in-Short-clause-stuck
returns-in-Short-clause-stuck c is_end u h b = ended-stuck is_end u c.is_ended.result c.loop-scan.scan.state (drop c.loop-scan.scan.len c.args.text.now) c.is_ended.ensures (stuck-barren u _ _ (stuck-bad c.loop-scan.scan.state (drop c.loop-scan.scan.len c.args.text.now) (short-begins (drop c.loop-scan.scan.len c.args.text.now) c.in-Short.ensures)))

pub returns-clause-open_ : goal.returns-clause-open_
returns-clause-open_ c e =
    (nothing-left c.loop-scan.scan.len c.args.text.now (omega arith), not-ended c.is_ended-is_done.result c.loop-scan.scan.state c.is_ended-is_done.ensures e)

pub returns-in-Short-clause-open_ : goal.returns-in-Short-clause-open_
returns-in-Short-clause-open_ c e = (c.in-Short.ensures, not-ended c.is_ended.result c.loop-scan.scan.state c.is_ended.ensures e)

pub returns-then-matches-clause-stuck : goal.returns-then-matches-clause-stuck
returns-then-matches-clause-stuck c is_end u h b z m =
    let dots : c.loop-scan.scan.state ≡ at.WordDots = elim c.match-matches.branch [ in-WordDots w ↦ w.in-WordDots.is | in_default w ↦ absurd (Prim.cc (sym w.matches-is ∙ c.if-matches.true)) ] in
    scan-barren is_end u c.args.text.now c.loop-scan.scan c.args.barren (c.loop-scan.invariant.scanned u h) b dots (omega arith) z m

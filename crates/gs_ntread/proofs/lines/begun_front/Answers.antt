use Rattle.std.proofs.Common.{◌≡◌, ◌+◌, ◌-◌, ◌≤◌, ℕ, List, true, take, drop, ap, subst, length, arith, length-drop}
use Rattle.std.specs.List.{list_all}
use Rattle.std.proofs.lemmas.List.{take_rest}
use Rattle.gs_ntterm.specs.Classes.{is_space}
use Rattle.gs_ntterm.specs.Wholes.{IriFront}
use Rattle.gs_ntread.specs.LineFronts.{SubjectFront}
use Rattle.gs_ntread.proofs.LineRuns.{are_begun, begun_run}
use Rattle.gs_ntread.proofs.lines.begun_front.Goals as goal

pub returns : goal.returns
returns c =
    let x = c.args.piece.now in
    let w = c.in_ok-subject.subject in
    let a = c.in_ok-subject.n in
    let i = c.short_run_len.result in
    let n = c.iri_len-n.result in
    let j = c.short_run_len-2.result in
    let front : SubjectFront x w a = c.in_ok-subject.ensures in
    let blanks = subst (λ (z : List ℕ). list_all is_space (take i z) ≡ true) (take_rest x a) c.short_run_len.ensures.all in
    let iri = subst (λ (z : List ℕ). IriFront z n) (take_rest x (a + i)) (c.iri_len-n.ensures (omega (arith, c.if-n-eq0.false))) in
    let size : a + i + n - (a + i) ≡ n = omega arith in
    let is = ap (λ (k : ℕ). take k (drop (a + i) x)) size in
    let more = subst (λ (z : List ℕ). list_all is_space (take j z) ≡ true) (take_rest x (a + i + n)) c.short_run_len-2.ensures.all in
    record {
      begun = are_begun x w a i n j _ front blanks iri is more;
      within = omega (arith, subst (λ (z : List ℕ). j ≤ length z) (take_rest x (a + i + n)) c.short_run_len-2.ensures.bound, length-drop (a + i + n) x, iri.within, length-drop (a + i) x);
      run = begun_run x w a i n j _ front blanks iri is more;
    }

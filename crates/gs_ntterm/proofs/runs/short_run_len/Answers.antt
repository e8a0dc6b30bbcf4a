use Rattle.std.proofs.Common.{ℕ, sym, subst, ◌≡◌, true, false, take, get_or, arith}
use Rattle.std.specs.List.{list_all, prefix_len}
use Rattle.std.proofs.lemmas.List.Sums.{prefix_len-le-length, prefix_len_stops}
use Rattle.gs_ntterm.proofs.WideLemmas.{run_all}
use Rattle.gs_ntterm.proofs.runs.short_run_len.Goals as goal

pub returns : goal.returns
returns g c =
    let q = g.C.Class.class in
    let x = c.args.bytes.now in
    let is : c.run_end.result ≡ prefix_len q x = omega (arith, c.run_end.ensures) in
    record {
      bound = omega (arith, is, prefix_len-le-length q x);
      all = subst (λ (n : ℕ). list_all q (take n x) ≡ true) (sym is) (run_all q x);
      longest = λ h. subst (λ (n : ℕ). q (get_or x n 0) ≡ false) (sym is) (prefix_len_stops q x 0 (omega (arith, is, h)));
    }

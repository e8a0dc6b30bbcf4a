use Rattle.std.proofs.Common.{◌≤◌, sym, subst, length, arith}
use Rattle.gs_model.specs.Limits.{last_node}
use Rattle.gs_index.specs.Kept.{IsKept}
use Rattle.gs_index.proofs.KeptLemmas.{kept_push}
use Rattle.gs_index.proofs.indexes.Index.push.Goals as goal

pub invariant_of-self-2 : goal.invariant_of-self-2
invariant_of-self-2 c =
    let x = c.self.inside in
    let few : length x.entries.items ≤ last_node = omega (arith, c.if-len-gt-LAST_NODE.false, c.len.ensures, x.entries.ok.0) in
    subst (λ es. IsKept es x.pool x.root) (sym c.in_ok-push.ensures.items) (kept_push x.entries.items c.blank.result x.pool x.root few c.self.invariant)

use Rattle.std.proofs.Common.{◌≡◌, ◌∙◌, true, map, ap}
use Rattle.std.specs.Prelude.{IfSome}
use Rattle.gs_index.specs.Indexes.{is_listed}
use Rattle.gs_index.specs.Kept.{key_number, numbers_at}
use Rattle.gs_index.proofs.KeptLemmas.{next_numbers}
use Rattle.gs_index.proofs.indexes.Index.next.Goals as goal

pub returns-clause-ok : goal.returns-clause-ok
returns-clause-ok c =
    let x = c.self.inside in
    let listed : IfSome c.args.from (λ n. is_listed n (numbers_at x.pool x.root) ≡ true) = rw (← c.self.view_is) at c.requires in
    let next = next_numbers x.entries.items x.pool x.root c.args.from c.args.most c.in_ok-keys.keys.items c.self.invariant listed (rw c.deref.ensures.value at c.in_ok-keys.ensures) in
    rw (← c.self.view_is) (c.in_ok-numbers_of.ensures ∙ ap (map key_number) c.as_slice.ensures.value ∙ next)

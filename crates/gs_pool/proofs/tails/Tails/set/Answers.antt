use Rattle.std.proofs.Common.{Some, ap, arith, get_or, cond, ℕ}
use Rattle.std.specs.Prelude.{is_none}
use Rattle.gs_pool.specs.Tails.{free_after, is_free_entry}
use Rattle.gs_pool.proofs.ListLemmas.{list_off}
use Rattle.gs_pool.proofs.TailLemmas.{wrote, is_used}
use Rattle.gs_pool.proofs.tails.Tails.set.Goals as goal

pub invariant_of-self : goal.invariant_of-self
invariant_of-self c =
    let u = is_used c.self.inside.entries.items c.self.inside.entries.cap c.args.number c.used.result (rw (← c.self.view_is) at c.requires) in
    list_off free_after is_free_entry _ _ c.args.number c.used.result (get_or c.self.inside.entries.items c.args.number c.used.result) c.self.invariant u.within u.read u.not_free (ap is_none c.used.ensures)

pub returns-clause-sets : goal.returns-clause-sets
returns-clause-sets c =
    let u = is_used c.self.inside.entries.items c.self.inside.entries.cap c.args.number c.used.result (rw (← c.self.view_is) at c.requires) in
    rw (← c.self.view_is) (wrote c.self.inside.entries.items c.self.inside.entries.cap c.args.number c.used.result (get_or c.self.inside.entries.items c.args.number c.used.result) (Some c.args.tail) c.used.ensures u.within u.read).sets

pub returns-clause-used : goal.returns-clause-used
returns-clause-used c =
    let u = is_used c.self.inside.entries.items c.self.inside.entries.cap c.args.number c.used.result (rw (← c.self.view_is) at c.requires) in
    let w = wrote c.self.inside.entries.items c.self.inside.entries.cap c.args.number c.used.result (get_or c.self.inside.entries.items c.args.number c.used.result) (Some c.args.tail) c.used.ensures u.within u.read in
    rw (← c.self.view_is) (omega (arith, w.used, ap (λ b. cond {A = ℕ} b 1 0) u.some))

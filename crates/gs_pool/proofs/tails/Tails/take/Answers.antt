use Rattle.std.proofs.Common.{None, ap, arith, get_or, cond, ℕ}
use Rattle.std.specs.Prelude.{is_none}
use Rattle.gs_pool.specs.Tails.{free_after, is_free_entry}
use Rattle.gs_pool.proofs.ListLemmas.{list_push}
use Rattle.gs_pool.proofs.TailLemmas.{wrote, is_used}
use Rattle.gs_pool.proofs.tails.Tails.take.Goals as goal

pub invariant_of-self : goal.invariant_of-self
invariant_of-self c =
    let u = is_used c.self.inside.entries.items c.self.inside.entries.cap c.args.number c.free.result (rw (← c.self.view_is) at c.requires) in
    list_push free_after is_free_entry _ _ c.args.number c.free.result (get_or c.self.inside.entries.items c.args.number c.free.result) c.self.invariant u.within u.read u.not_free (ap is_none c.free.ensures.tail) c.free.ensures.next

pub returns-clause-sets : goal.returns-clause-sets
returns-clause-sets c =
    let u = is_used c.self.inside.entries.items c.self.inside.entries.cap c.args.number c.free.result (rw (← c.self.view_is) at c.requires) in
    rw (← c.self.view_is) (wrote c.self.inside.entries.items c.self.inside.entries.cap c.args.number c.free.result (get_or c.self.inside.entries.items c.args.number c.free.result) None c.free.ensures.tail u.within u.read).sets

pub returns-clause-used : goal.returns-clause-used
returns-clause-used c =
    let u = is_used c.self.inside.entries.items c.self.inside.entries.cap c.args.number c.free.result (rw (← c.self.view_is) at c.requires) in
    let w = wrote c.self.inside.entries.items c.self.inside.entries.cap c.args.number c.free.result (get_or c.self.inside.entries.items c.args.number c.free.result) None c.free.ensures.tail u.within u.read in
    rw (← c.self.view_is) (omega (arith, w.used, ap (λ b. cond {A = ℕ} b 1 0) u.some))

use Rattle.std.proofs.Common.{Some, ap, arith, ◌∙◌, is_some, map, cond, ℕ}
use Rattle.std.specs.Prelude.{is_none}
use Rattle.std.proofs.lemmas.List.{length-map}
use Rattle.gs_pool.specs.Tails.{tail_in, free_after, is_free_entry}
use Rattle.gs_pool.proofs.ListLemmas.{first_within, list_pop, list_more, none_listed}
use Rattle.gs_pool.proofs.MapLemmas.{all_counted, count_shown}
use Rattle.gs_pool.proofs.TailLemmas.{wrote, none_is}
use Rattle.gs_pool.proofs.tails.Tails.add.Goals as goal

pub index-requires : goal.index-requires
index-requires c = omega (arith, first_within free_after is_free_entry _ _ _ c.self.invariant c.in-Some.is, c.self.inside.entries.ok.0)

pub index_mut-requires : goal.index_mut-requires
index_mut-requires c = omega (arith, first_within free_after is_free_entry _ _ _ c.self.invariant c.in-Some.is, c.self.inside.entries.ok.0)

pub invariant_of-self : goal.invariant_of-self
invariant_of-self c =
    let pops = list_pop free_after is_free_entry _ _ c.in-Some.number c.used.result c.index.result.now c.self.invariant c.in-Some.is c.index.ensures (ap is_none c.used.ensures) in
    rw c.next_free-self-inside.ensures pops.list

pub push_reserved-requires : goal.push_reserved-requires
push_reserved-requires c =
    let none = none_listed free_after is_free_entry _ _ c.self.invariant c.in-None.is in
    let room = rw (← c.self.view_is) at c.requires in
    let items = c.self.inside.entries.items in
    omega (arith, count_shown is_none tail_in items, all_counted (map tail_in items), length-map items tail_in, c.self.inside.entries.ok.0)

pub invariant_of-self-in-None : goal.invariant_of-self-in-None
invariant_of-self-in-None c = rw c.push_reserved.ensures.items (list_more free_after is_free_entry _ _ c.used-in-None.result c.self.invariant (ap is_none c.used-in-None.ensures))

pub returns-in-Some-clause-was_free : goal.returns-in-Some-clause-was_free
returns-in-Some-clause-was_free c =
    let d = c.index.result.now in
    let pops = list_pop free_after is_free_entry _ _ c.in-Some.number c.used.result d c.self.invariant c.in-Some.is c.index.ensures (ap is_none c.used.ensures) in
    rw (← c.self.view_is) ((wrote c.self.inside.entries.items c.self.inside.entries.cap c.in-Some.number c.used.result d (Some c.args.tail) c.used.ensures pops.within c.index.ensures).was ∙ none_is (tail_in d) pops.was)

pub returns-in-Some-clause-sets : goal.returns-in-Some-clause-sets
returns-in-Some-clause-sets c =
    let d = c.index.result.now in
    let pops = list_pop free_after is_free_entry _ _ c.in-Some.number c.used.result d c.self.invariant c.in-Some.is c.index.ensures (ap is_none c.used.ensures) in
    rw (← c.self.view_is) (wrote c.self.inside.entries.items c.self.inside.entries.cap c.in-Some.number c.used.result d (Some c.args.tail) c.used.ensures pops.within c.index.ensures).sets

pub returns-in-Some-clause-used : goal.returns-in-Some-clause-used
returns-in-Some-clause-used c =
    let d = c.index.result.now in
    let pops = list_pop free_after is_free_entry _ _ c.in-Some.number c.used.result d c.self.invariant c.in-Some.is c.index.ensures (ap is_none c.used.ensures) in
    let w = wrote c.self.inside.entries.items c.self.inside.entries.cap c.in-Some.number c.used.result d (Some c.args.tail) c.used.ensures pops.within c.index.ensures in
    rw (← c.self.view_is) (omega (arith, w.used, ap (λ o. cond {A = ℕ} (is_some o) 1 0) (none_is (tail_in d) pops.was)))

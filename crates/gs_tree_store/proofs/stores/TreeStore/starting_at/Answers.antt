use Rattle.std.proofs.Common.{refl, ap, ◌∙◌, [], arith}
use Rattle.gs_event.specs.Histories.{start_with, view_of}
use Rattle.gs_records.specs.Records.{Recorded}
use Rattle.gs_tree_store.specs.declared.stores.TreeStore.TheInside.{Inside}
use Rattle.gs_tree_store.proofs.FreshLemmas.{IsFresh, fresh_kept, fresh_waste, fresh_births, fresh_view, fresh_pins}
use Rattle.gs_tree_store.proofs.stores.TreeStore.starting_at.Goals as goal

abbrev made : goal.In_ok-records → Inside
made c = record { alloc = c.args.alloc; books = record { base = c.in_ok-base.base; limits = c.args.limits; request = c.args.request; dict = c.in_ok-dict.dict; pool = c.in_ok-pool.pool; versions = c.in_ok-versions.versions; records = c.in_ok-records.records; default_write = c.args.commit; last_delete = c.args.commit }; seats = c.in_ok-idle.idle; swept = c.nothing-swept.result }

is_fresh : (c : goal.In_ok-records) → IsFresh (made c) c.args.seats c.args.commit
is_fresh c = record {
  nodes = c.in_ok-pool.ensures.nodes;
  marks = c.in_ok-pool.ensures.marks;
  records = ap (λ (x : Recorded). x.records) c.in_ok-records.ensures;
  latest = ap (λ (x : Recorded). x.latest) c.in_ok-records.ensures;
  limit = omega (arith, ap (λ (x : Recorded). x.limit) c.in_ok-records.ensures);
  write = refl;
  delete = refl;
  versions = c.in_ok-versions.ensures;
  idle = c.in_ok-idle.ensures;
}

pub invariant_of-result : goal.invariant_of-result
invariant_of-result c = fresh_kept (made c) c.args.seats c.args.commit (is_fresh c) c.requires.last_commit (rw c.in_ok-base.ensures.ok c.requires.base)

pub returns-clause-view : goal.returns-clause-view
returns-clause-view c =
    fresh_view (made c) c.args.seats c.args.commit (is_fresh c)
    ∙ ap (λ b. view_of (start_with c.args.seats b c.args.limits c.args.request c.args.commit) []) c.in_ok-base.ensures.ok

pub returns-clause-pinned : goal.returns-clause-pinned
returns-clause-pinned c = fresh_pins (made c) c.args.seats c.args.commit (is_fresh c) (start_with c.args.seats c.args.base.now c.args.limits c.args.request c.args.commit) refl

pub returns-clause-waste : goal.returns-clause-waste
returns-clause-waste c = fresh_waste (made c) c.args.seats c.args.commit (is_fresh c)

pub returns-clause-births : goal.returns-clause-births
returns-clause-births c = fresh_births (made c) c.args.seats c.args.commit (is_fresh c)

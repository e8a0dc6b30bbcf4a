use Rattle.std.proofs.Common.{◌≡◌, ◌<◌, ◌+◌, refl, sym, ap, arith, ◌∙◌, get_or, None, is_some, count_by, length}
use Rattle.std.specs.Prelude.{is_none}
use Rattle.gs_pool.proofs.pools.Pool.replace.Goals as goal

pub alloc_reserved-requires : goal.alloc_reserved-requires
alloc_reserved-requires c =
    let free = ap (count_by is_none) c.mark_replaced.ensures.marks.nodes in
    omega (arith, free, c.mark_replaced.ensures.marks.spare, c.requires.room)

pub returns-clause-replaces : goal.returns-clause-replaces
returns-clause-replaces c =
    let m = c.mark_replaced.ensures.marks in
    let f = c.alloc_reserved.ensures.fills in
    let at : (x : Rattle.std.proofs.Common.ℕ) → get_or c.mark_replaced.new.self.nodes x None ≡ get_or c.args.self.now.nodes x None = λ x. ap (λ ns. get_or ns x None) m.nodes in
    record {
      was_free = sym (at _) ∙ f.was_free;
      updates = record { changed = f.updates.changed; others = λ x ne. f.updates.others x ne ∙ at x };
      changed = f.marks c.args.id ∙ m.changed;
      others = λ x ne. f.marks x ∙ m.others x ne;
      plain_now = f.plain_now;
      below = f.below;
      in_use = omega (arith, f.in_use, ap (count_by is_some) m.nodes);
      aside_more = omega (arith, f.aside, c.mark_replaced.ensures.aside);
      retired_same = omega (arith, f.retired, c.mark_replaced.ensures.retired);
      reuses = λ some. let free = ap (count_by is_none) m.nodes in f.reuses (omega (arith, free)) ∙ ap length m.nodes;
      grows = λ full. let free = ap (count_by is_none) m.nodes in f.grows (omega (arith, free)) ∙ ap (λ ns. length ns + 1) m.nodes;
    }

pub returns-clause-room : goal.returns-clause-room
returns-clause-room c =
    let free = ap (count_by is_none) c.mark_replaced.ensures.marks.nodes in
    omega (arith, free, c.mark_replaced.ensures.marks.spare, c.alloc_reserved.ensures.room)

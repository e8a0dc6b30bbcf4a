use Rattle.std.proofs.Common.{◌≤◌, ◌<◌, ◌*◌, ◌^◌, length, refl, sym, ap, subst, arith}
use Rattle.gs_pool.specs.Pool.{in_use, room}
use Rattle.gs_tree.specs.Tree.{tree_at, height, height_at, keys}
use Rattle.gs_tree.specs.Keys.{IsRising, HasKey}
use Rattle.gs_tree.proofs.RoomLemmas.{few_used, copied_within, remove_made}
use Rattle.gs_tree.proofs.WholeRemovals.{remove_can, removed}
use Rattle.gs_tree.proofs.Counting.{low_height}
use Rattle.gs_tree.proofs.removals.remove.Goals as goal

pub remove_at-requires-clause-can : goal.remove_at-requires-clause-can
remove_at-requires-clause-can g c =
    let t = tree_at c.args.pool.now c.args.root in
    let s = c.requires.set in
    let r = c.in_ok-reserve.ensures in
    let short : length c.reserve.new.self.nodes < 2 ^ 32 = omega (arith, r.small, r.fits) in
    let few = few_used c.args.pool.now c.reserve.new.self r.nodes short in
    let enough = remove_made c.args.since c.args.pool.now c.args.root t s.root_is s.stands s.apart few (3 * c.height_of.result) (3 * c.height_of.result) c.copy_bound-copies.result (room c.reserve.new.self) refl c.copy_bound-copies.ensures (ap (λ k. 3 * k) c.height_of.ensures) (omega (arith, r.ok, c.copy_bound-copies.ensures, copied_within c.args.since (3 * c.height_of.result) (height_at c.args.pool.now c.args.root) (in_use c.args.pool.now))) in
    let low : height t ≤ 64 = low_height c.args.pool.now t s.stands s.apart s.balanced (omega (arith, ap (λ xs. length xs) r.nodes, short)) in
    let can = remove_can (g.O.KeyOrder.compare c.args.order.now) c.args.since c.args.pool.now c.reserve.new.self c.args.root t s r.nodes r.marks (omega arith) enough in
    can.1

pub remove_at-requires-clause-rising : goal.remove_at-requires-clause-rising
remove_at-requires-clause-rising g c =
    let t = tree_at c.args.pool.now c.args.root in
    let s = c.requires.set in
    let r = c.in_ok-reserve.ensures in
    let short : length c.reserve.new.self.nodes < 2 ^ 32 = omega (arith, r.small, r.fits) in
    let few = few_used c.args.pool.now c.reserve.new.self r.nodes short in
    let enough = remove_made c.args.since c.args.pool.now c.args.root t s.root_is s.stands s.apart few (3 * c.height_of.result) (3 * c.height_of.result) c.copy_bound-copies.result (room c.reserve.new.self) refl c.copy_bound-copies.ensures (ap (λ k. 3 * k) c.height_of.ensures) (omega (arith, r.ok, c.copy_bound-copies.ensures, copied_within c.args.since (3 * c.height_of.result) (height_at c.args.pool.now c.args.root) (in_use c.args.pool.now))) in
    let low : height t ≤ 64 = low_height c.args.pool.now t s.stands s.apart s.balanced (omega (arith, ap (λ xs. length xs) r.nodes, short)) in
    let can = remove_can (g.O.KeyOrder.compare c.args.order.now) c.args.since c.args.pool.now c.reserve.new.self c.args.root t s r.nodes r.marks (omega arith) enough in
    subst (λ u. IsRising (g.O.KeyOrder.compare c.args.order.now) (keys u)) (sym can.0) s.rising

pub remove_at-requires-clause-has : goal.remove_at-requires-clause-has
remove_at-requires-clause-has g c =
    let t = tree_at c.args.pool.now c.args.root in
    let s = c.requires.set in
    let r = c.in_ok-reserve.ensures in
    let short : length c.reserve.new.self.nodes < 2 ^ 32 = omega (arith, r.small, r.fits) in
    let few = few_used c.args.pool.now c.reserve.new.self r.nodes short in
    let enough = remove_made c.args.since c.args.pool.now c.args.root t s.root_is s.stands s.apart few (3 * c.height_of.result) (3 * c.height_of.result) c.copy_bound-copies.result (room c.reserve.new.self) refl c.copy_bound-copies.ensures (ap (λ k. 3 * k) c.height_of.ensures) (omega (arith, r.ok, c.copy_bound-copies.ensures, copied_within c.args.since (3 * c.height_of.result) (height_at c.args.pool.now c.args.root) (in_use c.args.pool.now))) in
    let low : height t ≤ 64 = low_height c.args.pool.now t s.stands s.apart s.balanced (omega (arith, ap (λ xs. length xs) r.nodes, short)) in
    let can = remove_can (g.O.KeyOrder.compare c.args.order.now) c.args.since c.args.pool.now c.reserve.new.self c.args.root t s r.nodes r.marks (omega arith) enough in
    subst (λ u. HasKey (g.O.KeyOrder.compare c.args.order.now) c.args.key (keys u)) (sym can.0) c.requires.has

pub returns-clause-ok : goal.returns-clause-ok
returns-clause-ok g c =
    let t = tree_at c.args.pool.now c.args.root in
    let s = c.requires.set in
    let r = c.in_ok-reserve.ensures in
    let short : length c.reserve.new.self.nodes < 2 ^ 32 = omega (arith, r.small, r.fits) in
    let few = few_used c.args.pool.now c.reserve.new.self r.nodes short in
    let enough = remove_made c.args.since c.args.pool.now c.args.root t s.root_is s.stands s.apart few (3 * c.height_of.result) (3 * c.height_of.result) c.copy_bound-copies.result (room c.reserve.new.self) refl c.copy_bound-copies.ensures (ap (λ k. 3 * k) c.height_of.ensures) (omega (arith, r.ok, c.copy_bound-copies.ensures, copied_within c.args.since (3 * c.height_of.result) (height_at c.args.pool.now c.args.root) (in_use c.args.pool.now))) in
    let low : height t ≤ 64 = low_height c.args.pool.now t s.stands s.apart s.balanced (omega (arith, ap (λ xs. length xs) r.nodes, short)) in
    let can = remove_can (g.O.KeyOrder.compare c.args.order.now) c.args.since c.args.pool.now c.reserve.new.self c.args.root t s r.nodes r.marks (omega arith) enough in
    removed (g.O.KeyOrder.compare c.args.order.now) (g.met.O.KeyOrder.total c.args.order.now) c.args.since c.args.birth c.args.pool.now c.reserve.new.self c.remove_at.new.pool c.args.root c.remove_at.result c.args.key t (tree_at c.reserve.new.self c.args.root) (tree_at c.remove_at.new.pool c.remove_at.result) s r.nodes r.marks low can.0 c.remove_at.ensures.shrinks c.requires.has c.remove_at.ensures.keys

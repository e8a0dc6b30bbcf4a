use Rattle.std.proofs.Common.{◌≡◌, ◌≤◌, ◌<◌, ◌+◌, ◌*◌, ◌^◌, length, count_by, is_some, ap, arith}
use Rattle.gs_pool.specs.Pool.{in_use, room}
use Rattle.gs_tree.specs.Tree.{tree_at, height_at}
use Rattle.gs_tree.proofs.RoomLemmas.{few_used, copied_within, few_rooms, union_made}
use Rattle.gs_tree.proofs.WholeUnions.{union_can, united}
use Rattle.gs_tree.proofs.unions.union.Goals as goal

pub union_at-requires-clause-can : goal.union_at-requires-clause-can
union_at-requires-clause-can g c =
    let t = tree_at c.args.pool.now c.args.root in
    let s = c.requires.set in
    let r = c.in_ok-reserve.ensures in
    let short : length c.reserve.new.self.nodes < 2 ^ 32 = omega (arith, r.small, r.fits) in
    let few = few_used c.args.pool.now c.reserve.new.self r.nodes short in
    let n = length c.args.run.now in
    let wanted = n * (4 * c.height_of.result) + 2 in
    let asked : n + c.copy_bound-copies.result ≤ room c.reserve.new.self = omega (arith, c.saturating_add.ensures, r.ok, few_rooms c.reserve.new.self (omega (arith, r.small, r.fits)), c.copy_bound-copies.ensures, copied_within c.args.since c.saturating_add-most.result (height_at c.args.pool.now c.args.root) (in_use c.args.pool.now)) in
    let enough = union_made c.args.since c.args.pool.now c.args.root t s.root_is s.stands s.apart few c.saturating_add-most.result wanted c.copy_bound-copies.result (room c.reserve.new.self) (omega (arith, c.saturating_mul.ensures, c.saturating_add-most.ensures)) c.copy_bound-copies.ensures n (ap (λ k. n * (4 * k) + 2) c.height_of.ensures) asked in
    let can = union_can (g.O.KeyOrder.compare c.args.order.now) c.args.since c.args.pool.now c.reserve.new.self c.args.root t c.args.run.now s c.requires.rising r.nodes r.marks short (omega arith) enough in
    can.1

pub returns-clause-ok : goal.returns-clause-ok
returns-clause-ok g c =
    let t = tree_at c.args.pool.now c.args.root in
    let s = c.requires.set in
    let r = c.in_ok-reserve.ensures in
    let short : length c.reserve.new.self.nodes < 2 ^ 32 = omega (arith, r.small, r.fits) in
    let few = few_used c.args.pool.now c.reserve.new.self r.nodes short in
    let n = length c.args.run.now in
    let wanted = n * (4 * c.height_of.result) + 2 in
    let asked : n + c.copy_bound-copies.result ≤ room c.reserve.new.self = omega (arith, c.saturating_add.ensures, r.ok, few_rooms c.reserve.new.self (omega (arith, r.small, r.fits)), c.copy_bound-copies.ensures, copied_within c.args.since c.saturating_add-most.result (height_at c.args.pool.now c.args.root) (in_use c.args.pool.now)) in
    let enough = union_made c.args.since c.args.pool.now c.args.root t s.root_is s.stands s.apart few c.saturating_add-most.result wanted c.copy_bound-copies.result (room c.reserve.new.self) (omega (arith, c.saturating_mul.ensures, c.saturating_add-most.ensures)) c.copy_bound-copies.ensures n (ap (λ k. n * (4 * k) + 2) c.height_of.ensures) asked in
    let can = union_can (g.O.KeyOrder.compare c.args.order.now) c.args.since c.args.pool.now c.reserve.new.self c.args.root t c.args.run.now s c.requires.rising r.nodes r.marks short (omega arith) enough in
    united (g.O.KeyOrder.compare c.args.order.now) (g.met.O.KeyOrder.total c.args.order.now) c.args.since c.args.birth c.args.pool.now c.reserve.new.self c.union_at.new.pool c.args.root c.union_at.result.root c.union_at.result.added t (tree_at c.reserve.new.self c.args.root) c.args.run.now (tree_at c.union_at.new.pool c.union_at.result.root) s r.nodes r.marks short can.0 c.union_at.ensures

pub returns-clause-total : goal.returns-clause-total
returns-clause-total g c =
    let r = c.in_ok-reserve.ensures in
    let used : in_use c.reserve.new.self ≡ in_use c.args.pool.now = ap (λ xs. count_by is_some xs) r.nodes in
    omega (arith, used, r.room, c.union_at.ensures.total)

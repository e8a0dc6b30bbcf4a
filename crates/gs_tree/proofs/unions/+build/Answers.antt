use Rattle.std.proofs.Common.{◌≡◌, ◌<◌, ◌+◌, ◌/◌, length, get_or, refl, sym, ◌∙◌, arith}
use Rattle.gs_tree.specs.Tree.{tree_at}
use Rattle.gs_tree.proofs.Merging.{no_key, some_keys}
use Rattle.gs_tree.proofs.Building.{Made, made, half_parts, built_left, built_right, built}
use Rattle.gs_tree.proofs.Halvings.{halvings, halvings_fall}
use Rattle.gs_tree.proofs.unions.+build.Goals as goal

pub build-left-requires : goal.build-left-requires
build-left-requires t c =
    let some : 0 < length c.args.run.now = some_keys _ (sym c.is_empty.ensures ∙ c.if-is_empty.false) in
    let falls : halvings 64 (length c.split_at.result.0.now) < t = omega (arith, c.decreases, halvings_fall 63 (length c.split_at.result.0.now) (length c.args.run.now) some (omega arith) (omega (arith, c.split_at.ensures.front_len))) in
    (falls, omega (arith, c.requires, c.split_at.ensures.front_len))

pub alloc_reserved-top-requires : goal.alloc_reserved-top-requires
alloc_reserved-top-requires t c =
    let some : 0 < length c.args.run.now = some_keys _ (sym c.is_empty.ensures ∙ c.if-is_empty.false) in
    omega (arith, c.requires, c.build-left.ensures.total, c.build-left.ensures.exact, c.split_at.ensures.front_len)

pub build-right-requires : goal.build-right-requires
build-right-requires t c =
    let some : 0 < length c.args.run.now = some_keys _ (sym c.is_empty.ensures ∙ c.if-is_empty.false) in
    let half : length c.split_at.result.0.now ≡ length c.args.run.now / 2 = c.split_at.ensures.front_len in let rests : length c.split_at.result.1.now + length c.args.run.now / 2 ≡ length c.args.run.now = c.split_at.ensures.back_len in let highs : length c.split_at-2.result.1.now + 1 ≡ length c.split_at.result.1.now = c.split_at-2.ensures.back_len in
    let m : Made c.args.birth c.build-left.new.pool c.alloc_reserved-top.new.self c.alloc_reserved-top.result = made c.args.birth c.build-left.new.pool c.alloc_reserved-top.new.self c.alloc_reserved-top.result _ refl c.alloc_reserved-top.ensures.fills c.alloc_reserved-top.ensures.room in
    let falls : halvings 64 (length c.split_at-2.result.1.now) < t = omega (arith, c.decreases, halvings_fall 63 (length c.split_at-2.result.1.now) (length c.args.run.now) some (omega arith) (omega arith)) in
    (falls, omega (arith, c.requires, c.build-left.ensures.total, c.build-left.ensures.exact, m.total, m.few))

pub link-requires-clause-left : goal.link-requires-clause-left
link-requires-clause-left t c =
    let some : 0 < length c.args.run.now = some_keys _ (sym c.is_empty.ensures ∙ c.if-is_empty.false) in
    let half : length c.split_at.result.0.now ≡ length c.args.run.now / 2 = c.split_at.ensures.front_len in let rests : length c.split_at.result.1.now + length c.args.run.now / 2 ≡ length c.args.run.now = c.split_at.ensures.back_len in let highs : length c.split_at-2.result.1.now + 1 ≡ length c.split_at.result.1.now = c.split_at-2.ensures.back_len in
    let m : Made c.args.birth c.build-left.new.pool c.alloc_reserved-top.new.self c.alloc_reserved-top.result = made c.args.birth c.build-left.new.pool c.alloc_reserved-top.new.self c.alloc_reserved-top.result _ refl c.alloc_reserved-top.ensures.fills c.alloc_reserved-top.ensures.room in
    (built_left c.args.birth c.args.pool.now c.build-left.new.pool c.alloc_reserved-top.new.self c.build-right.new.pool c.build-left.result c.build-right.result c.alloc_reserved-top.result (get_or c.split_at.result.1.now 0 no_key) c.args.run.now c.split_at.result.0.now c.split_at-2.result.1.now (tree_at c.build-left.new.pool c.build-left.result) (tree_at c.build-right.new.pool c.build-right.result) (half_parts c.args.run.now c.split_at.result.0.now c.split_at.result.1.now c.split_at-2.result.1.now _ c.split_at.ensures.front c.split_at.ensures.back c.split_at-2.ensures.back (omega arith)) (omega arith) (omega arith) c.build-left.ensures m c.build-right.ensures (omega arith)).0

pub link-requires-clause-left_fits : goal.link-requires-clause-left_fits
link-requires-clause-left_fits t c =
    let some : 0 < length c.args.run.now = some_keys _ (sym c.is_empty.ensures ∙ c.if-is_empty.false) in
    let half : length c.split_at.result.0.now ≡ length c.args.run.now / 2 = c.split_at.ensures.front_len in let rests : length c.split_at.result.1.now + length c.args.run.now / 2 ≡ length c.args.run.now = c.split_at.ensures.back_len in let highs : length c.split_at-2.result.1.now + 1 ≡ length c.split_at.result.1.now = c.split_at-2.ensures.back_len in
    let m : Made c.args.birth c.build-left.new.pool c.alloc_reserved-top.new.self c.alloc_reserved-top.result = made c.args.birth c.build-left.new.pool c.alloc_reserved-top.new.self c.alloc_reserved-top.result _ refl c.alloc_reserved-top.ensures.fills c.alloc_reserved-top.ensures.room in
    omega (arith, (built_left c.args.birth c.args.pool.now c.build-left.new.pool c.alloc_reserved-top.new.self c.build-right.new.pool c.build-left.result c.build-right.result c.alloc_reserved-top.result (get_or c.split_at.result.1.now 0 no_key) c.args.run.now c.split_at.result.0.now c.split_at-2.result.1.now (tree_at c.build-left.new.pool c.build-left.result) (tree_at c.build-right.new.pool c.build-right.result) (half_parts c.args.run.now c.split_at.result.0.now c.split_at.result.1.now c.split_at-2.result.1.now _ c.split_at.ensures.front c.split_at.ensures.back c.split_at-2.ensures.back (omega arith)) (omega arith) (omega arith) c.build-left.ensures m c.build-right.ensures (omega arith)).1)

pub link-requires-clause-right_fits : goal.link-requires-clause-right_fits
link-requires-clause-right_fits t c =
    let some : 0 < length c.args.run.now = some_keys _ (sym c.is_empty.ensures ∙ c.if-is_empty.false) in
    let half : length c.split_at.result.0.now ≡ length c.args.run.now / 2 = c.split_at.ensures.front_len in let rests : length c.split_at.result.1.now + length c.args.run.now / 2 ≡ length c.args.run.now = c.split_at.ensures.back_len in let highs : length c.split_at-2.result.1.now + 1 ≡ length c.split_at.result.1.now = c.split_at-2.ensures.back_len in
    let m : Made c.args.birth c.build-left.new.pool c.alloc_reserved-top.new.self c.alloc_reserved-top.result = made c.args.birth c.build-left.new.pool c.alloc_reserved-top.new.self c.alloc_reserved-top.result _ refl c.alloc_reserved-top.ensures.fills c.alloc_reserved-top.ensures.room in
    omega (arith, (built_right c.args.birth c.args.pool.now c.build-left.new.pool c.alloc_reserved-top.new.self c.build-right.new.pool c.build-left.result c.build-right.result c.alloc_reserved-top.result (get_or c.split_at.result.1.now 0 no_key) c.args.run.now c.split_at.result.0.now c.split_at-2.result.1.now (tree_at c.build-left.new.pool c.build-left.result) (tree_at c.build-right.new.pool c.build-right.result) (half_parts c.args.run.now c.split_at.result.0.now c.split_at.result.1.now c.split_at-2.result.1.now _ c.split_at.ensures.front c.split_at.ensures.back c.split_at-2.ensures.back (omega arith)) (omega arith) (omega arith) c.build-left.ensures m c.build-right.ensures (omega arith)).1)

pub returns : goal.returns
returns t c =
    let some : 0 < length c.args.run.now = some_keys _ (sym c.is_empty.ensures ∙ c.if-is_empty.false) in
    let half : length c.split_at.result.0.now ≡ length c.args.run.now / 2 = c.split_at.ensures.front_len in let rests : length c.split_at.result.1.now + length c.args.run.now / 2 ≡ length c.args.run.now = c.split_at.ensures.back_len in let highs : length c.split_at-2.result.1.now + 1 ≡ length c.split_at.result.1.now = c.split_at-2.ensures.back_len in
    let m : Made c.args.birth c.build-left.new.pool c.alloc_reserved-top.new.self c.alloc_reserved-top.result = made c.args.birth c.build-left.new.pool c.alloc_reserved-top.new.self c.alloc_reserved-top.result _ refl c.alloc_reserved-top.ensures.fills c.alloc_reserved-top.ensures.room in
    built c.args.birth c.args.pool.now c.build-left.new.pool c.alloc_reserved-top.new.self c.build-right.new.pool c.build-left.result c.build-right.result c.alloc_reserved-top.result (get_or c.split_at.result.1.now 0 no_key) c.args.run.now c.split_at.result.0.now c.split_at-2.result.1.now (tree_at c.build-left.new.pool c.build-left.result) (tree_at c.build-right.new.pool c.build-right.result) (half_parts c.args.run.now c.split_at.result.0.now c.split_at.result.1.now c.split_at-2.result.1.now _ c.split_at.ensures.front c.split_at.ensures.back c.split_at-2.ensures.back (omega arith)) (omega arith) (omega arith) c.build-left.ensures m c.build-right.ensures c.link.new.pool c.link.ensures

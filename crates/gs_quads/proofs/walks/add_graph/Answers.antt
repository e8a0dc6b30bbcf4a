use Rattle.std.proofs.Common.{◌≡◌, ◌≤◌, ◌-◌, length, refl, arith}
use Rattle.gs_quads.proofs.Adding.{adds_run, adds_no_run}
use Rattle.gs_quads.proofs.walks.add_graph.Goals as goal

pub returns-in_ok-push : goal.returns-in_ok-push
returns-in_ok-push c =
    let old = c.args.found.now in
    let count : c.len.result - c.len-before.result ≡ length c.add_keys.new.keys.items - length old.keys.items = omega arith in
    adds_run c.args.source.now c.args.most old c.requires.found c.args.number c.requires.graph c.args.from (record { runs = c.push.new.self; keys = c.add_keys.new.keys })
    c.record.result.now c.record.ensures c.len-before.result (omega arith) c.in_ok-add_keys.ensures
    (record { number = c.args.number; keys = c.len.result - c.len-before.result }) refl count c.in_ok-push.ensures.items

pub returns-else-keys-gt0 : goal.returns-else-keys-gt0
returns-else-keys-gt0 c =
    let old = c.args.found.now in
    let none : length c.add_keys.new.keys.items ≤ length old.keys.items = omega arith in
    adds_no_run c.args.source.now c.args.most old c.requires.found c.args.number c.requires.graph c.args.from (record { runs = old.runs; keys = c.add_keys.new.keys })
    c.record.result.now c.record.ensures c.len-before.result (omega arith) c.in_ok-add_keys.ensures none refl

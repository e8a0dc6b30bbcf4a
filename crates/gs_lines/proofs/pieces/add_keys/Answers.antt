use Rattle.std.proofs.Common.{◌≡◌, ◌++◌, take, subst}
use Rattle.std.specs.Prelude.{OnOk}
use Rattle.gs_dict.specs.Numbering.{Numbered}
use Rattle.gs_tree.specs.Reading.{keys_at, keys_from}
use Rattle.gs_keys.specs.Texts.{key_cmp}
use Rattle.gs_lines.proofs.pieces.add_keys.Goals as goal

pub returns : goal.returns
returns c =
    let ks = keys_at c.args.pool.now c.args.root in
    subst (λ (d : Numbered). OnOk c.next_keys.result (c.next_keys.new.to.items ≡ c.args.keys.now.items ++ take c.args.most (keys_from (key_cmp d.terms) c.args.from ks)))
    c.new-order.ensures c.next_keys.ensures.ok

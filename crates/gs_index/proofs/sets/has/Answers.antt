use Rattle.std.specs.Bool.{Decides}
use Rattle.gs_tree.specs.Keys.{HasKey}
use Rattle.gs_tree.specs.Reading.{keys_at}
use Rattle.gs_index.specs.Ages.{aged_key_cmp, age_in}
use Rattle.gs_index.specs.Kept.{number_key}
use Rattle.gs_index.proofs.NumberLemmas.{listed_is}
use Rattle.gs_index.proofs.sets.has.Goals as goal

pub returns : goal.returns
returns c =
    let ks = keys_at c.args.pool.now c.args.root in
    let one : Decides c.contains.result (HasKey (aged_key_cmp (age_in c.args.entries.now)) (number_key c.args.number) ks) = rw (← c.new-order.ensures, ← c.key_of.ensures) c.contains.ensures in
    listed_is (age_in c.args.entries.now) c.args.number ks c.contains.result one

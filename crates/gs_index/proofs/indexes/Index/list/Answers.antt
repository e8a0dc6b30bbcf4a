use Rattle.std.proofs.Common.{◌≡◌, ◌<◌, ◌∙◌, false, set, length, ap}
use Rattle.gs_tree.specs.Reading.{keys_at}
use Rattle.gs_index.specs.Indexes.{is_listed}
use Rattle.gs_index.specs.Kept.{numbers_at}
use Rattle.gs_index.proofs.NumberLemmas.{numbers, numbers_insert}
use Rattle.gs_index.proofs.KeptLemmas.{set_unlisted, kept_list}
use Rattle.gs_index.proofs.indexes.Index.list.Goals as goal

pub put-self-inside-requires-clause-set : goal.put-self-inside-requires-clause-set
put-self-inside-requires-clause-set c =
    let x = c.self.inside in
    let out : is_listed c.args.number (numbers_at x.pool x.root) ≡ false = rw (← c.self.view_is) at c.requires.unlisted in
    rw c.deref.ensures.value (set_unlisted x.entries.items c.args.number c.replace.new.dest x.pool x.root out c.self.invariant)

pub invariant_of-self : goal.invariant_of-self
invariant_of-self c =
    let x = c.self.inside in
    let put = c.put-self-inside in
    let h : c.args.number < length x.entries.items = rw (← c.self.view_is) at c.requires.within in
    kept_list x.entries.items c.args.number c.replace.new.dest x.pool put.new.pool x.root put.result h c.self.invariant (rw c.deref.ensures.value at put.ensures)

pub returns-clause-listed : goal.returns-clause-listed
returns-clause-listed c =
    let x = c.self.inside in
    let out : is_listed c.args.number (numbers_at x.pool x.root) ≡ false = rw (← c.self.view_is) at c.requires.unlisted in
    let keys_are = rw c.deref.ensures.value at c.put-self-inside.ensures.keys_are in
    rw (← c.self.view_is) (ap numbers keys_are ∙ numbers_insert (set x.entries.items c.args.number c.replace.new.dest) c.args.number (keys_at x.pool x.root) out)

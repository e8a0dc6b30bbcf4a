use Rattle.std.proofs.Common.{◌≡◌, ◌∙◌, true, length, ap, arith}
use Rattle.gs_tree.specs.Reading.{keys_at}
use Rattle.gs_index.specs.Ages.{age_in}
use Rattle.gs_index.specs.Indexes.{is_listed}
use Rattle.gs_index.specs.Kept.{numbers_at}
use Rattle.gs_index.proofs.NumberLemmas.{numbers, has_listed, numbers_remove}
use Rattle.gs_index.proofs.KeptLemmas.{kept_unlist, listed_within}
use Rattle.gs_index.proofs.indexes.Index.unlist.Goals as goal

pub take-self-inside-requires-clause-has : goal.take-self-inside-requires-clause-has
take-self-inside-requires-clause-has c =
    let x = c.self.inside in
    let is : is_listed c.args.number (numbers_at x.pool x.root) ≡ true = rw (← c.self.view_is) at c.requires in
    rw c.deref.ensures.value (has_listed (age_in x.entries.items) c.args.number (keys_at x.pool x.root) is)

pub index_mut-requires : goal.index_mut-requires
index_mut-requires c =
    let x = c.self.inside in
    let is : is_listed c.args.number (numbers_at x.pool x.root) ≡ true = rw (← c.self.view_is) at c.requires in
    omega (arith, x.entries.ok.0, listed_within (length x.entries.items) c.args.number (keys_at x.pool x.root) c.self.invariant.within is)

pub invariant_of-self : goal.invariant_of-self
invariant_of-self c =
    let x = c.self.inside in
    let take = c.take-self-inside in
    kept_unlist x.entries.items c.args.number c.replace.new.dest x.pool take.new.pool x.root take.result c.self.invariant (rw c.deref.ensures.value at take.ensures)

pub returns-clause-listed : goal.returns-clause-listed
returns-clause-listed c =
    let x = c.self.inside in
    let keys_are = rw c.deref.ensures.value at c.take-self-inside.ensures.keys_are in
    rw (← c.self.view_is) (ap numbers keys_are ∙ numbers_remove (age_in x.entries.items) c.args.number (keys_at x.pool x.root) c.self.invariant.set.rising)

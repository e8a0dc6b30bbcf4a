use Rattle.std.proofs.Common.{rules, List, subst}
use Rattle.std.specs.List.Sorted.{IsPermutation}
use Rattle.std.proofs.lemmas.List.Sorted.{IsNonDecreasingBy-from_sort_by_key}
use Rattle.gs_pool.specs.declared.nodes.Key.{Key}
use Rattle.gs_joins.specs.Lots.{weight_of}
use Rattle.gs_joins.proofs.lots.table_of.Goals as goal

pub returns : goal.returns
returns c = record {
  same = subst (λ (ks : List Key). IsPermutation ks c.sort_unstable_by_key.new.self.items) c.in_ok-table.ensures.items c.sort_unstable_by_key.ensures.permutation;
  rising = IsNonDecreasingBy-from_sort_by_key (weight_of c.args.turn) c.sort_unstable_by_key.new.self.items c.sort_unstable_by_key.ensures.sorted (λ a r q k. search rules);
}

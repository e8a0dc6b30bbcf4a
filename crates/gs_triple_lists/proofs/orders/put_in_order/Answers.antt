use Rattle.std.specs.List.{dedup}
use Rattle.std.specs.List.Sorted.{IsPermutation}
use Rattle.std.specs.Vec.{with_items}
use Rattle.std.proofs.Common.{◌≡◌, ◌∙◌, ap, subst, sym, rules}
use Rattle.std.proofs.lemmas.Fn.{dedup_same}
use Rattle.std.proofs.lemmas.List.{with_items_is}
use Rattle.std.proofs.lemmas.List.Sorted.{length_permutation}
use Rattle.gs_triple_lists.specs.Orders.{has_same_ranks}
use Rattle.gs_triple_lists.proofs.OrderLemmas.{sorted_order}
use Rattle.gs_triple_lists.proofs.orders.put_in_order.Goals as goal

pub returns : goal.returns
returns c =
    let ranks = c.args.ranks.now in
    let ks = c.args.numbers.now in
    let ws = c.sort_by_rank.new.numbers in
    let moved = subst (λ xs. IsPermutation xs ws) c.as_mut_slice.ensures.value c.sort_by_rank.ensures.permutation in
    let same : (with_items ks ws).items ≡ ws = with_items_is ks ws (length_permutation ks.items ws moved ∙ sym ks.ok.0) in
    let once = dedup_same _ (has_same_ranks ranks) _ (λ x y b f' x' y' k. search rules) _ _ c.dedup_by.ensures.filtered in
    sorted_order c.args.terms.now ranks c.requires.ranks ks.items ws c.dedup_by.new.self.items c.requires.known moved c.sort_by_rank.ensures.sorted (once ∙ ap (dedup (has_same_ranks ranks)) same)

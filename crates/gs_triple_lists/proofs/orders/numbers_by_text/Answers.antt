use Rattle.std.specs.List.{range_with_len}
use Rattle.std.specs.List.Sorted.{IsPermutation}
use Rattle.std.specs.Vec.{with_items}
use Rattle.std.proofs.Common.{◌≡◌, ◌∙◌, ◌<◌, ◌^◌, length, ap, subst, sym, rules}
use Rattle.std.proofs.lemmas.List.{with_items_is}
use Rattle.std.proofs.lemmas.List.Sorted.{length_permutation}
use Rattle.gs_triple_lists.specs.Orders.{AreByText}
use Rattle.gs_triple_lists.proofs.RankLemmas.{are_by_text}
use Rattle.gs_triple_lists.proofs.orders.numbers_by_text.Goals as goal

pub returns : goal.returns
returns c =
    let terms = c.args.terms.now in
    let ks = c.in_ok-numbers.numbers in
    let ws = c.sort_by_text.new.numbers in
    let count : c.in-Ok.count ≡ length terms = search rules in
    let few : length terms < 2 ^ 32 = search rules in
    let all = c.as_mut_slice.ensures.value ∙ c.in_ok-numbers.ensures ∙ ap (range_with_len 0) count in
    let same : (with_items ks ws).items ≡ ws = with_items_is ks ws (length_permutation c.as_mut_slice.result.now ws c.sort_by_text.ensures.permutation ∙ ap length c.as_mut_slice.ensures.value ∙ sym ks.ok.0) in
    subst (AreByText terms) (sym same) (are_by_text terms ws few (subst (λ xs. IsPermutation xs ws) all c.sort_by_text.ensures.permutation) c.sort_by_text.ensures.sorted)

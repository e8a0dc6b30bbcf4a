use Rattle.std.specs.List.{dedup}
use Rattle.std.specs.List.Sorted.{IsPermutation}
use Rattle.std.specs.Vec.{with_items}
use Rattle.std.proofs.Common.{◌≡◌, ◌∙◌, ap, subst, sym, rules}
use Rattle.std.proofs.lemmas.Fn.{dedup_same}
use Rattle.std.proofs.lemmas.List.{with_items_is}
use Rattle.std.proofs.lemmas.List.Sorted.{length_permutation}
use Rattle.gs_staging.specs.Keys.{is_same}
use Rattle.gs_staging.proofs.RunLemmas.{sorted_run}
use Rattle.gs_staging.proofs.orders.put_in_order.Goals as goal

pub returns : goal.returns
returns c =
    let ks = c.args.keys.now in
    let ws = c.sort.new.keys in
    let moved = subst (λ xs. IsPermutation xs ws) c.as_mut_slice.ensures.value c.sort.ensures.permutation in
    let same : (with_items ks ws).items ≡ ws = with_items_is ks ws (length_permutation ks.items ws moved ∙ sym ks.ok.0) in
    let once = dedup_same _ is_same _ (λ x y b f' x' y' k. search rules) _ _ c.dedup_by.ensures.filtered in
    sorted_run c.args.order.now.dict.now.terms c.requires.distinct ks.items ws c.dedup_by.new.self.items c.requires.given moved c.sort.ensures.sorted (once ∙ ap (dedup is_same) same)

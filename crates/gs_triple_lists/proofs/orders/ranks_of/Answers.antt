use Rattle.std.proofs.Common.{◌≡◌, ◌+◌, ◌-◌, ◌∙◌, slice_index, subst, arith}
use Rattle.std.proofs.lemmas.List.{length-set}
use Rattle.gs_triple_lists.specs.Kept.{term_of_number}
use Rattle.gs_triple_lists.specs.Orders.{IsRankOf}
use Rattle.gs_triple_lists.proofs.RankLemmas.{ranks_more, are_ranks}
use Rattle.gs_triple_lists.proofs.orders.ranks_of.Goals as goal

pub loop-place-preserved : goal.loop-place-preserved
loop-place-preserved c =
    let terms = c.args.terms.now in
    let by_text = c.args.by_text.now in
    let place = c.loop-place.place in
    let back : place ≡ place + 1 - 1 = omega arith in
    record {
      long = length-set c.loop-place.ranks.items (slice_index by_text place) c.rank_at-rank.result ∙ c.loop-place.invariant.long;
      each = ranks_more terms by_text c.requires c.loop-place.ranks.items place c.rank_at-rank.result c.loop-place.invariant.long c.loop-place-test.true c.loop-place.invariant.each c.rank_at-rank.ensures;
      last = λ _. subst (λ k. IsRankOf terms by_text (term_of_number terms (slice_index by_text k)) c.rank_at-rank.result) back c.rank_at-rank.ensures;
    }

pub returns : goal.returns
returns c = are_ranks c.args.terms.now c.args.by_text.now c.requires c.loop-place.ranks.items (λ j low. c.loop-place.invariant.each j (omega (arith, low, c.loop-place-test.false)))

use Rattle.std.proofs.Common.{◌<◌, ◌∙◌, sym, arith}
use Rattle.gs_triple_lists.proofs.RankLemmas.{rank_first, rank_new, rank_kept}
use Rattle.gs_triple_lists.proofs.orders.rank_at.Goals as goal

pub returns-then-place-eq0 : goal.returns-then-place-eq0
returns-then-place-eq0 c = rank_first c.args.terms.now c.args.by_text.now c.requires.sorted c.args.place c.if-place-eq0.true

pub returns-in-Less : goal.returns-in-Less
returns-in-Less c =
    let some : 0 < c.args.place = omega arith in
    rank_new c.args.terms.now c.args.by_text.now c.requires.sorted c.args.place some c.requires.within (sym c.compare_texts.ensures ∙ c.in-Less.is)

pub returns-in_default : goal.returns-in_default
returns-in_default c =
    let some : 0 < c.args.place = omega arith in
    rank_kept c.args.terms.now c.args.by_text.now c.requires.sorted c.args.place c.args.before some c.requires.within (λ e. c.in_default.not-Less (c.compare_texts.ensures ∙ e)) (c.requires.before some)

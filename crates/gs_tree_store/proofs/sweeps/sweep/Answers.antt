use Rattle.std.proofs.Common.{◌≡◌, arith, Bool, List, length, ap, subst, ◌∙◌}
use Rattle.gs_dict.specs.Sweeping.{Sweeps}
use Rattle.gs_dict.proofs.DictLemmas.{written}
use Rattle.gs_tree_store.proofs.MarkedLemmas.{swept_books}
use Rattle.gs_tree_store.proofs.sweeps.sweep.Goals as goal

pub returns : goal.returns
returns c =
    let marks = c.mark_needed.new.marks in
    let count : length marks ≡ c.in-Ok.marks.len = omega (arith, c.mark_needed.ensures.kept.count, ap length c.deref_mut.ensures.value) in
    let same : c.deref.result.now ≡ marks = c.deref.ensures.value ∙ written c.in-Ok.marks.len marks c.in-Ok.marks.items count in
    let all : length c.deref_mut.result.now ≡ length c.args.books.now.dict.terms = omega (arith, ap length c.deref_mut.ensures.value, c.in-Ok.ensures.len, c.len-count.ensures.value) in
    let P : List Bool → Type 0 = λ ms. Sweeps ms 0 c.len-count.result c.args.books.now.dict c.sweep.new.self in
    swept_books c.args.books.now c.args.seats.now _ _ _ _ _ all c.mark_needed.ensures.kept c.mark_needed.ensures.nodes c.mark_needed.ensures.places (subst P same c.sweep.ensures) c.compact.ensures

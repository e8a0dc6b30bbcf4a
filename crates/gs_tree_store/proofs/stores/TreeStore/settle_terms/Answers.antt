use Rattle.std.proofs.Common.{List, subst}
use Rattle.gs_tree_store.specs.declared.books.Seat.{Seat}
use Rattle.gs_tree_store.specs.Sweeps.{SweepsTerms}
use Rattle.gs_tree_store.proofs.SweptLemmas.{same_shown, still_kept}
use Rattle.gs_tree_store.proofs.stores.TreeStore.settle_terms.Goals as goal

pub invariant_of-self : goal.invariant_of-self
invariant_of-self c =
    let P : List Seat → Type 0 = λ seats. SweepsTerms c.self.inside.books seats c.settle.new.books in
    still_kept c.self.inside c.settle.new.books c.settle.new.swept (subst P c.deref.ensures.value c.settle.ensures) c.self.invariant

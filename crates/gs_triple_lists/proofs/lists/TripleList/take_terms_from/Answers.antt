use Rattle.std.proofs.Common.{◌≡◌, ◌++◌, ◌∙◌, ap, sym, subst}
use Rattle.std.specs.Prelude.{map}
use Rattle.gs_triple_lists.specs.Lists.{listed}
use Rattle.gs_triple_lists.specs.Kept.{AreTriplesIn, triples_of_numbers, renumbered_by}
use Rattle.gs_triple_lists.proofs.ListLemmas.{on_err, still_triples, triples_stay}
use Rattle.gs_triple_lists.proofs.RenumberLemmas.{all_moved, moved_known}
use Rattle.gs_triple_lists.proofs.lists.TripleList.take_terms_from.Goals as goal

pub invariant_of-self : goal.invariant_of-self
invariant_of-self c =
    let old = c.self.inside.table.terms.items in
    let new = c.moved_terms.new.to.terms.items in
    (still_triples old new c.self.inside.numbers.items c.moved_terms.ensures.more c.self.invariant.0, tt)

pub returns-in_err-numbers-clause-kept : goal.returns-in_err-numbers-clause-kept
returns-in_err-numbers-clause-kept c =
    let old = c.self.inside.table.terms.items in
    let new = c.moved_terms.new.to.terms.items in
    on_err c.from_residual.result
    (ap listed (triples_stay old new c.self.inside.numbers.items c.moved_terms.ensures.more c.self.invariant.0) ∙ c.self.view_is)

pub invariant_of-self-in_err-append_renumbered : goal.invariant_of-self-in_err-append_renumbered
invariant_of-self-in_err-append_renumbered c =
    let old = c.self.inside.table.terms.items in
    let new = c.moved_terms.new.to.terms.items in
    let ks = c.self.inside.numbers.items in
    (subst (AreTriplesIn new) (sym c.in_err-append_renumbered.ensures.kept) (still_triples old new ks c.moved_terms.ensures.more c.self.invariant.0), tt)

pub returns-in_err-append_renumbered-clause-kept : goal.returns-in_err-append_renumbered-clause-kept
returns-in_err-append_renumbered-clause-kept c =
    let old = c.self.inside.table.terms.items in
    let new = c.moved_terms.new.to.terms.items in
    let ks = c.self.inside.numbers.items in
    on_err c.from_residual-in_err-append_renumbered.result
    (ap listed (ap (triples_of_numbers new) c.in_err-append_renumbered.ensures.kept ∙ triples_stay old new ks c.moved_terms.ensures.more c.self.invariant.0) ∙ c.self.view_is)

-- the numbers after the call
appended : (c : goal.After-drop-numbers-2) → c.append_renumbered.new.known.items ≡ c.self.inside.numbers.items ++ map (renumbered_by c.in_ok-numbers.numbers.items) c.other.inside.numbers.items
appended c =
    let ks = c.self.inside.numbers.items in
    let ns = c.in_ok-numbers.numbers.items in
    let threes = c.replace-threes.result.items in
    c.in_ok-append_renumbered.ensures.added
    ∙ (ap (λ by. ks ++ map (renumbered_by by) threes) c.deref.ensures.value
    ∙ ap (λ v. ks ++ map (renumbered_by ns) v.items) c.replace-threes.ensures.value)

pub invariant_of-self-2 : goal.invariant_of-self-2
invariant_of-self-2 c =
    let old = c.self.inside.table.terms.items in
    let new = c.moved_terms.new.to.terms.items in
    let given = c.other.inside.table.terms.items in (
      subst (AreTriplesIn new) (sym (appended c))
          (moved_known old new given c.in_ok-numbers.numbers.items c.self.inside.numbers.items c.other.inside.numbers.items c.moved_terms.ensures.more c.self.invariant.0 c.in_ok-numbers.ensures.ok c.other.invariant.0),
      tt,
    )

pub returns-clause-added : goal.returns-clause-added
returns-clause-added c =
    let old = c.self.inside.table.terms.items in
    let new = c.moved_terms.new.to.terms.items in
    let given = c.other.inside.table.terms.items in
    let threes = c.other.inside.numbers.items in
    ap listed (
    ap (triples_of_numbers new) (appended c)
    ∙ (all_moved old new given c.in_ok-numbers.numbers.items c.self.inside.numbers.items threes c.moved_terms.ensures.more c.self.invariant.0 c.in_ok-numbers.ensures.ok c.other.invariant.0
    ∙ (ap (λ l. l.items ++ triples_of_numbers given threes) c.self.view_is ∙ ap (λ l. c.args.self.now.items ++ l.items) c.other.view_is)))

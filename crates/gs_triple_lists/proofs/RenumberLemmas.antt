-- Terms that are moved from one table into another have new numbers there, and triples of the new numbers are those of the old ones.
use Rattle.std.proofs.Common.{◌≡◌, ◌<◌, ℕ, List, [], ◌∷◌, ◌++◌, map, length, slice_get, slice_index, get_or, reverse, Some, refl, sym, subst, ap, ◌∙◌, arith, append-nil, append_assoc, below_more}
use Rattle.std.proofs.Math.Seq.{get_or-append_seam}
use Rattle.std.proofs.lemmas.List.{map-append, length-append, get_or_append_left, reverse-reverse, reverse-append}
use Rattle.std.proofs.lemmas.List.Elements.{All-head, All-tail, All-map, All-append, All-weaker}
use Rattle.std.proofs.lemmas.Option.{slice_get-get_or}
use Rattle.gs_model.specs.Terms.{Term, Iri}
use Rattle.gs_triple_lists.specs.declared.lists.TripleNumbers.{TripleNumbers}
use Rattle.gs_triple_lists.specs.Kept.{HasMore, term_of_number, triple_of_numbers, IsTripleIn, AreNumbersOf, AreNumbersIn, AreTriplesIn, AreWithin, triples_of_numbers, renumbered_by}
use Rattle.gs_triple_lists.proofs.ListLemmas.{has_same, more_after, number_stays, are_numbers, still_triples, triples_stay}

-- no term has no number
pub numbers_none : (all : List Term) → AreNumbersIn all [] []
numbers_none all = record { count = refl; terms = λ n inside. absurd (omega arith) }

-- a term keeps its place where terms come after it
slice_get-append_left : (ts us : List Term) (n : ℕ) → n < length ts → slice_get (ts ++ us) n ≡ Some (term_of_number ts n)
slice_get-append_left ts us n inside =
    slice_get-get_or (ts ++ us) n (Iri []) (omega (arith, length-append ts us))
    ∙ ap Some (get_or_append_left ts us (Iri []) n inside)

-- the last one stands after all others
slice_get-append_seam : (ts : List Term) (t : Term) → slice_get (ts ++ t ∷ []) (length ts) ≡ Some t
slice_get-append_seam ts t =
    slice_get-get_or (ts ++ t ∷ []) (length ts) (Iri []) (omega (arith, length-append ts (t ∷ [])))
    ∙ ap Some (get_or-append_seam ts t [] (Iri []))

-- the number of a term is that of the term at its place
number_at : (all given : List Term) (ns : List ℕ) (n : ℕ) → AreNumbersIn all given ns → n < length given → slice_get all (slice_index ns n) ≡ Some (term_of_number given n)
number_at all given ns n are inside = are.terms n inside ∙ slice_get-get_or given n (Iri []) inside

-- a term more, and its number
pub numbers_next : (old new given : List Term) (ns : List ℕ) (n : ℕ) (t : Term) → AreNumbersIn old given ns → HasMore old new → slice_get new n ≡ Some t → AreNumbersIn new (given ++ t ∷ []) (ns ++ n ∷ [])
numbers_next old new given ns n t are m is = record {
  count = omega (arith, are.count, length-append given (t ∷ []), length-append ns (n ∷ []));
  terms = λ k inside. below_more (λ i. slice_get new (slice_index (ns ++ n ∷ []) i) ≡ slice_get (given ++ t ∷ []) i) (length given)
      (λ i below. ap (slice_get new) (get_or_append_left ns (n ∷ []) 0 i (omega (arith, are.count)))
      ∙ (number_stays old new (slice_index ns i) (term_of_number given i) m (number_at old given ns i are below) ∙ sym (slice_get-append_left given (t ∷ []) i below)))
      (ap (λ i. slice_get new (slice_index (ns ++ n ∷ []) i)) (sym are.count)
      ∙ (ap (slice_get new) (get_or-append_seam ns n [] 0) ∙ (is ∙ sym (slice_get-append_seam given t))))
      k (omega (arith, length-append given (t ∷ [])));
}

-- a triple's numbers among more terms are those of its terms
pub renumbered_triple : (all given : List Term) (ns : List ℕ) (k : TripleNumbers) → AreNumbersIn all given ns → IsTripleIn given k → AreNumbersOf all (triple_of_numbers given k) (renumbered_by ns k)
renumbered_triple all given ns k are is =
    are_numbers all (renumbered_by ns k) (triple_of_numbers given k)
    (number_at all given ns k.subject are is.subject) (number_at all given ns k.predicate are is.predicate) (number_at all given ns k.object are is.object) is.kinds

-- so are those of all triples
pub renumbered_triples : (all given : List Term) (ns : List ℕ) (ks : List TripleNumbers) → AreNumbersIn all given ns → AreTriplesIn given ks → triples_of_numbers all (map (renumbered_by ns) ks) ≡ triples_of_numbers given ks
renumbered_triples all given ns [] are known = refl
renumbered_triples all given ns (k ∷ ks) are known =
    ap (λ t. t ∷ triples_of_numbers all (map (renumbered_by ns) ks)) (renumbered_triple all given ns k are (All-head (IsTripleIn given) k ks known)).triple
    ∙ ap (λ ts. triple_of_numbers given k ∷ ts) (renumbered_triples all given ns ks are (All-tail (IsTripleIn given) k ks known))

-- and each is a triple's
pub renumbered_known : (all given : List Term) (ns : List ℕ) (ks : List TripleNumbers) → AreNumbersIn all given ns → AreTriplesIn given ks → AreTriplesIn all (map (renumbered_by ns) ks)
renumbered_known all given ns ks are known =
    All-map (IsTripleIn all) (renumbered_by ns) ks (All-weaker (IsTripleIn given) (λ k. IsTripleIn all (renumbered_by ns k)) (λ k is. (renumbered_triple all given ns k are is).known) ks known)

-- numbers of triples are below the count of the terms
pub within_numbers : (all given : List Term) (ns : List ℕ) (ks : List TripleNumbers) → AreNumbersIn all given ns → AreTriplesIn given ks → (i : ℕ) (d : TripleNumbers) → i < length ks → AreWithin (length ns) (get_or ks i d)
within_numbers all given ns ks are known i d inside =
    let is = known i d inside in
    record { subject = omega (arith, is.subject, are.count); predicate = omega (arith, is.predicate, are.count); object = omega (arith, is.object, are.count) }

-- While terms are moved from the end of a reversed table into one that had the first ones: those that were moved, and their numbers.
pub record TermsMove (first given all left : List Term) (ns : List ℕ) : Type 0 where
  pub done : List Term
  pub rest : given ≡ done ++ reverse left
  pub more : HasMore first all
  pub numbers : AreNumbersIn all done ns

-- before the first term is moved
pub terms_move_none : (first given left : List Term) (ns : List ℕ) → left ≡ reverse given → ns ≡ [] → TermsMove first given first left ns
terms_move_none first given left ns is none = record {
  done = [];
  rest = sym (reverse-reverse given) ∙ ap reverse (sym is);
  more = has_same first;
  numbers = subst (AreNumbersIn first []) (sym none) (numbers_none first);
}

-- after the next one
pub terms_move_next : (first given all left new ys : List Term) (ns : List ℕ) (t : Term) (n : ℕ) → TermsMove first given all left ns → left ≡ ys ++ t ∷ [] → HasMore all new → slice_get new n ≡ Some t → TermsMove first given new ys (ns ++ n ∷ [])
terms_move_next first given all left new ys ns t n m is more number = record {
  done = m.done ++ t ∷ [];
  rest = m.rest ∙ (ap (λ ts. m.done ++ reverse ts) is ∙ (ap (λ ts. m.done ++ ts) (reverse-append ys (t ∷ [])) ∙ sym (append_assoc m.done (t ∷ []) (reverse ys))));
  more = more_after first all new m.more more;
  numbers = numbers_next all new m.done ns n t m.numbers more number;
}

-- after the last one
pub terms_move_all : (first given all left : List Term) (ns : List ℕ) → TermsMove first given all left ns → left ≡ [] → AreNumbersIn all given ns
terms_move_all first given all left ns m none =
    subst (λ ts. AreNumbersIn all ts ns) (sym (m.rest ∙ (ap (λ ts. m.done ++ reverse ts) none ∙ append-nil m.done))) m.numbers

-- a list's triples, and those that are moved to its end
module _ (old new given : List Term) (ns : List ℕ) (ks threes : List TripleNumbers) (m : HasMore old new) (known : AreTriplesIn old ks) (are : AreNumbersIn new given ns) (given_known : AreTriplesIn given threes) where
  pub all_moved : triples_of_numbers new (ks ++ map (renumbered_by ns) threes) ≡ triples_of_numbers old ks ++ triples_of_numbers given threes
  all_moved =
      map-append (triple_of_numbers new) ks (map (renumbered_by ns) threes)
      ∙ (ap (λ ts. ts ++ triples_of_numbers new (map (renumbered_by ns) threes)) (triples_stay old new ks m known)
      ∙ ap (λ ts. triples_of_numbers old ks ++ ts) (renumbered_triples new given ns threes are given_known))

  pub moved_known : AreTriplesIn new (ks ++ map (renumbered_by ns) threes)
  moved_known = All-append (IsTripleIn new) ks (map (renumbered_by ns) threes) (still_triples old new ks m known) (renumbered_known new given ns threes are given_known)

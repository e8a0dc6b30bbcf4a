-- Numbers keep their terms while terms come, and so numbers of triples keep their triples.
use Rattle.std.proofs.Common.{◌≡◌, ◌<◌, ℕ, true, List, [], ◌∷◌, ◌++◌, length, slice_get, get_or, take, reverse, Some, refl, sym, ap, subst, ◌∙◌, arith, append-nil}
use Rattle.std.proofs.lemmas.List.{map-append, length-append, append_assoc, get_or_append_left, reverse-reverse, reverse-append}
use Rattle.std.proofs.Math.Seq.{take-append_seam}
use Rattle.std.specs.Prelude.{Result, Ok, Err, OnErr}
use Rattle.std.proofs.lemmas.List.Elements.{All-head, All-tail, All-push, All-weaker}
use Rattle.std.proofs.lemmas.Option.{slice_get-get_or, slice_get_within, get_or_from_slice_get}
use Rattle.std.specs.Str.{bytes_eq}
use Rattle.gs_model.specs.Terms.{Term, Iri, text_of}
use Rattle.gs_model.specs.Triples.{RdfTriple, has_kinds}
use Rattle.gs_model.proofs.TextLemmas.{same_text, text_of-injective}
use Rattle.gs_triple_lists.specs.declared.lists.TripleNumbers.{TripleNumbers}
use Rattle.gs_triple_lists.specs.Kept.{HasMore, triple_of_terms, term_of_number, triple_of_numbers, IsTripleIn, AreNumbersOf, AreTriplesIn, triples_of_numbers}

-- what holds anyway holds where a call is refused
pub on_err : {T E P : Type 0} (r : Result T E) → P → OnErr r P
on_err (Ok x) p = tt
on_err (Err e) p = p

-- terms whose texts compare as equal are one
pub same_term : (t u : Term) (x y : List ℕ) → x ≡ text_of t → y ≡ text_of u → bytes_eq x y ≡ true → t ≡ u
same_term t u x y first second e = text_of-injective t u (sym first ∙ (same_text x y e ∙ second))

-- a number's term, where it has this one
pub number_term : (terms : List Term) (n : ℕ) (t : Term) → slice_get terms n ≡ Some t → term_of_number terms n ≡ t
number_term terms n t is = get_or_from_slice_get terms n t (Iri []) is

-- nothing more
pub has_same : (terms : List Term) → HasMore terms terms
has_same terms = record { more = []; terms = sym (append-nil terms) }

-- more, and then more
pub more_after : (a b c : List Term) → HasMore a b → HasMore b c → HasMore a c
more_after a b c m n = record {
  more = m.more ++ n.more;
  terms = n.terms ∙ (ap (λ ts. ts ++ n.more) m.terms ∙ append_assoc a m.more n.more);
}

-- a number keeps its term
pub term_stays : (old new : List Term) (n : ℕ) → HasMore old new → n < length old → term_of_number new n ≡ term_of_number old n
term_stays old new n m inside = ap (λ ts. get_or ts n (Iri [])) m.terms ∙ get_or_append_left old m.more (Iri []) n inside

-- it is still a number
pub still_inside : (old new : List Term) (n : ℕ) → HasMore old new → n < length old → n < length new
still_inside old new n m inside = omega (arith, ap length m.terms, length-append old m.more)

-- a triple is its terms
pub same_triple : {s t p q o u : Term} → s ≡ t → p ≡ q → o ≡ u → triple_of_terms s p o ≡ triple_of_terms t q u
same_triple {s} {t} {p} {q} {o} {u} subject predicate object =
    ap (λ x. triple_of_terms x p o) subject ∙ (ap (λ x. triple_of_terms t x o) predicate ∙ ap (λ x. triple_of_terms t q x) object)

-- three numbers keep their triple
pub triple_stays : (old new : List Term) (k : TripleNumbers) → HasMore old new → IsTripleIn old k → triple_of_numbers new k ≡ triple_of_numbers old k
triple_stays old new k m is =
    same_triple (term_stays old new k.subject m is.subject) (term_stays old new k.predicate m is.predicate) (term_stays old new k.object m is.object)

-- and are still a triple's
pub still_triple : (old new : List Term) (k : TripleNumbers) → HasMore old new → IsTripleIn old k → IsTripleIn new k
still_triple old new k m is = record {
  subject = still_inside old new k.subject m is.subject;
  predicate = still_inside old new k.predicate m is.predicate;
  object = still_inside old new k.object m is.object;
  kinds = ap has_kinds (triple_stays old new k m is) ∙ is.kinds;
}

pub still_triples : (old new : List Term) (ks : List TripleNumbers) → HasMore old new → AreTriplesIn old ks → AreTriplesIn new ks
still_triples old new ks m are = All-weaker (IsTripleIn old) (IsTripleIn new) (λ k is. still_triple old new k m is) ks are

pub triples_stay : (old new : List Term) (ks : List TripleNumbers) → HasMore old new → AreTriplesIn old ks → triples_of_numbers new ks ≡ triples_of_numbers old ks
triples_stay old new [] m are = refl
triples_stay old new (k ∷ ks) m are =
    ap (λ t. t ∷ triples_of_numbers new ks) (triple_stays old new k m (All-head (IsTripleIn old) k ks are))
    ∙ ap (λ ts. triple_of_numbers old k ∷ ts) (triples_stay old new ks m (All-tail (IsTripleIn old) k ks are))

-- what three numbers of a triple's terms are
module _ (terms : List Term) (k : TripleNumbers) (t : RdfTriple) (s : slice_get terms k.subject ≡ Some t.subject) (p : slice_get terms k.predicate ≡ Some t.predicate) (o : slice_get terms k.object ≡ Some t.object) where
  pub is_triple : triple_of_numbers terms k ≡ t
  is_triple =
      same_triple (number_term terms k.subject t.subject s) (number_term terms k.predicate t.predicate p) (number_term terms k.object t.object o)

  pub are_numbers : has_kinds t ≡ true → AreNumbersOf terms t k
  are_numbers kinds = record {
    triple = is_triple;
    known = record {
      subject = slice_get_within terms k.subject t.subject s;
      predicate = slice_get_within terms k.predicate t.predicate p;
      object = slice_get_within terms k.object t.object o;
      kinds = ap has_kinds is_triple ∙ kinds;
    };
  }

-- a number of a term is one among more terms
pub number_stays : (old new : List Term) (n : ℕ) (t : Term) → HasMore old new → slice_get old n ≡ Some t → slice_get new n ≡ Some t
number_stays old new n t m is =
    let inside : n < length old = slice_get_within old n t is in
    let still : n < length new = still_inside old new n m inside in
    slice_get-get_or new n (Iri []) still
    ∙ ap Some (term_stays old new n m inside ∙ number_term old n t is)

-- one triple more: the numbers now are those that were there, and three more
module _ (old new : List Term) (ks now : List TripleNumbers) (k : TripleNumbers) (t : RdfTriple) (m : HasMore old new) (are : AreTriplesIn old ks) (is : AreNumbersOf new t k) (added : now ≡ ks ++ k ∷ []) where
  pub one_more : triples_of_numbers new now ≡ triples_of_numbers old ks ++ t ∷ []
  one_more =
      ap (triples_of_numbers new) added
      ∙ (map-append (triple_of_numbers new) ks (k ∷ [])
      ∙ (ap (λ ts. ts ++ triple_of_numbers new k ∷ []) (triples_stay old new ks m are) ∙ ap (λ u. triples_of_numbers old ks ++ u ∷ []) is.triple))

  pub all_known : AreTriplesIn new now
  all_known = subst (AreTriplesIn new) (sym added) (All-push (IsTripleIn new) ks k (still_triples old new ks m are) is.known)

-- While triples are moved from the end of a reversed list: those that were moved, and those that are left.
pub record Moves (old given now left : List RdfTriple) : Type 0 where
  pub done : List RdfTriple
  pub moved : now ≡ old ++ done
  pub rest : given ≡ done ++ reverse left

pub moves_none : (old given left : List RdfTriple) → left ≡ reverse given → Moves old given old left
moves_none old given left is = record {
  done = [];
  moved = sym (append-nil old);
  rest = sym (reverse-reverse given) ∙ ap reverse (sym is);
}

pub moves_next : (old given now left ys : List RdfTriple) (t : RdfTriple) → Moves old given now left → left ≡ ys ++ t ∷ [] → Moves old given (now ++ t ∷ []) ys
moves_next old given now left ys t m is = record {
  done = m.done ++ t ∷ [];
  moved = ap (λ ts. ts ++ t ∷ []) m.moved ∙ append_assoc old m.done (t ∷ []);
  rest = m.rest ∙ (ap (λ ts. m.done ++ reverse ts) is ∙ (ap (λ ts. m.done ++ ts) (reverse-append ys (t ∷ [])) ∙ sym (append_assoc m.done (t ∷ []) (reverse ys))));
}

pub moves_all : (old given now left : List RdfTriple) → Moves old given now left → left ≡ [] → now ≡ old ++ given
moves_all old given now left m none =
    m.moved ∙ ap (λ ts. old ++ ts) (sym (m.rest ∙ (ap (λ ts. m.done ++ reverse ts) none ∙ append-nil m.done)))

pub moves_back : (old given now left : List RdfTriple) → Moves old given now left → take (length old) now ≡ old
moves_back old given now left m = ap (take (length old)) m.moved ∙ take-append_seam old m.done

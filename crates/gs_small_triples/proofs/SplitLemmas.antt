-- Terms of texts in two parts.
use Rattle.std.proofs.Common.{◌≡◌, ◌<◌, ℕ, List, [], ◌∷◌, ◌++◌, ◌+◌, length, get_or, map, take, slice_get, Some, sym, ap, subst, ◌∙◌, arith}
use Rattle.std.proofs.lemmas.List.{length-map, get_or-map, take_more}
use Rattle.std.proofs.lemmas.Option.{slice_get-map, slice_get_within, get_or_from_slice_get}
use Rattle.std.specs.Prelude.{option_map}
use Rattle.gs_model.specs.Terms.{Term, Iri}
use Rattle.gs_model.specs.Texts.{term_of, IsCanonical}
use Rattle.gs_triple_lists.specs.declared.lists.TripleNumbers.{TripleNumbers}
use Rattle.gs_triple_lists.specs.Kept.{term_of_number, triple_of_numbers, triples_of_numbers, IsTripleIn}
use Rattle.gs_packed_texts.specs.Texts.{split_bytes}
use Rattle.gs_packed_texts.specs.declared.readers.SplitText.{SplitText}
use Rattle.gs_small_triples.specs.Kept.{terms_split, AreSplit}

-- a number with a term has a text
pub text_inside : (ss : List SplitText) (k : ℕ) → k < length (terms_split ss) → k < length ss
text_inside ss k known = omega (arith, length-map ss split_bytes, length-map (map split_bytes ss) term_of)

-- which is canonical
pub canonical_at : (ss : List SplitText) (k : ℕ) (d : SplitText) → AreSplit ss → k < length (terms_split ss) → IsCanonical (split_bytes (get_or ss k d))
canonical_at ss k d canonical known =
    let inside : k < length ss = text_inside ss k known in
    let mapped : k < length (map split_bytes ss) = omega (arith, length-map ss split_bytes) in
    subst IsCanonical (get_or-map split_bytes ss k d [] inside) (canonical k [] mapped)

-- and the term is that of the text
pub term_at : (ss : List SplitText) (k : ℕ) (d : SplitText) → k < length (terms_split ss) → term_of_number (terms_split ss) k ≡ term_of (split_bytes (get_or ss k d))
term_at ss k d known =
    let inside : k < length ss = text_inside ss k known in
    let mapped : k < length (map split_bytes ss) = omega (arith, length-map ss split_bytes) in
    get_or-map term_of (map split_bytes ss) k [] (Iri []) mapped ∙ ap term_of (get_or-map split_bytes ss k d [] inside)

-- the triple of three texts
pub triple_at :
    (ss : List SplitText) (k : TripleNumbers) (d : SplitText) (s p o : Term) → IsTripleIn (terms_split ss) k
    → s ≡ term_of (split_bytes (get_or ss k.subject d)) → p ≡ term_of (split_bytes (get_or ss k.predicate d)) → o ≡ term_of (split_bytes (get_or ss k.object d))
    → record { subject = s; predicate = p; object = o } ≡ triple_of_numbers (terms_split ss) k
triple_at ss k d s p o known subject predicate object = λ i. record {
  subject = (subject ∙ sym (term_at ss k.subject d known.subject)) i;
  predicate = (predicate ∙ sym (term_at ss k.predicate d known.predicate)) i;
  object = (object ∙ sym (term_at ss k.object d known.object)) i;
}

-- one triple more of those of all numbers
pub next_triple :
    (terms : List Term) (ks : List TripleNumbers) (n : ℕ) (k : TripleNumbers) → slice_get ks n ≡ Some k
    → take (n + 1) (triples_of_numbers terms ks) ≡ take n (triples_of_numbers terms ks) ++ triple_of_numbers terms k ∷ []
next_triple terms ks n k is =
    let f : TripleNumbers → _ = triple_of_numbers terms in
    let there : slice_get (map f ks) n ≡ Some (f k) = slice_get-map f ks n ∙ ap (option_map f) is in
    take_more (map f ks) n (f k) (slice_get_within (map f ks) n (f k) there)
    ∙ ap (λ t. take n (map f ks) ++ t ∷ []) (get_or_from_slice_get (map f ks) n (f k) (f k) there)

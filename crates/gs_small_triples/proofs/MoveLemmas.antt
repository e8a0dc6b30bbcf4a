-- Numbers of triples that are moved to the places of their terms have the same triples.
use Rattle.std.proofs.Common.{◌≡◌, ◌<◌, ℕ, List, [], ◌∷◌, length, get_or, map, Some, refl, ap, ◌∙◌, arith}
use Rattle.std.proofs.lemmas.List.{length-map}
use Rattle.std.proofs.lemmas.List.Elements.{All-head, All-tail, All-map, All-weaker}
use Rattle.std.proofs.lemmas.Option.{slice_get-map, slice_get_within, get_or_from_slice_get}
use Rattle.std.specs.List.{All}
use Rattle.std.specs.Prelude.{option_map}
use Rattle.gs_model.specs.Terms.{Term, Iri}
use Rattle.gs_model.specs.Texts.{term_of}
use Rattle.gs_model.specs.Triples.{has_kinds}
use Rattle.gs_model.proofs.TextLemmas.{term_of-text_of}
use Rattle.gs_triple_lists.specs.declared.lists.TripleNumbers.{TripleNumbers}
use Rattle.gs_triple_lists.specs.Kept.{term_of_number, triple_of_numbers, IsTripleIn, AreTriplesIn, triples_of_numbers}
use Rattle.gs_packed_texts.specs.Texts.{texts_of}
use Rattle.gs_small_triples.specs.declared.packings.Packing.{Packing}
use Rattle.gs_small_triples.specs.Kept.{terms_of, moved}
use Rattle.gs_small_triples.specs.Packed.{ArePlaced, HavePlaces}

module _ (terms : List Term) (p : Packing) (placed : ArePlaced terms p) where
  -- where a term's text is packed
  place : ℕ → ℕ
  place k = get_or p.places.items k 0

  -- there is a text at each place
  inside : (k : ℕ) → k < length terms → get_or p.places.items k 0 < length (texts_of p.texts)
  inside k known = slice_get_within (texts_of p.texts) (get_or p.places.items k 0) _ (placed.placed k known)

  -- and it is the term's
  term_moved : (k : ℕ) → k < length terms → term_of_number (terms_of (texts_of p.texts)) (get_or p.places.items k 0) ≡ term_of_number terms k
  term_moved k known =
      get_or_from_slice_get (terms_of (texts_of p.texts)) (get_or p.places.items k 0) (term_of_number terms k) (Iri [])
      (slice_get-map term_of (texts_of p.texts) (get_or p.places.items k 0)
      ∙ ap (option_map term_of) (placed.placed k known)
      ∙ ap Some (term_of-text_of (term_of_number terms k)))

  -- three numbers have places
  have_places : (k : TripleNumbers) → IsTripleIn terms k → HavePlaces p k
  have_places k is = record {
    noted = record {
      subject = omega (arith, placed.noted, is.subject);
      predicate = omega (arith, placed.noted, is.predicate);
      object = omega (arith, placed.noted, is.object);
    };
    places = record {
      subject = omega (arith, p.counted, inside k.subject is.subject);
      predicate = omega (arith, p.counted, inside k.predicate is.predicate);
      object = omega (arith, p.counted, inside k.object is.object);
    };
  }

  pub all_have_places : (ks : List TripleNumbers) → AreTriplesIn terms ks → All (HavePlaces p) ks
  all_have_places ks are = All-weaker (IsTripleIn terms) (HavePlaces p) have_places ks are

  -- three numbers have the same triple
  triple_moved : (k : TripleNumbers) → IsTripleIn terms k → triple_of_numbers (terms_of (texts_of p.texts)) (moved p.places.items k) ≡ triple_of_numbers terms k
  triple_moved k is = λ i. record {
    subject = term_moved k.subject is.subject i;
    predicate = term_moved k.predicate is.predicate i;
    object = term_moved k.object is.object i;
  }

  pub triples_moved : (ks : List TripleNumbers) → AreTriplesIn terms ks → triples_of_numbers (terms_of (texts_of p.texts)) (map (moved p.places.items) ks) ≡ triples_of_numbers terms ks
  triples_moved [] are = refl
  triples_moved (k ∷ ks) are = λ i.
      triple_moved k (All-head (IsTripleIn terms) k ks are) i ∷ triples_moved ks (All-tail (IsTripleIn terms) k ks are) i

  -- which is known of it
  known_moved : (k : TripleNumbers) → IsTripleIn terms k → IsTripleIn (terms_of (texts_of p.texts)) (moved p.places.items k)
  known_moved k is =
      let long : length (terms_of (texts_of p.texts)) ≡ length (texts_of p.texts) = length-map (texts_of p.texts) term_of in
      record {
        subject = omega (arith, long, inside k.subject is.subject);
        predicate = omega (arith, long, inside k.predicate is.predicate);
        object = omega (arith, long, inside k.object is.object);
        kinds = ap has_kinds (triple_moved k is) ∙ is.kinds;
      }

  pub all_known_moved : (ks : List TripleNumbers) → AreTriplesIn terms ks → AreTriplesIn (terms_of (texts_of p.texts)) (map (moved p.places.items) ks)
  all_known_moved ks are =
      All-map (IsTripleIn (terms_of (texts_of p.texts))) (moved p.places.items) ks
      (All-weaker (IsTripleIn terms) (λ k. IsTripleIn (terms_of (texts_of p.texts)) (moved p.places.items k)) known_moved ks are)

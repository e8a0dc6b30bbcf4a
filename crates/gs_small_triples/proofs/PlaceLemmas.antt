-- Terms that are packed stand at their places, and stay there.
use Rattle.std.proofs.Common.{◌≡◌, ◌<◌, ℕ, List, [], ◌∷◌, ◌++◌, length, get_or, set, slice_get, Some, inl, inr, sym, ap, subst, ◌∙◌, arith, get_or-set_same, get_or-set_other}
use Rattle.std.proofs.lemmas.Bool.{cases_eq}
use Rattle.std.proofs.lemmas.List.{length-append, get_or_append_left, get_or_default}
use Rattle.std.proofs.Math.Seq.{get_or-append_seam}
use Rattle.std.proofs.lemmas.List.Elements.{All-push}
use Rattle.std.proofs.lemmas.Option.{slice_get-get_or, slice_get_within, get_or_from_slice_get}
use Rattle.std.specs.List.{All}
use Rattle.gs_model.specs.Terms.{Term, Iri, text_of, IsTerm}
use Rattle.gs_model.specs.Texts.{IsCanonical}
use Rattle.gs_model.proofs.TextLemmas.{term_of-text_of}
use Rattle.gs_triple_lists.specs.Kept.{term_of_number}

-- a term's text is canonical
pub canonical_text : (t : Term) → IsTerm t → IsCanonical (text_of t)
canonical_text t is = record {
  canonical = ap text_of (term_of-text_of t);
  valid = subst IsTerm (sym (term_of-text_of t)) is;
}

-- what stands in a list stands there after one more
pub still_there : {X : Type 0} (xs : List X) (x y : X) (k : ℕ) → slice_get xs k ≡ Some y → slice_get (xs ++ x ∷ []) k ≡ Some y
still_there xs x y k there =
    let inside : k < length xs = slice_get_within xs k y there in
    let more : k < length (xs ++ x ∷ []) = omega (arith, length-append xs (x ∷ [])) in
    slice_get-get_or (xs ++ x ∷ []) k y more
    ∙ ap Some (get_or_append_left xs (x ∷ []) y k inside ∙ get_or_from_slice_get xs k y y there)

-- what was added stands at the end
pub stands_last : {X : Type 0} (xs : List X) (x : X) → slice_get (xs ++ x ∷ []) (length xs) ≡ Some x
stands_last xs x =
    let more : length xs < length (xs ++ x ∷ []) = omega (arith, length-append xs (x ∷ [])) in
    slice_get-get_or (xs ++ x ∷ []) (length xs) x more ∙ ap Some (get_or-append_seam xs x [] x)

-- a term was packed, and its place noted
module _ (xs ys : List (List ℕ)) (places : List ℕ) (terms : List Term) (n place : ℕ) (t : Term) (x : List ℕ)
    (added : ys ≡ xs ++ x ∷ []) (last : place ≡ length xs) (noted : n < length places) (inside : n < length terms)
    (is : t ≡ get_or terms n t) (text : x ≡ text_of t) where
  -- the term is the number's
  same : x ≡ text_of (term_of_number terms n)
  same = text ∙ ap text_of (is ∙ get_or_default terms n t (Iri []) inside)

  -- so it is at its place
  pub placed_now : slice_get ys (get_or (set places n place) n 0) ≡ Some (text_of (term_of_number terms n))
  placed_now =
      ap (slice_get ys) (get_or-set_same places n place 0 noted ∙ last)
      ∙ ap (λ zs. slice_get zs (length xs)) added
      ∙ stands_last xs x
      ∙ ap Some same

  -- and so are those that were before
  pub placed_still : (k : ℕ) → slice_get xs (get_or places k 0) ≡ Some (text_of (term_of_number terms k)) → slice_get ys (get_or (set places n place) k 0) ≡ Some (text_of (term_of_number terms k))
  placed_still k there = elim (cases_eq k n) [
    | inl now ↦ subst (λ m. slice_get ys (get_or (set places n place) m 0) ≡ Some (text_of (term_of_number terms m))) (sym now) placed_now
    | inr other ↦
        ap (slice_get ys) (get_or-set_other places n k place 0 other)
        ∙ ap (λ zs. slice_get zs (get_or places k 0)) added
        ∙ still_there xs x (text_of (term_of_number terms k)) (get_or places k 0) there
  ]

  -- all texts are canonical still
  pub canonical_still : All IsCanonical xs → IsTerm t → All IsCanonical ys
  canonical_still all valid =
      subst (All IsCanonical) (sym added) (All-push IsCanonical xs x all (subst IsCanonical (sym text) (canonical_text t valid)))

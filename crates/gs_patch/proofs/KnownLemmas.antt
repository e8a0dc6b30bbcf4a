-- Keys of those of some triples whose terms have numbers.
use Rattle.std.proofs.Common.{◌≡◌, ◌+◌, ◌<◌, ℕ, length, take, get_or, Option, Bool, true, false, ◌||◌, List, [], ◌∷◌, ◌++◌, map, Some, refl, sym, ap, subst, ◌∙◌, inl, inr}
use Rattle.std.specs.Ordering.{eq_by_cmp}
use Rattle.std.proofs.lemmas.List.{map-append, take-map, map_more}
use Rattle.std.proofs.lemmas.List.Elements.{All-get_or}
use Rattle.std.proofs.lemmas.List.Folds.{list_any-append}
use Rattle.gs_model.specs.Terms.{Term}
use Rattle.gs_model.specs.Triples.{RdfTriple, triple_cmp}
use Rattle.gs_event.specs.Solutions.{is_among}
use Rattle.gs_event.proofs.SolutionLemmas.{same_triple}
use Rattle.gs_dict.specs.declared.numbers.TermId.{TermId}
use Rattle.gs_dict.specs.Numbering.{LooksUp}
use Rattle.gs_dict.proofs.NumberLemmas.{has_number}
use Rattle.gs_triple_lists.specs.declared.lists.TripleNumbers.{TripleNumbers}
use Rattle.gs_triple_lists.specs.Kept.{term_of_number, triple_of_numbers, triples_of_numbers, IsTripleIn, AreTriplesIn}
use Rattle.gs_pool.specs.declared.nodes.Key.{Key}
use Rattle.gs_keys.specs.Texts.{Terms, triple_at, IsGiven}
use Rattle.gs_staging.specs.Keys.{IsKeyOf}
use Rattle.gs_staging.proofs.KeyLemmas.{key_given, key_says, all_append}
use Rattle.gs_patch.specs.Known.{IsUnknown, IsMissing, IsFound, AreFound, AreKnown}

or_false : (b : Bool) → (b || false) ≡ b
or_false true = refl
or_false false = refl

-- one more is among them, or one of those before
among_more : (ts : List RdfTriple) (t u : RdfTriple) → is_among (ts ++ t ∷ []) u ≡ (is_among ts u || eq_by_cmp triple_cmp u t)
among_more ts t u = list_any-append (eq_by_cmp triple_cmp u) ts (t ∷ []) ∙ ap (λ b. is_among ts u || b) (or_false (eq_by_cmp triple_cmp u t))

-- a triple whose terms have numbers, and its key
known_more : (terms : Terms) (ts : List RdfTriple) (ks : List Key) (t : RdfTriple) (k : Key) → AreKnown terms ts ks → IsKeyOf terms t k → AreKnown terms (ts ++ t ∷ []) (ks ++ k ∷ [])
known_more terms ts ks t k h one = record {
  given = all_append (IsGiven terms) ks (k ∷ []) h.given (key_given terms t k one, tt);
  among = λ j g.
      let u = triple_at terms j in
      ap (λ xs. is_among xs u) (map-append (triple_at terms) ks (k ∷ []))
      ∙ among_more (map (triple_at terms) ks) (triple_at terms k) u
      ∙ ap (λ x. is_among (map (triple_at terms) ks) u || eq_by_cmp triple_cmp u x) (key_says terms t k one)
      ∙ ap (λ b. b || eq_by_cmp triple_cmp u t) (h.among j g)
      ∙ sym (among_more ts t u);
}

-- a triple with a term that has no number is the triple of no key
never : (terms : Terms) (t : RdfTriple) (k : Key) → IsUnknown terms t → IsGiven terms k → triple_at terms k ≡ t → ⊥
never terms t k none g e = elim none [
  | inl s ↦ s k.subject (has_number terms k.subject g.subject ∙ ap (λ (u : RdfTriple). Some u.subject) e)
  | inr (inl p) ↦ p k.predicate (has_number terms k.predicate g.predicate ∙ ap (λ (u : RdfTriple). Some u.predicate) e)
  | inr (inr o) ↦ o k.object (has_number terms k.object g.object ∙ ap (λ (u : RdfTriple). Some u.object) e)
]

-- so it changes nothing
unknown_more : (terms : Terms) (ts : List RdfTriple) (ks : List Key) (t : RdfTriple) → AreKnown terms ts ks → IsUnknown terms t → AreKnown terms (ts ++ t ∷ []) ks
unknown_more terms ts ks t h none = record {
  given = h.given;
  among = λ j g.
      let u = triple_at terms j in
      h.among j g ∙ sym (or_false (is_among ts u)) ∙ ap (λ b. is_among ts u || b) (sym (apart j g (eq_by_cmp triple_cmp u t) refl)) ∙ sym (among_more ts t u);
}
  where
    apart : (j : Key) → IsGiven terms j → (b : Bool) → eq_by_cmp triple_cmp (triple_at terms j) t ≡ b → eq_by_cmp triple_cmp (triple_at terms j) t ≡ false
    apart j g true e = absurd (never terms t j none g (same_triple (triple_at terms j) t e))
    apart j g false e = e

-- what was found for three numbers of a list makes a key of their triple
found_key : (terms : Terms) (us : List Term) (ids : List (Option TermId)) (n : TripleNumbers) (k : Key) → AreFound terms us ids → IsTripleIn us n → IsFound ids n k → IsKeyOf terms (triple_of_numbers us n) k
found_key terms us ids n k all known h = record {
  subject = subst (LooksUp terms (term_of_number us n.subject)) h.subject (all.each n.subject known.subject);
  predicate = subst (LooksUp terms (term_of_number us n.predicate)) h.predicate (all.each n.predicate known.predicate);
  object = subst (LooksUp terms (term_of_number us n.object)) h.object (all.each n.object known.object);
}

-- and where nothing was found for one of them, the triple has a term without a number
missing_term : (terms : Terms) (us : List Term) (ids : List (Option TermId)) (n : TripleNumbers) → AreFound terms us ids → IsTripleIn us n → IsMissing ids n → IsUnknown terms (triple_of_numbers us n)
missing_term terms us ids n all known h = elim h [
  | inl s ↦ inl (subst (LooksUp terms (term_of_number us n.subject)) s (all.each n.subject known.subject))
  | inr (inl p) ↦ inr (inl (subst (LooksUp terms (term_of_number us n.predicate)) p (all.each n.predicate known.predicate)))
  | inr (inr o) ↦ inr (inr (subst (LooksUp terms (term_of_number us n.object)) o (all.each n.object known.object)))
]

-- the triples of a list are gone through, and what was found stands for its terms
module _ (terms : Terms) (us : List Term) (ids : List (Option TermId)) (ns : List TripleNumbers) (ts : List RdfTriple) (all : AreFound terms us ids) (known : AreTriplesIn us ns) (are : triples_of_numbers us ns ≡ ts) (i : ℕ) (n : TripleNumbers) (low : i < length ns) (ks : List Key) (h : AreKnown terms (take i ts) ks) where
  -- one more of them
  next_triple : take i ts ++ triple_of_numbers us (get_or ns i n) ∷ [] ≡ take (i + 1) ts
  next_triple =
      let f = triple_of_numbers us in
      subst (λ xs. take i xs ++ f (get_or ns i n) ∷ [] ≡ take (i + 1) xs) are
      (ap (λ xs. xs ++ f (get_or ns i n) ∷ []) (take-map f i ns) ∙ sym (map_more f ns i n low) ∙ sym (take-map f (i + 1) ns))

  -- its terms have numbers
  pub known_next : (k : Key) → IsFound ids (get_or ns i n) k → AreKnown terms (take (i + 1) ts) (ks ++ k ∷ [])
  known_next k found =
      subst (λ xs. AreKnown terms xs (ks ++ k ∷ [])) next_triple
      (known_more terms (take i ts) ks (triple_of_numbers us (get_or ns i n)) k h (found_key terms us ids (get_or ns i n) k all (All-get_or (IsTripleIn us) ns i n low known) found))

  -- one of them has none
  pub unknown_next : IsMissing ids (get_or ns i n) → AreKnown terms (take (i + 1) ts) ks
  unknown_next missing =
      subst (λ xs. AreKnown terms xs ks) next_triple
      (unknown_more terms (take i ts) ks (triple_of_numbers us (get_or ns i n)) h (missing_term terms us ids (get_or ns i n) all (All-get_or (IsTripleIn us) ns i n low known) missing))

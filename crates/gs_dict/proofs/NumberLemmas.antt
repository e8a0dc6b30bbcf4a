-- Terms by number: what has a term, and what keeps it.
use Rattle.std.proofs.Common.{◌≡◌, ℕ, zero, suc, ◌<◌, [], ◌∷◌, length, is_some, true, Option, Some, None, ap, sym, ◌∙◌, subst, refl, inl, inr, arith}
use Rattle.std.specs.Option.{unwrap_or}
use Rattle.std.specs.Prelude.{◌⊎◌, Result, Ok, Err}
use Rattle.std.proofs.lemmas.Bool.{cases_eq}
use Rattle.std.proofs.lemmas.Option.{same_Some}
use Rattle.gs_model.specs.Terms.{Term, Iri}
use Rattle.gs_model.specs.declared.refusals.Refusal.{Refusal}
use Rattle.gs_model.specs.declared.refusals.Refusal.TheVariants.{NoMemory}
use Rattle.gs_dict.specs.declared.numbers.TermId.{TermId}
use Rattle.gs_dict.specs.Numbering.{Terms, Numbered, term_given, term_at, HasTerm, IsNumberOf, KeepTerms, GivesNumber, Interns}

-- a number with a term stands in the list
pub has_below : (ts : Terms) (n : ℕ) → HasTerm ts n → n < length ts
has_below [] n h = absurd (cc)
has_below (x ∷ ts) zero h = omega arith
has_below (x ∷ ts) (suc n) h = omega (arith, has_below ts n h)

-- an option that has something has what it has
some_is : (o : Option Term) → is_some o ≡ true → o ≡ Some (unwrap_or o (Iri []))
some_is None h = absurd (cc)
some_is (Some t) h = refl

-- a number with a term is that of its term
pub has_number : (ts : Terms) (n : ℕ) → HasTerm ts n → IsNumberOf ts n (term_at ts n)
has_number ts n h = some_is (term_given ts n) h

-- a number of a term has one
pub number_has : (ts : Terms) (n : ℕ) (t : Term) → IsNumberOf ts n t → HasTerm ts n
number_has ts n t h = ap is_some h

-- and this is it
pub number_term : (ts : Terms) (n : ℕ) (t : Term) → IsNumberOf ts n t → term_at ts n ≡ t
number_term ts n t h = ap (λ o. unwrap_or o (Iri [])) h

-- a number of a term stands in the list
pub number_below : (ts : Terms) (n : ℕ) (t : Term) → IsNumberOf ts n t → n < length ts
number_below ts n t h = has_below ts n (number_has ts n t h)

-- terms keep themselves
pub keep_same : (ts : Terms) → KeepTerms ts ts
keep_same ts n t h = h

-- terms that are kept twice are kept
pub keep_both : (ts us vs : Terms) → KeepTerms ts us → KeepTerms us vs → KeepTerms ts vs
keep_both ts us vs first then n t h = then n t (first n t h)

module _ (d e : Numbered) (t : Term) (n : ℕ) (gives : GivesNumber d t n e) where
  -- a number that is given to a term had none, so that each number with a term keeps it
  given_keeps : KeepTerms d.terms e.terms
  given_keeps m u at = elim (cases_eq m n) [
    | inl here ↦
        let none : term_given d.terms m ≡ None = ap (term_given d.terms) here ∙ gives.free in
        absurd (cc)
    | inr other ↦ gives.others m other ∙ at
  ]

  -- and no other term is given a number
  given_only : (m : ℕ) (u : Term) → IsNumberOf e.terms m u → IsNumberOf d.terms m u ⊎ (u ≡ t)
  given_only m u at = elim (cases_eq m n) [
    | inl here ↦ inr (sym (same_Some t u (sym gives.given ∙ (ap (term_given e.terms) (sym here) ∙ at))))
    | inr other ↦ inl (sym (gives.others m other) ∙ at)
  ]

  -- each number that there is was there before, or has a term
  given_used : (m : ℕ) → m < length e.terms → (m < length d.terms) ⊎ HasTerm e.terms m
  given_used m below = elim (gives.used m below) [
    | inl before ↦ inl before
    | inr here ↦ inr (number_has e.terms m t (ap (term_given e.terms) here ∙ gives.given))
  ]

module _ (d e : Numbered) (t : Term) where
  -- giving a term its number keeps the terms
  pub interns_keeps : (r : Result TermId Refusal) → Interns d t r e → KeepTerms d.terms e.terms
  interns_keeps (Ok id) (inl recalls) = subst (λ (f : Numbered). KeepTerms d.terms f.terms) (sym recalls.same) (keep_same d.terms)
  interns_keeps (Ok id) (inr gives) = given_keeps d e t id.number gives
  interns_keeps (Err NoMemory) h = subst (λ (f : Numbered). KeepTerms d.terms f.terms) (sym h.1) (keep_same d.terms)
  interns_keeps (Err refusal) h = absurd h

  -- and the last number
  pub interns_last : (r : Result TermId Refusal) → Interns d t r e → e.last ≡ d.last
  interns_last (Ok id) (inl recalls) = ap (λ (f : Numbered). f.last) recalls.same
  interns_last (Ok id) (inr gives) = gives.last
  interns_last (Err NoMemory) h = ap (λ (f : Numbered). f.last) h.1
  interns_last (Err refusal) h = absurd h

  -- no other term is given a number
  pub interns_only : (r : Result TermId Refusal) → Interns d t r e → (n : ℕ) (u : Term) → IsNumberOf e.terms n u → IsNumberOf d.terms n u ⊎ (u ≡ t)
  interns_only (Ok id) (inl recalls) n u h = inl (subst (λ (f : Numbered). IsNumberOf f.terms n u) recalls.same h)
  interns_only (Ok id) (inr gives) n u h = given_only d e t id.number gives n u h
  interns_only (Err NoMemory) h n u at = inl (subst (λ (f : Numbered). IsNumberOf f.terms n u) h.1 at)
  interns_only (Err refusal) h n u at = absurd h

  -- the number that is answered is the term's
  pub interns_number : (id : TermId) → Interns d t (Ok id) e → IsNumberOf e.terms id.number t
  interns_number id (inl recalls) = subst (λ (f : Numbered). IsNumberOf f.terms id.number t) (sym recalls.same) recalls.there
  interns_number id (inr gives) = gives.given

  -- each number that there is was there before, or has a term
  pub interns_used : (r : Result TermId Refusal) → Interns d t r e → (m : ℕ) → m < length e.terms → (m < length d.terms) ⊎ HasTerm e.terms m
  interns_used (Ok id) (inl recalls) m below = inl (subst (λ (f : Numbered). m < length f.terms) recalls.same below)
  interns_used (Ok id) (inr gives) m below = given_used d e t id.number gives m below
  interns_used (Err NoMemory) h m below = inl (subst (λ (f : Numbered). m < length f.terms) h.1 below)
  interns_used (Err refusal) h m below = absurd h

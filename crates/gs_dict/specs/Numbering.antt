-- What a dictionary does: each number has a term, or none.
use Rattle.std.specs.Prelude.{◌≡◌, ◌≢◌, ◌⊎◌, ℕ, ◌<◌, ◌≤◌, List, [], length, slice_index_or, Option, Some, None, IsSome, Result, Ok, Err, refl}
use Rattle.std.specs.Coded.{Coded, code_by, coded×, coded_ℕ, coded_list, coded_option}
use Rattle.gs_model.specs.Codes.{term_code}
use Rattle.std.specs.Option.{unwrap_or}
use Rattle.gs_model.specs.Terms.{Term, Iri}
use Rattle.gs_model.specs.declared.refusals.Refusal.{Refusal}
use Rattle.gs_model.specs.declared.refusals.Refusal.TheVariants.{NoMemory}
use Rattle.gs_dict.specs.declared.numbers.TermId.{TermId}

-- for each number, in their order, its term, or none where it has lost it
abbrev pub Terms : Type 0
Terms = List (Option Term)

-- the terms by number, and the greatest number that may be given
pub record Numbered : Type 0 where
  pub terms : Terms
  pub last : ℕ

-- it is stored as the pair of its fields
abbrev pub numbered_code : Coded Numbered
numbered_code = code_by (Terms × ℕ) (coded× (coded_list (coded_option term_code)) coded_ℕ) (λ d. (d.terms, d.last)) (λ p. record { terms = p.0; last = p.1 }) (λ _. refl)

-- no term has a number yet
abbrev pub none_numbered : ℕ → Numbered
none_numbered last = record { terms = []; last = last }

-- the term of a number, if it has one
abbrev pub term_given : Terms → ℕ → Option Term
term_given ts n = slice_index_or ts n None

-- the number has a term
abbrev pub HasTerm : Terms → ℕ → Type 0
HasTerm ts n = IsSome (term_given ts n)

-- this number is the term's
abbrev pub IsNumberOf : Terms → ℕ → Term → Type 0
IsNumberOf ts n t = term_given ts n ≡ Some t

-- the term has no number
abbrev pub IsNew : Terms → Term → Type 0
IsNew ts t = (n : ℕ) → term_given ts n ≢ Some t

-- the term of a number, and any where it has none
abbrev pub term_at : Terms → ℕ → Term
term_at terms n = unwrap_or (term_given terms n) (Iri [])

-- each number that has a term keeps it
abbrev pub KeepTerms : Terms → Terms → Type 0
KeepTerms ts us = (n : ℕ) (t : Term) → IsNumberOf ts n t → IsNumberOf us n t

-- no term has two numbers
abbrev pub IsDistinct : Terms → Type 0
IsDistinct ts = (m n : ℕ) (t : Term) → IsNumberOf ts m t → IsNumberOf ts n t → m ≡ n

-- what looking for a term answers
abbrev pub LooksUp : Terms → Term → Option TermId → Type 0
LooksUp ts t None = IsNew ts t
LooksUp ts t (Some id) = IsNumberOf ts id.number t

-- the term had the number, and nothing changes
pub record Recalls (d : Numbered) (t : Term) (n : ℕ) (e : Numbered) : Type 0 where
  pub there : IsNumberOf d.terms n t
  pub same : e ≡ d

-- the term had no number, and is given one that had no term and is not past the last; every other number is as it was
pub record GivesNumber (d : Numbered) (t : Term) (n : ℕ) (e : Numbered) : Type 0 where
  pub absent : IsNew d.terms t
  pub free : term_given d.terms n ≡ None
  pub within : n ≤ d.last
  pub given : IsNumberOf e.terms n t
  pub others : (m : ℕ) → m ≢ n → term_given e.terms m ≡ term_given d.terms m
  pub used : (m : ℕ) → m < length e.terms → (m < length d.terms) ⊎ (m ≡ n)
  pub last : e.last ≡ d.last

-- What giving a term its number answers and leaves. Want of memory comes to new terms alone, and changes nothing.
abbrev pub Interns : Numbered → Term → Result TermId Refusal → Numbered → Type 0
Interns d t (Ok id) e = Recalls d t id.number e ⊎ GivesNumber d t id.number e
Interns d t (Err NoMemory) e = IsNew d.terms t × (e ≡ d)
Interns d t (Err refusal) e = ⊥

-- A triple by the canonical texts of its terms.
use Rattle.std.specs.Prelude.{◌≡◌, ℕ, List, true}
use Rattle.gs_model.specs.Texts.{term_of, IsCanonical}
use Rattle.gs_model.specs.Triples.{RdfTriple, has_kinds}

-- the triple of the terms of three texts
abbrev pub triple_of_texts : (subject predicate object : List ℕ) → RdfTriple
triple_of_texts s p o = record { subject = term_of s; predicate = term_of p; object = term_of o }

-- three texts are those of terms, which are of the kinds of a triple
pub record AreTexts (subject predicate object : List ℕ) : Type 0 where
  pub subject_canonical : IsCanonical subject
  pub predicate_canonical : IsCanonical predicate
  pub object_canonical : IsCanonical object
  pub kinds : has_kinds (triple_of_texts subject predicate object) ≡ true

-- Triples as texts: three for each, the subject's, the predicate's and the object's, one triple after another.
use Rattle.std.specs.Prelude.{◌≡◌, ℕ, List, [], ◌∷◌, true}
use Rattle.std.specs.List.{All}
use Rattle.gs_model.specs.Terms.{text_of}
use Rattle.gs_model.specs.Texts.{term_of, IsCanonical}
use Rattle.gs_model.specs.Triples.{RdfTriple, IsTriple, has_kinds}

-- the triple of three texts
abbrev pub triple_of_texts : List ℕ → List ℕ → List ℕ → RdfTriple
triple_of_texts s p o = record { subject = term_of s; predicate = term_of p; object = term_of o }

-- the triples of texts
abbrev pub triples_unpacked : List (List ℕ) → List RdfTriple
triples_unpacked [] = []
triples_unpacked (s ∷ []) = []
triples_unpacked (s ∷ p ∷ []) = []
triples_unpacked (s ∷ p ∷ o ∷ xs) = triple_of_texts s p o ∷ triples_unpacked xs

-- the texts of triples
abbrev pub texts_in : List RdfTriple → List (List ℕ)
texts_in [] = []
texts_in (t ∷ ts) = text_of t.subject ∷ text_of t.predicate ∷ text_of t.object ∷ texts_in ts

-- the texts are those of their triples, and each of these is one
pub record AreFormed (xs : List (List ℕ)) : Type 0 where
  pub texts : xs ≡ texts_in (triples_unpacked xs)
  pub triples : All IsTriple (triples_unpacked xs)

-- three texts are canonical, and of the kinds of a triple
pub record IsFormed (s p o : List ℕ) : Type 0 where
  pub subject : IsCanonical s
  pub predicate : IsCanonical p
  pub object : IsCanonical o
  pub kinds : has_kinds (triple_of_texts s p o) ≡ true

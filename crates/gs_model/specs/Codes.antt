-- How terms, triples and graphs are stored, so that a model may have them as its value.
use Rattle.std.specs.Prelude.{◌≡◌, ℕ, List, refl, ◌⊎◌}
use Rattle.std.proofs.Common.{inl, inr}
use Rattle.std.specs.Coded.{Coded, code_by, coded×, coded⊎, coded_list, coded_ℕ}
use Rattle.std.specs.FinMap as map
use base.Stored.{coded_unit}
use Rattle.gs_model.specs.Terms.{Term, Iri, Blank, Literal, LiteralKind, Typed, Tagged}
use Rattle.gs_model.specs.Triples.{RdfTriple}
use Rattle.gs_model.specs.Graphs.{Graph}

-- a term as pairs and choices
abbrev pub TermParts : Type 0
TermParts = (List ℕ ⊎ (ℕ × ℕ)) ⊎ (List ℕ × (List ℕ ⊎ List ℕ))

-- a literal's kind as a choice
abbrev pub kind_parts : LiteralKind → List ℕ ⊎ List ℕ
kind_parts (Typed d) = inl d
kind_parts (Tagged t) = inr t

-- the kind of such a choice
abbrev pub kind_from : List ℕ ⊎ List ℕ → LiteralKind
kind_from (inl d) = Typed d
kind_from (inr t) = Tagged t

-- a term's parts
abbrev pub term_parts : Term → TermParts
term_parts (Iri text) = inl (inl text)
term_parts (Blank r k) = inl (inr (r, k))
term_parts (Literal l k) = inr (l, kind_parts k)

-- the term of its parts
abbrev pub term_from : TermParts → Term
term_from (inl (inl text)) = Iri text
term_from (inl (inr p)) = Blank p.0 p.1
term_from (inr p) = Literal p.0 (kind_from p.1)

-- a term is the term of its parts
abbrev pub term_back : (t : Term) → term_from (term_parts t) ≡ t
term_back (Iri text) = refl
term_back (Blank r k) = refl
term_back (Literal l (Typed d)) = refl
term_back (Literal l (Tagged t)) = refl

-- how a text is stored
abbrev pub text_code : Coded (List ℕ)
text_code = coded_list coded_ℕ

-- how a term is stored
abbrev pub term_code : Coded Term
term_code = code_by TermParts (coded⊎ (coded⊎ text_code (coded× coded_ℕ coded_ℕ)) (coded× text_code (coded⊎ text_code text_code))) term_parts term_from term_back

-- how a triple is stored
abbrev pub triple_code : Coded RdfTriple
triple_code =
    code_by (Term × (Term × Term)) (coded× term_code (coded× term_code term_code))
    (λ t. (t.subject, (t.predicate, t.object)))
    (λ p. record { subject = p.0; predicate = p.1.0; object = p.1.1 })
    (λ _. refl)

-- how a graph is stored
abbrev pub graph_code : Coded Graph
graph_code = map.code triple_code coded_unit

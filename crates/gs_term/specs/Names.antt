-- Names of graphs: as they stand in a line, and their order.
use Rattle.std.specs.Prelude.{◌≡◌, ℕ, ◌-◌, List, [], ◌∷◌, ◌++◌, length}
use Rattle.std.specs.List.{slice_range}
use Rattle.std.specs.Ordering.{nat_cmp, on}
use Rattle.std.specs.Cmp.Lexicographic.{slice_cmp}
use Rattle.std.specs.declared.cmp.Ordering.{Ordering}
use Rattle.gs_model.specs.Characters.{line_feed, space, dot}
use Rattle.gs_model.specs.Iris.{IsName}
use Rattle.gs_model.specs.Terms.{Iri, text_of}
use Rattle.gs_model.specs.Triples.{RdfTriple}

-- a name as it stands in a line: between '<' and '>' (N-Triples, section 7, IRIREF)
abbrev pub in_brackets : List ℕ → List ℕ
in_brackets name = text_of (Iri name)

-- names are ordered by these bytes
abbrev pub name_cmp : List ℕ → List ℕ → Ordering
name_cmp = on in_brackets (slice_cmp nat_cmp)

-- a text without its first and its last byte
abbrev pub without_brackets : List ℕ → List ℕ
without_brackets text = slice_range text 1 (length text - 1)

-- the text of a name: a name between '<' and '>'
pub record IsNameText (text : List ℕ) : Type 0 where
  pub bracketed : text ≡ in_brackets (without_brackets text)
  pub named : IsName (without_brackets text)

-- the line of a triple in a named graph (N-Quads, 25 February 2014, section 2): four texts, each with a space after
-- it, a dot and a line feed
abbrev pub quad_line_of : List ℕ → RdfTriple → List ℕ
quad_line_of name t =
    text_of t.subject ++ space ∷ text_of t.predicate ++ space ∷ text_of t.object ++ space ∷ in_brackets name
    ++ space ∷ dot ∷ line_feed ∷ []

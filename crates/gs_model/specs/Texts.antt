-- The term that a canonical text is of, and the triple that a canonical line is of.
use Rattle.std.specs.Prelude.{◌≡◌, ℕ, ◌-◌, Bool, true, false, if◌then◌else◌, ◌==◌, List, [], ◌∷◌, map, drop}
use Rattle.std.specs.Int.Digits.{number_from_digits}
use Rattle.gs_model.specs.Characters.{line_feed, carriage_return, space, quote, less_than, at_sign, backslash, underscore, letter_n, letter_r}
use Rattle.gs_model.specs.Terms.{digit, Term, Iri, Blank, Literal, LiteralKind, Typed, Tagged, xsd_string, text_of, IsTerm}
use Rattle.gs_model.specs.Triples.{RdfTriple}

-- all but the last
abbrev pub front : List ℕ → List ℕ
front [] = []
front (c ∷ []) = []
front (c ∷ d ∷ cs) = c ∷ front (d ∷ cs)

-- up to the first of these, and after it
abbrev pub split_first : ℕ → List ℕ → List ℕ × List ℕ
split_first x [] = ([], [])
split_first x (c ∷ cs) = if c == x then ([], cs) else (c ∷ (split_first x cs).0, (split_first x cs).1)

-- the number of a numeral
abbrev pub number_of : List ℕ → ℕ
number_of ds = number_from_digits 10 (map (λ c. c - digit 0) ds)

-- what an escape stands for
abbrev pub escape_meaning : ℕ → ℕ
escape_meaning c = if c == letter_n then line_feed else if c == letter_r then carriage_return else c

-- the lexical form up to its closing quote, and the text after the quote; whether a backslash stands before
abbrev pub lexical_of : Bool → List ℕ → List ℕ × List ℕ
lexical_of escape [] = ([], [])
lexical_of true (c ∷ cs) = (escape_meaning c ∷ (lexical_of false cs).0, (lexical_of false cs).1)
lexical_of false (c ∷ cs) =
    if c == quote then ([], cs)
    else if c == backslash then lexical_of true cs
    else (c ∷ (lexical_of false cs).0, (lexical_of false cs).1)

-- the kind of a literal, by what stands after its closing quote
abbrev pub kind_of : List ℕ → LiteralKind
kind_of [] = Typed xsd_string
kind_of (c ∷ cs) = if c == at_sign then Tagged cs else Typed (front (drop 2 cs))

-- the blank node of two numerals
abbrev pub blank_of : List ℕ × List ℕ → Term
blank_of p = Blank (number_of p.0) (number_of p.1)

-- the literal of a lexical form and of what stands after its closing quote
abbrev pub literal_of : List ℕ × List ℕ → Term
literal_of p = Literal p.0 (kind_of p.1)

-- the term of a text, and some term where no term has the text
unfoldable pub term_of : List ℕ → Term
term_of [] = Iri []
term_of (c ∷ cs) =
    if c == less_than then Iri (front cs)
    else if c == underscore then blank_of (split_first underscore (drop 2 cs))
    else literal_of (lexical_of false cs)

-- the bytes are the text of a term
pub record IsCanonical (bytes : List ℕ) : Type 0 where
  pub canonical : text_of (term_of bytes) ≡ bytes
  pub valid : IsTerm (term_of bytes)

-- the triple of a line: by what stands before the first space, before the second, and before the last three bytes
unfoldable pub triple_of : List ℕ → RdfTriple
triple_of line = record {
  subject = term_of (split_first space line).0;
  predicate = term_of (split_first space (split_first space line).1).0;
  object = term_of (front (front (front (split_first space (split_first space line).1).1)));
}

-- A reference that means itself under each base (RFC 3986, sections 5.2.2 and 5.2.4), and a test of its dots; and one that has a
-- scheme, so that no base is read for it.
use Rattle.std.specs.Prelude.{◌≡◌, ℕ, Bool, true, false, ◌||◌, ◌&&◌, ◌==◌, List, [], ◌∷◌}
use Rattle.gs_model.specs.Characters.{dot, colon}
use Rattle.gs_model.specs.Iris.{is_absolute, is_letter, is_scheme_char}
use Rattle.gs_model.specs.Punctuation.{slash}
use Rattle.gs_iri.specs.Resolving.{resolved}

-- an absolute IRI that each base leaves as it is
pub record IsItself (x : List ℕ) : Type 0 where
  pub absolute : is_absolute x ≡ true
  pub same : (base : List ℕ) → resolved base x ≡ x

-- some '.' stands right after a '/' or a ':'; `after` is whether one of the two stands before the text
abbrev pub has_dot_after : Bool → List ℕ → Bool
has_dot_after after [] = false
has_dot_after after (c ∷ cs) = (after && c == dot) || has_dot_after (c == slash || c == colon) cs

-- whether the first character that no scheme has is a ':'
abbrev pub ends_scheme : List ℕ → Bool
ends_scheme [] = false
ends_scheme (c ∷ cs) = c == colon || (is_scheme_char c && ends_scheme cs)

-- whether a reference's token shows a scheme after its bracket (RFC 3986, section 3.1); one that an escape hides does not count
abbrev pub has_scheme : List ℕ → Bool
has_scheme (bracket ∷ c ∷ cs) = is_letter c && ends_scheme cs
has_scheme cs = false

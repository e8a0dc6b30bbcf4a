-- A resolved reference has a scheme, and so it is absolute.
use Rattle.std.proofs.Common.{◌≡◌, ℕ, Bool, true, false, cond, ◌&&◌, ◌||◌, ◌==◌, List, [], ◌∷◌, ◌++◌, refl, ap, ◌∙◌, arith, append_assoc}
use Rattle.std.specs.Prelude.{Option, Some, None, codes, nat_le}
use Rattle.std.specs.Option.{is_some}
use Rattle.std.specs.List.{list_all}
use Rattle.std.proofs.lemmas.List.Folds.{list_all-append}
use Rattle.std.proofs.lemmas.Bool.{eqb-true, and_parts, and_from}
use Rattle.std.proofs.lemmas.Bool.Decides.{nat_tests}
use Rattle.gs_model.specs.Characters.{is_iri_char}
use Rattle.gs_model.specs.Iris.{is_absolute, is_letter, is_scheme_char}
use Rattle.gs_iri.proofs.AbsoluteLemmas.{absolute_forth, absolute_back}
use Rattle.gs_iri.proofs.CharacterLemmas.{AllIri, iri-rest_after_colon, iri-resolved_parts}
use Rattle.gs_iri.specs.References.{Reference, is_one_of, before, from, rest_after, is_scheme, has_scheme, scheme_of, parts_of}
use Rattle.gs_iri.specs.Resolving.{scheme_text, parts_text, is_empty, resolved_parts, resolved}

-- a scheme that is defined has its form
abbrev pub FormedScheme : Option (List ℕ) → Type 0
FormedScheme None = Unit {0}
FormedScheme (Some s) = is_scheme s ≡ true

formed : (x : List ℕ) → FormedScheme (scheme_of x)
unfolding scheme_of has_scheme
formed x =
    elim (is_scheme (before (codes ":") x)) as (λ b. is_scheme (before (codes ":") x) ≡ b → FormedScheme (cond (is_some (rest_after 58 (from (codes ":") x)) && b) (Some (before (codes ":") x)) None)) [
      | true ↦ λ h. elim (is_some (rest_after 58 (from (codes ":") x))) as (λ b. FormedScheme (cond (b && true) (Some (before (codes ":") x)) None)) [ true ↦ h | false ↦ tt ]
      | false ↦ λ h. elim (is_some (rest_after 58 (from (codes ":") x))) as (λ b. FormedScheme (cond (b && false) (Some (before (codes ":") x)) None)) [ true ↦ tt | false ↦ tt ]
    ] refl

-- no scheme has a ':'
no_colon : (c : ℕ) → is_scheme_char c ≡ true → is_one_of (codes ":") c ≡ false
no_colon c h =
    elim (58 == c) as (λ b. (58 == c) ≡ b → (b || false) ≡ false) [
      | true ↦ λ e. let colon : is_scheme_char 58 ≡ true = ap is_scheme_char (eqb-true 58 c e) ∙ h in absurd (cc)
      | false ↦ λ e. refl
    ] refl

before_colon : (s rest : List ℕ) → list_all is_scheme_char s ≡ true → before (codes ":") (s ++ 58 ∷ rest) ≡ s
unfolding before
before_colon [] rest h = refl
before_colon (c ∷ cs) rest h =
    let two = and_parts (is_scheme_char c) (list_all is_scheme_char cs) h in
    ap (λ b. cond b [] (c ∷ before (codes ":") (cs ++ 58 ∷ rest))) (no_colon c two.0) ∙ ap (λ z. c ∷ z) (before_colon cs rest two.1)

from_colon : (s rest : List ℕ) → list_all is_scheme_char s ≡ true → from (codes ":") (s ++ 58 ∷ rest) ≡ 58 ∷ rest
unfolding from
from_colon [] rest h = refl
from_colon (c ∷ cs) rest h =
    let two = and_parts (is_scheme_char c) (list_all is_scheme_char cs) h in
    ap (λ b. cond b (c ∷ (cs ++ 58 ∷ rest)) (from (codes ":") (cs ++ 58 ∷ rest))) (no_colon c two.0) ∙ from_colon cs rest two.1

letter_goes_on : (c : ℕ) → is_letter c ≡ true → is_scheme_char c ≡ true
letter_goes_on c h = ap (λ b. b || (nat_le 48 c && nat_le c 57) || c == 43 || c == 45 || c == 46) h

-- an absolute text has a scheme
base_scheme : (x : List ℕ) → is_absolute x ≡ true → is_some (scheme_of x) ≡ true
unfolding scheme_of has_scheme is_scheme rest_after
base_scheme x h =
    let a = absolute_forth x h in
    let chars = and_from _ _ (letter_goes_on a.first a.begins) a.goes_on in
    let front = ap (before (codes ":")) a.parts ∙ before_colon (a.first ∷ a.scheme) a.rest chars in
    let back = ap (from (codes ":")) a.parts ∙ from_colon (a.first ∷ a.scheme) a.rest chars in
    let form : is_scheme (before (codes ":") x) ≡ true = ap is_scheme front ∙ and_from _ _ a.begins a.goes_on in
    let colon : is_some (rest_after 58 (from (codes ":") x)) ≡ true = ap (λ z. is_some (rest_after 58 z)) back in
    ap (λ b. is_some (cond b (Some (before (codes ":") x)) None)) (and_from _ _ colon form)

-- a scheme that is there
abbrev pub HasScheme : Reference → Type 0
HasScheme r = (is_some r.scheme ≡ true) × FormedScheme r.scheme

scheme-cond : (b : Bool) (r s : Reference) → HasScheme r → HasScheme s → HasScheme (cond b r s)
scheme-cond true r s i j = i
scheme-cond false r s i j = j

scheme-either : (b : Bool) (r s : Reference) → (b ≡ true → HasScheme r) → HasScheme s → HasScheme (cond b r s)
scheme-either true r s i j = i refl
scheme-either false r s i j = j

resolved_scheme : (b r : Reference) → is_some b.scheme ≡ true → FormedScheme b.scheme → FormedScheme r.scheme → HasScheme (resolved_parts b r)
unfolding resolved_parts
resolved_scheme b r d f g =
    scheme-either (is_some r.scheme) _ _ (λ h. (h, g))
    (scheme-cond (is_some r.authority) _ _ (d, f) (scheme-cond (is_empty r.path) _ _ (d, f) (scheme-cond (is_some (rest_after 47 r.path)) _ _ (d, f) (d, f))))

absolute_text : (s rest : List ℕ) → is_scheme s ≡ true → AllIri rest → is_absolute (s ++ 58 ∷ rest) ≡ true
unfolding is_scheme
absolute_text [] rest f a = absurd (cc)
absolute_text (c ∷ cs) rest f a =
    let two = and_parts (is_letter c) (list_all is_scheme_char cs) f in
    absolute_back ((c ∷ cs) ++ 58 ∷ rest) (record { first = c; scheme = cs; rest = rest; parts = refl; begins = two.0; goes_on = two.1; characters = a })

absolute_parts : (o : Option (List ℕ)) (rest : List ℕ) → is_some o ≡ true → FormedScheme o → AllIri rest → is_absolute (scheme_text o ++ rest) ≡ true
unfolding scheme_text
absolute_parts None rest d f a = absurd (cc)
absolute_parts (Some s) rest d f a = ap is_absolute (append_assoc s (codes ":") rest) ∙ absolute_text s rest f a

scheme_char_is_iri : (c : ℕ) → is_scheme_char c ≡ true → is_iri_char c ≡ true
scheme_char_is_iri c h = grind (arith, nat_tests)

iri_scheme : (s : List ℕ) → list_all is_scheme_char s ≡ true → AllIri s
iri_scheme [] h = refl
iri_scheme (c ∷ cs) h =
    let two = and_parts (is_scheme_char c) (list_all is_scheme_char cs) h in
    and_from _ _ (scheme_char_is_iri c two.0) (iri_scheme cs two.1)

iri_base : (x : List ℕ) → is_absolute x ≡ true → AllIri x
iri_base x h =
    let a = absolute_forth x h in
    ap (list_all is_iri_char) a.parts ∙ list_all-append is_iri_char (a.first ∷ a.scheme) (58 ∷ a.rest)
    ∙ and_from _ _ (iri_scheme (a.first ∷ a.scheme) (and_from _ _ (letter_goes_on a.first a.begins) a.goes_on)) a.characters

pub resolved_absolute : (base reference : List ℕ) → is_absolute base ≡ true → AllIri reference → is_absolute (resolved base reference) ≡ true
unfolding resolved parts_text parts_of
resolved_absolute base reference h a =
    let scheme = resolved_scheme (parts_of base) (parts_of reference) (base_scheme base h) (formed base) (formed reference) in
    absolute_parts (resolved_parts (parts_of base) (parts_of reference)).scheme _ scheme.0 scheme.1
    (iri-rest_after_colon (parts_of base) (parts_of reference) (iri-resolved_parts base reference (iri_base base h) a))

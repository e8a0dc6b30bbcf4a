-- The name of a store is an absolute IRI.
use Rattle.std.proofs.lemmas.Bool.{and_parts}
use Rattle.std.proofs.Common.{◌≡◌, ℕ, true, ◌&&◌, nat_le, nat_eq, List, [], ◌∷◌, ◌++◌, length, drop, refl, ap, ◌∙◌, arith, append_assoc, codes}
use Rattle.std.specs.List.{list_all, starts_with}
use Rattle.std.proofs.lemmas.Bool.Decides.{nat_tests}
use Rattle.std.proofs.lemmas.Slice.Eq.{starts_is}
use Rattle.std.proofs.lemmas.Bool.Decides.{Decides-eqb}
use Rattle.gs_model.specs.Characters.{is_iri_char}
use Rattle.gs_model.specs.Iris.{is_absolute}
use Rattle.gs_model.specs.Bases.{is_base, is_base_char}

-- a character of a base may stand in an IRI
base_char : (c : ℕ) → is_base_char c ≡ true → is_iri_char c ≡ true
base_char c e = grind (arith, nat_tests)

-- and so may what follows them
base_chars : (cs tail : List ℕ) → list_all is_base_char cs ≡ true → list_all is_iri_char tail ≡ true → list_all is_iri_char (cs ++ tail) ≡ true
base_chars [] tail e f = f
base_chars (c ∷ cs) tail e f =
    let two = and_parts (is_base_char c) (list_all is_base_char cs) e in
    ap (λ b. b && list_all is_iri_char (cs ++ tail)) (base_char c two.0) ∙ base_chars cs tail two.1 f

-- The name of the store itself, under its base, is absolute.
pub store_absolute : (base : List ℕ) → is_base base ≡ true → is_absolute (base ++ codes "/store") ≡ true
store_absolute base e =
    let parts = and_parts (nat_le 8 (length base) && nat_le (length base) 256) (starts_with nat_eq base (codes "http://") && list_all is_base_char (drop 7 base)) e in
    let texts = and_parts (starts_with nat_eq base (codes "http://")) (list_all is_base_char (drop 7 base)) parts.1 in
    let split : base ≡ codes "http://" ++ drop 7 base = (starts_is Decides-eqb base (codes "http://") (starts_with nat_eq base (codes "http://")) refl).0 texts.0 in
    ap is_absolute (ap (λ z. z ++ codes "/store") split ∙ append_assoc (codes "http://") (drop 7 base) (codes "/store"))
    ∙ base_chars (drop 7 base) (codes "/store") texts.1 refl

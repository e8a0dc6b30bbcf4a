-- The parts of a text, joined again, are the text.
use Rattle.std.proofs.Common.{◌≡◌, ℕ, true, false, cond, ◌&&◌, ◌||◌, ◌==◌, List, [], ◌∷◌, ◌++◌, refl, sym, ap, ◌∙◌, append_assoc}
use Rattle.std.specs.Prelude.{Some, None, codes}
use Rattle.std.specs.Option.{is_some, unwrap_or, option_map, option_and_then}
use Rattle.std.proofs.lemmas.Bool.{eqb-true}
use Rattle.gs_iri.specs.References.{is_one_of, before, from, rest_after, is_scheme, has_scheme, scheme_of, rest_after_scheme, rest_after_slashes, authority_of, rest_after_authority, path_of, rest_after_path, query_of, rest_after_query, fragment_of, parts_of}
use Rattle.gs_iri.specs.Resolving.{scheme_text, marked, parts_text, recomposed}

pub before-from : (stops x : List ℕ) → before stops x ++ from stops x ≡ x
unfolding before from
before-from stops [] = refl
before-from stops (c ∷ cs) =
    elim (is_one_of stops c) as (λ b. cond b [] (c ∷ before stops cs) ++ cond b (c ∷ cs) (from stops cs) ≡ c ∷ cs) [
      | true ↦ refl
      | false ↦ ap (λ z. c ∷ z) (before-from stops cs)
    ]

pub rest_after_is : (mark : ℕ) (x y : List ℕ) → rest_after mark x ≡ Some y → x ≡ mark ∷ y
unfolding rest_after
rest_after_is mark [] y e = absurd (cc)
rest_after_is mark (c ∷ cs) y e =
    elim (c == mark) as (λ b. (c == mark) ≡ b → cond b (Some cs) None ≡ Some y → c ∷ cs ≡ mark ∷ y) [
      | true ↦ λ h k. let tail : cs ≡ y = cc in ap (λ z. z ∷ cs) (eqb-true c mark h) ∙ ap (λ z. mark ∷ z) tail
      | false ↦ λ h k. absurd (cc)
    ] refl e

scheme-rejoin : (x : List ℕ) → scheme_text (scheme_of x) ++ rest_after_scheme x ≡ x
unfolding scheme_of rest_after_scheme has_scheme scheme_text
scheme-rejoin x =
    elim (rest_after 58 (from (codes ":") x)) as (λ o. rest_after 58 (from (codes ":") x) ≡ o → scheme_text (cond (is_some o && is_scheme (before (codes ":") x)) (Some (before (codes ":") x)) None) ++ cond (is_some o && is_scheme (before (codes ":") x)) (unwrap_or o x) x ≡ x) [
      | None ↦ λ h. refl
      | Some y ↦ λ h.
          elim (is_scheme (before (codes ":") x)) as (λ b. scheme_text (cond b (Some (before (codes ":") x)) None) ++ cond b y x ≡ x) [
            | true ↦ append_assoc (before (codes ":") x) (codes ":") y ∙ ap (λ z. before (codes ":") x ++ z) (sym (rest_after_is 58 (from (codes ":") x) y h)) ∙ before-from (codes ":") x
            | false ↦ refl
          ]
    ] refl

slashes_are : (x y : List ℕ) → rest_after_slashes x ≡ Some y → x ≡ 47 ∷ 47 ∷ y
unfolding rest_after_slashes
slashes_are x y e =
    elim (rest_after 47 x) as (λ o. rest_after 47 x ≡ o → option_and_then (rest_after 47) o ≡ Some y → x ≡ 47 ∷ 47 ∷ y) [
      | None ↦ λ h k. absurd (cc)
      | Some z ↦ λ h k. rest_after_is 47 x z h ∙ ap (λ w. 47 ∷ w) (rest_after_is 47 z y k)
    ] refl e

authority-rejoin : (x : List ℕ) → marked (codes "//") (authority_of x) ++ rest_after_authority x ≡ x
unfolding authority_of rest_after_authority marked
authority-rejoin x =
    elim (rest_after_slashes x) as (λ o. rest_after_slashes x ≡ o → marked (codes "//") (option_map (before (codes "/?#")) o) ++ unwrap_or (option_map (from (codes "/?#")) o) x ≡ x) [
      | None ↦ λ h. refl
      | Some y ↦ λ h. ap (λ z. 47 ∷ 47 ∷ z) (before-from (codes "/?#") y) ∙ sym (slashes_are x y h)
    ] refl

query-rejoin : (x : List ℕ) → marked (codes "?") (query_of x) ++ rest_after_query x ≡ x
unfolding query_of rest_after_query marked
query-rejoin x =
    elim (rest_after 63 x) as (λ o. rest_after 63 x ≡ o → marked (codes "?") (option_map (before (codes "#")) o) ++ unwrap_or (option_map (from (codes "#")) o) x ≡ x) [
      | None ↦ λ h. refl
      | Some y ↦ λ h. ap (λ z. 63 ∷ z) (before-from (codes "#") y) ∙ sym (rest_after_is 63 x y h)
    ] refl

-- what begins with '#', or is empty, is its fragment
begins_with_hash : (c : ℕ) (cs : List ℕ) → c ≡ 35 → marked (codes "#") (rest_after 35 (c ∷ cs)) ≡ c ∷ cs
unfolding rest_after marked
begins_with_hash c cs e = ap (λ z. marked (codes "#") (cond (z == 35) (Some cs) None)) e ∙ ap (λ z. z ∷ cs) (sym e)

hash_of : (c : ℕ) → is_one_of (codes "#") c ≡ true → c ≡ 35
hash_of c h =
    elim (35 == c) as (λ b. (35 == c) ≡ b → (b || false) ≡ true → c ≡ 35) [
      | true ↦ λ e k. sym (eqb-true 35 c e)
      | false ↦ λ e k. absurd (cc)
    ] refl h

mark_of : (c : ℕ) → (c == 63) ≡ false → is_one_of (codes "?#") c ≡ true → c ≡ 35
mark_of c n h =
    elim (63 == c) as (λ b. (63 == c) ≡ b → (b || is_one_of (codes "#") c) ≡ true → c ≡ 35) [
      | true ↦ λ e k. let same : (63 == 63) ≡ false = ap (λ z. z == 63) (eqb-true 63 c e) ∙ n in absurd (cc)
      | false ↦ λ e k. hash_of c k
    ] refl h

fragment_from : (x : List ℕ) → marked (codes "#") (rest_after 35 (from (codes "#") x)) ≡ from (codes "#") x
unfolding from rest_after marked
fragment_from [] = refl
fragment_from (c ∷ cs) =
    elim (is_one_of (codes "#") c) as (λ b. is_one_of (codes "#") c ≡ b → marked (codes "#") (rest_after 35 (cond b (c ∷ cs) (from (codes "#") cs))) ≡ cond b (c ∷ cs) (from (codes "#") cs)) [
      | true ↦ λ h. begins_with_hash c cs (hash_of c h)
      | false ↦ λ h. fragment_from cs
    ] refl

fragment_path : (x : List ℕ) → rest_after 63 (from (codes "?#") x) ≡ None → marked (codes "#") (rest_after 35 (from (codes "?#") x)) ≡ from (codes "?#") x
unfolding from rest_after marked
fragment_path [] n = refl
fragment_path (c ∷ cs) n =
    elim (is_one_of (codes "?#") c) as (λ b. is_one_of (codes "?#") c ≡ b → rest_after 63 (cond b (c ∷ cs) (from (codes "?#") cs)) ≡ None → marked (codes "#") (rest_after 35 (cond b (c ∷ cs) (from (codes "?#") cs))) ≡ cond b (c ∷ cs) (from (codes "?#") cs)) [
      | true ↦ λ h k.
          elim (c == 63) as (λ b. (c == 63) ≡ b → cond b (Some cs) None ≡ None → marked (codes "#") (rest_after 35 (c ∷ cs)) ≡ c ∷ cs) [
            | true ↦ λ e j. absurd (cc)
            | false ↦ λ e j. begins_with_hash c cs (mark_of c e h)
          ] refl k
      | false ↦ λ h k. fragment_path cs k
    ] refl n

fragment-rejoin : (x : List ℕ) → marked (codes "#") (fragment_of (rest_after_query (rest_after_path x))) ≡ rest_after_query (rest_after_path x)
unfolding fragment_of rest_after_query rest_after_path
fragment-rejoin x =
    elim (rest_after 63 (from (codes "?#") x)) as (λ o. rest_after 63 (from (codes "?#") x) ≡ o → marked (codes "#") (rest_after 35 (unwrap_or (option_map (from (codes "#")) o) (from (codes "?#") x))) ≡ unwrap_or (option_map (from (codes "#")) o) (from (codes "?#") x)) [
      | None ↦ λ h. fragment_path x h
      | Some y ↦ λ h. fragment_from y
    ] refl

pub rejoin : (x : List ℕ) → recomposed (parts_of x) ≡ x
unfolding parts_of parts_text path_of rest_after_path
rejoin x =
    let a = rest_after_scheme x in
    let b = rest_after_authority a in
    let p = from (codes "?#") b in
    ap (λ z. scheme_text (scheme_of x) ++ (marked (codes "//") (authority_of a) ++ (before (codes "?#") b ++ (marked (codes "?") (query_of p) ++ z)))) (fragment-rejoin b)
    ∙ ap (λ z. scheme_text (scheme_of x) ++ (marked (codes "//") (authority_of a) ++ (before (codes "?#") b ++ z))) (query-rejoin p)
    ∙ ap (λ z. scheme_text (scheme_of x) ++ (marked (codes "//") (authority_of a) ++ z)) (before-from (codes "?#") b)
    ∙ ap (λ z. scheme_text (scheme_of x) ++ z) (authority-rejoin a)
    ∙ scheme-rejoin x

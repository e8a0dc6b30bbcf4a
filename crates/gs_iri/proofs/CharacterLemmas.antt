-- A reference of IRI characters, resolved against an absolute base, is absolute.
use Rattle.std.proofs.lemmas.Bool.{and_parts, and_from}
use Rattle.std.proofs.Common.{◌≡◌, ℕ, Bool, true, false, cond, ◌&&◌, ◌==◌, List, [], ◌∷◌, ◌++◌, refl, ◌∙◌, drop}
use Rattle.std.specs.Prelude.{Option, Some, None, codes, fold}
use Rattle.std.specs.Option.{is_some, unwrap_or, option_map, option_and_then, option_or}
use Rattle.std.specs.List.{list_all, onto_first}
use Rattle.std.proofs.lemmas.List.Folds.{list_all-append}
use Rattle.gs_model.specs.Characters.{is_iri_char}
use Rattle.gs_iri.specs.References.{Reference, is_one_of, before, from, rest_after, has_scheme, rest_after_scheme, rest_after_slashes, authority_of, rest_after_authority, path_of, rest_after_path, query_of, rest_after_query, fragment_of, parts_of}
use Rattle.gs_iri.specs.Dots.{Output, segments_of, is_dot, is_dot_dot, is_dots, last_of, closed, moved, text_of_segments, output_of, dots}
use Rattle.gs_iri.specs.Output.{has_slash}
use Rattle.gs_iri.specs.Resolving.{marked, is_empty, through_last, directory_of, resolved_parts}

-- IRI characters only
abbrev pub AllIri : List ℕ → Type 0
AllIri x = list_all is_iri_char x ≡ true

iri-append : (x y : List ℕ) → AllIri x → AllIri y → AllIri (x ++ y)
iri-append x y a b = list_all-append is_iri_char x y ∙ and_from _ _ a b

iri-before : (stops x : List ℕ) → AllIri x → AllIri (before stops x)
unfolding before
iri-before stops [] a = refl
iri-before stops (c ∷ cs) a =
    let two = and_parts (is_iri_char c) (list_all is_iri_char cs) a in
    elim (is_one_of stops c) as (λ b. AllIri (cond b [] (c ∷ before stops cs))) [ true ↦ refl | false ↦ and_from _ _ two.0 (iri-before stops cs two.1) ]

iri-from : (stops x : List ℕ) → AllIri x → AllIri (from stops x)
unfolding from
iri-from stops [] a = refl
iri-from stops (c ∷ cs) a =
    elim (is_one_of stops c) as (λ b. AllIri (cond b (c ∷ cs) (from stops cs))) [ true ↦ a | false ↦ iri-from stops cs (and_parts (is_iri_char c) (list_all is_iri_char cs) a).1 ]

abbrev pub IriPart : Option (List ℕ) → Type 0
IriPart None = Unit {0}
IriPart (Some x) = AllIri x

iri-rest_after : (mark : ℕ) (x : List ℕ) → AllIri x → IriPart (rest_after mark x)
unfolding rest_after
iri-rest_after mark [] a = tt
iri-rest_after mark (c ∷ cs) a =
    elim (c == mark) as (λ b. IriPart (cond b (Some cs) None)) [ true ↦ (and_parts (is_iri_char c) (list_all is_iri_char cs) a).1 | false ↦ tt ]

iri-map : (f : List ℕ → List ℕ) → ((x : List ℕ) → AllIri x → AllIri (f x)) → (o : Option (List ℕ)) → IriPart o → IriPart (option_map f o)
iri-map f keeps None a = tt
iri-map f keeps (Some x) a = keeps x a

iri-or : (o : Option (List ℕ)) (x : List ℕ) → IriPart o → AllIri x → AllIri (unwrap_or o x)
iri-or None x a b = b
iri-or (Some y) x a b = a

iri-slashes : (x : List ℕ) → AllIri x → IriPart (rest_after_slashes x)
unfolding rest_after_slashes
iri-slashes x a =
    let step : (o : Option (List ℕ)) → IriPart o → IriPart (option_and_then (rest_after 47) o) = λ o p. elim o as (λ q. IriPart q → IriPart (option_and_then (rest_after 47) q)) [ None ↦ λ _. tt | Some y ↦ λ i. iri-rest_after 47 y i ] p in
    step (rest_after 47 x) (iri-rest_after 47 x a)

-- a reference whose parts have IRI characters only
pub record IriParts (r : Reference) : Type 0 where
  pub authority : IriPart r.authority
  pub path : AllIri r.path
  pub query : IriPart r.query
  pub fragment : IriPart r.fragment

iri-rest_after_scheme : (x : List ℕ) → AllIri x → AllIri (rest_after_scheme x)
unfolding rest_after_scheme
iri-rest_after_scheme x a =
    elim (has_scheme x) as (λ b. AllIri (cond b (unwrap_or (rest_after 58 (from (codes ":") x)) x) x)) [
      | true ↦ iri-or (rest_after 58 (from (codes ":") x)) x (iri-rest_after 58 (from (codes ":") x) (iri-from (codes ":") x a)) a
      | false ↦ a
    ]

iri-rest_after_authority : (x : List ℕ) → AllIri x → AllIri (rest_after_authority x)
unfolding rest_after_authority
iri-rest_after_authority x a = iri-or _ x (iri-map (from (codes "/?#")) (iri-from (codes "/?#")) (rest_after_slashes x) (iri-slashes x a)) a

iri-rest_after_query : (x : List ℕ) → AllIri x → AllIri (rest_after_query x)
unfolding rest_after_query
iri-rest_after_query x a = iri-or _ x (iri-map (from (codes "#")) (iri-from (codes "#")) (rest_after 63 x) (iri-rest_after 63 x a)) a

iri-parts : (x : List ℕ) → AllIri x → IriParts (parts_of x)
unfolding parts_of authority_of path_of rest_after_path query_of fragment_of
iri-parts x a =
    let s = iri-rest_after_scheme x a in
    let p = iri-rest_after_authority (rest_after_scheme x) s in
    let q = iri-from (codes "?#") (rest_after_authority (rest_after_scheme x)) p in
    record {
      authority = iri-map (before (codes "/?#")) (iri-before (codes "/?#")) (rest_after_slashes (rest_after_scheme x)) (iri-slashes (rest_after_scheme x) s);
      path = iri-before (codes "?#") (rest_after_authority (rest_after_scheme x)) p;
      query = iri-map (before (codes "#")) (iri-before (codes "#")) (rest_after 63 (from (codes "?#") (rest_after_authority (rest_after_scheme x)))) (iri-rest_after 63 (from (codes "?#") (rest_after_authority (rest_after_scheme x))) q);
      fragment = iri-rest_after 35 (rest_after_query (from (codes "?#") (rest_after_authority (rest_after_scheme x)))) (iri-rest_after_query (from (codes "?#") (rest_after_authority (rest_after_scheme x))) q);
    }

-- segments of IRI characters
abbrev pub AllIris : List (List ℕ) → Type 0
AllIris [] = Unit {0}
AllIris (s ∷ ss) = AllIri s × AllIris ss

iris-onto : (c : ℕ) (ss : List (List ℕ)) → is_iri_char c ≡ true → AllIris ss → AllIris (onto_first c ss)
iris-onto c [] e a = (and_from _ _ e refl, tt)
iris-onto c (s ∷ ss) e a = (and_from _ _ e a.0, a.1)

iris-segments : (x : List ℕ) → AllIri x → AllIris (segments_of x)
unfolding segments_of
iris-segments [] a = (refl, tt)
iris-segments (c ∷ cs) a =
    let two = and_parts (is_iri_char c) (list_all is_iri_char cs) a in
    elim (c == 47) as (λ b. AllIris (cond b ([] ∷ segments_of cs) (onto_first c (segments_of cs)))) [
      | true ↦ (refl, iris-segments cs two.1)
      | false ↦ iris-onto c (segments_of cs) two.0 (iris-segments cs two.1)
    ]

iris-append : (xs ys : List (List ℕ)) → AllIris xs → AllIris ys → AllIris (xs ++ ys)
iris-append [] ys a b = b
iris-append (x ∷ xs) ys a b = (a.0, iris-append xs ys a.1 b)

iris-closed : (ss : List (List ℕ)) → AllIris ss → AllIris (closed ss)
unfolding closed
iris-closed ss a = iris-append ss _ a (elim (is_dots (last_of ss)) as (λ b. AllIris (cond b ([] ∷ []) [])) [ true ↦ (refl, tt) | false ↦ tt ])

abbrev pub IriOutput : Output → Type 0
IriOutput None = Unit {0}
IriOutput (Some out) = AllIris out

iris-drop : (out : List (List ℕ)) → AllIris out → AllIris (drop 1 out)
iris-drop [] a = tt
iris-drop (s ∷ ss) a = a.1

iri-moved : (o : Output) (s : List ℕ) → IriOutput o → AllIri s → IriOutput (moved o s)
unfolding moved
iri-moved None s o a = elim (is_dots s) as (λ b. IriOutput (cond b None (Some (s ∷ [])))) [ true ↦ tt | false ↦ (a, tt) ]
iri-moved (Some out) s o a =
    elim (is_dot s) as (λ b. IriOutput (cond b (Some out) (cond (is_dot_dot s) (Some (drop 1 out)) (Some ((47 ∷ s) ∷ out))))) [
      | true ↦ o
      | false ↦ elim (is_dot_dot s) as (λ b. IriOutput (cond b (Some (drop 1 out)) (Some ((47 ∷ s) ∷ out)))) [ true ↦ iris-drop out o | false ↦ (a, o) ]
    ]

iri-fold : (o : Output) (ss : List (List ℕ)) → IriOutput o → AllIris ss → IriOutput (fold moved o ss)
iri-fold o [] i a = i
iri-fold o (s ∷ ss) i a = iri-fold (moved o s) ss (iri-moved o s i a.0) a.1

iri-text : (out : List (List ℕ)) → AllIris out → AllIri (text_of_segments out)
unfolding text_of_segments
iri-text [] a = refl
iri-text (s ∷ ss) a = iri-append (text_of_segments ss) s (iri-text ss a.1) a.0

iri-output : (o : Output) → IriOutput o → AllIri (output_of o)
unfolding output_of
iri-output None a = refl
iri-output (Some out) a = iri-text out a

iri-dots : (path : List ℕ) → AllIri path → AllIri (dots path)
unfolding dots
iri-dots path a = iri-output (fold moved None (closed (segments_of path))) (iri-fold None (closed (segments_of path)) tt (iris-closed (segments_of path) (iris-segments path a)))

iri-through : (x : List ℕ) → AllIri x → AllIri (through_last x)
unfolding through_last
iri-through [] a = refl
iri-through (c ∷ cs) a =
    let two = and_parts (is_iri_char c) (list_all is_iri_char cs) a in
    elim (has_slash (c ∷ cs)) as (λ b. AllIri (cond b (c ∷ through_last cs) [])) [ true ↦ and_from _ _ two.0 (iri-through cs two.1) | false ↦ refl ]

iri-directory : (authority : Option (List ℕ)) (path : List ℕ) → AllIri path → AllIri (directory_of authority path)
unfolding directory_of
iri-directory authority path a = elim (is_some authority && is_empty path) as (λ b. AllIri (cond b (codes "/") (through_last path))) [ true ↦ refl | false ↦ iri-through path a ]

iri-either : (o p : Option (List ℕ)) → IriPart o → IriPart p → IriPart (option_or o p)
iri-either None p a b = b
iri-either (Some x) p a b = a

iri-cond : (b : Bool) (r s : Reference) → IriParts r → IriParts s → IriParts (cond b r s)
iri-cond true r s i j = i
iri-cond false r s i j = j

iri-resolved : (b r : Reference) → IriParts b → IriParts r → IriParts (resolved_parts b r)
unfolding resolved_parts
iri-resolved b r i j =
    let whole = iri-append (directory_of b.authority b.path) r.path (iri-directory b.authority b.path i.path) j.path in
    iri-cond (is_some r.scheme) _ _ (record { authority = j.authority; path = iri-dots r.path j.path; query = j.query; fragment = j.fragment })
    (iri-cond (is_some r.authority) _ _ (record { authority = j.authority; path = iri-dots r.path j.path; query = j.query; fragment = j.fragment })
    (iri-cond (is_empty r.path) _ _ (record { authority = i.authority; path = i.path; query = iri-either r.query b.query j.query i.query; fragment = j.fragment })
    (iri-cond (is_some (rest_after 47 r.path)) _ _ (record { authority = i.authority; path = iri-dots r.path j.path; query = j.query; fragment = j.fragment })
    (record { authority = i.authority; path = iri-dots (directory_of b.authority b.path ++ r.path) whole; query = j.query; fragment = j.fragment }))))

iri-marked : (mark : List ℕ) (o : Option (List ℕ)) → AllIri mark → IriPart o → AllIri (marked mark o)
unfolding marked
iri-marked mark None a b = refl
iri-marked mark (Some x) a b = iri-append mark x a b

-- the text after the scheme
pub iri-rest_after_colon : (b r : Reference) → IriParts (resolved_parts b r)
    → AllIri (marked (codes "//") (resolved_parts b r).authority ++ ((resolved_parts b r).path ++ (marked (codes "?") (resolved_parts b r).query ++ marked (codes "#") (resolved_parts b r).fragment)))
iri-rest_after_colon b r i =
    iri-append (marked (codes "//") (resolved_parts b r).authority) _ (iri-marked (codes "//") (resolved_parts b r).authority refl i.authority)
    (iri-append (resolved_parts b r).path _ i.path
    (iri-append (marked (codes "?") (resolved_parts b r).query) _ (iri-marked (codes "?") (resolved_parts b r).query refl i.query) (iri-marked (codes "#") (resolved_parts b r).fragment refl i.fragment)))

pub iri-resolved_parts : (base reference : List ℕ) → AllIri base → AllIri reference → IriParts (resolved_parts (parts_of base) (parts_of reference))
iri-resolved_parts base reference a b = iri-resolved (parts_of base) (parts_of reference) (iri-parts base a) (iri-parts reference b)

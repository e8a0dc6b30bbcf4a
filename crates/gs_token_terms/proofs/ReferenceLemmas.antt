-- An absolute IRI in which no '.' stands right after a '/' or a ':' means itself under each base.
use Rattle.std.proofs.Common.{◌≡◌, ℕ, Bool, true, false, cond, ◌||◌, ◌&&◌, ◌==◌, List, [], ◌∷◌, ◌++◌, refl, sym, ap, ◌∙◌, subst, append_assoc, append-nil}
use Rattle.std.specs.Prelude.{Some, None, codes, fold, nat_le}
use Rattle.std.specs.Option.{is_some, unwrap_or, option_map, option_and_then}
use Rattle.std.specs.List.{list_all, onto_first, join_with_byte}
use Rattle.std.proofs.lemmas.Bool.{eqb-true, and_from, and_parts, or_parts, or_from}
use Rattle.std.proofs.lemmas.List.Splits.{join_with_byte-slice_split}
use Rattle.gs_model.specs.Iris.{is_absolute, is_letter, is_scheme_char}
use Rattle.gs_iri.specs.References.{is_one_of, before, from, rest_after, is_scheme, has_scheme, scheme_of, rest_after_scheme, rest_after_slashes, rest_after_authority, path_of, parts_of}
use Rattle.gs_iri.specs.Dots.{segments_of, is_dot, is_dot_dot, is_dots, last_of, closed, moved, text_of_segments, output_of, dots}
use Rattle.gs_iri.specs.Resolving.{parts_text, resolved}
use Rattle.gs_iri.proofs.AbsoluteLemmas.{absolute_forth}
use Rattle.gs_iri.proofs.PartsLemmas.{rest_after_is, rejoin}
use Rattle.gs_iri.proofs.ResolvingLemmas.{own_scheme}
use Rattle.gs_token_terms.specs.References.{has_dot_after, IsItself}

-- no '.' stands right after a '/' or a ':'
abbrev NoDot : Bool → List ℕ → Type 0
NoDot after x = has_dot_after after x ≡ false

-- the front of a text
no_dot-before : (stops x : List ℕ) (after : Bool) → NoDot after x → NoDot after (before stops x)
unfolding before
no_dot-before stops [] after h = refl
no_dot-before stops (c ∷ cs) after h =
    let two = or_parts (after && c == 46) (has_dot_after (c == 47 || c == 58) cs) h in
    elim (is_one_of stops c) as (λ b. NoDot after (cond b [] (c ∷ before stops cs))) [
      | true ↦ refl
      | false ↦ or_from _ _ two.0 (no_dot-before stops cs (c == 47 || c == 58) two.1)
    ]

-- the text from a '/', a '?' or a '#' on
no_dot-from : (x : List ℕ) (after : Bool) → NoDot after x → NoDot true (from (codes "/?#") x)
unfolding from
no_dot-from [] after h = refl
no_dot-from (c ∷ cs) after h =
    let two = or_parts (after && c == 46) (has_dot_after (c == 47 || c == 58) cs) h in
    elim (is_one_of (codes "/?#") c) as (λ b. is_one_of (codes "/?#") c ≡ b → NoDot true (cond b (c ∷ cs) (from (codes "/?#") cs))) [
      | true ↦ λ e.
          let other : (c == 46) ≡ false =
          elim (c == 46) as (λ b. (c == 46) ≡ b → b ≡ false) [
            | true ↦ λ k. let same : is_one_of (codes "/?#") 46 ≡ true = sym (ap (is_one_of (codes "/?#")) (eqb-true c 46 k)) ∙ e in absurd (cc)
            | false ↦ λ k. refl
          ] refl in
          or_from _ _ other two.1
      | false ↦ λ e. no_dot-from cs (c == 47 || c == 58) two.1
    ] refl

-- the text after a '/' or a ':'
no_dot-after : (s y : List ℕ) (m : ℕ) (after : Bool) → (m == 47 || m == 58) ≡ true → NoDot after (s ++ m ∷ y) → NoDot true y
no_dot-after [] y m after e h = subst (λ b. NoDot b y) e (or_parts (after && m == 46) (has_dot_after (m == 47 || m == 58) y) h).1
no_dot-after (c ∷ cs) y m after e h = no_dot-after cs y m _ e (or_parts (after && c == 46) (has_dot_after (c == 47 || c == 58) (cs ++ m ∷ y)) h).1

-- no segment is a dot segment
abbrev AreKept : List (List ℕ) → Type 0
AreKept [] = Unit {0}
AreKept (s ∷ ss) = (is_dots s ≡ false) × AreKept ss

-- no segment is, but perhaps the first one, of which a part stands before
abbrev AreKeptFrom : Bool → List (List ℕ) → Type 0
AreKeptFrom true ss = AreKept ss
AreKeptFrom false [] = Unit {0}
AreKeptFrom false (s ∷ ss) = AreKept ss

-- one byte more in front of the first segment
kept-onto : (c : ℕ) (ss : List (List ℕ)) (b after : Bool) → (after && c == 46) ≡ false → AreKeptFrom b ss → AreKeptFrom after (onto_first c ss)
unfolding is_dots is_dot is_dot_dot
kept-onto c [] true true e k = (rw e refl, tt)
kept-onto c [] false true e k = (rw e refl, tt)
kept-onto c [] b false e k = tt
kept-onto c (s ∷ ss) true true e k = (rw e refl, k.1)
kept-onto c (s ∷ ss) false true e k = (rw e refl, k)
kept-onto c (s ∷ ss) true false e k = k.1
kept-onto c (s ∷ ss) false false e k = k

-- an empty segment in front
kept-empty : (after : Bool) (ss : List (List ℕ)) → AreKept ss → AreKeptFrom after ([] ∷ ss)
unfolding is_dots is_dot is_dot_dot
kept-empty true ss k = (refl, k)
kept-empty false ss k = k

-- the segments of a path in which no '.' stands right after a '/'
kept_segments : (x : List ℕ) (after : Bool) → NoDot after x → AreKeptFrom after (segments_of x)
unfolding segments_of
kept_segments [] after h = kept-empty after [] tt
kept_segments (c ∷ cs) after h =
    let two = or_parts (after && c == 46) (has_dot_after (c == 47 || c == 58) cs) h in
    elim (c == 47) as (λ b. (c == 47) ≡ b → AreKeptFrom after (cond b ([] ∷ segments_of cs) (onto_first c (segments_of cs)))) [
      | true ↦ λ e. kept-empty after (segments_of cs) (kept_segments cs true (subst (λ b. NoDot b cs) (ap (λ b. b || c == 58) e) two.1))
      | false ↦ λ e. kept-onto c (segments_of cs) (c == 47 || c == 58) after two.0 (kept_segments cs (c == 47 || c == 58) two.1)
    ] refl

-- the last segment is no dot segment
last_kept : (ss : List (List ℕ)) → AreKept ss → is_dots (last_of ss) ≡ false
unfolding is_dots is_dot is_dot_dot
last_kept [] k = refl
last_kept (s ∷ []) k = k.0
last_kept (s ∷ t ∷ ss) k = last_kept (t ∷ ss) k.1

-- nothing is added at the end of the path
closed_kept : (ss : List (List ℕ)) → AreKept ss → closed ss ≡ ss
unfolding closed
closed_kept ss k = ap (λ b. ss ++ cond b ([] ∷ []) []) (last_kept ss k) ∙ append-nil ss

-- a segment is moved to the output after a '/'
moved_kept : (out : List (List ℕ)) (s : List ℕ) → is_dots s ≡ false → moved (Some out) s ≡ Some ((47 ∷ s) ∷ out)
unfolding moved is_dots
moved_kept out s k =
    let two = or_parts (is_dot s) (is_dot_dot s) k in
    rw (two.0, two.1) refl

-- what stands before the first segment stands before all
join-append : (x y : List ℕ) (ss : List (List ℕ)) → join_with_byte 47 ((x ++ y) ∷ ss) ≡ x ++ join_with_byte 47 (y ∷ ss)
join-append x y [] = refl
join-append x y (s ∷ ss) = append_assoc x y (47 ∷ join_with_byte 47 (s ∷ ss))

-- a '/' before the first segment stands before all
join-slash : (s : List ℕ) (ss : List (List ℕ)) → join_with_byte 47 ((47 ∷ s) ∷ ss) ≡ 47 ∷ join_with_byte 47 (s ∷ ss)
join-slash s [] = refl
join-slash s (t ∷ ss) = refl

-- the output is the segments with a '/' before each but the first
output_kept : (out ss : List (List ℕ)) → AreKept ss → output_of (fold moved (Some out) ss) ≡ join_with_byte 47 (text_of_segments out ∷ ss)
unfolding output_of text_of_segments
output_kept out [] k = refl
output_kept out (s ∷ ss) k =
    ap (λ o. output_of (fold moved o ss)) (moved_kept out s k.0)
    ∙ output_kept ((47 ∷ s) ∷ out) ss k.1
    ∙ join-append (text_of_segments out) (47 ∷ s) ss
    ∙ ap (λ z. text_of_segments out ++ z) (join-slash s ss)

-- the same from the start, where nothing is moved yet
output-start : (ss : List (List ℕ)) → AreKept ss → output_of (fold moved None ss) ≡ join_with_byte 47 ss
unfolding moved text_of_segments output_of
output-start [] k = refl
output-start (s ∷ ss) k =
    ap (λ b. output_of (fold moved (cond b None (Some (s ∷ []))) ss)) k.0 ∙ output_kept (s ∷ []) ss k.1

-- the segments, joined again, are the path
joined : (p : List ℕ) → join_with_byte 47 (segments_of p) ≡ p
unfolding segments_of
joined p = join_with_byte-slice_split 47 p

-- a path without dot segments is left as it is
dots_kept : (p : List ℕ) → NoDot true p → dots p ≡ p
unfolding dots
dots_kept p h =
    let k = kept_segments p true h in
    ap (λ ss. output_of (fold moved None ss)) (closed_kept (segments_of p) k)
    ∙ output-start (segments_of p) k ∙ joined p

-- a scheme has no ':'
not_colon : (c : ℕ) → is_scheme_char c ≡ true → is_one_of (codes ":") c ≡ false
not_colon c h =
    elim (58 == c) as (λ b. (58 == c) ≡ b → (b || false) ≡ false) [
      | true ↦ λ e. let no : is_scheme_char 58 ≡ true = ap is_scheme_char (eqb-true 58 c e) ∙ h in absurd (cc)
      | false ↦ λ e. refl
    ] refl

-- the text before the first ':' is the scheme
before-colon : (s y : List ℕ) → list_all is_scheme_char s ≡ true → before (codes ":") (s ++ 58 ∷ y) ≡ s
unfolding before
before-colon [] y h = refl
before-colon (c ∷ cs) y h =
    let two = and_parts (is_scheme_char c) (list_all is_scheme_char cs) h in
    ap (λ b. cond b [] (c ∷ before (codes ":") (cs ++ 58 ∷ y))) (not_colon c two.0) ∙ ap (λ z. c ∷ z) (before-colon cs y two.1)

-- the text from the first ':' on follows the scheme
from-colon : (s y : List ℕ) → list_all is_scheme_char s ≡ true → from (codes ":") (s ++ 58 ∷ y) ≡ 58 ∷ y
unfolding from
from-colon [] y h = refl
from-colon (c ∷ cs) y h =
    let two = and_parts (is_scheme_char c) (list_all is_scheme_char cs) h in
    ap (λ b. cond b (c ∷ (cs ++ 58 ∷ y)) (from (codes ":") (cs ++ 58 ∷ y))) (not_colon c two.0) ∙ from-colon cs y two.1

-- a letter may go on with a scheme
letter_is_scheme_char : (c : ℕ) → is_letter c ≡ true → is_scheme_char c ≡ true
letter_is_scheme_char c h = ap (λ b. b || (nat_le 48 c && nat_le c 57) || c == 43 || c == 45 || c == 46) h

-- an absolute text cut at its scheme
record Cut (x : List ℕ) : Type 0 where
  scheme : is_some (scheme_of x) ≡ true
  no_dot : NoDot false x → NoDot true (rest_after_scheme x)

-- an absolute text has a scheme, and the rest of it follows a ':'
cut_absolute : (x : List ℕ) → is_absolute x ≡ true → Cut x
unfolding scheme_of rest_after_scheme has_scheme is_scheme rest_after
cut_absolute x h =
    let a = absolute_forth x h in
    let chars = and_from _ _ (letter_is_scheme_char a.first a.begins) a.goes_on in
    let front = ap (before (codes ":")) a.parts ∙ before-colon (a.first ∷ a.scheme) a.rest chars in
    let back = ap (from (codes ":")) a.parts ∙ from-colon (a.first ∷ a.scheme) a.rest chars in
    let form : is_scheme (before (codes ":") x) ≡ true = ap is_scheme front ∙ and_from _ _ a.begins a.goes_on in
    let colon : is_some (rest_after 58 (from (codes ":") x)) ≡ true = ap (λ z. is_some (rest_after 58 z)) back in
    let has : has_scheme x ≡ true = and_from _ _ colon form in
    record {
      scheme = ap (λ b. is_some (cond b (Some (before (codes ":") x)) None)) has;
      no_dot = λ n. subst (NoDot true) (sym (ap (λ b. cond b (unwrap_or (rest_after 58 (from (codes ":") x)) x) x) has ∙ ap (λ z. unwrap_or (rest_after 58 z) x) back))
          (no_dot-after (a.first ∷ a.scheme) a.rest 58 false refl (subst (NoDot false) a.parts n));
    }

-- the text after an authority
no_dot-authority : (x : List ℕ) → NoDot true x → NoDot true (rest_after_authority x)
unfolding rest_after_authority rest_after_slashes
no_dot-authority x h =
    elim (rest_after 47 x) as (λ o. rest_after 47 x ≡ o → NoDot true (unwrap_or (option_map (from (codes "/?#")) (option_and_then (rest_after 47) o)) x)) [
      | None ↦ λ e. h
      | Some y ↦ λ e.
          elim (rest_after 47 y) as (λ o. rest_after 47 y ≡ o → NoDot true (unwrap_or (option_map (from (codes "/?#")) o) x)) [
            | None ↦ λ f. h
            | Some z ↦ λ f.
                let one = no_dot-after [] y 47 true refl (subst (NoDot true) (rest_after_is 47 x y e) h) in
                let two = no_dot-after [] z 47 true refl (subst (NoDot true) (rest_after_is 47 y z f) one) in
                no_dot-from z true two
          ] refl
    ] refl

-- the path of the parts has no dot segments
path_kept : (x : List ℕ) → is_absolute x ≡ true → NoDot false x → dots (parts_of x).path ≡ (parts_of x).path
unfolding parts_of path_of
path_kept x h n =
    dots_kept (before (codes "?#") (rest_after_authority (rest_after_scheme x)))
    (no_dot-before (codes "?#") (rest_after_authority (rest_after_scheme x)) true (no_dot-authority (rest_after_scheme x) ((cut_absolute x h).no_dot n)))

-- the parts have a scheme
defined_scheme : (x : List ℕ) → is_absolute x ≡ true → is_some (parts_of x).scheme ≡ true
unfolding parts_of
defined_scheme x h = (cut_absolute x h).scheme

-- the parts are resolved to themselves, and rejoined they are the text
pub is_itself : (x : List ℕ) → is_absolute x ≡ true → has_dot_after false x ≡ false → IsItself x
unfolding resolved
is_itself x h n = record {
  absolute = h;
  same = λ base.
      sym (own_scheme (parts_of base) (parts_of x) (defined_scheme x h))
      ∙ ap (λ p. parts_text (parts_of x).scheme (parts_of x).authority p (parts_of x).query (parts_of x).fragment) (path_kept x h n)
      ∙ rejoin x;
}

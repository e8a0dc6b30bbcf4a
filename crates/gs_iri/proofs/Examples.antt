-- The examples of RFC 3986, sections 5.2.4, 5.4.1 and 5.4.2 (strict), by computation.
use Rattle.std.proofs.Common.{◌≡◌, ℕ, Bool, true, ◌&&◌, List, [], ◌∷◌, refl}
use Rattle.std.specs.Prelude.{codes}
use Rattle.std.specs.Str.{bytes_eq}
use Rattle.gs_iri.specs.References.{before, from, rest_after, is_scheme, has_scheme, scheme_of, rest_after_scheme, rest_after_slashes, authority_of, rest_after_authority, path_of, rest_after_path, query_of, rest_after_query, fragment_of, parts_of}
use Rattle.gs_iri.specs.Dots.{segments_of, is_dot, is_dot_dot, is_dots, closed, moved, text_of_segments, output_of, dots}
use Rattle.gs_iri.specs.Resolving.{scheme_text, marked, parts_text, through_last, directory_of, resolved_parts, resolved}

abbrev base : List ℕ
base = codes "http://a/b/c/d;p?q"

-- each reference gives what stands beside it
abbrev all_give : List (List ℕ × List ℕ) → Bool
all_give [] = true
all_give (row ∷ rows) = bytes_eq (resolved base row.0) row.1 && all_give rows

path : dots (codes "/a/b/c/./../../g") ≡ codes "/a/g"
unfolding dots segments_of closed is_dots is_dot is_dot_dot moved output_of text_of_segments
path = refl

rootless : dots (codes "mid/content=5/../6") ≡ codes "mid/6"
unfolding dots segments_of closed is_dots is_dot is_dot_dot moved output_of text_of_segments
rootless = refl

abbrev normal_examples : List (List ℕ × List ℕ)
normal_examples =
    (codes "g:h", codes "g:h")
    ∷ (codes "g", codes "http://a/b/c/g")
    ∷ (codes "./g", codes "http://a/b/c/g")
    ∷ (codes "g/", codes "http://a/b/c/g/")
    ∷ (codes "/g", codes "http://a/g")
    ∷ (codes "//g", codes "http://g")
    ∷ (codes "?y", codes "http://a/b/c/d;p?y")
    ∷ (codes "g?y", codes "http://a/b/c/g?y")
    ∷ (codes "#s", codes "http://a/b/c/d;p?q#s")
    ∷ (codes "g#s", codes "http://a/b/c/g#s")
    ∷ (codes "g?y#s", codes "http://a/b/c/g?y#s")
    ∷ (codes ";x", codes "http://a/b/c/;x")
    ∷ (codes "g;x", codes "http://a/b/c/g;x")
    ∷ (codes "g;x?y#s", codes "http://a/b/c/g;x?y#s")
    ∷ (codes "", codes "http://a/b/c/d;p?q")
    ∷ (codes ".", codes "http://a/b/c/")
    ∷ (codes "./", codes "http://a/b/c/")
    ∷ (codes "..", codes "http://a/b/")
    ∷ (codes "../", codes "http://a/b/")
    ∷ (codes "../g", codes "http://a/b/g")
    ∷ (codes "../..", codes "http://a/")
    ∷ (codes "../../", codes "http://a/")
    ∷ (codes "../../g", codes "http://a/g")
    ∷ []

normal : all_give normal_examples ≡ true
unfolding resolved resolved_parts parts_text scheme_text marked through_last directory_of parts_of fragment_of rest_after_query query_of rest_after_path path_of rest_after_authority authority_of rest_after_slashes rest_after_scheme scheme_of has_scheme is_scheme rest_after from before dots segments_of closed is_dots is_dot is_dot_dot moved output_of text_of_segments
normal = refl

abbrev abnormal_examples : List (List ℕ × List ℕ)
abnormal_examples =
    (codes "../../../g", codes "http://a/g")
    ∷ (codes "../../../../g", codes "http://a/g")
    ∷ (codes "/./g", codes "http://a/g")
    ∷ (codes "/../g", codes "http://a/g")
    ∷ (codes "g.", codes "http://a/b/c/g.")
    ∷ (codes ".g", codes "http://a/b/c/.g")
    ∷ (codes "g..", codes "http://a/b/c/g..")
    ∷ (codes "..g", codes "http://a/b/c/..g")
    ∷ (codes "./../g", codes "http://a/b/g")
    ∷ (codes "./g/.", codes "http://a/b/c/g/")
    ∷ (codes "g/./h", codes "http://a/b/c/g/h")
    ∷ (codes "g/../h", codes "http://a/b/c/h")
    ∷ (codes "g;x=1/./y", codes "http://a/b/c/g;x=1/y")
    ∷ (codes "g;x=1/../y", codes "http://a/b/c/y")
    ∷ (codes "g?y/./x", codes "http://a/b/c/g?y/./x")
    ∷ (codes "g?y/../x", codes "http://a/b/c/g?y/../x")
    ∷ (codes "g#s/./x", codes "http://a/b/c/g#s/./x")
    ∷ (codes "g#s/../x", codes "http://a/b/c/g#s/../x")
    ∷ (codes "http:g", codes "http:g")
    ∷ []

abnormal : all_give abnormal_examples ≡ true
unfolding resolved resolved_parts parts_text scheme_text marked through_last directory_of parts_of fragment_of rest_after_query query_of rest_after_path path_of rest_after_authority authority_of rest_after_slashes rest_after_scheme scheme_of has_scheme is_scheme rest_after from before dots segments_of closed is_dots is_dot is_dot_dot moved output_of text_of_segments
abnormal = refl

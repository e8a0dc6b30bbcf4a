-- A line with a name gives its name and its triple back.
use Rattle.std.proofs.Common.{◌≡◌, ℕ, true, List, [], ◌∷◌, ◌++◌, reverse, refl, sym, ap, ◌∙◌, subst, append_assoc}
use Rattle.std.proofs.lemmas.List.{append_cancel_right, reverse-append, reverse-reverse}
use Rattle.std.proofs.lemmas.Bool.{and_parts}
use Rattle.gs_model.specs.Iris.{IsName}
use Rattle.gs_model.specs.Terms.{Term, Iri, Blank, Literal, text_of}
use Rattle.gs_model.specs.Texts.{split_first, term_of}
use Rattle.gs_model.specs.Triples.{RdfTriple, IsTriple, is_subject, is_iri}
use Rattle.gs_model.proofs.TextLemmas.{AllOther, split_first-other, term_of-text_of}
use Rattle.gs_model.proofs.LineLemmas.{other-append, absolute_others, no_space}
use Rattle.gs_term.specs.Names.{in_brackets, quad_line_of}
use Rattle.gs_term.specs.NameOrder.{same_name}
use Rattle.gs_protocol_laws.specs.Lines.{StandsInLine, QuadLinesTell}

-- a line up to its dot
abbrev front_of : RdfTriple → List ℕ
front_of t = text_of t.subject ++ 32 ∷ text_of t.predicate ++ 32 ∷ text_of t.object ++ 32 ∷ []

pub stands_in_line : (name : List ℕ) (t : RdfTriple) → StandsInLine name t
stands_in_line name t =
    let three = text_of t.subject ++ 32 ∷ text_of t.predicate ++ 32 ∷ text_of t.object in
    record {
      front = front_of t;
      alone = sym (append_assoc three (32 ∷ []) (46 ∷ 10 ∷ []));
      named = ap (λ xs. xs ++ 32 ∷ 46 ∷ 10 ∷ []) (sym (append_assoc three (32 ∷ []) (in_brackets name)));
    }

-- what has none of a byte has none of it from its end on
other-reverse : (x : ℕ) (xs : List ℕ) → AllOther x xs → AllOther x (reverse xs)
other-reverse x [] h = tt
other-reverse x (c ∷ cs) h =
    subst (AllOther x) (sym (reverse-append (c ∷ []) cs)) (other-append x (reverse cs) (c ∷ []) (other-reverse x cs h.1) (h.0, tt))

-- the last space parts a text from a name
last_space : (xs ys : List ℕ) → AllOther 32 ys → split_first 32 (reverse (xs ++ 32 ∷ ys)) ≡ (reverse ys, reverse xs)
last_space xs ys h =
    let turned : reverse (xs ++ 32 ∷ ys) ≡ reverse ys ++ 32 ∷ reverse xs =
    reverse-append xs (32 ∷ ys) ∙ ap (λ zs. zs ++ reverse xs) (reverse-append (32 ∷ []) ys) ∙ append_assoc (reverse ys) (32 ∷ []) (reverse xs) in
    ap (split_first 32) turned ∙ split_first-other 32 (reverse ys) (reverse xs) (other-reverse 32 ys h)

back : (xs ys : List ℕ) → reverse xs ≡ reverse ys → xs ≡ ys
back xs ys e = sym (reverse-reverse xs) ∙ ap reverse e ∙ reverse-reverse ys

-- a name in brackets has no space
name_others : (name : List ℕ) → IsName name → AllOther 32 (in_brackets name)
name_others name ok = (refl, other-append 32 name (62 ∷ []) (absolute_others 32 refl refl refl refl name ok.absolute) (refl, tt))

iri_is_subject : (t : Term) → is_iri t ≡ true → is_subject t ≡ true
iri_is_subject (Iri text) h = refl
iri_is_subject (Blank r k) h = refl
iri_is_subject (Literal lexical kind) h = absurd (cc)

-- the object and the name, and all after the subject
abbrev last_of : List ℕ → RdfTriple → List ℕ
last_of name t = text_of t.object ++ 32 ∷ in_brackets name

abbrev rest_of : List ℕ → RdfTriple → List ℕ
rest_of name t = text_of t.predicate ++ (32 ∷ (last_of name t ++ 32 ∷ 46 ∷ 10 ∷ []))

-- the parts of a line
first_part : (name : List ℕ) (t : RdfTriple) → IsTriple t → split_first 32 (quad_line_of name t) ≡ (text_of t.subject, rest_of name t)
first_part name t ok =
    let kinds = and_parts (is_subject t.subject) (is_iri t.predicate) ok.kinds in
    let ends = 32 ∷ 46 ∷ 10 ∷ [] in
    let s = text_of t.subject in
    let p = text_of t.predicate in
    let o = text_of t.object in
    let parted : quad_line_of name t ≡ s ++ (32 ∷ rest_of name t) =
    ap (λ xs. xs ++ ends) (append_assoc (s ++ 32 ∷ p) (32 ∷ o) (32 ∷ in_brackets name))
    ∙ append_assoc (s ++ 32 ∷ p) (32 ∷ last_of name t) ends
    ∙ append_assoc s (32 ∷ p) (32 ∷ (last_of name t ++ ends)) in
    ap (split_first 32) parted ∙ split_first-other 32 s (rest_of name t) (no_space t.subject ok.subject_is kinds.0)

second_part : (name : List ℕ) (t : RdfTriple) → IsTriple t → split_first 32 (rest_of name t) ≡ (text_of t.predicate, last_of name t ++ 32 ∷ 46 ∷ 10 ∷ [])
second_part name t ok =
    let kinds = and_parts (is_subject t.subject) (is_iri t.predicate) ok.kinds in
    split_first-other 32 (text_of t.predicate) (last_of name t ++ 32 ∷ 46 ∷ 10 ∷ []) (no_space t.predicate ok.predicate_is (iri_is_subject t.predicate kinds.1))

-- a term is told by its text
same_term : (t u : Term) → text_of t ≡ text_of u → t ≡ u
same_term t u e = sym (term_of-text_of t) ∙ ap term_of e ∙ term_of-text_of u

pub lines_tell : QuadLinesTell
lines_tell n k t u n_is k_is t_is u_is e =
    let ends = 32 ∷ 46 ∷ 10 ∷ [] in
    let first : (text_of t.subject, rest_of n t) ≡ (text_of u.subject, rest_of k u) = sym (first_part n t t_is) ∙ ap (split_first 32) e ∙ first_part k u u_is in
    let second : (text_of t.predicate, last_of n t ++ ends) ≡ (text_of u.predicate, last_of k u ++ ends) =
    sym (second_part n t t_is) ∙ ap (λ q. split_first 32 q.1) first ∙ second_part k u u_is in
    let both : last_of n t ≡ last_of k u = append_cancel_right (last_of n t) (last_of k u) ends (ap (λ q. q.1) second) in
    let parts : (reverse (in_brackets n), reverse (text_of t.object)) ≡ (reverse (in_brackets k), reverse (text_of u.object)) =
    sym (last_space (text_of t.object) (in_brackets n) (name_others n n_is)) ∙ ap (λ xs. split_first 32 (reverse xs)) both ∙ last_space (text_of u.object) (in_brackets k) (name_others k k_is) in
    let name : n ≡ k = same_name n k (back (in_brackets n) (in_brackets k) (ap (λ q. q.0) parts)) in
    let subject = same_term t.subject u.subject (ap (λ q. q.0) first) in
    let predicate = same_term t.predicate u.predicate (ap (λ q. q.0) second) in
    let object = same_term t.object u.object (back (text_of t.object) (text_of u.object) (ap (λ q. q.1) parts)) in
    (name, λ i. record { subject = subject i; predicate = predicate i; object = object i })

-- Texts of tokens whose bytes all stand mean themselves.
use Rattle.std.proofs.Common.{◌≡◌, ℕ, ◌-◌, ◌≤◌, ◌==◌, Bool, true, false, cond, List, [], ◌∷◌, ◌++◌, length, take, drop, refl, sym, ap, zero, suc, ◌∙◌, arith, subst, length-append, append_assoc}
use Rattle.std.specs.Prelude.{Option, Some, None, option_and_then, encode_utf8, not, ◌&&◌, ◌||◌}
use Rattle.std.specs.Option.{option_or}
use Rattle.std.specs.List.{list_all}
use Rattle.std.specs.Str.{IsUtf8, bytes_eq}
use Rattle.std.proofs.lemmas.Str.{is_utf8-from_IsUtf8}
use Rattle.std.proofs.lemmas.Bool.{and_parts, and_from, not-true, eqb-true}
use Rattle.std.proofs.lemmas.Bool.Decides.{nat_tests}
use Rattle.gs_model.specs.Characters.{is_iri_char}
use Rattle.gs_automaton.specs.Runs.{AllFrom, plain_iri}
use Rattle.gs_escape.specs.declared.forms.Form.{Form}
use Rattle.gs_escape.specs.declared.forms.Form.TheVariants as form
use Rattle.gs_escape.specs.Escapes.{escape}
use Rattle.gs_escape.specs.Meanings.{stands, stands_short, stands_long, stands_local, begins_with_other, has_few_quotes, meant_after, unescaped, meaning}
use Rattle.gs_escape.specs.Tokens.{between, before_back, with_form, three, quote_once, quoted, string_of, iri_of, local_of}
use Rattle.gs_token_terms.specs.Plain.{are_bare, is_plain, is_plain_in, is_quote, StandsIn, IsPlainString, IsPlainReference}

-- a text of bytes that stand, whatever follows them
stands_all : (f : Form) (p : ℕ → Bool) → ((c : ℕ) (cs : List ℕ) → p c ≡ true → stands f c cs ≡ true) → (xs : List ℕ) → list_all p xs ≡ true → unescaped f 0 xs ≡ Some xs
unfolding unescaped
stands_all f p h [] e = refl
stands_all f p h (c ∷ cs) e =
    let k = and_parts (p c) (list_all p cs) e in
    ap (λ b. cond b (meant_after (c ∷ []) (unescaped f 0 cs)) (cond (c == 92) (option_and_then (λ e. meant_after (encode_utf8 e.0) (unescaped f e.1 cs)) (escape f cs)) None)) (h c cs k.0)
    ∙ ap (meant_after (c ∷ [])) (stands_all f p h cs k.1)

-- means itself
itself : (f : Form) (p : ℕ → Bool) → ((c : ℕ) (cs : List ℕ) → p c ≡ true → stands f c cs ≡ true) → (xs : List ℕ) → list_all p xs ≡ true → IsUtf8 xs → meaning f xs ≡ Some xs
itself f p h xs e u = ap (λ b. cond b (unescaped f 0 xs) None) (is_utf8-from_IsUtf8 xs u) ∙ stands_all f p h xs e

-- what is plain stands between its quotes
plain_short : (q c : ℕ) → is_plain_in q c ≡ true → stands_short q c ≡ true
unfolding stands_short
plain_short q c h = grind (arith, nat_tests)

no_quote : (q c : ℕ) → is_plain_in q c ≡ true → (c == q) ≡ false
no_quote q c h = not-true (c == q) (and_parts (is_plain c) (not (c == q)) h).1

no_backslash : (q c : ℕ) → is_plain_in q c ≡ true → (c == 92) ≡ false
no_backslash q c h = grind (arith, nat_tests)

plain_long : (q c : ℕ) (x : List ℕ) → is_plain_in q c ≡ true → stands_long q c x ≡ true
unfolding stands_long
plain_long q c x h =
    ap (λ b. cond b (has_few_quotes q x) (not (c == 92))) (no_quote q c h) ∙ ap not (no_backslash q c h)

iri_local : (c : ℕ) → is_iri_char c ≡ true → stands_local c ≡ true
unfolding stands_local
iri_local c h = grind (arith, nat_tests)

-- a local part of IRI characters
pub plain_local : (xs : List ℕ) → list_all is_iri_char xs ≡ true → IsUtf8 xs → local_of xs ≡ Some xs
plain_local = itself form.Local is_iri_char (λ c cs h. iri_local c h)

-- plain characters of an IRI at the front may be left out of the test
pub iri_rest : (x : List ℕ) (n : ℕ) → n ≤ length x → AllFrom plain_iri x 0 n → list_all is_iri_char (drop n x) ≡ list_all is_iri_char x
iri_rest x zero l h = refl
iri_rest [] (suc n) l h = absurd (omega (arith, l))
iri_rest (b ∷ bs) (suc n) l h =
    iri_rest bs n (omega (arith, l)) (λ i m k. h (suc i) (omega arith) (omega (arith, k)))
    ∙ sym (ap (λ t. t && list_all is_iri_char bs) (and_parts _ _ (h 0 (omega arith) (omega arith))).1)

-- a front and a back taken away
front-append : (xs ys : List ℕ) → take (length xs) (xs ++ ys) ≡ xs
front-append [] ys = refl
front-append (x ∷ xs) ys = ap (λ z. x ∷ z) (front-append xs ys)

rest-append : (xs ys : List ℕ) → drop (length xs) (xs ++ ys) ≡ ys
rest-append [] ys = refl
rest-append (x ∷ xs) ys = rest-append xs ys

without_back : (x b : List ℕ) → bytes_eq b b ≡ true → before_back b (x ++ b) ≡ Some x
without_back x b e =
    let n : length (x ++ b) - length b ≡ length x = omega (arith, length-append x b) in
    ap (λ k. cond (bytes_eq (drop k (x ++ b)) b) (Some (take k (x ++ b))) None) n
    ∙ ap (λ z. cond (bytes_eq z b) (Some (take (length x) (x ++ b))) None) (rest-append x b)
    ∙ ap (λ t. cond t (Some (take (length x) (x ++ b))) None) e
    ∙ ap Some (front-append x b)

between_marks : (a b x : List ℕ) → bytes_eq a a ≡ true → bytes_eq b b ≡ true → between a b (a ++ (x ++ b)) ≡ Some x
unfolding between
between_marks a b x e h =
    ap (λ z. option_and_then (before_back b) (cond (bytes_eq z a) (Some (drop (length a) (a ++ (x ++ b)))) None)) (front-append a (x ++ b))
    ∙ ap (λ t. option_and_then (before_back b) (cond t (Some (drop (length a) (a ++ (x ++ b)))) None)) e
    ∙ ap (before_back b) (rest-append a (x ++ b))
    ∙ without_back x b h

not_between : (a b x : List ℕ) → bytes_eq (take (length a) x) a ≡ false → between a b x ≡ None
unfolding between
not_between a b x e = ap (λ t. option_and_then (before_back b) (cond t (Some (drop (length a) x)) None)) e

-- a reference
pub plain_reference : (x iri : List ℕ) → StandsIn 60 62 x iri → list_all is_iri_char iri ≡ true → IsUtf8 iri → IsPlainReference x iri
unfolding iri_of
plain_reference x iri s e u = record {
  meant = ap (option_and_then (meaning form.IriRef)) (ap (between (60 ∷ []) (62 ∷ [])) s ∙ between_marks (60 ∷ []) (62 ∷ []) iri refl refl)
      ∙ itself form.IriRef is_iri_char (λ c cs h. h) iri e u;
  characters = e;
}

-- what is plain between quotes is plain
pub all_plain : (q : ℕ) (xs : List ℕ) → list_all (is_plain_in q) xs ≡ true → list_all is_plain xs ≡ true
all_plain q [] e = refl
all_plain q (c ∷ cs) e =
    let k = and_parts (is_plain_in q c) (list_all (is_plain_in q) cs) e in
    and_from (is_plain c) (list_all is_plain cs) (and_parts (is_plain c) (not (c == q)) k.0).0 (all_plain q cs k.1)

-- two quotes and a plain text are not three quotes and more
not_three : (q : ℕ) → bytes_eq (q ∷ q ∷ []) (three q) ≡ false → ((c : ℕ) (y : List ℕ) → (c == q) ≡ false → bytes_eq (q ∷ c ∷ y) (three q) ≡ false)
    → (x : List ℕ) → list_all (is_plain_in q) x ≡ true → bytes_eq (take 3 (q ∷ x ++ q ∷ [])) (three q) ≡ false
not_three q two other [] e = two
not_three q two other (c ∷ cs) e = other c (take 1 (cs ++ q ∷ [])) (no_quote q c (and_parts (is_plain_in q c) (list_all (is_plain_in q) cs) e).0)

-- the ways to read a string, tried in turn
first_of : Option (Form × List ℕ) → Option (Form × List ℕ) → Option (Form × List ℕ) → Option (Form × List ℕ) → Option (List ℕ)
first_of a b c d = option_and_then (λ p. meaning p.0 p.1) (option_or a (option_or b (option_or c d)))

string_by : (x : List ℕ) (a b c d : Option (List ℕ)) → between (three 34) (three 34) x ≡ a → between (three 39) (three 39) x ≡ b → between (quote_once 34) (quote_once 34) x ≡ c → between (quote_once 39) (quote_once 39) x ≡ d
    → string_of x ≡ first_of (with_form form.StringLiteralLongQuote a) (with_form form.StringLiteralLongSingleQuote b) (with_form form.StringLiteralQuote c) (with_form form.StringLiteralSingleQuote d)
unfolding string_of quoted first_of
string_by x a b c d e f g h = cc

-- between quotation marks
pub short_quotes : (x y : List ℕ) → StandsIn 34 34 x y → list_all (is_plain_in 34) y ≡ true → IsUtf8 y → string_of x ≡ Some y
unfolding first_of
short_quotes x y s e u =
    let none : bytes_eq (take 3 x) (three 34) ≡ false = ap (λ z. bytes_eq (take 3 z) (three 34)) s ∙ not_three 34 refl (λ c z h. ap (λ b. b && bytes_eq z (34 ∷ [])) h) y e in
    let single : bytes_eq (take 3 x) (three 39) ≡ false = ap (λ z. bytes_eq (take 3 z) (three 39)) s in
    string_by x None None (Some y) (between (quote_once 39) (quote_once 39) x) (not_between (three 34) (three 34) x none) (not_between (three 39) (three 39) x single)
    (ap (between (quote_once 34) (quote_once 34)) s ∙ between_marks (quote_once 34) (quote_once 34) y refl refl) refl
    ∙ itself form.StringLiteralQuote (is_plain_in 34) (λ c cs h. plain_short 34 c h) y e u

-- between apostrophes
pub short_apostrophes : (x y : List ℕ) → StandsIn 39 39 x y → list_all (is_plain_in 39) y ≡ true → IsUtf8 y → string_of x ≡ Some y
unfolding first_of
short_apostrophes x y s e u =
    let none : bytes_eq (take 3 x) (three 39) ≡ false = ap (λ z. bytes_eq (take 3 z) (three 39)) s ∙ not_three 39 refl (λ c z h. ap (λ b. b && bytes_eq z (39 ∷ [])) h) y e in
    let double : bytes_eq (take 3 x) (three 34) ≡ false = ap (λ z. bytes_eq (take 3 z) (three 34)) s in
    let mark : bytes_eq (take 1 x) (quote_once 34) ≡ false = ap (λ z. bytes_eq (take 1 z) (quote_once 34)) s in
    string_by x None None None (Some y) (not_between (three 34) (three 34) x double) (not_between (three 39) (three 39) x none) (not_between (quote_once 34) (quote_once 34) x mark)
    (ap (between (quote_once 39) (quote_once 39)) s ∙ between_marks (quote_once 39) (quote_once 39) y refl refl)
    ∙ itself form.StringLiteralSingleQuote (is_plain_in 39) (λ c cs h. plain_short 39 c h) y e u

-- three times the same mark
thrice : (q : ℕ) (x y z w : List ℕ) → StandsIn q q x y → StandsIn q q y z → StandsIn q q z w → x ≡ three q ++ (w ++ three q)
thrice q x y z w a b c =
    a ∙ ap (λ t. q ∷ t ++ q ∷ []) (b ∙ ap (λ t. q ∷ t ++ q ∷ []) c)
    ∙ ap (λ t. q ∷ q ∷ t ++ q ∷ []) (append_assoc (q ∷ w) (q ∷ []) (q ∷ []))
    ∙ ap (λ t. q ∷ q ∷ t) (append_assoc (q ∷ w) (q ∷ q ∷ []) (q ∷ []))

-- between three quotation marks
long_quotes : (x w : List ℕ) → x ≡ three 34 ++ (w ++ three 34) → string_of x ≡ meaning form.StringLiteralLongQuote w
unfolding first_of
long_quotes x w s =
    string_by x (Some w) (between (three 39) (three 39) x) (between (quote_once 34) (quote_once 34) x) (between (quote_once 39) (quote_once 39) x)
    (ap (between (three 34) (three 34)) s ∙ between_marks (three 34) (three 34) w refl refl) refl refl refl

-- between three apostrophes
long_apostrophes : (x w : List ℕ) → x ≡ three 39 ++ (w ++ three 39) → string_of x ≡ meaning form.StringLiteralLongSingleQuote w
unfolding first_of
long_apostrophes x w s =
    let double : bytes_eq (take 3 x) (three 34) ≡ false = ap (λ z. bytes_eq (take 3 z) (three 34)) s in
    string_by x None (Some w) (between (quote_once 34) (quote_once 34) x) (between (quote_once 39) (quote_once 39) x) (not_between (three 34) (three 34) x double)
    (ap (between (three 39) (three 39)) s ∙ between_marks (three 39) (three 39) w refl refl) refl refl

-- a text with no backslash and no two quotes one after another
few : (q : ℕ) (xs : List ℕ) → are_bare q true xs ≡ true → has_few_quotes q xs ≡ true
few q [] e = absurd (cc)
few q (d ∷ ds) e =
    let k = and_parts (not (d == 92) && not (d == q)) (are_bare q (d == q) ds) e in
    ap (λ b. cond b (begins_with_other q ds) true) (not-true (d == q) (and_parts (not (d == 92)) (not (d == q)) k.0).1)

stands_next : (q c : ℕ) (cs : List ℕ) (last : Bool) → are_bare q last (c ∷ cs) ≡ true → stands_long q c cs ≡ true
unfolding stands_long
stands_next q c cs last =
    elim (c == q) as (λ b. ((not (c == 92) && not (last && b)) && are_bare q b cs) ≡ true → cond b (has_few_quotes q cs) (not (c == 92)) ≡ true) [
      | true ↦ λ e. few q cs (and_parts (not (c == 92) && not (last && true)) (are_bare q true cs) e).1
      | false ↦ λ e. (and_parts (not (c == 92)) (not (last && false)) (and_parts (not (c == 92) && not (last && false)) (are_bare q false cs) e).0).0
    ]

bare_all : (f : Form) (q : ℕ) → ((c : ℕ) (cs : List ℕ) → stands f c cs ≡ stands_long q c cs) → (last : Bool) (xs : List ℕ) → are_bare q last xs ≡ true → unescaped f 0 xs ≡ Some xs
unfolding unescaped
bare_all f q is last [] e = refl
bare_all f q is last (c ∷ cs) e =
    ap (λ b. cond b (meant_after (c ∷ []) (unescaped f 0 cs)) (cond (c == 92) (option_and_then (λ e. meant_after (encode_utf8 e.0) (unescaped f e.1 cs)) (escape f cs)) None)) (is c cs ∙ stands_next q c cs last e)
    ∙ ap (meant_after (c ∷ [])) (bare_all f q is (c == q) cs (and_parts (not (c == 92) && not (last && (c == q))) (are_bare q (c == q) cs) e).1)

bare_itself : (f : Form) (q : ℕ) → ((c : ℕ) (cs : List ℕ) → stands f c cs ≡ stands_long q c cs) → (xs : List ℕ) → are_bare q false xs ≡ true → IsUtf8 xs → meaning f xs ≡ Some xs
bare_itself f q is xs e u = ap (λ b. cond b (unescaped f 0 xs) None) (is_utf8-from_IsUtf8 xs u) ∙ bare_all f q is false xs e

-- either quote
by_quote : (P : ℕ → Type 0) → P 34 → P 39 → (q : ℕ) → is_quote q ≡ true → P q
by_quote P a b q h =
    elim (q == 34) as (λ t. (q == 34) ≡ t → (t || (q == 39)) ≡ true → P q) [
      | true ↦ λ e k. subst P (sym (eqb-true q 34 e)) a
      | false ↦ λ e k. subst P (sym (eqb-true q 39 k)) b
    ] refl h

-- between quotes
pub short_string : (q : ℕ) → is_quote q ≡ true → (x y : List ℕ) → StandsIn q q x y → list_all (is_plain_in q) y ≡ true → IsUtf8 y → IsPlainString x y
short_string =
    by_quote (λ q. (x y : List ℕ) → StandsIn q q x y → list_all (is_plain_in q) y ≡ true → IsUtf8 y → IsPlainString x y)
    (λ x y s e u. record { meant = short_quotes x y s e u; plain = all_plain 34 y e })
    (λ x y s e u. record { meant = short_apostrophes x y s e u; plain = all_plain 39 y e })

-- between three of them
pub long_string : (q : ℕ) → is_quote q ≡ true → (x y z w : List ℕ) → StandsIn q q x y → StandsIn q q y z → StandsIn q q z w → list_all (is_plain_in q) w ≡ true → IsUtf8 w → IsPlainString x w
long_string =
    by_quote (λ q. (x y z w : List ℕ) → StandsIn q q x y → StandsIn q q y z → StandsIn q q z w → list_all (is_plain_in q) w ≡ true → IsUtf8 w → IsPlainString x w)
    (λ x y z w a b d e u. record { meant = long_quotes x w (thrice 34 x y z w a b d) ∙ itself form.StringLiteralLongQuote (is_plain_in 34) (λ c cs h. plain_long 34 c cs h) w e u; plain = all_plain 34 w e })
    (λ x y z w a b d e u. record { meant = long_apostrophes x w (thrice 39 x y z w a b d) ∙ itself form.StringLiteralLongSingleQuote (is_plain_in 39) (λ c cs h. plain_long 39 c cs h) w e u; plain = all_plain 39 w e })

-- and without a backslash
pub bare_string : (q : ℕ) → is_quote q ≡ true → (x y z w : List ℕ) → StandsIn q q x y → StandsIn q q y z → StandsIn q q z w → are_bare q false w ≡ true → IsUtf8 w → string_of x ≡ Some w
bare_string =
    by_quote (λ q. (x y z w : List ℕ) → StandsIn q q x y → StandsIn q q y z → StandsIn q q z w → are_bare q false w ≡ true → IsUtf8 w → string_of x ≡ Some w)
    (λ x y z w a b d e u. long_quotes x w (thrice 34 x y z w a b d) ∙ bare_itself form.StringLiteralLongQuote 34 (λ c cs. refl) w e u)
    (λ x y z w a b d e u. long_apostrophes x w (thrice 39 x y z w a b d) ∙ bare_itself form.StringLiteralLongSingleQuote 39 (λ c cs. refl) w e u)

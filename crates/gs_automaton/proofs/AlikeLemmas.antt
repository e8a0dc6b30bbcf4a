-- Characters between two neighbouring boundaries are alike in every test.
use Rattle.std.proofs.Common.{◌≡◌, ℕ, suc, ◌<◌, ◌≤◌, Bool, true, false, cond, List, [], ◌∷◌, refl, sym, ap, ◌∙◌, subst, arith}
use Rattle.std.proofs.lemmas.Bool.Decides.{nat_tests}
use Rattle.std.proofs.lemmas.Bool.{eqb-true, and_parts}
use Rattle.std.specs.Prelude.{◌==◌, ◌&&◌, ◌||◌, ◌⊎◌, nat_le, nat_lt, not}
use Rattle.std.proofs.Common.{inl, inr}
use Rattle.gs_model.specs.Characters.{Range, in_range, in_ranges, pn_chars_base, pn_chars_u, pn_chars, not_in_iris, is_iri_char}
use Rattle.gs_automaton.specs.Classes as is
use Rattle.gs_automaton.specs.Terminals.{Chars, has_char, Less, Greater, Quote, Apostrophe, Backslash, Colon, Underscore, AtSign, Dash, Dot, Percent, Caret, Semicolon, Comma, OpenBracket, CloseBracket, OpenParenthesis, CloseParenthesis, OpenBrace, CloseBrace, VariableMark, SmallU, BigU, IriChar, ShortQuoteChar, ShortApostropheChar, LongQuoteChar, LongApostropheChar, Echar, Hex, Digit, Sign, ExponentLetter, Alpha, Alphanumeric, Base, NameChar, LabelStart, LocalStart, LocalChar, LocalEscape, VariableChar}

-- the first characters of the classes, and those after the last ones
abbrev pub later_boundaries : List ℕ
later_boundaries = 10 ∷ 11 ∷ 13 ∷ 14 ∷ 33 ∷ 34 ∷ 35 ∷ 36 ∷ 37 ∷ 38 ∷ 39 ∷ 40 ∷ 41 ∷ 42 ∷ 43 ∷ 44 ∷ 45 ∷ 46 ∷ 47 ∷ 48 ∷ 58 ∷ 59 ∷ 60 ∷ 61 ∷ 62 ∷ 63 ∷ 64 ∷ 65 ∷ 69 ∷ 70 ∷ 71 ∷ 85 ∷ 86 ∷ 91 ∷ 92 ∷ 93 ∷ 94 ∷ 95 ∷ 96 ∷ 97 ∷ 98 ∷ 99 ∷ 101 ∷ 102 ∷ 103 ∷ 110 ∷ 111 ∷ 114 ∷ 115 ∷ 116 ∷ 117 ∷ 118 ∷ 123 ∷ 124 ∷ 125 ∷ 126 ∷ 127 ∷ 183 ∷ 184 ∷ 192 ∷ 215 ∷ 216 ∷ 247 ∷ 248 ∷ 768 ∷ 880 ∷ 894 ∷ 895 ∷ 8192 ∷ 8204 ∷ 8206 ∷ 8255 ∷ 8257 ∷ 8304 ∷ 8592 ∷ 11264 ∷ 12272 ∷ 12289 ∷ 55296 ∷ 63744 ∷ 64976 ∷ 65008 ∷ 65534 ∷ 65536 ∷ 983040 ∷ []

abbrev pub boundaries : List ℕ
boundaries = 0 ∷ later_boundaries

pub data In (x : ℕ) : List ℕ → Type 0 where
  here : {xs : List ℕ} → In x (x ∷ xs)
  there : {y : ℕ} {xs : List ℕ} → In x xs → In x (y ∷ xs)

-- the last boundary that is not above c
abbrev pub last_from : List ℕ → ℕ → ℕ → ℕ
last_from [] c best = best
last_from (b ∷ bs) c best = cond (nat_le b c) (last_from bs c b) best

abbrev pub rises : ℕ → List ℕ → Bool
rises a [] = true
rises a (b ∷ bs) = nat_lt a b && rises b bs

abbrev pub sample : ℕ → ℕ
sample c = last_from later_boundaries c 0

either : (b c : ℕ) → ((b ≤ c) × (nat_le b c ≡ true)) ⊎ ((c < b) × (nat_le b c ≡ false))
either b c = grind (arith, nat_tests)

less : (a b : ℕ) → nat_lt a b ≡ true → a < b
less a b h = grind (arith, nat_tests)

last_in : (bs : List ℕ) (c best : ℕ) → In (last_from bs c best) (best ∷ bs)
last_in [] c best = here
last_in (b ∷ bs) c best = elim (either b c) [
  | inl p ↦ subst (λ t. In (cond t (last_from bs c b) best) (best ∷ b ∷ bs)) (sym p.1) (there (last_in bs c b))
  | inr p ↦ subst (λ t. In (cond t (last_from bs c b) best) (best ∷ b ∷ bs)) (sym p.1) here
]

pub sample-in : (c : ℕ) → In (sample c) boundaries
sample-in c = last_in later_boundaries c 0

last_most : (bs : List ℕ) (c best : ℕ) → best ≤ c → last_from bs c best ≤ c
last_most [] c best h = h
last_most (b ∷ bs) c best h = elim (either b c) [
  | inl p ↦ subst (λ t. cond t (last_from bs c b) best ≤ c) (sym p.1) (last_most bs c b p.0)
  | inr p ↦ subst (λ t. cond t (last_from bs c b) best ≤ c) (sym p.1) h
]

last_least : (bs : List ℕ) (c best : ℕ) → rises best bs ≡ true → best ≤ last_from bs c best
last_least [] c best h = omega arith
last_least (b ∷ bs) c best h =
    let r = and_parts (nat_lt best b) (rises b bs) h in
    let l = less best b r.0 in
    elim (either b c) [
      | inl p ↦ subst (λ t. best ≤ cond t (last_from bs c b) best) (sym p.1) (let k = last_least bs c b r.1 in omega (arith, l, k))
      | inr p ↦ subst (λ t. best ≤ cond t (last_from bs c b) best) (sym p.1) (omega arith)
    ]

above : (x best : ℕ) (bs : List ℕ) → rises best bs ≡ true → In x bs → best < x
above x best _ h (here {xs = xs}) = less best x (and_parts (nat_lt best x) (rises x xs) h).0
above x best _ h (there {y = y} {xs = xs} i) =
    let r = and_parts (nat_lt best y) (rises y xs) h in
    let l = less best y r.0 in
    let k = above x y xs r.1 i in
    omega (arith, l, k)

above_least : (x b : ℕ) (bs : List ℕ) → rises b bs ≡ true → In x (b ∷ bs) → b ≤ x
above_least x _ bs h here = omega arith
above_least x b bs h (there i) = let k = above x b bs h i in omega (arith, k)

last_up : (c x best : ℕ) (bs : List ℕ) → rises best bs ≡ true → In x (best ∷ bs) → x ≤ c → x ≤ last_from bs c best
last_up c x _ bs h here k = last_least bs c x h
last_up c x best [] h (there i) k = elim i [ ]
last_up c x best (b ∷ bs) h (there i) k =
    let r = and_parts (nat_lt best b) (rises b bs) h in
    elim (either b c) [
      | inl p ↦ subst (λ t. x ≤ cond t (last_from bs c b) best) (sym p.1) (last_up c x b bs r.1 i k)
      | inr p ↦ let l = above_least x b bs r.1 i in absurd (omega (arith, l, p.0, k))
    ]

pub record Alike (c d : ℕ) : Type 0 where
  pub up : (b : ℕ) → In b boundaries → b ≤ c → b ≤ d
  pub down : (b : ℕ) → In b boundaries → b ≤ d → b ≤ c

-- each character is like the boundary below it
pub alike-sample : (c : ℕ) → Alike c (sample c)
alike-sample c = record {
  up = λ b i h. last_up c b 0 later_boundaries refl i h;
  down = λ b i h. let k = last_most later_boundaries c 0 (omega arith) in omega (arith, k, h);
}

abbrev pub member : ℕ → List ℕ → Bool
member x [] = false
member x (y ∷ ys) = (x == y) || member x ys

member_case : (x y : ℕ) (ys : List ℕ) (t : Bool) → (x == y) ≡ t → (t || member x ys) ≡ true → (member x ys ≡ true → In x ys) → In x (y ∷ ys)
member_case x y ys true e k f = subst (λ z. In x (z ∷ ys)) (eqb-true x y e) here
member_case x y ys false e k f = there (f k)

member_in : (x : ℕ) (ys : List ℕ) → member x ys ≡ true → In x ys
member_in x [] h = Prim.cc h
member_in x (y ∷ ys) h = member_case x y ys (x == y) refl h (member_in x ys)

pub le-alike : (c d n : ℕ) → Alike c d → member n boundaries ≡ true → nat_le n c ≡ nat_le n d
le-alike c d n h m =
    let u : n ≤ c → n ≤ d = h.up n (member_in n boundaries m) in
    let w : n ≤ d → n ≤ c = h.down n (member_in n boundaries m) in
    elim (either n c) [
      | inl p ↦ elim (either n d) [ inl q ↦ p.1 ∙ sym q.1 | inr q ↦ absurd (omega (arith, u p.0, q.0)) ]
      | inr p ↦ elim (either n d) [ inl q ↦ absurd (omega (arith, w q.0, p.0)) | inr q ↦ p.1 ∙ sym q.1 ]
    ]

le_not : (c n : ℕ) → nat_le c n ≡ not (nat_le (suc n) c)
le_not c n = grind (arith, nat_tests)

eq_not : (c n : ℕ) → (c == n) ≡ (nat_le n c && not (nat_le (suc n) c))
eq_not c n = grind (arith, nat_tests)

pub ge-alike : (c d n : ℕ) → Alike c d → member (suc n) boundaries ≡ true → nat_le c n ≡ nat_le d n
ge-alike c d n h m = le_not c n ∙ ap not (le-alike c d (suc n) h m) ∙ sym (le_not d n)

pub eq-alike : (c d n : ℕ) → Alike c d → (member n boundaries && member (suc n) boundaries) ≡ true → (c == n) ≡ (d == n)
eq-alike c d n h m =
    let p = and_parts (member n boundaries) (member (suc n) boundaries) m in
    eq_not c n ∙ ap (λ t. t && not (nat_le (suc n) c)) (le-alike c d n h p.0) ∙ ap (λ t. nat_le n d && not t) (le-alike c d (suc n) h p.1) ∙ sym (eq_not d n)

pub range-alike : (c d a b : ℕ) → Alike c d → (member a boundaries && member (suc b) boundaries) ≡ true → (nat_le a c && nat_le c b) ≡ (nat_le a d && nat_le d b)
range-alike c d a b h m =
    let p = and_parts (member a boundaries) (member (suc b) boundaries) m in
    ap (λ t. t && nat_le c b) (le-alike c d a h p.0) ∙ ap (λ t. nat_le a d && t) (ge-alike c d b h p.1)

abbrev pub bounded : List Range → Bool
bounded [] = true
bounded (r ∷ rs) = (member r.0 boundaries && member (suc r.1) boundaries) && bounded rs

pub ranges-alike : (c d : ℕ) (rs : List Range) → Alike c d → bounded rs ≡ true → in_ranges rs c ≡ in_ranges rs d
ranges-alike c d [] h m = refl
ranges-alike c d (r ∷ rs) h m =
    let p = and_parts (member r.0 boundaries && member (suc r.1) boundaries) (bounded rs) m in
    ap (λ t. t || in_ranges rs c) (range-alike c d r.0 r.1 h p.0) ∙ ap (λ t. in_range r d || t) (ranges-alike c d rs h p.1)

pub is_line_end-alike : (c d : ℕ) → Alike c d → is.is_line_end c ≡ is.is_line_end d
is_line_end-alike c d h = Prim.cc (eq-alike c d 10 h refl, eq-alike c d 13 h refl)

pub is_digit-alike : (c d : ℕ) → Alike c d → is.is_digit c ≡ is.is_digit d
is_digit-alike c d h = Prim.cc (range-alike c d 48 57 h refl)

pub is_sign-alike : (c d : ℕ) → Alike c d → is.is_sign c ≡ is.is_sign d
is_sign-alike c d h = Prim.cc (eq-alike c d 43 h refl, eq-alike c d 45 h refl)

pub is_exponent-alike : (c d : ℕ) → Alike c d → is.is_exponent c ≡ is.is_exponent d
is_exponent-alike c d h = Prim.cc (eq-alike c d 101 h refl, eq-alike c d 69 h refl)

pub is_alpha-alike : (c d : ℕ) → Alike c d → is.is_alpha c ≡ is.is_alpha d
is_alpha-alike c d h = Prim.cc (range-alike c d 65 90 h refl, range-alike c d 97 122 h refl)

pub is_alphanumeric-alike : (c d : ℕ) → Alike c d → is.is_alphanumeric c ≡ is.is_alphanumeric d
is_alphanumeric-alike c d h = Prim.cc (range-alike c d 65 90 h refl, range-alike c d 97 122 h refl, range-alike c d 48 57 h refl)

pub is_hex-alike : (c d : ℕ) → Alike c d → is.is_hex c ≡ is.is_hex d
is_hex-alike c d h = Prim.cc (range-alike c d 48 57 h refl, range-alike c d 65 70 h refl, range-alike c d 97 102 h refl)

pub is_echar-alike : (c d : ℕ) → Alike c d → is.is_echar c ≡ is.is_echar d
is_echar-alike c d h = Prim.cc (eq-alike c d 116 h refl, eq-alike c d 98 h refl, eq-alike c d 110 h refl, eq-alike c d 114 h refl, eq-alike c d 102 h refl, eq-alike c d 34 h refl, eq-alike c d 39 h refl, eq-alike c d 92 h refl)

pub is_local_escape-alike : (c d : ℕ) → Alike c d → is.is_local_escape c ≡ is.is_local_escape d
is_local_escape-alike c d h = Prim.cc (eq-alike c d 95 h refl, eq-alike c d 126 h refl, eq-alike c d 46 h refl, eq-alike c d 45 h refl, eq-alike c d 33 h refl, eq-alike c d 36 h refl, eq-alike c d 38 h refl, eq-alike c d 39 h refl, eq-alike c d 40 h refl, eq-alike c d 41 h refl, eq-alike c d 42 h refl, eq-alike c d 43 h refl, eq-alike c d 44 h refl, eq-alike c d 59 h refl, eq-alike c d 61 h refl, eq-alike c d 47 h refl, eq-alike c d 63 h refl, eq-alike c d 35 h refl, eq-alike c d 64 h refl, eq-alike c d 37 h refl)

pub is_prefix_start-alike : (c d : ℕ) → Alike c d → is.is_prefix_start c ≡ is.is_prefix_start d
is_prefix_start-alike c d h = Prim.cc (ranges-alike c d pn_chars_base h refl)

pub is_name_char-alike : (c d : ℕ) → Alike c d → is.is_name_char c ≡ is.is_name_char d
is_name_char-alike c d h = Prim.cc (ranges-alike c d pn_chars h refl)

pub is_label_start-alike : (c d : ℕ) → Alike c d → is.is_label_start c ≡ is.is_label_start d
is_label_start-alike c d h = Prim.cc (ranges-alike c d pn_chars_u h refl, range-alike c d 48 57 h refl)

pub is_local_start-alike : (c d : ℕ) → Alike c d → is.is_local_start c ≡ is.is_local_start d
is_local_start-alike c d h = Prim.cc (ranges-alike c d pn_chars_u h refl, eq-alike c d 58 h refl, range-alike c d 48 57 h refl)

pub is_local-alike : (c d : ℕ) → Alike c d → is.is_local c ≡ is.is_local d
is_local-alike c d h = Prim.cc (ranges-alike c d pn_chars h refl, eq-alike c d 58 h refl)

pub is_variable-alike : (c d : ℕ) → Alike c d → is.is_variable c ≡ is.is_variable d
is_variable-alike c d h = Prim.cc (ranges-alike c d pn_chars_u h refl, range-alike c d 48 57 h refl, eq-alike c d 183 h refl, range-alike c d 768 879 h refl, range-alike c d 8255 8256 h refl)

pub iri-alike : (c d : ℕ) → Alike c d → is_iri_char c ≡ is_iri_char d
iri-alike c d h = ap not (ranges-alike c d not_in_iris h refl)

pub has_char-alike : (c d : ℕ) → Alike c d → (s : Chars) → has_char s c ≡ has_char s d
has_char-alike c d h Less = Prim.cc (eq-alike c d 60 h refl)
has_char-alike c d h Greater = Prim.cc (eq-alike c d 62 h refl)
has_char-alike c d h Quote = Prim.cc (eq-alike c d 34 h refl)
has_char-alike c d h Apostrophe = Prim.cc (eq-alike c d 39 h refl)
has_char-alike c d h Backslash = Prim.cc (eq-alike c d 92 h refl)
has_char-alike c d h Colon = Prim.cc (eq-alike c d 58 h refl)
has_char-alike c d h Underscore = Prim.cc (eq-alike c d 95 h refl)
has_char-alike c d h AtSign = Prim.cc (eq-alike c d 64 h refl)
has_char-alike c d h Dash = Prim.cc (eq-alike c d 45 h refl)
has_char-alike c d h Dot = Prim.cc (eq-alike c d 46 h refl)
has_char-alike c d h Percent = Prim.cc (eq-alike c d 37 h refl)
has_char-alike c d h Caret = Prim.cc (eq-alike c d 94 h refl)
has_char-alike c d h Semicolon = Prim.cc (eq-alike c d 59 h refl)
has_char-alike c d h Comma = Prim.cc (eq-alike c d 44 h refl)
has_char-alike c d h OpenBracket = Prim.cc (eq-alike c d 91 h refl)
has_char-alike c d h CloseBracket = Prim.cc (eq-alike c d 93 h refl)
has_char-alike c d h OpenParenthesis = Prim.cc (eq-alike c d 40 h refl)
has_char-alike c d h CloseParenthesis = Prim.cc (eq-alike c d 41 h refl)
has_char-alike c d h OpenBrace = Prim.cc (eq-alike c d 123 h refl)
has_char-alike c d h CloseBrace = Prim.cc (eq-alike c d 125 h refl)
has_char-alike c d h VariableMark = Prim.cc (eq-alike c d 63 h refl, eq-alike c d 36 h refl)
has_char-alike c d h SmallU = Prim.cc (eq-alike c d 117 h refl)
has_char-alike c d h BigU = Prim.cc (eq-alike c d 85 h refl)
has_char-alike c d h IriChar = Prim.cc (iri-alike c d h)
has_char-alike c d h ShortQuoteChar = Prim.cc (is_line_end-alike c d h, eq-alike c d 34 h refl, eq-alike c d 92 h refl)
has_char-alike c d h ShortApostropheChar = Prim.cc (is_line_end-alike c d h, eq-alike c d 39 h refl, eq-alike c d 92 h refl)
has_char-alike c d h LongQuoteChar = Prim.cc (eq-alike c d 34 h refl, eq-alike c d 92 h refl)
has_char-alike c d h LongApostropheChar = Prim.cc (eq-alike c d 39 h refl, eq-alike c d 92 h refl)
has_char-alike c d h Echar = Prim.cc (is_echar-alike c d h)
has_char-alike c d h Hex = Prim.cc (is_hex-alike c d h)
has_char-alike c d h Digit = Prim.cc (is_digit-alike c d h)
has_char-alike c d h Sign = Prim.cc (is_sign-alike c d h)
has_char-alike c d h ExponentLetter = Prim.cc (is_exponent-alike c d h)
has_char-alike c d h Alpha = Prim.cc (is_alpha-alike c d h)
has_char-alike c d h Alphanumeric = Prim.cc (is_alphanumeric-alike c d h)
has_char-alike c d h Base = Prim.cc (is_prefix_start-alike c d h)
has_char-alike c d h NameChar = Prim.cc (is_name_char-alike c d h)
has_char-alike c d h LabelStart = Prim.cc (is_label_start-alike c d h)
has_char-alike c d h LocalStart = Prim.cc (is_local_start-alike c d h)
has_char-alike c d h LocalChar = Prim.cc (is_local-alike c d h)
has_char-alike c d h LocalEscape = Prim.cc (is_local_escape-alike c d h)
has_char-alike c d h VariableChar = Prim.cc (is_variable-alike c d h)

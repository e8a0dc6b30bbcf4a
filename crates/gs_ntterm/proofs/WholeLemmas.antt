-- Tokens that stand whole at the front of a piece are texts of terms.
use Rattle.std.proofs.Common.{◌≡◌, ℕ, zero, suc, ◌+◌, ◌<◌, ◌≤◌, Bool, true, false, cond, List, [], ◌∷◌, ◌++◌, length, take, drop, get_or, refl, sym, ap, ap₂, ◌∙◌, subst, arith, append_assoc, length-drop, drop-cons, Ok, Err}
use Rattle.std.specs.Prelude.{◌==◌, ◌&&◌, ◌||◌, nat_lt, nat_le, slice_index}
use Rattle.std.specs.List.{list_all}
use Rattle.std.specs.Str.{IsUtf8, bytes_eq}
use Rattle.std.proofs.lemmas.Str.{IsUtf8-from_ascii}
use Rattle.std.proofs.lemmas.List.{take_more, length-take-le}
use Rattle.std.proofs.lemmas.Bool.{and_parts}
use Rattle.std.proofs.lemmas.Bool.Decides.{nat_tests}
use Rattle.std.proofs.Math.Seq.{take-add}
use Rattle.gs_model.specs.Characters.{quote, is_lower, is_digit, is_iri_char}
use Rattle.gs_model.specs.Escapes.{is_string_char}
use Rattle.gs_model.specs.Iris.{is_absolute, is_letter, is_scheme_char, is_scheme_rest}
use Rattle.gs_model.specs.Limits.{max_term_bytes}
use Rattle.gs_model.specs.Terms.{Term, Iri, Literal, LiteralKind, Typed, Tagged, xsd_string, text_of, suffix, escaped, escape_of, is_kind, is_term, IsKindText, is_tag, is_tag_rest}
use Rattle.gs_model.specs.Texts.{front, term_of, IsCanonical}
use Rattle.gs_model.specs.declared.faults.Fault.TheVariants as fault
use Rattle.gs_model.proofs.TextLemmas.{front-snoc, same_text}
use Rattle.std.proofs.lemmas.Slice.Eq.{bytes_eq-Decides}
use Rattle.gs_term.specs.Making.{made}
use Rattle.gs_term.proofs.MakingLemmas.{canonical, term_of-bytes, suffix_plain, suffix_other, suffix_tag}
use Rattle.gs_ntterm.specs.Runs.{runs_in_iri, runs_in_string}
use Rattle.gs_ntterm.specs.Wholes.{IriFront, IsIriFront, StringFront, DatatypeFront, TagFront, IsLiteralFront, IsLiteralText, string_suffix, SaysSuffix, none, datatype, tag}
use Rattle.gs_ntterm.proofs.RunLemmas.{low_iri, low_string}

-- text between two marks
pub marked : (a z : ℕ) (x : List ℕ) (n : ℕ) → 0 < length x → get_or x 0 0 ≡ a → n < length (drop 1 x) → get_or (drop 1 x) n 0 ≡ z → take (n + 2) x ≡ a ∷ take n (drop 1 x) ++ z ∷ []
marked a z [] n l e h f = absurd (omega arith)
marked a z (b ∷ bs) n l e h f =
    let k : n + 2 ≡ suc (n + 1) = omega arith in
    ap (λ m. take m (b ∷ bs)) k ∙ ap (λ r. b ∷ r) (take_more bs n 0 h) ∙ ap₂ (λ x y. x ∷ take n bs ++ y ∷ []) e f

-- runs are ASCII
pub ascii_by : (p : ℕ → Bool) → ((b : ℕ) → p b ≡ true → b < 128) → (xs : List ℕ) → list_all p xs ≡ true → (i : ℕ) → slice_index xs i < 128
ascii_by p low [] e i = omega arith
ascii_by p low (b ∷ bs) e zero = low b (and_parts (p b) (list_all p bs) e).0
ascii_by p low (b ∷ bs) e (suc i) = ascii_by p low bs (and_parts (p b) (list_all p bs) e).1 i

pub iri_text : (xs : List ℕ) → list_all runs_in_iri xs ≡ true → IsUtf8 xs
iri_text xs e = IsUtf8-from_ascii xs (ascii_by runs_in_iri low_iri xs e)

pub string_text : (xs : List ℕ) → list_all runs_in_string xs ≡ true → IsUtf8 xs
string_text xs e = IsUtf8-from_ascii xs (ascii_by runs_in_string low_string xs e)

-- all are characters of an IRI
pub iri_characters : (xs : List ℕ) → list_all runs_in_iri xs ≡ true → list_all is_iri_char xs ≡ true
iri_characters [] e = refl
iri_characters (b ∷ bs) e =
    let k = and_parts (runs_in_iri b) (list_all runs_in_iri bs) e in
    ap₂ (λ u v. u && v) (and_parts (nat_lt b 123) (is_iri_char b) k.0).1 (iri_characters bs k.1)

-- none is escaped
itself : (b : ℕ) → runs_in_string b ≡ true → escape_of b ≡ b ∷ []
itself b k = let e = (and_parts (nat_lt b 128) (is_string_char quote b) k).1 in grind (arith, nat_tests)

pub unescaped : (xs : List ℕ) → list_all runs_in_string xs ≡ true → escaped xs ≡ xs
unescaped [] e = refl
unescaped (b ∷ bs) e =
    let k = and_parts (runs_in_string b) (list_all runs_in_string bs) e in
    ap₂ (λ x y. x ++ y) (itself b k.0) (unescaped bs k.1)

-- a string, and what stands after it
after_string : (x lexical after : List ℕ) (q n : ℕ) → take q x ≡ 34 ∷ lexical ++ 34 ∷ [] → take n (drop q x) ≡ after → take (q + n) x ≡ 34 ∷ lexical ++ 34 ∷ after
after_string x lexical after q n e f = take-add q n x ∙ ap₂ (λ u v. u ++ v) e f ∙ ap (λ z. 34 ∷ z) (append_assoc lexical (34 ∷ []) after)

unmarked : (d e : List ℕ) → 94 ∷ 94 ∷ 60 ∷ d ++ 62 ∷ [] ≡ 94 ∷ 94 ∷ 60 ∷ e ++ 62 ∷ [] → d ≡ e
unmarked d e h = sym (front-snoc d 62) ∙ ap (λ z. front (drop 3 z)) h ∙ front-snoc e 62

other_name : (d : List ℕ) → bytes_eq (94 ∷ 94 ∷ 60 ∷ d ++ 62 ∷ []) string_suffix ≡ false → false ≡ bytes_eq d xsd_string
other_name d e = by_iri (bytes_eq d xsd_string) refl
  where
    by_iri : (b : Bool) → bytes_eq d xsd_string ≡ b → false ≡ b
    by_iri false h = refl
    by_iri true h = sym e ∙ ap (λ z. bytes_eq (94 ∷ 94 ∷ 60 ∷ z ++ 62 ∷ []) string_suffix) (same_text d xsd_string h)

-- the text of a literal with nothing to escape
text_is : (lexical after : List ℕ) (k : LiteralKind) → list_all runs_in_string lexical ≡ true → suffix k ≡ after → 34 ∷ lexical ++ 34 ∷ after ≡ text_of (Literal lexical k)
text_is lexical after k p e = sym (ap₂ (λ u v. 34 ∷ u ++ 34 ∷ v) (unescaped lexical p) e)

made_is : (t : Term) → is_term t ≡ true → length (text_of t) ≤ max_term_bytes → made t ≡ Ok t
made_is t f s =
    let l : nat_le (length (text_of t)) max_term_bytes ≡ true = grind (arith, nat_tests) in
    ap (λ b. cond b (cond (nat_le (length (text_of t)) max_term_bytes) (Ok t) (Err fault.TermTooLong)) (Err fault.Syntax)) f
    ∙ ap (λ b. cond b (Ok t) (Err fault.TermTooLong)) l

-- an IRI
pub iri_front : (x : List ℕ) (n : ℕ) → 0 < length x → get_or x 0 0 ≡ 60 → n < length (drop 1 x) → get_or (drop 1 x) n 0 ≡ 62 → list_all runs_in_iri (take n (drop 1 x)) ≡ true
    → is_absolute (take n (drop 1 x)) ≡ true → n ≤ 65533 → IriFront x (n + 2)
iri_front x n l e h f p a s =
    let iri = take n (drop 1 x) in
    let is : take (n + 2) x ≡ text_of (Iri iri) = marked 60 62 x n l e h f in
    let within : n + 2 ≤ length x = omega (arith, length-drop 1 x) in
    let size : length (text_of (Iri iri)) ≤ max_term_bytes = omega (arith, ap length is, length-take-le (n + 2) x within) in
    record { iri = iri; stands = is; plain = p; absolute = a; made = made_is (Iri iri) a size; short = omega arith; within = within }

pub iri_canonical : (x : List ℕ) (n : ℕ) → IriFront x n → IsCanonical (take n x)
iri_canonical x n f = canonical (Iri f.iri) (take n x) f.stands f.absolute (iri_text f.iri f.plain) (omega (arith, f.short, length-take-le n x f.within))

pub is_iri_front : (x : List ℕ) (n : ℕ) (t : Term) → IriFront x n → t ≡ term_of (take n x) → IsIriFront x n t
is_iri_front x n t f e = record { front = f; term = e ∙ term_of-bytes (Iri f.iri) (take n x) f.stands }

-- the datatype that a text leaves out, with its marks
pub same_suffix : (d : List ℕ) → bytes_eq (94 ∷ 94 ∷ 60 ∷ d ++ 62 ∷ []) string_suffix ≡ bytes_eq d xsd_string
same_suffix d = by_name (bytes_eq (94 ∷ 94 ∷ 60 ∷ d ++ 62 ∷ []) string_suffix) refl
  where
    by_name : (b : Bool) → bytes_eq (94 ∷ 94 ∷ 60 ∷ d ++ 62 ∷ []) string_suffix ≡ b → b ≡ bytes_eq d xsd_string
    by_name true e = sym ((bytes_eq-Decides d xsd_string).1 (unmarked d xsd_string (same_text (94 ∷ 94 ∷ 60 ∷ d ++ 62 ∷ []) string_suffix e)))
    by_name false e = other_name d e

-- a literal whose text is the first m bytes, of n that are read
module _ (x lexical after : List ℕ) (k : LiteralKind) (n m : ℕ) (stands : take n x ≡ 34 ∷ lexical ++ 34 ∷ after) (plain : list_all runs_in_string lexical ≡ true) (says : SaysSuffix after k)
    (kind : is_kind k ≡ true) (spelled : IsKindText k) (short : n ≤ max_term_bytes) (within : n ≤ length x) (is : take m x ≡ text_of (Literal lexical k)) (less : m ≤ n) where
  small : length (take m x) ≤ max_term_bytes
  small = omega (arith, length-take-le m x (omega arith))

  pub literal_canonical : IsCanonical (take m x)
  literal_canonical = canonical (Literal lexical k) (take m x) is kind (string_text lexical plain, spelled) small

  pub literal_front : (t : Term) → t ≡ term_of (take m x) → IsLiteralFront x n t
  literal_front t e = record {
    lexical = lexical;
    after = after;
    kind = k;
    term = e ∙ term_of-bytes (Literal lexical k) (take m x) is;
    stands = stands;
    plain = plain;
    says = says;
    made = made_is (Literal lexical k) kind (subst (λ (bs : List ℕ). length bs ≤ max_term_bytes) is small);
    short = short;
    within = within;
  }

-- without a suffix
pub plain_text : (x : List ℕ) (q : ℕ) → (f : StringFront x q) → take q x ≡ text_of (Literal f.lexical (Typed xsd_string))
plain_text x q f = f.stands ∙ text_is f.lexical [] (Typed xsd_string) f.plain (suffix_plain xsd_string refl)

-- with a datatype
pub typed_text : (x : List ℕ) (q n : ℕ) (f : StringFront x q) (d : DatatypeFront (drop q x) n) → false ≡ bytes_eq (take n (drop q x)) string_suffix
    → take (q + n) x ≡ text_of (Literal f.lexical (Typed d.iri))
typed_text x q n f d e =
    let other : false ≡ bytes_eq d.iri xsd_string = e ∙ ap (λ z. bytes_eq z string_suffix) d.stands ∙ same_suffix d.iri in
    after_string x f.lexical _ q n f.stands d.stands ∙ text_is f.lexical _ (Typed d.iri) f.plain (suffix_other d.iri other)

pub string_datatype : (x : List ℕ) (q n : ℕ) (f : StringFront x q) (d : DatatypeFront (drop q x) n) → true ≡ bytes_eq (take n (drop q x)) string_suffix
    → take q x ≡ text_of (Literal f.lexical (Typed d.iri))
string_datatype x q n f d e =
    let same : true ≡ bytes_eq d.iri xsd_string = e ∙ ap (λ z. bytes_eq z string_suffix) d.stands ∙ same_suffix d.iri in
    f.stands ∙ text_is f.lexical [] (Typed d.iri) f.plain (suffix_plain d.iri same)

pub typed_stands : (x : List ℕ) (q n : ℕ) (f : StringFront x q) (d : DatatypeFront (drop q x) n) → take (q + n) x ≡ 34 ∷ f.lexical ++ 34 ∷ (94 ∷ 94 ∷ 60 ∷ d.iri ++ 62 ∷ [])
typed_stands x q n f d = after_string x f.lexical _ q n f.stands d.stands

-- with a tag
tag_rest : (t : List ℕ) → list_all is_lower t ≡ true → is_tag_rest false true t ≡ true
tag_rest [] e = refl
tag_rest (c ∷ cs) e =
    let k = and_parts (is_lower c) (list_all is_lower cs) e in
    ap (λ b. cond (b || (false && is_digit c)) (is_tag_rest false true cs) (((c == 45) && true) && is_tag_rest true false cs)) k.0 ∙ tag_rest cs k.1

pub tag_formed : (t : List ℕ) → list_all is_lower t ≡ true → 0 < length t → is_tag t ≡ true
tag_formed [] e l = absurd (omega arith)
tag_formed (c ∷ cs) e l =
    let k = and_parts (is_lower c) (list_all is_lower cs) e in
    ap (λ b. cond (b || (false && is_digit c)) (is_tag_rest false true cs) (((c == 45) && false) && is_tag_rest true false cs)) k.0 ∙ tag_rest cs k.1

pub tagged_text : (x : List ℕ) (q n : ℕ) (f : StringFront x q) (d : TagFront (drop q x) n) → take (q + n) x ≡ text_of (Literal f.lexical (Tagged d.tag))
tagged_text x q n f d = after_string x f.lexical _ q n f.stands d.stands ∙ text_is f.lexical _ (Tagged d.tag) f.plain (suffix_tag d.tag)

pub tagged_stands : (x : List ℕ) (q n : ℕ) (f : StringFront x q) (d : TagFront (drop q x) n) → take (q + n) x ≡ 34 ∷ f.lexical ++ 34 ∷ 64 ∷ d.tag
tagged_stands x q n f d = after_string x f.lexical _ q n f.stands d.stands

-- each kind of literal, whose text is canonical
module _ (x : List ℕ) (q : ℕ) (f : StringFront x q) where
  pub plain_both : q ≤ max_term_bytes → IsCanonical (take q x) × ((t : Term) → t ≡ term_of (take q x) → IsLiteralFront x q t)
  plain_both s =
      let le : q ≤ q = omega arith in (
        literal_canonical x f.lexical [] (Typed xsd_string) q q f.stands f.plain none refl (iri_text xsd_string refl) s f.within (plain_text x q f) le,
        literal_front x f.lexical [] (Typed xsd_string) q q f.stands f.plain none refl (iri_text xsd_string refl) s f.within (plain_text x q f) le,
      )

  pub room : (n : ℕ) → n ≤ length (drop q x) → q + n ≤ length x
  room n h = omega (arith, f.within, length-drop q x)

  typed_both : (n : ℕ) (d : DatatypeFront (drop q x) n) → q + n ≤ max_term_bytes → false ≡ bytes_eq (take n (drop q x)) string_suffix
      → IsCanonical (take (q + n) x) × ((t : Term) → t ≡ term_of (take (q + n) x) → IsLiteralFront x (q + n) t)
  typed_both n d s e =
      let le : q + n ≤ q + n = omega arith in
      let after = 94 ∷ 94 ∷ 60 ∷ d.iri ++ 62 ∷ [] in (
        literal_canonical x f.lexical after (Typed d.iri) (q + n) (q + n) (typed_stands x q n f d) f.plain (datatype d.iri d.plain) d.absolute (iri_text d.iri d.plain) s (room n d.within) (typed_text x q n f d e) le,
        literal_front x f.lexical after (Typed d.iri) (q + n) (q + n) (typed_stands x q n f d) f.plain (datatype d.iri d.plain) d.absolute (iri_text d.iri d.plain) s (room n d.within) (typed_text x q n f d e) le,
      )

  string_both : (n : ℕ) (d : DatatypeFront (drop q x) n) → q + n ≤ max_term_bytes → true ≡ bytes_eq (take n (drop q x)) string_suffix
      → IsCanonical (take q x) × ((t : Term) → t ≡ term_of (take q x) → IsLiteralFront x (q + n) t)
  string_both n d s e =
      let le : q ≤ q + n = omega arith in
      let after = 94 ∷ 94 ∷ 60 ∷ d.iri ++ 62 ∷ [] in (
        literal_canonical x f.lexical after (Typed d.iri) (q + n) q (typed_stands x q n f d) f.plain (datatype d.iri d.plain) d.absolute (iri_text d.iri d.plain) s (room n d.within) (string_datatype x q n f d e) le,
        literal_front x f.lexical after (Typed d.iri) (q + n) q (typed_stands x q n f d) f.plain (datatype d.iri d.plain) d.absolute (iri_text d.iri d.plain) s (room n d.within) (string_datatype x q n f d e) le,
      )

  pub datatype_both : (n m : ℕ) (d : DatatypeFront (drop q x) n) → q + n ≤ max_term_bytes → m ≡ cond (bytes_eq (take n (drop q x)) string_suffix) q (q + n)
      → IsCanonical (take m x) × ((t : Term) → t ≡ term_of (take m x) → IsLiteralFront x (q + n) t)
  datatype_both n m d s e = by_name (bytes_eq (take n (drop q x)) string_suffix) refl e
    where
      by_name : (b : Bool) → b ≡ bytes_eq (take n (drop q x)) string_suffix → m ≡ cond b q (q + n) → IsCanonical (take m x) × ((t : Term) → t ≡ term_of (take m x) → IsLiteralFront x (q + n) t)
      by_name true h k = subst (λ (j : ℕ). IsCanonical (take j x) × ((t : Term) → t ≡ term_of (take j x) → IsLiteralFront x (q + n) t)) (sym k) (string_both n d s h)
      by_name false h k = subst (λ (j : ℕ). IsCanonical (take j x) × ((t : Term) → t ≡ term_of (take j x) → IsLiteralFront x (q + n) t)) (sym k) (typed_both n d s h)

  pub datatype_within : (n m : ℕ) → DatatypeFront (drop q x) n → m ≡ cond (bytes_eq (take n (drop q x)) string_suffix) q (q + n) → m ≤ length x
  datatype_within n m d e = by_name (bytes_eq (take n (drop q x)) string_suffix) e
    where
      by_name : (b : Bool) → m ≡ cond b q (q + n) → m ≤ length x
      by_name true k = omega (arith, k, f.within)
      by_name false k = omega (arith, k, room n d.within)

  pub tagged_both : (n : ℕ) (d : TagFront (drop q x) n) → q + n ≤ max_term_bytes
      → IsCanonical (take (q + n) x) × ((t : Term) → t ≡ term_of (take (q + n) x) → IsLiteralFront x (q + n) t)
  tagged_both n d s =
      let le : q + n ≤ q + n = omega arith in (
        literal_canonical x f.lexical (64 ∷ d.tag) (Tagged d.tag) (q + n) (q + n) (tagged_stands x q n f d) f.plain (tag d.tag d.plain d.some) (tag_formed d.tag d.plain d.some) tt s (room n d.within) (tagged_text x q n f d) le,
        literal_front x f.lexical (64 ∷ d.tag) (Tagged d.tag) (q + n) (q + n) (tagged_stands x q n f d) f.plain (tag d.tag d.plain d.some) (tag_formed d.tag d.plain d.some) tt s (room n d.within) (tagged_text x q n f d) le,
      )

-- the text of a literal with its token
pub literal_text : (x : List ℕ) (m n : ℕ) → m ≤ length x → IsCanonical (take m x) × ((t : Term) → t ≡ term_of (take m x) → IsLiteralFront x n t) → IsLiteralText x m n
literal_text x m n h b = record { canonical = b.0; front = b.1 (term_of (take m x)) refl; within = h }

-- an absolute IRI by its scheme
pub absolute_at : (x : List ℕ) → 0 < length x → is_absolute x ≡ (is_letter (get_or x 0 0) && is_scheme_rest (drop 1 x))
absolute_at [] l = absurd (omega arith)
absolute_at (c ∷ cs) l = refl

scheme_no_colon : (c : ℕ) → is_scheme_char c ≡ true → (c == 58) ≡ false
scheme_no_colon c e = grind (arith, nat_tests)

pub rest_on : (x : List ℕ) (i : ℕ) → i < length x → is_scheme_char (get_or x i 0) ≡ true → is_scheme_rest (drop i x) ≡ is_scheme_rest (drop (i + 1) x)
rest_on x i h e =
    let c = get_or x i 0 in
    let k : suc i ≡ i + 1 = omega arith in
    ap is_scheme_rest (drop-cons x i 0 h)
    ∙ ap (λ b. cond b (list_all is_iri_char (drop (suc i) x)) (is_scheme_char c && is_scheme_rest (drop (suc i) x))) (scheme_no_colon c e)
    ∙ ap (λ b. b && is_scheme_rest (drop (suc i) x)) e
    ∙ ap (λ m. is_scheme_rest (drop m x)) k

dropped : (p : ℕ → Bool) (x : List ℕ) (i : ℕ) → list_all p x ≡ true → list_all p (drop i x) ≡ true
dropped p x zero e = e
dropped p [] (suc i) e = refl
dropped p (c ∷ cs) (suc i) e = dropped p cs i (and_parts (p c) (list_all p cs) e).1

pub rest_ends : (x : List ℕ) (i : ℕ) → list_all is_iri_char x ≡ true → i < length x → is_scheme_char (get_or x i 0) ≡ false → is_scheme_rest (drop i x) ≡ (get_or x i 0 == 58)
rest_ends x i a h e =
    let c = get_or x i 0 in
    ap is_scheme_rest (drop-cons x i 0 h)
    ∙ ap (λ b. cond (c == 58) b (is_scheme_char c && is_scheme_rest (drop (suc i) x))) (dropped is_iri_char x (suc i) a)
    ∙ ap (λ b. cond (c == 58) true (b && is_scheme_rest (drop (suc i) x))) e
    ∙ itself_test (c == 58)
  where
    itself_test : (b : Bool) → cond b true false ≡ b
    itself_test true = refl
    itself_test false = refl

-- Facts that the reader of lines rests on.
use Rattle.std.proofs.Common.{◌≡◌, ℕ, ◌+◌, ◌-◌, ◌≤◌, ◌<◌, Bool, true, false, cond, ◌&&◌, ◌||◌, ◌==◌, nat_le, List, [], ◌∷◌, length, map, refl, sym, ap, ◌∙◌, arith}
use Rattle.std.specs.Char.{to_ascii_lowercase}
use Rattle.std.proofs.lemmas.Bool.Decides.{nat_tests}
use Rattle.std.proofs.Common.{◌⊎◌, inl, inr, suc, subst}
use Rattle.std.specs.Str.{IsAscii}
use Rattle.std.proofs.lemmas.Str.Ascii.{IsAscii-nil, IsAscii-cons}
use Rattle.std.specs.Str.{bytes_eq}
use Rattle.gs_model.specs.Triples.{RdfTriple, IsTriple, line_of}
use Rattle.gs_commands.specs.Commands.{SaysLine}
use Rattle.gs_model.specs.Texts.{triple_of}
use Rattle.gs_model.proofs.LineLemmas.{triple_of-line_of}
use Rattle.std.proofs.lemmas.Slice.Eq.{bytes_eq-Decides}
use Rattle.std.proofs.Common.{◌*◌, drop, get_or, drop-cons, Option, Some, None}
use Rattle.std.specs.Int.Digits.{number_from_digits_after}
use Rattle.std.proofs.lemmas.Int.Digits.{number_after_ge}
use Rattle.gs_model.specs.Terms.{is_tag_rest}

kept : (d : Bool) (c : ℕ) → ((nat_le 97 c && nat_le c 122) || (d && (nat_le 48 c && nat_le c 57))) ≡ true → to_ascii_lowercase c ≡ c
kept true c h = grind (arith, nat_tests)
kept false c h = grind (arith, nat_tests)

-- a tag that is in lower case
pub lower_tag : (d b : Bool) (t : List ℕ) → is_tag_rest d b t ≡ true → map to_ascii_lowercase t ≡ t
lower_tag d b [] h = refl
lower_tag d b (c ∷ cs) h =
    elim ((nat_le 97 c && nat_le c 122) || (d && (nat_le 48 c && nat_le c 57))) as (λ x. ((nat_le 97 c && nat_le c 122) || (d && (nat_le 48 c && nat_le c 57))) ≡ x
    → cond x (is_tag_rest d true cs) ((c == 45 && b) && is_tag_rest true false cs) ≡ true → to_ascii_lowercase c ∷ map to_ascii_lowercase cs ≡ c ∷ cs) [
      | true ↦ λ e k. ap (λ z. z ∷ map to_ascii_lowercase cs) (kept d c e) ∙ ap (λ z. c ∷ z) (lower_tag d true cs k)
      | false ↦ λ e k.
          let dash : (c == 45) ≡ true = grind (arith, nat_tests) in
          let same : to_ascii_lowercase c ≡ c = grind (arith, nat_tests) in
          let rest : is_tag_rest true false cs ≡ true = grind (arith, nat_tests) in
          ap (λ z. z ∷ map to_ascii_lowercase cs) same ∙ ap (λ z. c ∷ z) (lower_tag true false cs rest)
    ] refl h

tag_char : (d b : Bool) (c : ℕ) (r q : Bool) → cond ((nat_le 97 c && nat_le c 122) || (d && (nat_le 48 c && nat_le c 57))) r ((c == 45 && b) && q) ≡ true → c < 128
tag_char d b c r q h = grind (arith, nat_tests)

tag_rest : (x y r q : Bool) → cond x r (y && q) ≡ true → (r ≡ true) ⊎ (q ≡ true)
tag_rest true y r q h = inl h
tag_rest false true r q h = inr h
tag_rest false false r q h = absurd (cc)

pub tag_ascii : (d b : Bool) (t : List ℕ) → is_tag_rest d b t ≡ true → IsAscii t
tag_ascii d b [] h = IsAscii-nil
tag_ascii d b (c ∷ cs) h =
    IsAscii-cons c cs (tag_char d b c (is_tag_rest d true cs) (is_tag_rest true false cs) h)
    (elim (tag_rest ((nat_le 97 c && nat_le c 122) || (d && (nat_le 48 c && nat_le c 57))) (c == 45 && b) (is_tag_rest d true cs) (is_tag_rest true false cs) h) [ inl k ↦ tag_ascii d true cs k | inr k ↦ tag_ascii true false cs k ])

-- a number is at least what its first digits are
pub least : (n : ℕ) (ds : List ℕ) → n ≤ number_from_digits_after 10 n ds
least n ds = number_after_ge 10 n ds (omega arith)

pub step_least : (ds : List ℕ) (i value : ℕ) → i < length ds → value * 10 + (get_or ds i 0 - 48) ≤ number_from_digits_after 10 value (map (λ d. d - 48) (drop i ds))
step_least ds i value h =
    let P : List ℕ → Type 0 = λ z. value * 10 + (get_or ds i 0 - 48) ≤ number_from_digits_after 10 value (map (λ d. d - 48) z) in
    subst P (sym (drop-cons ds i 0 h)) (least (value * 10 + (get_or ds i 0 - 48)) (map (λ d. d - 48) (drop (suc i) ds)))

-- the triple that a line would be of is the one that was read
pub read_line_none : (bytes : List ℕ) (r : Option RdfTriple) → (IsTriple (triple_of bytes) → r ≡ Some (triple_of bytes)) → r ≡ None → (t : RdfTriple) → ¬ SaysLine t bytes
read_line_none bytes r read none t says =
    let same : triple_of bytes ≡ t = sym (ap triple_of says.0) ∙ triple_of-line_of t says.1 in
    let P : RdfTriple → Type 0 = λ u. IsTriple u in
    let got = read (subst P (sym same) says.1) in
    let clash : None ≡ Some (triple_of bytes) = sym none ∙ got in cc

pub read_line_other : (bytes : List ℕ) (r : Option RdfTriple) (triple : RdfTriple) (shown : List ℕ) → (IsTriple (triple_of bytes) → r ≡ Some (triple_of bytes)) → r ≡ Some triple → shown ≡ line_of triple
    → false ≡ bytes_eq shown bytes → (t : RdfTriple) → ¬ SaysLine t bytes
read_line_other bytes r triple shown read some shows other t says =
    let same : triple_of bytes ≡ t = sym (ap triple_of says.0) ∙ triple_of-line_of t says.1 in
    let P : RdfTriple → Type 0 = λ u. IsTriple u in
    let got = read (subst P (sym same) says.1) in
    let alike : triple ≡ triple_of bytes = cc in
    let text : shown ≡ bytes = shows ∙ ap line_of (alike ∙ same) ∙ says.0 in
    let yes_eq : bytes_eq shown bytes ≡ true = (bytes_eq-Decides shown bytes).1 text in cc

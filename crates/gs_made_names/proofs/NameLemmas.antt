-- Names that the store makes up: they are names of graphs, and the first free one is found in turn.
use Rattle.std.proofs.lemmas.Bool.{and_parts}
use Rattle.std.proofs.Common.{◌≡◌, ℕ, suc, ◌+◌, ◌-◌, ◌<◌, ◌≤◌, ◌^◌, true, false, cond, ◌&&◌, ◌==◌, nat_le, nat_eq, List, [], ◌∷◌, ◌++◌, length, drop, map, Result, Ok, Err, IfOk, refl, sym, ap, ◌∙◌, arith, length-append, append_assoc, codes}
use Rattle.std.specs.List.{list_all, starts_with}
use Rattle.std.proofs.lemmas.Bool.Decides.{nat_tests}
use Rattle.std.proofs.lemmas.Slice.Eq.{starts_is}
use Rattle.std.proofs.lemmas.Bool.Decides.{Decides-eqb}
use Rattle.std.specs.Int.Digits.{digits_of, AllBelowBase}
use Rattle.std.proofs.lemmas.Int.Digits.{all_below_base_digits_of}
use Rattle.gs_model.specs.declared.refusals.Refusal.{Refusal}
use Rattle.gs_model.specs.declared.refusals.Refusal.TheVariants.{NoMemory, WrongPhase, BadSeat, LastNumber, Syntax, TermTooLong, StoreFull, NotInProfile, Closed}
use Rattle.gs_model.specs.Limits.{max_name_bytes}
use Rattle.gs_model.specs.Characters.{is_iri_char}
use Rattle.gs_model.specs.Iris.{is_absolute}
use Rattle.gs_model.specs.Terms.{numeral}
use Rattle.gs_model.specs.Bases.{is_base, is_base_char}
use Rattle.gs_term.specs.Making.{Names}
use Rattle.gs_term.proofs.MakingLemmas.{length-numeral}
use Rattle.gs_term.specs.declared.names.Target.TheVariants.{Named}
use Rattle.gs_event.specs.Datasets.{Dataset, is_there, names_in}
use Rattle.gs_event.specs.Names.{made_name, first_free, new_name}

-- a character of a base may stand in an IRI
base_char : (c : ℕ) → is_base_char c ≡ true → is_iri_char c ≡ true
base_char c e = grind (arith, nat_tests)

digit_char : (d : ℕ) → d < 10 → is_iri_char (48 + d) ≡ true
digit_char d h = grind (arith, nat_tests)

base_chars : (cs : List ℕ) → list_all is_base_char cs ≡ true → list_all is_iri_char cs ≡ true
base_chars [] e = refl
base_chars (c ∷ cs) e = let two = and_parts (is_base_char c) (list_all is_base_char cs) e in ap (λ b. b && list_all is_iri_char cs) (base_char c two.0) ∙ base_chars cs two.1

digit_chars : (ds : List ℕ) → AllBelowBase 10 ds → list_all is_iri_char (map (λ d. 48 + d) ds) ≡ true
digit_chars [] h = refl
digit_chars (d ∷ ds) h = ap (λ b. b && list_all is_iri_char (map (λ d. 48 + d) ds)) (digit_char d h.0) ∙ digit_chars ds h.1

numeral_chars : (n : ℕ) → list_all is_iri_char (numeral n) ≡ true
unfolding numeral
numeral_chars n = elim (n == 0) as (λ b. list_all is_iri_char (cond b (48 ∷ []) (map (λ d. 48 + d) (digits_of 10 n))) ≡ true) [
  | true ↦ refl
  | false ↦ digit_chars (digits_of 10 n) (all_below_base_digits_of 10 n (omega arith))
]

all_append : (xs ys : List ℕ) → list_all is_iri_char xs ≡ true → list_all is_iri_char ys ≡ true → list_all is_iri_char (xs ++ ys) ≡ true
all_append [] ys h k = k
all_append (x ∷ xs) ys h k = let two = and_parts (is_iri_char x) (list_all is_iri_char xs) h in ap (λ b. b && list_all is_iri_char (xs ++ ys)) two.0 ∙ all_append xs ys two.1 k

-- the rest of a base after `http://`
pub record HasRest (base : List ℕ) : Type 0 where
  pub rest : List ℕ
  pub is : base ≡ codes "http://" ++ rest
  pub characters : list_all is_iri_char rest ≡ true
  pub short : length base ≤ 256

has_rest : (base : List ℕ) → is_base base ≡ true → HasRest base
has_rest base e =
    let parts = and_parts (nat_le 8 (length base) && nat_le (length base) 256) (starts_with nat_eq base (codes "http://") && list_all is_base_char (drop 7 base)) e in
    let lengths = and_parts (nat_le 8 (length base)) (nat_le (length base) 256) parts.0 in
    let texts = and_parts (starts_with nat_eq base (codes "http://")) (list_all is_base_char (drop 7 base)) parts.1 in
    let split = (starts_is Decides-eqb base (codes "http://") (starts_with nat_eq base (codes "http://")) refl).0 texts.0 in
    record {
      rest = drop 7 base;
      is = split;
      characters = base_chars (drop 7 base) texts.1;
      short = grind (arith, nat_tests, lengths.1);
    }

-- a name that the store makes up is an absolute IRI
pub made_absolute : (base : List ℕ) (r k : ℕ) → is_base base ≡ true → is_absolute (made_name base r k) ≡ true
made_absolute base r k e =
    let h = has_rest base e in
    let tail = codes "/graphs/n" ++ numeral r ++ 45 ∷ numeral k in
    let whole : made_name base r k ≡ codes "http://" ++ (h.rest ++ tail) =
    append_assoc (base ++ codes "/graphs/n") (numeral r) (45 ∷ numeral k) ∙ append_assoc base (codes "/graphs/n") (numeral r ++ 45 ∷ numeral k)
    ∙ ap (λ z. base ++ z) (sym (append_assoc (codes "/graphs/n") (numeral r) (45 ∷ numeral k))) ∙ ap (λ z. z ++ tail) h.is ∙ append_assoc (codes "http://") h.rest tail in
    let number : list_all is_iri_char (45 ∷ numeral k) ≡ true = numeral_chars k in
    let tail_ok : list_all is_iri_char tail ≡ true = all_append (codes "/graphs/n" ++ numeral r) (45 ∷ numeral k) (all_append (codes "/graphs/n") (numeral r) refl (numeral_chars r)) number in
    ap is_absolute whole ∙ all_append h.rest tail h.characters tail_ok

pub made_short : (base : List ℕ) (r k : ℕ) → is_base base ≡ true → r < 2 ^ 64 → k < 2 ^ 64 → length (made_name base r k) ≤ max_name_bytes
made_short base r k e p q =
    let h = has_rest base e in
    omega (arith, h.short, length-append (base ++ codes "/graphs/n" ++ numeral r) (45 ∷ numeral k), length-append (base ++ codes "/graphs/n") (numeral r), length-append base (codes "/graphs/n"), length-numeral r p, length-numeral k q)

-- making a name of such a text is refused for memory alone
pub never_refused : (text : List ℕ) (e : Refusal) → is_absolute text ≡ true → length text ≤ max_name_bytes → Names text (Err e) → (e ≡ NoMemory → ⊥) → ⊥
never_refused text NoMemory formed short says other = other refl
never_refused text (Syntax at) formed short says other = let h = says.1 in absurd (Prim.cc)
never_refused text TermTooLong formed short says other = omega (arith, says.1)
never_refused text WrongPhase formed short says other = says
never_refused text BadSeat formed short says other = says
never_refused text LastNumber formed short says other = says
never_refused text StoreFull formed short says other = says
never_refused text NotInProfile formed short says other = says
never_refused text Closed formed short says other = says

one_less : (names k : ℕ) → k < names → names - k ≡ suc (names - (k + 1))
one_less names k h = omega arith

-- one number is taken
pub free_more : (m : Dataset) (base : List ℕ) (r names k : ℕ) → k < names → is_there m (Named (made_name base r k)) ≡ true → first_free m base r (names - k) k ≡ first_free m base r (names - (k + 1)) (k + 1)
free_more m base r names k h there = ap (λ n. first_free m base r n k) (one_less names k h) ∙ ap (λ b. cond b (first_free m base r (names - (k + 1)) (k + 1)) k) there

-- one is free
pub free_here : (m : Dataset) (base : List ℕ) (r names k : ℕ) → k < names → is_there m (Named (made_name base r k)) ≡ false → first_free m base r (names - k) k ≡ k
free_here m base r names k h free = ap (λ n. first_free m base r n k) (one_less names k h) ∙ ap (λ b. cond b (first_free m base r (names - (k + 1)) (k + 1)) k) free

-- all of them were taken
pub free_end : (m : Dataset) (base : List ℕ) (r names k : ℕ) → names ≤ k → first_free m base r (names - k) k ≡ k
free_end m base r names k h = let none : names - k ≡ 0 = omega arith in ap (λ n. first_free m base r n k) none

-- the name that is made is the first free one
pub named_so : {E : Type 0} (m : Dataset) (text base : List ℕ) (r names k : ℕ) (made : Result (List ℕ) E) → text ≡ base → names ≡ names_in m → first_free m base r names 0 ≡ k → IfOk made (λ name. name ≡ made_name text r k) → IfOk made (λ name. name ≡ new_name base m r)
named_so m text base r names k (Err e) same counted first h = h
named_so m text base r names k (Ok name) same counted first h = h ∙ ap (λ b. made_name b r k) same ∙ ap (made_name base r) (sym first ∙ ap (λ n. first_free m base r n 0) counted)

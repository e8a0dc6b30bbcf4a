-- The terms of a dictionary, by the texts of its numbers.
use Rattle.std.proofs.Common.{◌≡◌, ◌≢◌, ℕ, ◌+◌, ◌<◌, ◌≤◌, ◌&&◌, List, [], length, map, ap, sym, is_some, not, ◌∙◌, subst, refl, inl, inr, arith, nat_eq, nat_lt, Bool, true, false, Option, Some, None}
use Rattle.std.proofs.lemmas.Bool.{cases_eq, cases_lt}
use Rattle.std.proofs.lemmas.List.{get_or_past}
use Rattle.std.proofs.lemmas.Option.{same_Some}
use Rattle.std.proofs.lemmas.List.FromFn.{length-map-range_with_len, get_or-map-range_with_len, fill_by_all}
use Rattle.std.proofs.lemmas.Bool.Decides.{nat_tests}
use Rattle.std.specs.Bool.{Decides}
use Rattle.std.specs.List.{range_with_len}
use Rattle.std.specs.Option.{option_map}
use Rattle.std.specs.declared.hash.FoldHasher.{FoldHasher}
use Rattle.gs_model.specs.Terms.{Term, text_of, IsTerm}
use Rattle.gs_model.specs.Texts.{term_of, IsCanonical}
use Rattle.gs_model.proofs.TextLemmas.{term_of-text_of, text_of-injective}
use Rattle.gs_texts.specs.Places.{length_of}
use Rattle.gs_dict.specs.declared.chains.Entry.{Entry}
use Rattle.gs_dict.specs.Chains.{AreInBlocks, Meets, KeepsTexts, dict_entry_at, text_at}
use Rattle.gs_dict.specs.Numbering.{Terms, Numbered, term_given, HasTerm, IsNumberOf, IsNew, IsDistinct}
use Rattle.gs_dict.specs.Kept.{IsDict, hash_of, given_by_text, given_by_entry, has_bytes, terms_of}
use Rattle.gs_dict.proofs.NumberLemmas.{has_below, number_has}
use Rattle.gs_dict.proofs.EmptyLemmas.{empty_at, some_at, text_of-some, given_none, given_some, giving_some, giving_term}

-- what a dictionary of these parts shows
abbrev pub shown : List (List ℕ) → List Entry → ℕ → Numbered
shown blocks es last = record { terms = terms_of blocks es; last = last }

-- as many terms as entries
pub length-terms_of : (blocks : List (List ℕ)) (es : List Entry) → length (terms_of blocks es) ≡ length es
unfolding terms_of
length-terms_of blocks es = length-map-range_with_len (given_by_entry blocks es) 0 (length es)

-- a number that is given has what its text gives
pub get-terms_of : (blocks : List (List ℕ)) (es : List Entry) (i : ℕ) → i < length es → term_given (terms_of blocks es) i ≡ given_by_entry blocks es i
unfolding terms_of
get-terms_of blocks es i inside =
    let same : 0 + i ≡ i = omega arith in
    get_or-map-range_with_len (given_by_entry blocks es) 0 (length es) i i None inside same

-- and any other has no term
pub past_none : (blocks : List (List ℕ)) (es : List Entry) (i : ℕ) → length es ≤ i → term_given (terms_of blocks es) i ≡ None
past_none blocks es i past = get_or_past (terms_of blocks es) i None (omega (arith, past, length-terms_of blocks es))

-- a number without a text has no term
pub free_none : (blocks : List (List ℕ)) (es : List Entry) (i : ℕ) → (i < length es → text_at blocks es i ≡ []) → term_given (terms_of blocks es) i ≡ None
free_none blocks es i free = elim (cases_lt i (length es)) [
  | inl inside ↦ get-terms_of blocks es i inside ∙ (ap given_by_text (free inside) ∙ given_none)
  | inr past ↦ past_none blocks es i past
]

-- a number with a term is given
pub has_inside : (blocks : List (List ℕ)) (es : List Entry) (i : ℕ) → HasTerm (terms_of blocks es) i → i < length es
has_inside blocks es i has = omega (arith, has_below (terms_of blocks es) i has, length-terms_of blocks es)

-- and has a text
pub has_text : (blocks : List (List ℕ)) (es : List Entry) (i : ℕ) → HasTerm (terms_of blocks es) i → text_at blocks es i ≢ []
has_text blocks es i has =
    giving_some (text_at blocks es i) (sym (ap is_some (get-terms_of blocks es i (has_inside blocks es i has))) ∙ has)

-- the number of a term, by its text
text_term : (blocks : List (List ℕ)) (es : List Entry) (i : ℕ) (t : Term) → IsNumberOf (terms_of blocks es) i t → term_of (text_at blocks es i) ≡ t
text_term blocks es i t number =
    let inside : i < length es = has_inside blocks es i (number_has (terms_of blocks es) i t number) in
    giving_term (text_at blocks es i) t (sym (get-terms_of blocks es i inside) ∙ number)

-- a number with a text has a term, and no other has one
pub has_entry :
    (blocks : List (List ℕ)) (es : List Entry) (i : ℕ) → AreInBlocks blocks es
    → has_bytes es i ≡ is_some (term_given (terms_of blocks es) i)
has_entry blocks es i placed =
    let bytes : ℕ = length_of (dict_entry_at es i).place in
    elim (cases_lt i (length es)) [
      | inl inside ↦
          let given : nat_lt i (length es) ≡ true = grind (arith, nat_tests) in
          elim (cases_eq bytes 0) [
            | inl none ↦
                let zero_bytes : nat_eq bytes 0 ≡ true = grind (arith, nat_tests) in
                (λ k. given k && not (zero_bytes k)) ∙ sym (ap is_some (free_none blocks es i (λ p. empty_at blocks es i none)))
            | inr some ↦
                let some_bytes : nat_eq bytes 0 ≡ false = grind (arith, nat_tests) in
                (λ k. given k && not (some_bytes k))
                ∙ sym (ap is_some (get-terms_of blocks es i inside ∙ given_some (text_at blocks es i) (some_at blocks es i placed inside some)))
          ]
      | inr past ↦
          let not_given : nat_lt i (length es) ≡ false = grind (arith, nat_tests) in
          (λ k. not_given k && not (nat_eq bytes 0)) ∙ sym (ap is_some (past_none blocks es i past))
    ]

pub text_number :
    (blocks : List (List ℕ)) (es : List Entry) (i : ℕ) (t : Term) → i < length es → text_at blocks es i ≡ text_of t → IsNumberOf (terms_of blocks es) i t
text_number blocks es i t inside same =
    get-terms_of blocks es i inside ∙ (ap given_by_text same ∙ (given_some (text_of t) (text_of-some t) ∙ ap (λ (u : Term). Some u) (term_of-text_of t)))

module _ (blocks : List (List ℕ)) (es : List Entry) (heads : List ℕ) (s : FoldHasher) (last : ℕ) (d : IsDict blocks es heads s last) where
  -- the text of a number with a term is canonical
  has_canonical : (i : ℕ) → HasTerm (terms_of blocks es) i → IsCanonical (text_at blocks es i)
  has_canonical i has = d.canonical i (has_inside blocks es i has) (has_text blocks es i has)

  -- a number's text is its term's
  pub number_text : (i : ℕ) (t : Term) → IsNumberOf (terms_of blocks es) i t → text_at blocks es i ≡ text_of t
  number_text i t number =
      sym (has_canonical i (number_has (terms_of blocks es) i t number)).canonical ∙ ap text_of (text_term blocks es i t number)

  -- the text and the term of a number that has one
  pub given_text : (i : ℕ) → HasTerm (terms_of blocks es) i → option_map text_of (term_given (terms_of blocks es) i) ≡ Some (text_at blocks es i)
  given_text i has =
      let given : term_given (terms_of blocks es) i ≡ Some (term_of (text_at blocks es i)) =
      get-terms_of blocks es i (has_inside blocks es i has) ∙ given_some (text_at blocks es i) (has_text blocks es i has) in
      ap (option_map text_of) given ∙ ap (λ (x : List ℕ). Some x) (has_canonical i has).canonical

  pub number_valid : (i : ℕ) (t : Term) → IsNumberOf (terms_of blocks es) i t → IsTerm t
  number_valid i t number =
      let P : Term → Type 0 = λ u. IsTerm u in
      subst P (text_term blocks es i t number) (has_canonical i (number_has (terms_of blocks es) i t number)).valid

  -- no term has two numbers
  pub terms_distinct : IsDistinct (terms_of blocks es)
  terms_distinct m n t at_m at_n =
      let has_m : HasTerm (terms_of blocks es) m = number_has (terms_of blocks es) m t at_m in
      let has_n : HasTerm (terms_of blocks es) n = number_has (terms_of blocks es) n t at_n in
      d.apart m n (has_inside blocks es m has_m) (has_inside blocks es n has_n) (has_text blocks es m has_m)
      (number_text m t at_m ∙ sym (number_text n t at_n))

  -- there are no more terms than numbers
  pub terms_fit : length (terms_of blocks es) ≤ last + 1
  terms_fit = omega (arith, length-terms_of blocks es, d.few)

  -- a term whose text is not along the chain of its hash is new
  pub new_term : (t : Term) → Meets blocks es (hash_of s (text_of t)) (text_of t) None → IsNew (terms_of blocks es) t
  new_term t none n number =
      let has : HasTerm (terms_of blocks es) n = number_has (terms_of blocks es) n t number in
      let inside : n < length es = has_inside blocks es n has in
      let same : text_at blocks es n ≡ text_of t = number_text n t number in
      none n inside (d.hashed n inside (has_text blocks es n has) ∙ ap (hash_of s) same, same)

-- where each text stays, so do the terms
pub terms_kept :
    (blocks later : List (List ℕ)) (es fs : List Entry) → KeepsTexts blocks es later fs → length fs ≡ length es
    → terms_of later fs ≡ terms_of blocks es
unfolding terms_of
terms_kept blocks later es fs kept count =
    let n : ℕ = length es in
    let below : map (given_by_entry blocks es) (range_with_len 0 n) ≡ map (given_by_entry later fs) (range_with_len 0 n) =
    fill_by_all (given_by_entry later fs) (map (given_by_entry blocks es) (range_with_len 0 n)) n None (length-map-range_with_len (given_by_entry blocks es) 0 n)
    (λ k p.
    let same : 0 + k ≡ k = omega arith in
    get_or-map-range_with_len (given_by_entry blocks es) 0 n k k None p same ∙ ap given_by_text (sym (kept.text_same k p)))
    in
    ap (λ m. map (given_by_entry later fs) (range_with_len 0 m)) count ∙ sym below

pub terms_none : (blocks : List (List ℕ)) → terms_of blocks [] ≡ []
unfolding terms_of
terms_none blocks = refl

-- what a look-up says, in the words of the dictionary
pub meets_as :
    (blocks : List (List ℕ)) (e es : List Entry) (h : ℕ) (x : List ℕ) (s : FoldHasher) (t : Term) (o : Option ℕ) → Meets blocks e h x o → e ≡ es
    → x ≡ text_of t → h ≡ hash_of s x → Meets blocks es (hash_of s (text_of t)) (text_of t) o
meets_as blocks e es h x s t o m same_entries text hash =
    let Q : List Entry → Type 0 = λ z. Meets blocks z h x o in
    let R : ℕ → Type 0 = λ z. Meets blocks es z x o in
    let S : List ℕ → Type 0 = λ z. Meets blocks es (hash_of s z) z o in
    subst S text (subst R hash (subst Q same_entries m))

-- a number of an option's term, by its text
option_number :
    (o : Option Term) (t : Term) (x : List ℕ) → option_map text_of o ≡ Some x → x ≡ text_of t → o ≡ Some t
option_number None t x given same = absurd (cc)
option_number (Some u) t x given same = ap (λ (v : Term). Some v) (text_of-injective u t (same_Some (text_of u) x given ∙ same))

pub number_decides :
    (ts : Terms) (n : ℕ) (t : Term) (x : List ℕ) (r : Bool) → option_map text_of (term_given ts n) ≡ Some x → Decides r (x ≡ text_of t)
    → Decides r (IsNumberOf ts n t)
number_decides ts n t x r given d = (
  λ yes. option_number (term_given ts n) t x given (d.0 yes),
  λ number. d.1 (same_Some x (text_of t) (sym given ∙ ap (option_map text_of) number)),
)

-- a number without a term is no term's
pub no_number : (ts : Terms) (n : ℕ) (t : Term) → is_some (term_given ts n) ≡ false → IsNumberOf ts n t → ⊥
no_number ts n t none number = let no : true ≡ false = sym (ap is_some number) ∙ none in cc

-- Numbers without a text, and texts that are not empty.
use Rattle.std.proofs.Common.{◌≡◌, ◌≢◌, ℕ, ◌+◌, ◌-◌, ◌<◌, List, [], ◌∷◌, length, drop, ap, ◌∙◌, refl, arith, is_some, true, Some, None}
use Rattle.std.proofs.lemmas.List.{length-take, length-drop}
use Rattle.std.proofs.lemmas.Option.{same_Some}
use Rattle.gs_model.specs.Terms.{Term, Iri, Blank, Literal, text_of}
use Rattle.gs_model.specs.Texts.{term_of, IsCanonical}
use Rattle.gs_texts.specs.Places.{block_of, offset_of, length_of, block_at, text_in}
use Rattle.gs_dict.specs.declared.chains.Entry.{Entry}
use Rattle.gs_dict.specs.Chains.{AreInBlocks, dict_entry_at, text_at}
use Rattle.gs_dict.specs.Kept.{given_by_text}

-- a text of no bytes is empty
none_left : (x : List ℕ) → length x ≡ 0 → x ≡ []
none_left [] none = refl
none_left (c ∷ x) none = absurd (omega arith)

-- a number whose place has length 0 has no text
pub empty_at : (blocks : List (List ℕ)) (es : List Entry) (i : ℕ) → length_of (dict_entry_at es i).place ≡ 0 → text_at blocks es i ≡ []
unfolding text_at text_in
empty_at blocks es i none =
    let p = (dict_entry_at es i).place in
    let rest : List ℕ = drop (offset_of p) (block_at blocks (block_of p)) in
    none_left (text_at blocks es i) (omega (arith, none, length-take (offset_of p + length_of p - offset_of p) rest))

-- and no other number is without one
pub some_at :
    (blocks : List (List ℕ)) (es : List Entry) (i : ℕ) → AreInBlocks blocks es → i < length es → length_of (dict_entry_at es i).place ≢ 0
    → text_at blocks es i ≢ []
unfolding text_at text_in
some_at blocks es i placed inside some empty =
    let p = (dict_entry_at es i).place in
    let block : List ℕ = block_at blocks (block_of p) in
    let bytes : length (text_at blocks es i) ≡ 0 = ap length empty in
    some (omega (arith, bytes, (placed.lies i inside).inside, length-take (offset_of p + length_of p - offset_of p) (drop (offset_of p) block), length-drop (offset_of p) block))

-- the text of a term is not empty
pub text_of-some : (t : Term) → text_of t ≢ []
text_of-some (Iri text) empty = absurd (cc)
text_of-some (Blank r k) empty = absurd (cc)
text_of-some (Literal lexical kind) empty = absurd (cc)

-- nor is one that is canonical
pub canonical_some : (x : List ℕ) → IsCanonical x → x ≢ []
canonical_some x is empty = text_of-some (term_of x) (is.canonical ∙ empty)

-- an empty text gives no term
pub given_none : given_by_text [] ≡ None
unfolding given_by_text
given_none = refl

-- a text that is not empty gives its term
pub given_some : (x : List ℕ) → x ≢ [] → given_by_text x ≡ Some (term_of x)
unfolding given_by_text
given_some [] some = absurd (some refl)
given_some (c ∷ x) some = refl

-- what gives a term is not empty
pub giving_some : (x : List ℕ) → is_some (given_by_text x) ≡ true → x ≢ []
unfolding given_by_text
giving_some [] has empty = absurd (cc)
giving_some (c ∷ x) has empty = absurd (cc)

-- and the term is that of its text
pub giving_term : (x : List ℕ) (t : Term) → given_by_text x ≡ Some t → term_of x ≡ t
unfolding given_by_text
giving_term [] t has = absurd (cc)
giving_term (c ∷ x) t has = same_Some (term_of (c ∷ x)) t has

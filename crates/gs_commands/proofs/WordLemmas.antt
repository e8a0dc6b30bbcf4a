-- Words and numbers have one text.
use Rattle.std.proofs.Common.{◌≡◌, ℕ, ◌^◌, ◌≤◌, ◌<◌, Bool, true, false, ◌==◌, suc, List, [], ◌∷◌, ◌++◌, length, length-append, take, refl, sym, ap, ◌∙◌, arith}
use Rattle.std.proofs.Math.Seq.{take-append_seam}
use Rattle.std.proofs.lemmas.Bool.{eq-eqb}
use Rattle.std.proofs.lemmas.Bool.Decides.{nat_tests}
use Rattle.std.proofs.lemmas.Slice.Eq.{bytes_eq-Decides}
use Rattle.std.specs.Fmt.{decimal}
use Rattle.std.specs.Str.{bytes_eq}
use Rattle.gs_model.specs.Terms.{numeral}
use Rattle.gs_model.specs.Texts.{number_of}
use Rattle.gs_model.proofs.TextLemmas.{number_of-numeral, same_text}
use Rattle.gs_term.proofs.MakingLemmas.{decimal_is_numeral}
use Rattle.gs_commands.specs.Found.{SaysNumber}

pub after_other : (bytes word front : List ℕ) → front ≡ take (length word) bytes → false ≡ bytes_eq front word → (rest : List ℕ) → bytes ≡ word ++ rest → ⊥
after_other bytes word front is other rest parts =
    let same : front ≡ word = is ∙ ap (take (length word)) parts ∙ take-append_seam word rest in
    let alike : bytes_eq front word ≡ true = (bytes_eq-Decides front word).1 same in
    let clash : false ≡ true = other ∙ alike in cc

pub after_short : (bytes word : List ℕ) → length bytes < length word → (rest : List ℕ) → bytes ≡ word ++ rest → ⊥
after_short bytes word short rest parts =
    let same : length bytes ≡ length (word ++ rest) = ap length parts in
    omega (arith, same, length-append word rest)

meaning_number : (most x : ℕ) (text : List ℕ) → SaysNumber most x text → number_of text ≡ x
meaning_number most x text says = ap number_of says.0 ∙ number_of-numeral x

pub number_unfit : (text : List ℕ) (most : ℕ) → 2 ^ 64 ≤ number_of text → most < 2 ^ 64 → (x : ℕ) → SaysNumber most x text → ⊥
number_unfit text most large fits x says = let e = meaning_number most x text says in let b = says.1 in omega arith

pub number_above : (text : List ℕ) (most n : ℕ) → n ≡ number_of text → most < n → (x : ℕ) → SaysNumber most x text → ⊥
number_above text most n is above x says = let e = meaning_number most x text says in let b = says.1 in omega arith

pub number_is : (text shown : List ℕ) (n : ℕ) → n < 2 ^ 64 → shown ≡ decimal n → true ≡ bytes_eq shown text → text ≡ numeral n
number_is text shown n fits is alike = sym (same_text shown text (sym alike)) ∙ is ∙ decimal_is_numeral n fits

pub number_other : (text shown : List ℕ) (most n : ℕ) → n < 2 ^ 64 → n ≡ number_of text → shown ≡ decimal n → false ≡ bytes_eq shown text → (x : ℕ) → SaysNumber most x text → ⊥
number_other text shown most n fits is shows other x says =
    let e : n ≡ x = is ∙ meaning_number most x text says in
    let same : shown ≡ text = shows ∙ decimal_is_numeral n fits ∙ ap numeral e ∙ sym says.0 in
    let alike : bytes_eq shown text ≡ true = (bytes_eq-Decides shown text).1 same in
    let clash : false ≡ true = other ∙ alike in cc

head_of : List ℕ → ℕ
head_of [] = 0
head_of (c ∷ cs) = c

-- texts that begin with two characters are not the same
pub first_differs : (b c : ℕ) (xs ys : List ℕ) → (b == c) ≡ false → b ∷ xs ≡ c ∷ ys → ⊥
unfolding head_of
first_differs b c xs ys other e =
    let alike : (b == c) ≡ true = eq-eqb b c (ap head_of e) in
    let clash : false ≡ true = sym other ∙ alike in cc

-- whether a list is empty, by the test of its length
positive : (n : ℕ) → (suc n == 0) ≡ false
positive n = grind (arith, nat_tests)

pub filled : {X : Type 0} (x : List X) (b : Bool) → b ≡ (length x == 0) → b ≡ false → ¬ (x ≡ [])
filled x b is some e =
    let zero : b ≡ true = is ∙ ap (λ z. length z == 0) e in
    let clash : false ≡ true = sym some ∙ zero in cc

pub emptied : {X : Type 0} (x : List X) (b : Bool) → b ≡ (length x == 0) → b ≡ true → x ≡ []
emptied [] b is none = refl
emptied (c ∷ cs) b is none =
    let some : b ≡ false = is ∙ positive (length cs) in
    let clash : true ≡ false = sym none ∙ some in absurd (cc)

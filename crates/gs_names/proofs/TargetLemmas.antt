-- The path of a target is text, and the test of a name decides what a name is.
use Rattle.std.proofs.Common.{◌≡◌, ℕ, zero, suc, Bool, true, false, cond, List, [], ◌∷◌, length, drop, take, arith, inl, inr, codes, ◌&&◌}
use Rattle.std.specs.Prelude.{nat_eq, nat_le}
use Rattle.std.specs.List.{list_all, starts_with}
use Rattle.std.specs.Str.{IsUtf8, IsAscii, is_utf8}
use Rattle.std.proofs.lemmas.Bool.{cases_Bool, and_parts, leb-true, le-leb}
use Rattle.std.proofs.lemmas.Str.{IsUtf8-from_ascii, IsAscii-take, IsAscii-drop, IsUtf8-from_is_utf8, is_utf8-from_IsUtf8}
use Rattle.std.specs.Bool.{Decides}
use Rattle.std.proofs.lemmas.Bool.Decides.{Decides-and, Decides-like}
use Rattle.gs_model.specs.Limits.{max_name_bytes}
use Rattle.gs_model.specs.Iris.{is_absolute, IsName}
use Rattle.gs_names.specs.Targets.{is_target_byte, rest_of, is_name, TestedNameIsAName}

-- each byte of a target is ASCII
ascii : (t : List ℕ) → list_all is_target_byte t ≡ true → IsAscii t
ascii [] all i = omega arith
ascii (c ∷ t) all zero =
    let p = and_parts (is_target_byte c) (list_all is_target_byte t) all in
    let q = and_parts (nat_le 33 c && nat_le c 126) _ p.0 in
    let r = leb-true c 126 (and_parts (nat_le 33 c) (nat_le c 126) q.0).1 in
    omega arith
ascii (c ∷ t) all (suc i) = ascii t (and_parts (is_target_byte c) (list_all is_target_byte t) all).1 i

-- so is each that is left of it
of_rest : (v : Bool) (n : ℕ) (t : List ℕ) → IsAscii t → IsAscii (cond v (drop n t) t)
of_rest true n t a = IsAscii-drop t n a
of_rest false n t a = a

-- so its path is text
pub path_text : (base t : List ℕ) (n : ℕ) → list_all is_target_byte t ≡ true → IsUtf8 (take n (rest_of base t))
path_text base t n all =
    IsUtf8-from_ascii (take n (rest_of base t)) (IsAscii-take (rest_of base t) n
    (of_rest (starts_with nat_eq t base && starts_with nat_eq (drop (length base) t) (codes "/")) (length base) t (ascii t all)))

-- the test of a name decides what a name is
IsName-Decides : (n : List ℕ) → Decides (is_name n) (IsName n)
IsName-Decides n =
    let absolute : Decides (is_absolute n) (is_absolute n ≡ true) = (λ e. e, λ e. e) in
    let short = Decides-and (is_absolute n) (nat_le (length n) max_name_bytes) absolute (leb-true (length n) max_name_bytes, le-leb (length n) max_name_bytes) in
    Decides-like (is_name n) (λ p. record { absolute = p.1.0; spelled = p.0; short = p.1.1 }) (λ k. (k.spelled, (k.absolute, k.short)))
    (Decides-and (is_utf8 n) _ (IsUtf8-from_is_utf8 n, is_utf8-from_IsUtf8 n) short)

-- both ways
pub tested_name_is_a_name : TestedNameIsAName
tested_name_is_a_name n = IsName-Decides n

-- bytes that are no text
pub is_utf8-fails : (bs : List ℕ) → (IsUtf8 bs → ⊥) → is_utf8 bs ≡ false
is_utf8-fails bs f = elim (cases_Bool (is_utf8 bs)) [ inl t ↦ absurd (f (IsUtf8-from_is_utf8 bs t)) | inr n ↦ n ]

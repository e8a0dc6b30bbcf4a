-- The symbol of a token whose text is UTF-8, or is not.
use Rattle.std.proofs.Common.{◌≡◌, ◌≤◌, ℕ, true, false, cond, ◌<◌, arith, List, [], ◌∷◌, ap, refl, sym, ◌∙◌, length, take, subst}
use Rattle.std.specs.Prelude.{◌==◌, ◌-◌, slice_range}
use Rattle.std.specs.Char.{is_ascii}
use Rattle.std.specs.List.{list_all}
use Rattle.std.specs.Str.{IsAscii, IsUtf8, IsCharBoundary, is_utf8}
use Rattle.std.proofs.lemmas.Bool.{and_parts, eqb-true}
use Rattle.std.proofs.lemmas.Bool.Decides.{nat_tests}
use Rattle.std.proofs.lemmas.Str.{is_utf8-from_IsUtf8, IsUtf8-from_is_utf8, IsUtf8-from_ascii, IsCharBoundary-from_take}
use Rattle.std.proofs.lemmas.Str.Ascii.{IsAscii-nil, IsAscii-cons}
use Rattle.gs_lex.specs.Tokens.{Lexeme}
use Rattle.gs_triples.specs.Symbols.{Foreign, symbol, symbol_of}

pub symbol_of_text : (t : Lexeme) (x : List ℕ) → x ≡ t.text → IsUtf8 t.text → symbol t.kind x t.«end» ≡ symbol_of t
symbol_of_text t x e u = ap (λ y. symbol t.kind y t.«end») e ∙ sym (ap (λ b. cond b (symbol t.kind t.text t.«end») (Foreign t.kind t.«end»)) (is_utf8-from_IsUtf8 t.text u))

pub symbol_of_bytes : (t : Lexeme) → ¬ (IsUtf8 t.text) → Foreign t.kind t.«end» ≡ symbol_of t
symbol_of_bytes t n =
    elim (is_utf8 t.text) as (λ b. is_utf8 t.text ≡ b → Foreign t.kind t.«end» ≡ cond b (symbol t.kind t.text t.«end») (Foreign t.kind t.«end»)) [
      | true ↦ λ h. absurd (n (IsUtf8-from_is_utf8 t.text h))
      | false ↦ λ h. refl
    ] refl

-- a text may be cut after a front that is text
pub boundary_after : (front x : List ℕ) → IsUtf8 x → IsUtf8 front → length front ≤ length x → take (length front) x ≡ front → IsCharBoundary x (length front)
boundary_after front x u f l e = IsCharBoundary-from_take x (length front) u l (subst IsUtf8 (sym e) f)

pub colon_low : (c : ℕ) → (c == 58) ≡ true → c < 128
colon_low c h = let e : c ≡ 58 = eqb-true c 58 h in omega (arith, e)

pub slice_front : (n : ℕ) (x : List ℕ) → slice_range x 0 n ≡ take n x
slice_front n x = let e : n - 0 ≡ n = omega arith in ap (λ m. take m x) e

-- bytes below 128 are ASCII
are_below : (x : List ℕ) → list_all is_ascii x ≡ true → IsAscii x
are_below [] h = IsAscii-nil
are_below (b ∷ bs) h =
    let k = and_parts (is_ascii b) (list_all is_ascii bs) h in
    IsAscii-cons b bs (grind (arith, nat_tests)) (are_below bs k.1)

-- and text
pub ascii_is_text : (x : List ℕ) → list_all is_ascii x ≡ true → IsUtf8 x
ascii_is_text x h = IsUtf8-from_ascii x (are_below x h)

-- An escape ends within the text, after a byte of ASCII.
use Rattle.std.proofs.lemmas.Bool.{and_parts}
use Rattle.std.proofs.Common.{◌≡◌, ℕ, ◌+◌, ◌-◌, ◌<◌, ◌≤◌, ◌==◌, true, false, cond, ◌&&◌, List, [], ◌∷◌, length, take, get_or, refl, sym, ap, ◌∙◌, arith, subst, suc, zero}
use Rattle.std.specs.Prelude.{Some, None, option_map, option_and_then}
use Rattle.std.specs.Option.{option_or}
use Rattle.std.specs.List.{list_all}
use Rattle.std.specs.Str.{IsUtf8, IsCharBoundary}
use Rattle.std.proofs.lemmas.Str.{IsCharBoundary-after_ascii}
use Rattle.std.proofs.lemmas.Bool.Decides.{nat_tests}
use lib.Utf8.{scalar}
use Rattle.gs_model.specs.Characters.{is_iri_char}
use Rattle.gs_model.specs.Escapes.{is_hex, hex_number, echar_meaning}
use Rattle.gs_automaton.specs.Classes.{is_local_escape}
use Rattle.gs_escape.specs.declared.forms.Form.{Form}
use Rattle.gs_escape.specs.declared.forms.Form.TheVariants as form
use Rattle.gs_escape.specs.Escapes.{Escape, numbered, uchar, single, echar, local_escape, iri_escape, string_escape, escape}

-- the last of n bytes stands in the text, and is ASCII
pub record Ends (x : List ℕ) (n : ℕ) : Type 0 where
  pub within : n ≤ length x
  pub some : 0 < n
  pub low : get_or x (n - 1) 0 < 128

low_hex : (c : ℕ) → is_hex c ≡ true → c < 128
low_hex c h = grind (arith, nat_tests)

last_digit : (x : List ℕ) (j : ℕ) → length (take (suc j) x) ≡ suc j → list_all is_hex (take (suc j) x) ≡ true → (get_or x j 0 < 128) × (j < length x)
last_digit [] j l h = absurd (omega (arith, l))
last_digit (c ∷ cs) zero l h = (low_hex c (and_parts (is_hex c) (list_all is_hex (take zero cs)) h).0, omega arith)
last_digit (c ∷ cs) (suc j) l h =
    let r = last_digit cs j (omega (arith, l)) (and_parts (is_hex c) (list_all is_hex (take (suc j) cs)) h).1 in
    (r.0, omega (arith, r.1))

numbered_end : (u : ℕ) (x : List ℕ) (j : ℕ) (e : Escape) → numbered (suc j) x ≡ Some e → Ends (u ∷ x) e.1
unfolding numbered
numbered_end u x j e =
    elim ((length (take (suc j) x) == suc j && list_all is_hex (take (suc j) x)) && scalar (hex_number (take (suc j) x))) as (λ b. ((length (take (suc j) x) == suc j && list_all is_hex (take (suc j) x)) && scalar (hex_number (take (suc j) x))) ≡ b → cond b (Some (hex_number (take (suc j) x), suc j + 1)) None ≡ Some e → Ends (u ∷ x) e.1) [
      | true ↦ λ h k.
          let two = and_parts (length (take (suc j) x) == suc j) (list_all is_hex (take (suc j) x)) (and_parts (length (take (suc j) x) == suc j && list_all is_hex (take (suc j) x)) (scalar (hex_number (take (suc j) x))) h).0 in
          let all = last_digit x j (grind (arith, nat_tests, two.0)) two.1 in
          let size : suc j + 1 ≡ e.1 = ap (λ z. z.1) (let p : (hex_number (take (suc j) x), suc j + 1) ≡ e = cc in p) in
          let place : e.1 - 1 ≡ suc j = omega arith in
          record { within = omega (arith, all.1); some = omega arith; low = subst (λ n. get_or (u ∷ x) n 0 < 128) (sym place) all.0 }
      | false ↦ λ h k. absurd (cc)
    ] refl

uchar_end : (x : List ℕ) (e : Escape) → uchar x ≡ Some e → Ends x e.1
unfolding uchar
uchar_end [] e k = absurd (cc)
uchar_end (c ∷ cs) e k =
    elim (c == 117) as (λ b. cond b (numbered 4 cs) (cond (c == 85) (numbered 8 cs) None) ≡ Some e → Ends (c ∷ cs) e.1) [
      | true ↦ λ h. numbered_end c cs 3 e h
      | false ↦ λ h.
          elim (c == 85) as (λ b. cond b (numbered 8 cs) None ≡ Some e → Ends (c ∷ cs) e.1) [
            | true ↦ λ g. numbered_end c cs 7 e g
            | false ↦ λ g. absurd (cc)
          ] h
    ] k

-- an escape of one byte, of ASCII
single_end : (c d : ℕ) (cs : List ℕ) (e : Escape) → c < 128 → single d ≡ e → Ends (c ∷ cs) e.1
single_end c d cs e l k =
    let size : 1 ≡ e.1 = ap (λ z. z.1) k in
    let place : e.1 - 1 ≡ 0 = omega arith in
    record { within = omega arith; some = omega arith; low = subst (λ n. get_or (c ∷ cs) n 0 < 128) (sym place) l }

low_echar : (c : ℕ) (d : ℕ) → echar_meaning c ≡ Some d → c < 128
unfolding echar_meaning
low_echar c d h = grind (arith, nat_tests)

echar_end : (x : List ℕ) (e : Escape) → echar x ≡ Some e → Ends x e.1
unfolding echar
echar_end [] e k = absurd (cc)
echar_end (c ∷ cs) e k =
    elim (echar_meaning c) as (λ o. echar_meaning c ≡ o → option_map single o ≡ Some e → Ends (c ∷ cs) e.1) [
      | None ↦ λ h g. absurd (cc)
      | Some d ↦ λ h g. single_end c d cs e (low_echar c d h) (let p : single d ≡ e = cc in p)
    ] refl k

low_local : (c : ℕ) → is_local_escape c ≡ true → c < 128
low_local c h = grind (arith, nat_tests)

local_end : (x : List ℕ) (e : Escape) → local_escape x ≡ Some e → Ends x e.1
unfolding local_escape
local_end [] e k = absurd (cc)
local_end (c ∷ cs) e k =
    elim (is_local_escape c) as (λ b. is_local_escape c ≡ b → cond b (Some (single c)) None ≡ Some e → Ends (c ∷ cs) e.1) [
      | true ↦ λ h g. single_end c c cs e (low_local c h) (let p : single c ≡ e = cc in p)
      | false ↦ λ h g. absurd (cc)
    ] refl k

iri_end : (x : List ℕ) (e : Escape) → iri_escape x ≡ Some e → Ends x e.1
unfolding iri_escape
iri_end x e k =
    elim (uchar x) as (λ o. uchar x ≡ o → option_and_then (λ d. cond (is_iri_char d.0) (Some d) None) o ≡ Some e → Ends x e.1) [
      | None ↦ λ h g. absurd (cc)
      | Some d ↦ λ h g.
          elim (is_iri_char d.0) as (λ b. cond b (Some d) None ≡ Some e → Ends x e.1) [
            | true ↦ λ p. uchar_end x e (h ∙ p)
            | false ↦ λ p. absurd (cc)
          ] g
    ] refl k

string_end : (x : List ℕ) (e : Escape) → string_escape x ≡ Some e → Ends x e.1
unfolding string_escape
string_end x e k =
    elim (echar x) as (λ o. echar x ≡ o → option_or o (uchar x) ≡ Some e → Ends x e.1) [
      | None ↦ λ h g. uchar_end x e g
      | Some d ↦ λ h g. echar_end x e (h ∙ g)
    ] refl k

pub escape_end : (f : Form) (x : List ℕ) (e : Escape) → escape f x ≡ Some e → Ends x e.1
escape_end form.IriRef x e k = iri_end x e k
escape_end form.StringLiteralQuote x e k = string_end x e k
escape_end form.StringLiteralSingleQuote x e k = string_end x e k
escape_end form.StringLiteralLongQuote x e k = string_end x e k
escape_end form.StringLiteralLongSingleQuote x e k = string_end x e k
escape_end form.Local x e k = local_end x e k

-- so a text may be cut after its escape
pub escape_boundary : (f : Form) (c : ℕ) (x : List ℕ) (e : Escape) → IsUtf8 (c ∷ x) → escape f x ≡ Some e → IsCharBoundary (c ∷ x) (e.1 + 1)
escape_boundary f c x e u k =
    let ends = escape_end f x e k in
    let some = ends.some in
    let place : e.1 ≡ suc (e.1 - 1) = omega arith in
    let low : get_or (c ∷ x) e.1 0 < 128 = subst (λ n. get_or (c ∷ x) n 0 < 128) (sym place) ends.low in
    IsCharBoundary-after_ascii (c ∷ x) e.1 u (omega (arith, ends.within)) low

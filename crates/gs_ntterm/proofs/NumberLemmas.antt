-- A number that is read digit by digit is as good as the whole number.
use Rattle.std.proofs.Common.{◌≡◌, ℕ, ◌<◌, ◌⊎◌, inl, inr, Bool, true, false, cond, List, [], ◌∷◌, refl, sym, ap, ◌∙◌, arith}
use Rattle.std.specs.Prelude.{fold, nat_le}
use Rattle.std.proofs.lemmas.Bool.Decides.{nat_tests}
use Rattle.gs_model.specs.Escapes.{last_character, is_character, with_hex, hex_number}
use Rattle.gs_ntterm.specs.Classes.{with_digit}

-- the same number, or two above every character
abbrev Alike : ℕ → ℕ → Type 0
Alike v w = (v ≡ w) ⊎ ((last_character < v) × (last_character < w))

digit-alike : (v w c : ℕ) → Alike v w → Alike (with_digit v c) (with_hex w c)
digit-alike v w c h = by_size (nat_le v last_character) refl h
  where
    by_size : (b : Bool) → nat_le v last_character ≡ b → Alike v w → Alike (cond b (with_hex v c) v) (with_hex w c)
    by_size true e (inl k) = inl (ap (λ z. with_hex z c) k)
    by_size true e (inr k) = absurd (grind (arith, nat_tests, k.0))
    by_size false e (inl k) = let l : last_character < v = grind (arith, nat_tests) in inr (l, omega (arith, k))
    by_size false e (inr k) = inr (k.0, omega (arith, k.1))

digits-alike : (ds : List ℕ) (v w : ℕ) → Alike v w → Alike (fold with_digit v ds) (fold with_hex w ds)
digits-alike [] v w h = h
digits-alike (d ∷ ds) v w h = digits-alike ds (with_digit v d) (with_hex w d) (digit-alike v w d h)

above : (v : ℕ) → last_character < v → is_character v ≡ false
above v h = grind (arith, nat_tests)

character-alike : (v w : ℕ) → Alike v w → is_character v ≡ is_character w
character-alike v w (inl e) = ap is_character e
character-alike v w (inr h) = above v h.0 ∙ sym (above w h.1)

number-alike : (v w : ℕ) → Alike v w → is_character w ≡ true → v ≡ w
number-alike v w (inl e) k = e
number-alike v w (inr h) k = let no = above w h.1 in absurd (Prim.cc)

pub read-character : (ds : List ℕ) → is_character (fold with_digit 0 ds) ≡ is_character (hex_number ds)
unfolding hex_number
read-character ds = character-alike (fold with_digit 0 ds) (fold with_hex 0 ds) (digits-alike ds 0 0 (inl refl))

pub read-number : (ds : List ℕ) → is_character (hex_number ds) ≡ true → fold with_digit 0 ds ≡ hex_number ds
unfolding hex_number
read-number ds = number-alike (fold with_digit 0 ds) (fold with_hex 0 ds) (digits-alike ds 0 0 (inl refl))

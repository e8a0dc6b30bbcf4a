-- A variable whose name is text, or is not.
use Rattle.std.proofs.Common.{◌≡◌, ℕ, List, true, false, cond, refl, sym, ap, ◌∙◌}
use Rattle.std.specs.Prelude.{Some, None}
use Rattle.std.specs.Str.{IsUtf8, is_utf8}
use Rattle.std.proofs.lemmas.Str.{is_utf8-from_IsUtf8, IsUtf8-from_is_utf8}
use Rattle.gs_term.specs.declared.patterns.Part.TheVariants.{Variable}
use Rattle.gs_triples.specs.Languages.{part_named}

-- a name that is text
pub named : (x y : List ℕ) → y ≡ x → IsUtf8 x → Some (Variable y) ≡ part_named x
named x y e u = ap (λ z. Some (Variable z)) e ∙ sym (ap (λ b. cond b (Some (Variable x)) None) (is_utf8-from_IsUtf8 x u))

-- and one that is none
pub unnamed : (x : List ℕ) → ¬ (IsUtf8 x) → None ≡ part_named x
unnamed x n =
    elim (is_utf8 x) as (λ b. is_utf8 x ≡ b → None ≡ cond b (Some (Variable x)) None) [
      | true ↦ λ h. absurd (n (IsUtf8-from_is_utf8 x h))
      | false ↦ λ h. refl
    ] refl

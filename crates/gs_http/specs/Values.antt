-- How many values a field has.
use Rattle.std.specs.Prelude.{◌≡◌, ℕ, List, [], ◌∷◌}
use Rattle.gs_http.specs.declared.values.Only.{Only}
use Rattle.gs_http.specs.declared.values.Only.TheVariants.{Absent, One, Several}

-- none, only this one, or at least two
abbrev pub IsOnly : Only → List (List ℕ) → Type 0
IsOnly Absent vs = vs ≡ []
IsOnly (One v) vs = vs ≡ v.now ∷ []
IsOnly Several vs = (v : List ℕ) × (w : List ℕ) × (rest : List (List ℕ)) × (vs ≡ v ∷ w ∷ rest)

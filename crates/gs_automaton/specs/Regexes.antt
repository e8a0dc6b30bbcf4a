-- Regular expressions over characters, as grammars write their terminals.
use Rattle.std.specs.Prelude.{◌≡◌, ℕ, Bool, true, List, [], ◌∷◌, ◌++◌}

-- no text, the empty text, a character of a set, one after another, one or another, and any number of one
pub data Regex (S : Type 0) : Type 0 where
  Never : Regex S
  Empty : Regex S
  One : S → Regex S
  Then : Regex S → Regex S → Regex S
  Or : Regex S → Regex S → Regex S
  Many : Regex S → Regex S

-- The text is one of those that the expression describes, where `has_char` says which characters are in a set.
pub data Matches {S : Type 0} (has_char : S → ℕ → Bool) : Regex S → List ℕ → Type 0 where
  empty : Matches has_char Empty []
  one : {s : S} {c : ℕ} → has_char s c ≡ true → Matches has_char (One s) (c ∷ [])
  both : {r s : Regex S} {x : List ℕ} (v w : List ℕ) → x ≡ v ++ w → Matches has_char r v → Matches has_char s w → Matches has_char (Then r s) x
  left : {r s : Regex S} {x : List ℕ} → Matches has_char r x → Matches has_char (Or r s) x
  right : {r s : Regex S} {x : List ℕ} → Matches has_char s x → Matches has_char (Or r s) x
  stop : {r : Regex S} → Matches has_char (Many r) []
  more : {r : Regex S} {x : List ℕ} (v w : List ℕ) → x ≡ v ++ w → Matches has_char r v → Matches has_char (Many r) w → Matches has_char (Many r) x

-- A text that is cut into pieces of one length, from its start.
use Rattle.std.proofs.Common.{◌≡◌, ℕ, ◌≤◌, ◌<◌, List, [], ◌∷◌, ◌++◌, length, take, drop, refl, sym, subst, append_assoc}
use Rattle.gs_upload.specs.Readings.{ArePieces}

-- pieces of one length that come before the rest of a text
pub record Cutting (n : ℕ) (text rest : List ℕ) (pieces : List (List ℕ)) : Type 0 where
  pub join : (others : List (List ℕ)) → ArePieces n rest others → ArePieces n text (pieces ++ others)

pub cutting-more : (n : ℕ) (text rest piece back : List ℕ) (pieces : List (List ℕ)) → Cutting n text rest pieces → 0 < n → n < length rest → piece ≡ take n rest → back ≡ drop n rest
    → Cutting n text back (pieces ++ piece ∷ [])
cutting-more n text rest piece back pieces h some long is after = record {
  join = λ others are.
      let P : List (List ℕ) → Type 0 = λ z. ArePieces n text z in
      let Q : List ℕ → Type 0 = λ z. ArePieces n z others in
      subst P (sym (append_assoc pieces (piece ∷ []) others)) (h.join (piece ∷ others) (one others (subst Q after are)));
}
  where
    one : (others : List (List ℕ)) → ArePieces n (drop n rest) others → ArePieces n rest (piece ∷ others)
    one [] are = absurd are
    one (q ∷ qs) are = (some, long, is, are)

-- what is left is the last piece
pub cutting-last : (n : ℕ) (text rest : List ℕ) (pieces : List (List ℕ)) → Cutting n text rest pieces → (0 < n → length rest ≤ n) → ArePieces n text (pieces ++ rest ∷ [])
cutting-last n text rest pieces h short = h.join (rest ∷ []) (refl, short)

-- nothing is cut off yet
pub cutting-none : (n : ℕ) (text : List ℕ) → Cutting n text text []
cutting-none n text = record { join = λ others are. are }

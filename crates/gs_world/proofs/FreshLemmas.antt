-- Fresh connections, one after another.
use Rattle.std.proofs.Common.{◌≡◌, inl, inr, ◌⊎◌, ◌+◌, arith, ℕ, zero, suc, List, [], ◌∷◌, ◌++◌, length, Some, refl, sym, ap, subst, ◌∙◌}
use Rattle.std.specs.List.{slice_get}
use Rattle.std.proofs.lemmas.List.{length-append}
use Rattle.gs_talk.specs.Logs.{Server}
use Rattle.gs_world.specs.declared.connections.Connection.{Connection}
use Rattle.gs_world.specs.Happenings.{no_input}
use Rattle.gs_world.specs.Worlds.{HoldsTo, AreFresh}

-- an element of a list with one more at its end
last_or_before : {X : Type 0} (xs : List X) (x y : X) (i : ℕ) → slice_get (xs ++ x ∷ []) i ≡ Some y → (slice_get xs i ≡ Some y) ⊎ ((length xs ≡ i) × (x ≡ y))
last_or_before [] x y zero e = inr (refl, cc e)
last_or_before [] x y (suc i) e = cc
last_or_before (z ∷ zs) x y zero e = inl e
last_or_before (z ∷ zs) x y (suc i) e = go (last_or_before zs x y i e) where
  go : (slice_get zs i ≡ Some y) ⊎ ((length zs ≡ i) × (x ≡ y)) → (slice_get zs i ≡ Some y) ⊎ ((suc (length zs) ≡ suc i) × (x ≡ y))
  go (inl k) = inl k
  go (inr k) = inr (ap suc k.0, k.1)

pub none_fresh : (p : Server) → AreFresh p 0 []
none_fresh p = record { many = refl; each = λ c k e. cc }

pub more_fresh : (p : Server) (n : ℕ) (ks : List Connection) (k : Connection) → AreFresh p n ks → HoldsTo p n no_input [] k → AreFresh p (n + 1) (ks ++ k ∷ [])
more_fresh p n ks k f h = record { many = omega (arith, length-append ks (k ∷ []), f.many); each = each } where
  each : (c : ℕ) (j : Connection) → slice_get (ks ++ k ∷ []) c ≡ Some j → HoldsTo p c no_input [] j
  each c j e = go (last_or_before ks k j c e) where
    go : (slice_get ks c ≡ Some j) ⊎ ((length ks ≡ c) × (k ≡ j)) → HoldsTo p c no_input [] j
    go (inl g) = f.each c j g
    go (inr g) =
        subst (λ (i : ℕ). HoldsTo p i no_input [] j) (sym f.many ∙ g.0)
        (subst (λ (z : Connection). HoldsTo p n no_input [] z) g.1 h)

pub all_fresh : (p : Server) (n count : ℕ) (ks : List Connection) → AreFresh p n ks → n ≡ count → AreFresh p count ks
all_fresh p n count ks f e = subst (λ (m : ℕ). AreFresh p m ks) e f

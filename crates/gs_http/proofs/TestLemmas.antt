-- Tests that decide facts, and options that tests leave.
use Rattle.std.proofs.Common.{◌≡◌, ℕ, Bool, true, false, cond, List, refl, Option, Some, None}
use Rattle.std.specs.Prelude.{IsTrue}
use Rattle.std.specs.Bool.{Decides}
use Rattle.std.specs.List.{list_all}
use Rattle.std.proofs.lemmas.Bool.Decides.{Decides-by_and}
use Rattle.httparse.specs.Grammar.{AllPass}

-- each byte passes
pub AllPass-Decides : (test : ℕ → Bool) (xs : List ℕ) → Decides (list_all test xs) (AllPass test xs)
AllPass-Decides test xs = Decides-by_and test (λ b. IsTrue (test b)) (list_all test) (λ b. (λ e. e, λ e. e)) refl (λ _ _. refl) xs

-- what a test let through passed it
pub cond-Some : {A : Type 0} (t : Bool) (g h : A) → cond t (Some g) None ≡ Some h → (t ≡ true) × (g ≡ h)
cond-Some true g h e = (refl, cc)
cond-Some false g h e = cc

-- an option that can have no value has none
pub none-unless : {A : Type 0} (o : Option A) → ((a : A) → o ≡ Some a → ⊥) → o ≡ None
none-unless None f = refl
none-unless (Some a) f = absurd (f a refl)

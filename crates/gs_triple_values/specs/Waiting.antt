-- The triples that wait for what ends them.
use Rattle.std.specs.Prelude.{◌≡◌, ℕ, ◌+◌, ◌<◌, ◌≤◌, List, [], ◌∷◌, ◌++◌, length, Result, OnOk}
use Rattle.gs_token_terms.specs.declared.budgets.Budget.{Budget}
use Rattle.gs_triple_values.specs.Languages.{TypedLanguage}
use Rattle.gs_triple_values.specs.declared.pending.Pending.{Pending}

module _ {L S V X T K : Type 0} where
  -- how many triples wait by themselves
  abbrev pub by_themselves : Pending L S V X T K → ℕ
  by_themselves p = length p.others.items

  -- how many bytes were counted for all that wait
  abbrev pub counted_for : Pending L S V X T K → ℕ
  counted_for p = p.listed + p.counted

  -- A triple more was counted with so many bytes. Where fewer than 63 wait by themselves, it is one of these, and exactly its bytes
  -- count. With the 64th all join the list, and at most what was counted for them is taken off.
  pub record Counts (p q : Pending L S V X T K) (old new : Budget) (n : ℕ) : Type 0 where
    pub alone : by_themselves p < 63 → (by_themselves q ≡ by_themselves p + 1) × (new.used ≡ old.used + n)
    pub most : new.used ≤ old.used + n
    pub least : old.used ≤ new.used + counted_for p
    pub made : new.made ≡ old.made + n
    pub limit : new.most ≡ old.most

-- at most so many bytes are taken off
pub record TakesOff (old new : Budget) (n : ℕ) : Type 0 where
  pub most : new.used ≤ old.used
  pub least : old.used ≤ new.used + n
  pub made : new.made ≡ old.made
  pub limit : new.most ≡ old.most

-- in a language of the code
module _ {L S V X T K : Type 0} (l : TypedLanguage S V X T K) where
  -- those that have joined the list, and then the others
  abbrev pub waiting : Pending L S V X T K → List T
  waiting p = l.items p.list ++ p.others.items

  -- a call that has not failed added this triple
  abbrev pub Adds : {E : Type 0} → Result (Unit {0}) E → Pending L S V X T K → Pending L S V X T K → T → Type 0
  Adds r old new t = OnOk r (waiting new ≡ waiting old ++ t ∷ [])

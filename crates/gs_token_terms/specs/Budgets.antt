-- How much the texts of a request may take.
use Rattle.std.specs.Prelude.{◌≡◌, ℕ, ◌+◌, ◌-◌, ◌*◌, ◌^◌, min, Bool, true, false, ◌&&◌, nat_le, Result, Ok, Err}
use Rattle.gs_token_terms.specs.declared.budgets.Budget.{Budget}

-- the most bytes that the texts of a request may have of which so many bytes were read: 16 MiB, and 64 for each of them
abbrev pub most_after : ℕ → ℕ
most_after n = min (16_777_216 + min (n * 64) (2 ^ 64 - 1)) (2 ^ 64 - 1)

-- the most bytes that texts may have that were made, whether they are kept or not: 32 GiB more
abbrev pub most_made : Budget → ℕ
most_made b = min (b.most + 34_359_738_368) (2 ^ 64 - 1)

-- the budget of a text of which nothing was read
abbrev pub fresh_budget : Budget
fresh_budget = record { used = 0; made = 0; most = most_after 0 }

-- the same budget, where the text was read up to there
abbrev pub budget_read_to : Budget → ℕ → Budget
budget_read_to b end = record b { most = most_after end }

-- whether so many bytes more may be made
abbrev pub may_make : Budget → ℕ → Bool
may_make b n = nat_le (b.made + n) (most_made b)

-- whether so many bytes more may be made and kept
abbrev pub may_count : Budget → ℕ → Bool
may_count b n = nat_le (b.used + n) b.most && may_make b n

-- so many bytes more were made, or they are too many and were not
abbrev pub MakesBytes : {E : Type 0} → Result (Unit {0}) E → Budget → Budget → ℕ → Type 0
MakesBytes (Ok u) old new n = (new ≡ record old { made = old.made + n }) × (may_make old n ≡ true)
MakesBytes (Err e) old new n = (new ≡ old) × (may_make old n ≡ false)

-- so many bytes more were counted, or they are too many and were not
abbrev pub CountsBytes : {E : Type 0} → Result (Unit {0}) E → Budget → Budget → ℕ → Type 0
CountsBytes (Ok u) old new n = (new ≡ record old { used = old.used + n; made = old.made + n }) × (may_count old n ≡ true)
CountsBytes (Err e) old new n = (new ≡ old) × (may_count old n ≡ false)

-- of so many counted bytes so many are kept, at most all
abbrev pub traded : Budget → ℕ → ℕ → Budget
traded b counted kept = record b { used = b.used - (counted - kept) }

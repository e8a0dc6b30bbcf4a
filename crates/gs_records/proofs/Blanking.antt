-- A number has no entry any more.
use Rattle.std.proofs.Common.{◌≡◌, ◌≢◌, ℕ, ◌+◌, ◌<◌, ◌≤◌, true, ◌&&◌, ◌==◌, not, length, slice_set, refl, sym, ap, ◌∙◌, inl, inr, arith, get_or-set_same, get_or-set_other}
use Rattle.std.proofs.lemmas.Bool.{cases_eq, cases_lt, lt-ltb, ne_eqb}
use Rattle.std.proofs.lemmas.List.{length-set, get_or_past}
use Rattle.std.proofs.lemmas.Map.Views.{exact_unsigned_eq, any-filter_same}
use Rattle.gs_index.specs.declared.entries.Entry.{Entry}
use Rattle.gs_index.specs.Ages.{blank_entry}
use Rattle.gs_index.specs.Indexes.{Indexed, entry_at, is_listed, without_number}
use Rattle.gs_records.specs.Stored.{is_made, ListsMade}
use Rattle.gs_records.specs.Sweeps.{Blanks}
use Rattle.gs_records.proofs.Listing.{same_number}

-- what a commit made is listed
pub listed_made : (x : Indexed) (n : ℕ) → ListsMade x → 0 < (entry_at x.entries n).birth → is_listed n x.listed ≡ true
listed_made x n lists made = lists n ∙ lt-ltb 0 (entry_at x.entries n).birth made

-- what no commit made has none
pub blank_same : (x : Indexed) (n : ℕ) → ListsMade x → (entry_at x.entries n).birth ≡ 0 → Blanks x x n
blank_same x n lists none = record {
  many = refl;
  blank = none;
  others = λ m ne. refl;
  lists = lists;
  spare = omega arith;
}

module _ (x y : Indexed) (n : ℕ) (lists : ListsMade x) (entries : y.entries ≡ slice_set x.entries n blank_entry) (listed : y.listed ≡ without_number n x.listed) (spare : x.spare + 1 ≤ y.spare) where
  blank_many : length y.entries ≡ length x.entries
  blank_many = ap length entries ∙ length-set x.entries n blank_entry

  blank_now : entry_at y.entries n ≡ blank_entry
  blank_now = elim (cases_lt n (length x.entries)) [
    | inl lt ↦ ap (λ es. entry_at es n) entries ∙ rw get_or-set_same refl
    | inr past ↦ get_or_past y.entries n blank_entry (omega (arith, past, blank_many))
  ]

  blank_other : (m : ℕ) → m ≢ n → entry_at y.entries m ≡ entry_at x.entries m
  blank_other m ne = ap (λ es. entry_at es m) entries ∙ rw get_or-set_other refl

  -- what is listed is what was, without the number
  blank_lists : ListsMade y
  blank_lists m = ap (is_listed m) listed ∙ any-filter_same (λ k. k == m) (λ k. not (k == n)) (not (m == n)) (λ k e. ap (λ j. not (j == n)) (exact_unsigned_eq k m e)) x.listed ∙ elim (cases_eq m n) [
    | inl here ↦ ap (λ b. not b && is_listed m x.listed) (ap (λ k. k == n) here ∙ same_number n) ∙ sym (ap (λ k. is_made (entry_at y.entries k)) here ∙ ap is_made blank_now)
    | inr ne ↦ ap (λ b. not b && is_listed m x.listed) (ne_eqb m n ne) ∙ lists m ∙ sym (ap is_made (blank_other m ne))
  ]

  -- one that was listed is not any more
  pub blank_taken : Blanks x y n
  blank_taken = record {
    many = blank_many;
    blank = ap (λ (e : Entry). e.birth) blank_now;
    others = blank_other;
    lists = blank_lists;
    spare = omega (arith, spare);
  }

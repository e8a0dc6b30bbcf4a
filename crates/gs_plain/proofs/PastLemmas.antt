-- The dataset as it was after a commit: rows and ends of later commits change nothing of it.
use Rattle.std.proofs.Common.{◌≡◌, ℕ, zero, suc, ◌<◌, ◌≤◌, nat_lt, nat_le, true, false, cond, List, [], ◌∷◌, ◌++◌, Option, Some, None, is_some, IfSome, refl, sym, ap, ◌∙◌, arith}
use Rattle.std.specs.List.{slice_get, slice_set, fold}
use Rattle.std.proofs.lemmas.Bool.Decides.{nat_tests}
use Rattle.std.proofs.lemmas.List.Sums.{fold-append}
use Rattle.gs_event.specs.Datasets.{Dataset, empty_dataset, with_graph, without_graph}
use Rattle.gs_plain.specs.declared.books.Row.{Row}
use Rattle.gs_plain.specs.Books.{after_row, dataset_of}
use Rattle.gs_plain.specs.Past.{is_by, after_row_at, dataset_at, AreBy}
use Rattle.gs_plain.specs.Versions.{ended_row}

pub not_below : (m n : ℕ) → n ≤ m → nat_lt m n ≡ false
not_below m n h = grind (arith, nat_tests)

pub below : (m n : ℕ) → m < n → nat_lt m n ≡ true
below m n h = grind (arith, nat_tests)

not_at_most : (m n : ℕ) → n < m → nat_le m n ≡ false
not_at_most m n h = grind (arith, nat_tests)

at_most : (m n : ℕ) → m ≤ n → nat_le m n ≡ true
at_most m n h = grind (arith, nat_tests)

-- one row more
pub past_more : (v : ℕ) (rows : List Row) (row : Row) → dataset_at v (rows ++ row ∷ []) ≡ after_row_at v (dataset_at v rows) row
past_more v rows row = fold-append (λ m (r : Row). after_row_at v m r) empty_dataset rows (row ∷ [])

-- a row of a later commit
pub past_push : (v : ℕ) (rows : List Row) (row : Row) → v < row.birth → dataset_at v (rows ++ row ∷ []) ≡ dataset_at v rows
past_push v rows row later =
    past_more v rows row
    ∙ ap (λ b. cond b (dataset_at v rows) (cond (is_by v row.ended) (without_graph (dataset_at v rows) row.target) (with_graph (dataset_at v rows) row.target row.graph))) (below v row.birth later)

same_end : (v commit : ℕ) → v < commit → (m : Dataset) (row : Row) → row.ended ≡ None → after_row_at v m (ended_row commit row) ≡ after_row_at v m row
same_end v commit later m row stays =
    let ends : is_by v (Some commit) ≡ is_by v row.ended = not_at_most commit v later ∙ sym (ap (is_by v) stays) in
    ap (λ b. cond (nat_lt v row.birth) m (cond b (without_graph m row.target) (with_graph m row.target row.graph))) ends

-- what is there is one row
pub same_row : (r row : Row) → Some r ≡ Some row → r ≡ row
same_row r row e = ap (λ (o : Option Row). elim o [ None ↦ r | Some x ↦ x ]) e

end_from : (v commit : ℕ) → v < commit → (m : Dataset) (rows : List Row) (i : ℕ) (row : Row) → slice_get rows i ≡ Some row → row.ended ≡ None
    → fold (λ m (r : Row). after_row_at v m r) m (slice_set rows i (ended_row commit row)) ≡ fold (λ m (r : Row). after_row_at v m r) m rows
end_from v commit later m [] i row is stays = refl
end_from v commit later m (r ∷ rows) zero row is stays =
    ap (λ n. fold (λ m (r : Row). after_row_at v m r) n rows) (same_end v commit later m row stays ∙ ap (after_row_at v m) (sym (same_row r row is)))
end_from v commit later m (r ∷ rows) (suc i) row is stays = end_from v commit later (after_row_at v m r) rows i row is stays

-- a row that is ended by a later commit
pub past_end : (v commit : ℕ) → v < commit → (rows : List Row) (i : ℕ) (row : Row) → slice_get rows i ≡ Some row → row.ended ≡ None → dataset_at v (slice_set rows i (ended_row commit row)) ≡ dataset_at v rows
past_end v commit later rows i row is stays = end_from v commit later empty_dataset rows i row is stays

by_now : (commit : ℕ) (o : Option ℕ) → IfSome o (λ death. death ≤ commit) → is_by commit o ≡ is_some o
by_now commit None h = refl
by_now commit (Some death) h = at_most death commit h

now_from : (commit : ℕ) (m : Dataset) (rows : List Row) → AreBy commit rows → fold (λ m (r : Row). after_row_at commit m r) m rows ≡ fold (λ m (r : Row). after_row m r) m rows
now_from commit m [] h = refl
now_from commit m (r ∷ rows) h =
    let ended : cond (is_by commit r.ended) (without_graph m r.target) (with_graph m r.target r.graph) ≡ after_row m r = ap (λ b. cond b (without_graph m r.target) (with_graph m r.target r.graph)) (by_now commit r.ended h.0.1) in
    let step : after_row_at commit m r ≡ after_row m r = ap (λ b. cond b m (cond (is_by commit r.ended) (without_graph m r.target) (with_graph m r.target r.graph))) (not_below commit r.birth h.0.0) ∙ ended in
    ap (λ n. fold (λ m (r : Row). after_row_at commit m r) n rows) step ∙ now_from commit (after_row m r) rows h.1

-- as of the last commit the dataset is what it is now
pub past_now : (commit : ℕ) (rows : List Row) → AreBy commit rows → dataset_at commit rows ≡ dataset_of rows
past_now commit rows h = now_from commit empty_dataset rows h

later_end : (m n : ℕ) → m ≤ n → (o : Option ℕ) → IfSome o (λ death. death ≤ m) → IfSome o (λ death. death ≤ n)
later_end m n le None h = h
later_end m n le (Some death) h = omega arith

-- one commit more
pub dated_more : (m n : ℕ) → m ≤ n → (rows : List Row) → AreBy m rows → AreBy n rows
dated_more m n le [] h = h
dated_more m n le (r ∷ rows) h = ((omega (arith, h.0.0), later_end m n le r.ended h.0.1), dated_more m n le rows h.1)

-- one row more, which that commit made
pub dated_push : (commit : ℕ) (rows : List Row) (row : Row) → row.birth ≤ commit → row.ended ≡ None → AreBy commit rows → AreBy commit (rows ++ row ∷ [])
dated_push commit [] row made stays h = ((made, rw stays tt), tt)
dated_push commit (r ∷ rows) row made stays h = (h.0, dated_push commit rows row made stays h.1)

-- a row is ended by that commit
pub dated_end : (commit : ℕ) (rows : List Row) (i : ℕ) (row : Row) → slice_get rows i ≡ Some row → AreBy commit rows → AreBy commit (slice_set rows i (ended_row commit row))
dated_end commit [] i row is h = h
dated_end commit (r ∷ rows) zero row is h = ((rw (sym (ap (λ (x : Row). x.birth) (same_row r row is))) h.0.0, omega arith), h.1)
dated_end commit (r ∷ rows) (suc i) row is h = (h.0, dated_end commit rows i row is h.1)

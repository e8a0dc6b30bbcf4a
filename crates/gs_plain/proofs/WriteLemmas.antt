-- What a write makes of the rows and the counts.
use Rattle.std.proofs.Common.{◌≡◌, ℕ, zero, suc, ◌+◌, ◌<◌, Bool, true, false, cond, List, [], ◌∷◌, ◌++◌, length, Option, Some, None, is_some, refl, sym, ap, ◌∙◌, subst, arith, length-append}
use Rattle.std.specs.List.{slice_get, slice_set, fold}
use Rattle.std.proofs.lemmas.List.Sums.{fold-append}
use Rattle.gs_model.specs.Graphs.{Graph}
use Rattle.gs_term.specs.declared.names.Target.{Target}
use Rattle.gs_event.specs.Datasets.{Dataset, empty_dataset, with_graph, without_graph, graph_at, is_there}
use Rattle.gs_event.specs.Operations.{is_within, Setting, stored_status, is_success}
use Rattle.gs_plain.specs.declared.books.Row.{Row}
use Rattle.gs_plain.specs.Books.{after_row, dataset_of, lines_of_row, KeepsRows}
use Rattle.gs_plain.specs.Versions.{ended_row}
use Rattle.gs_plain.specs.Newest.{target_eq, AreOthers, IsLastRow}
use Rattle.gs_plain.proofs.PastLemmas.{past_push, past_end}
use Rattle.gs_plain.proofs.RowLemmas.{graph_at-without_graph, graph_at-after_row, at_row, same_dataset, target_eq-true}

-- rows that stay
pub same_rows : (commit : ℕ) (rows : List Row) → KeepsRows commit rows rows
same_rows commit rows = record { grows = omega arith; same = λ i h. refl; past = λ v h. refl }

pub get_before : {X : Type 0} (xs ys : List X) (i : ℕ) → i < length xs → slice_get (xs ++ ys) i ≡ slice_get xs i
get_before [] ys i h = absurd (omega arith)
get_before (x ∷ xs) ys zero h = refl
get_before (x ∷ xs) ys (suc i) h = get_before xs ys i (omega arith)

pub rows_push : (commit : ℕ) (rows : List Row) (row : Row) → commit < row.birth → KeepsRows commit rows (rows ++ row ∷ [])
rows_push commit rows row later = record {
  grows = omega (arith, length-append rows (row ∷ []));
  same = λ i h. ap lines_of_row (get_before rows (row ∷ []) i h);
  past = λ v h. past_push v rows row (omega arith);
}

same_lines : (commit : ℕ) (rows : List Row) (i j : ℕ) (row : Row) → slice_get rows i ≡ Some row → lines_of_row (slice_get (slice_set rows i (ended_row commit row)) j) ≡ lines_of_row (slice_get rows j)
same_lines commit [] i j row is = refl
same_lines commit (r ∷ rows) zero zero row is = sym (ap lines_of_row is)
same_lines commit (r ∷ rows) zero (suc j) row is = refl
same_lines commit (r ∷ rows) (suc i) zero row is = refl
same_lines commit (r ∷ rows) (suc i) (suc j) row is = same_lines commit rows i j row is

same_length : (rows : List Row) (i : ℕ) (row : Row) → length (slice_set rows i row) ≡ length rows
same_length [] i row = refl
same_length (r ∷ rows) zero row = refl
same_length (r ∷ rows) (suc i) row = ap suc (same_length rows i row)

pub rows_end : (commit : ℕ) (rows : List Row) (i : ℕ) (row : Row) → slice_get rows i ≡ Some row → row.ended ≡ None → KeepsRows commit rows (slice_set rows i (ended_row (commit + 1) row))
rows_end commit rows i row is stays = record {
  grows = omega (arith, same_length rows i (ended_row (commit + 1) row));
  same = λ j h. same_lines (commit + 1) rows i j row is;
  past = λ v h. past_end v (commit + 1) (omega arith) rows i row is stays;
}

-- the graph of a target after rows
abbrev fold_at : Target → Option Graph → List Row → Option Graph
fold_at u o [] = o
fold_at u o (r ∷ rs) = fold_at u (at_row u r o) rs

graph_at-fold : (u : Target) (m : Dataset) (rs : List Row) → graph_at (fold (λ m r. after_row m r) m rs) u ≡ fold_at u (graph_at m u) rs
graph_at-fold u m [] = refl
graph_at-fold u m (r ∷ rs) = graph_at-fold u (after_row m r) rs ∙ ap (λ o. fold_at u o rs) (graph_at-after_row m r u)

graph_at-parts : (u : Target) (before : List Row) (row : Row) (later : List Row) → graph_at (dataset_of (before ++ row ∷ later)) u ≡ fold_at u (at_row u row (graph_at (dataset_of before) u)) later
graph_at-parts u before row later = ap (λ m. graph_at m u) (fold-append (λ m (r : Row). after_row m r) empty_dataset before (row ∷ later)) ∙ graph_at-fold u (dataset_of before) (row ∷ later)

past_others : (t : Target) (o : Option Graph) (rs : List Row) → AreOthers t rs → fold_at t o rs ≡ o
past_others t o [] h = refl
past_others t o (r ∷ rs) h = ap (λ b. fold_at t (cond b (cond (is_some r.ended) (graph_at empty_dataset t) (Some r.graph)) o) rs) h.0 ∙ past_others t o rs h.1

-- a row in the place of another
pub set_parts : (before : List Row) (row new : Row) (later : List Row) → slice_set (before ++ row ∷ later) (length before) new ≡ before ++ new ∷ later
set_parts [] row new later = refl
set_parts (r ∷ before) row new later = ap (λ rs. r ∷ rs) (set_parts before row new later)

-- the newest row of a target is ended: the target's graph is gone, and every other is as it was
pub dataset_end : (commit : ℕ) (rows : List Row) (t : Target) (i : ℕ) (l : IsLastRow rows t i) → dataset_of (slice_set rows i (ended_row commit l.row)) ≡ without_graph (dataset_of rows) t
dataset_end commit rows t i l =
    let set : slice_set rows i (ended_row commit l.row) ≡ l.before ++ ended_row commit l.row ∷ l.later =
    ap (λ rs. slice_set rs i (ended_row commit l.row)) l.parts ∙ ap (λ n. slice_set (l.before ++ l.row ∷ l.later) n (ended_row commit l.row)) l.place ∙ set_parts l.before l.row (ended_row commit l.row) l.later in
    same_dataset _ _ (λ u. ap (λ rs. graph_at (dataset_of rs) u) set ∙ graph_at-parts u l.before (ended_row commit l.row) l.later ∙ at_target u (target_eq t u) refl ∙ sym (graph_at-without_graph (dataset_of rows) t u))
  where
    at_target : (u : Target) (b : Bool) → target_eq t u ≡ b → fold_at u (at_row u (ended_row commit l.row) (graph_at (dataset_of l.before) u)) l.later ≡ cond (target_eq t u) (graph_at empty_dataset u) (graph_at (dataset_of rows) u)
    at_target u true e =
        let same = target_eq-true t u e in
        let own : target_eq l.row.target u ≡ true = subst (λ x. target_eq l.row.target x ≡ true) same l.same in
        past_others u _ l.later (subst (λ x. AreOthers x l.later) same l.others)
        ∙ ap (λ b. cond b (graph_at empty_dataset u) (graph_at (dataset_of l.before) u)) own
        ∙ sym (ap (λ b. cond b (graph_at empty_dataset u) (graph_at (dataset_of rows) u)) e)
    at_target u false e =
        let other : target_eq l.row.target u ≡ false = ap (λ x. target_eq x u) (target_eq-true l.row.target t l.same) ∙ e in
        ap (λ b. fold_at u (cond b (graph_at empty_dataset u) (graph_at (dataset_of l.before) u)) l.later) other
        ∙ sym (ap (λ b. fold_at u (cond b (cond (is_some l.row.ended) (graph_at empty_dataset u) (Some l.row.graph)) (graph_at (dataset_of l.before) u)) l.later) other)
        ∙ sym (graph_at-parts u l.before l.row l.later)
        ∙ sym (ap (λ rs. graph_at (dataset_of rs) u) l.parts)
        ∙ sym (ap (λ b. cond b (graph_at empty_dataset u) (graph_at (dataset_of rows) u)) e)

-- a target without a graph of its own loses nothing
pub dataset_without : (m : Dataset) (t : Target) → graph_at m t ≡ graph_at empty_dataset t → m ≡ without_graph m t
dataset_without m t none = same_dataset _ _ (λ u. at_target u (target_eq t u) refl ∙ sym (graph_at-without_graph m t u))
  where
    at_target : (u : Target) (b : Bool) → target_eq t u ≡ b → graph_at m u ≡ cond (target_eq t u) (graph_at empty_dataset u) (graph_at m u)
    at_target u true e = subst (λ x. graph_at m x ≡ graph_at empty_dataset x) (target_eq-true t u e) none ∙ sym (ap (λ b. cond b (graph_at empty_dataset u) (graph_at m u)) e)
    at_target u false e = sym (ap (λ b. cond b (graph_at empty_dataset u) (graph_at m u)) e)

-- a graph that is stored has a status of success
pub stored_well : (w : Setting) (m : Dataset) (t : Target) (g : Graph) → is_within w.limits (with_graph m t g) ≡ true → is_success (stored_status w m t g) ≡ true
stored_well w m t g fits = ap (λ b. is_success (cond b (cond (is_there m t) 204 201) 507)) fits ∙ elim (is_there m t) as (λ b. is_success (cond b 204 201) ≡ true) [ true ↦ refl | false ↦ refl ]

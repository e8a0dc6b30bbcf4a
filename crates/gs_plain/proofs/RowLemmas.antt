-- Rows as a dataset: the newest row of a target says its graph. There are no more names than rows.
use Rattle.std.proofs.Common.{take, get_or, subst, length-take-le, ◌≡◌, ℕ, ◌+◌, ◌-◌, ◌<◌, ◌≤◌, Bool, true, false, cond, ◌||◌, List, [], ◌∷◌, ◌++◌, length, Option, Some, None, is_some, IfSome, refl, sym, ap, ◌∙◌, arith, map as map_each, rules, append_assoc, length-append}
use Rattle.std.specs.List.{slice_get, fold}
use Rattle.std.specs.Str.{bytes_eq}
use Rattle.std.specs.FinMap as map
use Rattle.std.specs.Cmp.{eq_by_cmp_equiv}
use Rattle.std.proofs.lemmas.List.{take_more, take_all}
use Rattle.std.proofs.lemmas.Option.{slice_get-get_or}
use Rattle.std.proofs.lemmas.List.Sums.{fold-append}
use Rattle.gs_model.specs.Triples.{line_of}
use Rattle.gs_model.specs.Graphs.{Graph}
use Rattle.gs_model.proofs.GraphLemmas.{triples_of-empty}
use Rattle.gs_model.proofs.TextLemmas.{same_text}
use Rattle.gs_term.specs.contracts.names.GraphNameOrd.TheImpl.Laws.{matches_eq-law}
use Rattle.gs_term.specs.contracts.names.TargetPartialEq.TheImpl as TargetPartialEq
use Rattle.gs_term.specs.declared.names.Target.{Target}
use Rattle.gs_term.specs.declared.names.Target.TheVariants.{Default, Named}
use Rattle.gs_term.specs.Names.{name_cmp}
use Rattle.gs_term.proofs.NameLemmas.{name_total, name_exact}
use Rattle.gs_event.specs.Datasets.{Dataset, empty_dataset, with_graph, without_graph, graph_at, is_there, lines_if, names_in}
use Rattle.gs_event.proofs.DatasetLemmas.{names_in-with_graph, names_in-empty}
use Rattle.gs_plain.specs.declared.books.Row.{Row}
use Rattle.gs_plain.specs.Books.{after_row, dataset_of, lines_of_row, is_default}
use Rattle.gs_plain.specs.Newest.{target_eq, graph_of_row, graph_by, AreOthers, IsLastRow, NewestRow}

pub dataset_push : (rows : List Row) (row : Row) → dataset_of (rows ++ row ∷ []) ≡ after_row (dataset_of rows) row
dataset_push rows row = fold-append (λ m (r : Row). after_row m r) empty_dataset rows (row ∷ [])

pub graph_at-with_graph : (m : Dataset) (t u : Target) (g : Graph) → graph_at (with_graph m t g) u ≡ cond (target_eq t u) (Some g) (graph_at m u)
graph_at-with_graph m Default Default g = refl
graph_at-with_graph m Default (Named b) g = refl
graph_at-with_graph m (Named a) Default g = refl
graph_at-with_graph m (Named a) (Named b) g = map.get-insert name_total m.named a g b ∙ ap (λ e. cond e (Some g) (map.get m.named b)) ((eq_by_cmp_equiv name_total).symm b a ∙ sym (matches_eq-law a b))

pub graph_at-without_graph : (m : Dataset) (t u : Target) → graph_at (without_graph m t) u ≡ cond (target_eq t u) (graph_at empty_dataset u) (graph_at m u)
graph_at-without_graph m Default Default = refl
graph_at-without_graph m Default (Named b) = refl
graph_at-without_graph m (Named a) Default = refl
graph_at-without_graph m (Named a) (Named b) =
    map.get-remove name_total m.named a b
    ∙ ap (λ e. cond e None (map.get m.named b)) ((eq_by_cmp_equiv name_total).symm b a ∙ sym (matches_eq-law a b))
    ∙ ap (λ o. cond (bytes_eq a b) o (map.get m.named b)) (sym (map.get-empty name_cmp b))

-- what a row makes of the graph of a target
abbrev pub at_row : Target → Row → Option Graph → Option Graph
at_row u r o = cond (target_eq r.target u) (cond (is_some r.ended) (graph_at empty_dataset u) (Some r.graph)) o

pub graph_at-after_row : (m : Dataset) (r : Row) (u : Target) → graph_at (after_row m r) u ≡ at_row u r (graph_at m u)
graph_at-after_row m r u =
    elim (is_some r.ended) as (λ b. graph_at (cond b (without_graph m r.target) (with_graph m r.target r.graph)) u ≡ cond (target_eq r.target u) (cond b (graph_at empty_dataset u) (Some r.graph)) (graph_at m u)) [
      | true ↦ graph_at-without_graph m r.target u
      | false ↦ graph_at-with_graph m r.target u r.graph
    ]

-- two datasets with the same graphs are one
pub same_dataset : (m n : Dataset) → ((u : Target) → graph_at m u ≡ graph_at n u) → m ≡ n
same_dataset m n alike =
    let unnamed : m.unnamed ≡ n.unnamed = some_injective m.unnamed n.unnamed (alike Default) in
    let named : m.named ≡ n.named = map.same_map name_total name_exact m.named n.named (λ a. alike (Named a)) in
    λ i. record { unnamed = unnamed i; named = named i }
  where
    some_injective : (g h : Graph) → Some g ≡ Some h → g ≡ h
    some_injective g h e = ap (λ (o : Option Graph). elim o [ None ↦ g | Some x ↦ x ]) e

pub target_eq-true : (t u : Target) → target_eq t u ≡ true → t ≡ u
target_eq-true Default Default e = refl
target_eq-true Default (Named b) e = absurd (Prim.cc)
target_eq-true (Named a) Default e = absurd (Prim.cc)
target_eq-true (Named a) (Named b) e = ap Named (same_text a b e)

-- the row that is found in a front of the rows
pub record IsNewest (rows front : List Row) (t : Target) (found : Option ℕ) : Type 0 where
  pub graph : graph_at (dataset_of front) t ≡ graph_by rows t found
  pub within : IfSome found (λ i. i < length front)
  pub last : IfSome found (IsLastRow front t)

pub newest_none : (rows : List Row) (t : Target) → IsNewest rows [] t None
newest_none rows t = record { graph = refl; within = search rules; last = search rules }

further : (found : Option ℕ) (m n : ℕ) → m ≤ n → IfSome found (λ k. k < m) → IfSome found (λ k. k < n)
further None m n le h = h
further (Some k) m n le h = omega arith

others_push : (t : Target) (rs : List Row) (r : Row) → AreOthers t rs → target_eq r.target t ≡ false → AreOthers t (rs ++ r ∷ [])
others_push t [] r h k = (k, tt)
others_push t (x ∷ rs) r h k = (h.0, others_push t rs r h.1 k)

still_last : (front : List Row) (row : Row) (t : Target) (found : Option ℕ) → target_eq row.target t ≡ false → IfSome found (IsLastRow front t) → IfSome found (IsLastRow (front ++ row ∷ []) t)
still_last front row t None other h = h
still_last front row t (Some j) other h = record {
  before = h.before;
  row = h.row;
  later = h.later ++ row ∷ [];
  parts = ap (λ rs. rs ++ row ∷ []) h.parts ∙ append_assoc h.before (h.row ∷ h.later) (row ∷ []);
  place = h.place;
  same = h.same;
  stays = h.stays;
  others = others_push t h.later row h.others other;
}

none_left : (o : Option ℕ) → is_some o ≡ false → o ≡ None
none_left None e = refl
none_left (Some x) e = absurd (Prim.cc)

-- one row more
pub newest_more : (rows front : List Row) (row : Row) (t : Target) (found : Option ℕ) (same : Bool) → slice_get rows (length front) ≡ Some row → target_eq row.target t ≡ same → IsNewest rows front t found
    → IsNewest rows (front ++ row ∷ []) t (cond same (cond (is_some row.ended) None (Some (length front))) found)
newest_more rows front row t found true at same sofar =
    let here : graph_at (dataset_of (front ++ row ∷ [])) t ≡ cond (is_some row.ended) (graph_at empty_dataset t) (Some row.graph) =
    ap (λ m. graph_at m t) (dataset_push front row) ∙ graph_at-after_row (dataset_of front) row t
    ∙ ap (λ b. cond b (cond (is_some row.ended) (graph_at empty_dataset t) (Some row.graph)) (graph_at (dataset_of front) t)) same in
    elim (is_some row.ended) as (λ b. is_some row.ended ≡ b → graph_at (dataset_of (front ++ row ∷ [])) t ≡ cond b (graph_at empty_dataset t) (Some row.graph) → IsNewest rows (front ++ row ∷ []) t (cond b None (Some (length front)))) [
      | true ↦ λ e is. record { graph = is; within = search rules; last = search rules }
      | false ↦ λ e is. record {
        graph = is ∙ sym (ap graph_of_row at);
        within = omega (arith, length-append front (row ∷ []));
        last = record { before = front; row = row; later = []; parts = refl; place = refl; same = same; stays = none_left row.ended e; others = tt };
      }
    ] refl here
newest_more rows front row t found false at same sofar =
    record {
      graph =
          ap (λ m. graph_at m t) (dataset_push front row) ∙ graph_at-after_row (dataset_of front) row t
          ∙ ap (λ b. cond b (cond (is_some row.ended) (graph_at empty_dataset t) (Some row.graph)) (graph_at (dataset_of front) t)) same ∙ sofar.graph;
      within = further found (length front) (length (front ++ row ∷ [])) (omega (arith, length-append front (row ∷ []))) sofar.within;
      last = still_last front row t found same sofar.last;
    }

empty_lines : (t : Target) → [] ≡ lines_if (graph_at empty_dataset t)
empty_lines Default = sym (ap (map_each line_of) triples_of-empty)
empty_lines (Named n) = sym (ap lines_if (map.get-empty name_cmp n))

empty_there : (t : Target) → (is_default t || false) ≡ is_some (graph_at empty_dataset t)
empty_there Default = refl
empty_there (Named n) = sym (ap is_some (map.get-empty name_cmp n))

pub or_true : (a : Bool) → (a || true) ≡ true
or_true true = refl
or_true false = refl

row_lines_are : (o : Option Row) → lines_of_row o ≡ lines_if (graph_of_row o)
row_lines_are None = refl
row_lines_are (Some row) = refl

pub get_after : (before : List Row) (row : Row) (later : List Row) → slice_get (before ++ row ∷ later) (length before) ≡ Some row
get_after [] row later = refl
get_after (x ∷ before) row later = get_after before row later

-- the row of IsLastRow is at its place
pub last_at : (rows : List Row) (t : Target) (i : ℕ) (l : IsLastRow rows t i) → slice_get rows i ≡ Some l.row
last_at rows t i l = ap (λ rs. slice_get rs i) l.parts ∙ ap (slice_get (l.before ++ l.row ∷ l.later)) l.place ∙ get_after l.before l.row l.later

-- what is found in all rows
pub newest_row : (rows : List Row) (t : Target) (found : Option ℕ) → IsNewest rows rows t found → NewestRow rows t found
newest_row rows t None all = record {
  graph = all.graph;
  lines = empty_lines t ∙ sym (ap lines_if all.graph);
  there = empty_there t ∙ sym (ap is_some all.graph);
  within = all.within;
  last = all.last;
}
newest_row rows t (Some i) all = record {
  graph = all.graph;
  lines = row_lines_are (slice_get rows i) ∙ sym (ap lines_if all.graph);
  there = or_true (is_default t) ∙ sym (ap (λ o. is_some (graph_of_row o)) (last_at rows t i all.last)) ∙ sym (ap is_some all.graph);
  within = all.within;
  last = all.last;
}

-- what the derived `==` computes
pub derived_eq : (a b : Target) → (TargetPartialEq.ghosts).eq a b ≡ target_eq a b
derived_eq Default Default = refl
derived_eq Default (Named b) = refl
derived_eq (Named a) Default = refl
derived_eq (Named a) (Named b) = refl

-- one step of the search
pub newest_step : (rows : List Row) (i : ℕ) (row : Row) (t : Target) (found : Option ℕ) (same : Bool) → i < length rows → row ≡ get_or rows i row → target_eq row.target t ≡ same → IsNewest rows (take i rows) t found
    → IsNewest rows (take (i + 1) rows) t (cond same (cond (is_some row.ended) None (Some i)) found)
newest_step rows i row t found same within is tests sofar =
    let long : length (take i rows) ≡ i = length-take-le i rows (omega arith) in
    let at : slice_get rows (length (take i rows)) ≡ Some row = ap (slice_get rows) long ∙ slice_get-get_or rows i row within ∙ ap Some (sym is) in
    let next = newest_more rows (take i rows) row t found same at tests sofar in
    let grown : take i rows ++ row ∷ [] ≡ take (i + 1) rows = ap (λ r. take i rows ++ r ∷ []) is ∙ sym (take_more rows i row within) in
    let moved = subst (λ n. IsNewest rows (take i rows ++ row ∷ []) t (cond same (cond (is_some row.ended) None (Some n)) found)) long next in
    subst (λ front. IsNewest rows front t (cond same (cond (is_some row.ended) None (Some i)) found)) grown moved

pub newest_end : (rows : List Row) (i : ℕ) (t : Target) (found : Option ℕ) → length rows ≤ i → IsNewest rows (take i rows) t found → NewestRow rows t found
newest_end rows i t found past all = newest_row rows t found (subst (λ front. IsNewest rows front t found) (take_all i rows past) all)

one_at_most : (b : Bool) (n : ℕ) → cond b n (n + 1) ≤ n + 1
one_at_most true n = omega arith
one_at_most false n = omega arith

one_less : (b : Bool) (n : ℕ) → cond b (n - 1) n ≤ n + 1
one_less true n = omega arith
one_less false n = omega arith

name_less : (m : Dataset) (t : Target) → names_in (without_graph m t) ≤ names_in m + 1
name_less m Default = omega arith
name_less m (Named n) = omega (arith, map.len-remove name_total m.named n, one_less (is_some (map.get m.named n)) (names_in m))

name_more : (m : Dataset) (r : Row) → names_in (after_row m r) ≤ names_in m + 1
name_more m r =
    elim (is_some r.ended) as (λ b. names_in (cond b (without_graph m r.target) (with_graph m r.target r.graph)) ≤ names_in m + 1) [
      | true ↦ name_less m r.target
      | false ↦ omega (arith, names_in-with_graph m r.target r.graph, one_at_most (is_there m r.target) (names_in m))
    ]

names_after : (m : Dataset) (rows : List Row) → names_in (fold (λ m (r : Row). after_row m r) m rows) ≤ names_in m + length rows
names_after m [] = omega arith
names_after m (r ∷ rows) = omega (arith, names_after (after_row m r) rows, name_more m r)

-- there are no more names than rows
pub names_few : (rows : List Row) → names_in (dataset_of rows) ≤ length rows
names_few rows = omega (arith, names_in-empty, names_after empty_dataset rows)

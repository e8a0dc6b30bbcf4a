-- The numbers of the last writes, by the rows: the newest row of a name says when the name was written last.
use Rattle.std.proofs.Common.{◌≡◌, ℕ, Bool, true, false, cond, List, [], ◌∷◌, ◌++◌, Option, Some, None, is_some, refl, sym, ap, ◌∙◌, subst}
use Rattle.std.specs.Option.{unwrap_or}
use Rattle.std.specs.List.{slice_get, slice_set, fold}
use Rattle.std.specs.FinMap as map
use Rattle.std.specs.Cmp.{eq_by_cmp_equiv}
use Rattle.std.proofs.lemmas.List.Sums.{fold-append}
use Rattle.gs_model.specs.Graphs.{Graph}
use Rattle.gs_term.specs.contracts.names.GraphNameOrd.TheImpl.Laws.{matches_eq-law}
use Rattle.gs_term.specs.declared.names.Target.{Target}
use Rattle.gs_term.specs.declared.names.Target.TheVariants.{Default, Named}
use Rattle.gs_term.specs.Names.{name_cmp}
use Rattle.gs_term.proofs.NameLemmas.{name_total, name_exact}
use Rattle.gs_event.specs.Datasets.{Dataset, empty_dataset, graph_at, is_there}
use Rattle.gs_event.specs.Conditions.{LastWrites, with_write, with_delete}
use Rattle.gs_plain.specs.declared.books.Row.{Row}
use Rattle.gs_plain.specs.declared.books.Books.{Books}
use Rattle.gs_plain.specs.Books.{after_row, dataset_of}
use Rattle.gs_plain.specs.LastWrites.{written_after, names_written, default_after, removal_after, last_write_by}
use Rattle.gs_plain.specs.Versions.{ended_row}
use Rattle.gs_plain.specs.Newest.{target_eq, AreOthers, IsLastRow, NewestRow}
use Rattle.gs_plain.proofs.PastLemmas.{same_row}
use Rattle.gs_plain.proofs.RowLemmas.{graph_at-after_row, target_eq-true, last_at}
use Rattle.gs_plain.proofs.WriteLemmas.{set_parts}

abbrev Written : Type 0
Written = map.FinMap name_cmp ℕ

abbrev fold_written : Written → List Row → Written
fold_written k rows = fold (λ k (r : Row). written_after k r.target r.birth r.ended) k rows

-- what a row makes of the number of a name
abbrev at_written : List ℕ → Target → ℕ → Option ℕ → Option ℕ → Option ℕ
at_written n t birth ended o = cond (target_eq t (Named n)) (cond (is_some ended) None (Some birth)) o

get-written_after : (k : Written) (t : Target) (birth : ℕ) (ended : Option ℕ) (n : List ℕ) → map.get (written_after k t birth ended) n ≡ at_written n t birth ended (map.get k n)
get-written_after k Default birth ended n = refl
get-written_after k (Named a) birth None n =
    map.get-insert name_total k a birth n ∙ ap (λ e. cond e (Some birth) (map.get k n)) ((eq_by_cmp_equiv name_total).symm n a ∙ sym (matches_eq-law a n))
get-written_after k (Named a) birth (Some c) n =
    map.get-remove name_total k a n ∙ ap (λ e. cond e None (map.get k n)) ((eq_by_cmp_equiv name_total).symm n a ∙ sym (matches_eq-law a n))

-- later rows make the same of the same number
get-fold_written : (j k : Written) (rows : List Row) (n : List ℕ) → map.get j n ≡ map.get k n → map.get (fold_written j rows) n ≡ map.get (fold_written k rows) n
get-fold_written j k [] n same = same
get-fold_written j k (r ∷ rows) n same =
    get-fold_written (written_after j r.target r.birth r.ended) (written_after k r.target r.birth r.ended) rows n
    (get-written_after j r.target r.birth r.ended n ∙ ap (at_written n r.target r.birth r.ended) same ∙ sym (get-written_after k r.target r.birth r.ended n))

-- rows of other targets change nothing of it
get-others : (k : Written) (rows : List Row) (n : List ℕ) → AreOthers (Named n) rows → map.get (fold_written k rows) n ≡ map.get k n
get-others k [] n h = refl
get-others k (r ∷ rows) n h =
    get-others (written_after k r.target r.birth r.ended) rows n h.1
    ∙ get-written_after k r.target r.birth r.ended n
    ∙ ap (λ b. cond b (cond (is_some r.ended) None (Some r.birth)) (map.get k n)) h.0

names_written-parts : (before : List Row) (row : Row) (later : List Row) → names_written (before ++ row ∷ later) ≡ fold_written (written_after (names_written before) row.target row.birth row.ended) later
names_written-parts before row later = fold-append (λ k (r : Row). written_after k r.target r.birth r.ended) map.empty before (row ∷ later)

-- the newest row of a name
get-last : (rows : List Row) (n : List ℕ) (i : ℕ) (l : IsLastRow rows (Named n) i) → map.get (names_written rows) n ≡ Some l.row.birth
get-last rows n i l =
    ap (λ rs. map.get (names_written rs) n) l.parts
    ∙ ap (λ k. map.get k n) (names_written-parts l.before l.row l.later)
    ∙ get-others (written_after (names_written l.before) l.row.target l.row.birth l.row.ended) l.later n l.others
    ∙ get-written_after (names_written l.before) l.row.target l.row.birth l.row.ended n
    ∙ ap (λ b. cond b (cond (is_some l.row.ended) None (Some l.row.birth)) (map.get (names_written l.before) n)) l.same
    ∙ ap (λ o. cond (is_some o) None (Some l.row.birth)) l.stays

there_by : (b : Bool) (ended : Option ℕ) (birth : ℕ) (g : Graph) (o : Option ℕ) (p : Option Graph) (e : Option Graph) → is_some e ≡ false → is_some o ≡ is_some p → is_some (cond b (cond (is_some ended) None (Some birth)) o) ≡ is_some (cond b (cond (is_some ended) e (Some g)) p)
there_by true None birth g o p e none same = refl
there_by true (Some c) birth g o p e none same = sym none
there_by false ended birth g o p e none same = same

there_from : (k : Written) (m : Dataset) (rows : List Row) (n : List ℕ) → is_some (map.get k n) ≡ is_there m (Named n) → is_some (map.get (fold_written k rows) n) ≡ is_there (fold (λ m (r : Row). after_row m r) m rows) (Named n)
there_from k m [] n same = same
there_from k m (r ∷ rows) n same =
    there_from (written_after k r.target r.birth r.ended) (after_row m r) rows n
    (ap is_some (get-written_after k r.target r.birth r.ended n)
    ∙ there_by (target_eq r.target (Named n)) r.ended r.birth r.graph (map.get k n) (graph_at m (Named n)) (graph_at empty_dataset (Named n)) (ap is_some (map.get-empty name_cmp n)) same
    ∙ sym (ap is_some (graph_at-after_row m r (Named n))))

-- a name has a number where it has a graph
there-written : (rows : List Row) (n : List ℕ) → is_some (map.get (names_written rows) n) ≡ is_there (dataset_of rows) (Named n)
there-written rows n = there_from map.empty empty_dataset rows n (ap is_some (map.get-empty name_cmp n) ∙ sym (ap is_some (map.get-empty name_cmp n)))

none_there : (o : Option ℕ) → is_some o ≡ false → o ≡ None
none_there None e = refl
none_there (Some x) e = absurd (Prim.cc)

no_number : (rows : List Row) (n : List ℕ) → NewestRow rows (Named n) None → map.get (names_written rows) n ≡ None
no_number rows n found = none_there (map.get (names_written rows) n) (there-written rows n ∙ sym found.there)

found_write : (b : Books) (n : List ℕ) (i : ℕ) (row : Row) → NewestRow b.rows.items (Named n) (Some i) → slice_get b.rows.items i ≡ Some row → row.birth ≡ last_write_by b (Named n)
found_write b n i row found at =
    let same : row ≡ found.last.row = same_row row found.last.row (sym at ∙ last_at b.rows.items (Named n) i found.last) in
    ap (λ (x : Row). x.birth) same ∙ sym (ap (λ o. unwrap_or o b.last_removal) (get-last b.rows.items n i found.last))

-- the last write on a name, where its newest row was found
pub write_found : (b : Books) (t : Target) (n : List ℕ) (i : ℕ) (row : Row) → t ≡ Named n → NewestRow b.rows.items t (Some i) → slice_get b.rows.items i ≡ Some row → row.birth ≡ last_write_by b t
write_found b t n i row is found at = found_write b n i row (subst (λ u. NewestRow b.rows.items u (Some i)) is found) at ∙ sym (ap (last_write_by b) is)

-- and where it has none
pub write_missing : (b : Books) (t : Target) (n : List ℕ) → t ≡ Named n → NewestRow b.rows.items t None → b.last_removal ≡ last_write_by b t
write_missing b t n is found =
    let none = no_number b.rows.items n (subst (λ u. NewestRow b.rows.items u None) is found) in
    sym (ap (λ o. unwrap_or o b.last_removal) none) ∙ sym (ap (last_write_by b) is)

-- the numbers of the last writes, by parts
abbrev pub writes : ℕ → Written → ℕ → LastWrites
writes u k r = record { unnamed = u; named = k; removed = r }

with_write_is : (u r : ℕ) (k : Written) (t : Target) (n : ℕ) → writes (default_after u t n) (written_after k t n None) r ≡ with_write (writes u k r) n t
with_write_is u r k Default n = refl
with_write_is u r k (Named a) n = refl

-- a new version is a write
pub writes_push : (u r : ℕ) (rows : List Row) (row : Row) → row.ended ≡ None → writes (default_after u row.target row.birth) (names_written (rows ++ row ∷ [])) r ≡ with_write (writes u (names_written rows) r) row.birth row.target
writes_push u r rows row stays =
    ap (λ k. writes (default_after u row.target row.birth) k r) (names_written-parts rows row [] ∙ ap (written_after (names_written rows) row.target row.birth) stays)
    ∙ with_write_is u r (names_written rows) row.target row.birth

-- the numbers by name, without that of a target
abbrev without : Written → Target → Written
without k Default = k
without k (Named n) = map.remove k n

get-without : (k : Written) (t : Target) (n : List ℕ) → map.get (without k t) n ≡ cond (target_eq t (Named n)) None (map.get k n)
get-without k Default n = refl
get-without k (Named a) n = map.get-remove name_total k a n ∙ ap (λ e. cond e None (map.get k n)) ((eq_by_cmp_equiv name_total).symm n a ∙ sym (matches_eq-law a n))

with_delete_is : (u r : ℕ) (k : Written) (t : Target) (n : ℕ) → writes (default_after u t n) (without k t) (removal_after r t n) ≡ with_delete (writes u k r) n t
with_delete_is u r k Default n = refl
with_delete_is u r k (Named a) n = refl

-- the newest row of a target is ended: its name has no number, and every other has its own
names_end : (commit : ℕ) (rows : List Row) (t : Target) (i : ℕ) (l : IsLastRow rows t i) → names_written (slice_set rows i (ended_row commit l.row)) ≡ without (names_written rows) t
names_end commit rows t i l =
    let set : slice_set rows i (ended_row commit l.row) ≡ l.before ++ ended_row commit l.row ∷ l.later =
    ap (λ rs. slice_set rs i (ended_row commit l.row)) l.parts ∙ ap (λ n. slice_set (l.before ++ l.row ∷ l.later) n (ended_row commit l.row)) l.place ∙ set_parts l.before l.row (ended_row commit l.row) l.later in
    ap names_written set ∙ names_written-parts l.before (ended_row commit l.row) l.later
    ∙ map.same_map name_total name_exact _ _ (λ a. at_name a (target_eq t (Named a)) refl ∙ sym (get-without (names_written rows) t a))
  where
    at_name : (a : List ℕ) (b : Bool) → target_eq t (Named a) ≡ b → map.get (fold_written (written_after (names_written l.before) l.row.target l.row.birth (Some commit)) l.later) a ≡ cond (target_eq t (Named a)) None (map.get (names_written rows) a)
    at_name a true e =
        let same = target_eq-true t (Named a) e in
        let own : target_eq l.row.target (Named a) ≡ true = subst (λ x. target_eq l.row.target x ≡ true) same l.same in
        get-others (written_after (names_written l.before) l.row.target l.row.birth (Some commit)) l.later a (subst (λ x. AreOthers x l.later) same l.others)
        ∙ get-written_after (names_written l.before) l.row.target l.row.birth (Some commit) a
        ∙ ap (λ b. cond b None (map.get (names_written l.before) a)) own
        ∙ sym (ap (λ b. cond b None (map.get (names_written rows) a)) e)
    at_name a false e =
        let other : target_eq l.row.target (Named a) ≡ false = ap (λ x. target_eq x (Named a)) (target_eq-true l.row.target t l.same) ∙ e in
        let alike : map.get (written_after (names_written l.before) l.row.target l.row.birth (Some commit)) a ≡ map.get (written_after (names_written l.before) l.row.target l.row.birth l.row.ended) a =
        get-written_after (names_written l.before) l.row.target l.row.birth (Some commit) a
        ∙ ap (λ b. cond b None (map.get (names_written l.before) a)) other
        ∙ sym (ap (λ b. cond b (cond (is_some l.row.ended) None (Some l.row.birth)) (map.get (names_written l.before) a)) other)
        ∙ sym (get-written_after (names_written l.before) l.row.target l.row.birth l.row.ended a) in
        get-fold_written (written_after (names_written l.before) l.row.target l.row.birth (Some commit)) (written_after (names_written l.before) l.row.target l.row.birth l.row.ended) l.later a alike
        ∙ sym (ap (λ k. map.get k a) (names_written-parts l.before l.row l.later))
        ∙ sym (ap (λ rs. map.get (names_written rs) a) l.parts)
        ∙ sym (ap (λ b. cond b None (map.get (names_written rows) a)) e)

-- a version that is ended is a Delete
pub writes_end : (u r commit : ℕ) (rows : List Row) (t : Target) (i : ℕ) (l : IsLastRow rows t i) → writes (default_after u t commit) (names_written (slice_set rows i (ended_row commit l.row))) (removal_after r t commit) ≡ with_delete (writes u (names_written rows) r) commit t
writes_end u r commit rows t i l =
    ap (λ k. writes (default_after u t commit) k (removal_after r t commit)) (names_end commit rows t i l) ∙ with_delete_is u r (names_written rows) t commit

names_without : (rows : List Row) (t : Target) → NewestRow rows t None → names_written rows ≡ without (names_written rows) t
names_without rows Default found = refl
names_without rows (Named n) found = map.same_map name_total name_exact _ _ (λ a. at_name a (target_eq (Named n) (Named a)) refl ∙ sym (get-without (names_written rows) (Named n) a))
  where
    at_name : (a : List ℕ) (b : Bool) → target_eq (Named n) (Named a) ≡ b → map.get (names_written rows) a ≡ cond (target_eq (Named n) (Named a)) None (map.get (names_written rows) a)
    at_name a true e = no_number rows a (subst (λ t. NewestRow rows t None) (target_eq-true (Named n) (Named a) e) found) ∙ sym (ap (λ b. cond b None (map.get (names_written rows) a)) e)
    at_name a false e = sym (ap (λ b. cond b None (map.get (names_written rows) a)) e)

-- and so is one of a target without a row
pub writes_without : (u r commit : ℕ) (rows : List Row) (t : Target) → NewestRow rows t None → writes (default_after u t commit) (names_written rows) (removal_after r t commit) ≡ with_delete (writes u (names_written rows) r) commit t
writes_without u r commit rows t found =
    ap (λ k. writes (default_after u t commit) k (removal_after r t commit)) (names_without rows t found) ∙ with_delete_is u r (names_written rows) t commit

-- How many triples a dataset has once a graph is another.
use Rattle.std.proofs.Common.{◌≡◌, ℕ, nat_eq, ◌+◌, ◌-◌, ◌≤◌, Bool, true, false, cond, T, ◌&&◌, List, [], ◌∷◌, length, Option, Some, None, is_some, refl, sym, ap, ◌∙◌, arith}
use Rattle.std.specs.List.{sum_by}
use Rattle.std.specs.declared.cmp.Ordering.{Ordering}
use Rattle.std.specs.declared.cmp.Ordering.TheVariants.{Less, Equal, Greater}
use Rattle.std.specs.Ordering.{is_eq, eq_by_cmp}
use Rattle.std.specs.Cmp.{IsTotalOrder, Equal-is, tied_itself}
use Rattle.std.specs.FinMap as fin
use Rattle.std.specs.FinMap.Entries.{put, find, is_sorted, by_order, length-put}
use Rattle.std.proofs.lemmas.List.{length-map, nil_from_length}
use Rattle.std.proofs.lemmas.List.Sums.{sum_by-cons}
use Rattle.gs_model.specs.Graphs.{Graph, size_of, triples_of, empty_graph}
use Rattle.gs_model.specs.Triples.{line_of}
use Rattle.gs_term.specs.declared.names.Target.{Target}
use Rattle.gs_term.specs.declared.names.Target.TheVariants.{Default, Named}
use Rattle.gs_model.proofs.GraphLemmas.{empty_has_none}
use Rattle.gs_term.specs.Names.{name_cmp}
use Rattle.gs_term.proofs.NameLemmas.{name_total, name_exact}
use Rattle.gs_event.specs.Datasets.{Dataset, empty_dataset, with_graph, without_graph, graph_at, is_there, lines_if, lines_at, triples_in, names_in, kept_in, some_of, records_at, unused_for}

tail_sorted : (a b : Bool) → T (a && b) → T b
tail_sorted true b h = h
tail_sorted false b h = absurd h

-- what a value counts, and nothing where there is none
abbrev pub count_if : {X : Type 0} → (X → ℕ) → Option X → ℕ
count_if f None = 0
count_if f (Some x) = f x

none_found : {X : Type 0} (f : X → ℕ) (o : Option X) (n : ℕ) → n + 1 ≡ cond (is_some o) n (n + 1) → count_if f o ≡ 0
none_found f None n e = refl
none_found f (Some x) n e = absurd (omega arith)

module _ {K X : Type 0} (R : K → K → Ordering) (o : IsTotalOrder R) (f : X → ℕ) where
  -- a value that takes the place of another changes the sum by their difference
  pub sum_by-put : (k : K) (v : X) (es : List (K × X)) → T (is_sorted R es) → sum_by (λ e. f e.1) (put R k v es) + count_if f (find R k es) ≡ sum_by (λ e. f e.1) es + f v
  sum_by-put k v [] h = omega (arith, sum_by-cons (λ (e : K × X). f e.1) (k, v) [])
  sum_by-put k v (e ∷ es) h =
      let total = λ (xs : List (K × X)). sum_by (λ e. f e.1) xs in
      let whole : total (e ∷ es) ≡ f e.1 + total es = sum_by-cons (λ (x : K × X). f x.1) e es in
      elim (R k e.0) as (λ r. R k e.0 ≡ r → total (by_order r ((k, v) ∷ e ∷ es) ((e.0, v) ∷ es) (e ∷ put R k v es)) + count_if f (cond (is_eq r) (Some e.1) (find R k es)) ≡ total (e ∷ es) + f v) [
        | Less ↦ λ is.
            let found = ap (λ r. cond (is_eq r) (Some e.1) (find R k es)) is in
            let grown = ap (λ r. length (by_order r ((k, v) ∷ e ∷ es) ((e.0, v) ∷ es) (e ∷ put R k v es))) (sym is) ∙ length-put R o k v (e ∷ es) h in
            let none : count_if f (find R k (e ∷ es)) ≡ 0 = none_found f (find R k (e ∷ es)) (length (e ∷ es)) (let two : length (e ∷ es) + 1 ≡ length ((k, v) ∷ e ∷ es) = omega arith in two ∙ grown) in
            let here : count_if f (find R k es) ≡ 0 = sym (ap (count_if f) found) ∙ none in
            omega (arith, here, sum_by-cons (λ (x : K × X). f x.1) (k, v) (e ∷ es))
        | Equal ↦ λ is. omega (arith, whole, sum_by-cons (λ (x : K × X). f x.1) (e.0, v) es)
        | Greater ↦ λ is. omega (arith, whole, sum_by-cons (λ (x : K × X). f x.1) e (put R k v es), sum_by-put k v es (tail_sorted _ _ h))
      ] refl

length-lines_if : (o : Option Graph) → length (lines_if o) ≡ count_if size_of o
length-lines_if None = refl
length-lines_if (Some g) = length-map (triples_of g) line_of

-- the triples of the graph that was there go, and those of the new graph come
pub triples_in-with_graph : (m : Dataset) (t : Target) (g : Graph) → triples_in (with_graph m t g) + length (lines_at m t) ≡ triples_in m + size_of g
triples_in-with_graph m Default g = omega (arith, length-map (triples_of m.unnamed) line_of)
triples_in-with_graph m (Named n) g =
    let entries : sum_by (λ (e : List ℕ × Graph). size_of e.1) (fin.entries (fin.insert m.named n g)) ≡ sum_by (λ e. size_of e.1) (put name_cmp n g (fin.entries m.named)) =
    ap (sum_by (λ e. size_of e.1)) (fin.entries-insert name_total m.named n g) in
    let moved = sum_by-put name_cmp name_total size_of n g (fin.entries m.named) (fin.entries_sorted m.named) in
    let there : length (lines_at m (Named n)) ≡ count_if size_of (find name_cmp n (fin.entries m.named)) = length-lines_if (graph_at m (Named n)) ∙ ap (count_if size_of) (fin.get-entries m.named n) in
    omega (arith, entries, moved, there)

-- no triple is in the dataset without graphs
pub triples_in-empty : triples_in empty_dataset ≡ 0
triples_in-empty =
    let none : fin.entries (empty_dataset.named) ≡ [] = nil_from_length _ (sym (fin.len-entries empty_dataset.named) ∙ fin.len-empty name_cmp Graph) in
    omega (arith, empty_has_none, ap (sum_by (λ (e : List ℕ × Graph). size_of e.1)) none)

-- what is put back where it was taken out
put_back : (m : fin.FinMap name_cmp Graph) (n : List ℕ) (g : Graph) → fin.get m n ≡ Some g → fin.insert (fin.remove m n) n g ≡ m
put_back m n g is = fin.same_map name_total name_exact _ _ (λ q.
    fin.get-insert name_total (fin.remove m n) n g q
    ∙ ap (cond (eq_by_cmp name_cmp q n) (Some g)) (fin.get-remove name_total m n q)
    ∙ elim (eq_by_cmp name_cmp q n) as (λ e. eq_by_cmp name_cmp q n ≡ e → cond e (Some g) (cond e None (fin.get m q)) ≡ fin.get m q) [
      | true ↦ λ e. sym is ∙ fin.get_tied name_total m q n ((Equal-is _).0 e)
      | false ↦ λ e. refl
    ] refl)

-- nothing is taken out where nothing was
nothing_out : (m : fin.FinMap name_cmp Graph) (n : List ℕ) → fin.get m n ≡ None → fin.remove m n ≡ m
nothing_out m n is = fin.same_map name_total name_exact _ _ (λ q.
    fin.get-remove name_total m n q
    ∙ elim (eq_by_cmp name_cmp q n) as (λ e. eq_by_cmp name_cmp q n ≡ e → cond e None (fin.get m q) ≡ fin.get m q) [
      | true ↦ λ e. sym is ∙ fin.get_tied name_total m q n ((Equal-is _).0 e)
      | false ↦ λ e. refl
    ] refl)

taken_out : (m : fin.FinMap name_cmp Graph) (n : List ℕ) → fin.get (fin.remove m n) n ≡ None
taken_out m n = fin.get-remove name_total m n n ∙ ap (λ b. cond b None (fin.get m n)) (ap is_eq (tied_itself name_total n))

named_without : (m : Dataset) (n : List ℕ) (o : Option Graph) → fin.get m.named n ≡ o → triples_in (without_graph m (Named n)) + count_if size_of o ≡ triples_in m
named_without m n None is = let same : triples_in (without_graph m (Named n)) ≡ triples_in m = ap (λ named. triples_in (record { unnamed = m.unnamed; named = named })) (nothing_out m.named n is) in omega (arith, same)
named_without m n (Some g) is =
    let less = without_graph m (Named n) in
    let back : triples_in (with_graph less (Named n) g) ≡ triples_in m = ap (λ named. triples_in (record { unnamed = m.unnamed; named = named })) (put_back m.named n g is) in
    let none : length (lines_at less (Named n)) ≡ 0 = ap (λ o. length (lines_if o)) (taken_out m.named n) in
    omega (arith, back, none, triples_in-with_graph less (Named n) g)

-- the triples of the graph that was there go
pub triples_in-without_graph : (m : Dataset) (t : Target) → triples_in (without_graph m t) + length (lines_at m t) ≡ triples_in m
triples_in-without_graph m Default = omega (arith, empty_has_none, length-map (triples_of m.unnamed) line_of)
triples_in-without_graph m (Named n) =
    let there : length (lines_at m (Named n)) ≡ count_if size_of (fin.get m.named n) = length-lines_if (fin.get m.named n) in
    omega (arith, there, named_without m n (fin.get m.named n) refl)

-- one name more where there was none
pub names_in-with_graph : (m : Dataset) (t : Target) (g : Graph) → names_in (with_graph m t g) ≡ cond (is_there m t) (names_in m) (names_in m + 1)
names_in-with_graph m Default g = refl
names_in-with_graph m (Named n) g = fin.len-insert name_total m.named n g

-- one name less where there was one
pub names_in-without_name : (m : Dataset) (n : List ℕ) → is_there m (Named n) ≡ true → names_in (without_graph m (Named n)) ≡ names_in m - 1
names_in-without_name m n there = fin.len-remove name_total m.named n ∙ ap (λ b. cond b (names_in m - 1) (names_in m)) there

-- there are no names in the dataset without graphs
pub names_in-empty : names_in empty_dataset ≡ 0
names_in-empty = fin.len-empty name_cmp Graph

some_name : (m : Dataset) (n : List ℕ) (o : Option Graph) → fin.get m.named n ≡ o → is_some o ≡ true → 1 ≤ names_in m
some_name m n None is there = absurd (Prim.cc)
some_name m n (Some g) is there =
    let less = without_graph m (Named n) in
    let back : names_in (with_graph less (Named n) g) ≡ names_in m = ap fin.len (put_back m.named n g is) in
    let none : is_there less (Named n) ≡ false = ap is_some (taken_out m.named n) in
    let grown : names_in (with_graph less (Named n) g) ≡ names_in less + 1 = names_in-with_graph less (Named n) g ∙ ap (λ b. cond b (names_in less) (names_in less + 1)) none in
    omega arith

-- where there is a name, there is one at least
pub names_in-some : (m : Dataset) (n : List ℕ) → is_there m (Named n) ≡ true → 1 ≤ names_in m
names_in-some m n there = some_name m n (fin.get m.named n) refl there

one_of : (b : Bool) → cond b 0 1 + cond b 1 0 ≡ 1
one_of true = refl
one_of false = refl

-- the nodes and records of the graph that was there go, and those of the new graph come: its triples, and a record, if it is used
pub kept_in-with_graph : (m : Dataset) (t : Target) (g : Graph) → kept_in (with_graph m t g) + length (lines_at m t) + records_at m t + unused_for t g ≡ kept_in m + size_of g + 1
kept_in-with_graph m Default g = omega (arith, triples_in-with_graph m Default g, one_of (nat_eq (size_of g) 0))
kept_in-with_graph m (Named n) g =
    let named = names_in-with_graph m (Named n) g in
    elim (is_there m (Named n)) as (λ b. names_in (with_graph m (Named n) g) ≡ cond b (names_in m) (names_in m + 1)
    → kept_in (with_graph m (Named n) g) + length (lines_at m (Named n)) + cond b 1 0 + 0 ≡ kept_in m + size_of g + 1) [
      | true ↦ λ is. omega (arith, is, triples_in-with_graph m (Named n) g)
      | false ↦ λ is. omega (arith, is, triples_in-with_graph m (Named n) g)
    ] named

-- without a graph its nodes and records are gone
pub kept_in-without_graph : (m : Dataset) (t : Target) → is_there m t ≡ true → kept_in (without_graph m t) + length (lines_at m t) + records_at m t ≡ kept_in m
kept_in-without_graph m Default there =
    let none : some_of empty_graph ≡ 0 = ap (λ (n : ℕ). cond {A = ℕ} (nat_eq n 0) 0 1) empty_has_none in
    omega (arith, triples_in-without_graph m Default, none)
kept_in-without_graph m (Named n) there =
    omega (arith, triples_in-without_graph m (Named n), names_in-without_name m n there, names_in-some m n there, let there_one : records_at m (Named n) ≡ 1 = ap (λ b. cond {A = ℕ} b 1 0) there in there_one)

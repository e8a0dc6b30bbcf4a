-- The graphs of a past dataset, as they are found row by row, and the lines of all graphs, one graph after another.
use Rattle.std.proofs.Common.{◌≡◌, ℕ, zero, suc, ◌+◌, ◌-◌, ◌≤◌, Bool, true, false, cond, T, ◌&&◌, List, [], ◌∷◌, ◌++◌, map as each, take, drop, length, Option, Some, None, option_map, refl, sym, ap, ◌∙◌, arith, append_assoc, length-append, length-drop}
use Rattle.std.specs.Borrow.{Bor}
use Rattle.std.specs.BTreeMap.{BTreeMap, UpdatesBy, is_at}
use Rattle.std.specs.Map.{lookup, keys_of}
use Rattle.std.specs.Map.Iter.{deref_pair}
use Rattle.std.specs.List.{concat, flat_map, sum_by, AllByRecursion}
use Rattle.std.specs.List.Sorted.{IsStrictlySortedBy}
use Rattle.std.specs.declared.cmp.Ordering.TheVariants.{Less}
use Rattle.std.specs.Ordering.{is_eq}
use Rattle.std.specs.Cmp.{eq_by_cmp_equiv}
use Rattle.std.specs.FinMap as map
use Rattle.std.specs.FinMap.Entries.{find, is_sorted, below_all, same_entries}
use Rattle.std.proofs.lemmas.List.{length-map}
use Rattle.std.proofs.lemmas.List.Sums.{sum_by-cons}
use Rattle.gs_model.specs.Triples.{line_of}
use Rattle.gs_model.specs.Graphs.{Graph, empty_graph, triples_of, lines_of, size_of}
use Rattle.gs_model.proofs.GraphLemmas.{triples_of-empty}
use Rattle.gs_term.specs.declared.names.Target.{Target}
use Rattle.gs_term.specs.declared.names.Target.TheVariants.{Named}
use Rattle.gs_term.specs.Names.{name_cmp, quad_line_of}
use Rattle.gs_term.proofs.NameLemmas.{name_total, name_exact}
use Rattle.gs_event.specs.Datasets.{Dataset, empty_dataset, with_graph, without_graph, named_lines, quads_of, triples_in}
use Rattle.gs_plain.specs.declared.books.Row.{Row}
use Rattle.gs_plain.specs.Past.{is_by, after_row_at}
use Rattle.gs_plain.specs.Quads.{HasNamed}
use Rattle.gs_plain.proofs.PastLemmas.{not_below}

-- what a row of commit v or an earlier one makes of a dataset, as of commit v
pub row_made : (v : ℕ) (m : Dataset) (row : Row) (t : Target) (b : Bool) → row.birth ≤ v → row.target ≡ t → b ≡ is_by v row.ended → after_row_at v m row ≡ cond b (without_graph m t) (with_graph m t row.graph)
row_made v m row t b made is ended =
    ap (λ x. cond x m (cond (is_by v row.ended) (without_graph m row.target) (with_graph m row.target row.graph))) (not_below v row.birth made)
    ∙ ap (λ x. cond x (without_graph m row.target) (with_graph m row.target row.graph)) (sym ended)
    ∙ ap (λ u. cond b (without_graph m u) (with_graph m u row.graph)) is

-- ---- entries that are lent, as entries

found_by : (q : Bor (List ℕ)) (es : List (Bor (List ℕ) × Bor Graph)) → find name_cmp q.now (each deref_pair es) ≡ option_map (λ (g : Bor Graph). g.now) (lookup (is_at (λ (k : Bor (List ℕ)). name_cmp q.now k.now)) es)
found_by q [] = refl
found_by q (e ∷ es) =
    elim (is_eq (name_cmp q.now e.0.now)) as (λ b. cond b (Some e.1.now) (find name_cmp q.now (each deref_pair es)) ≡ option_map (λ (g : Bor Graph). g.now) (cond b (Some e.1) (lookup (is_at (λ (k : Bor (List ℕ)). name_cmp q.now k.now)) es))) [
      | true ↦ refl
      | false ↦ found_by q es
    ]

taken : (b : Bool) (w x : Option (Bor Graph)) → option_map (λ (g : Bor Graph). g.now) (cond b w x) ≡ cond b (option_map (λ (g : Bor Graph). g.now) w) (option_map (λ (g : Bor Graph). g.now) x)
taken true w x = refl
taken false w x = refl

-- what an update of the found graphs leaves at each name
found_after : (name : List ℕ) (old new : BTreeMap (Bor (List ℕ)) (Bor Graph)) (w : Option (Bor Graph)) → UpdatesBy (λ x y. name_cmp x.now y.now) (λ k. name_cmp name k.now) old new w
    → (q : List ℕ) → find name_cmp q (each deref_pair new.entries) ≡ cond (is_eq (name_cmp q name)) (option_map (λ (g : Bor Graph). g.now) w) (find name_cmp q (each deref_pair old.entries))
found_after name old new w h q =
    let at : Bor (List ℕ) = record { ref_ptr = (0, 0); now = q } in
    found_by at new.entries
    ∙ ap (option_map (λ (g : Bor Graph). g.now)) (h.0 at)
    ∙ taken (is_eq (name_cmp name q)) w (lookup (is_at (λ (k : Bor (List ℕ)). name_cmp q k.now)) old.entries)
    ∙ ap (cond (is_eq (name_cmp name q)) (option_map (λ (g : Bor Graph). g.now) w)) (sym (found_by at old.entries))
    ∙ ap (λ b. cond b (option_map (λ (g : Bor Graph). g.now) w) (find name_cmp q (each deref_pair old.entries))) ((eq_by_cmp_equiv name_total).symm name q)

-- no graph is found at first
pub none_named : (found : BTreeMap (Bor (List ℕ)) (Bor Graph)) → found.entries ≡ [] → HasNamed found empty_dataset
none_named found none q = ap (λ es. find name_cmp q (each deref_pair es)) none ∙ sym (map.get-empty name_cmp q)

-- a row that ends a graph with a name
pub named_ended : (m : Dataset) (name : List ℕ) (old new : BTreeMap (Bor (List ℕ)) (Bor Graph)) → UpdatesBy (λ x y. name_cmp x.now y.now) (λ k. name_cmp name k.now) old new None → HasNamed old m → HasNamed new (without_graph m (Named name))
named_ended m name old new h sofar q =
    found_after name old new None h q ∙ ap (cond (is_eq (name_cmp q name)) None) (sofar q) ∙ sym (map.get-remove name_total m.named name q)

-- a row that makes one
pub named_made : (m : Dataset) (name : List ℕ) (g : Bor Graph) (old new : BTreeMap (Bor (List ℕ)) (Bor Graph)) → UpdatesBy (λ x y. name_cmp x.now y.now) (λ k. name_cmp name k.now) old new (Some g) → HasNamed old m → HasNamed new (with_graph m (Named name) g.now)
named_made m name g old new h sofar q =
    found_after name old new (Some g) h q ∙ ap (cond (is_eq (name_cmp q name)) (Some g.now)) (sofar q) ∙ sym (map.get-insert name_total m.named name g.now q)

both : (a b : Bool) → T a → T b → T (a && b)
both true b p q = q
both false b p q = p

all_below : (x : List ℕ) (es : List (Bor (List ℕ) × Bor Graph)) → AllByRecursion (λ (k : Bor (List ℕ)). name_cmp x k.now ≡ Less) (keys_of es) → T (below_all name_cmp x (each deref_pair es))
all_below x [] h = tt
all_below x (e ∷ es) h = both _ _ (rw h.0 tt) (all_below x es h.1)

rising : (es : List (Bor (List ℕ) × Bor Graph)) → IsStrictlySortedBy (λ (x y : Bor (List ℕ)). name_cmp x.now y.now) (keys_of es) → T (is_sorted name_cmp (each deref_pair es))
unfolding IsStrictlySortedBy
rising [] h = tt
rising (e ∷ es) h = both _ _ (all_below e.0.now es h.0) (rising es h.1)

-- all graphs with names, in the order of these
pub named_entries : (found : BTreeMap (Bor (List ℕ)) (Bor Graph)) (m : Dataset) → HasNamed found m → IsStrictlySortedBy (λ (x y : Bor (List ℕ)). name_cmp x.now y.now) (keys_of found.entries) → each deref_pair found.entries ≡ map.entries m.named
named_entries found m h sorted =
    same_entries name_cmp name_total name_exact (each deref_pair found.entries) (map.entries m.named) (rising found.entries sorted) (map.entries_sorted m.named) (λ q. h q ∙ map.get-entries m.named q)

-- ---- lines

length-quads : (es : List (List ℕ × Graph)) → length (flat_map named_lines es) ≡ sum_by (λ e. size_of e.1) es
length-quads [] = refl
length-quads (e ∷ es) =
    omega (arith, length-append (named_lines e) (flat_map named_lines es), length-map (triples_of e.1) (quad_line_of e.0), length-quads es, sum_by-cons (λ (x : List ℕ × Graph). size_of x.1) e es)

-- a dataset has as many lines as triples
pub length-quads_of : (m : Dataset) → length (quads_of m) ≡ triples_in m
length-quads_of m = omega (arith, length-append (lines_of m.unnamed) (flat_map named_lines (map.entries m.named)), length-map (triples_of m.unnamed) line_of, length-quads (map.entries m.named))

-- a graph with a name has as many lines as triples
pub length-named_lines : (name : List ℕ) (g : Graph) → size_of g ≡ length (named_lines (name, g))
length-named_lines name g = sym (length-map (triples_of g) (quad_line_of name))

drop-append : (n : ℕ) (xs ys : List (List ℕ)) → drop n (xs ++ ys) ≡ drop n xs ++ drop (n - length xs) ys
drop-append zero xs ys = let none : 0 ≡ 0 - length xs = omega arith in ap (λ n. xs ++ drop n ys) none
drop-append (suc n) [] ys = let all : suc n ≡ suc n - 0 = omega arith in ap (λ k. drop k ys) all
drop-append (suc n) (x ∷ xs) ys = let same : n - length xs ≡ suc n - suc (length xs) = omega arith in drop-append n xs ys ∙ ap (λ k. drop n xs ++ drop k ys) same

take-append : (n : ℕ) (xs ys : List (List ℕ)) → take n (xs ++ ys) ≡ take n xs ++ take (n - length xs) ys
take-append zero xs ys = let none : 0 ≡ 0 - length xs = omega arith in ap (λ n. take n ys) none
take-append (suc n) [] ys = let all : suc n ≡ suc n - 0 = omega arith in ap (λ k. take k ys) all
take-append (suc n) (x ∷ xs) ys = let same : n - length xs ≡ suc n - suc (length xs) = omega arith in ap (λ zs. x ∷ zs) (take-append n xs ys ∙ ap (λ k. take n xs ++ take k ys) same)

concat-append : (xs ys : List (List ℕ)) → concat (xs ++ ys) ≡ concat xs ++ concat ys
concat-append [] ys = refl
concat-append (x ∷ xs) ys = ap (λ zs. x ++ zs) (concat-append xs ys) ∙ sym (append_assoc x (concat xs) (concat ys))

-- the lines that are shown of these, where so many were passed before
abbrev pub shown_of : ℕ → ℕ → ℕ → List (List ℕ) → List ℕ
shown_of given count passed xs = concat (take (count - (passed - given)) (drop (given - passed) xs))

-- what is shown of two runs of lines
pub shown-append : (given count passed : ℕ) (xs ys : List (List ℕ)) → shown_of given count passed (xs ++ ys) ≡ shown_of given count passed xs ++ shown_of given count (passed + length xs) ys
shown-append given count passed xs ys =
    let start = given - passed in
    let room = count - (passed - given) in
    let skipped : start - length xs ≡ given - (passed + length xs) = omega arith in
    let left : room - length (drop start xs) ≡ count - (passed + length xs - given) = omega (arith, length-drop start xs) in
    ap (λ zs. concat (take room zs)) (drop-append start xs ys)
    ∙ ap concat (take-append room (drop start xs) (drop (start - length xs) ys))
    ∙ concat-append (take room (drop start xs)) (take (room - length (drop start xs)) (drop (start - length xs) ys))
    ∙ ap (λ n. concat (take room (drop start xs)) ++ concat (take n (drop (start - length xs) ys))) left
    ∙ ap (λ n. concat (take room (drop start xs)) ++ concat (take (count - (passed + length xs - given)) (drop n ys))) skipped

none_taken : (n : ℕ) → take {A = List ℕ} n [] ≡ []
none_taken zero = refl
none_taken (suc n) = refl

none_dropped : (n : ℕ) → drop {A = List ℕ} n [] ≡ []
none_dropped zero = refl
none_dropped (suc n) = refl

-- an empty graph has no lines
pub empty_lines : (g : Graph) → empty_graph ≡ g → [] ≡ lines_of g
empty_lines g is = sym (ap (each line_of) triples_of-empty) ∙ ap lines_of is

-- nothing is shown of an empty graph
pub empty_shown : (given count : ℕ) (g : Graph) → empty_graph ≡ g → [] ≡ concat (take count (drop given (lines_of g)))
empty_shown given count g is =
    sym (ap concat (none_taken count)) ∙ sym (ap (λ ls. concat (take count ls)) (none_dropped given)) ∙ ap (λ ls. concat (take count (drop given ls))) (empty_lines g is)

shown_first : (given count : ℕ) (xs : List (List ℕ)) → concat (take count (drop given xs)) ≡ shown_of given count 0 xs
shown_first given count xs =
    let start : given ≡ given - 0 = omega arith in
    let room : count ≡ count - (0 - given) = omega arith in
    ap (λ n. concat (take count (drop n xs))) start ∙ ap (λ n. concat (take n (drop (given - 0) xs))) room

-- before the first graph with a name: the lines of the default graph are shown
pub quads_begin : (given count passed : ℕ) (bytes : List ℕ) (xs ys zs : List (List ℕ)) → bytes ≡ concat (take count (drop given xs)) → passed ≡ length xs → zs ≡ ys → bytes ++ shown_of given count passed zs ≡ shown_of given count 0 (xs ++ ys)
quads_begin given count passed bytes xs ys zs first all rest =
    let from : passed ≡ 0 + length xs = omega (arith, all) in
    ap (λ bs. bs ++ shown_of given count passed zs) (first ∙ shown_first given count xs)
    ∙ ap (λ ls. shown_of given count 0 xs ++ shown_of given count passed ls) rest
    ∙ ap (λ n. shown_of given count 0 xs ++ shown_of given count n ys) from
    ∙ sym (shown-append given count 0 xs ys)

pub passes_begin : (passed : ℕ) (xs ys zs : List (List ℕ)) → passed ≡ length xs → zs ≡ ys → passed + length zs ≡ length (xs ++ ys)
passes_begin passed xs ys zs all rest = omega (arith, all, ap length rest, length-append xs ys)

-- one graph more
pub quads_more : (given count passed : ℕ) (bytes more all : List ℕ) (xs ys : List (List ℕ)) (n : ℕ) → bytes ++ shown_of given count passed (xs ++ ys) ≡ all → more ≡ shown_of given count passed xs → n ≡ length xs → (bytes ++ more) ++ shown_of given count (passed + n) ys ≡ all
quads_more given count passed bytes more all xs ys n sofar here long =
    append_assoc bytes more (shown_of given count (passed + n) ys)
    ∙ ap (λ bs. bytes ++ (bs ++ shown_of given count (passed + n) ys)) here
    ∙ ap (λ k. bytes ++ (shown_of given count passed xs ++ shown_of given count (passed + k) ys)) long
    ∙ ap (λ bs. bytes ++ bs) (sym (shown-append given count passed xs ys))
    ∙ sofar

pub passes_more : (passed n all : ℕ) (xs ys : List (List ℕ)) → passed + length (xs ++ ys) ≡ all → n ≡ length xs → passed + n + length ys ≡ all
passes_more passed n all xs ys sofar long = omega (arith, sofar, long, length-append xs ys)

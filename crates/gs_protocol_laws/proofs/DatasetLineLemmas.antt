-- The lines of named graphs stand in the order of the entries, and each is of one of them.
use Rattle.std.proofs.Common.{◌≡◌, ℕ, Bool, true, false, cond, T, ◌&&◌, List, [], ◌∷◌, ◌++◌, length, Some, refl, sym, ap, ◌∙◌}
use Rattle.std.proofs.Common.{append_assoc, length-append, arith}
use Rattle.std.specs.declared.cmp.Ordering.{Ordering}
use Rattle.std.specs.declared.cmp.Ordering.TheVariants.{Less, Equal, Greater}
use Rattle.std.specs.Ordering.{is_lt, is_eq, ordering_reverse, eq_by_cmp}
use Rattle.std.specs.Cmp.{Equal-is, tied_itself}
use Rattle.std.specs.FinMap as fin
use Rattle.std.specs.FinMap.Entries.{find, is_sorted, below_all}
use Rattle.std.specs.List.{sum_by, flat_map, All, Contains}
use Rattle.std.proofs.lemmas.List.{length-map}
use Rattle.std.proofs.lemmas.List.Concat.{flat_map-append}
use Rattle.std.proofs.lemmas.List.Elements.{All-nil, All-cons, All-head, All-tail, All-append, All-map, All-weaker, All-contains_itself}
use Rattle.std.proofs.lemmas.List.Sums.{sum_by-cons}
use Rattle.gs_model.specs.Graphs.{Graph, triples_of, lines_of, size_of}
use Rattle.gs_model.specs.Triples.{line_of}
use Rattle.gs_term.specs.Names.{name_cmp, quad_line_of}
use Rattle.gs_term.proofs.NameLemmas.{name_total, name_exact}
use Rattle.gs_event.specs.Datasets.{Dataset, named_lines}
use Rattle.gs_protocol_laws.specs.DatasetLines.{IsNamedLine, DefaultIsFirst, NamedAreInOrder, LinesAreAsManyAsTriples}

abbrev pub Entry : Type 0
Entry = List ℕ × Graph

-- the lines of named graphs, after those of the default graph
abbrev pub named_rest : List Entry → List (List ℕ)
named_rest es = flat_map named_lines es

-- brackets to the left, as lists are read
pub grouped : {A : Type 0} (u f own b : List A) → u ++ (f ++ (own ++ b)) ≡ ((u ++ f) ++ own) ++ b
grouped u f own b = sym (append_assoc u f (own ++ b)) ∙ sym (append_assoc (u ++ f) own b)

-- entries, parted at one of them
pub record Parts (es : List Entry) (n : List ℕ) (g : Graph) : Type 0 where
  pub front : List Entry
  pub back : List Entry
  pub whole : es ≡ front ++ (n, g) ∷ back

pub found_parts : (es : List Entry) (n : List ℕ) (g : Graph) → find name_cmp n es ≡ Some g → Parts es n g
found_parts [] n g e = absurd (cc)
found_parts (x ∷ es) n g e =
    elim (eq_by_cmp name_cmp n x.0) as (λ b. eq_by_cmp name_cmp n x.0 ≡ b → cond b (Some x.1) (find name_cmp n es) ≡ Some g → Parts (x ∷ es) n g) [
      | true ↦ λ same is.
          let key : x.0 ≡ n = sym (name_exact _ _ ((Equal-is _).0 same)) in
          let value : x.1 ≡ g = cc in
          record { front = []; back = es; whole = λ i. (key i, value i) ∷ es }
      | false ↦ λ other is.
          let rest = found_parts es n g is in
          record { front = x ∷ rest.front; back = rest.back; whole = ap (λ r. x ∷ r) rest.whole }
    ] refl e

both_first : (a b : Bool) → T (a && b) → T a
both_first true b h = tt
both_first false b h = absurd h

both_second : (a b : Bool) → T (a && b) → T b
both_second true b h = h
both_second false b h = absurd h

is_less : (r : Ordering) → T (is_lt r) → r ≡ Less
is_less Less h = refl
is_less Equal h = absurd h
is_less Greater h = absurd h

-- where one name is less than another, this is greater than it
turned : (a b : List ℕ) → name_cmp a b ≡ Less → name_cmp b a ≡ Greater
turned a b less = name_total.antisymm b a ∙ ap ordering_reverse less

-- so it is not the same
not_same : (a b : List ℕ) → name_cmp a b ≡ Less → eq_by_cmp name_cmp b a ≡ false
not_same a b less = ap is_eq (turned a b less)

-- a name that is less than those of all entries is less than each that is found there
less_found : (k : List ℕ) (es : List Entry) → T (below_all name_cmp k es) → (n : List ℕ) (g : Graph)
    → find name_cmp n es ≡ Some g → name_cmp k n ≡ Less
less_found k [] h n g e = absurd (cc)
less_found k (x ∷ es) h n g e =
    elim (eq_by_cmp name_cmp n x.0) as (λ b. eq_by_cmp name_cmp n x.0 ≡ b → cond b (Some x.1) (find name_cmp n es) ≡ Some g → name_cmp k n ≡ Less) [
      | true ↦ λ same is.
          let key : n ≡ x.0 = name_exact _ _ ((Equal-is _).0 same) in
          ap (name_cmp k) key ∙ is_less (name_cmp k x.0) (both_first _ _ h)
      | false ↦ λ other is. less_found k es (both_second _ _ h) n g is
    ] refl e

-- entries, parted at two of them
record TwoParts (es : List Entry) (a b : List ℕ) (g h : Graph) : Type 0 where
  pub front : List Entry
  pub between : List Entry
  pub back : List Entry
  pub whole : es ≡ front ++ (a, g) ∷ (between ++ (b, h) ∷ back)

-- of two names in sorted entries the lesser one stands first
module _ (a b : List ℕ) (g h : Graph) (less : name_cmp a b ≡ Less) where
  -- the first entry is of the lesser one
  at_first : (x : Entry) (es : List Entry) → eq_by_cmp name_cmp a x.0 ≡ true → Some x.1 ≡ Some g
      → find name_cmp b (x ∷ es) ≡ Some h → TwoParts (x ∷ es) a b g h
  at_first x es same is found =
      let key : x.0 ≡ a = sym (name_exact _ _ ((Equal-is _).0 same)) in
      let value : x.1 ≡ g = cc in
      let other : eq_by_cmp name_cmp b x.0 ≡ false = ap (eq_by_cmp name_cmp b) key ∙ not_same a b less in
      let later : find name_cmp b es ≡ Some h = sym (ap (λ t. cond t (Some x.1) (find name_cmp b es)) other) ∙ found in
      let rest = found_parts es b h later in
      record { front = []; between = rest.front; back = rest.back; whole = λ i. (key i, value i) ∷ rest.whole i }

  two_parts : (es : List Entry) → T (is_sorted name_cmp es) → find name_cmp a es ≡ Some g → find name_cmp b es ≡ Some h → TwoParts es a b g h
  two_parts [] sorted e f = absurd (cc)
  two_parts (x ∷ es) sorted e f =
      elim (eq_by_cmp name_cmp a x.0) as (λ t. eq_by_cmp name_cmp a x.0 ≡ t → cond t (Some x.1) (find name_cmp a es) ≡ Some g
      → TwoParts (x ∷ es) a b g h) [
        | true ↦ λ same is. at_first x es same is f
        | false ↦ λ other is.
            let before : name_cmp x.0 b ≡ Less = name_total.trans x.0 a b (less_found x.0 es (both_first _ _ sorted) a g is) less in
            let later : find name_cmp b es ≡ Some h = sym (ap (λ t. cond t (Some x.1) (find name_cmp b es)) (not_same x.0 b before)) ∙ f in
            let rest = two_parts es (both_second _ _ sorted) is later in
            record { front = x ∷ rest.front; between = rest.between; back = rest.back; whole = ap (λ r. x ∷ r) rest.whole }
      ] refl e

-- the same with two more
all_grouped : {A : Type 0} (u f own m other b : List A) → u ++ (f ++ (own ++ (m ++ (other ++ b)))) ≡ ((((u ++ f) ++ own) ++ m) ++ other) ++ b
all_grouped u f own m other b = grouped u f own (m ++ (other ++ b)) ∙ grouped ((u ++ f) ++ own) m other b

pub named_in_order : NamedAreInOrder
named_in_order m a b g h e f less =
    let es = fin.entries m.named in
    let at = two_parts a b g h less es (fin.entries_sorted m.named) (sym (fin.get-entries m.named a) ∙ e) (sym (fin.get-entries m.named b) ∙ f) in
    let unnamed = lines_of m.unnamed in
    let back : named_rest (at.between ++ (b, h) ∷ at.back) ≡ named_rest at.between ++ (named_lines (b, h) ++ named_rest at.back) =
    flat_map-append named_lines at.between ((b, h) ∷ at.back) in
    record {
      front = unnamed ++ named_rest at.front;
      between = named_rest at.between;
      back = named_rest at.back;
      whole = ap (λ xs. unnamed ++ named_rest xs) at.whole
          ∙ ap (λ xs. unnamed ++ xs) (flat_map-append named_lines at.front ((a, g) ∷ (at.between ++ (b, h) ∷ at.back)))
          ∙ ap (λ xs. unnamed ++ (named_rest at.front ++ (named_lines (a, g) ++ xs))) back
          ∙ all_grouped unnamed (named_rest at.front) (named_lines (a, g)) (named_rest at.between) (named_lines (b, h)) (named_rest at.back);
    }

-- an entry whose name has its graph among these
abbrev IsFound : List Entry → Entry → Type 0
IsFound es e = find name_cmp e.0 es ≡ Some e.1

-- each of sorted entries is found
each_found : (es : List Entry) → T (is_sorted name_cmp es) → All (IsFound es) es
each_found [] sorted = All-nil (IsFound [])
each_found (x ∷ es) sorted =
    let first : IsFound (x ∷ es) x = ap (λ r. cond (is_eq r) (Some x.1) (find name_cmp x.0 es)) (tied_itself name_total x.0) in
    let later = λ (e : Entry) (found : IsFound es e).
    let less : name_cmp x.0 e.0 ≡ Less = less_found x.0 es (both_first _ _ sorted) e.0 e.1 found in
    let past : find name_cmp e.0 (x ∷ es) ≡ find name_cmp e.0 es = ap (λ t. cond t (Some x.1) (find name_cmp e.0 es)) (not_same x.0 e.0 less) in
    past ∙ found in
    All-cons (IsFound (x ∷ es)) x es first (All-weaker (IsFound es) (IsFound (x ∷ es)) later es (each_found es (both_second _ _ sorted)))

-- what holds of each line of each entry holds of all their lines
all_lines : (P : List ℕ → Type 0) (Q : Entry → Type 0) → ((e : Entry) → Q e → All P (named_lines e)) → (es : List Entry) → All Q es
    → All P (named_rest es)
all_lines P Q lines [] h = All-nil P
all_lines P Q lines (e ∷ es) h =
    All-append P (named_lines e) (named_rest es) (lines e (All-head Q e es h)) (all_lines P Q lines es (All-tail Q e es h))

-- the lines of an entry that is found are those of a graph that is there
own_lines : (m : Dataset) (e : Entry) → IsFound (fin.entries m.named) e → All (IsNamedLine m) (named_lines e)
own_lines m e found =
    All-map (IsNamedLine m) (quad_line_of e.0) (triples_of e.1)
    (All-weaker (Contains (triples_of e.1)) (λ t. IsNamedLine m (quad_line_of e.0 t)) (λ t within. record {
      name = e.0;
      graph = e.1;
      triple = t;
      there = fin.get-entries m.named e.0 ∙ found;
      within = within;
      written = refl;
    }) (triples_of e.1) (All-contains_itself (triples_of e.1)))

pub default_first : (m : Dataset) → DefaultIsFirst m
default_first m = record {
  rest = named_rest (fin.entries m.named);
  whole = refl;
  named = all_lines (IsNamedLine m) (IsFound (fin.entries m.named)) (own_lines m) (fin.entries m.named)
      (each_found (fin.entries m.named) (fin.entries_sorted m.named));
}

-- as many lines as the graphs have triples
length-named_rest : (es : List Entry) → length (named_rest es) ≡ sum_by (λ (e : Entry). size_of e.1) es
length-named_rest [] = refl
length-named_rest (e ∷ es) =
    length-append (named_lines e) (named_rest es)
    ∙ omega (arith, length-map (triples_of e.1) (quad_line_of e.0), length-named_rest es, sum_by-cons (λ (x : Entry). size_of x.1) e es)

pub as_many : LinesAreAsManyAsTriples
as_many m =
    length-append (lines_of m.unnamed) (named_rest (fin.entries m.named))
    ∙ omega (arith, length-map (triples_of m.unnamed) line_of, length-named_rest (fin.entries m.named))

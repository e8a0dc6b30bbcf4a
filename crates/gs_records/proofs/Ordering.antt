-- The graphs of a version of the dataset, in the order of the listed numbers.
use Rattle.std.proofs.Common.{◌≡◌, ℕ, Bool, true, false, cond, T, ◌&&◌, ◌==◌, List, [], ◌∷◌, ◌++◌, map, MatchOption, Option, Some, None, refl, sym, ap, subst, ◌∙◌, inl, inr, true≢false}
use Rattle.std.proofs.lemmas.Map.Views.{exact_unsigned_eq}
use Rattle.std.specs.Ordering.{ordering_then, nat_cmp, is_eq, is_lt, eq_by_cmp}
use Rattle.std.specs.List.{AllByRecursion, filter}
use Rattle.std.specs.List.Sorted.{IsStrictlySortedBy}
use Rattle.std.specs.Cmp.{tied_itself}
use Rattle.std.specs.Cmp.Lexicographic.{slice_cmp}
use Rattle.std.proofs.lemmas.Cmp.{nat_cmp_total}
use Rattle.std.specs.FinMap as fin
use Rattle.std.specs.FinMap.Entries.{find, is_sorted, below_all, same_entries}
use Rattle.std.specs.declared.cmp.Ordering.{Ordering}
use Rattle.std.specs.declared.cmp.Ordering.TheVariants.{Less, Equal, Greater}
use Rattle.gs_term.specs.declared.names.Target.{Target}
use Rattle.gs_term.specs.declared.names.Target.TheVariants.{Default, Named}
use Rattle.gs_term.specs.Names.{name_cmp}
use Rattle.gs_term.proofs.NameLemmas.{name_total, name_exact}
use Rattle.gs_catalogue.specs.declared.versions.GraphVersion.{GraphVersion}
use Rattle.gs_catalogue.specs.Catalogues.{empty_version}
use Rattle.gs_index.specs.Ages.{Age, aged_number_cmp, target_cmp, target_text, is_target}
use Rattle.gs_index.specs.Indexes.{is_listed}
use Rattle.gs_index.proofs.AgeLemmas.{target_total, target_ties}
use Rattle.gs_records.specs.Records.{Record, free, opened, unused, kept, record_at, has_at, is_kept}
use Rattle.gs_records.specs.Graphs.{graphs_at}
use Rattle.gs_records.specs.Kept.{AreSingle}
use Rattle.gs_records.specs.Order.{entry_of, has_number, age_at, AreListed, graph_of_number, graphs_listed, default_first, with_target, AreInOrder}
use Rattle.gs_records.proofs.Found.{Found, target_same, target_itself, target_other, cases_target}
use Rattle.gs_records.proofs.Same.{version_found, version_lacking}
use Rattle.gs_records.proofs.Lifetimes.{both_true, first_true, second_true, once_at}
use Rattle.gs_records.proofs.Listing.{or_cases}

-- a graph and its version
abbrev pub GraphEntry : Type 0
GraphEntry = Target × GraphVersion

abbrev pub by_target : GraphEntry → GraphEntry → Ordering
by_target a b = target_cmp a.0 b.0

-- what is kept is the record that it says
pub kept_is : (r : Record) → is_kept r ≡ true → r ≡ kept (entry_of r)
kept_is free e = absurd (true≢false (sym e))
kept_is opened e = absurd (true≢false (sym e))
kept_is unused e = absurd (true≢false (sym e))
kept_is (kept e) h = refl

-- the first version of a target
abbrev pub look : Target → List GraphEntry → Option GraphVersion
look t [] = None
look t (e ∷ es) = cond (is_target t e.0) (Some e.1) (look t es)

-- numbers of different graphs are in the order of these
number_less : (age : ℕ → Age) (k m : ℕ) → (is_target (age k).target (age m).target ≡ true → ⊥) → aged_number_cmp age k m ≡ Less → target_cmp (age k).target (age m).target ≡ Less
number_less age k m apart e = go (target_cmp (age k).target (age m).target) refl e
  where
    go : (o : Ordering) → target_cmp (age k).target (age m).target ≡ o → ordering_then (ordering_then o (nat_cmp (age m).birth (age k).birth)) (nat_cmp m k) ≡ Less → target_cmp (age k).target (age m).target ≡ Less
    go Less is h = is
    go Equal is h = absurd (apart (target_ties (age k).target (age m).target ∙ ap is_eq is))
    go Greater is h = absurd (let bad : Greater ≡ Less = h in cc)

pub number_tied : (age : ℕ → Age) (k : ℕ) → aged_number_cmp age k k ≡ Less → ⊥
number_tied age k e =
    let t = ap (λ o. ordering_then (ordering_then o (nat_cmp (age k).birth (age k).birth)) (nat_cmp k k)) (sym (tied_itself target_total (age k).target)) in
    let b = ap (λ o. ordering_then o (nat_cmp k k)) (sym (tied_itself nat_cmp_total (age k).birth)) in
    absurd (let bad : Equal ≡ Less = sym (tied_itself nat_cmp_total k) ∙ b ∙ t ∙ e in cc)

module _ (v : ℕ) (rs : List Record) (single : AreSingle rs) where
  had_at : (n : ℕ) → has_number v rs n ≡ true → record_at rs n ≡ kept (entry_of (record_at rs n))
  had_at n h = kept_is (record_at rs n) (first_true _ _ h)

  -- no two numbers that the version has are of one graph
  apart_numbers : (k m : ℕ) → has_number v rs k ≡ true → has_number v rs m ≡ true → aged_number_cmp (age_at rs) k m ≡ Less → target_cmp (age_at rs k).target (age_at rs m).target ≡ Less
  apart_numbers k m hk hm less = number_less (age_at rs) k m (λ same.
      let one : k ≡ m = single v k m (entry_of (record_at rs k)) (entry_of (record_at rs m)) (had_at k hk) (had_at m hm) (target_same _ _ same) (second_true _ _ hk) (second_true _ _ hm) in
      number_tied (age_at rs) k (ap (aged_number_cmp (age_at rs) k) one ∙ less)) less

  less_after : (k : ℕ) (ms : List ℕ) → has_number v rs k ≡ true → AllByRecursion (λ m. aged_number_cmp (age_at rs) k m ≡ Less) ms → AllByRecursion (λ b. by_target (graph_of_number rs k) b ≡ Less) (graphs_listed v rs ms)
  less_after k [] hk h = tt
  less_after k (m ∷ ms) hk h = go (less_after k ms hk h.1) (has_number v rs m) refl
    where
      go : AllByRecursion (λ b. by_target (graph_of_number rs k) b ≡ Less) (graphs_listed v rs ms) → (b : Bool) → has_number v rs m ≡ b → AllByRecursion (λ b. by_target (graph_of_number rs k) b ≡ Less) (map (graph_of_number rs) (cond b (m ∷ filter (has_number v rs) ms) (filter (has_number v rs) ms)))
      go rest true has = (apart_numbers k m hk has h.0, rest)
      go rest false has = rest

  -- the graphs of a version rise
  graphs_rise : (ns : List ℕ) → IsStrictlySortedBy (aged_number_cmp (age_at rs)) ns → IsStrictlySortedBy by_target (graphs_listed v rs ns)
  unfolding IsStrictlySortedBy
  graphs_rise [] s = tt
  graphs_rise (n ∷ ns) s = go (graphs_rise ns s.1) (has_number v rs n) refl
    where
      go : IsStrictlySortedBy by_target (graphs_listed v rs ns) → (b : Bool) → has_number v rs n ≡ b → IsStrictlySortedBy by_target (map (graph_of_number rs) (cond b (n ∷ filter (has_number v rs) ns) (filter (has_number v rs) ns)))
      go rest true has = (less_after n ns has s.0, rest)
      go rest false has = rest

  -- what is found among them
  pub data LookedIn (t : Target) (ns : List ℕ) : Type 0 where
    hits : (n : ℕ) → has_number v rs n ≡ true → (entry_of (record_at rs n)).target ≡ t → look t (graphs_listed v rs ns) ≡ Some (entry_of (record_at rs n)).version → LookedIn t ns
    misses : ((n : ℕ) → is_listed n ns ≡ true → has_number v rs n ≡ true → (entry_of (record_at rs n)).target ≡ t → ⊥) → look t (graphs_listed v rs ns) ≡ None → LookedIn t ns

  looked_in : (t : Target) (ns : List ℕ) → LookedIn t ns
  looked_in t [] = misses (λ n is has same. true≢false (sym is)) refl
  looked_in t (k ∷ ks) = go (looked_in t ks) (has_number v rs k) refl
    where
      step : ((n : ℕ) → is_listed n ks ≡ true → has_number v rs n ≡ true → (entry_of (record_at rs n)).target ≡ t → ⊥) → (has_number v rs k ≡ true → (entry_of (record_at rs k)).target ≡ t → ⊥) → (n : ℕ) → is_listed n (k ∷ ks) ≡ true → has_number v rs n ≡ true → (entry_of (record_at rs n)).target ≡ t → ⊥
      step none here n is has same = elim (or_cases (k == n) (is_listed n ks) is) [
        | inl first ↦ let e = exact_unsigned_eq k n first in here (ap (has_number v rs) e ∙ has) (ap (λ m. (entry_of (record_at rs m)).target) e ∙ same)
        | inr later ↦ none n later has same
      ]

      past : LookedIn t ks → (has_number v rs k ≡ true → (entry_of (record_at rs k)).target ≡ t → ⊥) → look t (graphs_listed v rs (k ∷ ks)) ≡ look t (graphs_listed v rs ks) → LookedIn t (k ∷ ks)
      past (hits n has same e) here is = hits n has same (is ∙ e)
      past (misses none e) here is = misses (step none here) (is ∙ e)

      go : LookedIn t ks → (b : Bool) → has_number v rs k ≡ b → LookedIn t (k ∷ ks)
      go rest true has = elim (cases_target t (entry_of (record_at rs k)).target) [
        | inl same ↦ hits k has (sym same) (ap (λ b. look t (map (graph_of_number rs) (cond b (k ∷ filter (has_number v rs) ks) (filter (has_number v rs) ks)))) has ∙ ap (λ b. cond b (Some (entry_of (record_at rs k)).version) (look t (graphs_listed v rs ks))) (ap (is_target t) (sym same) ∙ target_itself t))
        | inr other ↦ past rest (λ _ is. other (sym is)) (ap (λ b. look t (map (graph_of_number rs) (cond b (k ∷ filter (has_number v rs) ks) (filter (has_number v rs) ks)))) has ∙ ap (λ b. cond b (Some (entry_of (record_at rs k)).version) (look t (graphs_listed v rs ks))) (target_other t (entry_of (record_at rs k)).target other))
      ]
      go rest false has = past rest (λ yes_has is. true≢false (sym yes_has ∙ has)) (ap (λ b. look t (map (graph_of_number rs) (cond b (k ∷ filter (has_number v rs) ks) (filter (has_number v rs) ks)))) has)

abbrev pub NameEntry : Type 0
NameEntry = List ℕ × GraphVersion

-- graphs with names, in the order of these
record AreNamed (es : List GraphEntry) : Type 0 where
  named : List NameEntry
  same : es ≡ map with_target named
  sorted : T (is_sorted name_cmp named)

both_T : (a b : Bool) → T a → T b → T (a && b)
both_T true b p q = q
both_T false b p q = p

below_named : (n : List ℕ) (ns : List NameEntry) → AllByRecursion (λ b. target_cmp (Named n) b.0 ≡ Less) (map with_target ns) → T (below_all name_cmp n ns)
below_named n [] h = tt
below_named n (e ∷ es) h = both_T _ _ (subst (λ o. T (is_lt o)) (sym h.0) tt) (below_named n es h.1)

not_below : (t : Target) → target_cmp t Default ≡ Less → ⊥
not_below t e = go (target_text t) e
  where
    go : (xs : List ℕ) → slice_cmp nat_cmp xs [] ≡ Less → ⊥
    go [] h = absurd (let bad : Equal ≡ Less = h in cc)
    go (x ∷ xs) h = absurd (let bad : Greater ≡ Less = h in cc)

named_after : (t : Target) (es : List GraphEntry) → AllByRecursion (λ b. target_cmp t b.0 ≡ Less) es → IsStrictlySortedBy by_target es → AreNamed es
unfolding IsStrictlySortedBy
named_after t [] h s = record { named = []; same = refl; sorted = tt }
named_after t ((Default, v) ∷ es) h s = absurd (not_below t h.0)
named_after t ((Named n, v) ∷ es) h s =
    let rest = named_after (Named n) es s.0 s.1 in
    record {
      named = (n, v) ∷ rest.named;
      same = ap (λ xs. (Named n, v) ∷ xs) rest.same;
      sorted = both_T _ _ (below_named n rest.named (subst (AllByRecursion (λ b. target_cmp (Named n) b.0 ≡ Less)) rest.same s.0)) rest.sorted;
    }

-- the default graph, where it is there, and then those
record AreParted (es : List GraphEntry) : Type 0 where
  unnamed : Option GraphVersion
  named : List NameEntry
  same : es ≡ default_first unnamed ++ map with_target named
  sorted : T (is_sorted name_cmp named)

parted : (es : List GraphEntry) → IsStrictlySortedBy by_target es → AreParted es
unfolding IsStrictlySortedBy
parted [] s = record { unnamed = None; named = []; same = refl; sorted = tt }
parted ((Default, v) ∷ es) s =
    let rest = named_after Default es s.0 s.1 in
    record { unnamed = Some v; named = rest.named; same = ap (λ xs. (Default, v) ∷ xs) rest.same; sorted = rest.sorted }
parted ((Named n, v) ∷ es) s =
    let rest = named_after (Named n) es s.0 s.1 in
    record {
      unnamed = None;
      named = (n, v) ∷ rest.named;
      same = ap (λ xs. (Named n, v) ∷ xs) rest.same;
      sorted = both_T _ _ (below_named n rest.named (subst (AllByRecursion (λ b. target_cmp (Named n) b.0 ≡ Less)) rest.same s.0)) rest.sorted;
    }

names_tie : (q n : List ℕ) → eq_by_cmp name_cmp q n ≡ is_target (Named q) (Named n)
names_tie q n = sym (target_ties (Named q) (Named n))

find_looks : (q : List ℕ) (ns : List NameEntry) → find name_cmp q ns ≡ look (Named q) (map with_target ns)
find_looks q [] = refl
find_looks q (e ∷ es) = (λ i. cond (names_tie q e.0 i) (Some e.1) (find_looks q es i))

look_named : (q : List ℕ) (u : Option GraphVersion) (es : List GraphEntry) → look (Named q) (default_first u ++ es) ≡ look (Named q) es
look_named q None es = refl
look_named q (Some v) es = refl

look_default : (ns : List NameEntry) → look Default (map with_target ns) ≡ None
look_default [] = refl
look_default (e ∷ es) = look_default es

look_first : (u : Option GraphVersion) (ns : List NameEntry) → look Default (default_first u ++ map with_target ns) ≡ u
look_first None ns = look_default ns
look_first (Some v) ns = refl

-- a graph that no listed number is of has no record
lacks_named : (v : ℕ) (rs : List Record) (listed : List ℕ) → AreListed rs listed → (t : Target) → ((n : ℕ) → is_listed n listed ≡ true → has_number v rs n ≡ true → (entry_of (record_at rs n)).target ≡ t → ⊥) → Found (has_at v) rs t → ⊥
lacks_named v rs listed al t none f =
    none f.number (al.members f.number ∙ ap is_kept f.at) (both_true _ _ (ap is_kept f.at) (ap (λ r. has_at v (entry_of r)) f.at ∙ f.passes)) (ap (λ r. (entry_of r).target) f.at ∙ f.same)

module _ (v : ℕ) (rs : List Record) (listed : List ℕ) (single : AreSingle rs) (al : AreListed rs listed) where
  -- what is found among the listed is what the version has
  looked_named : (q : List ℕ) → look (Named q) (graphs_listed v rs listed) ≡ fin.get (graphs_at v rs).named q
  looked_named q = go (looked_in v rs single (Named q) listed)
    where
      go : LookedIn v rs single (Named q) listed → look (Named q) (graphs_listed v rs listed) ≡ fin.get (graphs_at v rs).named q
      go (hits n has same e) = e ∙ sym (version_found (has_at v) rs (Named q) (once_at v rs single) (record { number = n; entry = entry_of (record_at rs n); at = had_at v rs single n has; passes = second_true _ _ has; same = same }))
      go (misses none e) = e ∙ sym (version_lacking (has_at v) rs (Named q) (lacks_named v rs listed al (Named q) none) ∙ fin.get-empty name_cmp q)

  looked_default : (u : Option GraphVersion) → look Default (graphs_listed v rs listed) ≡ u → MatchOption u ((graphs_at v rs).unnamed ≡ empty_version) (λ w. w ≡ (graphs_at v rs).unnamed)
  looked_default u is = go (looked_in v rs single Default listed)
    where
      some_is : (a b : GraphVersion) → Some a ≡ Some b → a ≡ b
      some_is a b e = cc

      go : LookedIn v rs single Default listed → MatchOption u ((graphs_at v rs).unnamed ≡ empty_version) (λ w. w ≡ (graphs_at v rs).unnamed)
      go (hits n has same e) =
          let f : Found (has_at v) rs Default = record { number = n; entry = entry_of (record_at rs n); at = had_at v rs single n has; passes = second_true _ _ has; same = same } in
          let found = some_is _ _ (version_found (has_at v) rs Default (once_at v rs single) f) in
          subst (λ o. MatchOption o ((graphs_at v rs).unnamed ≡ empty_version) (λ w. w ≡ (graphs_at v rs).unnamed)) (sym e ∙ is) (sym found)
      go (misses none e) =
          let lacking = some_is _ _ (version_lacking (has_at v) rs Default (lacks_named v rs listed al Default none)) in
          subst (λ o. MatchOption o ((graphs_at v rs).unnamed ≡ empty_version) (λ w. w ≡ (graphs_at v rs).unnamed)) (sym e ∙ is) lacking

  pub listed_in_order : AreInOrder (graphs_at v rs) (graphs_listed v rs listed)
  listed_in_order =
      let p = parted (graphs_listed v rs listed) (graphs_rise v rs single listed al.rising) in
      let m = (graphs_at v rs).named in
      let named_is : p.named ≡ fin.entries m = same_entries name_cmp name_total name_exact p.named (fin.entries m) p.sorted (fin.entries_sorted m) (λ q.
      find_looks q p.named ∙ sym (look_named q p.unnamed (map with_target p.named)) ∙ sym (ap (look (Named q)) p.same) ∙ looked_named q ∙ fin.get-entries m q) in
      record {
        unnamed = p.unnamed;
        default = looked_default p.unnamed (ap (look Default) p.same ∙ look_first p.unnamed p.named);
        graphs_are = p.same ∙ ap (λ es. default_first p.unnamed ++ map with_target es) named_is;
      }

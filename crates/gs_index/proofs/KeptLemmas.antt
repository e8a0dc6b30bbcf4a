-- What is kept of an index as its entries and its set change.
use Rattle.std.proofs.Common.{◌≡◌, ◌≢◌, ◌<◌, ◌≤◌, ◌+◌, ◌||◌, ℕ, Bool, true, false, cond, nat_eq, List, [], ◌∷◌, ◌++◌, map, length, get_or, set, take, Option, Some, None, refl, sym, ap, subst, ◌∙◌, arith, length-append}
use Rattle.std.specs.Prelude.{find, IfSome}
use Rattle.std.specs.declared.cmp.Ordering.{Ordering}
use Rattle.std.specs.declared.cmp.Ordering.TheVariants.{Less, Equal, Greater}
use Rattle.std.proofs.Math.ListN.{get_or-eq_default}
use Rattle.std.proofs.lemmas.Bool.{eqb-true}
use Rattle.std.proofs.lemmas.List.{length-set, length-map, get_or_default, take-map}
use Rattle.gs_model.specs.Limits.{last_node}
use Rattle.gs_term.specs.declared.names.Target.{Target}
use Rattle.gs_term.specs.declared.names.Target.TheVariants.{Default}
use Rattle.gs_pool.specs.declared.nodes.Key.{Key}
use Rattle.gs_pool.specs.Pool.{Nodes, plain}
use Rattle.gs_tree.specs.Keys.{AllKeys, insert_key, insert_by, remove_key, remove_by}
use Rattle.gs_tree.specs.Tree.{tree_at}
use Rattle.gs_tree.specs.Steps.{plain_count, SameTotal}
use Rattle.gs_tree.specs.Reading.{IsReadableAt, keys_at, keys_from, first_key}
use Rattle.gs_tree.specs.Sets.{IsSet, IsSetAt, UnitesAt}
use Rattle.gs_tree.specs.declared.unions.Merged.{Merged}
use Rattle.gs_tree.proofs.Merging.{length_merge}
use Rattle.gs_tree.proofs.Order.{AllKeys-map}
use Rattle.gs_tree.proofs.KeysAfter.{all_from}
use Rattle.gs_tree.proofs.ReadingLemmas.{set_readable}
use Rattle.gs_tree.proofs.Rotations.{tree_in}
use Rattle.gs_tree.proofs.TreeLemmas.{Stands-same, plain_count_same}
use Rattle.gs_index.specs.declared.entries.Entry.{Entry}
use Rattle.gs_index.specs.Ages.{Age, blank_entry, age_of, is_target, aged_key_cmp, aged_key_total, age_among, age_in}
use Rattle.gs_index.specs.Indexes.{entry_at, is_made_by, is_listed, numbers_after, IsIndexed}
use Rattle.gs_index.specs.Kept.{number_key, key_if, key_number, number_if, keys_past, numbers_at, AreWithin, IsKept, GainsNumber, LosesNumber}
use Rattle.gs_index.proofs.AgeLemmas.{rising_same, age_within, age_push, age_set, age_kept}
use Rattle.gs_index.proofs.NumberLemmas.{numbers, none_listed, all_numbers, numbers_rise, numbers_from, others_stay}
use Rattle.gs_index.proofs.FindLemmas.{is_sought, number_if_of, first_sought, find_same}

-- a set by one order is one by another that reads the same ages
pub set_same : (f g : ℕ → Age) (P : ℕ → Type 0) → ((n : ℕ) → P n → f n ≡ g n) → (p : Nodes) (root : Option ℕ) → AllKeys (λ k. P k.subject) (keys_at p root) → IsSetAt (aged_key_cmp f) p root → IsSetAt (aged_key_cmp g) p root
set_same f g P same p root hs s = record { root_is = s.root_is; stands = s.stands; balanced = s.balanced; rising = rising_same f g P same (keys_at p root) hs s.rising; apart = s.apart }

-- a root means the same tree in a pool of the same nodes
pub tree_kept : (cmp : Key → Key → Ordering) (p q : Nodes) (root : Option ℕ) → IsSetAt cmp p root → q.nodes ≡ p.nodes → tree_at q root ≡ tree_at p root
tree_kept cmp p q root s same = tree_in q root (tree_at p root) s.root_is (Stands-same p q (tree_at p root) (λ x n h e. ap (λ xs. get_or xs x None) same ∙ e) s.stands)

-- and it is the same set where the marks are the same
pub set_kept : (cmp : Key → Key → Ordering) (p q : Nodes) (root : Option ℕ) → IsSetAt cmp p root → q.nodes ≡ p.nodes → q.marks ≡ p.marks → IsSetAt cmp q root
set_kept cmp p q root s same marks =
    let alike : (x : ℕ) → plain_count q x ≡ plain_count p x = λ x. plain_count_same p q x (ap (λ xs. get_or xs x None) same) (ap (λ ms. get_or ms x plain) marks) in
    let stands = Stands-same p q (tree_at p root) (λ x n h e. ap (λ xs. get_or xs x None) same ∙ e) s.stands in
    subst (IsSet cmp q root) (sym (tree_kept cmp p q root s same)) (record { root_is = s.root_is; stands = stands; balanced = s.balanced; rising = s.rising; apart = λ x. omega (arith, s.apart x, alike x) })

pub numbers_kept : (cmp : Key → Key → Ordering) (p q : Nodes) (root : Option ℕ) → IsSetAt cmp p root → q.nodes ≡ p.nodes → numbers_at q root ≡ numbers_at p root
numbers_kept cmp p q root s same = ap (λ t. map key_number (Rattle.gs_tree.specs.Tree.keys t)) (tree_kept cmp p q root s same)

module _ (cmp : Key → Key → Ordering) (P : Key → Type 0) where
  -- what holds of a key and of others holds of them all
  all_insert : (x : Key) (ks : List Key) → P x → AllKeys P ks → AllKeys P (insert_key cmp x ks)
  all_insert x [] p h = (p, tt)
  all_insert x (y ∷ ks) p h = by_answer (cmp x y) (all_insert x ks p h.1)
    where
      by_answer : (o : Ordering) → AllKeys P (insert_key cmp x ks) → AllKeys P (insert_by o x y ks (insert_key cmp x ks))
      by_answer Less rest = (p, h)
      by_answer Equal rest = h
      by_answer Greater rest = (h.0, rest)

  -- what holds of all holds of those that stay
  all_remove : (x : Key) (ks : List Key) → AllKeys P ks → AllKeys P (remove_key cmp x ks)
  all_remove x [] h = tt
  all_remove x (y ∷ ks) h = by_answer (cmp x y) (all_remove x ks h.1)
    where
      by_answer : (o : Ordering) → AllKeys P (remove_key cmp x ks) → AllKeys P (remove_by o y ks (remove_key cmp x ks))
      by_answer Less rest = h
      by_answer Equal rest = h.1
      by_answer Greater rest = (h.0, rest)

-- a union with one number, in place
pub gained : (age : ℕ → Age) (p q : Nodes) (from : Option ℕ) (m : Merged) (n : ℕ) (key : Key) → key ≡ number_key n → UnitesAt (aged_key_cmp age) 0 0 p q from (key ∷ []) m → SameTotal p q → GainsNumber age p q from m.root n
gained age p q from m n key is u total =
    let keys_are = u.keys_are ∙ ap (λ x. insert_key (aged_key_cmp age) x (keys_at p from)) is in
    let one : m.added ≤ 1 = omega (arith, u.counted, ap length u.keys_are, length_merge (aged_key_cmp age) (aged_key_total age) (key ∷ []) (keys_at p from)) in
    record { set = u.set; keys_are = keys_are; spare = omega (arith, total, u.in_place refl, one) }

-- each is within a greater number too
within_more : (m n : ℕ) (ks : List Key) → m ≤ n → AreWithin m ks → AreWithin n ks
within_more m n ks le h = AllKeys-map (λ k. key_number k < m) (λ k. key_number k < n) (λ k l. omega (arith, le, l)) ks h

-- what an index shows where it is kept
pub shown_indexed : (es : List Entry) (p : Nodes) (root : Option ℕ) (spare : ℕ) → IsKept es p root → IsIndexed (record { entries = es; listed = numbers_at p root; spare = spare })
shown_indexed es p root spare k = record {
  within = all_numbers (age_in es) (λ n. n < length es) (keys_at p root) k.within;
  rising = numbers_rise (age_in es) (keys_at p root) k.set.rising;
  few = k.few;
}

-- more room changes nothing that is kept
pub kept_room : (es : List Entry) (p q : Nodes) (root : Option ℕ) → IsKept es p root → q.nodes ≡ p.nodes → q.marks ≡ p.marks → IsKept es q root
kept_room es p q root k same marks = record {
  set = set_kept (aged_key_cmp (age_in es)) p q root k.set same marks;
  within = subst (λ t. AreWithin (length es) (Rattle.gs_tree.specs.Tree.keys t)) (sym (tree_kept (aged_key_cmp (age_in es)) p q root k.set same)) k.within;
  few = k.few;
}

-- nor does an entry more
pub kept_push : (es : List Entry) (e : Entry) (p : Nodes) (root : Option ℕ) → length es ≤ last_node → IsKept es p root → IsKept (es ++ e ∷ []) p root
kept_push es e p root few k =
    let long : length (es ++ e ∷ []) ≡ length es + 1 = length-append es (e ∷ []) in
    record {
      set = set_same (age_in es) (age_in (es ++ e ∷ [])) (λ n. n < length es) (age_push es e) p root k.within k.set;
      within = within_more (length es) (length (es ++ e ∷ [])) (keys_at p root) (omega (arith, long)) k.within;
      few = omega (arith, long, few);
    }

-- nor an entry in place of one of its age
pub kept_end : (es : List Entry) (i : ℕ) (e : Entry) (p : Nodes) (root : Option ℕ) → age_of e ≡ age_of (entry_at es i) → IsKept es p root → IsKept (set es i e) p root
kept_end es i e p root same k = record {
  set = set_same (age_in es) (age_in (set es i e)) (λ n. n < length es) (λ n h. age_kept es i e same n) p root k.within k.set;
  within = subst (λ n. AreWithin n (keys_at p root)) (sym (length-set es i e)) k.within;
  few = subst (λ n. n ≤ last_node + 1) (sym (length-set es i e)) k.few;
}

-- a number that is not listed may get another entry
pub set_unlisted : (es : List Entry) (i : ℕ) (e : Entry) (p : Nodes) (root : Option ℕ) → is_listed i (numbers_at p root) ≡ false → IsKept es p root → IsSetAt (aged_key_cmp (age_in (set es i e))) p root
set_unlisted es i e p root out k = set_same (age_in es) (age_in (set es i e)) (λ n. n ≢ i) (age_set es i e) p root (none_listed i (keys_at p root) out) k.set

-- and then goes in
pub kept_list : (es : List Entry) (i : ℕ) (e : Entry) (p q : Nodes) (from to : Option ℕ) → i < length es → IsKept es p from → GainsNumber (age_in (set es i e)) p q from to i → IsKept (set es i e) q to
kept_list es i e p q from to h k gains =
    let cmp = aged_key_cmp (age_in (set es i e)) in
    record {
      set = gains.set;
      within = subst (λ n. AreWithin n (keys_at q to)) (sym (length-set es i e))
          (subst (AreWithin (length es)) (sym gains.keys_are) (all_insert cmp (λ x. key_number x < length es) (number_key i) (keys_at p from) h k.within));
      few = subst (λ n. n ≤ last_node + 1) (sym (length-set es i e)) k.few;
    }

-- a number that went out may get another entry
pub kept_unlist : (es : List Entry) (i : ℕ) (e : Entry) (p q : Nodes) (from to : Option ℕ) → IsKept es p from → LosesNumber (age_in es) p q from to i → IsKept (set es i e) q to
kept_unlist es i e p q from to k loses =
    let cmp = aged_key_cmp (age_in es) in
    let others = subst (AllKeys (λ x. key_number x ≢ i)) (sym loses.keys_are) (others_stay (age_in es) i (keys_at p from) k.set.rising) in
    record {
      set = set_same (age_in es) (age_in (set es i e)) (λ n. n ≢ i) (age_set es i e) q to others loses.set;
      within = subst (λ n. AreWithin n (keys_at q to)) (sym (length-set es i e))
          (subst (AreWithin (length es)) (sym loses.keys_are) (all_remove cmp (λ x. key_number x < length es) (number_key i) (keys_at p from) k.within));
      few = subst (λ n. n ≤ last_node + 1) (sym (length-set es i e)) k.few;
    }

-- a listed number is that of an entry
pub listed_within : (count n : ℕ) (ks : List Key) → AreWithin count ks → is_listed n (numbers ks) ≡ true → n < count
listed_within count n [] h e = absurd (cc)
listed_within count n (k ∷ ks) h e = by_test (nat_eq k.subject n) refl e (listed_within count n ks h.1)
  where
    by_test : (b : Bool) → nat_eq k.subject n ≡ b → (b || is_listed n (numbers ks)) ≡ true → (is_listed n (numbers ks) ≡ true → n < count) → n < count
    by_test true is f later = omega (arith, h.0, eqb-true k.subject n is)
    by_test false is f later = later f

module _ (es : List Entry) (p : Nodes) (root : Option ℕ) (k : IsKept es p root) (t : Target) (v : ℕ) where
  -- among the entries and what is sought, the set is one
  pub readable_among : IsReadableAt (aged_key_cmp (age_among es t v)) p root
  readable_among = set_readable (aged_key_cmp (age_among es t v)) p root
      (set_same (age_in es) (age_among es t v) (λ n. n < length es) (λ n h. age_within es Default 0 n h ∙ sym (age_within es t v n h)) p root k.within k.set)

  -- the number that is found is that of an entry
  pub found_within : (o : Option ℕ) → o ≡ number_if (first_key (keys_past (age_among es t v) (keys_at p root))) → IfSome o (λ n. n < length es)
  found_within o e =
      rw e (by_keys (keys_past (age_among es t v) (keys_at p root)) (all_from (aged_key_cmp (age_among es t v)) (λ x. key_number x < length es) (Some (number_key (last_node + 1))) (keys_at p root) k.within))
    where
      by_keys : (ks : List Key) → AreWithin (length es) ks → IfSome (number_if (first_key ks)) (λ n. n < length es)
      by_keys [] h = tt
      by_keys (x ∷ ks) h = h.0

  -- and says the number that is sought
  pub found_number : (o : Option ℕ) → o ≡ number_if (first_key (keys_past (age_among es t v) (keys_at p root)))
      → number_if_of (age_among es t v) t o ≡ find (λ n. is_made_by t v (entry_at es n)) (numbers_at p root)
  found_number o e =
      let f = age_among es t v in
      let top = last_node + 1 in
      let sought : f top ≡ record { target = t; birth = v } = get_or-eq_default (map age_of es) (record { target = t; birth = v }) (omega (arith, k.few, length-map es age_of)) in
      let low = within_more (length es) top (keys_at p root) k.few k.within in
      ap (number_if_of f t) e
      ∙ first_sought f t v top sought (keys_at p root) low readable_among.rising
      ∙ find_same (λ n. is_sought t v (f n)) (λ n. is_made_by t v (entry_at es n)) (keys_at p root)
      (AllKeys-map (λ x. key_number x < length es) (λ x. is_sought t v (f x.subject) ≡ is_made_by t v (entry_at es x.subject)) (λ x h. ap (is_sought t v) (age_within es t v x.subject h)) (keys_at p root) k.within)

  -- where a number is found, it is that, if its entry is of the target
  pub found_here : (o : Option ℕ) (n : ℕ) (e : Entry) (b : Bool) → o ≡ number_if (first_key (keys_past (age_among es t v) (keys_at p root))) → o ≡ Some n
      → e ≡ get_or es n e → b ≡ is_target t e.target → cond b (Some n) None ≡ find (λ n. is_made_by t v (entry_at es n)) (numbers_at p root)
  found_here o n e b is some read same =
      let f = age_among es t v in
      let h : n < length es = subst (λ o. IfSome o (λ n. n < length es)) some (found_within o is) in
      let test : b ≡ is_target t (f n).target = same ∙ ap (λ y. is_target t y.target) (read ∙ get_or_default es n e blank_entry h) ∙ sym (ap (λ a. is_target t a.target) (age_within es t v n h)) in
      ap (λ b. cond b (Some n) None) test ∙ ap (number_if_of f t) (sym some) ∙ found_number o is

-- the numbers of the next keys
pub next_numbers : (es : List Entry) (p : Nodes) (root from : Option ℕ) (most : ℕ) (taken : List Key) → IsKept es p root → IfSome from (λ n. is_listed n (numbers_at p root) ≡ true)
    → taken ≡ take most (keys_from (aged_key_cmp (age_in es)) (key_if from) (keys_at p root)) → map key_number taken ≡ take most (numbers_after from (numbers_at p root))
next_numbers es p root from most taken k listed e =
    ap numbers e
    ∙ sym (take-map key_number most (keys_from (aged_key_cmp (age_in es)) (key_if from) (keys_at p root)))
    ∙ ap (take most) (numbers_from (age_in es) from (keys_at p root) k.set.rising listed)

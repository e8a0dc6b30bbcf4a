-- Maps by name whose values are replaced.
use Rattle.std.proofs.Common.{◌≡◌, ℕ, Bool, true, false, cond, T, ◌&&◌, List, [], ◌∷◌, map, length, Option, Some, None, option_map, refl, sym, ap, subst, ◌∙◌}
use Rattle.std.specs.List.{All}
use Rattle.std.specs.Ordering.{is_lt, eq_by_cmp}
use Rattle.std.specs.FinMap as fin
use Rattle.std.specs.FinMap.Entries.{find, below_all, is_sorted}
use Rattle.std.specs.declared.cmp.Ordering.{Ordering}
use Rattle.std.proofs.lemmas.List.{length-map}
use Rattle.std.proofs.lemmas.List.Elements.{All-head, All-tail}
use Rattle.gs_term.specs.Names.{name_cmp}
use Rattle.gs_term.proofs.NameLemmas.{name_total, name_exact}
use Rattle.gs_datasets.specs.Standing.{with_values}

module _ {K X Y : Type 0} (R : K → K → Ordering) (f : X → Y) where
  below_all-map : (k : K) (es : List (K × X)) → below_all R k (map (λ e. (e.0, f e.1)) es) ≡ below_all R k es
  below_all-map k [] = refl
  below_all-map k (e ∷ es) = ap (λ b. is_lt (R k e.0) && b) (below_all-map k es)

  -- the keys stay, and so does their order
  is_sorted-map : (es : List (K × X)) → is_sorted R (map (λ e. (e.0, f e.1)) es) ≡ is_sorted R es
  is_sorted-map [] = refl
  is_sorted-map (e ∷ es) = ap (λ b. b && is_sorted R (map (λ x. (x.0, f x.1)) es)) (below_all-map e.0 es) ∙ ap (λ b. below_all R e.0 es && b) (is_sorted-map es)

  pub sorted_map : (es : List (K × X)) → T (is_sorted R es) → T (is_sorted R (map (λ e. (e.0, f e.1)) es))
  sorted_map es h = subst T (sym (is_sorted-map es)) h

  -- what is found is what f makes of what was found
  pub find-map : (q : K) (es : List (K × X)) → find R q (map (λ e. (e.0, f e.1)) es) ≡ option_map f (find R q es)
  find-map q [] = refl
  find-map q (e ∷ es) =
      ap (cond (eq_by_cmp R q e.0) (Some (f e.1))) (find-map q es)
      ∙ elim (eq_by_cmp R q e.0) as (λ b. cond b (Some (f e.1)) (option_map f (find R q es)) ≡ option_map f (cond b (Some e.1) (find R q es))) [ true ↦ refl | false ↦ refl ]

module _ {X Y : Type 0} (f : X → Y) where
  -- what the map has: its entries, what it answers, and how many names
  pub entries-with_values : (m : fin.FinMap name_cmp X) → fin.entries (with_values f m) ≡ map (λ e. (e.0, f e.1)) (fin.entries m)
  entries-with_values m = fin.entries-from_sorted name_cmp _ (sorted_map name_cmp f (fin.entries m) (fin.entries_sorted m))

  pub get-with_values : (m : fin.FinMap name_cmp X) (q : List ℕ) → fin.get (with_values f m) q ≡ option_map f (fin.get m q)
  get-with_values m q =
      fin.get-from_sorted name_cmp _ q (sorted_map name_cmp f (fin.entries m) (fin.entries_sorted m))
      ∙ find-map name_cmp f q (fin.entries m)
      ∙ ap (option_map f) (sym (fin.get-entries m q))

  pub len-with_values : (m : fin.FinMap name_cmp X) → fin.len (with_values f m) ≡ fin.len m
  len-with_values m =
      fin.len-entries (with_values f m)
      ∙ ap length (entries-with_values m)
      ∙ length-map (fin.entries m) (λ e. (e.0, f e.1))
      ∙ sym (fin.len-entries m)

  -- none of none
  pub with_values-empty : with_values f fin.empty ≡ fin.empty
  with_values-empty = fin.empty_of_len (with_values f fin.empty) (len-with_values fin.empty ∙ fin.len-empty name_cmp X)

  mapped : (b : Bool) (x : X) (o : Option X) → option_map f (cond b (Some x) o) ≡ cond b (Some (f x)) (option_map f o)
  mapped true x o = refl
  mapped false x o = refl

  mapped_none : (b : Bool) (o : Option X) → option_map f (cond b None o) ≡ cond b None (option_map f o)
  mapped_none true o = refl
  mapped_none false o = refl

  -- a value put in, or taken out, before or after
  pub with_values-insert : (m : fin.FinMap name_cmp X) (n : List ℕ) (x : X) → with_values f (fin.insert m n x) ≡ fin.insert (with_values f m) n (f x)
  with_values-insert m n x = fin.same_map name_total name_exact _ _ (λ q.
      get-with_values (fin.insert m n x) q
      ∙ ap (option_map f) (fin.get-insert name_total m n x q)
      ∙ mapped (eq_by_cmp name_cmp q n) x (fin.get m q)
      ∙ ap (cond (eq_by_cmp name_cmp q n) (Some (f x))) (sym (get-with_values m q))
      ∙ sym (fin.get-insert name_total (with_values f m) n (f x) q))

  pub with_values-remove : (m : fin.FinMap name_cmp X) (n : List ℕ) → with_values f (fin.remove m n) ≡ fin.remove (with_values f m) n
  with_values-remove m n = fin.same_map name_total name_exact _ _ (λ q.
      get-with_values (fin.remove m n) q
      ∙ ap (option_map f) (fin.get-remove name_total m n q)
      ∙ mapped_none (eq_by_cmp name_cmp q n) (fin.get m q)
      ∙ ap (cond (eq_by_cmp name_cmp q n) None) (sym (get-with_values m q))
      ∙ sym (fin.get-remove name_total (with_values f m) n q))

shadowed : {Y : Type 0} (b : Bool) (x o : Option Y) → cond b x (cond b None o) ≡ cond b x o
shadowed true x o = refl
shadowed false x o = refl

-- what is put in place of a value does not depend on it
pub insert-remove : {Y : Type 0} (m : fin.FinMap name_cmp Y) (n : List ℕ) (y : Y) → fin.insert (fin.remove m n) n y ≡ fin.insert m n y
insert-remove m n y = fin.same_map name_total name_exact _ _ (λ q.
    fin.get-insert name_total (fin.remove m n) n y q
    ∙ ap (cond (eq_by_cmp name_cmp q n) (Some y)) (fin.get-remove name_total m n q)
    ∙ shadowed (eq_by_cmp name_cmp q n) (Some y) (fin.get m q)
    ∙ sym (fin.get-insert name_total m n y q))

-- functions that agree on each value make the same map
module _ {X Y : Type 0} (f g : X → Y) where
  entries_agree : {K : Type 0} (es : List (K × X)) → All (λ x. f x ≡ g x) (map (λ e. e.1) es) → map {B = K × Y} (λ e. (e.0, f e.1)) es ≡ map (λ e. (e.0, g e.1)) es
  entries_agree [] same = refl
  entries_agree (e ∷ es) same =
      let first = All-head (λ x. f x ≡ g x) e.1 (map (λ d. d.1) es) same in
      let rest = entries_agree es (All-tail (λ x. f x ≡ g x) e.1 (map (λ d. d.1) es) same) in
      λ i. (e.0, first i) ∷ rest i

  pub with_values_agree : (m : fin.FinMap name_cmp X) → All (λ x. f x ≡ g x) (fin.values m) → with_values f m ≡ with_values g m
  with_values_agree m same = ap fin.from_sorted (entries_agree (fin.entries m) same)

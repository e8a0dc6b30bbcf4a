-- Entries in the order of their keys: beside keys that are all greater, and of a map without one name.
use Rattle.std.proofs.Common.{◌≡◌, ℕ, Bool, true, false, cond, not, T, ◌&&◌, List, [], ◌∷◌, Option, Some, None, refl, sym, ap, ◌∙◌}
use Rattle.std.specs.List.{AllByRecursion}
use Rattle.std.specs.Ordering.{eq_by_cmp, is_eq, is_lt, ordering_reverse}
use Rattle.std.specs.Cmp.{IsTotalOrder, eq_by_cmp_equiv}
use Rattle.std.specs.FinMap as fin
use Rattle.std.specs.FinMap.Entries.{find, where_key, is_sorted, below_all, is_sorted-where_key, find-where_key}
use Rattle.std.specs.declared.cmp.Ordering.{Ordering}
use Rattle.std.specs.declared.cmp.Ordering.TheVariants.{Less, Equal, Greater}
use Rattle.std.proofs.lemmas.Cmp.{alike_right}
use Rattle.gs_term.specs.Names.{name_cmp}
use Rattle.gs_term.proofs.NameLemmas.{name_total, name_exact}

both_first : (a b : Bool) → T (a && b) → T a
both_first true b h = tt
both_first false b h = absurd h

pub both_second : (a b : Bool) → T (a && b) → T b
both_second true b h = h
both_second false b h = absurd h

is_less : (r : Ordering) → T (is_lt r) → r ≡ Less
is_less Less h = refl
is_less Equal h = absurd h
is_less Greater h = absurd h

-- what two keys the other way round compare as
pub turned : {K : Type 0} {R : K → K → Ordering} → IsTotalOrder R → (x y : K) (r : Ordering) → R x y ≡ r → R y x ≡ ordering_reverse r
turned o x y r is = o.antisymm y x ∙ ap ordering_reverse is

module _ {K X : Type 0} (R : K → K → Ordering) (o : IsTotalOrder R) where
  -- each key is greater than k
  abbrev pub AreGreater : K → List (K × X) → Type 0
  AreGreater k es = AllByRecursion (λ e. R e.0 k ≡ Greater) es

  -- no greater key is the one sought
  pub find-greater : (k : K) (es : List (K × X)) → AreGreater k es → find R k es ≡ None
  find-greater k [] h = refl
  find-greater k (e ∷ es) h = ap (λ r. cond (is_eq r) (Some e.1) (find R k es)) (turned o e.0 k Greater h.0) ∙ find-greater k es h.1

  -- nor the one to be taken out
  pub without-greater : (k : K) (es : List (K × X)) → AreGreater k es → where_key R (λ x. not (eq_by_cmp R k x)) es ≡ es
  without-greater k [] h = refl
  without-greater k (e ∷ es) h =
      let rest = where_key R (λ x. not (eq_by_cmp R k x)) es in
      ap (λ r. cond (not (is_eq r)) (e ∷ rest) rest) (turned o e.0 k Greater h.0) ∙ ap (λ xs. e ∷ xs) (without-greater k es h.1)

  greater_all : (k : K) (es : List (K × X)) → T (below_all R k es) → AreGreater k es
  greater_all k [] h = tt
  greater_all k (e ∷ es) h = (turned o k e.0 Less (is_less _ (both_first _ _ h)), greater_all k es (both_second _ _ h))

  -- where keys rise, those after the first are greater
  pub greater_after : (e : K × X) (es : List (K × X)) → T (is_sorted R (e ∷ es)) → AreGreater e.0 es
  greater_after e es h = greater_all e.0 es (both_first _ _ h)

turned_cond : {X : Type 0} (b : Bool) (x : Option X) → cond (not b) x None ≡ cond b None x
turned_cond true x = refl
turned_cond false x = refl

-- the entries of a map without a name are those of the other names
pub entries-remove : {X : Type 0} (m : fin.FinMap name_cmp X) (n : List ℕ) → fin.entries (fin.remove m n) ≡ where_key name_cmp (λ x. not (eq_by_cmp name_cmp n x)) (fin.entries m)
entries-remove m n =
    let es = fin.entries m in
    let others = where_key name_cmp (λ x. not (eq_by_cmp name_cmp n x)) es in
    let sorted = is_sorted-where_key name_cmp (λ x. not (eq_by_cmp name_cmp n x)) es (fin.entries_sorted m) in
    let same : fin.from_sorted {R = name_cmp} others ≡ fin.remove m n = fin.same_map name_total name_exact _ _ (λ q.
    fin.get-from_sorted name_cmp others q sorted
    ∙ find-where_key name_cmp (λ x. not (eq_by_cmp name_cmp n x)) q (λ x t. ap (λ r. not (is_eq r)) (sym (alike_right name_total q x n t))) es
    ∙ turned_cond (eq_by_cmp name_cmp n q) _
    ∙ ap (λ b. cond b None (find name_cmp q es)) ((eq_by_cmp_equiv name_total).symm n q)
    ∙ ap (cond (eq_by_cmp name_cmp q n) None) (sym (fin.get-entries m q))
    ∙ sym (fin.get-remove name_total m n q)) in
    sym (ap fin.entries same) ∙ fin.entries-from_sorted name_cmp others sorted

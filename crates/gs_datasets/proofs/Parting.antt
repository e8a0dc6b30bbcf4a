-- The versions of all graphs, parted at a target.
use Rattle.std.proofs.Common.{◌≡◌, cond, not, T, List, [], ◌∷◌, ◌++◌, map, Option, Some, None, refl, sym, ap, subst, ◌∙◌}
use Rattle.std.specs.List.{All, cons_option}
use Rattle.std.specs.Ordering.{eq_by_cmp, is_eq}
use Rattle.std.specs.Cmp.{IsTotalOrder}
use Rattle.std.specs.FinMap as fin
use Rattle.std.specs.FinMap.Entries.{put, find, where_key, is_sorted, by_order}
use Rattle.std.specs.declared.cmp.Ordering.{Ordering}
use Rattle.std.specs.declared.cmp.Ordering.TheVariants.{Less, Equal, Greater}
use Rattle.std.proofs.lemmas.List.Elements.{All-append, All-cons, All-head, All-tail}
use Rattle.gs_term.specs.declared.names.Target.{Target}
use Rattle.gs_term.specs.declared.names.Target.TheVariants.{Default, Named}
use Rattle.gs_term.specs.Names.{name_cmp}
use Rattle.gs_term.proofs.NameLemmas.{name_total}
use Rattle.gs_catalogue.specs.declared.versions.GraphVersion.{GraphVersion}
use Rattle.gs_catalogue.specs.Catalogues.{GraphVersions, version_at, with_version}
use Rattle.gs_ledger.proofs.Sums.{all_front, all_back}
use Rattle.gs_datasets.specs.Standing.{all_versions, other_versions}
use Rattle.gs_datasets.proofs.Entries.{both_second, turned, AreGreater, find-greater, without-greater, greater_after, entries-remove}

module _ {K X : Type 0} (R : K → K → Ordering) where
  -- The values of entries, parted at a key: those before it, that of the key, where it is there, and those after it. Without the key its value is out, and a new one goes where it was.
  pub record PartedAt (k : K) (es : List (K × X)) : Type 0 where
    pub before : List X
    pub after : List X
    pub whole : map (λ e. e.1) es ≡ before ++ cons_option (find R k es) after
    pub taken : map (λ e. e.1) (where_key R (λ x. not (eq_by_cmp R k x)) es) ≡ before ++ after
    pub put_in : (v : X) → map (λ e. e.1) (put R k v es) ≡ before ++ v ∷ after

  module _ (o : IsTotalOrder R) where
    -- keys greater than one are greater than what is less than it, or equal
    greater_later : (k j : K) (es : List (K × X)) → R k j ≡ Less → AreGreater R o j es → AreGreater R o k es
    greater_later k j [] l h = tt
    greater_later k j (e ∷ es) l h = (turned o k e.0 Less (o.trans k j e.0 l (turned o e.0 j Greater h.0)), greater_later k j es l h.1)

    greater_tied : (k j : K) (es : List (K × X)) → R k j ≡ Equal → AreGreater R o j es → AreGreater R o k es
    greater_tied k j [] t h = tt
    greater_tied k j (e ∷ es) t h = (turned o k e.0 Less (o.congr k j e.0 t ∙ turned o e.0 j Greater h.0), greater_tied k j es t h.1)

    pub parted_at : (k : K) (es : List (K × X)) → T (is_sorted R es) → PartedAt k es
    parted_at k [] h = record { before = []; after = []; whole = refl; taken = refl; put_in = λ v. refl }
    parted_at k (e ∷ es) h = by_answer (R k e.0) refl (parted_at k es (both_second _ _ h))
      where
        less : List (K × X)
        less = where_key R (λ x. not (eq_by_cmp R k x)) es

        by_answer : (r : Ordering) → R k e.0 ≡ r → PartedAt k es → PartedAt k (e ∷ es)
        by_answer Less is rest =
            let greater : AreGreater R o k (e ∷ es) = (turned o k e.0 Less is, greater_later k e.0 es is (greater_after R o e es h)) in
            record {
              before = [];
              after = map (λ d. d.1) (e ∷ es);
              whole = ap (λ u. cons_option u (map (λ d. d.1) (e ∷ es))) (sym (find-greater R o k (e ∷ es) greater));
              taken = ap (map (λ d. d.1)) (without-greater R o k (e ∷ es) greater);
              put_in = λ v. ap (λ r. map (λ d. d.1) (by_order r ((k, v) ∷ e ∷ es) ((e.0, v) ∷ es) (e ∷ put R k v es))) is;
            }
        by_answer Equal is rest =
            let greater = greater_tied k e.0 es is (greater_after R o e es h) in
            record {
              before = [];
              after = map (λ d. d.1) es;
              whole = ap (λ r. cons_option (cond (is_eq r) (Some e.1) (find R k es)) (map (λ d. d.1) es)) (sym is);
              taken = ap (λ r. map (λ d. d.1) (cond (not (is_eq r)) (e ∷ less) less)) is ∙ ap (map (λ d. d.1)) (without-greater R o k es greater);
              put_in = λ v. ap (λ r. map (λ d. d.1) (by_order r ((k, v) ∷ e ∷ es) ((e.0, v) ∷ es) (e ∷ put R k v es))) is;
            }
        by_answer Greater is rest =
            record {
              before = e.1 ∷ rest.before;
              after = rest.after;
              whole = ap (λ xs. e.1 ∷ xs) rest.whole ∙ ap (λ r. e.1 ∷ rest.before ++ cons_option (cond (is_eq r) (Some e.1) (find R k es)) rest.after) (sym is);
              taken = ap (λ r. map (λ d. d.1) (cond (not (is_eq r)) (e ∷ less) less)) is ∙ ap (λ xs. e.1 ∷ xs) rest.taken;
              put_in = λ v. ap (λ r. map (λ d. d.1) (by_order r ((k, v) ∷ e ∷ es) ((e.0, v) ∷ es) (e ∷ put R k v es))) is ∙ ap (λ xs. e.1 ∷ xs) (rest.put_in v);
            }

-- the versions of all graphs, parted at a target: the others, and all, where the target's is another
pub record Parted (g : GraphVersions) (t : Target) : Type 0 where
  pub before : List GraphVersion
  pub after : List GraphVersion
  pub whole : all_versions g ≡ before ++ cons_option (version_at g t) after
  pub others : other_versions g t ≡ before ++ after
  pub set_to : (v : GraphVersion) → all_versions (with_version g t v) ≡ before ++ v ∷ after

pub parted : (g : GraphVersions) (t : Target) → Parted g t
parted g Default = record { before = []; after = fin.values g.named; whole = refl; others = refl; set_to = λ v. refl }
parted g (Named n) =
    let m = g.named in
    let at = parted_at name_cmp name_total n (fin.entries m) (fin.entries_sorted m) in
    record {
      before = g.unnamed ∷ at.before;
      after = at.after;
      whole = ap (λ vs. g.unnamed ∷ vs) (at.whole ∙ ap (λ u. at.before ++ cons_option u at.after) (sym (fin.get-entries m n)));
      others = ap (λ vs. g.unnamed ∷ vs) (ap (map (λ e. e.1)) (entries-remove m n) ∙ at.taken);
      set_to = λ v. ap (λ vs. g.unnamed ∷ vs) (ap (map (λ e. e.1)) (fin.entries-insert name_total m n v) ∙ at.put_in v);
    }

module _ (P : GraphVersion → Type 0) where
  after_one : (u : Option GraphVersion) (vs : List GraphVersion) → All P (cons_option u vs) → All P vs
  after_one None vs a = a
  after_one (Some v) vs a = All-tail P v vs a

  -- what holds of all versions holds of the others
  pub all_others : (g : GraphVersions) (t : Target) → All P (all_versions g) → All P (other_versions g t)
  all_others g t a =
      let parts = parted g t in
      let one = cons_option (version_at g t) parts.after in
      let b = subst (All P) parts.whole a in
      subst (All P) (sym parts.others) (All-append P parts.before parts.after (all_front P parts.before one b) (after_one (version_at g t) parts.after (all_back P parts.before one b)))

  -- what holds of the others and of a version holds of all, where it is the target's
  pub all_with : (g : GraphVersions) (t : Target) (v : GraphVersion) → P v → All P (other_versions g t) → All P (all_versions (with_version g t v))
  all_with g t v p a =
      let parts = parted g t in
      let b = subst (All P) parts.others a in
      subst (All P) (sym (parts.set_to v)) (All-append P parts.before (v ∷ parts.after) (all_front P parts.before parts.after b) (All-cons P v parts.after p (all_back P parts.before parts.after b)))

  -- what holds of all versions holds of the target's
  pub all_target : (g : GraphVersions) (t : Target) (v : GraphVersion) → version_at g t ≡ Some v → All P (all_versions g) → P v
  all_target g t v is a =
      let parts = parted g t in
      let b = subst (All P) (parts.whole ∙ ap (λ u. parts.before ++ cons_option u parts.after) is) a in
      All-head P v parts.after (all_back P parts.before (v ∷ parts.after) b)

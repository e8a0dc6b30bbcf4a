-- Keys that go out of a list, and a run that goes in by two parts.
use Rattle.std.proofs.Common.{◌≡◌, ℕ, List, [], ◌∷◌, take, drop, refl, sym, ap, ◌∙◌, inl, inr, take-append-drop}
use Rattle.std.specs.declared.cmp.Ordering.{Ordering}
use Rattle.std.specs.declared.cmp.Ordering.TheVariants.{Less, Equal, Greater}
use Rattle.gs_pool.specs.declared.nodes.Key.{Key}
use Rattle.gs_tree.specs.Keys.{HasKey, insert_key, remove_key, remove_by, merge_keys}
use Rattle.std.proofs.lemmas.List.Sums.{fold-append}

-- a key that a list lacks is in it no less when it is taken out
pub remove_absent : (cmp : Key → Key → Ordering) (x : Key) (ys : List Key) → (HasKey cmp x ys → ⊥) → remove_key cmp x ys ≡ ys
remove_absent cmp x [] none = refl
remove_absent cmp x (y ∷ ys) none = by_answer (cmp x y) refl (remove_absent cmp x ys (λ has. none (inr has)))
  where
    by_answer : (o : Ordering) → cmp x y ≡ o → remove_key cmp x ys ≡ ys → remove_by o y ys (remove_key cmp x ys) ≡ y ∷ ys
    by_answer Less e rest = refl
    by_answer Equal e rest = absurd (none (inl e))
    by_answer Greater e rest = ap (λ zs. y ∷ zs) rest

-- a run goes into keys by its first n, and then by the rest
pub merge_parts : (cmp : Key → Key → Ordering) (n : ℕ) (run ys : List Key) → merge_keys cmp (drop n run) (merge_keys cmp (take n run) ys) ≡ merge_keys cmp run ys
merge_parts cmp n run ys = sym (fold-append (λ ks x. insert_key cmp x ks) ys (take n run) (drop n run)) ∙ ap (λ xs. merge_keys cmp xs ys) (take-append-drop n run)

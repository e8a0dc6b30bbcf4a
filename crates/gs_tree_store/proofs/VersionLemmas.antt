-- The trees of a version of the dataset stay, where it has the same and they are there.
use Rattle.std.proofs.Common.{◌≡◌, ℕ, true, ◌==◌, ◌||◌, List, [], ◌∷◌, map, refl, sym, ap, subst, ◌∙◌, inl, inr, true≢false}
use Rattle.std.specs.List.{All, AllByRecursion}
use Rattle.std.proofs.lemmas.Bool.{cases_Bool}
use Rattle.std.proofs.lemmas.List.Elements.{All-head, All-tail, recursion_from_All}
use Rattle.std.proofs.lemmas.Map.Views.{exact_unsigned_eq}
use Rattle.gs_term.specs.declared.names.Target.{Target}
use Rattle.gs_pool.specs.Pool.{Nodes}
use Rattle.gs_tree.specs.Tree.{Tree, tree_at}
use Rattle.gs_tree.proofs.Rotations.{tree_in}
use Rattle.gs_keys.specs.Texts.{Terms}
use Rattle.gs_catalogue.specs.declared.versions.GraphVersion.{GraphVersion}
use Rattle.gs_index.specs.Indexes.{is_listed}
use Rattle.gs_records.specs.Records.{Record, Recorded}
use Rattle.gs_records.specs.Order.{has_number, AreListed}
use Rattle.gs_quads.specs.Places.{root_at, version_numbers}
use Rattle.gs_quads.specs.Pieces.{AreGraphs}
use Rattle.gs_quads.specs.Laws.{HasSame, HasTrees}
use Rattle.gs_quads.proofs.Numbers.{numbers_had}
use Rattle.gs_quads.proofs.Same.{number_listed, numbers_same}
use Rattle.gs_datasets.specs.Trees.{IsMeant}
use Rattle.gs_tree_store.specs.Books.{version_trees}

-- what holds of the trees of all listed numbers holds of that of each
listed_all : (P : Tree → Type 0) (f : ℕ → Tree) (n : ℕ) (ns : List ℕ) → is_listed n ns ≡ true → All P (map f ns) → P (f n)
listed_all P f n [] is all = absurd (true≢false (sym is))
listed_all P f n (m ∷ ms) is all = elim (cases_Bool (m == n)) [
  | inl here ↦ subst (λ k. P (f k)) (exact_unsigned_eq m n here) (All-head P (f m) (map f ms) all)
  | inr off ↦ listed_all P f n ms (sym (ap (λ b. b || is_listed n ms) off) ∙ is) (All-tail P (f m) (map f ms) all)
]

-- numbers that a version has, where the tree of each is the same
same_trees_of : (f g : ℕ → Tree) (v : ℕ) (rs : List Record) → ((n : ℕ) → has_number v rs n ≡ true → g n ≡ f n) → (ns : List ℕ) → AllByRecursion (λ n. has_number v rs n ≡ true) ns → map g ns ≡ map f ns
same_trees_of f g v rs same [] h = refl
same_trees_of f g v rs same (n ∷ ns) h = λ i. same n h.0 i ∷ same_trees_of f g v rs same ns h.1 i

-- version v has the same in other records, and its trees are those that it had, in another pool
pub record KeepsVersion (p q : Nodes) (x y : Recorded) (v : ℕ) : Type 0 where
  pub same : HasSame v x y
  pub trees : HasTrees v x.records p q
  pub reads : version_trees q y v ≡ version_trees p x v

pub keeps_version : (terms : Terms) (p q : Nodes) (x y : Recorded) (v : ℕ) → AreListed x.records x.listed → AreListed y.records y.listed → AreGraphs terms p v x.records → HasSame v x y → All (IsMeant q) (version_trees p x v)
    → KeepsVersion p q x y v
keeps_version terms p q x y v al al_new graphs same there =
    let old = λ (n : ℕ). tree_at p (root_at x.records n) in
    let new = λ (n : ℕ). tree_at q (root_at y.records n) in
    let trees : HasTrees v x.records p q = λ n has. (listed_all (IsMeant q) old n (version_numbers v x) (number_listed v x al n ∙ has) there).stands in
    let each : (n : ℕ) → has_number v x.records n ≡ true → new n ≡ old n = λ n has.
    ap (λ (g : Target × GraphVersion). tree_at q g.1.root) (same.graphs n has) ∙ tree_in q (root_at x.records n) (old n) (graphs n has).set.root_is (trees n has) in
    let had = recursion_from_All (λ n. has_number v x.records n ≡ true) (version_numbers v x) (numbers_had v x) in
    record {
      same = same;
      trees = trees;
      reads = ap (map new) (numbers_same v x y al al_new same) ∙ same_trees_of old new v x.records each (version_numbers v x) had;
    }

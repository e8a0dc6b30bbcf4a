-- A version whose graphs are of two trees can be read; a walk to the end has all numbers of a version.
use Rattle.std.proofs.Common.{◌≡◌, ℕ, Bool, true, false, ◌==◌, ◌||◌, List, [], ◌∷◌, Option, None, refl, sym, ap, subst, ◌∙◌, inl, inr, true≢false}
use Rattle.std.specs.List.{AllByRecursion}
use Rattle.std.proofs.lemmas.List.{append-nil}
use Rattle.std.proofs.lemmas.Map.Views.{exact_unsigned_eq}
use Rattle.gs_pool.specs.Pool.{Nodes}
use Rattle.gs_keys.specs.Texts.{Terms}
use Rattle.gs_keys.specs.Roots.{IsGraphAt}
use Rattle.gs_index.specs.declared.entries.Entry.{Entry}
use Rattle.gs_index.specs.Indexes.{is_listed}
use Rattle.gs_records.specs.Records.{Record, kept, Recorded, record_at}
use Rattle.gs_records.specs.Order.{entry_of, has_number, AreListed}
use Rattle.gs_quads.specs.Places.{root_at, version_numbers}
use Rattle.gs_quads.specs.Pieces.{AreGraphs}
use Rattle.gs_quads.specs.Found.{AreNext}
use Rattle.gs_quads.proofs.Same.{number_listed}
use Rattle.gs_quads_tests.specs.declared.trees.Roots.{Roots}
use Rattle.gs_quads_tests.specs.Trees.{AreTrees, IsOneOf, AreOfTrees}

-- no root is that of an empty graph
none_graph : (terms : Terms) (p : Nodes) → IsGraphAt terms p None
none_graph terms p = record { set = record { root_is = refl; stands = tt; rising = tt }; given = tt }

-- no root, and each of both, is that of a graph
graph_of : (terms : Terms) (p : Nodes) (roots : Roots) → AreTrees terms p roots → (root : Option ℕ) → IsOneOf roots root → IsGraphAt terms p root
graph_of terms p roots trees root (inl none) = subst (IsGraphAt terms p) (sym none) (none_graph terms p)
graph_of terms p roots trees root (inr (inl one)) = subst (IsGraphAt terms p) (sym one) trees.one
graph_of terms p roots trees root (inr (inr two)) = subst (IsGraphAt terms p) (sym two) trees.two

-- a version of such roots can be read
pub readable : (terms : Terms) (p : Nodes) (roots : Roots) (v : ℕ) (rs : List Record) → AreTrees terms p roots → AreOfTrees roots v rs → AreGraphs terms p v rs
readable terms p roots v rs trees of n has = graph_of terms p roots trees (root_at rs n) (of n has)

-- the root of a record
pub root_there : (roots : Roots) (rs : List Record) (n : ℕ) (e : Entry) → record_at rs n ≡ kept e → IsOneOf roots e.version.root → IsOneOf roots (root_at rs n)
root_there roots rs n e at one = subst (IsOneOf roots) (sym (ap (λ (r : Record). (entry_of r).version.root) at)) one

-- what holds of all numbers of a list holds of one that is there
listed_holds : (P : ℕ → Type 0) (n : ℕ) (ns : List ℕ) → AllByRecursion P ns → is_listed n ns ≡ true → P n
listed_holds P n [] all is = absurd (true≢false (sym is))
listed_holds P n (m ∷ ms) all is = go (m == n) refl is (listed_holds P n ms all.1)
  where
    go : (b : Bool) → (m == n) ≡ b → (b || is_listed n ms) ≡ true → (is_listed n ms ≡ true → P n) → P n
    go true here later rest = subst P (exact_unsigned_eq m n here) all.0
    go false off later rest = rest later

-- what holds of all numbers of a walk to the end holds of each that the version has
pub walk_has : (v : ℕ) (r : Recorded) → AreListed r.records r.listed → (P : ℕ → Type 0) (numbers : List ℕ) → AreNext v r None numbers None → AllByRecursion P numbers → (n : ℕ) → has_number v r.records n ≡ true → P n
walk_has v r al P numbers next all n has =
    let whole : version_numbers v r ≡ numbers = next.first ∙ append-nil numbers in
    listed_holds P n (version_numbers v r) (subst (AllByRecursion P) (sym whole) all) (number_listed v r al n ∙ has)

-- The trees of a ledger are there, and are sets where they are keyed.
use Rattle.std.proofs.Common.{◌≡◌, ℕ, ◌+◌, ◌≤◌, List, [], ◌∷◌, map, length, get_or, is_some, refl, sym, ap, subst, ◌∙◌, inl, inr, arith}
use Rattle.std.proofs.lemmas.List.{get_or-map, length-map}
use Rattle.std.proofs.lemmas.List.Elements.{All-tail}
use Rattle.std.specs.List.{All}
use Rattle.gs_term.specs.declared.names.Target.{Target}
use Rattle.gs_pool.specs.Pool.{Nodes}
use Rattle.gs_tree.specs.Tree.{Tree, root_of, occurrences, Stands, tree_at}
use Rattle.gs_tree.specs.Steps.{plain_count}
use Rattle.gs_tree.specs.Reading.{IsReadable, IsReadableAt}
use Rattle.gs_tree.specs.Sets.{IsSet, IsSetAt}
use Rattle.gs_tree.proofs.TreeLemmas.{tree_at-is, plain_count_mark}
use Rattle.gs_keys.specs.Texts.{Terms, key_cmp}
use Rattle.gs_catalogue.specs.declared.versions.GraphVersion.{GraphVersion}
use Rattle.gs_catalogue.specs.Catalogues.{GraphVersions}
use Rattle.gs_versions.specs.Pins.{Pins}
use Rattle.gs_ledger.specs.Entries.{Dead, trees_have}
use Rattle.gs_ledger.specs.Ledger.{IsReadAt, IsLedger}
use Rattle.gs_ledger.proofs.Sums.{zero_or, sum_at, tops_most}
use Rattle.gs_ledger.proofs.Frames.{used_most, used_found}
use Rattle.gs_datasets.specs.Standing.{all_versions, other_versions, version_tree, graph_trees, other_trees, IsKeyed, IsVersion, AreSameIn}
use Rattle.gs_datasets.specs.Trees.{IsMeant, IsPlainTree, KeepsTrees, HasSets}
use Rattle.gs_datasets.proofs.Parting.{all_others}

module _ (q : Nodes) (v : Pins) (gs us : List Tree) (rs : List (List Tree)) (ds : List Dead) (l : IsLedger q v gs us rs ds) where
  -- what trees of a ledger have is plain
  plain_once : (n x : ℕ) → n ≤ trees_have gs x + trees_have us x → n ≤ plain_count q x
  plain_once n x few = elim (zero_or n) [
    | inl none ↦ omega (arith, none)
    | inr some ↦
        let found = used_found q x (omega (arith, l.once x)) in
        omega (arith, l.once x, used_most q x, tops_most ds x, l.marks x, plain_count_mark q x (ap is_some found.1))
  ]

  plain_tree : (t : Tree) → Stands q t → ((x : ℕ) → occurrences t x ≤ trees_have gs x + trees_have us x) → IsPlainTree q t
  plain_tree t s few = record { stands = s; means = tree_at-is q t s; apart = λ x. plain_once (occurrences t x) x (few x) }

  -- The trees of a ledger are there.
  pub ledger_keeps : KeepsTrees q v gs us rs
  ledger_keeps = record {
    current = λ k t h. plain_tree (get_or gs k t) (l.current k t h).stands (λ x. let part = sum_at (λ u. occurrences u x) gs k t h in omega (arith, part));
    staged = λ k t h. plain_tree (get_or us k t) (l.staged k t h).stands (λ x. let part = sum_at (λ u. occurrences u x) us k t h in omega (arith, part));
    read = λ s w e.
        let is = subst (λ o. IsReadAt q v.commit gs ds o (get_or rs s [])) e (l.read s) in
        λ k t h. record { stands = (is.1 k t h).tree.stands; means = tree_at-is q (get_or (get_or rs s []) k t) (is.1 k t h).tree.stands };
  }

-- a keyed tree that is plain is a set
set_at : (terms : Terms) (q : Nodes) (t : Tree) → IsPlainTree q t → IsKeyed terms t → IsSetAt (key_cmp terms) q (root_of t)
set_at terms q t is k = subst (λ u. IsSet (key_cmp terms) q (root_of t) u) (sym is.means) (record { root_is = refl; stands = is.stands; balanced = k.balanced; rising = k.rising; apart = is.apart })

-- one that is there can be read
readable_at : (terms : Terms) (q : Nodes) (t : Tree) → IsMeant q t → IsKeyed terms t → IsReadableAt (key_cmp terms) q (root_of t)
readable_at terms q t is k = subst (λ u. IsReadable (key_cmp terms) q (root_of t) u) (sym is.means) (record { root_is = refl; stands = is.stands; rising = k.rising })

-- The keyed trees of a ledger are sets.
pub ledger_has_sets : (terms : Terms) (q : Nodes) (v : Pins) (gs us : List Tree) (rs : List (List Tree)) (ds : List Dead) → IsLedger q v gs us rs ds → HasSets terms q v gs us rs
ledger_has_sets terms q v gs us rs ds l =
    let kept = ledger_keeps q v gs us rs ds l in
    record {
      current = λ k t h. set_at terms q (get_or gs k t) (kept.current k t h);
      staged = λ k t h. set_at terms q (get_or us k t) (kept.staged k t h);
      read = λ s w e k t h. readable_at terms q (get_or (get_or rs s []) k t) (kept.read s w e k t h);
    }

-- versions whose trees are there in another pool too have the same trees in both
same_in : (terms : Terms) (p q : Nodes) (vs : List GraphVersion) → All (IsVersion terms p) vs → All (λ u. tree_at q (root_of u) ≡ u) (map (version_tree p) vs) → AreSameIn p q vs
same_in terms p q vs all there = λ k v h.
    let w = get_or vs k v in
    let tree = version_tree p w in
    let at : get_or (map (version_tree p) vs) k tree ≡ tree = get_or-map (version_tree p) vs k v tree h in
    let long : length (map (version_tree p) vs) ≡ length vs = length-map vs (version_tree p) in
    let means = subst (λ u. tree_at q (root_of u) ≡ u) at (there k tree (omega arith)) in
    ap (tree_at q) (sym (all k v h).root_is) ∙ means

-- The other versions stay,
pub others_stay : (terms : Terms) (p q : Nodes) (g : GraphVersions) (t : Target) → All (IsVersion terms p) (all_versions g) → All (λ u. tree_at q (root_of u) ≡ u) (other_trees p g t) → AreSameIn p q (other_versions g t)
others_stay terms p q g t all there = same_in terms p q (other_versions g t) (all_others (IsVersion terms p) g t all) there

means_all : (q : Nodes) (ts : List Tree) → All (IsPlainTree q) ts → All (λ u. tree_at q (root_of u) ≡ u) ts
means_all q ts all = λ k t h. (all k t h).means

-- by a ledger too,
pub others_stay_beside : (terms : Terms) (p q : Nodes) (g : GraphVersions) (t : Target) (v : Pins) (new : Tree) (us : List Tree) (rs : List (List Tree)) (ds : List Dead) → All (IsVersion terms p) (all_versions g) → IsLedger q v (new ∷ other_trees p g t) us rs ds → AreSameIn p q (other_versions g t)
others_stay_beside terms p q g t v new us rs ds all l =
    let ts = other_trees p g t in
    others_stay terms p q g t all (means_all q ts (All-tail (IsPlainTree q) new ts (ledger_keeps q v (new ∷ ts) us rs ds l).current))

-- and so do all.
pub graphs_stay : (terms : Terms) (p q : Nodes) (g : GraphVersions) (v : Pins) (us : List Tree) (rs : List (List Tree)) (ds : List Dead) → All (IsVersion terms p) (all_versions g) → IsLedger q v (graph_trees p g) us rs ds → AreSameIn p q (all_versions g)
graphs_stay terms p q g v us rs ds all l = same_in terms p q (all_versions g) all (means_all q (graph_trees p g) (ledger_keeps q v (graph_trees p g) us rs ds l).current)

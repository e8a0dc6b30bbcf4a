-- What a draft of a target's graph begins with.
use Rattle.std.proofs.Common.{◌≡◌, ℕ, ◌+◌, ◌∷◌, Option, Some, None, unwrap_or, refl, sym, subst, arith}
use Rattle.std.specs.List.{All}
use Rattle.std.proofs.lemmas.List.Elements.{All-head}
use Rattle.gs_term.specs.declared.names.Target.{Target}
use Rattle.gs_pool.specs.Pool.{Nodes}
use Rattle.gs_tree.specs.Tree.{Tree, root_of, tree_at}
use Rattle.gs_tree.specs.Sets.{IsSetAt}
use Rattle.gs_keys.specs.Texts.{Terms, key_cmp}
use Rattle.gs_changes.proofs.ChangeLemmas.{born_before}
use Rattle.gs_catalogue.specs.declared.versions.GraphVersion.{GraphVersion}
use Rattle.gs_catalogue.specs.Catalogues.{GraphVersions, empty_version, version_at}
use Rattle.gs_ledger.specs.Marks.{dead_at}
use Rattle.gs_ledger.specs.Ledger.{IsTreeOf, IsLedger}
use Rattle.gs_datasets.specs.Standing.{all_versions, other_trees, IsKeyed, IsVersion}
use Rattle.gs_datasets.proofs.Keeping.{ledger_has_sets}
use Rattle.gs_datasets.proofs.Parting.{all_target}
use Rattle.gs_tree_store.specs.declared.books.Books.{Books}
use Rattle.gs_tree_store.specs.Books.{graphs_of}
use Rattle.gs_tree_store.specs.Verdicts.{HasCounts}
use Rattle.gs_tree_store.specs.Drafts.{CanDraft}
use Rattle.gs_tree_store.proofs.CommitLemmas.{version_or, apart_ledger, empty_is}

-- the version of a target is that of a graph, as an empty one is
target_version : (terms : Terms) (p : Nodes) (g : GraphVersions) (t : Target) → All (IsVersion terms p) (all_versions g) → IsVersion terms p (version_or g t)
target_version terms p g t all = by_version (version_at g t) refl
  where
    by_version : (o : Option GraphVersion) → version_at g t ≡ o → IsVersion terms p (unwrap_or o empty_version)
    by_version None is = empty_is terms p
    by_version (Some v) is = all_target (IsVersion terms p) g t v is all

can_here : (b : Books) (t : Target) → HasCounts b → CanDraft (b.versions.commit + 1) b.dict.terms b.pool (version_or (graphs_of b) t)
can_here b t has =
    let terms = b.dict.terms in
    let p = b.pool in
    let commit = b.versions.commit in
    let tree = tree_at p (version_or (graphs_of b) t).root in
    let others = other_trees p (graphs_of b) t in
    let some = has.ledger in
    let is = target_version terms p (graphs_of b) t has.sound.versions in
    let here : IsLedger p b.versions (tree ∷ others) some.uploads some.reads (dead_at p) = apart_ledger p b.versions (graphs_of b) t some.uploads some.reads (dead_at p) some.ledger in
    let sets = ledger_has_sets terms p b.versions (tree ∷ others) some.uploads some.reads (dead_at p) here in
    let set : IsSetAt (key_cmp terms) p (root_of tree) = All-head (λ (u : Tree). IsKeyed terms u → IsSetAt (key_cmp terms) p (root_of u)) tree others sets.current is.keyed in
    let stands : IsTreeOf p commit tree = All-head (IsTreeOf p commit) tree others here.current in
    record {
      staged = record { set = subst (IsSetAt (key_cmp terms) p) is.root_is set; given = is.keyed.given };
      earlier = record { stands = stands.stands; descends = stands.descends; before = born_before commit (commit + 1) tree (omega arith) stands.born };
      none_aside = has.sound.none_aside;
      counted = is.counted;
    }

-- a draft of a target's graph can be made by the next commit
pub can_draft : (b : Books) (t : Target) (old : GraphVersion) (birth : ℕ) → old ≡ version_or (graphs_of b) t → birth ≡ b.versions.commit + 1 → HasCounts b → CanDraft birth b.dict.terms b.pool old
can_draft b t old birth is born has =
    subst (λ v. CanDraft birth b.dict.terms b.pool v) (sym is) (subst (λ n. CanDraft n b.dict.terms b.pool (version_or (graphs_of b) t)) (sym born) (can_here b t has))

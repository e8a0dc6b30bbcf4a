-- An upload whose tree is another one, or none, and what stays beside it.
use Rattle.std.proofs.Common.{◌≡◌, ℕ, ◌+◌, List, [], ◌∷◌, ◌++◌, length, take, Option, None, refl, sym, ap, subst, ◌∙◌, inl, arith}
use Rattle.std.specs.List.{sum_by}
use Rattle.std.proofs.lemmas.List.{take_all}
use Rattle.std.proofs.lemmas.List.Elements.{All-head}
use Rattle.std.proofs.lemmas.List.Sums.{sum_by-cons}
use Rattle.std.specs.declared.cmp.Ordering.{Ordering}
use Rattle.gs_pool.specs.declared.nodes.Key.{Key}
use Rattle.gs_pool.specs.Pool.{Nodes, in_use, aside_count}
use Rattle.gs_tree.specs.Tree.{Tree, leaf, root_of, keys, occurrences, tree_at}
use Rattle.gs_tree.specs.Sets.{IsSetAt}
use Rattle.gs_tree.specs.Steps.{Step, BornAt}
use Rattle.gs_tree.specs.Reading.{keys_from}
use Rattle.gs_tree.proofs.FromLemmas.{from_all}
use Rattle.gs_tree.proofs.TreeLemmas.{plain_count_same}
use Rattle.gs_model.specs.declared.refusals.Refusal.TheVariants.{NoMemory}
use Rattle.gs_term.specs.declared.names.Target.{Target}
use Rattle.gs_event.specs.declared.events.UploadKind.{UploadKind}
use Rattle.gs_event.specs.declared.events.UploadKind.TheVariants.{Post}
use Rattle.gs_event.specs.declared.events.Action.TheVariants.{Commit}
use Rattle.gs_event.specs.declared.answers.Answer.{Answer}
use Rattle.gs_event.specs.declared.answers.Answer.TheVariants.{Refused}
use Rattle.gs_event.specs.Operations.{Posts}
use Rattle.gs_event.specs.Conditions.{asked_since}
use Rattle.gs_dict.specs.Numbering.{Numbered}
use Rattle.gs_keys.specs.Texts.{key_cmp}
use Rattle.gs_keys.specs.Roots.{graph_of_root}
use Rattle.gs_changes.specs.Endings.{IsDraftAt, Restores}
use Rattle.gs_staging.specs.Staging.{IsStaged}
use Rattle.gs_catalogue.specs.declared.versions.GraphVersion.{GraphVersion}
use Rattle.gs_staging.specs.Keys.{Grows}
use Rattle.gs_event.specs.Waste.{Lifetime}
use Rattle.gs_event.specs.Born.{Renews}
use Rattle.gs_ledger.specs.Entries.{tree_births}
use Rattle.gs_ledger.specs.Marks.{dead_at, waste_at}
use Rattle.gs_ledger.proofs.Births.{stage_births}
use Rattle.gs_ledger.specs.Ledger.{IsTreeOf, IsLedger}
use Rattle.gs_ledger.proofs.Counts.{nodes_counted}
use Rattle.gs_commit.specs.Laws.{GrowsUpload}
use Rattle.gs_commit.proofs.LawLemmas.{upload_grows}
use Rattle.gs_datasets.specs.Standing.{graph_trees, IsKeyed}
use Rattle.gs_datasets.proofs.Keeping.{ledger_has_sets, graphs_stay}
use Rattle.gs_tree_store.specs.declared.books.Books.{Books}
use Rattle.gs_tree_store.specs.declared.books.Seat.{Seat}
use Rattle.gs_tree_store.specs.declared.books.Seat.TheVariants.{Writing}
use Rattle.gs_tree_store.specs.LastWrites.{late_write_of}
use Rattle.gs_tree_store.specs.Books.{graphs_of, totals_of, IsSound, HasLedger, IsReady}
use Rattle.gs_tree_store.specs.Actions.{Acts, IsReadyAny}
use Rattle.gs_tree_store.proofs.SeatLemmas.{SameGraphs, same_graphs}
use Rattle.gs_tree_store.proofs.ConditionLemmas.{wants_in_time, upload_in_time}
use Rattle.gs_tree_store.proofs.BornLemmas.{refused_bears}
use Rattle.gs_tree_store.proofs.UndoneLemmas.{with_nodes, nothing_done}

-- all keys were read into an empty list
pub all_read : (cmp : Key → Key → Ordering) (n : ℕ) (ks xs ys : List Key) → n ≡ length ks → xs ≡ [] → ys ≡ xs ++ take n (keys_from cmp None ks) → ys ≡ ks
all_read cmp n ks xs ys all none read =
    read ∙ ap (λ zs. zs ++ take n (keys_from cmp None ks)) none ∙ ap (take n) (from_all cmp ks) ∙ take_all n ks (omega (arith, all))

-- an upload has a tree that triples can go into
staged_here : (b : Books) (s : ℕ) (k : UploadKind) (r : ℕ) (v : GraphVersion) (o : ℕ) (since : Option ℕ) → IsReady b s (Writing k r v o since) → IsStaged b.dict.terms b.pool v.root
staged_here b s k r v o since ready =
    let terms = b.dict.terms in
    let p = b.pool in
    let some = ready.ledger in
    let tree = tree_at p v.root in
    let sets = ledger_has_sets terms p b.versions (graph_trees p (graphs_of b)) (tree ∷ some.uploads) some.reads (dead_at p) some.ledger.ledger in
    let one = All-head (λ (t : Tree). IsKeyed terms t → IsSetAt (key_cmp terms) p (root_of t)) tree some.uploads sets.staged ready.known.keyed in
    record { set = subst (IsSetAt (key_cmp terms) p) ready.known.root_is one; given = ready.known.keyed.given }

pub upload_staged : (b : Books) (seat : Seat) (k : UploadKind) (r : ℕ) (v : GraphVersion) (o : ℕ) (since : Option ℕ) → seat ≡ Writing k r v o since → IsReadyAny b seat → IsStaged b.dict.terms b.pool v.root
upload_staged b seat k r v o since writes =
    subst (λ x. IsReadyAny b x → IsStaged b.dict.terms b.pool v.root) (sym writes)
    (λ (any : IsReadyAny b (Writing k r v o since)). staged_here b any.number k r v o since any.ready)

-- the tree of an upload is all its own
pub upload_draft : (b : Books) (k : UploadKind) (n : ℕ) (u : GraphVersion) (o : ℕ) (since : Option ℕ) → IsReadyAny b (Writing k n u o since) → IsDraftAt b.pool u.root
upload_draft b k n u o since any =
    let set = (upload_staged b (Writing k n u o since) k n u o since refl any).set in
    let l = any.ready.ledger in
    let tree = tree_at b.pool u.root in
    let here : IsTreeOf b.pool (b.versions.commit + 1) tree = All-head (IsTreeOf b.pool (b.versions.commit + 1)) tree l.uploads l.ledger.ledger.staged in
    record { root_is = set.root_is; stands = set.stands; descends = here.descends; apart = set.apart }

-- no tree stands in any pool
pub no_tree : (b : Books) (q : Nodes) → IsTreeOf q (b.versions.commit + 1) leaf
no_tree b q = record { stands = tt; descends = tt; born = tt }

-- what was taken back is a step to no tree from none
pub restored_step : (birth : ℕ) (p q : Nodes) → Restores p q → Step 0 birth p q (λ x. 0) (λ x. 0)
restored_step birth p q restores = record {
  kept = λ x n e h. restores.nodes x ∙ e;
  balance = λ x. omega (arith, plain_count_same p q x (restores.nodes x) (restores.marks x));
  older = λ x n e old. absurd (omega (arith, old));
  born = λ x n e. inl (sym (restores.nodes x) ∙ e);
  marks = λ x. inl (restores.marks x);
}

-- The upload that had the tree `old` has the tree `new`, and no other tree changes.
module _ (b : Books) (d : Numbered) (q : Nodes) (birth : ℕ) (old new : Tree) (grows : Grows b.dict d) (sound : IsSound b) (step : Step 0 birth b.pool q (occurrences old) (occurrences new)) (tree : IsTreeOf q (b.versions.commit + 1) new) (none : aside_count q ≡ 0) where
  moved : (us : List Tree) (rs : List (List Tree)) → HasLedger b (old ∷ us) rs → GrowsUpload b.versions b.pool q new (graph_trees b.pool (graphs_of b)) us rs
  moved us rs l = upload_grows b.pool q b.versions birth old new (graph_trees b.pool (graphs_of b)) us rs l step tree

  module _ (us₀ : List Tree) (rs₀ : List (List Tree)) (l₀ : HasLedger b (old ∷ us₀) rs₀) where
    -- the graphs are the same
    pub moved_graphs : SameGraphs b (with_nodes b d q)
    moved_graphs =
        let stay = graphs_stay b.dict.terms b.pool q (graphs_of b) b.versions (new ∷ us₀) rs₀ (dead_at q) sound.versions (moved us₀ rs₀ l₀).ledger in
        same_graphs b d q b.versions sound grows stay none refl

    -- the ledger has the new tree
    pub moved_ledger : (us : List Tree) (rs : List (List Tree)) → HasLedger b (old ∷ us) rs → HasLedger (with_nodes b d q) (new ∷ us) rs
    moved_ledger us rs l = subst (λ gs. IsLedger q b.versions gs (new ∷ us) rs (dead_at q)) (sym moved_graphs.trees) (moved us rs l).ledger

    -- nothing joins the waste
    pub moved_waste : waste_at q ≡ waste_at b.pool
    moved_waste = (moved us₀ rs₀ l₀).waste

    -- and the births of the upload are those that were there, or that of the next commit
    pub moved_births : BornAt (b.versions.commit + 1) b.pool q → Renews b.versions.commit (tree_births old) (tree_births new) [] []
    moved_births born =
        stage_births b.pool q b.versions b.versions old new (graph_trees b.pool (graphs_of b)) us₀ rs₀ rs₀ (dead_at b.pool) (dead_at q) l₀ (moved us₀ rs₀ l₀).ledger born
        (λ f. ap (sum_by f) moved_waste)

    -- the nodes in use are fewer by those of the old tree, and more by those of the new one
    pub moved_use : in_use q + length (keys old) ≡ in_use b.pool + length (keys new)
    moved_use =
        let gs = graph_trees b.pool (graphs_of b) in
        let before = nodes_counted b.pool b.versions gs (old ∷ us₀) rs₀ (dead_at b.pool) l₀ in
        let after = nodes_counted q b.versions gs (new ∷ us₀) rs₀ (dead_at q) (moved us₀ rs₀ l₀).ledger in
        let waste : length (waste_at q) ≡ length (waste_at b.pool) = ap (λ (ls : List Lifetime). length ls) moved_waste in
        omega (arith, before.nodes, after.nodes, waste, sum_by-cons (λ (t : Tree). length (keys t)) old us₀, sum_by-cons (λ (t : Tree). length (keys t)) new us₀)

-- no memory for a POST, and nothing was done
pub post_unread : (b : Books) (q : Nodes) (s : ℕ) (t : Target) (n : ℕ) (u : GraphVersion) (o : ℕ) (since : Option ℕ) (now : Seat) (a : Answer) → late_write_of b t since ≡ None → q ≡ b.pool → now ≡ Writing (Post t) n u o since → a ≡ Refused NoMemory → IsReady b s (Writing (Post t) n u o since) → Acts b (with_nodes b b.dict q) s (Writing (Post t) n u o since) now Commit a
post_unread b q s t n u o since now a early same writes why ready =
    let here : Acts b b s (Writing (Post t) n u o since) (Writing (Post t) n u o since) Commit (Refused NoMemory) = nothing_done b s (Writing (Post t) n u o since) Commit (Refused NoMemory) (wants_in_time (totals_of b) (asked_since since (Posts t (graph_of_root b.dict.terms b.pool u.root))) (upload_in_time b t since early) refl) refl refl refl refl refl (λ x none. refused_bears (totals_of b) (Post t) n (graph_of_root b.dict.terms b.pool u.root) since NoMemory x none) ready in
    subst (λ x. Acts b (with_nodes b b.dict x) s (Writing (Post t) n u o since) now Commit a) (sym same)
    (subst (λ x. Acts b b s (Writing (Post t) n u o since) x Commit a) (sym writes) (subst (λ x. Acts b b s (Writing (Post t) n u o since) (Writing (Post t) n u o since) Commit x) (sym why) here))

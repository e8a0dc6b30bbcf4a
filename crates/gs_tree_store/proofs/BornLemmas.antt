-- What becomes of births, by the trees of graphs and of uploads.
use Rattle.std.proofs.Common.{◌≡◌, ℕ, ◌+◌, Bool, true, false, cond, nat_eq, List, [], ◌++◌, get_or, Option, Some, None, option_map, unwrap_or, refl, sym, ap, ◌∙◌, inl, inr, arith}
use Rattle.std.specs.List.{sum_by}
use Rattle.std.specs.FinMap as fin
use Rattle.std.proofs.lemmas.List.{get_or-map}
use Rattle.std.proofs.lemmas.List.Sums.{sum_by-append}
use Rattle.gs_model.specs.Graphs.{Graph}
use Rattle.gs_model.specs.declared.refusals.Refusal.{Refusal}
use Rattle.gs_term.specs.Names.{name_cmp}
use Rattle.gs_term.specs.declared.names.Target.{Target}
use Rattle.gs_term.specs.declared.names.Target.TheVariants.{Default, Named}
use Rattle.gs_pool.specs.Pool.{Nodes, KeepsNodes}
use Rattle.gs_tree.specs.Tree.{Tree, leaf, tree_at}
use Rattle.gs_tree.specs.Steps.{BornAt}
use Rattle.gs_event.specs.declared.events.UploadKind.{UploadKind}
use Rattle.gs_event.specs.declared.events.UploadKind.TheVariants.{Put, Post, New}
use Rattle.gs_event.specs.declared.events.Action.{Action}
use Rattle.gs_event.specs.declared.events.Action.TheVariants.{Stage, Commit, CommitPatch, Delete, Cancel}
use Rattle.gs_event.specs.declared.answers.Answer.{Answer}
use Rattle.gs_event.specs.declared.answers.Answer.TheVariants.{Staged, Status, Cancelled, Refused}
use Rattle.gs_event.specs.Names.{new_name}
use Rattle.gs_event.specs.Operations.{is_success}
use Rattle.gs_event.specs.Phases.{Writing, Patching}
use Rattle.gs_event.specs.Views.{Totals, SeatView}
use Rattle.gs_event.specs.Waste.{Lifetime}
use Rattle.gs_event.specs.Born.{ended_sum, AreSameBirths, Renews, Leave, GraphBirthsStay, Bearing, BirthsStay, GraphBears, Hands, UploadBears, PatchBears, DeleteBears, Bears}
use Rattle.gs_ledger.specs.Entries.{tree_births}
use Rattle.gs_catalogue.specs.declared.versions.GraphVersion.{GraphVersion}
use Rattle.gs_catalogue.specs.Catalogues.{empty_version, no_versions, version_at, with_version}
use Rattle.gs_records.specs.Graphs.{without_version}
use Rattle.gs_records.proofs.Found.{version_at-with, version_at-with_other, version_at-without, version_at-without_other}
use Rattle.gs_datasets.specs.Standing.{all_versions, other_versions, version_tree, graph_trees, target_tree, AreSameIn}
use Rattle.gs_datasets.proofs.Parting.{all_with, all_target}
use Rattle.gs_tree_store.specs.declared.books.Books.{Books}
use Rattle.gs_tree_store.specs.Books.{graphs_of}
use Rattle.gs_tree_store.specs.Births.{graph_births}
use Rattle.gs_tree_store.specs.Writes.{SetsBirths}

-- no node is made where the nodes are the same
pub born_same : (birth : ℕ) (p q : Nodes) → KeepsNodes p q → BornAt birth p q
born_same birth p q same x n is = inl (sym (same x) ∙ is)

pub born_nodes : (birth : ℕ) (p q : Nodes) → q.nodes ≡ p.nodes → BornAt birth p q
born_nodes birth p q nodes = born_same birth p q (λ x. ap (λ ns. get_or ns x None) nodes)

-- what was made by two steps
pub born_then : (birth : ℕ) (p q r : Nodes) → BornAt birth p q → BornAt birth q r → BornAt birth p r
born_then birth p q r first next x n is = elim (next x n is) [ inl was ↦ first x n was | inr now ↦ inr now ]

-- births that are equal are the same
pub equal_births : (old new : List ℕ) → new ≡ old → AreSameBirths old new
equal_births old new same f = ap (sum_by f) same

-- a tree of each version that there is, where these are the same in both pools
tree_same : (p q : Nodes) (o : Option GraphVersion) → ((v : GraphVersion) → o ≡ Some v → version_tree q v ≡ version_tree p v) → unwrap_or (option_map (version_tree q) o) leaf ≡ unwrap_or (option_map (version_tree p) o) leaf
tree_same p q None same = refl
tree_same p q (Some v) same = same v refl

-- each graph has the births that it had, where each root means what it meant,
pub roots_bear : (b c : Books) → ((root : Option ℕ) → tree_at c.pool root ≡ tree_at b.pool root) → graphs_of c ≡ graphs_of b → (u : Target) → graph_births c u ≡ graph_births b u
roots_bear b c roots graphs u =
    ap tree_births (ap (λ g. target_tree c.pool g u) graphs ∙ tree_same b.pool c.pool (version_at (graphs_of b) u) (λ v is. roots v.root))

-- where all graphs have the trees that they had,
pub trees_bear : (b c : Books) → graphs_of c ≡ graphs_of b → graph_trees c.pool (graphs_of c) ≡ graph_trees b.pool (graphs_of b) → (u : Target) → graph_births c u ≡ graph_births b u
trees_bear b c graphs trees u =
    let p = b.pool in
    let q = c.pool in
    let g = graphs_of b in
    let lists : graph_trees q g ≡ graph_trees p g = ap (graph_trees q) (sym graphs) ∙ trees in
    let same : AreSameIn p q (all_versions g) = λ k d lt. sym (get_or-map (version_tree q) (all_versions g) k d leaf lt) ∙ ap (λ ts. get_or ts k leaf) lists ∙ get_or-map (version_tree p) (all_versions g) k d leaf lt in
    ap tree_births (ap (λ h. target_tree q h u) graphs ∙ tree_same p q (version_at g u) (λ v is. all_target (λ x. version_tree q x ≡ version_tree p x) g u v is same))

-- a graph has another version, and the others have the trees that they had
pub set_bears : (b c : Books) (t : Target) (v : GraphVersion) → graphs_of c ≡ with_version (graphs_of b) t v → AreSameIn b.pool c.pool (other_versions (graphs_of b) t) → SetsBirths b c t (tree_births (version_tree c.pool v))
set_bears b c t v graphs same =
    let p = b.pool in
    let q = c.pool in
    let g = graphs_of b in
    let tree : Option GraphVersion → Tree = λ o. unwrap_or (option_map (version_tree q) o) leaf in
    let all : AreSameIn p q (all_versions (with_version g t empty_version)) = all_with (λ x. version_tree q x ≡ version_tree p x) g t empty_version refl same in
    record {
      own = ap tree_births (ap (λ h. target_tree q h t) graphs ∙ ap tree (version_at-with g t v));
      others = λ u other. ap tree_births
          (ap (λ h. target_tree q h u) graphs
          ∙ ap tree (version_at-with_other g u t v other)
          ∙ tree_same p q (version_at g u) (λ x is. all_target (λ y. version_tree q y ≡ version_tree p y) (with_version g t empty_version) u x (version_at-with_other g u t empty_version other ∙ is) all));
    }

-- no graph is there of a target that has no version
none_there : (q : Nodes) (t : Target) → target_tree q no_versions t ≡ leaf
none_there q Default = refl
none_there q (Named n) = ap (λ o. unwrap_or (option_map (version_tree q) o) leaf) (fin.get-empty name_cmp n)

-- a graph is taken out
pub gone_bears : (b c : Books) (t : Target) → graphs_of c ≡ without_version (graphs_of b) t → ((root : Option ℕ) → tree_at c.pool root ≡ tree_at b.pool root) → SetsBirths b c t []
gone_bears b c t graphs roots =
    let q = c.pool in
    let g = graphs_of b in
    let tree : Option GraphVersion → Tree = λ o. unwrap_or (option_map (version_tree q) o) leaf in
    record {
      own = ap tree_births (ap (λ h. target_tree q h t) graphs ∙ ap tree (version_at-without g t) ∙ none_there q t);
      others = λ u other. ap tree_births (ap (λ h. target_tree q h u) graphs ∙ ap tree (version_at-without_other g u t other) ∙ tree_same b.pool q (version_at g u) (λ v is. roots v.root));
    }

-- nothing is made of an upload that stays
same_renewed : (commit : ℕ) (old new : List ℕ) → AreSameBirths old new → Renews commit old new [] []
same_renewed commit old new same = record { freed = []; made = []; next = λ k d lt. absurd (omega arith); same = λ f. omega (arith, same f) }

-- a commit that is refused bears none
pub refused_bears : (v : Totals) (k : UploadKind) (r : ℕ) (g : Graph) (since : Option ℕ) (e : Refusal) (b : Bearing) → BirthsStay b → Bears v (Writing k r g since) Commit (Refused e) b
refused_bears v (Put t) r g since e b none = none
refused_bears v (Post t) r g since e b none = (none.0, same_renewed v.commit b.own b.own_then none.1)
refused_bears v New r g since e b none = none

-- and so does an upload without effect
pub failed_bears : (v : Totals) (k : UploadKind) (r : ℕ) (b : Bearing) → GraphBirthsStay b.graphs b.graphs_then → b.own_then ≡ [] → UploadBears v k r false b
failed_bears v (Put t) r b stay none = (stay, none)
failed_bears v (Post t) r b stay none = (stay, none)
failed_bears v New r b stay none = (stay, none)

-- the same births and the waste of records beside that of nodes
abbrev beside : Bearing → List Lifetime → Bearing
beside b c = record { graphs = b.graphs; graphs_then = b.graphs_then; own = b.own; own_then = b.own_then; waste = b.waste ++ c; waste_then = b.waste_then ++ c }

module _ (b : Bearing) (c : List Lifetime) where
  ended_beside : (commit : ℕ) (f : ℕ → ℕ) (w : List Lifetime) → ended_sum commit f (w ++ c) ≡ ended_sum commit f w + ended_sum commit f c
  ended_beside commit f w = sum_by-append (λ (l : Lifetime). cond {A = ℕ} (nat_eq l.death commit) (f l.birth) 0) w c

  graph_beside : (commit : ℕ) (t : Target) → GraphBears commit t b → GraphBears commit t (beside b c)
  graph_beside commit t g = (g.0, record { freed = g.1.freed; made = g.1.made; next = g.1.next; same = λ f. omega (arith, g.1.same f, ended_beside (commit + 1) f b.waste, ended_beside (commit + 1) f b.waste_then) })

  leave_beside : (commit : ℕ) (t : Target) → Leave commit (b.graphs t) b.waste b.waste_then → Leave commit (b.graphs t) (b.waste ++ c) (b.waste_then ++ c)
  leave_beside commit t l = record { freed = l.freed; same = λ f. omega (arith, l.same f, ended_beside (commit + 1) f b.waste, ended_beside (commit + 1) f b.waste_then) }

  hands_beside : (commit : ℕ) (t : Target) → Hands commit t b → Hands commit t (beside b c)
  hands_beside commit t h = (h.0, h.1, leave_beside commit t h.2)

  upload_beside : (v : Totals) (k : UploadKind) (r : ℕ) (done : Bool) → UploadBears v k r done b → UploadBears v k r done (beside b c)
  upload_beside v (Put t) r true h = (hands_beside v.commit t h.0, h.1)
  upload_beside v (Put t) r false h = h
  upload_beside v (Post t) r true h = (graph_beside v.commit t h.0, h.1)
  upload_beside v (Post t) r false h = h
  upload_beside v New r true h = (hands_beside v.commit (Named (new_name v.setting.base v.dataset r)) h.0, h.1)
  upload_beside v New r false h = h

  patch_beside : (commit : ℕ) (t : Target) (done : Bool) → PatchBears commit t done b → PatchBears commit t done (beside b c)
  patch_beside commit t true h = (graph_beside commit t h.0, h.1)
  patch_beside commit t false h = h

  delete_beside : (commit : ℕ) (t : Target) (done : Bool) → DeleteBears commit t done b → DeleteBears commit t done (beside b c)
  delete_beside commit t true h = (h.0, h.1, leave_beside commit t h.2, h.3)
  delete_beside commit t false h = h

  pub bears_beside : (v : Totals) (p : SeatView) (action : Action) (a : Answer) → Bears v p action a b → Bears v p action a (beside b c)
  bears_beside v (Writing k r g since) (Stage ts) Staged h = h
  bears_beside v (Writing k r g since) Commit (Status s name number) h = upload_beside v k r (is_success s) h
  bears_beside v (Writing (Post t) r g since) Commit (Refused e) h = h
  bears_beside v (Writing k r g since) Cancel Cancelled h = h
  bears_beside v (Patching t r since) (CommitPatch ops) (Status s name number) h = patch_beside v.commit t (is_success s) h
  bears_beside v p (Delete t since) (Status s name number) h = delete_beside v.commit t (is_success s) h
  bears_beside v p action a h = h

-- What commits, a Delete and a Cancel make of the waste of records.
use Rattle.std.proofs.Common.{◌≡◌, ◌+◌, ◌-◌, ℕ, Bool, true, false, cond, ◌&&◌, ◌||◌, nat_eq, nat_le, nat_lt, ◌≤◌, is_none, ne_eqb, List, [], ◌∷◌, ◌++◌, length, length-append, get_or, sum_by, Option, Some, None, is_some, refl, sym, ap, subst, ◌∙◌, arith}
use Rattle.std.specs.declared.alloc.Global.{Global}
use Rattle.std.specs.declared.vec.Vec.{Vec}
use Rattle.std.specs.List.{All}
use Rattle.std.specs.FinMap as fin
use Rattle.std.proofs.lemmas.List.Elements.{All-head, All-nil, All-cons}
use Rattle.std.proofs.lemmas.List.Sums.{sum_by-append}
use Rattle.gs_model.specs.Graphs.{Graph, size_of}
use Rattle.gs_model.specs.Limits.{last_number}
use Rattle.gs_term.specs.declared.names.Target.{Target}
use Rattle.gs_term.specs.declared.names.Target.TheVariants.{Default, Named}
use Rattle.gs_event.specs.declared.events.UploadKind.TheVariants.{Post}
use Rattle.gs_event.specs.declared.events.Action.TheVariants.{Commit, CommitPatch}
use Rattle.gs_event.specs.declared.answers.Answer.TheVariants.{Status}
use Rattle.gs_event.specs.declared.updates.Op.{Op}
use Rattle.gs_event.specs.declared.verdicts.Holdings.{Holdings}
use Rattle.gs_event.specs.declared.verdicts.Place.{Place}
use Rattle.gs_event.specs.declared.verdicts.Change.TheVariants.{Stores}
use Rattle.gs_event.specs.declared.verdicts.Verdict.{Verdict}
use Rattle.gs_event.specs.declared.verdicts.Verdict.TheVariants.{Missing, Full, LastNumber, Granted}
use Rattle.gs_event.specs.Updates.{patched}
use Rattle.gs_event.specs.Datasets.{Dataset, graph_at as graph_of_target, is_there, with_graph, records_at, unused_for}
use Rattle.gs_event.specs.Names.{new_name}
use Rattle.gs_event.specs.Operations.{Setting, Posts, Patches, is_within, united, stored, stored_status, is_success}
use Rattle.gs_event.specs.Conditions.{State, asked_since}
use Rattle.gs_event.specs.Verdicts.{verdict_of}
use Rattle.gs_event.specs.Views.{Totals}
use Rattle.gs_event.specs.Waste.{Lifetime}
use Rattle.gs_event.specs.Wasting.{Joins, IsUnreached, CommitRecords, DeleteRecords}
use Rattle.gs_event.proofs.NameLemmas.{new_name-is_least}
use Rattle.gs_event.proofs.VerdictLemmas.{made_well}
use Rattle.gs_pool.specs.Pool.{Nodes}
use Rattle.gs_tree.specs.Tree.{Tree, leaf, fork, root_of, keys}
use Rattle.gs_keys.specs.Texts.{Terms}
use Rattle.gs_catalogue.specs.declared.versions.GraphVersion.{GraphVersion}
use Rattle.gs_catalogue.specs.Catalogues.{GraphVersions, version_at, with_version}
use Rattle.gs_records.specs.Records.{Recorded, unused}
use Rattle.gs_records.specs.Waste.{lifetimes, waste_in}
use Rattle.gs_records.specs.Calls.{endings, is_nothing, records_for, made_record, placed, GivesUp, RemovesVersion, MakesCurrent}
use Rattle.gs_datasets.specs.Standing.{version_graph, all_versions, version_tree, IsVersion}
use Rattle.gs_datasets.proofs.Sizes.{is_there-is}
use Rattle.gs_tree_store.specs.declared.books.Books.{Books}
use Rattle.gs_tree_store.specs.declared.books.Seat.{Seat}
use Rattle.gs_tree_store.specs.declared.books.Seat.TheVariants.{Writing, Patching}
use Rattle.gs_tree_store.specs.Books.{graphs_of, dataset_of, totals_of, IsSound}
use Rattle.gs_tree_store.specs.Actions.{Acts}
use Rattle.gs_tree_store.proofs.VerdictLemmas.{size_of_version}
use Rattle.gs_tree_store.proofs.WrittenLemmas.{ends_record}
use Rattle.gs_tree_store.proofs.ConditionLemmas.{status_in_time, state_in_time, well_in_time}

-- a tree has no top where it has no key
no_top : (t : Tree) → (is_none (root_of t) && nat_eq (length (keys t)) 0) ≡ nat_eq (length (keys t)) 0
no_top leaf = refl
no_top (fork id birth l k r) = sym (ne_eqb (length (keys l ++ k ∷ keys r)) 0 (λ e. omega (arith, length-append (keys l) (k ∷ keys r))))

-- no record is kept of the version of a default graph where the graph is empty, and only there
pub nothing_is : (terms : Terms) (p : Nodes) (v : GraphVersion) → IsVersion terms p v → is_nothing Default v ≡ nat_eq (size_of (version_graph terms p v)) 0
nothing_is terms p v is =
    (λ i. is_none (sym is.root_is i) && nat_eq (is.counted i) 0)
    ∙ no_top (version_tree p v)
    ∙ ap (λ n. nat_eq n 0) (sym is.counted ∙ size_of_version terms p v is)

named_if : (n : List ℕ) (o : Option GraphVersion) → records_for (Named n) o ≡ cond {A = ℕ} (is_some o) 1 0
named_if n None = refl
named_if n (Some v) = refl

-- a target has as many records as its graph
target_records : (b : Books) → IsSound b → (t : Target) → records_for t (version_at (graphs_of b) t) ≡ records_at (dataset_of b) t
target_records b sound Default =
    let g = graphs_of b in
    let is = All-head (IsVersion b.dict.terms b.pool) g.unnamed (fin.values g.named) sound.versions in
    ap (λ x. cond {A = ℕ} x 0 1) (nothing_is b.dict.terms b.pool g.unnamed is)
target_records b sound (Named n) =
    named_if n (version_at (graphs_of b) (Named n)) ∙ ap (λ x. cond {A = ℕ} x 1 0) (sym (is_there-is b.dict.terms b.pool (graphs_of b) (Named n)))

-- where the target has the version, and by it the graph x, a record of the version is as little used as one of x
unused_is : (new : Books) (g : GraphVersions) (m : Dataset) (t : Target) (v : GraphVersion) (x : Graph) → IsSound new → graphs_of new ≡ with_version g t v → dataset_of new ≡ with_graph m t x → cond {A = ℕ} (is_nothing t v) 1 0 ≡ unused_for t x
unused_is new g m Default v x sound graphs dataset =
    let terms = new.dict.terms in
    let p = new.pool in
    let all = subst (λ h. All (IsVersion terms p) (all_versions h)) graphs sound.versions in
    let is = All-head (IsVersion terms p) v (fin.values g.named) all in
    let same : version_graph terms p v ≡ x = sym (ap (λ (h : GraphVersions). version_graph terms p h.unnamed) graphs) ∙ ap (λ (d : Dataset). d.unnamed) dataset in
    ap (λ y. cond {A = ℕ} y 1 0) (nothing_is terms p v is ∙ ap (λ h. nat_eq (size_of h) 0) same)
unused_is new g m (Named n) v x sound graphs dataset = refl

placed_few : (t : Target) (v : GraphVersion) (commit : ℕ) → length (lifetimes (placed t v commit)) ≡ cond {A = ℕ} (is_nothing t v) 1 0
placed_few t v commit = elim (is_nothing t v) as (λ y. length (lifetimes (cond y unused (made_record t v commit))) ≡ cond {A = ℕ} y 1 0) [ true ↦ refl | false ↦ refl ]

one_unreached : All IsUnreached (lifetimes unused)
one_unreached = All-cons IsUnreached (record { birth = 0; death = 0 }) [] refl (All-nil IsUnreached)

placed_unreached : (t : Target) (v : GraphVersion) (commit : ℕ) → All IsUnreached (lifetimes (placed t v commit))
placed_unreached t v commit = elim (is_nothing t v) as (λ y. All IsUnreached (lifetimes (cond y unused (made_record t v commit)))) [ true ↦ one_unreached | false ↦ All-nil IsUnreached ]

-- a commit by which the target has the graph x
pub commit_wastes : (b new : Books) (n : ℕ) (t : Target) (v : GraphVersion) (x : Graph) (commit : ℕ) → commit ≡ b.versions.commit + 1 → MakesCurrent b.records new.records n t v commit → IsSound b → IsSound new → dataset_of new ≡ with_graph (dataset_of b) t x
    → CommitRecords (totals_of b) t x (waste_in b.records.records) (waste_in new.records.records)
commit_wastes b new n t v x commit next puts sound now dataset =
    let old = waste_in b.records.records in
    let own = lifetimes (placed t v commit) in
    let gone = endings t commit b.records.records in
    record {
      between = old ++ own;
      unused = record {
        more = own;
        few = omega (arith, placed_few t v commit, unused_is new (graphs_of b) (dataset_of b) t v x now puts.now dataset);
        same = λ f. sum_by-append f old own;
        ended = placed_unreached t v commit;
      };
      replaced = record {
        more = gone;
        few = omega (arith, puts.last.few, target_records b sound t);
        same = λ f. omega (arith, puts.waste f, sum_by-append f gone own, sum_by-append f old own);
        ended = λ k l lt. ends_record b t commit (get_or gone k l) sound.written next (puts.last.made k l lt) (puts.last.ended k l lt);
      };
    }

-- a commit that takes the target's graph away
pub removal_wastes : (b : Books) (x : Recorded) (t : Target) (commit : ℕ) → commit ≡ b.versions.commit + 1 → RemovesVersion b.records x t commit → IsSound b → DeleteRecords (totals_of b) t true (waste_in b.records.records) (waste_in x.records)
removal_wastes b x t commit next gone sound =
    let ends = endings t commit b.records.records in
    record {
      more = ends;
      few = omega (arith, gone.last.few, target_records b sound t);
      same = gone.waste;
      ended = λ k l lt. ends_record b t commit (get_or ends k l) sound.written next (gone.last.made k l lt) (gone.last.ended k l lt);
    }

-- a record that is given up
pub given_up : (x y : Recorded) (n : ℕ) → GivesUp x y n → Joins IsUnreached 1 (waste_in x.records) (waste_in y.records)
given_up x y n gives = record { more = lifetimes unused; few = omega arith; same = gives.waste; ended = one_unreached }

-- nothing is counted where there is nothing
no_more : (ls : List Lifetime) → length ls ≤ 0 → (f : Lifetime → ℕ) → sum_by f ls ≡ 0
no_more [] few f = refl
no_more (l ∷ ls) few f = absurd (omega (arith, few))

-- a name that is made up has no record yet
pub new_wastes : (v : Totals) (r : ℕ) (g : Graph) (old new : List Lifetime) → CommitRecords v (Named (new_name v.setting.base v.dataset r)) g old new → Joins IsUnreached 0 old new
new_wastes v r g old new joins =
    let name = new_name v.setting.base v.dataset r in
    let free : records_at v.dataset (Named name) ≡ 0 = ap (λ y. cond {A = ℕ} y 1 0) (new_name-is_least v.setting.base v.dataset r).free in
    let none = no_more joins.unused.more (omega (arith, joins.unused.few)) in
    let gone = no_more joins.replaced.more (omega (arith, joins.replaced.few, free)) in
    record {
      more = [];
      few = omega arith;
      same = λ f. omega (arith, joins.unused.same f, joins.replaced.same f, none f, gone f);
      ended = All-nil IsUnreached;
    }

-- where a verdict grants a write, it took effect
abbrev WellIf : Verdict → Type 0
WellIf (Granted status triples names) = is_success status ≡ true
WellIf v = Unit {0}

well_left : (status triples names : ℕ) (left : Bool) → is_success status ≡ true → WellIf (cond left (Granted status triples names) LastNumber)
well_left status triples names true well = well
well_left status triples names false well = tt

well_within : (v : Verdict) (within : Bool) → WellIf v → WellIf (cond within v Full)
well_within v true well = well
well_within v false well = tt

well_there : (v : Verdict) (there : Bool) → WellIf v → WellIf (cond there v Missing)
well_there v true well = well
well_there v false well = tt

verdict_well : (h : Holdings) (p : Place) (n : ℕ) (creates : Bool) → WellIf (verdict_of h p (Stores n creates))
verdict_well h p n creates =
    let status = cond {A = ℕ} p.is_there 204 201 in
    let triples = h.triples - p.triples + n in
    let names = h.names + cond {A = ℕ} p.is_there 0 1 in
    let left = nat_lt h.commit last_number in
    let within = nat_le triples h.limits.triples && nat_le names h.limits.names in
    let granted = cond left (Granted status triples names) LastNumber in
    well_there (cond within granted Full) (p.is_there || creates) (well_within granted within (well_left status triples names left (made_well p.is_there)))

pub granted_well : (h : Holdings) (p : Place) (n : ℕ) (creates : Bool) (status triples names : ℕ) → Granted status triples names ≡ verdict_of h p (Stores n creates) → is_success status ≡ true
granted_well h p n creates status triples names is = subst WellIf (sym is) (verdict_well h p n creates)

-- what such a status says of a write that stores g
stored_so : (w : Setting) (m : Dataset) (t : Target) (g : Graph) (status : ℕ) → is_success status ≡ true → status ≡ stored_status w m t g → stored w m t g ≡ with_graph m t g
stored_so w m t g status well is =
    elim (is_within w.limits (with_graph m t g)) as (λ y. status ≡ cond y (cond (is_there m t) 204 201) 507 → cond y (with_graph m t g) m ≡ with_graph m t g) [
      | true ↦ λ e. refl
      | false ↦ λ e. absurd (let no : false ≡ true = sym (ap is_success e) ∙ well in cc)
    ] is

-- and of one that stores it where there is a graph
changed_so : (w : Setting) (m : Dataset) (t : Target) (g : Graph) (status : ℕ) → is_success status ≡ true → status ≡ cond (is_there m t) (stored_status w m t g) 404 → cond (is_there m t) (stored w m t g) m ≡ with_graph m t g
changed_so w m t g status well is =
    elim (is_there m t) as (λ y. status ≡ cond y (stored_status w m t g) 404 → cond y (stored w m t g) m ≡ with_graph m t g) [
      | true ↦ λ e. stored_so w m t g status well e
      | false ↦ λ e. absurd (let no : false ≡ true = sym (ap is_success e) ∙ well in cc)
    ] is

-- The records after the commit of an open seat, whose record had number o, by what it made of the books.
module _ (b new : Books) (s status : ℕ) (now : Seat) (t : Target) (r o : ℕ) (since : Option ℕ) (v : GraphVersion) (commit number : ℕ) (next : commit ≡ b.versions.commit + 1) (puts : MakesCurrent b.records new.records o t v commit) (sound : IsSound b) (well : is_success status ≡ true) where
  pub post_wastes : (u : GraphVersion) → Acts b new s (Writing (Post t) r u o since) now Commit (Status status None number)
      → CommitRecords (totals_of b) t (united (graph_of_target (dataset_of b) t) (version_graph b.dict.terms b.pool u)) (waste_in b.records.records) (waste_in new.records.records)
  post_wastes u acts =
      let m = dataset_of b in
      let g = united (graph_of_target m t) (version_graph b.dict.terms b.pool u) in
      let q = asked_since since (Posts t (version_graph b.dict.terms b.pool u)) in
      let in_time = well_in_time (totals_of b) q status well acts.fits.0 in
      let stores = stored_so (totals_of b).setting m t g status well (acts.fits.0 ∙ status_in_time (totals_of b) q in_time) in
      commit_wastes b new o t v g commit next puts sound acts.sound (ap (λ (x : Totals). x.dataset) acts.totals ∙ ap (λ (x : State). x.dataset) (state_in_time (totals_of b) q in_time) ∙ stores)

  pub patch_wastes : (ops : Vec Op Global) → Acts b new s (Patching t r o since) now (CommitPatch ops) (Status status None number)
      → CommitRecords (totals_of b) t (patched (graph_of_target (dataset_of b) t) ops.items) (waste_in b.records.records) (waste_in new.records.records)
  patch_wastes ops acts =
      let m = dataset_of b in
      let g = patched (graph_of_target m t) ops.items in
      let q = asked_since since (Patches t ops.items) in
      let in_time = well_in_time (totals_of b) q status well acts.fits.0 in
      let stores = changed_so (totals_of b).setting m t g status well (acts.fits.0 ∙ status_in_time (totals_of b) q in_time) in
      commit_wastes b new o t v g commit next puts sound acts.sound (ap (λ (x : Totals). x.dataset) acts.totals ∙ ap (λ (x : State). x.dataset) (state_in_time (totals_of b) q in_time) ∙ stores)

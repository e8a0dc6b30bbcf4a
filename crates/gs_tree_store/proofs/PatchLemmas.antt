-- What the commit of a patch makes of the books and of the seat.
use Rattle.std.proofs.Common.{◌≡◌, ◌+◌, ◌*◌, ◌<◌, ◌⊎◌, ◌&&◌, ℕ, true, false, cond, List, ◌∷◌, Option, Some, None, option_map, unwrap_or, is_some, refl, sym, ap, subst, ◌∙◌, inr, true≢false}
use Rattle.std.specs.declared.alloc.Global.{Global}
use Rattle.std.specs.declared.vec.Vec.{Vec}
use Rattle.std.proofs.lemmas.List.{set-get_or}
use Rattle.gs_model.specs.Graphs.{Graph, size_of}
use Rattle.gs_model.specs.Limits.{last_number}
use Rattle.gs_model.specs.declared.refusals.Refusal.TheVariants.{LastNumber as NoNumber, NoMemory}
use Rattle.gs_term.specs.declared.names.Target.{Target}
use Rattle.gs_event.specs.declared.updates.Op.{Op}
use Rattle.gs_event.specs.declared.events.Action.TheVariants.{CommitPatch}
use Rattle.gs_event.specs.declared.answers.Answer.{Answer}
use Rattle.gs_event.specs.declared.answers.Answer.TheVariants.{Refused, Status}
use Rattle.gs_event.specs.declared.verdicts.Holdings.{Holdings}
use Rattle.gs_event.specs.declared.verdicts.Place.{Place}
use Rattle.gs_event.specs.declared.verdicts.Change.TheVariants.{Stores}
use Rattle.gs_event.specs.declared.verdicts.Verdict.{Verdict}
use Rattle.gs_event.specs.declared.verdicts.Verdict.TheVariants.{Full, LastNumber, Granted}
use Rattle.gs_event.specs.Updates.{patched, updated, inserted_by, removed_by}
use Rattle.gs_event.specs.Datasets.{Dataset, with_graph, is_there, graph_at as graph_of_target}
use Rattle.gs_event.specs.Operations.{Setting, Patches, after, status_of, stored, stored_status, is_success}
use Rattle.gs_event.specs.Conditions.{asked_since, is_above, is_late, last_write_on, with_write}
use Rattle.gs_event.specs.Views.{Totals, state_of}
use Rattle.gs_event.specs.Waste.{Lifetime}
use Rattle.gs_event.specs.Verdicts.{verdict_of, holdings_of, place_in, DecidesChange}
use Rattle.gs_event.specs.Born.{Renews, GraphBears, PatchBears}
use Rattle.gs_event.specs.Wasting.{Joins, IsUnreached, EndsAt, most_patched, UpdateNodes}
use Rattle.gs_event.proofs.VerdictLemmas.{store_must}
use Rattle.gs_dict.specs.Numbering.{Numbered}
use Rattle.gs_pool.specs.Pool.{Nodes, in_use, aside_count}
use Rattle.gs_tree.specs.Tree.{leaf, tree_at}
use Rattle.gs_keys.specs.Texts.{Terms}
use Rattle.gs_keys.specs.Roots.{graph_of_root}
use Rattle.gs_changes.specs.Endings.{Restores, UndoesAll}
use Rattle.gs_staging.specs.Keys.{Grows}
use Rattle.gs_staging.proofs.KeyLemmas.{still_grows}
use Rattle.gs_catalogue.specs.declared.versions.GraphVersion.{GraphVersion}
use Rattle.gs_catalogue.specs.Catalogues.{empty_version, version_at, with_version}
use Rattle.gs_records.specs.Records.{Recorded}
use Rattle.gs_records.specs.Graphs.{current}
use Rattle.gs_versions.specs.Pins.{Pins, at_commit}
use Rattle.gs_ledger.specs.Entries.{tree_births}
use Rattle.gs_ledger.specs.Marks.{waste_at}
use Rattle.gs_commit.specs.Commits.{KeepsDraftAll}
use Rattle.gs_datasets.specs.Standing.{version_graph, version_tree}
use Rattle.gs_datasets.proofs.Sizes.{graph_at-is}
use Rattle.gs_tree_store.specs.declared.books.Books.{Books}
use Rattle.gs_tree_store.specs.declared.books.Seat.{Seat}
use Rattle.gs_tree_store.specs.declared.books.Seat.TheVariants.{Idle, Patching}
use Rattle.gs_tree_store.specs.LastWrites.{last_writes_of, late_write_of}
use Rattle.gs_tree_store.specs.Books.{graphs_of, books_setting, dataset_of, totals_of, IsReady}
use Rattle.gs_tree_store.specs.Births.{graph_births}
use Rattle.gs_tree_store.specs.Drafts.{Drafts}
use Rattle.gs_tree_store.specs.Uses.{SameUnless}
use Rattle.gs_tree_store.specs.Actions.{bearing_by, Acts}
use Rattle.gs_tree_store.proofs.AlikeLemmas.{SameNow, with_records, acts_alike}
use Rattle.gs_tree_store.proofs.ConditionLemmas.{ComesTo, fits_so, totals_so, comes_late, comes_done, comes_undone, wants_in_time, no_number, change_late, change_in_time}
use Rattle.gs_tree_store.proofs.CommitLemmas.{version_or}
use Rattle.gs_tree_store.proofs.VerdictLemmas.{size_of_version, is_stored, is_not_stored, would_be_stored}
use Rattle.gs_tree_store.proofs.BornLemmas.{equal_births}
use Rattle.gs_tree_store.proofs.SeatLemmas.{ledger_stays}
use Rattle.gs_tree_store.proofs.UndoneLemmas.{with_nodes, undone_ready, undone_acts, undone_totals, nothing_done}
use Rattle.gs_tree_store.proofs.DraftLemmas.{KeptEnds, IsNext, with_draft, kept_dataset, kept_sound, kept_ends, kept_births}

-- the graph of the target's version
abbrev pub target_graph : Books → Target → Graph
target_graph b t = graph_of_root b.dict.terms b.pool (version_or (graphs_of b) t).root

-- the draft that the operations make of it
abbrev pub DraftsPatch : ℕ → Books → Numbered → Nodes → Target → List Op → GraphVersion → Type 0
DraftsPatch birth b d q t ops v =
    Drafts birth d.terms b.pool q (version_or (graphs_of b) t) v (updated (target_graph b t) ops) (259 * inserted_by (target_graph b t) ops + 261 * removed_by (target_graph b t) ops)

-- what was drafted of a version that is the target's
pub drafts_here : (birth : ℕ) (b : Books) (d : Numbered) (q : Nodes) (t : Target) (old v : GraphVersion) (xs ops : List Op) → old ≡ version_or (graphs_of b) t → xs ≡ ops
    → Drafts birth d.terms b.pool q old v (updated (graph_of_root b.dict.terms b.pool old.root) xs) (259 * inserted_by (graph_of_root b.dict.terms b.pool old.root) xs + 261 * removed_by (graph_of_root b.dict.terms b.pool old.root) xs)
    → DraftsPatch birth b d q t ops v
drafts_here birth b d q t old v xs ops is items made =
    let terms = b.dict.terms in
    let p = b.pool in
    subst (λ ys. DraftsPatch birth b d q t ys v) items
    (subst (λ (w : GraphVersion). Drafts birth d.terms p q w v (updated (graph_of_root terms p w.root) xs) (259 * inserted_by (graph_of_root terms p w.root) xs + 261 * removed_by (graph_of_root terms p w.root) xs)) is made)

-- it is taken back
pub draft_undone : (birth : ℕ) (b : Books) (d : Numbered) (q r : Nodes) (t : Target) (ops : List Op) (v : GraphVersion) → DraftsPatch birth b d q t ops v → UndoesAll birth q r (tree_at q v.root) → Restores b.pool r
draft_undone birth b d q r t ops v made undoes = undoes b.pool (tree_at b.pool (version_or (graphs_of b) t).root) made.began made.step

-- what becomes of a write of the target's graph after the operations
abbrev pub DecidesPatch : Books → Target → List Op → Verdict → Type 0
DecidesPatch b t ops verdict = DecidesChange (books_setting b) (dataset_of b) b.versions.commit t (patched (graph_of_target (dataset_of b) t) ops) verdict

there_if : (terms : Terms) (p : Nodes) (o : Option GraphVersion) → is_some (option_map (version_graph terms p) o) ≡ true → option_map (version_graph terms p) o ≡ Some (graph_of_root terms p (unwrap_or o empty_version).root)
there_if terms p None there = absurd (true≢false (sym there))
there_if terms p (Some v) there = refl

-- The target has a graph.
module _ (b : Books) (t : Target) (there : is_there (dataset_of b) t ≡ true) where
  -- it is that of its version
  graph_is : graph_of_target (dataset_of b) t ≡ Some (target_graph b t)
  graph_is =
      let is = graph_at-is b.dict.terms b.pool (graphs_of b) t in
      is ∙ there_if b.dict.terms b.pool (version_at (graphs_of b) t) (sym (ap (λ (o : Option Graph). is_some o) is) ∙ there)

  -- the operations are on that graph
  updated_is : (ops : List Op) → updated (target_graph b t) ops ≡ patched (graph_of_target (dataset_of b) t) ops
  updated_is ops = sym (ap (λ o. patched o ops) graph_is)

  most_is : (ops : List Op) → 259 * inserted_by (target_graph b t) ops + 261 * removed_by (target_graph b t) ops ≡ most_patched (graph_of_target (dataset_of b) t) ops
  most_is ops = sym (ap (λ o. most_patched o ops) graph_is)

  -- what was decided by the count of the draft
  pub patch_decided : (birth : ℕ) (d : Numbered) (q : Nodes) (ops : List Op) (v : GraphVersion) (held : Holdings) (place : Place) (verdict : Verdict) → DraftsPatch birth b d q t ops v
      → held ≡ holdings_of (books_setting b) (dataset_of b) b.versions.commit → place ≡ place_in (dataset_of b) t → verdict ≡ verdict_of held place (Stores v.triples false) → DecidesPatch b t ops verdict
  patch_decided birth d q ops v held place verdict made held_is place_is is =
      let w = books_setting b in
      let m = dataset_of b in
      let size : v.triples ≡ size_of (patched (graph_of_target m t) ops) = size_of_version d.terms q v made.version ∙ ap size_of (made.graph ∙ updated_is ops) in
      let same = is
      ∙ ap (λ h. verdict_of h place (Stores v.triples false)) held_is
      ∙ ap (λ p. verdict_of (holdings_of w m b.versions.commit) p (Stores v.triples false)) place_is
      ∙ ap (λ n. verdict_of (holdings_of w m b.versions.commit) (place_in m t) (Stores n false)) size in
      subst (DecidesPatch b t ops) (sym same) (store_must w m b.versions.commit t (patched (graph_of_target m t) ops))

-- where the target has a graph, a patch stores one
module _ (w : Setting) (m : Dataset) (t : Target) (ops : List Op) (there : is_there m t ≡ true) where
  status_stored : status_of w m (Patches t ops) ≡ stored_status w m t (patched (graph_of_target m t) ops)
  status_stored = ap (λ x. cond x (stored_status w m t (patched (graph_of_target m t) ops)) 404) there

  dataset_stored : after w m (Patches t ops) ≡ stored w m t (patched (graph_of_target m t) ops)
  dataset_stored = ap (λ x. cond x (stored w m t (patched (graph_of_target m t) ops)) m) there

-- a commit without effect: nothing changes, and the seat is idle
without_effect : (b : Books) (s : ℕ) (t : Target) (n o : ℕ) (since : Option ℕ) (ops : Vec Op Global) (status number : ℕ) → ComesTo (totals_of b) (asked_since since (Patches t ops.items)) status None number (state_of (totals_of b)) → is_success status ≡ false
    → IsReady b s (Patching t n o since) → Acts b b s (Patching t n o since) Idle (CommitPatch ops) (Status status None number)
without_effect b s t n o since ops status number comes fails ready =
    let q = asked_since since (Patches t ops.items) in
    record {
      fits = fits_so (totals_of b) q status None number (state_of (totals_of b)) comes (λ well. absurd (true≢false (sym well ∙ fails)));
      totals = totals_so b b q (state_of (totals_of b)) comes.state_is refl refl refl;
      seat = refl;
      pins = sym (set-get_or b.versions.seats s None);
      sound = ready.sound;
      known = tt;
      version = tt;
      grows = still_grows b.dict b.dict refl;
      ledgers = λ us rs l. record {
        ledger = ledger_stays b s Idle us rs l.read l.there l.ledger;
        waste = subst (λ x. UpdateNodes (totals_of b) t ops.items x (waste_at b.pool) (waste_at b.pool)) (sym fails) refl;
      };
      takes = subst (λ x. SameUnless x (in_use b.pool) (in_use b.pool)) (sym fails) refl;
      born = subst (λ x. PatchBears b.versions.commit t x (bearing_by b b (Patching t n o since) Idle)) (sym fails) (λ u f. refl, λ f. refl);
    }

-- Only its record is given up.
module _ (b : Books) (x : Recorded) (s : ℕ) (t : Target) (n o : ℕ) (since : Option ℕ) (ops : Vec Op Global) (same : SameNow b.records x) (ready : IsReady b s (Patching t n o since)) where
  -- the target has no graph
  pub patch_missing : is_there (dataset_of b) t ≡ false → Acts b (with_records b x) s (Patching t n o since) Idle (CommitPatch ops) (Status 404 None b.versions.commit)
  patch_missing missing =
      let w = books_setting b in
      let m = dataset_of b in
      let g = patched (graph_of_target m t) ops.items in
      let q = asked_since since (Patches t ops.items) in
      let in_time = ap (λ y. y && is_above (last_write_on (last_writes_of b) t) since) missing in
      let status : 404 ≡ status_of w m (Patches t ops.items) = sym (ap (λ y. cond y (stored_status w m t g) 404) missing) in
      let dataset : after w m (Patches t ops.items) ≡ m = ap (λ y. cond y (stored w m t g) m) missing in
      acts_alike b x same b s (Patching t n o since) (CommitPatch ops) (Status 404 None b.versions.commit)
      (without_effect b s t n o since ops 404 b.versions.commit (comes_undone (totals_of b) q in_time 404 None status refl refl dataset) refl ready)

  -- it was written since the condition
  pub patch_late : (number : ℕ) → is_there (dataset_of b) t ≡ true → Some number ≡ late_write_of b t since → Acts b (with_records b x) s (Patching t n o since) Idle (CommitPatch ops) (Status 412 None number)
  patch_late number there is =
      let late = change_late b t since there number is in
      acts_alike b x same b s (Patching t n o since) (CommitPatch ops) (Status 412 None number)
      (without_effect b s t n o since ops 412 number (comes_late (totals_of b) (asked_since since (Patches t ops.items)) number late.0 refl late.1) refl ready)

-- The draft was refused or given up, and the pool is as it was.
module _ (b : Books) (d : Numbered) (q : Nodes) (s : ℕ) (t : Target) (n o : ℕ) (since : Option ℕ) (ops : Vec Op Global) (grows : Grows b.dict d) (restores : Restores b.pool q) (there : is_there (dataset_of b) t ≡ true) (none : late_write_of b t since ≡ None) (ready : IsReady b s (Patching t n o since)) where
  ready_now : IsReady (with_nodes b d q) s (Patching t n o since)
  ready_now = undone_ready b d q grows restores ready.sound s (Patching t n o since) refl ready

  dataset_now : dataset_of (with_nodes b d q) ≡ dataset_of b
  dataset_now = ap (λ (x : Totals). x.dataset) (undone_totals b d q grows restores ready.sound)

  there_now : is_there (dataset_of (with_nodes b d q)) t ≡ true
  there_now = ap (λ m. is_there m t) dataset_now ∙ there

  -- it was not written since the condition
  in_time_now : is_late (state_of (totals_of (with_nodes b d q))) since (Patches t ops.items) ≡ false
  in_time_now = change_in_time (with_nodes b d q) t since there_now none

  decided_now : (verdict : Verdict) → DecidesPatch b t ops.items verdict → DecidesPatch (with_nodes b d q) t ops.items verdict
  decided_now verdict = subst (λ m. DecidesChange (books_setting b) m b.versions.commit t (patched (graph_of_target m t) ops.items) verdict) (sym dataset_now)

  acts_so : (now : Seat) (a : Answer) → Acts (with_nodes b d q) (with_nodes b d q) s (Patching t n o since) now (CommitPatch ops) a → Acts b (with_nodes b d q) s (Patching t n o since) now (CommitPatch ops) a
  acts_so now a = undone_acts b d q grows restores ready.sound (with_nodes b d q) s (Patching t n o since) now (CommitPatch ops) a refl ready.known

  -- want of memory
  pub patch_unmade : Acts b (with_nodes b d q) s (Patching t n o since) (Patching t n o since) (CommitPatch ops) (Refused NoMemory)
  patch_unmade = acts_so (Patching t n o since) (Refused NoMemory) (nothing_done (with_nodes b d q) s (Patching t n o since) (CommitPatch ops) (Refused NoMemory) (wants_in_time (totals_of (with_nodes b d q)) (asked_since since (Patches t ops.items)) in_time_now there_now) refl refl refl refl refl (λ x none. none) ready_now)

  -- no commit number is left: the patch stays open
  pub patch_last : DecidesPatch b t ops.items LastNumber → Acts b (with_nodes b d q) s (Patching t n o since) (Patching t n o since) (CommitPatch ops) (Refused NoNumber)
  patch_last decided =
      let w = books_setting b in
      let m = dataset_of (with_nodes b d q) in
      let change = decided_now LastNumber decided in
      let would = would_be_stored w m b.versions.commit (Patches t ops.items) t (patched (graph_of_target m t) ops.items) (status_stored w m t ops.items there_now) (dataset_stored w m t ops.items there_now) change.1 in
      acts_so (Patching t n o since) (Refused NoNumber) (nothing_done (with_nodes b d q) s (Patching t n o since) (CommitPatch ops) (Refused NoNumber) (no_number (totals_of (with_nodes b d q)) (asked_since since (Patches t ops.items)) in_time_now would change.1.1) refl refl refl refl refl (λ x none. none) ready_now)

  -- beyond the limits: nothing changes, and the seat is idle
  pub patch_full : (x : Recorded) → SameNow b.records x → DecidesPatch b t ops.items Full → Acts b (with_records (with_nodes b d q) x) s (Patching t n o since) Idle (CommitPatch ops) (Status 507 None b.versions.commit)
  patch_full x same decided =
      let w = books_setting b in
      let m = dataset_of (with_nodes b d q) in
      let change = decided_now Full decided in
      let not = is_not_stored w m b.versions.commit (Patches t ops.items) t (patched (graph_of_target m t) ops.items) (status_stored w m t ops.items there_now) (dataset_stored w m t ops.items there_now) change.1 in
      acts_alike (with_nodes b d q) x same b s (Patching t n o since) (CommitPatch ops) (Status 507 None b.versions.commit)
      (acts_so Idle (Status 507 None b.versions.commit) (without_effect (with_nodes b d q) s t n o since ops 507 b.versions.commit (comes_undone (totals_of (with_nodes b d q)) (asked_since since (Patches t ops.items)) in_time_now 507 None not.status_is refl refl not.dataset) refl ready_now))

-- what the copies replaced joins the waste
replaced_joins : (last most : ℕ) (a b : List Lifetime) → Joins (EndsAt (last + 1)) most a b → Joins (λ l. IsUnreached l ⊎ EndsAt (last + 1) l) most a b
replaced_joins last most a b j = record { more = j.more; few = j.few; same = j.same; ended = λ k x h. inr (j.ended k x h) }

-- the draft is kept
pub patch_kept : (b : Books) (d : Numbered) (q r : Nodes) (w : Pins) (c : Recorded) (write s : ℕ) (t : Target) (n o : ℕ) (since : Option ℕ) (ops : Vec Op Global) (v : GraphVersion) (birth status triples names : ℕ)
    → birth ≡ b.versions.commit + 1 → Grows b.dict d → DraftsPatch birth b d q t ops.items v
    → KeepsDraftAll b.versions w q r → w ≡ at_commit b.versions (b.versions.commit + 1) → r.nodes ≡ q.nodes → aside_count r ≡ 0 → current c.records ≡ with_version (graphs_of b) t v → IsNext b.records c write birth → last_writes_of (with_draft b d r w c write) ≡ with_write (last_writes_of b) birth t → late_write_of b t since ≡ None
    → DecidesPatch b t ops.items (Granted status triples names) → IsReady b s (Patching t n o since) → Acts b (with_draft b d r w c write) s (Patching t n o since) Idle (CommitPatch ops) (Status status None (b.versions.commit + 1))
patch_kept b d q r w c write s t n o since ops v birth status triples names born grows made keeps commit nodes none written latest writes early decided ready =
    let there = decided.0 in
    let m = dataset_of b in
    let g = updated (target_graph b t) ops.items in
    let most = 259 * inserted_by (target_graph b t) ops.items + 261 * removed_by (target_graph b t) ops.items in
    let some = ready.ledger in
    let new = with_draft b d r w c write in
    let q0 = asked_since since (Patches t ops.items) in
    let number : b.versions.commit < last_number = decided.1.2 in
    let stored = is_stored (books_setting b) m b.versions.commit (Patches t ops.items) t (patched (graph_of_target m t) ops.items) (status_stored (books_setting b) m t ops.items there) (dataset_stored (books_setting b) m t ops.items there) status triples names decided.1 in
    let last : w.commit ≡ b.versions.commit + 1 = ap (λ (x : Pins). x.commit) commit in
    let dataset = kept_dataset b d q r w c write t v g birth most born grows made keeps commit nodes none written latest number ready.sound (leaf ∷ some.uploads) some.reads some.ledger.ledger ∙ ap (with_graph m t) (updated_is b t there ops.items) ∙ sym stored.dataset in
    let e₀ : KeptEnds b new t (tree_births (version_tree r v)) most (leaf ∷ some.uploads) some.reads = kept_ends b d q r w c write t v g birth most born grows made keeps commit nodes none written latest number ready.sound (leaf ∷ some.uploads) some.reads some.ledger.ledger (leaf ∷ some.uploads) some.reads some.ledger.ledger in
    let set = kept_births b d q r w c write t v g birth most born grows made keeps commit nodes none written latest number ready.sound (leaf ∷ some.uploads) some.reads some.ledger.ledger in
    let graph_born : GraphBears b.versions.commit t (bearing_by b new (Patching t n o since) Idle) = (
      (λ x other. equal_births (graph_births b x) (graph_births new x) (set.others x other)),
      subst (λ x. Renews b.versions.commit (graph_births b t) x (waste_at b.pool) (waste_at r)) (sym set.own) e₀.renews,
    ) in
    let comes = comes_done (totals_of b) q0 (change_in_time b t since there early) status None stored.status_is stored.well refl in
    let state : state_of (totals_of new) ≡ record { dataset = after (books_setting b) m (Patches t ops.items); commit = b.versions.commit + 1; last_writes = with_write (last_writes_of b) (b.versions.commit + 1) t } =
    λ i. record { dataset = dataset i; commit = last i; last_writes = (writes ∙ ap (λ k. with_write (last_writes_of b) k t) born) i } in
    record {
      fits = fits_so (totals_of b) q0 status None (b.versions.commit + 1) _ comes (λ well. number);
      totals = totals_so b new q0 _ comes.state_is refl refl state;
      seat = refl;
      pins = ap (λ (x : Pins). x.seats) commit ∙ sym (set-get_or b.versions.seats s None);
      sound = kept_sound b d q r w c write t v g birth most born grows made keeps commit nodes none written latest number ready.sound (leaf ∷ some.uploads) some.reads some.ledger.ledger;
      known = tt;
      version = tt;
      grows = grows;
      ledgers = λ us rs l.
          let e : KeptEnds b new t (tree_births (version_tree r v)) most (leaf ∷ us) rs = kept_ends b d q r w c write t v g birth most born grows made keeps commit nodes none written latest number ready.sound (leaf ∷ some.uploads) some.reads some.ledger.ledger (leaf ∷ us) rs l.ledger in
          let joins = replaced_joins b.versions.commit most (waste_at b.pool) (waste_at r) e.waste in
          record {
            ledger = ledger_stays new s Idle us rs l.read l.there e.ledger;
            waste = subst (λ x. UpdateNodes (totals_of b) t ops.items x (waste_at b.pool) (waste_at r)) (sym stored.well)
                (subst (λ k. Joins (λ (l : Lifetime). IsUnreached l ⊎ EndsAt (b.versions.commit + 1) l) k (waste_at b.pool) (waste_at r)) (most_is b t there ops.items) joins);
          };
      takes = subst (λ x. SameUnless x (in_use b.pool) (in_use r)) (sym stored.well) tt;
      born = subst (λ x. PatchBears b.versions.commit t x (bearing_by b new (Patching t n o since) Idle)) (sym stored.well) (graph_born, λ f. refl);
    }

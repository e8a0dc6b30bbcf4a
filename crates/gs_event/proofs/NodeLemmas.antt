-- How many nodes a step takes into use, at most.
use Rattle.std.proofs.Common.{◌≡◌, ℕ, ◌+◌, ◌≤◌, Bool, true, false, cond, nat_eq, List, [], ◌∷◌, length, drop, get_or, Option, Some, None, MatchOption, is_some, refl, sym, ap, ◌∙◌, arith}
use Rattle.std.specs.List.{sum_by, slice_get, slice_set}
use Rattle.std.proofs.lemmas.List.{length-map}
use Rattle.std.proofs.lemmas.List.Sums.{sum_by-cons, sum_by-set}
use Rattle.std.proofs.lemmas.Option.{slice_get_within, get_or_from_slice_get}
use Rattle.gs_model.specs.Triples.{line_of}
use Rattle.gs_model.specs.Graphs.{Graph, triples_of, size_of}
use Rattle.gs_model.specs.declared.refusals.Refusal.TheVariants.{BadSeat}
use Rattle.gs_model.proofs.GraphLemmas.{empty_has_none}
use Rattle.gs_term.specs.declared.names.Target.{Target}
use Rattle.gs_term.specs.declared.names.Target.TheVariants.{Named}
use Rattle.gs_event.specs.declared.events.UploadKind.{UploadKind}
use Rattle.gs_event.specs.declared.events.UploadKind.TheVariants.{Put, Post, New}
use Rattle.gs_event.specs.declared.events.Action.{Action}
use Rattle.gs_event.specs.declared.events.Action.TheVariants.{Open, OpenPatch, Stage, Commit, CommitPatch, Delete, Head, Pin, Piece, Cancel}
use Rattle.gs_event.specs.declared.events.Event.{Event}
use Rattle.gs_event.specs.declared.events.Event.TheVariants.{Seat as At, Reclaim}
use Rattle.gs_event.specs.declared.answers.Answer.{Answer}
use Rattle.gs_event.specs.declared.answers.Answer.TheVariants.{Opened, Staged, Status, Pinned, Lines, Cancelled, Reclaimed, Refused}
use Rattle.gs_event.specs.declared.updates.Op.{Op}
use Rattle.gs_event.specs.Updates.{updated, patched}
use Rattle.gs_event.specs.Datasets.{Dataset, graph_at, is_there, lines_if, lines_at, lines_in, with_graph, without_graph, kept_in}
use Rattle.gs_event.specs.Names.{new_name}
use Rattle.gs_event.specs.Operations.{Setting, Patches, Deletes, is_within, united, stored, stored_status, after, status_of, is_success}
use Rattle.gs_event.specs.Conditions.{asked_since, is_late, status_if, after_if, done_by}
use Rattle.gs_event.specs.Phases.{Idle, Writing, Patching, Reading, write_of}
use Rattle.gs_event.specs.Views.{Totals, state_of, View, SeatView, FitsSeat, next_totals, next_phase, next_if}
use Rattle.gs_event.specs.Births.{NodeBirths}
use Rattle.gs_event.specs.Waste.{Lifetime, Shown, held_at, held_in, nodes_in}
use Rattle.gs_event.specs.Wasting.{Joins, UploadNodes, UploadRecords, UpdateNodes, CommitRecords, UpdateRecords, DeleteNodes, DeleteRecords, most_patched, WastesBoth, WastesIf}
use Rattle.gs_event.specs.Steps.{Frees}
use Rattle.gs_event.specs.NodesInUse.{most_for_upload, most_for_update, most_taken_at, most_taken_if, TakesFew, GivesBack}
use Rattle.gs_event.proofs.DatasetLemmas.{kept_in-with_graph, kept_in-without_graph}
use Rattle.gs_event.proofs.SizeLemmas.{adds_up, graph_few, listed_few, united_few}
use Rattle.gs_event.proofs.VerdictLemmas.{made_well}

ones : (xs : List Lifetime) → sum_by (λ l. 1) xs ≡ length xs
ones [] = refl
ones (x ∷ xs) = omega (arith, sum_by-cons (λ (l : Lifetime). 1) x xs, ones xs)

-- the waste grows by no more than joins it
joined : (Has : Lifetime → Type 0) (most : ℕ) (old new : List Lifetime) → Joins Has most old new → length new ≤ length old + most
joined Has most old new joins = omega (arith, ones new, ones old, ones joins.more, joins.same (λ l. 1), joins.few)

-- what a status of success says of a write that stores g
stored_well : (w : Setting) (m : Dataset) (t : Target) (g : Graph) (s : ℕ) → is_success s ≡ true → s ≡ stored_status w m t g → stored w m t g ≡ with_graph m t g
stored_well w m t g s well status =
    elim (is_within w.limits (with_graph m t g)) as (λ b. s ≡ cond b (cond (is_there m t) 204 201) 507 → cond b (with_graph m t g) m ≡ with_graph m t g) [
      | true ↦ λ is. refl
      | false ↦ λ is. absurd (let no : false ≡ true = sym (ap is_success is) ∙ well in cc)
    ] status

-- and what another status says
stored_not : (w : Setting) (m : Dataset) (t : Target) (g : Graph) (s : ℕ) → is_success s ≡ false → s ≡ stored_status w m t g → stored w m t g ≡ m
stored_not w m t g s fails status =
    elim (is_within w.limits (with_graph m t g)) as (λ b. s ≡ cond b (cond (is_there m t) 204 201) 507 → cond b (with_graph m t g) m ≡ m) [
      | true ↦ λ is. absurd (let no : false ≡ true = sym fails ∙ ap is_success is ∙ made_well (is_there m t) in cc)
      | false ↦ λ is. refl
    ] status

-- an upload: with effect its nodes and its record become the graph's, and else they may join the waste
uploaded : (v : Totals) (k : UploadKind) (r : ℕ) (g : Graph) (s : ℕ) (done : Bool) (old mid new : List Lifetime) → is_success s ≡ done → s ≡ status_of v.setting v.dataset (write_of k r g) → UploadNodes v k g done old mid → UploadRecords v k g done mid new
    → kept_in (after v.setting v.dataset (write_of k r g)) + 0 + length new ≤ kept_in v.dataset + (size_of g + 1) + length old + cond done (most_for_upload k g) 0
uploaded v (Put t) r g s true old mid new well status w x =
    let now = ap kept_in (stored_well v.setting v.dataset t g s well status) in
    omega (arith, now, kept_in-with_graph v.dataset t g, joined _ _ old mid w, joined _ _ mid x.between x.unused, joined _ _ x.between new x.replaced)
uploaded v (Post t) r g s true old mid new well status w x =
    let both = united (graph_at v.dataset t) g in
    let now = ap kept_in (stored_well v.setting v.dataset t both s well status) in
    omega (
      arith,
      now,
      kept_in-with_graph v.dataset t both,
      united_few (graph_at v.dataset t) g,
      joined _ _ old w.between w.unused,
      joined _ _ w.between mid w.replaced,
      joined _ _ mid x.between x.unused,
      joined _ _ x.between new x.replaced,
    )
uploaded v New r g s true old mid new well status w x =
    let t = Named (new_name v.setting.base v.dataset r) in
    let now = ap kept_in (stored_well v.setting v.dataset t g s well status) in
    omega (
      arith,
      now,
      kept_in-with_graph v.dataset t g,
      joined _ _ old w.between w.unused,
      joined _ _ w.between mid w.replaced,
      joined _ _ mid new x,
    )
uploaded v (Put t) r g s false old mid new fails status w x =
    omega (arith, ap kept_in (stored_not v.setting v.dataset t g s fails status), joined _ _ old mid w, joined _ _ mid new x)
uploaded v (Post t) r g s false old mid new fails status w x =
    omega (arith, ap kept_in (stored_not v.setting v.dataset t (united (graph_at v.dataset t) g) s fails status), joined _ _ old mid w, joined _ _ mid new x)
uploaded v New r g s false old mid new fails status w x =
    omega (arith, ap kept_in (stored_not v.setting v.dataset (Named (new_name v.setting.base v.dataset r)) g s fails status), joined _ _ old mid w, joined _ _ mid new x)

-- an update with effect, by the graph that was there
patched_well : (v : Totals) (t : Target) (ops : List Op) (s : ℕ) (Has : Lifetime → Type 0) (old mid new : List Lifetime) (o : Option Graph) → graph_at v.dataset t ≡ o → is_success s ≡ true
    → s ≡ cond (is_some o) (stored_status v.setting v.dataset t (patched o ops)) 404 → Joins Has (most_patched o ops) old mid → CommitRecords v t (patched o ops) mid new
    → kept_in (cond (is_some o) (stored v.setting v.dataset t (patched o ops)) v.dataset) + 0 + length new ≤ kept_in v.dataset + 1 + length old + most_for_update o ops
patched_well v t ops s Has old mid new None is well status w x = absurd (let no : false ≡ true = sym (ap is_success status) ∙ well in cc)
patched_well v t ops s Has old mid new (Some g) is well status w x =
    let now = ap kept_in (stored_well v.setting v.dataset t (updated g ops) s well status) in
    let size : length (lines_at v.dataset t) ≡ size_of g = ap (λ o. length (lines_if o)) is ∙ length-map (triples_of g) line_of in
    omega (
      arith,
      now,
      size,
      kept_in-with_graph v.dataset t (updated g ops),
      adds_up g ops,
      joined Has _ old mid w,
      joined _ _ mid x.between x.unused,
      joined _ _ x.between new x.replaced,
    )

-- an update without effect
patched_not : (v : Totals) (t : Target) (g : Graph) (s : ℕ) (there : Bool) → is_success s ≡ false → s ≡ cond there (stored_status v.setting v.dataset t g) 404 → cond there (stored v.setting v.dataset t g) v.dataset ≡ v.dataset
patched_not v t g s true fails status = stored_not v.setting v.dataset t g s fails status
patched_not v t g s false fails status = refl

updated_few : (v : Totals) (t : Target) (ops : List Op) (s : ℕ) (done : Bool) (old mid new : List Lifetime) → is_success s ≡ done → s ≡ cond (is_there v.dataset t) (stored_status v.setting v.dataset t (patched (graph_at v.dataset t) ops)) 404
    → UpdateNodes v t ops done old mid → UpdateRecords v t ops done mid new
    → kept_in (cond (is_there v.dataset t) (stored v.setting v.dataset t (patched (graph_at v.dataset t) ops)) v.dataset) + 0 + length new ≤ kept_in v.dataset + 1 + length old + cond done (most_for_update (graph_at v.dataset t) ops) 0
updated_few v t ops s true old mid new well status w x = patched_well v t ops s _ old mid new (graph_at v.dataset t) refl well status w x
updated_few v t ops s false old mid new fails status w x =
    omega (arith, ap kept_in (patched_not v t (patched (graph_at v.dataset t) ops) s (is_there v.dataset t) fails status), ap length w, joined _ _ mid new x)

-- a DELETE, by whether there was a graph and whether it took effect
deleted : (v : Totals) (t : Target) (s : ℕ) (there done : Bool) (old mid new : List Lifetime) → is_there v.dataset t ≡ there → is_success s ≡ done → s ≡ cond there 204 404 → DeleteNodes v t done old mid → DeleteRecords v t done mid new
    → kept_in (cond there (without_graph v.dataset t) v.dataset) + 0 + length new ≤ kept_in v.dataset + 0 + length old + 0
deleted v t s true true old mid new is well status w x = omega (arith, kept_in-without_graph v.dataset t is, joined _ _ old mid w, joined _ _ mid new x)
deleted v t s true false old mid new is fails status w x = absurd (let no : false ≡ true = sym fails ∙ ap is_success status in cc)
deleted v t s false true old mid new is well status w x = absurd (let no : false ≡ true = sym (ap is_success status) ∙ well in cc)
deleted v t s false false old mid new is fails status w x = omega (arith, ap length w, ap length x)

-- a write that comes too late has no status of success
late_fails : (s : ℕ) → s ≡ 412 → is_success s ≡ true → false ≡ true
late_fails s late well = sym (ap is_success late) ∙ well

-- an upload that comes too late
upload_late : (v : Totals) (k : UploadKind) (g : Graph) (s : ℕ) (done : Bool) (old mid new : List Lifetime) → is_success s ≡ done → s ≡ 412 → UploadNodes v k g done old mid → UploadRecords v k g done mid new
    → kept_in v.dataset + 0 + length new ≤ kept_in v.dataset + (size_of g + 1) + length old + cond done (most_for_upload k g) 0
upload_late v k g s true old mid new well late w x = absurd (let no : false ≡ true = late_fails s late well in cc)
upload_late v (Put t) g s false old mid new well late w x = omega (arith, joined _ _ old mid w, joined _ _ mid new x)
upload_late v (Post t) g s false old mid new well late w x = omega (arith, joined _ _ old mid w, joined _ _ mid new x)
upload_late v New g s false old mid new well late w x = omega (arith, joined _ _ old mid w, joined _ _ mid new x)

-- an upload, too late or not
uploaded_if : (v : Totals) (k : UploadKind) (r : ℕ) (g : Graph) (since : Option ℕ) (s : ℕ) (old mid new : List Lifetime) → s ≡ status_if v.setting (state_of v) (asked_since since (write_of k r g)) → UploadNodes v k g (is_success s) old mid
    → UploadRecords v k g (is_success s) mid new
    → kept_in (after_if v.setting (state_of v) (asked_since since (write_of k r g))).dataset + 0 + length new ≤ kept_in v.dataset + (size_of g + 1) + length old + cond (is_success s) (most_for_upload k g) 0
uploaded_if v k r g since s old mid new status w x =
    elim (is_late (state_of v) since (write_of k r g)) as (λ b. s ≡ cond b 412 (status_of v.setting v.dataset (write_of k r g))
    → kept_in (cond b (state_of v) (done_by v.setting (state_of v) (write_of k r g))).dataset + 0 + length new ≤ kept_in v.dataset + (size_of g + 1) + length old + cond (is_success s) (most_for_upload k g) 0) [
      | true ↦ λ e. upload_late v k g s (is_success s) old mid new refl e w x
      | false ↦ λ e. uploaded v k r g s (is_success s) old mid new refl e w x
    ] status

-- an update that comes too late
update_late : (v : Totals) (t : Target) (ops : List Op) (s : ℕ) (done : Bool) (old mid new : List Lifetime) → is_success s ≡ done → s ≡ 412 → UpdateNodes v t ops done old mid → UpdateRecords v t ops done mid new
    → kept_in v.dataset + 0 + length new ≤ kept_in v.dataset + 1 + length old + cond done (most_for_update (graph_at v.dataset t) ops) 0
update_late v t ops s true old mid new well late w x = absurd (let no : false ≡ true = late_fails s late well in cc)
update_late v t ops s false old mid new well late w x = omega (arith, ap length w, joined _ _ mid new x)

-- an update, too late or not
updated_if : (v : Totals) (t : Target) (ops : List Op) (since : Option ℕ) (s : ℕ) (old mid new : List Lifetime) → s ≡ status_if v.setting (state_of v) (asked_since since (Patches t ops)) → UpdateNodes v t ops (is_success s) old mid
    → UpdateRecords v t ops (is_success s) mid new
    → kept_in (after_if v.setting (state_of v) (asked_since since (Patches t ops))).dataset + 0 + length new ≤ kept_in v.dataset + 1 + length old + cond (is_success s) (most_for_update (graph_at v.dataset t) ops) 0
updated_if v t ops since s old mid new status w x =
    elim (is_late (state_of v) since (Patches t ops)) as (λ b. s ≡ cond b 412 (status_of v.setting v.dataset (Patches t ops))
    → kept_in (cond b (state_of v) (done_by v.setting (state_of v) (Patches t ops))).dataset + 0 + length new ≤ kept_in v.dataset + 1 + length old + cond (is_success s) (most_for_update (graph_at v.dataset t) ops) 0) [
      | true ↦ λ e. update_late v t ops s (is_success s) old mid new refl e w x
      | false ↦ λ e. updated_few v t ops s (is_success s) old mid new refl e w x
    ] status

-- a DELETE that comes too late
delete_late : (v : Totals) (t : Target) (s : ℕ) (done : Bool) (old mid new : List Lifetime) → is_success s ≡ done → s ≡ 412 → DeleteNodes v t done old mid → DeleteRecords v t done mid new
    → kept_in v.dataset + 0 + length new ≤ kept_in v.dataset + 0 + length old + 0
delete_late v t s true old mid new well late w x = absurd (let no : false ≡ true = late_fails s late well in cc)
delete_late v t s false old mid new well late w x = omega (arith, ap length w, ap length x)

-- a DELETE, too late or not
deleted_if : (v : Totals) (t : Target) (since : Option ℕ) (s : ℕ) (old mid new : List Lifetime) → s ≡ status_if v.setting (state_of v) (asked_since since (Deletes t)) → DeleteNodes v t (is_success s) old mid → DeleteRecords v t (is_success s) mid new
    → kept_in (after_if v.setting (state_of v) (asked_since since (Deletes t))).dataset + 0 + length new ≤ kept_in v.dataset + 0 + length old + 0
deleted_if v t since s old mid new status w x =
    elim (is_late (state_of v) since (Deletes t)) as (λ b. s ≡ cond b 412 (status_of v.setting v.dataset (Deletes t))
    → kept_in (cond b (state_of v) (done_by v.setting (state_of v) (Deletes t))).dataset + 0 + length new ≤ kept_in v.dataset + 0 + length old + 0) [
      | true ↦ λ e. delete_late v t s (is_success s) old mid new refl e w x
      | false ↦ λ e. deleted v t s (is_there v.dataset t) (is_success s) old mid new refl refl e w x
    ] status

unchanged : (n : ℕ) (old mid new : List Lifetime) → mid ≡ old → new ≡ mid → n + length new ≤ n + length old + 0
unchanged n old mid new w x = omega (arith, ap length w, ap length x)

-- a phase in which nothing is staged
pin_stages : (b : Bool) (left : List (List ℕ)) → held_at (cond b (Reading left) Idle) ≡ 0
pin_stages true left = refl
pin_stages false left = refl

piece_stages : (b : Bool) (left : List (List ℕ)) → held_at (cond b Idle (Reading left)) ≡ 0
piece_stages true left = refl
piece_stages false left = refl

-- the current graphs, the seat's upload and the waste have no more nodes together
taken_at : (v : Totals) (p : SeatView) (action : Action) (a : Answer) (seat : ℕ) (births births_then : NodeBirths) (old new : List Lifetime) → FitsSeat v p action a → WastesBoth v seat p action a births births_then old new
    → kept_in (next_totals v p action a).dataset + held_at (next_phase v p action a) + length new ≤ kept_in v.dataset + held_at p + length old + most_taken_at v.dataset p action a
taken_at v Idle (Open k since) (Opened r) i bs cs old new fits w = omega (arith, empty_has_none, ap length w.nodes, ap length w.records)
taken_at v Idle (OpenPatch t since) (Opened r) i bs cs old new fits w = omega (arith, ap length w.nodes, ap length w.records)
taken_at v Idle (Delete t since) (Status s name number) i bs cs old new fits w = deleted_if v t since s old w.between new fits.0 w.nodes w.records
taken_at v Idle (Head t) (Status s name number) i bs cs old new fits w = unchanged (kept_in v.dataset + 0) old w.between new w.nodes w.records
taken_at v Idle (Pin t) (Pinned s number) i bs cs old new fits w = omega (arith, pin_stages (nat_eq s 200) (lines_in v.dataset t), ap length w.nodes, ap length w.records)
taken_at v Idle Commit (Status s name number) i bs cs old new fits w = absurd fits
taken_at v Idle (CommitPatch ops) (Status s name number) i bs cs old new fits w = absurd fits
taken_at v Idle Cancel Cancelled i bs cs old new fits w = absurd fits
taken_at v (Writing k r g since) (Stage ts) Staged i bs cs old new fits w =
    omega (arith, graph_few (triples_of g) ts.items, listed_few ts.items, ap length w.nodes, ap length w.records)
taken_at v (Writing k r g since) Commit (Status s name number) i bs cs old new fits w = uploaded_if v k r g since s old w.between new fits.0 w.nodes w.records
taken_at v (Writing k r g since) Cancel Cancelled i bs cs old new fits w = omega (arith, joined _ _ old w.between w.nodes, joined _ _ w.between new w.records)
taken_at v (Writing k r g since) (Delete t other) (Status s name number) i bs cs old new fits w = absurd fits
taken_at v (Writing k r g since) (CommitPatch ops) (Status s name number) i bs cs old new fits w = absurd fits
taken_at v (Patching t r since) (CommitPatch ops) (Status s name number) i bs cs old new fits w = updated_if v t ops.items since s old w.between new fits.0 w.nodes w.records
taken_at v (Patching t r since) (Delete u other) (Status s name number) i bs cs old new fits w = absurd fits
taken_at v (Patching t r since) Commit (Status s name number) i bs cs old new fits w = absurd fits
taken_at v (Patching t r since) Cancel Cancelled i bs cs old new fits w = omega (arith, ap length w.nodes, joined _ _ w.between new w.records)
taken_at v (Reading left) (Piece n) (Lines b end) i bs cs old new fits w = omega (arith, piece_stages end (drop n left), ap length w.nodes, ap length w.records)
taken_at v (Reading left) (Delete t since) (Status s name number) i bs cs old new fits w = absurd fits
taken_at v (Reading left) Commit (Status s name number) i bs cs old new fits w = absurd fits
taken_at v (Reading left) (CommitPatch ops) (Status s name number) i bs cs old new fits w = absurd fits
taken_at v (Reading left) Cancel Cancelled i bs cs old new fits w = unchanged (kept_in v.dataset + 0) old w.between new w.nodes w.records
taken_at v p action a i bs cs old new fits w = unchanged (kept_in v.dataset + held_at p) old w.between new w.nodes w.records

-- whether or not there is such a seat
taken_if : (old : Shown) (s : ℕ) (action : Action) (a : Answer) (new : Shown) (o : Option SeatView) → slice_get old.view.seats s ≡ o → MatchOption o (a ≡ Refused BadSeat) (λ p. FitsSeat old.view.totals p action a)
    → WastesIf old.view.totals s o action a old new → new.view ≡ next_if old.view s o action a → nodes_in new ≤ nodes_in old + most_taken_if old.view.totals.dataset o action a
taken_if old s action a new None is fits w view =
    omega (arith, ap length w.0, ap (λ (v : View). kept_in v.totals.dataset) view, ap (λ (v : View). held_in v.seats) view)
taken_if old s action a new (Some p) is fits w view =
    let next = next_phase old.view.totals p action a in
    let seats : sum_by (λ (q : SeatView). held_at q) (slice_set old.view.seats s next) + held_at (get_or old.view.seats s p) ≡ held_in old.view.seats + held_at next =
    sum_by-set (λ (q : SeatView). held_at q) old.view.seats s next p (slice_get_within old.view.seats s p is) in
    let here : held_at (get_or old.view.seats s p) ≡ held_at p = ap (λ (q : SeatView). held_at q) (get_or_from_slice_get old.view.seats s p p is) in
    let graphs : kept_in new.view.totals.dataset ≡ kept_in (next_totals old.view.totals p action a).dataset = ap (λ (v : View). kept_in v.totals.dataset) view in
    let uploads : held_in new.view.seats ≡ held_in (slice_set old.view.seats s next) = ap (λ (v : View). held_in v.seats) view in
    omega (arith, seats, here, graphs, uploads, taken_at old.view.totals p action a s old.births new.births old.waste new.waste fits w)

-- what is freed is no more in use
pub gives_back : (old : Shown) (n freed : ℕ) (left : Bool) (new : Shown) → GivesBack old n freed left new
gives_back old n freed left new step =
    let w : Frees old.pinned n freed left old.waste new.waste = step.waste.0 in
    omega (arith, w.same (λ l. 1), ones new.waste, ones old.waste, ones w.gone, w.many, ap (λ (v : View). kept_in v.totals.dataset) step.view, ap (λ (v : View). held_in v.seats) step.view)

-- each event
pub takes_few : (old : Shown) (e : Event) (a : Answer) (new : Shown) → TakesFew old e a new
takes_few old (Reclaim n) (Reclaimed freed left) new step = omega (arith, gives_back old n freed left new step)
takes_few old (Reclaim n) a new step = absurd step.waste
takes_few old (At s action) a new step = taken_if old s action a new (slice_get old.view.seats s) refl step.fits step.waste step.view

-- A store whose waste is empty before and after an event takes a step.
use Rattle.std.proofs.Common.{◌≡◌, ℕ, ◌+◌, Bool, true, false, Option, Some, None, List, [], length, refl, sym, ap, ◌∙◌, arith}
use Rattle.std.specs.Option.{unwrap_or}
use Rattle.std.specs.FinMap as map
use Rattle.std.specs.List.{sum_by}
use Rattle.gs_model.specs.Graphs.{Graph}
use Rattle.gs_term.specs.Names.{name_cmp}
use Rattle.gs_term.specs.declared.names.Target.{Target}
use Rattle.gs_term.specs.declared.names.Target.TheVariants.{Default, Named}
use Rattle.gs_event.specs.declared.updates.Op.{Op}
use Rattle.gs_event.specs.declared.events.UploadKind.{UploadKind}
use Rattle.gs_event.specs.declared.events.UploadKind.TheVariants.{Put, Post, New}
use Rattle.gs_event.specs.declared.events.Action.{Action}
use Rattle.gs_event.specs.declared.events.Action.TheVariants.{Stage, Commit, CommitPatch, Delete, Cancel}
use Rattle.gs_event.specs.declared.events.Event.TheVariants.{Seat as At, Reclaim}
use Rattle.gs_event.specs.declared.answers.Answer.{Answer}
use Rattle.gs_event.specs.declared.answers.Answer.TheVariants.{Staged, Status, Cancelled, Reclaimed, Refused}
use Rattle.gs_event.specs.Waste.{Lifetime, Shown}
use Rattle.gs_event.specs.Names.{new_name}
use Rattle.gs_event.specs.Operations.{is_success}
use Rattle.gs_event.specs.Phases.{Writing, Patching}
use Rattle.gs_event.specs.Views.{Totals, SeatView}
use Rattle.gs_event.specs.Births.{NodeBirths, no_births, births_at, staged_births}
use Rattle.gs_event.specs.Born.{ended_sum, AreSameBirths, Leave, Bearing, BirthsStay, StageBears, GraphBears, Hands, UploadBears, PatchBears, DeleteBears, Bears, HasFewBirths}
use Rattle.gs_event.specs.Wasting.{Joins, JoinsBoth, UploadNodes, UpdateNodes, DeleteNodes, WastesNodes, UploadRecords, UpdateRecords, DeleteRecords, WastesRecords, bearing_of, WastesIf}
use Rattle.gs_event.specs.Steps.{Wastes}

none_joined : (Has : Lifetime → Type 0) (most : ℕ) (old new : List Lifetime) → old ≡ [] → new ≡ [] → Joins Has most old new
none_joined Has most old new before after = record {
  more = [];
  few = omega arith;
  same = λ f. ap (sum_by f) after ∙ sym (ap (λ ls. sum_by f ls + 0) before);
  ended = λ k d lt. absurd (omega arith);
}

none_both : (Has : Lifetime → Type 0) (unreached ended : ℕ) (old new : List Lifetime) → old ≡ [] → new ≡ [] → JoinsBoth Has unreached ended old new
none_both Has unreached ended old new before after = record {
  between = [];
  unused = none_joined _ _ old [] before refl;
  replaced = none_joined _ _ [] new refl after;
}

none_upload_nodes : (v : Totals) (k : UploadKind) (g : Graph) (done : Bool) (old new : List Lifetime) → old ≡ [] → new ≡ [] → UploadNodes v k g done old new
none_upload_nodes v (Put t) g true old new before after = none_joined _ _ old new before after
none_upload_nodes v (Put t) g false old new before after = none_joined _ _ old new before after
none_upload_nodes v (Post t) g true old new before after = none_both _ _ _ old new before after
none_upload_nodes v (Post t) g false old new before after = none_joined _ _ old new before after
none_upload_nodes v New g true old new before after = none_both _ _ _ old new before after
none_upload_nodes v New g false old new before after = none_joined _ _ old new before after

none_update_nodes : (v : Totals) (t : Target) (ops : List Op) (done : Bool) (old new : List Lifetime) → old ≡ [] → new ≡ [] → UpdateNodes v t ops done old new
none_update_nodes v t ops true old new before after = none_joined _ _ old new before after
none_update_nodes v t ops false old new before after = after ∙ sym before

none_delete_nodes : (v : Totals) (t : Target) (done : Bool) (old new : List Lifetime) → old ≡ [] → new ≡ [] → DeleteNodes v t done old new
none_delete_nodes v t true old new before after = none_joined _ _ old new before after
none_delete_nodes v t false old new before after = after ∙ sym before

none_nodes : (v : Totals) (p : SeatView) (action : Action) (a : Answer) (old new : List Lifetime) → old ≡ [] → new ≡ [] → WastesNodes v p action a old new
none_nodes v (Writing k r g since) Commit (Status s name number) old new before after = none_upload_nodes v k g _ old new before after
none_nodes v (Patching t r since) (CommitPatch ops) (Status s name number) old new before after = none_update_nodes v t ops.items _ old new before after
none_nodes v p (Delete t since) (Status s name number) old new before after = none_delete_nodes v t _ old new before after
none_nodes v (Writing k r g since) Cancel Cancelled old new before after = none_joined _ _ old new before after
none_nodes v p action a old new before after = after ∙ sym before

none_upload_records : (v : Totals) (k : UploadKind) (g : Graph) (done : Bool) (old new : List Lifetime) → old ≡ [] → new ≡ [] → UploadRecords v k g done old new
none_upload_records v (Put t) g true old new before after = none_both _ _ _ old new before after
none_upload_records v (Put t) g false old new before after = none_joined _ _ old new before after
none_upload_records v (Post t) g true old new before after = none_both _ _ _ old new before after
none_upload_records v (Post t) g false old new before after = none_joined _ _ old new before after
none_upload_records v New g true old new before after = none_joined _ _ old new before after
none_upload_records v New g false old new before after = none_joined _ _ old new before after

none_update_records : (v : Totals) (t : Target) (ops : List Op) (done : Bool) (old new : List Lifetime) → old ≡ [] → new ≡ [] → UpdateRecords v t ops done old new
none_update_records v t ops true old new before after = none_both _ _ _ old new before after
none_update_records v t ops false old new before after = none_joined _ _ old new before after

none_delete_records : (v : Totals) (t : Target) (done : Bool) (old new : List Lifetime) → old ≡ [] → new ≡ [] → DeleteRecords v t done old new
none_delete_records v t true old new before after = none_joined _ _ old new before after
none_delete_records v t false old new before after = after ∙ sym before

none_records : (v : Totals) (p : SeatView) (action : Action) (a : Answer) (old new : List Lifetime) → old ≡ [] → new ≡ [] → WastesRecords v p action a old new
none_records v (Writing k r g since) Commit (Status s name number) old new before after = none_upload_records v k g _ old new before after
none_records v (Patching t r since) (CommitPatch ops) (Status s name number) old new before after = none_update_records v t ops.items _ old new before after
none_records v p (Delete t since) (Status s name number) old new before after = none_delete_records v t _ old new before after
none_records v (Writing k r g since) Cancel Cancelled old new before after = none_joined _ _ old new before after
none_records v (Patching t r since) Cancel Cancelled old new before after = none_joined _ _ old new before after
none_records v p action a old new before after = after ∙ sym before

-- no births, and no waste, before and after
record IsBare (b : Bearing) : Type 0 where
  graphs : (u : Target) → b.graphs u ≡ []
  graphs_then : (u : Target) → b.graphs_then u ≡ []
  own : b.own ≡ []
  own_then : b.own_then ≡ []
  waste : b.waste ≡ []
  waste_then : b.waste_then ≡ []

module _ (b : Bearing) (bare : IsBare b) where
  bare_graph : (u : Target) → AreSameBirths (b.graphs u) (b.graphs_then u)
  bare_graph u f = ap (sum_by f) (bare.graphs_then u ∙ sym (bare.graphs u))

  bare_own : AreSameBirths b.own b.own_then
  bare_own f = ap (sum_by f) (bare.own_then ∙ sym bare.own)

  bare_none : BirthsStay b
  bare_none = (bare_graph, bare_own)

  bare_stage : (commit : ℕ) → StageBears commit b
  bare_stage commit = (
    bare_graph,
    record {
      freed = [];
      made = [];
      next = λ k d lt. absurd (omega arith);
      same = λ f. (λ i. sum_by f (bare.own_then i) + 0 + 0) ∙ sym (λ i. sum_by f (bare.own i) + 0 + 0);
    },
  )

  bare_changed : (commit : ℕ) (t : Target) → GraphBears commit t b
  bare_changed commit t = (
    λ u other. bare_graph u,
    record {
      freed = [];
      made = [];
      next = λ k d lt. absurd (omega arith);
      same = λ f. (λ i. sum_by f (bare.graphs_then t i) + ended_sum (commit + 1) f (bare.waste_then i) + 0) ∙ sym (λ i. sum_by f (bare.graphs t i) + ended_sum (commit + 1) f (bare.waste i) + 0);
    },
  )

  bare_leave : (commit : ℕ) (t : Target) → Leave commit (b.graphs t) b.waste b.waste_then
  bare_leave commit t = record { freed = []; same = λ f. (λ i. ended_sum (commit + 1) f (bare.waste_then i) + 0) ∙ sym (λ i. sum_by f (bare.graphs t i) + ended_sum (commit + 1) f (bare.waste i)) }

  bare_hands : (commit : ℕ) (t : Target) → Hands commit t b
  bare_hands commit t = (λ u other. bare_graph u, (λ f. ap (sum_by f) (bare.graphs_then t ∙ sym bare.own)), bare_leave commit t)

  bare_upload : (v : Totals) (k : UploadKind) (r : ℕ) (done : Bool) → UploadBears v k r done b
  bare_upload v (Put t) r true = (bare_hands v.commit t, bare.own_then)
  bare_upload v (Put t) r false = (bare_graph, bare.own_then)
  bare_upload v (Post t) r true = (bare_changed v.commit t, bare.own_then)
  bare_upload v (Post t) r false = (bare_graph, bare.own_then)
  bare_upload v New r true = (bare_hands v.commit (Named (new_name v.setting.base v.dataset r)), bare.own_then)
  bare_upload v New r false = (bare_graph, bare.own_then)

  bare_patch : (commit : ℕ) (t : Target) (done : Bool) → PatchBears commit t done b
  bare_patch commit t true = (bare_changed commit t, bare_own)
  bare_patch commit t false = bare_none

  bare_delete : (commit : ℕ) (t : Target) (done : Bool) → DeleteBears commit t done b
  bare_delete commit t true = (λ u other. bare_graph u, bare.graphs_then t, bare_leave commit t, bare_own)
  bare_delete commit t false = bare_none

  bare_bears : (v : Totals) (p : SeatView) (action : Action) (a : Answer) → Bears v p action a b
  bare_bears v (Writing k r g since) (Stage ts) Staged = bare_stage v.commit
  bare_bears v (Writing k r g since) Commit (Status s name number) = bare_upload v k r (is_success s)
  bare_bears v (Writing (Post t) r g since) Commit (Refused e) = bare_stage v.commit
  bare_bears v (Writing k r g since) Cancel Cancelled = (bare_graph, bare.own_then)
  bare_bears v (Patching t r since) (CommitPatch ops) (Status s name number) = bare_patch v.commit t (is_success s)
  bare_bears v p (Delete t since) (Status s name number) = bare_delete v.commit t (is_success s)
  bare_bears v p action a = bare_none

none_at_target : (b : NodeBirths) → b ≡ no_births 0 → (u : Target) → births_at b u ≡ []
none_at_target b none Default = ap (λ (x : NodeBirths). births_at x Default) none
none_at_target b none (Named n) = ap (λ (x : NodeBirths). births_at x (Named n)) none ∙ ap (λ o. unwrap_or o []) (map.get-empty name_cmp n)

none_staged : (b : NodeBirths) → b ≡ no_births 0 → (k : ℕ) → staged_births b k ≡ []
none_staged b none k = ap (λ (x : NodeBirths). staged_births x k) none

none_at : (v : Totals) (seat : ℕ) (p : Option SeatView) (action : Action) (a : Answer) (old new : Shown) → old.waste ≡ [] → new.waste ≡ [] → old.births ≡ no_births 0 → new.births ≡ no_births 0 → WastesIf v seat p action a old new
none_at v seat None action a old new before after earlier later = (
  after ∙ sym before,
  record {
    graphs = λ u f. ap (sum_by f) (none_at_target new.births later u ∙ sym (none_at_target old.births earlier u));
    staged = λ k f. ap (sum_by f) (none_staged new.births later k ∙ sym (none_staged old.births earlier k));
  },
)
none_at v seat (Some p) action a old new before after earlier later = record {
  between = [];
  nodes = none_nodes v p action a old.waste [] before refl;
  born = bare_bears (bearing_of seat old.births new.births old.waste []) (record {
    graphs = none_at_target old.births earlier;
    graphs_then = none_at_target new.births later;
    own = none_staged old.births earlier seat;
    own_then = none_staged new.births later seat;
    waste = before;
    waste_then = refl;
  }) v p action a;
  others = λ k other f. ap (sum_by f) (none_staged new.births later k ∙ sym (none_staged old.births earlier k));
  records = none_records v p action a [] new.waste refl after;
}

-- a seat's action
pub none_wasted : (old : Shown) (s : ℕ) (action : Action) (a : Answer) (new : Shown) → old.waste ≡ [] → new.waste ≡ [] → old.births ≡ no_births 0 → new.births ≡ no_births 0 → Wastes old (At s action) a new
none_wasted old s action a new before after earlier later = none_at old.view.totals s _ action a old new before after earlier later

-- there are no births, and so no more than triples
pub none_few : (old new : Shown) → new.births ≡ no_births 0 → HasFewBirths old → HasFewBirths new
none_few old new none few = record {
  graphs = λ t. omega (arith, ap length (none_at_target new.births none t));
  staged = λ k. omega (arith, ap length (none_staged new.births none k));
}

-- there is nothing to free
pub none_freed : (old : Shown) (n : ℕ) (new : Shown) → old.waste ≡ [] → new ≡ old → Wastes old (Reclaim n) (Reclaimed 0 false) new
none_freed old n new before same =
    let waste = ap (λ (s : Shown). s.waste) same in (
      record {
        exact = rw before (omega arith);
        gone = [];
        many = refl;
        same = λ f. ap (λ ls. sum_by f ls + 0) waste ∙ omega arith;
        none_needed = λ k d lt. absurd (omega arith);
        left_is = (λ h. absurd (Prim.cc), λ h. absurd (h (waste ∙ before)));
      },
      record { graphs = λ u f. ap (λ (s : Shown). sum_by f (births_at s.births u)) same; staged = λ k f. ap (λ (s : Shown). sum_by f (staged_births s.births k)) same },
    )

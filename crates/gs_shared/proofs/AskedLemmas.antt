-- What an event asked, with its answer, is what a tally counts.
use Rattle.std.proofs.Common.{◌≡◌, ℕ, ◌≤◌, ◌-◌, ◌^◌, None, Some, true, [], refl, sym, ap, ◌∙◌, subst, arith}
use Rattle.gs_model.specs.declared.refusals.Refusal.{Refusal}
use Rattle.gs_model.specs.declared.refusals.Refusal.TheVariants.{BadSeat}
use Rattle.gs_event.specs.Datasets.{empty_dataset}
use Rattle.gs_event.specs.Conditions.{state_from}
use Rattle.gs_event.specs.Views.{View}
use Rattle.gs_door.specs.Kinds.{IsOfKind}
use Rattle.gs_event.specs.declared.events.Action.{Action}
use Rattle.gs_event.specs.declared.events.Action.TheVariants.{Stage, Commit, CommitPatch, Delete, Head, Pin}
use Rattle.gs_event.specs.declared.events.Event.{Event}
use Rattle.gs_event.specs.declared.events.Event.TheVariants.{Seat as At, Reclaim}
use Rattle.gs_event.specs.declared.answers.Answer.{Answer}
use Rattle.gs_event.specs.declared.answers.Answer.TheVariants.{Staged, Status, Pinned, Refused}
use Rattle.gs_pass.specs.Tallies.{Tally, decides, brought_by, count_plus, AddsReceipt, Enters, CountsCall}
use Rattle.gs_pass.specs.declared.receipts.Receipt.{Receipt}
use Rattle.gs_shared.specs.declared.asked.EventAsk.{EventAsk}
use Rattle.gs_shared.specs.declared.asked.EventAsk.TheVariants.{Stage as AsksStage, Status as AsksStatus, Pin as AsksPin, Nothing as AsksNothing}
use Rattle.gs_shared.specs.Asked.{ask_of_action, ask_of_event, decided_of, brought_of}
use Rattle.gs_shared.specs.Tells.{is_of_another, ToldBy}

-- what an action asked decides with an answer what the action decides
pub decided_of-ask_of_action : (action : Action) (a : Answer) → decided_of (ask_of_action action) a ≡ decides action a
decided_of-ask_of_action Commit (Status s name number) = refl
decided_of-ask_of_action Commit a = refl
decided_of-ask_of_action (CommitPatch ops) (Status s name number) = refl
decided_of-ask_of_action (CommitPatch ops) a = refl
decided_of-ask_of_action (Delete t since) (Status s name number) = refl
decided_of-ask_of_action (Delete t since) a = refl
decided_of-ask_of_action (Head c) (Status s name number) = refl
decided_of-ask_of_action (Head c) a = refl
decided_of-ask_of_action (Pin c) (Pinned s number) = refl
decided_of-ask_of_action (Pin c) a = refl
decided_of-ask_of_action action a = refl

-- what an action asked brings with an answer what the action brings
pub brought_of-ask_of_action : (action : Action) (a : Answer) → brought_of (ask_of_action action) a ≡ brought_by action a
brought_of-ask_of_action (Stage ts) Staged = refl
brought_of-ask_of_action (Stage ts) a = refl
brought_of-ask_of_action Commit (Status s name number) = refl
brought_of-ask_of_action Commit a = refl
brought_of-ask_of_action (CommitPatch ops) (Status s name number) = refl
brought_of-ask_of_action (CommitPatch ops) a = refl
brought_of-ask_of_action (Delete t since) (Status s name number) = refl
brought_of-ask_of_action (Delete t since) a = refl
brought_of-ask_of_action (Head c) (Status s name number) = refl
brought_of-ask_of_action (Head c) a = refl
brought_of-ask_of_action action a = refl

-- a refusal decides nothing
pub decided_of-Refused : (asked : EventAsk) (r : Refusal) → decided_of asked (Refused r) ≡ None
decided_of-Refused (AsksStage n) r = refl
decided_of-Refused (AsksStatus kind n) r = refl
decided_of-Refused AsksPin r = refl
decided_of-Refused AsksNothing r = refl

-- What a pass is told of an event that decided nothing: its triples are counted, and nothing else.
pub told_undecided : (e : Event) (a : Answer) (v w : Tally) → decided_of (ask_of_event e) a ≡ None → v.triples ≤ 2 ^ 64 - 1 → w.receipts ≡ v.receipts → w.calls ≡ v.calls → w.triples ≡ count_plus v.triples (brought_of (ask_of_event e) a) → ToldBy e a v w
told_undecided (At s action) a v w none small receipts calls triples =
    let undecided = sym (decided_of-ask_of_action action a) ∙ none in
    let brought = ap (count_plus v.triples) (brought_of-ask_of_action action a) in
    (subst (λ d. CountsCall d v w) (sym undecided) (receipts, calls), triples ∙ brought)
told_undecided (Reclaim n) a v w none small receipts calls triples =
    let same : w.triples ≡ v.triples = omega (arith, triples, small) in
    λ i. record { receipts = receipts i; calls = calls i; triples = same i }

-- What a pass is told of an event that decided something: its triples are counted, and then its receipt is entered.
pub told_decided : (e : Event) (a : Answer) (u v w : Tally) (r : Receipt) → decided_of (ask_of_event e) a ≡ Some (r.kind, r.status) → v.receipts ≡ u.receipts → v.calls ≡ u.calls → v.triples ≡ count_plus u.triples (brought_of (ask_of_event e) a) → Enters r v w → ToldBy e a u w
told_decided (At s action) a u v w r some receipts calls triples enters =
    let decided = sym (decided_of-ask_of_action action a) ∙ some in
    let brought = ap (count_plus u.triples) (brought_of-ask_of_action action a) in (
      subst (λ d. CountsCall d u w) (sym decided)
          (r.number, subst (λ rs. AddsReceipt rs r w.receipts) receipts enters.0, enters.1 ∙ ap (λ n. count_plus n 1) calls),
      enters.2 ∙ triples ∙ brought,
    )
told_decided (Reclaim n) a u v w r some receipts calls triples enters = absurd (cc)

-- what a store without seats shows
abbrev no_seats : View
no_seats = record {
  totals = record {
    setting = record { base = []; limits = record { triples = 0; names = 0 } };
    dataset = empty_dataset;
    request = 0;
    commit = 0;
    last_writes = (state_from 0).last_writes;
  };
  seats = [];
}

-- that there is no such seat is an answer to an action of another seat
pub another_kind : (seat : ℕ) (e : Event) → is_of_another seat e ≡ true → IsOfKind e (Refused BadSeat)
another_kind seat (At s action) other = (no_seats, refl)
another_kind seat (Reclaim n) other = absurd (cc)

-- What a patch does: the text of an update is read under the base of the patch's graph, by what it means
-- (`request_by` of gs_update_text), and its operations are committed.
use Rattle.std.specs.Prelude.{ℕ, List, Option, Some, None, MatchOption}
use Rattle.std.specs.List.{slice_get}
use Rattle.gs_model.specs.declared.refusals.Refusal.TheVariants.{BadSeat, WrongPhase}
use Rattle.gs_event.specs.declared.events.Action.{Action}
use Rattle.gs_event.specs.declared.events.Action.TheVariants.{CommitPatch}
use Rattle.gs_event.specs.declared.events.Event.TheVariants.{Seat as At}
use Rattle.gs_event.specs.Phases.{Idle, Writing, Patching, Reading}
use Rattle.gs_event.specs.Views.{SeatView}
use Rattle.gs_update_text.specs.Requests.{Broken, OutOfProfile, Rejection, UpdateRequest}
use Rattle.gs_update_text.specs.Texts.{request_by}
use Rattle.gs_update.specs.Answers.{AreOperationsOf}
use Rattle.gs_feeding.specs.Bases.{base_under, name_in}
use Rattle.gs_drill.specs.Printing.{fault_text, outside_text}
use Rattle.gs_drill.specs.Feeds.{Desk, RefusesText}
use Rattle.gs_drill.specs.Commits.{Asks, GivesUpSeat}

-- the action that brings the operations of a text without a fault
abbrev pub IsPatch : UpdateRequest → Action → Type 0
IsPatch q (CommitPatch ops) = AreOperationsOf ops.items q
IsPatch q action = ⊥

-- the operations of the text are committed by one event
pub record PatchesWhole (q : UpdateRequest) (d : Desk) (s : ℕ) (text : List ℕ) (e : Desk) : Type 0 where
  pub action : Action
  pub is : IsPatch q action
  pub asks : Asks d (At s action) text e

-- by the fault of the text, if it has one: the patch of a text with a fault is given up
abbrev pub SettlesBy : Option Rejection → UpdateRequest → Desk → ℕ → List ℕ → Desk → Type 0
SettlesBy None q d s text e = PatchesWhole q d s text e
SettlesBy (Some (Broken f)) q d s text e = GivesUpSeat fault_text d s text e
SettlesBy (Some OutOfProfile) q d s text e = GivesUpSeat outside_text d s text e

-- what the text says is committed, or its patch is given up
abbrev pub SettlesPatch : UpdateRequest → Desk → ℕ → List ℕ → Desk → Type 0
SettlesPatch q d s text e = SettlesBy q.1 q d s text e

-- y is read for the patch of seat s, by what the seat is doing: one that has no patch has no text to read
abbrev pub PatchesSeat : SeatView → Desk → ℕ → List ℕ → List ℕ → Desk → Type 0
PatchesSeat Idle d s y text e = RefusesText WrongPhase d text e
PatchesSeat (Writing k r g since) d s y text e = RefusesText WrongPhase d text e
PatchesSeat (Patching t r since) d s y text e = SettlesPatch (request_by (base_under (name_in t)) r y) d s text e
PatchesSeat (Reading left) d s y text e = RefusesText WrongPhase d text e

-- y, the text of an update, is given to seat s, which prints the text
abbrev pub DoesPatch : Desk → ℕ → List ℕ → List ℕ → Desk → Type 0
DoesPatch d s y text e = MatchOption (slice_get d.shown.view.seats s) (RefusesText BadSeat d text e) (λ p. PatchesSeat p d s y text e)

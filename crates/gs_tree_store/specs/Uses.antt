-- How many nodes and records an event that was answered so takes into use, where that is told exactly.
use Rattle.std.specs.Prelude.{◌≡◌, ℕ, ◌+◌, Bool, true, false, nat_eq, Option, Some}
use Rattle.std.specs.List.{slice_get}
use Rattle.gs_model.specs.Graphs.{size_of, with_triples}
use Rattle.gs_event.specs.declared.events.UploadKind.TheVariants.{Post}
use Rattle.gs_event.specs.declared.events.Action.{Action}
use Rattle.gs_event.specs.declared.events.Action.TheVariants.{Open, OpenPatch, Stage, Commit, CommitPatch}
use Rattle.gs_event.specs.declared.events.Event.{Event}
use Rattle.gs_event.specs.declared.events.Event.TheVariants.{Seat as At, Reclaim}
use Rattle.gs_event.specs.declared.answers.Answer.{Answer}
use Rattle.gs_event.specs.declared.answers.Answer.TheVariants.{Opened, Staged, Status, Reclaimed}
use Rattle.gs_event.specs.Operations.{is_success}
use Rattle.gs_event.specs.Phases.{Writing}
use Rattle.gs_event.specs.Views.{SeatView}
use Rattle.gs_event.specs.Waste.{Shown, nodes_in}
use Rattle.gs_event.specs.Steps.{Steps}

-- as many, unless this is so
abbrev pub SameUnless : Bool → ℕ → ℕ → Type 0
SameUnless true old new = Unit {0}
SameUnless false old new = new ≡ old

-- What the commit of a POST makes of the number, by whether it came too late, whether the store would hold too much, and how many triples
-- were staged: too late, what was staged stays as waste; too much, it is given back. What it takes where it took effect is said of every step.
abbrev pub PostUses : Bool → Bool → ℕ → ℕ → ℕ → Type 0
PostUses true full staged old new = new ≡ old
PostUses false true staged old new = new + staged ≡ old
PostUses false false staged old new = Unit {0}

-- What a seat's action that was answered so makes of the number of nodes and records in use: an Open raises it by one, a Stage by the triples
-- that are new to its upload, and nothing else changes it but the commits of a POST, and of a PATCH that took effect: what that takes is said
-- of every step.
abbrev pub SeatUses : SeatView → Action → Answer → ℕ → ℕ → Type 0
SeatUses p (Open k since) (Opened r) old new = new ≡ old + 1
SeatUses p (OpenPatch t since) (Opened r) old new = new ≡ old + 1
SeatUses (Writing k r g since) (Stage ts) Staged old new = new + size_of g ≡ old + size_of (with_triples g ts.items)
SeatUses (Writing (Post t) r g since) Commit (Status status name number) old new = PostUses (nat_eq status 412) (nat_eq status 507) (size_of g) old new
SeatUses p (CommitPatch ops) (Status status name number) old new = SameUnless (is_success status) old new
SeatUses p action a old new = new ≡ old

-- of a seat that there is what its action uses, and none where there is no such seat
abbrev pub UsesAt : Option SeatView → Event → Answer → Shown → Shown → Type 0
UsesAt (Some p) (At s action) a old new = SeatUses p action a (nodes_in old) (nodes_in new)
UsesAt p e a old new = nodes_in new ≡ nodes_in old

-- what an event uses: an action as its seat is, and a Reclaim gives back what it frees
abbrev pub UsesNodes : Shown → Event → Answer → Shown → Type 0
UsesNodes old (Reclaim n) (Reclaimed freed left) new = nodes_in new + freed ≡ nodes_in old
UsesNodes old (Reclaim n) a new = nodes_in new ≡ nodes_in old
UsesNodes old (At s action) a new = UsesAt (slice_get old.view.seats s) (At s action) a old new

-- one step of a store over trees: that of every store, and the nodes and records that it uses
pub record TreeSteps (old : Shown) (e : Event) (a : Answer) (new : Shown) : Type 0 where
  pub steps : Steps old e a new
  pub uses : UsesNodes old e a new

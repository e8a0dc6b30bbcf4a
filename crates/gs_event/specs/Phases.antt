-- The phase of a seat: what it is doing.
use Rattle.std.specs.Prelude.{ℕ, Bool, true, false, nat_lt, nat_eq, cond, Option, Some, None}
use Rattle.gs_model.specs.Graphs.{Graph, empty_graph, with_triples}
use Rattle.gs_term.specs.declared.names.Target.{Target}
use Rattle.gs_event.specs.declared.events.UploadKind.{UploadKind}
use Rattle.gs_event.specs.declared.events.UploadKind.TheVariants.{Put, Post, New}
use Rattle.gs_event.specs.declared.events.Scope.{Scope}
use Rattle.gs_event.specs.declared.events.Action.{Action}
use Rattle.gs_event.specs.declared.events.Action.TheVariants.{Open, OpenPatch, Stage, Commit, CommitPatch, Delete, Head, Pin, Piece, Cancel}
use Rattle.gs_event.specs.declared.answers.Answer.{Answer}
use Rattle.gs_event.specs.declared.answers.Answer.TheVariants.{Opened, Staged, Status, Pinned, Lines, Cancelled}
use Rattle.gs_event.specs.Conditions.{Asked, asked_since}
use Rattle.gs_event.specs.Operations.{Operation, Puts, Posts, Creates, Patches, Deletes, Looks, Reads}

-- idle; writing, with the request's number and what was staged; patching, with the request's number; reading, where R
-- says what is left
pub data Phase (R : Type 0) : Type 0 where
  Idle : Phase R
  Writing : (kind : UploadKind) (request : ℕ) (graph : Graph) (since : Option ℕ) → Phase R
  Patching : (target : Target) (request : ℕ) (since : Option ℕ) → Phase R
  Reading : (left : R) → Phase R

-- whether the phase allows the action
abbrev pub allows : {R : Type 0} → Phase R → Action → Bool
allows Idle (Open k since) = true
allows Idle (OpenPatch t since) = true
allows Idle (Delete t since) = true
allows Idle (Head c) = true
allows Idle (Pin c) = true
allows (Writing k r g since) (Stage ts) = true
allows (Writing k r g since) Commit = true
allows (Writing k r g since) Cancel = true
allows (Patching t r since) (CommitPatch ops) = true
allows (Patching t r since) Cancel = true
allows (Reading left) (Piece n) = nat_lt 0 n
allows (Reading left) Cancel = true
allows p action = false

-- the phase after an answer: `pinned c` is what a read of c has left when it begins,
-- `given left n` what is left after n lines more
abbrev pub phase_after : {R : Type 0} → (Scope → R) → (R → ℕ → R) → Phase R → Action → Answer → Phase R
phase_after pinned given Idle (Open k since) (Opened r) = Writing k r empty_graph since
phase_after pinned given Idle (OpenPatch t since) (Opened r) = Patching t r since
phase_after pinned given Idle (Pin c) (Pinned s number) = cond (nat_eq s 200) (Reading (pinned c)) Idle
phase_after pinned given (Writing k r g since) (Stage ts) Staged = Writing k r (with_triples g ts.items) since
phase_after pinned given (Writing k r g since) Commit (Status s name number) = Idle
phase_after pinned given (Writing k r g since) Cancel Cancelled = Idle
phase_after pinned given (Patching t r since) (CommitPatch ops) (Status s name number) = Idle
phase_after pinned given (Patching t r since) Cancel Cancelled = Idle
phase_after pinned given (Reading left) (Piece n) (Lines b end) = cond end Idle (Reading (given left n))
phase_after pinned given (Reading left) Cancel Cancelled = Idle
phase_after pinned given p action a = p

-- the write that an upload is
abbrev pub write_of : UploadKind → ℕ → Graph → Operation
write_of (Put t) r g = Puts t g
write_of (Post t) r g = Posts t g
write_of New r g = Creates r g

-- what the abstract store is asked at this phase, by an action that was answered so
abbrev pub operation_of : {R : Type 0} → Phase R → Action → Answer → Option Asked
operation_of Idle (Delete t since) (Status s name number) = Some (asked_since since (Deletes t))
operation_of Idle (Head c) (Status s name number) = Some (asked_since None (Looks c))
operation_of Idle (Pin c) (Pinned s number) = Some (asked_since None (Reads c))
operation_of (Writing k r g since) Commit (Status s name number) = Some (asked_since since (write_of k r g))
operation_of (Patching t r since) (CommitPatch ops) (Status s name number) = Some (asked_since since (Patches t ops.items))
operation_of p action a = None

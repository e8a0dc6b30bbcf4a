-- What the progress of a request says of the seat: its phase, and what the abstract store was asked.
use Rattle.std.specs.Prelude.{ℕ, false, List, [], ◌∷◌, None}
use Rattle.gs_model.specs.Triples.{RdfTriple}
use Rattle.gs_model.specs.Graphs.{graph_of}
use Rattle.gs_event.specs.declared.updates.Op.{Op}
use Rattle.gs_event.specs.Conditions.{asked_since}
use Rattle.gs_event.specs.Phases as phase
use Rattle.gs_event.specs.Phases.{write_of}
use Rattle.gs_event.specs.Operations as operation
use Rattle.gs_talk.specs.Plans.{Plan, Uploads, Patches, Deletes, Looks, Reads}
use Rattle.gs_talk.specs.Progress.{Progress, UploadOpen, PatchOpen, Lacking, Wrote, Patched, Erased, Looked, Missing, Streaming, CancelDue, Cut, Left, Mute, Misanswered}
use Rattle.gs_talk.specs.Seats.{SeatPhase, Point}

-- an upload of the plan's kind
abbrev pub writing_phase : Plan → ℕ → List RdfTriple → SeatPhase
writing_phase (Uploads k since) r g = phase.Writing k r (graph_of g) since
writing_phase p r g = phase.Idle

-- a patch of the plan's target
abbrev pub patching_phase : Plan → ℕ → SeatPhase
patching_phase (Patches t since) r = phase.Patching t r since
patching_phase p r = phase.Idle

-- the phase of the seat by the progress of its request
abbrev pub phase_at : Plan → Progress → SeatPhase
phase_at p (UploadOpen r g) = writing_phase p r g
phase_at p (PatchOpen r) = patching_phase p r
phase_at p (Lacking c l) = phase_at p c
phase_at p (Streaming out due false) = phase.Reading tt
phase_at p (CancelDue out) = phase.Reading tt
phase_at p (Mute c) = phase_at p c
phase_at p (Misanswered c) = phase_at p c
phase_at p c = phase.Idle

-- an upload that was committed
abbrev pub written_by : Plan → ℕ → List RdfTriple → List Point
written_by (Uploads k since) r g = (r, asked_since since (write_of k r (graph_of g))) ∷ []
written_by p r g = []

-- a patch that was
abbrev pub patched_by : Plan → ℕ → List Op → List Point
patched_by (Patches t since) r ops = (r, asked_since since (operation.Patches t ops)) ∷ []
patched_by p r ops = []

-- a removal
abbrev pub erased_by : Plan → List Point
erased_by (Deletes t since) = (0, asked_since since (operation.Deletes t)) ∷ []
erased_by p = []

-- a look
abbrev pub looked_by : Plan → List Point
looked_by (Looks c) = (0, asked_since None (operation.Looks c)) ∷ []
looked_by p = []

-- a read
abbrev pub read_by : Plan → List Point
read_by (Reads c) = (0, asked_since None (operation.Reads c)) ∷ []
read_by p = []

-- what the abstract store was asked by a request that has come to its end, with the request's number
abbrev pub operations_at : Plan → Progress → List Point
operations_at p (Wrote r g s name number) = written_by p r g
operations_at p (Patched r ops s number) = patched_by p r ops
operations_at p (Erased s number) = erased_by p
operations_at p (Looked s number) = looked_by p
operations_at p (Missing s number) = read_by p
operations_at p (Streaming out due end) = read_by p
operations_at p (CancelDue out) = read_by p
operations_at p (Cut out) = read_by p
operations_at p (Left out) = read_by p
operations_at p (Mute c) = operations_at p c
operations_at p (Misanswered c) = operations_at p c
operations_at p c = []

-- The progress of one request: how far it has come.
use Rattle.std.specs.Prelude.{ℕ, Bool, List, [], ◌++◌, Option}
use Rattle.gs_model.specs.Triples.{RdfTriple}
use Rattle.gs_term.specs.declared.names.GraphName.{GraphName}
use Rattle.gs_event.specs.declared.events.Action.{Action}
use Rattle.gs_event.specs.declared.answers.Answer.{Answer}
use Rattle.gs_event.specs.declared.updates.Op.{Op}

-- What happens in a session: it did an action and got an answer, or it was refused memory of its own.
pub data Move : Type 0 where
  Did : (action : Action) (answer : Answer) → Move
  Short : Move

-- what there was no more of
pub data Lack : Type 0 where
  Memory : Lack
  Numbers : Lack

-- how far a request has come
pub data Progress : Type 0 where
  -- nothing was done
  NotStarted : Progress
  -- the Open was refused, or memory was wanting before any event
  Early : (lack : Lack) → Progress
  -- an upload is open under this number, and this was staged
  UploadOpen : (request : ℕ) (staged : List RdfTriple) → Progress
  -- a patch is open under this number
  PatchOpen : (request : ℕ) → Progress
  -- refused later, where it stood so: a Cancel is due
  Lacking : (before : Progress) (lack : Lack) → Progress
  -- it was refused, and the Cancel was answered; or a Delete was refused
  Late : (lack : Lack) → Progress
  -- cancelled, and nothing was refused
  Dropped : (request : ℕ) → Progress
  -- the Commit was answered, by this status, the name of a graph that was made up, if one was, and this commit number
  Wrote : (request : ℕ) (staged : List RdfTriple) (status : ℕ) (name : Option GraphName) (number : ℕ) → Progress
  -- the CommitPatch was answered
  Patched : (request : ℕ) (operations : List Op) (status number : ℕ) → Progress
  -- the Delete was answered
  Erased : (status number : ℕ) → Progress
  -- the Head was answered
  Looked : (status number : ℕ) → Progress
  -- the Pin was answered without a read
  Missing : (status number : ℕ) → Progress
  -- a read: this was said before its last move, this is due by it or was said too, and whether that is all
  Streaming : (out due : List ℕ) (end : Bool) → Progress
  -- a read that cannot go on: a Cancel is due
  CancelDue : (out : List ℕ) → Progress
  -- a read that ended without its rest: it was cancelled, or its last chunk could not be made
  Cut : (out : List ℕ) → Progress
  -- a read that was given up with its connection; no reply follows
  Left : (out : List ℕ) → Progress
  -- there was no memory for the reply
  Mute : Progress → Progress
  -- the door gave an answer that it should not
  Misanswered : Progress → Progress
  -- the session did what it should not
  Wrong : Progress

-- the text of a read, as far as it was said or is due
abbrev pub lines_out : Progress → List ℕ
lines_out (Streaming out due end) = out ++ due
lines_out (CancelDue out) = out
lines_out (Cut out) = out
lines_out (Left out) = out
lines_out (Misanswered c) = lines_out c
lines_out c = []

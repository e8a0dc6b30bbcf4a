-- What an event does, and what a commit does to an upload to which texts were fed.
use Rattle.std.specs.Prelude.{◌≡◌, ℕ, List, Option, Some, None}
use Rattle.gs_model.specs.Triples.{RdfTriple}
use Rattle.gs_event.specs.declared.events.Action.TheVariants.{Commit, Cancel}
use Rattle.gs_event.specs.declared.events.Event.{Event}
use Rattle.gs_event.specs.declared.events.Event.TheVariants.{Seat as At}
use Rattle.gs_event.specs.declared.answers.Answer.{Answer}
use Rattle.gs_event.specs.declared.answers.Answer.TheVariants.{Staged}
use Rattle.gs_drill.specs.Printing.{answer_text, fault_text}
use Rattle.gs_drill.specs.Feeds.{Desk, desk_with, Responds, StagesByEvent}
use Rattle.gs_feeding.specs.Receiving.{Fed, Closes}

-- an event is answered, and the answer is printed
pub record Asks (d : Desk) (event : Event) (text : List ℕ) (e : Desk) : Type 0 where
  pub answer : Answer
  pub answers : Responds d event answer e
  pub printed : text ≡ answer_text answer

-- the upload or the patch is given up, and its fault is printed in the place of the answer
pub record GivesUpSeat (fault : List ℕ) (d : Desk) (s : ℕ) (text : List ℕ) (e : Desk) : Type 0 where
  pub answer : Answer
  pub answers : Responds d (At s Cancel) answer e
  pub printed : text ≡ fault

-- where the last triples are staged the upload is committed, and else the refusal is printed
abbrev pub CommitsStaged : Answer → Desk → ℕ → List ℕ → Desk → Type 0
CommitsStaged Staged d s text e = Asks d (At s Commit) text e
CommitsStaged a d s text e = (text ≡ answer_text a) × (e ≡ d)

-- the last triples are staged, and then the upload is committed
pub record Completes (given : List RdfTriple) (d : Desk) (s : ℕ) (text : List ℕ) (e : Desk) : Type 0 where
  pub answer : Answer
  pub between : Desk
  pub staged : StagesByEvent d s given answer between
  pub concludes : CommitsStaged answer between s text e

-- the same by what the text gives as it ends
abbrev pub CommitsBy : Option (List RdfTriple) → Desk → ℕ → List ℕ → Desk → Type 0
CommitsBy None d s text e = GivesUpSeat fault_text d s text e
CommitsBy (Some given) d s text e = Completes given d s text e

-- a commit of seat s: the text that was fed ends, and the upload is committed or given up
pub record Commits (d : Desk) (s : ℕ) (text : List ℕ) (e : Desk) : Type 0 where
  pub given : Option (List RdfTriple)
  pub fed : Fed
  pub closes : Closes (d.fed s) given fed
  pub commits : CommitsBy given (desk_with d s fed) s text e

-- an event of a schedule
abbrev pub DoesEvent : Desk → Event → List ℕ → Desk → Type 0
DoesEvent d (At s Commit) text e = Commits d s text e
DoesEvent d event text e = Asks d event text e

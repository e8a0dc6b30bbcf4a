-- What a session's state stands for: the requests that are still to be answered, and what was done for the first of them.
use Rattle.std.specs.Prelude.{◌≡◌, ◌≤◌, ℕ, ◌+◌, true, false, List, [], length, None}
use Rattle.gs_model.specs.Triples.{RdfTriple}
use Rattle.gs_upload.specs.Languages.{meaning_in}
use Rattle.gs_upload.specs.Readers.{IsFedText}
use Rattle.gs_upload.specs.declared.readings.Reading.{Reading}
use Rattle.gs_upload.specs.declared.readers.TextReader.{TextReader}
use Rattle.gs_transfer.specs.Cuts.{BodyCut, Whole, with_data, body_at}
use Rattle.gs_transfer.specs.Views.{cut_of}
use Rattle.gs_transfer.specs.declared.places.Transfer.{Transfer}
use Rattle.gs_verdict.specs.declared.verdicts.Asked.{Asked}
use Rattle.gs_verdict.specs.Checks.{limit_of}
use Rattle.gs_stream.specs.Requests.{Request, by_body, requests}
use Rattle.gs_talk.specs.Plans.{opens, plan_of}
use Rattle.gs_talk.specs.Progress.{Move, Lack, Memory, Numbers, Progress}
use Rattle.gs_talk.specs.Progress as at
use Rattle.gs_talk.specs.Moves.{progress}
use Rattle.gs_talk.specs.Bodies.{document_language, text_base, refusal_at, States}
use Rattle.gs_talk.specs.Replies.{said_so_far}
use Rattle.gs_talk.specs.Logs.{Server, AllSuit, stages_in}
use Rattle.gs_session.specs.declared.phases.Want.{Want}
use Rattle.gs_session.specs.declared.phases.Want.TheVariants as want
use Rattle.gs_session.specs.declared.phases.Work.{Work}
use Rattle.gs_session.specs.declared.phases.Work.TheVariants.{Opening, Skipping, Uploading, Committing, Patching, Failing, Sending, Cutting}
use Rattle.gs_session.specs.declared.phases.Phase.{Phase}
use Rattle.gs_session.specs.declared.phases.Phase.TheVariants.{Between, Serving, Over}

-- What a phase does not store of the request that it serves: its body, by the bytes that are not used yet, and how far it has
-- come.
pub record Trail : Type 0 where
  pub cut : List ℕ → BodyCut
  pub progress : Progress

-- the requests that are still to be answered, by the bytes that are not used yet
abbrev pub coming : List ℕ → Phase → Trail → List ℕ → List Request
coming base Between t z = requests base z
coming base (Serving a k) t z = by_body (requests base) a (t.cut z)
coming base Over t z = []

-- so much of the body came, and the rest is in this transfer
abbrev pub IsCutBy : Trail → List ℕ → Transfer → Type 0
IsCutBy t done transfer = (z : List ℕ) → t.cut z ≡ with_data done (cut_of transfer z)

-- the body is whole, and is this
abbrev pub IsWholeBody : Trail → List ℕ → Type 0
IsWholeBody t body = (z : List ℕ) → t.cut z ≡ record { bytes = body; end = Whole z }

-- what there is no more of
abbrev pub lack_of : Want → Lack
lack_of want.Memory = Memory
lack_of want.Numbers = Numbers

-- numbers were wanting at the commit of a whole body that says something that is served
abbrev pub WantsAfter : List ℕ → Asked → Want → Trail → Type 0
WantsAfter base a want.Memory t = Unit {0}
WantsAfter base a want.Numbers t = (body : List ℕ) × IsWholeBody t body × ((r : ℕ) × (refusal_at base a (plan_of a) r body ≡ None))

-- an upload is open under a number; its reading has read what came of the body, and all that it gave is staged
pub record IsReading (base : List ℕ) (a : Asked) (k : Reading TextReader) (transfer : Transfer) (t : Trail) (stages : ℕ) : Type 0 where
  pub request : ℕ
  pub done : List ℕ
  pub staged : List RdfTriple
  pub stands : t.progress ≡ at.UploadOpen request staged
  pub fed : IsFedText k (meaning_in (document_language a.body) (text_base base a.graph) request) done staged
  pub cut : IsCutBy t done transfer
  pub few : stages ≤ length done

-- where the work stands
abbrev pub WorkStands : List ℕ → Asked → Work → Trail → ℕ → Type 0
WorkStands base a (Skipping transfer) t stages = (done : List ℕ) × (t.progress ≡ at.NotStarted) × (opens (plan_of a) ≡ false) × IsCutBy t done transfer
WorkStands base a Opening t stages = (t.progress ≡ at.NotStarted) × (opens (plan_of a) ≡ true) × ((z : List ℕ) → t.cut z ≡ body_at (limit_of a.method) a.framing z) × (stages ≡ 0)
WorkStands base a (Uploading k transfer) t stages = IsReading base a k transfer t stages
WorkStands base a Committing t stages = (r : ℕ) × (body : List ℕ) × (staged : List RdfTriple) × (t.progress ≡ at.UploadOpen r staged) × States base a r body staged × IsWholeBody t body
WorkStands base a (Patching r body transfer) t stages = (t.progress ≡ at.PatchOpen r) × IsCutBy t body.items transfer
WorkStands base a (Failing w) t stages = (before : Progress) × (t.progress ≡ at.Lacking before (lack_of w)) × WantsAfter base a w t
WorkStands base a Sending t stages = (out : List ℕ) × (due : List ℕ) × (body : List ℕ) × (t.progress ≡ at.Streaming out due false) × IsWholeBody t body
WorkStands base a Cutting t stages = (out : List ℕ) × (body : List ℕ) × (t.progress ≡ at.CancelDue out) × IsWholeBody t body

-- the moves and the text of the request that is served
pub record ServesRequest (s : Server) (a : Asked) (k : Work) (t : Trail) (now : List Move) (text : List ℕ) : Type 0 where
  pub suits : AllSuit s.piece (plan_of a) now
  pub came : progress a at.NotStarted now ≡ t.progress
  pub said : text ≡ said_so_far a t.progress
  pub few : (z : List ℕ) → stages_in now ≤ length (t.cut z).bytes + 1
  pub stands : WorkStands s.base a k t (stages_in now)

-- the moves and the text of the request at hand; none is between two requests, and after the last
abbrev pub KeepsTrail : Server → Phase → Trail → List Move → List ℕ → Type 0
KeepsTrail s Between t now text = (now ≡ []) × (text ≡ [])
KeepsTrail s (Serving a k) t now text = ServesRequest s a k t now text
KeepsTrail s Over t now text = (now ≡ []) × (text ≡ [])

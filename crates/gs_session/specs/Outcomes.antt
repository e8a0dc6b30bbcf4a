-- What an answer of the store leads to: the next phase, and what is said.
use Rattle.std.specs.Prelude.{◌≡◌, ◌⊎◌, ◌==◌, ℕ, Bool, cond, true, List, [], ◌++◌, Option, Some, None, Vec}
use Rattle.std.specs.declared.alloc.Global.{Global}
use Rattle.gs_model.specs.declared.refusals.Refusal.TheVariants.{NoMemory, LastNumber}
use Rattle.gs_event.specs.declared.answers.Answer.{Answer}
use Rattle.gs_event.specs.declared.answers.Answer.TheVariants.{Opened, Staged, Status, Pinned, Lines, Cancelled, Refused}
use Rattle.gs_transfer.specs.Cuts.{body_at}
use Rattle.gs_transfer.specs.Views.{cut_of}
use Rattle.gs_transfer.specs.declared.places.Transfer.{Transfer}
use Rattle.gs_upload.specs.Languages.{meaning_in}
use Rattle.gs_upload.specs.Readers.{IsFedText}
use Rattle.gs_verdict.specs.Checks.{limit_of}
use Rattle.gs_verdict.specs.declared.verdicts.Asked.{Asked}
use Rattle.gs_reply.specs.Notices.{Notice, Nothing}
use Rattle.gs_reply.specs.Replies.{reply_text, lines_head, chunk}
use Rattle.gs_talk.specs.Bodies.{document_language, text_base}
use Rattle.gs_talk.specs.Moves.{last_if}
use Rattle.gs_talk.specs.Replies.{name_notice, ends_early}
use Rattle.gs_session.specs.declared.phases.Want.{Want}
use Rattle.gs_session.specs.declared.phases.Want.TheVariants.{Memory, Numbers}
use Rattle.gs_session.specs.declared.phases.Work.{Work}
use Rattle.gs_session.specs.declared.phases.Work.TheVariants.{Uploading, Patching, Failing, Sending, Cutting}
use Rattle.gs_session.specs.declared.phases.Phase.{Phase}
use Rattle.gs_session.specs.declared.phases.Phase.TheVariants.{Between, Serving, Over}
use Rattle.gs_session.specs.declared.outcomes.Next.{Next}

-- this phase is next, and this is said
abbrev pub Says : Next → Phase → List ℕ → Type 0
Says n p text = (n.phase ≡ p) × (n.said.items ≡ text)

-- nothing is said, and the connection ends
abbrev pub Stops : Next → Type 0
Stops n = Says n Over []

-- what comes after a reply
abbrev pub after_reply : Bool → Phase
after_reply closes = cond closes Over Between

-- the reply, with a commit number where its status came from the store, or nothing for want of memory
abbrev pub RepliesBy : Next → ℕ → Notice → Option ℕ → Bool → Type 0
RepliesBy n status notice commit closes = Says n (after_reply closes) (reply_text status notice commit closes) ⊎ Stops n

-- one without a note
abbrev pub Replies : Next → ℕ → Bool → Type 0
Replies n status closes = RepliesBy n status Nothing None closes

-- one without a note besides a commit number
abbrev pub RepliesCounted : Next → ℕ → ℕ → Bool → Type 0
RepliesCounted n status number closes = RepliesBy n status Nothing (Some number) closes

-- the transfer of the request's body, at its start
abbrev pub IsFirstTransfer : Asked → Transfer → Type 0
IsFirstTransfer a t = (z : List ℕ) → cut_of t z ≡ body_at (limit_of a.method) a.framing z

-- the reading of an upload's body is begun, or there was no memory for it
abbrev pub ReceivesBody : List ℕ → Asked → ℕ → Work → Type 0
ReceivesBody base a r (Uploading k t) = IsFedText k (meaning_in (document_language a.body) (text_base base a.graph) r) [] [] × IsFirstTransfer a t
ReceivesBody base a r (Failing Memory) = Unit {0}
ReceivesBody base a r w = ⊥

-- an Open that was refused
abbrev pub AfterRefusal : Asked → Answer → Next → Type 0
AfterRefusal a (Refused NoMemory) n = Replies n 503 true
AfterRefusal a (Refused LastNumber) n = Replies n 507 (ends_early a)
AfterRefusal a answer n = Stops n

-- an Open
abbrev pub AfterOpen : List ℕ → Asked → List ℕ → Answer → Next → Type 0
AfterOpen base a greeting (Opened r) n = (w : Work) × Says n (Serving a w) greeting × ReceivesBody base a r w
AfterOpen base a greeting answer n = AfterRefusal a answer n

-- the Open of a patch
abbrev pub AfterOpenPatch : Asked → List ℕ → Answer → Next → Type 0
AfterOpenPatch a greeting (Opened r) n = (body : Vec ℕ Global) × (t : Transfer) × Says n (Serving a (Patching r body t)) greeting × (body.items ≡ []) × IsFirstTransfer a t
AfterOpenPatch a greeting answer n = AfterRefusal a answer n

-- a Delete
abbrev pub AfterDelete : Asked → Answer → Next → Type 0
AfterDelete a (Status s name number) n = RepliesCounted n s number a.closes
AfterDelete a (Refused LastNumber) n = Replies n 507 a.closes
AfterDelete a answer n = Stops n

-- the head of a read, or nothing for want of memory
abbrev pub RepliesFound : Next → Asked → ℕ → Type 0
RepliesFound n a number = Says n (after_reply a.closes) (lines_head a.reply number a.closes) ⊎ Stops n

-- a Head
abbrev pub AfterLook : Asked → Answer → Next → Type 0
AfterLook a (Status s name number) n = cond (s == 200) (RepliesFound n a number) (RepliesCounted n s number a.closes)
AfterLook a answer n = Stops n

-- a Pin that reads
abbrev pub BeginsRead : Next → Asked → ℕ → Type 0
BeginsRead n a number = Says n (Serving a Sending) (lines_head a.reply number a.closes) ⊎ Says n (Serving a Cutting) []

-- a Pin
abbrev pub AfterPin : Asked → Answer → Next → Type 0
AfterPin a (Pinned s number) n = cond (s == 200) (BeginsRead n a number) (RepliesCounted n s number a.closes)
AfterPin a answer n = Stops n

-- what comes after a piece
abbrev pub after_piece : Asked → Bool → Phase
after_piece a end = cond end (after_reply a.closes) (Serving a Sending)

-- and where there was no memory for its chunk
abbrev pub without_piece : Asked → Bool → Phase
without_piece a end = cond end Over (Serving a Cutting)

-- a Piece; what was due is said before it
abbrev pub AfterPiece : Asked → List ℕ → Answer → Next → Type 0
AfterPiece a due (Lines b end) n = Says n (after_piece a end) (due ++ (chunk b.items ++ last_if end)) ⊎ Says n (without_piece a end) due
AfterPiece a due (Refused NoMemory) n = Says n (Serving a Cutting) due
AfterPiece a due answer n = Says n Over due

-- a Stage, after which the work goes on
abbrev pub AfterStage : Asked → Work → Answer → Next → Type 0
AfterStage a w Staged n = Says n (Serving a w) []
AfterStage a w (Refused NoMemory) n = Says n (Serving a (Failing Memory)) []
AfterStage a w answer n = Stops n

-- a Commit
abbrev pub AfterCommit : Asked → Answer → Next → Type 0
AfterCommit a (Status s name number) n = RepliesBy n s (name_notice name) (Some number) a.closes
AfterCommit a (Refused NoMemory) n = Says n (Serving a (Failing Memory)) []
AfterCommit a (Refused LastNumber) n = Says n (Serving a (Failing Numbers)) []
AfterCommit a answer n = Stops n

-- a CommitPatch
abbrev pub AfterCommitPatch : Asked → Answer → Next → Type 0
AfterCommitPatch a (Status s name number) n = RepliesCounted n s number a.closes
AfterCommitPatch a (Refused NoMemory) n = Says n (Serving a (Failing Memory)) []
AfterCommitPatch a (Refused LastNumber) n = Says n (Serving a (Failing Numbers)) []
AfterCommitPatch a answer n = Stops n

-- a Cancel, after which the reply says why
abbrev pub AfterCancel : ℕ → Bool → Answer → Next → Type 0
AfterCancel status closes Cancelled n = Replies n status closes
AfterCancel status closes answer n = Stops n

-- the status of a reply that says so
abbrev pub want_status : Want → ℕ
want_status Memory = 503
want_status Numbers = 507

-- and whether the connection ends after it
abbrev pub want_closes : Asked → Want → Bool
want_closes a Memory = true
want_closes a Numbers = a.closes

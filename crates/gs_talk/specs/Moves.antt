-- Where each move leads.
use Rattle.std.specs.Prelude.{◌==◌, ℕ, Bool, true, false, cond, List, [], ◌∷◌, ◌++◌}
use Rattle.gs_model.specs.Triples.{RdfTriple}
use Rattle.gs_model.specs.declared.refusals.Refusal.TheVariants.{NoMemory, LastNumber}
use Rattle.gs_event.specs.declared.events.Action.TheVariants.{Open, OpenPatch, Stage, Commit, CommitPatch, Delete, Head, Pin, Piece, Cancel}
use Rattle.gs_event.specs.declared.answers.Answer.{Answer}
use Rattle.gs_event.specs.declared.answers.Answer.TheVariants.{Opened, Staged, Status, Pinned, Lines, Cancelled, Refused}
use Rattle.gs_event.specs.declared.updates.Op.{Op}
use Rattle.gs_verdict.specs.declared.verdicts.Asked.{Asked}
use Rattle.gs_reply.specs.Replies.{lines_head, chunk, last_chunk}
use Rattle.gs_talk.specs.Plans.{Plan, Uploads, Patches, Deletes, Looks, Reads, plan_of}
use Rattle.gs_talk.specs.Progress.{Move, Progress, Did, Short, Memory, Numbers, NotStarted, Early, UploadOpen, PatchOpen, Lacking, Late, Dropped, Wrote, Patched, Erased, Looked, Missing, Streaming, CancelDue, Cut, Left, Mute, Misanswered, Wrong}

-- after an Open
abbrev pub at_open : Answer → Progress
at_open (Opened r) = UploadOpen r []
at_open (Refused NoMemory) = Early Memory
at_open (Refused LastNumber) = Early Numbers
at_open other = Misanswered NotStarted

-- after the Open of a patch
abbrev pub at_open_patch : Answer → Progress
at_open_patch (Opened r) = PatchOpen r
at_open_patch (Refused NoMemory) = Early Memory
at_open_patch (Refused LastNumber) = Early Numbers
at_open_patch other = Misanswered NotStarted

-- after a Delete
abbrev pub at_delete : Answer → Progress
at_delete (Status s name number) = Erased s number
at_delete (Refused LastNumber) = Late Numbers
at_delete other = Misanswered NotStarted

-- after a Head
abbrev pub at_head : Answer → Progress
at_head (Status s name number) = Looked s number
at_head other = Misanswered NotStarted

-- after a Pin: the head of the reply is due, where it reads
abbrev pub at_pin : Asked → Answer → Progress
at_pin a (Pinned s number) = cond (s == 200) (Streaming [] (lines_head a.reply number a.closes) false) (Missing s number)
at_pin a other = Misanswered NotStarted

-- after a Stage, which is of one triple at least
abbrev pub at_stage : ℕ → List RdfTriple → List RdfTriple → Answer → Progress
at_stage r g [] answer = Wrong
at_stage r g (t ∷ ts) Staged = UploadOpen r (g ++ t ∷ ts)
at_stage r g (t ∷ ts) (Refused NoMemory) = Lacking (UploadOpen r g) Memory
at_stage r g (t ∷ ts) other = Misanswered (UploadOpen r g)

-- after a Commit
abbrev pub progress_at_commit : ℕ → List RdfTriple → Answer → Progress
progress_at_commit r g (Status s name number) = Wrote r g s name number
progress_at_commit r g (Refused NoMemory) = Lacking (UploadOpen r g) Memory
progress_at_commit r g (Refused LastNumber) = Lacking (UploadOpen r g) Numbers
progress_at_commit r g other = Misanswered (UploadOpen r g)

-- after the commit of a patch
abbrev pub at_commit_patch : ℕ → List Op → Answer → Progress
at_commit_patch r ops (Status s name number) = Patched r ops s number
at_commit_patch r ops (Refused NoMemory) = Lacking (PatchOpen r) Memory
at_commit_patch r ops (Refused LastNumber) = Lacking (PatchOpen r) Numbers
at_commit_patch r ops other = Misanswered (PatchOpen r)

-- the last chunk stands after the last piece
abbrev pub last_if : Bool → List ℕ
last_if end = cond end last_chunk []

-- after a Piece
abbrev pub at_piece : List ℕ → List ℕ → Answer → Progress
at_piece out due (Lines b end) = Streaming (out ++ due) (chunk b.items ++ last_if end) end
at_piece out due (Refused NoMemory) = CancelDue (out ++ due)
at_piece out due other = Misanswered (Streaming out due false)

-- a Cancel where a request has come to the first, which takes it to the second
abbrev pub at_cancel : Progress → Progress → Answer → Progress
at_cancel c d Cancelled = d
at_cancel c d other = Misanswered c

-- the first move, by the plan
abbrev pub first : Asked → Plan → Move → Progress
first a (Uploads k since) (Did (Open j given) answer) = at_open answer
first a (Patches t since) (Did (OpenPatch u given) answer) = at_open_patch answer
first a (Deletes t since) (Did (Delete u given) answer) = at_delete answer
first a (Looks t) (Did (Head u) answer) = at_head answer
first a (Reads t) (Did (Pin u) answer) = at_pin a answer
first a p Short = Early Memory
first a p other = Wrong

-- in an upload
abbrev pub writing : ℕ → List RdfTriple → Move → Progress
writing r g (Did (Stage ts) answer) = at_stage r g ts.items answer
writing r g (Did Commit answer) = progress_at_commit r g answer
writing r g (Did Cancel answer) = at_cancel (UploadOpen r g) (Dropped r) answer
writing r g Short = Lacking (UploadOpen r g) Memory
writing r g other = Wrong

-- in a patch
abbrev pub patching : ℕ → Move → Progress
patching r (Did (CommitPatch ops) answer) = at_commit_patch r ops.items answer
patching r (Did Cancel answer) = at_cancel (PatchOpen r) (Dropped r) answer
patching r Short = Lacking (PatchOpen r) Memory
patching r other = Wrong

-- in a read
abbrev pub held : List ℕ → List ℕ → Bool → Move → Progress
held out due false (Did (Piece n) answer) = at_piece out due answer
held out due false (Did Cancel answer) = at_cancel (Streaming out due false) (Left (out ++ due)) answer
held out due false Short = CancelDue out
held out due true Short = Cut out
held out due end other = Wrong

-- a Cancel alone may come
abbrev pub cancelling : Progress → Progress → Move → Progress
cancelling c d (Did Cancel answer) = at_cancel c d answer
cancelling c d other = Wrong

-- nothing may come, but memory for the reply may lack
abbrev pub ready : Progress → Move → Progress
ready c Short = Mute c
ready c other = Wrong

-- after one move more
abbrev pub progress_after : Asked → Progress → Move → Progress
progress_after a NotStarted m = first a (plan_of a) m
progress_after a (UploadOpen r g) m = writing r g m
progress_after a (PatchOpen r) m = patching r m
progress_after a (Lacking c l) m = cancelling (Lacking c l) (Late l) m
progress_after a (Streaming out due end) m = held out due end m
progress_after a (CancelDue out) m = cancelling (CancelDue out) (Cut out) m
progress_after a (Early l) m = ready (Early l) m
progress_after a (Late l) m = ready (Late l) m
progress_after a (Dropped r) m = ready (Dropped r) m
progress_after a (Wrote r g s name number) m = ready (Wrote r g s name number) m
progress_after a (Patched r ops s number) m = ready (Patched r ops s number) m
progress_after a (Erased s number) m = ready (Erased s number) m
progress_after a (Looked s number) m = ready (Looked s number) m
progress_after a (Missing s number) m = ready (Missing s number) m
progress_after a (Cut out) m = Wrong
progress_after a (Left out) m = Wrong
progress_after a (Mute c) m = Wrong
progress_after a (Misanswered c) m = Wrong
progress_after a Wrong m = Wrong

-- after these moves
abbrev pub progress : Asked → Progress → List Move → Progress
progress a c [] = c
progress a c (m ∷ ms) = progress a (progress_after a c m) ms

-- Where an upload or a patch is open, the request asks for it, and it may be cancelled.
use Rattle.std.proofs.Common.{◌≡◌, ◌==◌, ℕ, Bool, true, false, cond, List, [], ◌∷◌, Option, refl, ap, subst}
use Rattle.gs_model.specs.Triples.{RdfTriple}
use Rattle.gs_model.specs.declared.refusals.Refusal.TheVariants as why
use Rattle.gs_event.specs.declared.events.Action.TheVariants as act
use Rattle.gs_event.specs.declared.events.UploadKind.{UploadKind}
use Rattle.gs_event.specs.declared.answers.Answer.{Answer}
use Rattle.gs_event.specs.declared.answers.Answer.TheVariants.{Opened, Staged, Status, Pinned, Lines, Cancelled, Refused}
use Rattle.gs_event.specs.declared.updates.Op.{Op}
use Rattle.gs_event.specs.Phases.{allows}
use Rattle.gs_term.specs.declared.names.Target.{Target}
use Rattle.gs_verdict.specs.declared.verdicts.Asked.{Asked}
use Rattle.gs_reply.specs.Replies.{lines_head}
use Rattle.gs_talk.specs.Plans.{Plan, Uploads, Patches, Deletes, Looks, Reads, NoPlan, plan_of}
use Rattle.gs_talk.specs.Progress.{Move, Did, Short, Progress, NotStarted, Early, UploadOpen, PatchOpen, Lacking, Late, Dropped, Wrote, Patched, Erased, Looked, Missing, Streaming, CancelDue, Cut as CutShort}
use Rattle.gs_talk.specs.Moves.{first, writing, patching, held, cancelling, ready, progress_after, progress, at_delete, at_head, at_pin, at_stage, progress_at_commit, at_commit_patch, at_piece}
use Rattle.gs_talk.specs.Following.{phase_at, writing_phase, patching_phase}

-- where an upload or a patch is open, the plan is one, and where a Cancel of it is due, the seat may be cancelled
abbrev pub IsPlanned : Plan → Progress → Type 0
IsPlanned p (UploadOpen r g) = (k : UploadKind) × (since : Option ℕ) × (p ≡ Uploads k since)
IsPlanned p (PatchOpen r) = (t : Target) × (since : Option ℕ) × (p ≡ Patches t since)
IsPlanned p (Lacking c l) = allows (phase_at p c) act.Cancel ≡ true
IsPlanned p c = Unit {0}

delete_so : (p : Plan) (answer : Answer) → IsPlanned p (at_delete answer)
delete_so p (Status s name number) = tt
delete_so p (Refused why.LastNumber) = tt
delete_so p other = tt

head_so : (p : Plan) (answer : Answer) → IsPlanned p (at_head answer)
head_so p (Status s name number) = tt
head_so p other = tt

begins_so : (p : Plan) (out : List ℕ) (s number : ℕ) (v : Bool) → IsPlanned p (cond v (Streaming [] out false) (Missing s number))
begins_so p out s number true = tt
begins_so p out s number false = tt

pin_so : (p : Plan) (a : Asked) (answer : Answer) → IsPlanned p (at_pin a answer)
pin_so p a (Pinned s number) = begins_so p (lines_head a.reply number a.closes) s number (s == 200)
pin_so p a other = tt

first_so : (a : Asked) (p : Plan) (m : Move) → IsPlanned p (first a p m)
first_so a (Uploads k since) (Did (act.Open j given) (Opened r)) = (k, since, refl)
first_so a (Uploads k since) (Did (act.Open j given) (Refused why.NoMemory)) = tt
first_so a (Uploads k since) (Did (act.Open j given) (Refused why.LastNumber)) = tt
first_so a (Uploads k since) (Did (act.Open j given) other) = tt
first_so a (Patches t since) (Did (act.OpenPatch u given) (Opened r)) = (t, since, refl)
first_so a (Patches t since) (Did (act.OpenPatch u given) (Refused why.NoMemory)) = tt
first_so a (Patches t since) (Did (act.OpenPatch u given) (Refused why.LastNumber)) = tt
first_so a (Patches t since) (Did (act.OpenPatch u given) other) = tt
first_so a (Deletes t since) (Did (act.Delete u given) answer) = delete_so (Deletes t since) answer
first_so a (Looks t) (Did (act.Head u) answer) = head_so (Looks t) answer
first_so a (Reads t) (Did (act.Pin u) answer) = pin_so (Reads t) a answer
first_so a NoPlan Short = tt
first_so a NoPlan (Did action answer) = tt
first_so a p other = tt

pub drops_upload : (p : Plan) (r : ℕ) (g : List RdfTriple) → IsPlanned p (UploadOpen r g) → allows (writing_phase p r g) act.Cancel ≡ true
drops_upload p r g k = ap (λ (q : Plan). allows (writing_phase q r g) act.Cancel) k.2

pub drops_patch : (p : Plan) (r : ℕ) → IsPlanned p (PatchOpen r) → allows (patching_phase p r) act.Cancel ≡ true
drops_patch p r k = ap (λ (q : Plan). allows (patching_phase q r) act.Cancel) k.2

stage_so : (p : Plan) (r : ℕ) (g ts : List RdfTriple) (answer : Answer) → IsPlanned p (UploadOpen r g) → IsPlanned p (at_stage r g ts answer)
stage_so p r g [] answer k = tt
stage_so p r g (t ∷ ts) Staged k = k
stage_so p r g (t ∷ ts) (Refused why.NoMemory) k = drops_upload p r g k
stage_so p r g (t ∷ ts) other k = tt

commit_so : (p : Plan) (r : ℕ) (g : List RdfTriple) (answer : Answer) → IsPlanned p (UploadOpen r g) → IsPlanned p (progress_at_commit r g answer)
commit_so p r g (Status s name number) k = tt
commit_so p r g (Refused why.NoMemory) k = drops_upload p r g k
commit_so p r g (Refused why.LastNumber) k = drops_upload p r g k
commit_so p r g other k = tt

cancelling_so : (p : Plan) (c d : Progress) (m : Move) → IsPlanned p d → IsPlanned p (cancelling c d m)
cancelling_so p c d (Did act.Cancel Cancelled) k = k
cancelling_so p c d (Did act.Cancel other) k = tt
cancelling_so p c d other k = tt

writing_so : (p : Plan) (r : ℕ) (g : List RdfTriple) (m : Move) → IsPlanned p (UploadOpen r g) → IsPlanned p (writing r g m)
writing_so p r g (Did (act.Stage ts) answer) k = stage_so p r g ts.items answer k
writing_so p r g (Did act.Commit answer) k = commit_so p r g answer k
writing_so p r g (Did act.Cancel Cancelled) k = tt
writing_so p r g (Did act.Cancel other) k = tt
writing_so p r g Short k = drops_upload p r g k
writing_so p r g other k = tt

order_so : (p : Plan) (r : ℕ) (ops : List Op) (answer : Answer) → IsPlanned p (PatchOpen r) → IsPlanned p (at_commit_patch r ops answer)
order_so p r ops (Status s name number) k = tt
order_so p r ops (Refused why.NoMemory) k = drops_patch p r k
order_so p r ops (Refused why.LastNumber) k = drops_patch p r k
order_so p r ops other k = tt

patching_so : (p : Plan) (r : ℕ) (m : Move) → IsPlanned p (PatchOpen r) → IsPlanned p (patching r m)
patching_so p r (Did (act.CommitPatch ops) answer) k = order_so p r ops.items answer k
patching_so p r (Did act.Cancel Cancelled) k = tt
patching_so p r (Did act.Cancel other) k = tt
patching_so p r Short k = drops_patch p r k
patching_so p r other k = tt

piece_so : (p : Plan) (out due : List ℕ) (answer : Answer) → IsPlanned p (at_piece out due answer)
piece_so p out due (Lines b end) = tt
piece_so p out due (Refused why.NoMemory) = tt
piece_so p out due other = tt

held_so : (p : Plan) (out due : List ℕ) (end : Bool) (m : Move) → IsPlanned p (held out due end m)
held_so p out due false (Did (act.Piece n) answer) = piece_so p out due answer
held_so p out due false (Did act.Cancel Cancelled) = tt
held_so p out due false (Did act.Cancel other) = tt
held_so p out due true Short = tt
held_so p out due true (Did action answer) = tt
held_so p out due false other = tt

ready_so : (p : Plan) (c : Progress) (m : Move) → IsPlanned p (ready c m)
ready_so p c Short = tt
ready_so p c other = tt

pub after_so : (a : Asked) (c : Progress) (m : Move) → IsPlanned (plan_of a) c → IsPlanned (plan_of a) (progress_after a c m)
after_so a NotStarted m k = first_so a (plan_of a) m
after_so a (UploadOpen r g) m k = writing_so (plan_of a) r g m k
after_so a (PatchOpen r) m k = patching_so (plan_of a) r m k
after_so a (Lacking c l) m k = cancelling_so (plan_of a) (Lacking c l) (Late l) m tt
after_so a (Streaming out due end) m k = held_so (plan_of a) out due end m
after_so a (CancelDue out) m k = cancelling_so (plan_of a) (CancelDue out) (CutShort out) m tt
after_so a (Early l) m k = ready_so (plan_of a) (Early l) m
after_so a (Late l) m k = ready_so (plan_of a) (Late l) m
after_so a (Dropped r) m k = ready_so (plan_of a) (Dropped r) m
after_so a (Wrote r g s name number) m k = ready_so (plan_of a) (Wrote r g s name number) m
after_so a (Patched r ops s number) m k = ready_so (plan_of a) (Patched r ops s number) m
after_so a (Erased s number) m k = ready_so (plan_of a) (Erased s number) m
after_so a (Looked s number) m k = ready_so (plan_of a) (Looked s number) m
after_so a (Missing s number) m k = ready_so (plan_of a) (Missing s number) m
after_so a other m k = tt

progress_so : (a : Asked) (c : Progress) (ms : List Move) → IsPlanned (plan_of a) c → IsPlanned (plan_of a) (progress a c ms)
progress_so a c [] k = k
progress_so a c (m ∷ ms) k = progress_so a (progress_after a c m) ms (after_so a c m k)

-- moves that open a patch are those of a plan that does
pub patch_plan : (a : Asked) (ms : List Move) (r : ℕ) → progress a NotStarted ms ≡ PatchOpen r → (t : Target) × (since : Option ℕ) × (plan_of a ≡ Patches t since)
patch_plan a ms r is = subst (λ (c : Progress). IsPlanned (plan_of a) c) is (progress_so a NotStarted ms tt)

-- and those that open an upload are those of one that uploads
pub upload_plan : (a : Asked) (ms : List Move) (r : ℕ) (g : List RdfTriple) → progress a NotStarted ms ≡ UploadOpen r g → (k : UploadKind) × (since : Option ℕ) × (plan_of a ≡ Uploads k since)
upload_plan a ms r g is = subst (λ (c : Progress). IsPlanned (plan_of a) c) is (progress_so a NotStarted ms tt)

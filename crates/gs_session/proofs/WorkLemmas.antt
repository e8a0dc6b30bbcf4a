-- The steps of a request of which an event alone is due.
use Rattle.std.proofs.Common.{◌≡◌, ℕ, Bool, true, List, [], ◌++◌, refl, sym, ap, subst, ◌∙◌, append-nil}
use Rattle.gs_event.specs.declared.events.Event.{Event}
use Rattle.gs_event.specs.declared.events.Action.TheVariants as act
use Rattle.gs_event.specs.declared.answers.Answer.{Answer}
use Rattle.gs_verdict.specs.declared.verdicts.Asked.{Asked}
use Rattle.gs_talk.specs.Plans.{Plan}
use Rattle.gs_talk.specs.Bodies.{fault_status, refusal_at}
use Rattle.gs_session.specs.declared.setups.Setup.{Setup}
use Rattle.gs_session.specs.declared.phases.Phase.{Phase}
use Rattle.gs_session.specs.declared.phases.Phase.TheVariants.{Serving}
use Rattle.gs_session.specs.declared.phases.Work.TheVariants.{Committing, Failing, Sending, Cutting}
use Rattle.gs_session.specs.declared.phases.Want.{Want}
use Rattle.gs_session.specs.declared.phases.Want.TheVariants as want
use Rattle.gs_session.specs.declared.outcomes.Next.{Next}
use Rattle.gs_session.specs.declared.steps.Step.{Step}
use Rattle.gs_session.specs.declared.steps.Step.TheVariants.{Silent, Made, Wait}
use Rattle.gs_session.specs.Trails.{WantsAfter}
use Rattle.gs_session.specs.Outcomes.{Stops, AfterCommit, AfterPiece, AfterCancel, want_status, want_closes}
use Rattle.gs_session.specs.Leads.{LeadsTo}
use Rattle.gs_session.specs.Steps.{Does, Rests, DoesStep, server_of}
use Rattle.gs_session.proofs.ReadLemmas.{piece_leads}
use Rattle.gs_session.proofs.CommitLemmas.{commit_leads, memory_leads, numbers_leads, cut_leads}
use Rattle.gs_session.proofs.PlanLemmas.{upload_plan}
use Rattle.gs_session.proofs.UploadStepLemmas.{made_by}

-- A Commit is due, and made.
pub commits : {D : Type 0} (gives : D → Event → Answer → D → Type 0) (setup : Setup) (e : Bool) (a : Asked) (b : List ℕ) (old new : D) (n : Next) → Does gives setup.seat old act.Commit new (λ answer. AfterCommit a answer n)
    → DoesStep gives setup e (Serving a Committing) b old (Made n) b new
commits gives setup e a b old new n d =
    made_by gives setup e (Serving a Committing) b b old new act.Commit n (λ answer. AfterCommit a answer n)
    (λ answer o x h said l.
    let g = l.keeps.stands in
    let is = upload_plan a l.now g.0 g.2 (l.keeps.came ∙ g.3) in
    commit_leads a Committing g.0 g.2 answer b x h said g.1 l g.3 (λ y. g.5 (b ++ y)) g.4
    (ap (λ (p : Plan). refusal_at setup.site a p g.0 g.1) is.2 ∙ ap fault_status g.4.0) n o) d

-- There was no more of something: what is open is cancelled.
pub fails : {D : Type 0} (gives : D → Event → Answer → D → Type 0) (setup : Setup) (e : Bool) (a : Asked) (w : Want) (b : List ℕ) (old new : D) (n : Next)
    → Does gives setup.seat old act.Cancel new (λ answer. AfterCancel (want_status w) (want_closes a w) answer n) → DoesStep gives setup e (Serving a (Failing w)) b old (Made n) b new
fails gives setup e a want.Memory b old new n d =
    made_by gives setup e (Serving a (Failing want.Memory)) b b old new act.Cancel n (λ answer. AfterCancel 503 true answer n)
    (λ answer o x h said l. memory_leads a l.keeps.stands.0 answer b x h said l l.keeps.stands.1 n o) d
fails gives setup e a want.Numbers b old new n d =
    made_by gives setup e (Serving a (Failing want.Numbers)) b b old new act.Cancel n (λ answer. AfterCancel 507 a.closes answer n)
    (λ answer o x h said l.
    let wants : WantsAfter setup.site a want.Numbers l.trail = l.keeps.stands.2 in
    numbers_leads a l.keeps.stands.0 wants.2.0 answer b x h said wants.0 l l.keeps.stands.1 (λ y. wants.1 (b ++ y)) wants.2.1 n o) d

-- The next piece of a read is due, and nothing else.
pub sends : {D : Type 0} (gives : D → Event → Answer → D → Type 0) (setup : Setup) (e : Bool) (a : Asked) (due b : List ℕ) (old new : D) (n : Next) → due ≡ []
    → Does gives setup.seat old (act.Piece setup.piece) new (λ answer. AfterPiece a due answer n) → DoesStep gives setup e (Serving a Sending) b old (Made n) b new
sends gives setup e a due b old new n none d =
    made_by gives setup e (Serving a Sending) b b old new (act.Piece setup.piece) n (λ answer. AfterPiece a due answer n)
    (λ answer o x h said l.
    piece_leads a answer b x h said due (subst (λ z. LeadsTo (server_of setup) e (Serving a Sending) b x h z) (sym (append-nil said) ∙ ap (λ z. said ++ z) (sym none)) l) n o) d

-- A read that cannot go on is cancelled.
pub cuts_off : {D : Type 0} (gives : D → Event → Answer → D → Type 0) (setup : Setup) (e : Bool) (a : Asked) (b : List ℕ) (old new : D) (n : Next)
    → Does gives setup.seat old act.Cancel new (λ answer. Stops n) → DoesStep gives setup e (Serving a Cutting) b old (Made n) b new
cuts_off gives setup e a b old new n d =
    made_by gives setup e (Serving a Cutting) b b old new act.Cancel n (λ answer. Stops n) (λ answer o x h said l. cut_leads a answer b x h said l n o) d

-- A step without an event leaves the door as it is.
pub still : {D : Type 0} (gives : D → Event → Answer → D → Type 0) (setup : Setup) (e : Bool) (p : Phase) (b c : List ℕ) (d : D) (step : Step) → Rests setup e p b step c → DoesStep gives setup e p b d step c d
still gives setup e p b c d (Silent n) r = (refl, r)
still gives setup e p b c d (Wait q) r = (refl, r)
still gives setup e p b c d (Made n) r = absurd r

-- At any moment, what was written is a front of what is to be said.
use Rattle.std.proofs.Common.{inl, inr, ℕ, Bool, List, [], ◌++◌, refl, sym, subst, append-nil}
use Rattle.gs_verdict.specs.declared.verdicts.Asked.{Asked}
use Rattle.gs_talk.specs.Progress.{Progress}
use Rattle.gs_talk.specs.Seats.{Deeds}
use Rattle.gs_talk.specs.Logs.{Server, IsRight}
use Rattle.gs_talk.specs.Closings.{SaysFront}
use Rattle.gs_session.specs.declared.phases.Phase.{Phase}
use Rattle.gs_session.specs.declared.phases.Phase.TheVariants.{Between, Serving, Over}
use Rattle.gs_session.specs.declared.phases.Work.{Work}
use Rattle.gs_session.specs.declared.phases.Work.TheVariants as work
use Rattle.gs_session.specs.Trails.{Trail, WorkStands}
use Rattle.gs_session.specs.Leads.{LeadsTo}
use Rattle.gs_session.specs.Laws.{SaysFrontAlways}
use Rattle.gs_session.specs.Steps.{server_of}
use Rattle.gs_session.proofs.RestLemmas.{may_none}
use Rattle.gs_session.proofs.FrontLemmas.{Owned, none_front, serving_front}

-- how far the request has come may stand in a log
abbrev IsSound : List ℕ → Asked → Trail → Progress → Type 0
IsSound base a t c = IsRight c × Owned base a t c

-- it does at each stand of the work
stands_sound : (base : List ℕ) (a : Asked) (k : Work) (t : Trail) (stages : ℕ) → WorkStands base a k t stages → IsSound base a t t.progress
stands_sound base a work.Opening t stages j = subst (λ (c : Progress). IsSound base a t c) (sym j.0) (tt, inl (λ o. tt))
stands_sound base a (work.Skipping transfer) t stages j = subst (λ (c : Progress). IsSound base a t c) (sym j.1) (tt, inl (λ o. tt))
stands_sound base a (work.Uploading reading transfer) t stages j = subst (λ (c : Progress). IsSound base a t c) (sym j.stands) (tt, inl (λ o. tt))
stands_sound base a work.Committing t stages j = subst (λ (c : Progress). IsSound base a t c) (sym j.3) (tt, inl (λ o. tt))
stands_sound base a (work.Patching r body transfer) t stages j = subst (λ (c : Progress). IsSound base a t c) (sym j.0) (tt, inl (λ o. tt))
stands_sound base a (work.Failing want) t stages j = subst (λ (c : Progress). IsSound base a t c) (sym j.1) (tt, inl (λ o. tt))
stands_sound base a work.Sending t stages j = subst (λ (c : Progress). IsSound base a t c) (sym j.3) (tt, inr (j.2, j.4, tt))
stands_sound base a work.Cutting t stages j = subst (λ (c : Progress). IsSound base a t c) (sym j.2) (tt, inr (j.1, j.3, tt))

no_more : (s : Server) (e : Bool) (x : List ℕ) (h : Deeds) (w : List ℕ) → SaysFront s e (x ++ []) (h ++ []) w → SaysFront s e x h w
no_more s e x h w f =
    subst (λ (d : Deeds). SaysFront s e x d w) (append-nil h) (subst (λ (z : List ℕ). SaysFront s e z (h ++ []) w) (append-nil x) f)

-- of a phase
leads_front : (s : Server) (e : Bool) (p : Phase) (b x : List ℕ) (h : Deeds) (w due : List ℕ) → LeadsTo s e p b x h (w ++ due) → SaysFront s e (x ++ []) (h ++ []) w
leads_front s e Between b x h w due l = none_front Between b x h w due l l.keeps.0 l.keeps.1 [] (may_none e)
leads_front s e Over b x h w due l = none_front Over b x h w due l l.keeps.0 l.keeps.1 [] (may_none e)
leads_front s e (Serving a k) b x h w due l = go (stands_sound s.base a k l.trail _ l.keeps.stands) where
  go : IsSound s.base a l.trail l.trail.progress → SaysFront s e (x ++ []) (h ++ []) w
  go g = serving_front a k b x h w due l [] tt refl g.0 refl g.1 [] (may_none e)

-- of a session
pub says_front : SaysFrontAlways
says_front s x h w l = no_more (server_of s.setup) s.ended x h w (leads_front (server_of s.setup) s.ended s.phase s.input x h w s.due.items l)

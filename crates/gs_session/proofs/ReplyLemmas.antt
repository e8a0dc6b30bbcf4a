-- A request is answered by a reply, or by nothing for want of memory; or the door's answer ends the connection.
use Rattle.std.proofs.Common.{◌≡◌, ◌⊎◌, inl, inr, ◌+◌, ◌≤◌, arith, ℕ, Bool, true, false, not, List, [], ◌∷◌, ◌++◌, length, refl, sym, ap, subst, ◌∙◌, append-nil}
use Rattle.std.proofs.lemmas.List.Concat.{flat_map-append}
use Rattle.gs_transfer.specs.Cuts.{BodyCut}
use Rattle.gs_transfer.specs.Cuts as cut
use Rattle.gs_verdict.specs.declared.verdicts.Asked.{Asked}
use Rattle.gs_talk.specs.Plans.{Plan, plan_of}
use Rattle.gs_talk.specs.Progress.{Move, Short, Progress, Mute, Misanswered, lines_out}
use Rattle.gs_talk.specs.Moves.{progress_after, progress}
use Rattle.gs_talk.specs.Seats.{Deeds}
use Rattle.gs_talk.specs.Replies.{BodyState, Whole, IsOwn, Settles, said_so_far, greeting}
use Rattle.gs_talk.specs.Logs.{Server, AllSuit, deed_of, deeds_of, stages_in}
use Rattle.gs_session.specs.declared.phases.Phase.{Phase}
use Rattle.gs_session.specs.declared.phases.Phase.TheVariants.{Serving, Over}
use Rattle.gs_session.specs.declared.phases.Work.{Work}
use Rattle.gs_session.specs.declared.outcomes.Next.{Next}
use Rattle.gs_session.specs.Leads.{LeadsTo}
use Rattle.gs_session.specs.Outcomes.{Says, Stops, after_reply}
use Rattle.gs_session.proofs.MoveLemmas.{progress-append, suit-append, stages-append, ends, answers}

-- a history that leads to a phase and a text leads to the next phase that says them
pub to_next : {s : Server} {e : Bool} (n : Next) (p : Phase) (u b x : List ℕ) (h : Deeds) (said : List ℕ) → Says n p u → LeadsTo s e p b x h (said ++ u) → LeadsTo s e n.phase b x h (said ++ n.said.items)
to_next {s} {e} n p u b x h said k l =
    subst (λ (q : Phase). LeadsTo s e q b x h (said ++ n.said.items)) (sym k.0) (subst (λ z. LeadsTo s e p b x h (said ++ z)) (sym k.1) l)

-- want of memory is no deed
short_deeds : (ms : List Move) → deeds_of (ms ++ Short ∷ []) ≡ deeds_of ms
short_deeds ms = flat_map-append deed_of ms (Short ∷ []) ∙ append-nil (deeds_of ms)

short_stages : (n : ℕ) (ms : List Move) → n + stages_in (ms ++ Short ∷ []) ≡ n + stages_in ms
short_stages n ms = omega (arith, stages-append ms (Short ∷ []))

pub short_suits : (piece : ℕ) (p : Plan) (ms : List Move) → AllSuit piece p ms → AllSuit piece p (ms ++ Short ∷ [])
short_suits piece p ms k = suit-append piece p ms (Short ∷ []) k tt

-- After these moves the request is answered by this text, which nothing was said before but the greeting; or there was no memory for it.
pub record Answers (s : Server) (a : Asked) (o : BodyState) (before c : Progress) (ms : List Move) (v : List ℕ) (goes : Bool) : Type 0 where
  pub suits : AllSuit s.piece (plan_of a) ms
  pub came : progress a before ms ≡ c
  pub mute : progress_after a c Short ≡ Mute c
  pub own : IsOwn s.base a o c
  pub settled : Settles s.base a o c (v, goes)
  pub greeted : said_so_far a before ≡ greeting a c

muted_progress : (a : Asked) (before c : Progress) (ms : List Move) → progress a before ms ≡ c → progress_after a c Short ≡ Mute c → progress a before (ms ++ Short ∷ []) ≡ Mute c
muted_progress a before c ms f g = progress-append a before ms (Short ∷ []) ∙ ap (λ (d : Progress). progress_after a d Short) f ∙ g

-- A request whose body is whole is answered.
pub replies : {s : Server} {e : Bool} (a : Asked) (k : Work) (ms : List Move) (c : Progress) (body v : List ℕ) (closes : Bool) (b x : List ℕ) (h : Deeds) (said : List ℕ) (l : LeadsTo s e (Serving a k) b x h said)
    → ((y : List ℕ) → l.trail.cut (b ++ y) ≡ record { bytes = body; end = cut.Whole (b ++ y) }) → stages_in l.now + stages_in ms ≤ length body + 1
    → Answers s a (Whole body) l.trail.progress c ms v (not closes) → (n : Next) → Says n (after_reply closes) v ⊎ Stops n
    → LeadsTo s e n.phase b x (h ++ deeds_of ms) (said ++ n.said.items)
replies {s} {e} a k ms c body v closes b x h said l whole few r n (inl y) =
    to_next n (after_reply closes) v b x (h ++ deeds_of ms) said y
    (answers a k ms body closes v v b x h said l whole r.suits (subst (λ (d : Progress). IsOwn s.base a (Whole body) d) (sym r.came) r.own) few
    (subst (λ (d : Progress). Settles s.base a (Whole body) d (v, not closes)) (sym r.came) r.settled)
    (ap (λ z. z ++ v) r.greeted ∙ ap (λ (d : Progress). greeting a d ++ v) (sym r.came)))
replies {s} {e} a k ms c body v closes b x h said l whole few r n (inr y) =
    let is = muted_progress a l.trail.progress c ms r.came r.mute in
    to_next n Over [] b x (h ++ deeds_of ms) said y
    (subst (λ (d : Deeds). LeadsTo s e Over b x (h ++ d) (said ++ [])) (short_deeds ms)
    (answers a k (ms ++ Short ∷ []) body true [] [] b x h said l whole (short_suits s.piece (plan_of a) ms r.suits)
    (subst (λ (d : Progress). IsOwn s.base a (Whole body) d) (sym is) r.own) (subst (λ z. z ≤ length body + 1) (sym (short_stages (stages_in l.now) ms)) few)
    (subst (λ (d : Progress). Settles s.base a (Whole body) d ([], false)) (sym is) (((v, not closes), r.settled), refl))
    (ap (λ z. z ++ []) r.greeted ∙ ap (λ (d : Progress). greeting a d ++ []) (sym is))))

-- A request is answered, whatever its body is, and the connection ends.
pub replies_any : {s : Server} {e : Bool} (a : Asked) (k : Work) (ms : List Move) (c : Progress) (v b x : List ℕ) (h : Deeds) (said : List ℕ) (l : LeadsTo s e (Serving a k) b x h said)
    → stages_in ms ≡ 0 → ((o : BodyState) → Answers s a o l.trail.progress c ms v false) → (n : Next) → Says n Over v ⊎ Stops n
    → LeadsTo s e n.phase b x (h ++ deeds_of ms) (said ++ n.said.items)
replies_any {s} {e} a k ms c v b x h said l none r n (inl y) =
    to_next n Over v b x (h ++ deeds_of ms) said y
    (ends a k ms v v b b x h said l (r (Whole [])).suits (λ o. subst (λ (d : Progress). IsOwn s.base a o d) (sym (r o).came) (r o).own) (λ z. omega (arith, none, l.keeps.few z))
    (λ o. subst (λ (d : Progress). Settles s.base a o d (v, false)) (sym (r o).came) (r o).settled)
    (ap (λ z. z ++ v) (r (Whole [])).greeted ∙ ap (λ (d : Progress). greeting a d ++ v) (sym (r (Whole [])).came)))
replies_any {s} {e} a k ms c v b x h said l none r n (inr y) =
    let is = muted_progress a l.trail.progress c ms (r (Whole [])).came (r (Whole [])).mute in
    to_next n Over [] b x (h ++ deeds_of ms) said y
    (subst (λ (d : Deeds). LeadsTo s e Over b x (h ++ d) (said ++ [])) (short_deeds ms)
    (ends a k (ms ++ Short ∷ []) [] [] b b x h said l (short_suits s.piece (plan_of a) ms (r (Whole [])).suits) (λ o. subst (λ (d : Progress). IsOwn s.base a o d) (sym is) (r o).own)
    (λ z. omega (arith, none, short_stages (stages_in l.now) ms, l.keeps.few z))
    (λ o. subst (λ (d : Progress). Settles s.base a o d ([], false)) (sym is) (((v, false), (r o).settled), refl))
    (ap (λ z. z ++ []) (r (Whole [])).greeted ∙ ap (λ (d : Progress). greeting a d ++ []) (sym is))))

-- The door gave an answer that it should not: the connection ends.
pub broke : {s : Server} {e : Bool} (a : Asked) (k : Work) (m : Move) (c : Progress) (b d x : List ℕ) (h : Deeds) (said : List ℕ) (l : LeadsTo s e (Serving a k) b x h said)
    → AllSuit s.piece (plan_of a) (m ∷ []) → l.trail.progress ≡ c → progress_after a c m ≡ Misanswered c → ((o : BodyState) → IsOwn s.base a o c)
    → ((z : List ℕ) → stages_in l.now + stages_in (m ∷ []) ≤ length (l.trail.cut z).bytes + 1)
    → (n : Next) → Stops n → LeadsTo s e n.phase d x (h ++ deeds_of (m ∷ [])) (said ++ n.said.items)
broke {s} {e} a k m c b d x h said l suit at f own few n y =
    let is : progress_after a l.trail.progress m ≡ Misanswered c = ap (λ (w : Progress). progress_after a w m) at ∙ f in
    to_next n Over [] d x (h ++ deeds_of (m ∷ [])) said y
    (ends a k (m ∷ []) (lines_out c) [] b d x h said l suit (λ o. subst (λ (w : Progress). IsOwn s.base a o w) (sym is) (own o)) few
    (λ o. subst (λ (w : Progress). Settles s.base a o w (lines_out c, false)) (sym is) refl)
    (append-nil (said_so_far a l.trail.progress) ∙ ap (λ (w : Progress). said_so_far a w) at ∙ ap (λ (w : Progress). greeting a w ++ lines_out c) (sym is)))

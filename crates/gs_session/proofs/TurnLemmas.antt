-- A turn: what its last step does, after steps that showed nothing.
use Rattle.std.proofs.Common.{◌≡◌, ◌==◌, ℕ, Bool, true, List, [], ◌∷◌, ◌++◌, length, sym, ap, subst, ◌∙◌, append-nil, refl, arith}
use Rattle.std.proofs.lemmas.Bool.{eqb-true}
use Rattle.gs_event.specs.declared.events.Event.{Event}
use Rattle.gs_event.specs.declared.events.Action.TheVariants.{Piece}
use Rattle.gs_event.specs.declared.answers.Answer.{Answer}
use Rattle.gs_verdict.specs.declared.verdicts.Asked.{Asked}
use Rattle.gs_session.specs.declared.phases.Phase.{Phase}
use Rattle.gs_session.specs.declared.phases.Phase.TheVariants.{Serving}
use Rattle.gs_session.specs.declared.phases.Work.TheVariants.{Sending}
use Rattle.gs_session.specs.declared.setups.Setup.{Setup}
use Rattle.gs_session.specs.declared.outcomes.Next.{Next}
use Rattle.gs_session.specs.declared.steps.Step.TheVariants.{Made}
use Rattle.gs_session.specs.declared.sessions.Session.{Session}
use Rattle.gs_session.specs.declared.sessions.Turn.{Turn}
use Rattle.gs_session.specs.declared.sessions.Turn.TheVariants as turn
use Rattle.gs_session.specs.Leads.{LeadsTo}
use Rattle.gs_session.specs.Outcomes.{AfterPiece}
use Rattle.gs_session.specs.Steps.{TakesAction, Does, DoesStep, IsStill, server_of}
use Rattle.gs_session.specs.Turns.{IsKept, MakesTurn, RestsRightly, taken, waiting, turn_at}
use Rattle.gs_session.proofs.ReadLemmas.{piece_leads}
use Rattle.gs_session.proofs.RestLemmas.{rests_at}

-- a text of which there is nothing
pub no_text : (text : List ℕ) (v : Bool) → v ≡ (length text == 0) → v ≡ true → text ≡ []
no_text [] v e t = refl
no_text (c ∷ cs) v e t = let z : length (c ∷ cs) ≡ 0 = eqb-true (length (c ∷ cs)) 0 (sym e ∙ t) in absurd (omega (arith, z))

-- a session whose bytes are these
abbrev pub with_input : Session → List ℕ → Session
with_input s b = record { setup = s.setup; input = b; ended = s.ended; due = s.due; phase = s.phase }

-- what a step does by one event, a turn does
pub turn_made : {D : Type 0} (gives : D → Event → Answer → D → Type 0) (first now : Session) (old mid new : D) (n : Next) (b : List ℕ) → IsKept first now → now.setup ≡ first.setup → mid ≡ old → now.due.items ≡ []
    → DoesStep gives now.setup now.ended now.phase now.input mid (Made n) b new → MakesTurn gives first old turn.Made (taken (with_input now b) n) new
turn_made {D} gives first now old mid new n b kept setup door empty k = (
  k.0,
  k.1,
  subst (λ (t : Setup). TakesAction gives t.seat old k.0 k.1 new) setup (subst (λ (d : D). TakesAction gives now.setup.seat d k.0 k.1 new) door k.2),
  λ x h w l. subst (λ z. LeadsTo (server_of now.setup) now.ended n.phase b x (h ++ (k.0, k.1) ∷ []) (z ++ n.said.items)) (ap (λ z. w ++ z) empty ∙ append-nil w) (k.3 x h (w ++ now.due.items) (kept x h w l)),
)

-- a session that waits rests rightly
pub turn_waits : (now : Session) (b : List ℕ) (p : Phase) (t : Turn) (s : Session) → now.due.items ≡ [] → IsStill p now.ended b → s ≡ waiting (with_input now b) p → t ≡ turn_at p now.ended → RestsRightly t s
turn_waits now b p t s empty still at told =
    subst (λ (u : Turn). RestsRightly u s) (sym told) (subst (λ (r : Session). RestsRightly (turn_at p now.ended) r) (sym at) (rests_at p now.ended (waiting (with_input now b) p) refl refl still empty))

-- In a read, the next piece joins what is due.
pub turn_gathers : {D : Type 0} (gives : D → Event → Answer → D → Type 0) (s : Session) (old new : D) (a : Asked) (n : Next) → s.phase ≡ Serving a Sending
    → Does gives s.setup.seat old (Piece s.setup.piece) new (λ answer. AfterPiece a s.due.items answer n) → MakesTurn gives s old turn.Made (taken s n) new
turn_gathers gives s old new a n at d = (
  Piece s.setup.piece,
  d.0,
  d.1,
  λ x h w l. piece_leads a d.0 s.input x h w s.due.items (subst (λ (p : Phase). LeadsTo (server_of s.setup) s.ended p s.input x h (w ++ s.due.items)) at l) n d.2,
)

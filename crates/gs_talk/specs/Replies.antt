-- Which reply the progress of a request gives, by what its body is.
use Rattle.std.specs.Prelude.{◌≡◌, ◌⊎◌, ◌||◌, ◌==◌, ℕ, Bool, true, false, not, cond, List, [], ◌++◌, Option, Some, None}
use Rattle.gs_http.specs.Framing.{announces}
use Rattle.gs_term.specs.declared.names.GraphName.{GraphName}
use Rattle.gs_verdict.specs.declared.verdicts.Asked.{Asked}
use Rattle.gs_verdict.specs.declared.verdicts.Denial.{Denial}
use Rattle.gs_verdict.specs.declared.methods.Allow.{Allow}
use Rattle.gs_reply.specs.Notices.{Notice, Nothing, Allows, Made}
use Rattle.gs_reply.specs.Replies.{reply_text, continue_text, lines_head}
use Rattle.gs_talk.specs.Plans.{opens, plan_of}
use Rattle.gs_talk.specs.Progress.{Progress, NotStarted, Early, Late, Dropped, Wrote, Patched, Erased, Looked, Missing, Streaming, CancelDue, Cut, Left, Mute, Misanswered, Memory, Numbers, lines_out}
use Rattle.gs_talk.specs.Bodies.{refusal_at, States, Orders}

-- a body is whole; its transfer has a fault, after so much data; or its rest is awaited, after so much, unless the input has ended
pub data BodyState : Type 0 where
  Whole : (body : List ℕ) → BodyState
  Faulty : (front : List ℕ) (status : ℕ) → BodyState
  Unended : (front : List ℕ) (ended : Bool) → BodyState

-- the data so far
abbrev pub data_of : BodyState → List ℕ
data_of (Whole body) = body
data_of (Faulty front status) = front
data_of (Unended front ended) = front

-- a text, and whether the connection goes on after it
abbrev pub Said : Type 0
Said = List ℕ × Bool

-- a reply without a body, with what it says besides its status, and with a commit number, where its status came from the store
abbrev pub noticed : ℕ → Notice → Option ℕ → Bool → Said
noticed status notice commit closes = (reply_text status notice commit closes, not closes)

-- one that says no more than its status
abbrev pub plain : ℕ → Bool → Said
plain status closes = noticed status Nothing None closes

-- and one that says no more than the store did: its status and a commit number
abbrev pub counted_reply : ℕ → ℕ → Bool → Said
counted_reply status number closes = noticed status Nothing (Some number) closes

-- of a graph that the store made up a name for, that name
abbrev pub name_notice : Option GraphName → Notice
name_notice None = Nothing
name_notice (Some name) = Made name

-- of a method that the target does not allow, those that it does
abbrev pub allow_notice : Option Allow → Notice
allow_notice None = Nothing
allow_notice (Some methods) = Allows methods

-- the reply to a head that is denied
abbrev pub denial_reply : Denial → Said
denial_reply d = noticed d.status (allow_notice d.allow) None d.closes

-- `100 Continue` was due: the body is awaited, and what is to come before it has come
abbrev pub is_greeted : Asked → Progress → Bool
is_greeted a NotStarted = not (opens (plan_of a))
is_greeted a (Early l) = false
is_greeted a (Mute c) = is_greeted a c
is_greeted a (Misanswered c) = is_greeted a c
is_greeted a c = true

-- what is said before the reply
abbrev pub greeting : Asked → Progress → List ℕ
greeting a c = cond a.awaits_continue (cond (is_greeted a c) continue_text []) []

-- what was said, or is due, while the request goes on
abbrev pub said_so_far : Asked → Progress → List ℕ
said_so_far a c = greeting a c ++ lines_out c

-- with the greeting before it
abbrev pub greeted : Asked → Progress → Said → Said
greeted a c t = (greeting a c ++ t.0, t.1)

-- refused before any event
abbrev pub is_early : Progress → Bool
is_early (Early l) = true
is_early (Mute c) = is_early c
is_early c = false

-- The reply, after the greeting. Before any event memory may have been wanting for the greeting, or after it was said.
abbrev pub IsGreeted : Asked → Progress → Said → Said → Type 0
IsGreeted a c u t = (t ≡ greeted a c u) ⊎ ((is_early c ≡ true) × (t ≡ greeted a NotStarted u))

-- nothing more, and the connection ends
abbrev pub stopped : Said
stopped = ([], false)

-- a reply after an Open that was refused at the last number closes as the head's denials do
abbrev pub ends_early : Asked → Bool
ends_early a = a.closes || announces a.framing

-- the body is whole, and this holds of it
abbrev pub OfWhole : BodyState → (List ℕ → Type 0) → Type 0
OfWhole (Whole body) Holds = Holds body
OfWhole b Holds = ⊥

-- the body is whole
abbrev pub IsWhole : BodyState → Type 0
IsWhole b = OfWhole b (λ body. Unit {0})

-- What the store was asked, and did, is what the request asks: its body was whole, and the graph or the operations are its
-- meaning. Where nothing was done, or only opened, it may be anything.
abbrev pub IsOwn : List ℕ → Asked → BodyState → Progress → Type 0
IsOwn base a b (Wrote r g s name number) = OfWhole b (λ body. States base a r body g)
IsOwn base a b (Patched r ops s number) = OfWhole b (λ body. Orders base a r body ops)
IsOwn base a b (Erased s number) = IsWhole b
IsOwn base a b (Looked s number) = IsWhole b
IsOwn base a b (Missing s number) = IsWhole b
IsOwn base a b (Streaming out due end) = IsWhole b
IsOwn base a b (CancelDue out) = IsWhole b
IsOwn base a b (Cut out) = IsWhole b
IsOwn base a b (Left out) = IsWhole b
IsOwn base a b (Mute c) = IsOwn base a b c
IsOwn base a b (Misanswered c) = IsOwn base a b c
IsOwn base a b c = Unit {0}

-- A request for which nothing was done is settled where its body is dropped, and has a fault, or the input ended in it.
abbrev pub SettlesUndone : Asked → BodyState → Said → Type 0
SettlesUndone a (Faulty front s) t = (opens (plan_of a) ≡ false) × (t ≡ plain s true)
SettlesUndone a (Unended front ended) t = (ended ≡ true) × (opens (plan_of a) ≡ false) × (t ≡ stopped)
SettlesUndone a b t = ⊥

-- An upload or a patch is given up where its body says nothing that is served, has a fault in its transfer, or is cut off by the end of
-- the input.
abbrev pub SettlesDropped : List ℕ → Asked → ℕ → BodyState → Said → Type 0
SettlesDropped base a r (Whole body) t = (s : ℕ) × (refusal_at base a (plan_of a) r body ≡ Some s) × (t ≡ plain s a.closes)
SettlesDropped base a r (Faulty front s) t = t ≡ plain s true
SettlesDropped base a r (Unended front ended) t = (ended ≡ true) × (t ≡ stopped)

-- The progress settles the request, with this body, by this text (without the greeting).
abbrev pub Settles : List ℕ → Asked → BodyState → Progress → Said → Type 0
Settles base a b NotStarted t = SettlesUndone a b t
Settles base a b (Early Memory) t = t ≡ plain 503 true
Settles base a b (Early Numbers) t = t ≡ plain 507 (ends_early a)
Settles base a b (Late Memory) t = t ≡ plain 503 true
Settles base a b (Late Numbers) t = OfWhole b (λ body. (r : ℕ) × (refusal_at base a (plan_of a) r body ≡ None)) × (t ≡ plain 507 a.closes)
Settles base a b (Dropped r) t = SettlesDropped base a r b t
Settles base a b (Wrote r g s name number) t = t ≡ noticed s (name_notice name) (Some number) a.closes
Settles base a b (Patched r ops s number) t = t ≡ counted_reply s number a.closes
Settles base a b (Erased s number) t = t ≡ counted_reply s number a.closes
Settles base a b (Looked s number) t =
    t ≡ cond (s == 200) (lines_head a.reply number a.closes, not a.closes) (counted_reply s number a.closes)
Settles base a b (Missing s number) t = t ≡ counted_reply s number a.closes
Settles base a b (Streaming out due true) t = t ≡ (out ++ due, not a.closes)
Settles base a b (Cut out) t = t ≡ (out, false)
Settles base a b (Mute c) t = ((u : Said) × Settles base a b c u) × (t ≡ stopped)
Settles base a b (Misanswered c) t = t ≡ (lines_out c, false)
Settles base a b c t = ⊥

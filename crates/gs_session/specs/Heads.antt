-- What the next head leads to.
use Rattle.std.specs.Prelude.{◌≡◌, ◌⊎◌, ℕ, true, false, cond, List, [], None}
use Rattle.gs_transfer.specs.declared.places.Transfer.{Transfer}
use Rattle.gs_verdict.specs.declared.verdicts.Asked.{Asked}
use Rattle.gs_verdict.specs.declared.verdicts.Verdict.{Verdict}
use Rattle.gs_verdict.specs.declared.verdicts.Verdict.TheVariants.{Deny, Ask}
use Rattle.gs_reply.specs.Replies.{continue_text}
use Rattle.gs_talk.specs.Plans.{opens, plan_of}
use Rattle.gs_talk.specs.Replies.{allow_notice}
use Rattle.gs_session.specs.declared.phases.Work.TheVariants.{Opening, Skipping}
use Rattle.gs_session.specs.declared.phases.Phase.TheVariants.{Serving}
use Rattle.gs_session.specs.declared.outcomes.Next.{Next}
use Rattle.gs_session.specs.Outcomes.{Says, Replies, RepliesBy, IsFirstTransfer}

-- what is said to a client that waits for it before it sends the body
abbrev pub greeting_of : Asked → List ℕ
greeting_of a = cond a.awaits_continue continue_text []

-- what is asked for begins by an Open
abbrev pub BeginsOpen : Asked → Next → Type 0
BeginsOpen a n = (opens (plan_of a) ≡ true) × Says n (Serving a Opening) []

-- or with a body that is dropped
abbrev pub BeginsSkip : Asked → Next → Type 0
BeginsSkip a n = (opens (plan_of a) ≡ false) × ((t : Transfer) × Says n (Serving a (Skipping t)) (greeting_of a) × IsFirstTransfer a t)

-- what a verdict leads to
abbrev pub AfterVerdict : Verdict → Next → Type 0
AfterVerdict (Deny d) n = RepliesBy n d.status (allow_notice d.allow) None d.closes
AfterVerdict (Ask a) n = BeginsOpen a n ⊎ BeginsSkip a n

-- the same, or there was no memory for it
abbrev pub AfterHead : Verdict → Next → Type 0
AfterHead v n = AfterVerdict v n ⊎ Replies n 503 true

-- What a pass shows, and what an answered action makes of it.
use Rattle.std.specs.Prelude.{◌≡◌, ℕ, ◌+◌, List, [], ◌∷◌, ◌++◌, length, min, nat_lt, MatchBool, Option, Some, None}
use Rattle.gs_chronicle.specs.declared.kinds.ActionKind.{ActionKind}
use Rattle.gs_chronicle.specs.declared.kinds.ActionKind.TheVariants.{Commit as CommitKind, CommitPatch as PatchKind, Delete as DeleteKind, Head as HeadKind, Pin as PinKind}
use Rattle.gs_chronicle.specs.Sizes.{triples_size, ops_size}
use Rattle.gs_event.specs.declared.events.Action.{Action}
use Rattle.gs_event.specs.declared.events.Action.TheVariants.{Stage, Commit, CommitPatch, Delete, Head, Pin}
use Rattle.gs_event.specs.declared.answers.Answer.{Answer}
use Rattle.gs_event.specs.declared.answers.Answer.TheVariants.{Staged, Status, Pinned}
use Rattle.gs_pass.specs.declared.receipts.Receipt.{Receipt}
use Rattle.gs_pass.specs.declared.records.Record.{Record}
use Rattle.gs_pass.specs.Limits.{max_receipts, last_count}
use Rattle.gs_pass.specs.Stamps.{receipt}

-- what a pass shows: its receipts and both counts
pub record Tally : Type 0 where
  pub receipts : List Receipt
  pub calls : ℕ
  pub triples : ℕ

-- the seat of the pass that was told this
abbrev pub seat_in : Record → ℕ
seat_in r = r.seat

-- the tally of what a pass was told
abbrev pub tally_of : Record → Tally
tally_of r = record { receipts = r.receipts.items; calls = r.calls; triples = r.triples }

-- the tally of a pass that was told nothing
abbrev pub IsFresh : Tally → Type 0
IsFresh v = (v.receipts ≡ []) × (v.calls ≡ 0) × (v.triples ≡ 0)

-- the kind and status of a deciding call that was not refused, from the action and its answer alone
abbrev pub decides : Action → Answer → Option (ActionKind × ℕ)
decides Commit (Status s name number) = Some (CommitKind, s)
decides (CommitPatch ops) (Status s name number) = Some (PatchKind, s)
decides (Delete t since) (Status s name number) = Some (DeleteKind, s)
decides (Head c) (Status s name number) = Some (HeadKind, s)
decides (Pin c) (Pinned s number) = Some (PinKind, s)
decides action a = None

-- as how many triples counts what an action brings that was answered so: the list of a Stage, and the operations of a CommitPatch
abbrev pub brought_by : Action → Answer → ℕ
brought_by (Stage ts) Staged = triples_size ts.items
brought_by (CommitPatch ops) (Status s name number) = ops_size ops.items
brought_by action a = 0

-- a count goes up, and stops at its last value
abbrev pub count_plus : ℕ → ℕ → ℕ
count_plus n more = min (n + more) last_count

-- one receipt more where there are fewer than a pass keeps, and else none
abbrev pub AddsReceipt : List Receipt → Receipt → List Receipt → Type 0
AddsReceipt rs r after = MatchBool (nat_lt (length rs) max_receipts) (after ≡ rs ++ r ∷ []) (after ≡ rs)

-- a decided call is one call more, with its receipt
abbrev pub Enters : Receipt → Tally → Tally → Type 0
Enters r v w = AddsReceipt v.receipts r w.receipts × (w.calls ≡ count_plus v.calls 1) × (w.triples ≡ v.triples)

-- one call more of this kind and status, entered at some number, where there was one
abbrev pub CountsCall : Option (ActionKind × ℕ) → Tally → Tally → Type 0
CountsCall None v w = (w.receipts ≡ v.receipts) × (w.calls ≡ v.calls)
CountsCall (Some d) v w = (n : ℕ) × AddsReceipt v.receipts (receipt n d.0 d.1) w.receipts × (w.calls ≡ count_plus v.calls 1)

-- what an answered action makes of a tally
abbrev pub Told : Action → Answer → Tally → Tally → Type 0
Told action a v w = CountsCall (decides action a) v w × (w.triples ≡ count_plus v.triples (brought_by action a))

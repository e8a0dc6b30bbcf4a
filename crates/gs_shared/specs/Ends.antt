-- What is known of receipts and of the page once all passes are back.
use Rattle.std.specs.Prelude.{◌≡◌, ◌≤◌, ℕ, suc, List, [], ◌∷◌, length, Some}
use Rattle.std.specs.List.{slice_get, sum_by, All}
use Rattle.gs_chronicle.specs.Kinds.{action_kind_of}
use Rattle.gs_chronicle.specs.Pages.{Decided, Row, PageView, stored_in}
use Rattle.gs_pass.specs.declared.receipts.Receipt.{Receipt}
use Rattle.gs_pass.specs.declared.records.Record.{Record}
use Rattle.gs_shared.specs.Limits.{page_entries, page_triples}

-- how many deciding calls these passes counted
abbrev pub counted_calls : List Record → ℕ
counted_calls records = sum_by (λ r. r.calls) records

-- as how many triples counts what these passes brought
abbrev pub counted_triples : List Record → ℕ
counted_triples records = sum_by (λ r. r.triples) records

-- each receipt's row stands in the page at its number, with this seat, and with the receipt's kind and status; the
-- receipts' numbers rise from this one
abbrev pub StandFrom : ℕ → List Row → ℕ → List Receipt → Type 0
StandFrom from rows seat [] = Unit {0}
StandFrom from rows seat (r ∷ rs) =
    (call : Decided)
    × (from ≤ r.number)
    × (slice_get rows r.number ≡ Some (record { number = r.number; call = call }))
    × (call.seat ≡ seat)
    × (action_kind_of call.asked.operation ≡ r.kind)
    × (call.status ≡ r.status)
    × StandFrom (suc r.number) rows seat rs

-- the receipts of a pass stand in the page
abbrev pub ReceiptsStand : List Row → Record → Type 0
ReceiptsStand rows r = StandFrom 0 rows r.seat r.receipts.items

-- these passes counted no more deciding calls, and no more triples as a page counts them, than a page holds
abbrev pub FitOnePage : List Record → Type 0
FitOnePage records = (counted_calls records ≤ page_entries) × (counted_triples records ≤ page_triples)

-- a page has no more rows, and no more triples, than a page holds
abbrev pub IsWithinPage : PageView → Type 0
IsWithinPage p = (length p.rows ≤ page_entries) × (stored_in p.rows ≤ page_triples)

-- where no page was turned, the page has as many rows as these passes counted deciding calls
abbrev pub HasAllCalls : PageView → List Record → Type 0
HasAllCalls p records = p.number ≡ 0 → length p.rows ≡ counted_calls records

-- where no page was turned, the receipts of each of these passes stand in the page
abbrev pub AllStand : PageView → List Record → Type 0
AllStand p records = p.number ≡ 0 → All (ReceiptsStand p.rows) records

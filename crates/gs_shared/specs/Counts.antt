-- What is kept under the lock: how the page stands to the stamps and to what the passes counted.
use Rattle.std.specs.Prelude.{◌≡◌, ◌≤◌, ◌<◌, ℕ, ◌+◌, List, length, map}
use Rattle.gs_chronicle.specs.Kinds.{action_kind_of}
use Rattle.gs_chronicle.specs.Pages.{Row, PageView, stored_in}
use Rattle.gs_pass.specs.declared.stamps.Stamp.{Stamp}
use Rattle.gs_pass.specs.Stamps.{stamp, receipt}

-- the stamp of a row
abbrev pub stamp_in : Row → Stamp
stamp_in r = stamp r.call.seat (receipt r.number (action_kind_of r.call.asked.operation) r.call.status)

-- the stamps of the rows of a page
abbrev pub stamps_in : List Row → List Stamp
stamps_in rows = map stamp_in rows

-- where no page was turned, these are the stamps of its rows
abbrev pub IsTied : PageView → List Stamp → Type 0
IsTied p all = p.number ≡ 0 → all ≡ stamps_in p.rows

-- Where no page was turned, there are as many rows as calls were counted, and the triples that are stored and staged were
-- all counted. Where one was, more calls or more triples were counted than a page holds.
abbrev pub IsPageCounted : (most_rows most_triples : ℕ) → PageView → (staged calls triples : ℕ) → Type 0
IsPageCounted most_rows most_triples p staged calls triples =
    (p.number ≡ 0 → (length p.rows ≡ calls) × (stored_in p.rows + staged ≤ triples))
    × (0 < p.number → calls ≤ most_rows → triples ≤ most_triples → ⊥)

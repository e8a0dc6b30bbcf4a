-- How a server ends.
use Rattle.std.specs.Prelude.{◌≡◌, ℕ, ◌+◌}
use Rattle.gs_chronicle.specs.Views.{page_of}
use Rattle.gs_core.specs.Settings.{start_at}
use Rattle.gs_talk.specs.Logs.{Server}
use Rattle.gs_shared.specs.declared.endings.Ended.{Ended}
use Rattle.gs_shared.specs.Seats.{BeganAs}
use Rattle.gs_shared.specs.Ends.{FitOnePage, IsWithinPage, HasAllCalls, AllStand}
use Rattle.gs_gates.specs.Records.{AreOfSeats, IsFreshAt}
use Rattle.gs_workers.specs.Served.{WereServed}

-- A server of so many workers, over a store with this base, which serves so. There is a record for each seat, in their order: a
-- worker's says what came of the connections that it served, and the one of the reclaimer, who has the last seat, nothing. The page
-- has no more than a page holds; where the passes were told no more than that, no page was turned; and where none was turned, all
-- calls and receipts stand in the page.
pub record EndsAs (workers : ℕ) (p : Server) (e : Ended) : Type 0 where
  pub passes : AreOfSeats (workers + 1) e.passes.items
  pub served : WereServed p workers e.passes.items
  pub reclaimer : IsFreshAt workers e.passes.items
  pub within : IsWithinPage (page_of e.audited.chronicle)
  pub turned : FitOnePage e.passes.items → (page_of e.audited.chronicle).number ≡ 0
  pub many : HasAllCalls (page_of e.audited.chronicle) e.passes.items
  pub stand : AllStand (page_of e.audited.chronicle) e.passes.items
  pub began : BeganAs (start_at (workers + 1) p.base 0 0) e.audited.store.view

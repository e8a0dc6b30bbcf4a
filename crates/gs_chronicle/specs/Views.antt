-- What a page shows.
use Rattle.std.specs.Prelude.{ℕ}
use Rattle.gs_chronicle.specs.declared.pages.Page.{Page}
use Rattle.gs_chronicle.specs.Pages.{PageView}
use Rattle.gs_chronicle.specs.PageEntries.{own_entries}
use Rattle.gs_chronicle.specs.Rows.{rows_of}

-- a page as it is seen
abbrev pub page_of : {entries triples : ℕ} → Page entries triples → PageView
page_of p = record { number = p.number; rows = rows_of (own_entries p.entries) }

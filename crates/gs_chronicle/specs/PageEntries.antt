-- The entries of a page, beside which former ones may stand.
use Rattle.std.specs.Prelude.{ℕ, List, take, vec_len, vec_capacity}
use Rattle.gs_chronicle.specs.declared.entries.Entry.{Entry}
use Rattle.gs_chronicle.specs.declared.page_entries.PageEntries.{PageEntries}

-- the entries of the page, the oldest first
abbrev pub own_entries : PageEntries → List Entry
own_entries e = take e.count e.all.items

-- for how many entries there is room
abbrev pub entry_room : PageEntries → ℕ
entry_room e = vec_capacity e.all

-- how many entries there are, former ones among them
abbrev pub entries_there : PageEntries → ℕ
entries_there e = vec_len e.all

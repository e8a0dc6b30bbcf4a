use Rattle.std.proofs.Common.{◌≡◌}
use Rattle.gs_chronicle.specs.PageEntries.{own_entries, entry_room, entries_there}
use Rattle.gs_chronicle.proofs.page_entries.PageEntries.take_apart.Given as goal

abbrev pub invariant-former : goal.invariant-former
invariant-former l = (own_entries l.self ≡ own_entries l.fn.self) × (entry_room l.self ≡ entry_room l.fn.self)

abbrev pub decreases-former : goal.decreases-former
decreases-former l = entries_there l.self

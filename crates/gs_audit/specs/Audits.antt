-- What a store with its page has: the store, the page, and what is staged; and what an event decides there.
use Rattle.std.specs.Prelude.{ℕ, List, map, Option}
use Rattle.gs_event.specs.declared.events.Event.{Event}
use Rattle.gs_event.specs.declared.answers.Answer.{Answer}
use Rattle.gs_event.specs.Waste.{Shown}
use Rattle.gs_chronicle.specs.declared.pages.Page.{Page}
use Rattle.gs_chronicle.specs.Pages.{Decided}
use Rattle.gs_audit.specs.declared.audited.Audited.{Audited}
use Rattle.gs_audit.specs.Decisions.{decided_by}
use Rattle.gs_audit.specs.Slots.{slot_count}

-- its store, as what that shows
abbrev pub audited_store : {entries triples : ℕ} → Audited entries triples → Shown
audited_store a = a.store

-- its page
abbrev pub audited_page : {entries triples : ℕ} → Audited entries triples → Page entries triples
audited_page a = a.chronicle

-- as how many triples counts what was staged at each seat since its upload was opened, with repeats; 0 where none is open
abbrev pub staged_of : {entries triples : ℕ} → Audited entries triples → List ℕ
staged_of a = map slot_count a.slots.items

-- what an event that was answered so decided
abbrev pub decided_on : {entries triples : ℕ} → Audited entries triples → Event → Answer → Option Decided
decided_on audited e a = decided_by audited.store.view (staged_of audited) e a

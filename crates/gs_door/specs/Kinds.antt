-- Which answers belong to an event.
use Rattle.std.specs.Prelude.{}
use Rattle.gs_event.specs.declared.events.Event.{Event}
use Rattle.gs_event.specs.declared.answers.Answer.{Answer}
use Rattle.gs_event.specs.Views.{View, Fits}

-- an answer that fits the event at some view: a door may stand before a store that others use too, so it names no view
abbrev pub IsOfKind : Event → Answer → Type 0
IsOfKind e a = (v : View) × Fits v e a

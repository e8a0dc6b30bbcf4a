-- The first fault of a body, as a refusal reports it.
use Rattle.std.specs.Prelude.{◌≡◌, ◌≢◌, Option, Some, None, Result, Ok, Err}
use Rattle.gs_model.specs.declared.faults.Fault.TheVariants as fault
use Rattle.gs_model.specs.declared.refusals.Refusal.{Refusal}
use Rattle.gs_model.specs.declared.refusals.Refusal.TheVariants as refusal
use Rattle.gs_body.specs.Bodies.{Meaning, Faulty, IsBroken}

-- the body has this as its first fault: its grammar is broken at this place, or a term is too long
abbrev pub HasFault : Refusal → Meaning → Type 0
HasFault (refusal.Syntax at) m = IsBroken m at
HasFault refusal.TermTooLong m = m.1 ≡ Faulty fault.TermTooLong
HasFault other m = ⊥

-- what a reader's call reports: nothing, or this fault
abbrev pub ReportsFault : Result (Unit {0}) Refusal → Option Refusal → Type 0
ReportsFault outcome None = outcome ≡ Ok tt
ReportsFault outcome (Some e) = (outcome ≡ Err e) × (e ≢ refusal.NoMemory) × (e ≢ refusal.Closed)

-- memory was wanted and not given, by this call or by an earlier one
abbrev pub IsRefusedMemory : Result (Unit {0}) Refusal → Type 0
IsRefusedMemory (Ok x) = ⊥
IsRefusedMemory (Err refusal.NoMemory) = Unit {0}
IsRefusedMemory (Err refusal.Closed) = Unit {0}
IsRefusedMemory (Err e) = ⊥

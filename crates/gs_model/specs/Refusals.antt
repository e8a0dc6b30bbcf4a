-- The names and the phrases of refusals.
use Rattle.std.specs.Prelude.{ℕ, List, codes}
use Rattle.gs_model.specs.declared.refusals.Refusal.{Refusal}
use Rattle.gs_model.specs.declared.refusals.Refusal.TheVariants.{NoMemory, WrongPhase, BadSeat, LastNumber, Syntax, TermTooLong, StoreFull, NotInProfile, Closed}

-- as a schedule's answers print it
abbrev pub name_of : Refusal → List ℕ
name_of NoMemory = codes "NoMemory"
name_of WrongPhase = codes "WrongPhase"
name_of BadSeat = codes "BadSeat"
name_of LastNumber = codes "LastNumber"
name_of (Syntax at) = codes "Syntax"
name_of TermTooLong = codes "TermTooLong"
name_of StoreFull = codes "StoreFull"
name_of NotInProfile = codes "NotInProfile"
name_of Closed = codes "Closed"

-- as a person reads it
abbrev pub phrase_of : Refusal → List ℕ
phrase_of NoMemory = codes "no memory"
phrase_of WrongPhase = codes "the seat's phase does not allow this action"
phrase_of BadSeat = codes "there is no such seat"
phrase_of LastNumber = codes "the last number is given out"
phrase_of (Syntax at) = codes "the text breaks its grammar"
phrase_of TermTooLong = codes "a term or a name is too long"
phrase_of StoreFull = codes "the store would hold too much"
phrase_of NotInProfile = codes "the update is outside what is served"
phrase_of Closed = codes "an earlier call was refused or ended the text"

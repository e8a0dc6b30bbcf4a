-- What the reader of updates answers.
use Rattle.std.specs.Prelude.{◌≡◌, List, map, Some, None, Result, Ok, Err, Vec}
use Rattle.gs_event.specs.declared.updates.Op.{Op}
use Rattle.gs_model.specs.declared.refusals.Refusal.{Refusal}
use Rattle.gs_model.specs.declared.refusals.Refusal.TheVariants as refusal
use Rattle.gs_triples.specs.Meanings.{TermTooLong}
use Rattle.gs_update_text.specs.Requests.{Written, Broken, OutOfProfile, UpdateRequest, IsBrokenUpdate}
use Rattle.gs_update.specs.Views.{operations_of}

-- the text is an update, and these are its operations in their order
abbrev pub AreOperationsOf : List Op → UpdateRequest → Type 0
AreOperationsOf ops q = (q.1 ≡ None) × (operations_of ops ≡ map (λ (w : Written). w.operation) q.0)

-- What a refusal says of a text. For want of memory nothing is said.
abbrev pub Refuses : Refusal → UpdateRequest → Type 0
Refuses (refusal.Syntax at) q = IsBrokenUpdate q at
Refuses refusal.TermTooLong q = q.1 ≡ Some (Broken TermTooLong)
Refuses refusal.NotInProfile q = q.1 ≡ Some OutOfProfile
Refuses refusal.NoMemory q = Unit {0}
Refuses other q = ⊥

-- the text's operations, or why it has none
abbrev pub Answers : {Z : Type 0} → Result (Vec Op Z) Refusal → UpdateRequest → Type 0
Answers (Ok ops) q = AreOperationsOf ops.items q
Answers (Err e) q = Refuses e q

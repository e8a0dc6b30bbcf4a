-- The terms that the operations of an update may bring to a dictionary: those of what they insert.
use Rattle.std.specs.Prelude.{◌⊎◌, List, [], ◌∷◌}
use Rattle.gs_model.specs.Terms.{Term}
use Rattle.gs_event.specs.declared.updates.Op.{Op}
use Rattle.gs_event.specs.declared.updates.Op.TheVariants.{Insert, DeleteData, DeleteWhere}
use Rattle.gs_staging.specs.Keys.{IsTermIn}

-- the operation is an INSERT DATA, and one of its triples has this term
abbrev pub IsInsertedBy : Op → Term → Type 0
IsInsertedBy (Insert ts) u = IsTermIn ts.items u
IsInsertedBy (DeleteData ts) u = ⊥
IsInsertedBy (DeleteWhere ps) u = ⊥

-- an INSERT DATA among these operations has a triple with this term
abbrev pub IsInserted : List Op → Term → Type 0
IsInserted [] u = ⊥
IsInserted (op ∷ ops) u = IsInsertedBy op u ⊎ IsInserted ops u

-- What a symbol does at a place of a parser of updates: in a block, and outside one.
use Rattle.std.specs.Prelude.{◌≡◌, ℕ, [], ◌∷◌, Option, Some, None}
use Rattle.gs_blank.specs.Numbers.{Numbers}
use Rattle.gs_triple_values.specs.Typed.{terms, patterns}
use Rattle.gs_token_terms.specs.declared.symbols.Symbol.{Symbol}
use Rattle.gs_triple_parser.specs.Views.{numbers_now}
use Rattle.gs_update_text.specs.Requests.{UpdateOperation, Inserts, DeletesData, OutOfProfile}
use Rattle.gs_update_text.specs.Operations.{Scope, some_patterns}
use Rattle.gs_update_text.specs.States as machine
use Rattle.gs_update_text.specs.Machine.{syntax_fault}
use Rattle.gs_update_places.specs.Views.{rejection_at, scope_of}
use Rattle.gs_update_places.specs.Steps.{LeadsToPlace, transition_at_place}
use Rattle.gs_update_places.specs.declared.blocks.BlockTurn.{BlockTurn as CodeTurn}
use Rattle.gs_update_places.specs.declared.blocks.BlockTurn.TheVariants as turn
use Rattle.gs_update_places.specs.declared.places.Place.{Place}
use Rattle.gs_update_places.specs.declared.places.Place.TheVariants as place

-- a place outside a block
abbrev pub IsPassage : Place → Type 0
IsPassage (place.Inserting b) = ⊥
IsPassage (place.Deleting b) = ⊥
IsPassage (place.Seeking b) = ⊥
IsPassage other = Unit {0}

-- after a block that ends there, with the operation that it makes; one of DELETE WHERE may make none
abbrev pub concluded : Option UpdateOperation → Scope → Numbers → ℕ → machine.UpdateStep
concluded None env n e = machine.quiet (machine.Rejected OutOfProfile)
concluded (Some o) env n e = (machine.After env n, record { operation = o; end = e } ∷ [])

-- where the block of a place ends there; a place in none has nothing that could end
abbrev pub closed_at : Place → ℕ → machine.UpdateStep
closed_at (place.Inserting b) e = concluded (Some (Inserts b.triples.items)) (scope_of terms b) (numbers_now b.parser) e
closed_at (place.Deleting b) e = concluded (Some (DeletesData b.triples.items)) (scope_of terms b) (numbers_now b.parser) e
closed_at (place.Seeking b) e = concluded (some_patterns b.triples.items) (scope_of patterns b) (numbers_now b.parser) e
closed_at other e = machine.quiet syntax_fault

-- a block took a symbol with this turn, and the machine this transition; the place after it
abbrev pub Follows : machine.UpdateStep → CodeTurn → Place → Type 0
Follows t turn.Takes p = LeadsToPlace p t
Follows t (turn.Shuts e) p = closed_at p e ≡ t
Follows t (turn.Stops r) p = machine.quiet (machine.Rejected (rejection_at r)) ≡ t

-- the block of a place took this symbol with the turn that is said, or the place is in none and stays: before and after
abbrev pub StepsBlock : Place → Symbol → Option CodeTurn → Place → Type 0
StepsBlock from t None p = IsPassage from × (p ≡ from)
StepsBlock from t (Some u) p = Follows (transition_at_place from t) u p

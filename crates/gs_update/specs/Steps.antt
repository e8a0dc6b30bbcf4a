-- What a symbol does to a parser of updates.
use Rattle.std.specs.Prelude.{◌≡◌, [], ◌++◌, map, Option}
use Rattle.gs_update_text.specs.Requests.{Written, Rejection, end_of_last}
use Rattle.gs_update_text.specs.States as machine
use Rattle.gs_update_text.specs.Machine.{ended}
use Rattle.gs_update_places.specs.Views.{IsSoundPlace}
use Rattle.gs_update.specs.Views.{update_state_of, operations_of}
use Rattle.gs_update.specs.declared.parser.UpdateParser.{UpdateParser}

-- at the start of a text
pub record Starts (p : UpdateParser) (s : machine.UpdateState) : Type 0 where
  pub state : update_state_of p ≡ s
  pub operations : p.operations.items ≡ []
  pub last : p.last ≡ 0
  pub sound : IsSoundPlace p.place

-- a parser took this transition
pub record Moves (old new : UpdateParser) (t : machine.UpdateStep) : Type 0 where
  pub state : update_state_of new ≡ t.0
  pub operations : operations_of new.operations.items ≡ operations_of old.operations.items ++ map (λ (w : Written). w.operation) t.1
  pub last : new.last ≡ end_of_last old.last t.1
  pub sound : IsSoundPlace new.place

-- a parser says how a text ends that ends there, and keeps its operations
pub record EndsUpdateText (old new : UpdateParser) (r : Option Rejection) : Type 0 where
  pub said : r ≡ ended (update_state_of old)
  pub operations : new.operations ≡ old.operations
  pub last : new.last ≡ old.last

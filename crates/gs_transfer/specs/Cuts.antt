-- The body at the front of a text.
use Rattle.std.specs.Prelude.{ℕ, zero, List, [], ◌∷◌, ◌++◌}
use Rattle.gs_http.specs.declared.framing.Framing.{Framing}
use Rattle.gs_transfer.specs.States.{TransferState, Left, Over, ByteStep, Gives, Passes, Fails, step, start_state}

-- the body is not whole yet; it has a fault, with its status; or it is whole, and this stands after it
pub data End : Type 0 where
  Open : End
  Faulty : (status : ℕ) → End
  Whole : (rest : List ℕ) → End

-- the data of a body so far, and how it ends
pub record BodyCut : Type 0 where
  pub bytes : List ℕ
  pub end : End

-- no data more
abbrev pub ends : End → BodyCut
ends e = record { bytes = []; end = e }

-- with data before it
abbrev pub with_data : List ℕ → BodyCut → BodyCut
with_data d c = record { bytes = d ++ c.bytes; end = c.end }

-- after the step that a byte makes
abbrev pub goes_on : (TransferState → BodyCut) → ℕ → ByteStep → BodyCut
goes_on again c (Gives s) = with_data (c ∷ []) (again s)
goes_on again c (Passes s) = again s
goes_on again c (Fails status) = ends (Faulty status)

-- the rest of a body, from a state on
abbrev pub cut_from : ℕ → TransferState → List ℕ → BodyCut
cut_from limit (Left zero) x = ends (Whole x)
cut_from limit Over x = ends (Whole x)
cut_from limit s [] = ends Open
cut_from limit s (c ∷ cs) = goes_on (λ t. cut_from limit t cs) c (step limit s c)

-- the body at the front of a text, within a limit on the data of its chunks
unfoldable pub body_at : ℕ → Framing → List ℕ → BodyCut
body_at limit framing x = cut_from limit (start_state framing) x

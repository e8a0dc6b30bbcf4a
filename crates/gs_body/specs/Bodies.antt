-- What a body says: its complete statements, each with its end, and how it ends.
use Rattle.std.specs.Prelude.{◌≡◌, ℕ, List, [], ◌∷◌, Vec}
use Rattle.std.specs.List.{flat_map}
use Rattle.gs_model.specs.Triples.{RdfTriple}
use Rattle.gs_model.specs.declared.faults.Fault.{Fault}
use Rattle.gs_model.specs.declared.faults.Fault.TheVariants as fault
use Rattle.gs_model.specs.declared.refusals.Refusal.{Refusal}
use Rattle.gs_model.specs.declared.refusals.Refusal.TheVariants as refusal

-- a statement of a body: the triples that it states, none where it is a directive, and the number of bytes up to its end
pub record Statement : Type 0 where
  pub triples : List RdfTriple
  pub end : ℕ

-- a body has no fault, or this is its first
pub data Ending : Type 0 where
  Whole : Ending
  Faulty : (fault : Fault) → Ending

-- the statements before the first fault, and how the body ends
abbrev pub Meaning : Type 0
Meaning = List Statement × Ending

-- all triples that these statements state, in their order
abbrev pub all_stated : List Statement → List RdfTriple
all_stated ss = flat_map (λ s. s.triples) ss

-- the end of the last statement, where one that ends after n bytes stands before
abbrev pub end_after : ℕ → List Statement → ℕ
end_after n [] = n
end_after n (s ∷ ss) = end_after s.end ss

-- The body breaks the grammar, first after a statement that ends after so many bytes, or after none and 0.
pub record IsBroken (r : Meaning) (at : ℕ) : Type 0 where
  pub broken : r.1 ≡ Faulty fault.Syntax
  pub place : at ≡ end_after 0 r.0

-- What a refusal reports of the body: its first fault. For want of memory, or after a refusal, nothing is reported.
abbrev pub Reports : Refusal → Meaning → Type 0
Reports (refusal.Syntax at) r = IsBroken r at
Reports refusal.TermTooLong r = r.1 ≡ Faulty fault.TermTooLong
Reports refusal.NoMemory r = Unit {0}
Reports refusal.Closed r = Unit {0}
Reports other r = ⊥

-- the text of these pieces, one after another
abbrev pub whole_text : {Z : Type 0} → List (Vec ℕ Z) → List ℕ
whole_text pieces = flat_map (λ piece. piece.items) pieces

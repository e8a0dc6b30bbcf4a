-- What one call of a reader does, in the words of its trait.
use Rattle.std.specs.Prelude.{◌≡◌, ℕ, List, ◌++◌, Result, OnOk}
use Rattle.gs_model.specs.Triples.{RdfTriple}
use Rattle.gs_model.specs.declared.refusals.Refusal.{Refusal}
use Rattle.gs_machine.specs.Machines.{AreSettled, Begins}
use Rattle.gs_machine.specs.Utf8.{IsLongestFront}
use Rattle.gs_triple_lists.specs.Lists.{Listed}
use Rattle.gs_body.specs.Bodies.{Meaning, Whole, Reports, all_stated}

-- A piece was fed: the list grew by some triples. With them a reader of x that had given ts has given exactly the
-- triples of the complete statements: of the longest prefix of the text so far that ends between two characters, all
-- that it means however it goes on. They begin what the whole text means, however that goes on.
pub record Feeds {R : Type 0} (meaning_of : R → List ℕ → Meaning) (Leads : R → List ℕ → List RdfTriple → Type 0) (old new : R) (piece : List ℕ) (before after : List RdfTriple) : Type 0 where
  pub given : List RdfTriple
  pub grown : after ≡ before ++ given
  pub leads : (x : List ℕ) (ts : List RdfTriple) → Leads old x ts → Leads new (x ++ piece) (ts ++ given)
  pub begun : (x : List ℕ) (ts : List RdfTriple) → Leads old x ts
      → (y : List ℕ) → Begins (all_stated (meaning_of old (x ++ piece ++ y)).0) (ts ++ given)
  pub settled : (x : List ℕ) (ts : List RdfTriple) → Leads old x ts → (front : List ℕ) → IsLongestFront (x ++ piece) front
      → AreSettled (λ z. all_stated (meaning_of old z).0) front (ts ++ given)

-- The text ended: it has no fault, and with the triples by which the list grew all that it says is given.
pub record Finishes {R : Type 0} (meaning_of : R → List ℕ → Meaning) (Leads : R → List ℕ → List RdfTriple → Type 0) (old : R) (before after : List RdfTriple) : Type 0 where
  pub given : List RdfTriple
  pub grown : after ≡ before ++ given
  pub whole : (x : List ℕ) (ts : List RdfTriple) → Leads old x ts → (meaning_of old x).1 ≡ Whole
  pub all : (x : List ℕ) (ts : List RdfTriple) → Leads old x ts → all_stated (meaning_of old x).0 ≡ ts ++ given

-- a call that fed a piece, if it was not refused: a list of triples grew as `Feeds` says
abbrev pub FedInto : {R E Y : Type 0} → (R → List ℕ → Meaning) → (R → List ℕ → List RdfTriple → Type 0) → (old new : R) → List ℕ
    → (before after : Listed) → Result Y E → Type 0
FedInto meaning_of Leads old new piece before after answer = OnOk answer (Feeds meaning_of Leads old new piece before.items after.items)

-- a refusal of a piece reports the fault of each text that goes on with it, whatever comes then
abbrev pub IsFaultOn : {R : Type 0} → (R → List ℕ → Meaning) → (R → List ℕ → List RdfTriple → Type 0) → R → List ℕ → Refusal → Type 0
IsFaultOn meaning_of Leads old piece e =
    (x : List ℕ) (ts : List RdfTriple) → Leads old x ts → (y : List ℕ) → Reports e (meaning_of old (x ++ piece ++ y))

-- a refusal at the end reports the fault of the text
abbrev pub IsFaultAtEnd : {R : Type 0} → (R → List ℕ → Meaning) → (R → List ℕ → List RdfTriple → Type 0) → R → Refusal → Type 0
IsFaultAtEnd meaning_of Leads old e = (x : List ℕ) (ts : List RdfTriple) → Leads old x ts → Reports e (meaning_of old x)

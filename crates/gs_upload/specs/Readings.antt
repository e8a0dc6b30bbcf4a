-- A text that is read in pieces: what was fed, what was given, and the fault that is kept. The three words of the
-- trait `BodyReader` (what a text means to a reader, what leads it where it stands, whether it is closed) come first.
use Rattle.std.specs.Prelude.{◌≡◌, ◌<◌, ◌≤◌, ℕ, Bool, true, false, List, [], ◌∷◌, ◌++◌, length, take, drop, is_some, Option, Some, None}
use Rattle.gs_model.specs.Triples.{RdfTriple}
use Rattle.gs_model.specs.declared.refusals.Refusal.{Refusal}
use Rattle.gs_machine.specs.Machines.{AreSettled, Begins}
use Rattle.gs_machine.specs.Utf8.{IsLongestFront}
use Rattle.gs_body.specs.Bodies.{Meaning, Whole, all_stated}
use Rattle.gs_upload.specs.declared.readings.Reading.{Reading}
use Rattle.gs_upload.specs.Faults.{HasFault}

-- the fault that the reading met and keeps, if any
abbrev pub kept_fault : {R : Type 0} → Reading R → Option Refusal
kept_fault k = k.fault

-- the reader has read x and given ts, goes on, and a text means to it what `means` says
pub record ReadsBodyOn {R : Type 0} (meaning_of : R → List ℕ → Meaning) (Leads : R → List ℕ → List RdfTriple → Type 0) (closed : R → Bool)
    (reader : R) (means : List ℕ → Meaning) (x : List ℕ) (ts : List RdfTriple) : Type 0 where
  pub leads : Leads reader x ts
  pub goes_on : closed reader ≡ false
  pub same : (z : List ℕ) → meaning_of reader z ≡ means z

-- the reader goes on, or the text has this fault, however it goes on
abbrev pub ReaderStands : {R : Type 0} → (R → List ℕ → Meaning) → (R → List ℕ → List RdfTriple → Type 0) → (R → Bool)
    → Option Refusal → R → (List ℕ → Meaning) → List ℕ → List RdfTriple → Type 0
ReaderStands meaning_of Leads closed None reader means x ts = ReadsBodyOn meaning_of Leads closed reader means x ts
ReaderStands meaning_of Leads closed (Some e) reader means x ts = (y : List ℕ) → HasFault e (means (x ++ y))

-- Of a text that means what `means` says, x was fed to the reading, and ts were given, with which its triples begin,
-- however it goes on.
pub record IsFedReading {R : Type 0} (meaning_of : R → List ℕ → Meaning) (Leads : R → List ℕ → List RdfTriple → Type 0) (closed : R → Bool)
    (k : Reading R) (means : List ℕ → Meaning) (x : List ℕ) (ts : List RdfTriple) : Type 0 where
  pub begun : (y : List ℕ) → Begins (all_stated (means (x ++ y)).0) ts
  pub stands : ReaderStands meaning_of Leads closed (kept_fault k) k.reader means x ts

-- Exactly the triples of the complete statements are given: of the longest prefix of x that ends between two characters,
-- all that it means however it goes on.
abbrev pub GivesComplete : (List ℕ → Meaning) → List ℕ → List RdfTriple → Type 0
GivesComplete means x ts = (front : List ℕ) → IsLongestFront x front → AreSettled (λ z. all_stated (means z).0) front ts

-- A text was fed, and the list grew by what it gives. Without a fault those are the triples of the complete statements;
-- a fault that was kept before is kept.
pub record FeedsReading {R : Type 0} (meaning_of : R → List ℕ → Meaning) (Leads : R → List ℕ → List RdfTriple → Type 0) (closed : R → Bool)
    (old new : Reading R) (text : List ℕ) (before after : List RdfTriple) : Type 0 where
  pub given : List RdfTriple
  pub grown : after ≡ before ++ given
  pub fed : (means : List ℕ → Meaning) (x : List ℕ) (ts : List RdfTriple) → IsFedReading meaning_of Leads closed old means x ts
      → IsFedReading meaning_of Leads closed new means (x ++ text) (ts ++ given)
  pub complete : (means : List ℕ → Meaning) (x : List ℕ) (ts : List RdfTriple) → IsFedReading meaning_of Leads closed old means x ts
      → kept_fault new ≡ None → GivesComplete means (x ++ text) (ts ++ given)
  pub latched : (e : Refusal) → kept_fault old ≡ Some e → kept_fault new ≡ Some e

-- the same of one piece: where a fault is kept nothing is given
pub record FeedsPiece {R : Type 0} (meaning_of : R → List ℕ → Meaning) (Leads : R → List ℕ → List RdfTriple → Type 0) (closed : R → Bool)
    (old new : Reading R) (piece : List ℕ) (before after : List RdfTriple) : Type 0 where
  pub feeds : FeedsReading meaning_of Leads closed old new piece before after
  pub silent : is_some (kept_fault new) ≡ true → after ≡ before

-- the pieces were fed one by one
abbrev pub FeedsEach : {R : Type 0} → (R → List ℕ → Meaning) → (R → List ℕ → List RdfTriple → Type 0) → (R → Bool)
    → Reading R → Reading R → List (List ℕ) → List RdfTriple → List RdfTriple → Type 0
FeedsEach {R} meaning_of Leads closed old new [] before after = (new ≡ old) × (after ≡ before)
FeedsEach {R} meaning_of Leads closed old new (p ∷ ps) before after = (mid : Reading R) × (between : List RdfTriple)
    × FeedsPiece meaning_of Leads closed old mid p before between × FeedsEach meaning_of Leads closed mid new ps between after

-- These pieces were fed one by one to a new reading of a text that means what `means` says, and ts were given.
pub record IsFedBy {R : Type 0} (meaning_of : R → List ℕ → Meaning) (Leads : R → List ℕ → List RdfTriple → Type 0) (closed : R → Bool)
    (k : Reading R) (means : List ℕ → Meaning) (pieces : List (List ℕ)) (ts : List RdfTriple) : Type 0 where
  pub first : Reading R
  pub fresh : IsFedReading meaning_of Leads closed first means [] []
  pub each : FeedsEach meaning_of Leads closed first k pieces [] ts

-- the text in pieces of exactly n bytes, of which the last may be shorter; 0 is whole
abbrev pub ArePieces : ℕ → List ℕ → List (List ℕ) → Type 0
ArePieces n x [] = ⊥
ArePieces n x (p ∷ []) = (p ≡ x) × (0 < n → length x ≤ n)
ArePieces n x (p ∷ q ∷ ps) = (0 < n) × (n < length x) × (p ≡ take n x) × ArePieces n (drop n x) (q ∷ ps)

-- the text was fed in pieces of exactly n bytes, one after another
abbrev pub FeedsPieces : {R : Type 0} → (R → List ℕ → Meaning) → (R → List ℕ → List RdfTriple → Type 0) → (R → Bool)
    → ℕ → Reading R → Reading R → List ℕ → List RdfTriple → List RdfTriple → Type 0
FeedsPieces meaning_of Leads closed n old new text before after = (pieces : List (List ℕ)) × ArePieces n text pieces
    × FeedsEach meaning_of Leads closed old new pieces before after

-- a text has no fault, and its triples are these
pub record MeansAll (m : Meaning) (ts : List RdfTriple) : Type 0 where
  pub whole : m.1 ≡ Whole
  pub all : all_stated m.0 ≡ ts

-- the text ended without a fault, and with the triples by which the list grew all that it means is given
pub record EndsWhole {R : Type 0} (meaning_of : R → List ℕ → Meaning) (Leads : R → List ℕ → List RdfTriple → Type 0) (closed : R → Bool)
    (k : Reading R) (before after : List RdfTriple) : Type 0 where
  pub given : List RdfTriple
  pub grown : after ≡ before ++ given
  pub all : (means : List ℕ → Meaning) (x : List ℕ) (ts : List RdfTriple) → IsFedReading meaning_of Leads closed k means x ts → MeansAll (means x) (ts ++ given)

-- the text ended with this as its first fault, and nothing is given
pub record EndsFaulty {R : Type 0} (meaning_of : R → List ℕ → Meaning) (Leads : R → List ℕ → List RdfTriple → Type 0) (closed : R → Bool)
    (k : Reading R) (e : Refusal) (before after : List RdfTriple) : Type 0 where
  pub unchanged : after ≡ before
  pub first : (means : List ℕ → Meaning) (x : List ℕ) (ts : List RdfTriple) → IsFedReading meaning_of Leads closed k means x ts → HasFault e (means x)

-- the text ended so
abbrev pub EndsReading : {R : Type 0} → (R → List ℕ → Meaning) → (R → List ℕ → List RdfTriple → Type 0) → (R → Bool)
    → Reading R → Option Refusal → List RdfTriple → List RdfTriple → Type 0
EndsReading meaning_of Leads closed k None before after = EndsWhole meaning_of Leads closed k before after
EndsReading meaning_of Leads closed k (Some e) before after = EndsFaulty meaning_of Leads closed k e before after

-- a call wanted memory and got none, and each later call is refused
pub record IsClosedReading {R : Type 0} (closed : R → Bool) (k : Reading R) : Type 0 where
  pub no_fault : kept_fault k ≡ None
  pub refused : closed k.reader ≡ true

-- What is fed to the upload of a seat, by what its text means (`meaning_in` of gs_upload), and what that gives.
use Rattle.std.specs.Prelude.{◌≡◌, ℕ, List, [], ◌++◌, Option, Some, None}
use Rattle.gs_model.specs.Triples.{RdfTriple}
use Rattle.gs_machine.specs.Machines.{Begins}
use Rattle.gs_body.specs.Bodies.{Meaning, Whole, all_stated}
use Rattle.gs_upload.specs.declared.languages.Language.{Language}
use Rattle.gs_upload.specs.Languages.{TextContext, meaning_in_context}
use Rattle.gs_upload.specs.Readings.{GivesComplete, ArePieces, MeansAll}

-- What was fed to a seat: nothing; a text that is read so, with the pieces in which it was fed and the triples that
-- were given so far; a text of a language that has a fault; or a whole text, of which all is given.
pub data Fed : Type 0 where
  Unfed : Fed
  InPart : (c : TextContext) (x : List ℕ) (pieces : List (List ℕ)) (given : List RdfTriple) → Fed
  Faulted : (l : Language) → Fed
  Finished : (l : Language) → Fed

-- nothing was fed yet, or it is in this language: all texts of an upload are in the language of the first
abbrev pub IsIn : Language → Fed → Type 0
IsIn l Unfed = Unit {0}
IsIn l (InPart c x pieces given) = c.language ≡ l
IsIn l (Faulted k) = k ≡ l
IsIn l (Finished k) = k ≡ l

-- The triples that a text gives so far, by what texts mean: with them its triples begin, however the text goes on; and
-- they are exactly those of its complete statements.
pub record GivesSoFar (meaning_of : List ℕ → Meaning) (x : List ℕ) (given : List RdfTriple) : Type 0 where
  pub begun : (z : List ℕ) → Begins (all_stated (meaning_of (x ++ z)).0) given
  pub complete : GivesComplete meaning_of x given

-- a text without a meaning
abbrev pub IsFaulty : (List ℕ → Meaning) → List ℕ → Type 0
IsFaulty meaning_of x = ¬ ((meaning_of x).1 ≡ Whole)

-- after some pieces a text was fed in pieces of exactly n bytes, of which the last may be shorter; 0 is whole
pub record GoesOnInPieces (n : ℕ) (before : List (List ℕ)) (y : List ℕ) (after : List (List ℕ)) : Type 0 where
  pub pieces : List (List ℕ)
  pub cut : ArePieces n y pieces
  pub grown : after ≡ before ++ pieces

-- The text x, which gave ts, goes on by y, in pieces of n bytes, and gives some triples more; or it has a fault,
-- however it goes on.
abbrev pub UploadGoesOn : ℕ → TextContext → List ℕ → List (List ℕ) → List RdfTriple → List ℕ → List RdfTriple → Fed → Type 0
UploadGoesOn n c x ps ts y given (InPart d z qs all) = (d ≡ c) × (z ≡ x ++ y) × GoesOnInPieces n ps y qs × (all ≡ ts ++ given)
    × GivesSoFar (meaning_in_context c) z all
UploadGoesOn n c x ps ts y given (Faulted l) = (l ≡ c.language) × (given ≡ []) × ((z : List ℕ) → IsFaulty (meaning_in_context c) (x ++ y ++ z))
UploadGoesOn n c x ps ts y given f = ⊥

-- What y gives to an upload, whose first text is read as c says. It is fed in pieces of n bytes. After a fault, or
-- after the end of the text, it is dropped.
abbrev pub Receives : ℕ → TextContext → Fed → List ℕ → List RdfTriple → Fed → Type 0
Receives n c Unfed y given f = UploadGoesOn n c [] [] [] y given f
Receives n c (InPart d x ps ts) y given f = UploadGoesOn n d x ps ts y given f
Receives n c (Faulted l) y given f = (given ≡ []) × (f ≡ Faulted l)
Receives n c (Finished l) y given f = (given ≡ []) × (f ≡ Finished l)

-- The text ends: with the triples that it then gives, if any, all that it means is given; or it has no meaning,
-- and nothing is given. A text ends once.
abbrev pub Closes : Fed → Option (List RdfTriple) → Fed → Type 0
Closes Unfed (Some given) f = (given ≡ []) × (f ≡ Unfed)
Closes (InPart c x ps ts) (Some given) f = MeansAll (meaning_in_context c x) (ts ++ given) × (f ≡ Finished c.language)
Closes (InPart c x ps ts) None f = IsFaulty (meaning_in_context c) x × (f ≡ Faulted c.language)
Closes (Faulted l) None f = f ≡ Faulted l
Closes (Finished l) (Some given) f = (given ≡ []) × (f ≡ Finished l)
Closes f given g = ⊥

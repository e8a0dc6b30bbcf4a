-- A reader of either language, by the words of the trait `BodyReader`.
use Rattle.std.specs.Prelude.{ℕ, Bool, List, string_bytes}
use Rattle.gs_model.specs.Triples.{RdfTriple}
use Rattle.gs_body.specs.Bodies.{Meaning}
use Rattle.gs_ntread.specs.Readers as ntriples
use Rattle.gs_ntread.specs.Documents.{meaning_by as ntriples_meaning}
use Rattle.gs_turtle.specs.Readers as turtle
use Rattle.gs_turtle.specs.Documents.{meaning_by as turtle_meaning}
use Rattle.gs_upload.specs.declared.readers.TextReader.{TextReader}
use Rattle.gs_upload.specs.declared.readers.TextReader.TheVariants.{NTriples, Turtle}
use Rattle.gs_upload.specs.declared.readings.Reading.{Reading}
use Rattle.gs_upload.specs.Readings.{IsFedReading, IsFedBy}

-- what a whole text means to a reader
abbrev pub meaning_of_text : TextReader → List ℕ → Meaning
meaning_of_text (NTriples r) x = ntriples_meaning r.value.request x
meaning_of_text (Turtle r) x = turtle_meaning (string_bytes r.value.base) r.value.request x

-- a text leads a new reader here, and to having given these triples
abbrev pub LeadsText : TextReader → List ℕ → List RdfTriple → Type 0
LeadsText (NTriples r) x ts = ntriples.LeadsToNTriples r.value x ts
LeadsText (Turtle r) x ts = turtle.IsLedBy r.value x ts

-- each call is refused from now on
abbrev pub is_closed_text : TextReader → Bool
is_closed_text (NTriples r) = r.value.is_closed
is_closed_text (Turtle r) = r.value.is_closed

-- Of a text that means what `means` says, x was fed to the reading, and ts were given.
abbrev pub IsFedText : Reading TextReader → (List ℕ → Meaning) → List ℕ → List RdfTriple → Type 0
IsFedText k means x ts = IsFedReading meaning_of_text LeadsText is_closed_text k means x ts

-- the same of the pieces that were fed, one by one, from its start
abbrev pub IsTextFedBy : Reading TextReader → (List ℕ → Meaning) → List (List ℕ) → List RdfTriple → Type 0
IsTextFedBy k means pieces ts = IsFedBy meaning_of_text LeadsText is_closed_text k means pieces ts

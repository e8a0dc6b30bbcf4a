-- A reader of one language does what it does as a reader of either.
use Rattle.std.proofs.Common.{◌≡◌, ℕ, List, ◌++◌, sym, subst, string_bytes, Result, Box, Global}
use Rattle.std.specs.Prelude.{OnOk, IfErr}
use Rattle.std.specs.Box.{with_value}
use Rattle.std.proofs.lemmas.Result.{on_ok_weaker}
use Rattle.gs_model.specs.Triples.{RdfTriple}
use Rattle.gs_model.specs.declared.refusals.Refusal.{Refusal}
use Rattle.gs_body.specs.Bodies.{Meaning, Reports}
use Rattle.gs_body.specs.Feeding.{Feeds, Finishes}
use Rattle.gs_ntread.specs.Documents.{meaning_by as ntriples_meaning}
use Rattle.gs_ntread.specs.Readers.{LeadsToNTriples as NTriplesLeads}
use Rattle.gs_ntread.specs.declared.reader.NTriplesReader.{NTriplesReader}
use Rattle.gs_turtle.specs.Documents.{meaning_by as turtle_meaning}
use Rattle.gs_turtle.specs.Readers.{IsLedBy as TurtleLeads}
use Rattle.gs_turtle.specs.declared.readers.TurtleReader.{TurtleReader}
use Rattle.gs_upload.specs.declared.readers.TextReader.{TextReader}
use Rattle.gs_upload.specs.declared.readers.TextReader.TheVariants.{NTriples, Turtle}
use Rattle.gs_upload.specs.Readers.{meaning_of_text, LeadsText}

-- what a call reports of a text that goes on, or ends
abbrev pub FaultOn : {R : Type 0} → (R → List ℕ → Meaning) → (R → List ℕ → List RdfTriple → Type 0) → R → List ℕ → Refusal → Type 0
FaultOn meaning_of Leads r piece e = (x : List ℕ) (ts : List RdfTriple) → Leads r x ts → (y : List ℕ) → Reports e (meaning_of r (x ++ piece ++ y))

abbrev pub FaultEnd : {R : Type 0} → (R → List ℕ → Meaning) → (R → List ℕ → List RdfTriple → Type 0) → R → Refusal → Type 0
FaultEnd meaning_of Leads r e = (x : List ℕ) (ts : List RdfTriple) → Leads r x ts → Reports e (meaning_of r x)

-- what each reader's `impl` of the trait has
abbrev pub ntriples_text : NTriplesReader → List ℕ → Meaning
ntriples_text r x = ntriples_meaning r.request x

abbrev pub turtle_text : TurtleReader → List ℕ → Meaning
turtle_text r x = turtle_meaning (string_bytes r.base) r.request x

-- a piece is fed to a reader of N-Triples
pub ntriples_feeds : (o : Result (Unit {0}) Refusal) (k : TextReader) (b : Box NTriplesReader Global) (r n : NTriplesReader) (piece : List ℕ) (before after : List RdfTriple) → k ≡ NTriples b → r ≡ b.value
    → OnOk o (Feeds ntriples_text NTriplesLeads r n piece before after) → OnOk o (Feeds meaning_of_text LeadsText k (NTriples (with_value b n)) piece before after)
ntriples_feeds o k b r n piece before after is at h =
    let Q : NTriplesReader → Type 0 = λ z. OnOk o (Feeds ntriples_text NTriplesLeads z n piece before after) in
    let P : TextReader → Type 0 = λ z. OnOk o (Feeds meaning_of_text LeadsText z (NTriples (with_value b n)) piece before after) in
    subst P (sym is) (on_ok_weaker o (λ f. record { given = f.given; grown = f.grown; leads = f.leads; begun = f.begun; settled = f.settled }) (subst Q at h))

pub ntriples_faults : (o : Result (Unit {0}) Refusal) (k : TextReader) (b : Box NTriplesReader Global) (r : NTriplesReader) (piece : List ℕ) → k ≡ NTriples b → r ≡ b.value
    → IfErr o (FaultOn ntriples_text NTriplesLeads r piece) → IfErr o (FaultOn meaning_of_text LeadsText k piece)
ntriples_faults o k b r piece is at h =
    let Q : NTriplesReader → Type 0 = λ z. IfErr o (FaultOn ntriples_text NTriplesLeads z piece) in
    let P : TextReader → Type 0 = λ z. IfErr o (FaultOn meaning_of_text LeadsText z piece) in
    subst P (sym is) (subst Q at h)

-- and its text ends
pub ntriples_finishes : (o : Result (Unit {0}) Refusal) (k : TextReader) (b : Box NTriplesReader Global) (r : NTriplesReader) (before after : List RdfTriple) → k ≡ NTriples b → r ≡ b.value
    → OnOk o (Finishes ntriples_text NTriplesLeads r before after) → OnOk o (Finishes meaning_of_text LeadsText k before after)
ntriples_finishes o k b r before after is at h =
    let Q : NTriplesReader → Type 0 = λ z. OnOk o (Finishes ntriples_text NTriplesLeads z before after) in
    let P : TextReader → Type 0 = λ z. OnOk o (Finishes meaning_of_text LeadsText z before after) in
    subst P (sym is) (on_ok_weaker o (λ f. record { given = f.given; grown = f.grown; whole = f.whole; all = f.all }) (subst Q at h))

pub ntriples_end_faults : (o : Result (Unit {0}) Refusal) (k : TextReader) (b : Box NTriplesReader Global) (r : NTriplesReader) → k ≡ NTriples b → r ≡ b.value
    → IfErr o (FaultEnd ntriples_text NTriplesLeads r) → IfErr o (FaultEnd meaning_of_text LeadsText k)
ntriples_end_faults o k b r is at h =
    let Q : NTriplesReader → Type 0 = λ z. IfErr o (FaultEnd ntriples_text NTriplesLeads z) in
    let P : TextReader → Type 0 = λ z. IfErr o (FaultEnd meaning_of_text LeadsText z) in
    subst P (sym is) (subst Q at h)

-- a piece is fed to a reader of Turtle
pub turtle_feeds : (o : Result (Unit {0}) Refusal) (k : TextReader) (b : Box TurtleReader Global) (r n : TurtleReader) (piece : List ℕ) (before after : List RdfTriple) → k ≡ Turtle b → r ≡ b.value
    → OnOk o (Feeds turtle_text TurtleLeads r n piece before after) → OnOk o (Feeds meaning_of_text LeadsText k (Turtle (with_value b n)) piece before after)
turtle_feeds o k b r n piece before after is at h =
    let Q : TurtleReader → Type 0 = λ z. OnOk o (Feeds turtle_text TurtleLeads z n piece before after) in
    let P : TextReader → Type 0 = λ z. OnOk o (Feeds meaning_of_text LeadsText z (Turtle (with_value b n)) piece before after) in
    subst P (sym is) (on_ok_weaker o (λ f. record { given = f.given; grown = f.grown; leads = f.leads; begun = f.begun; settled = f.settled }) (subst Q at h))

pub turtle_faults : (o : Result (Unit {0}) Refusal) (k : TextReader) (b : Box TurtleReader Global) (r : TurtleReader) (piece : List ℕ) → k ≡ Turtle b → r ≡ b.value
    → IfErr o (FaultOn turtle_text TurtleLeads r piece) → IfErr o (FaultOn meaning_of_text LeadsText k piece)
turtle_faults o k b r piece is at h =
    let Q : TurtleReader → Type 0 = λ z. IfErr o (FaultOn turtle_text TurtleLeads z piece) in
    let P : TextReader → Type 0 = λ z. IfErr o (FaultOn meaning_of_text LeadsText z piece) in
    subst P (sym is) (subst Q at h)

-- and its text ends
pub turtle_finishes : (o : Result (Unit {0}) Refusal) (k : TextReader) (b : Box TurtleReader Global) (r : TurtleReader) (before after : List RdfTriple) → k ≡ Turtle b → r ≡ b.value
    → OnOk o (Finishes turtle_text TurtleLeads r before after) → OnOk o (Finishes meaning_of_text LeadsText k before after)
turtle_finishes o k b r before after is at h =
    let Q : TurtleReader → Type 0 = λ z. OnOk o (Finishes turtle_text TurtleLeads z before after) in
    let P : TextReader → Type 0 = λ z. OnOk o (Finishes meaning_of_text LeadsText z before after) in
    subst P (sym is) (on_ok_weaker o (λ f. record { given = f.given; grown = f.grown; whole = f.whole; all = f.all }) (subst Q at h))

pub turtle_end_faults : (o : Result (Unit {0}) Refusal) (k : TextReader) (b : Box TurtleReader Global) (r : TurtleReader) → k ≡ Turtle b → r ≡ b.value
    → IfErr o (FaultEnd turtle_text TurtleLeads r) → IfErr o (FaultEnd meaning_of_text LeadsText k)
turtle_end_faults o k b r is at h =
    let Q : TurtleReader → Type 0 = λ z. IfErr o (FaultEnd turtle_text TurtleLeads z) in
    let P : TextReader → Type 0 = λ z. IfErr o (FaultEnd meaning_of_text LeadsText z) in
    subst P (sym is) (subst Q at h)

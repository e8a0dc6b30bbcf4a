-- What a GET of all graphs is given: the lines of the whole dataset (N-Quads, 25 February 2014, section 2).
use Rattle.std.specs.Prelude.{◌≡◌, ℕ, false, List, [], ◌∷◌, ◌++◌, map as each, Option, Some}
use Rattle.std.specs.List.{concat}
use Rattle.gs_model.specs.Triples.{RdfTriple, line_of}
use Rattle.gs_model.specs.Graphs.{Graph, triples_of}
use Rattle.gs_term.specs.Names.{quad_line_of}
use Rattle.gs_term.specs.declared.names.Target.{Target}
use Rattle.gs_term.specs.declared.names.Target.TheVariants.{Default, Named}
use Rattle.gs_event.specs.declared.events.Scope.TheVariants.{All}
use Rattle.gs_event.specs.declared.events.Action.TheVariants.{Head, Pin}
use Rattle.gs_event.specs.declared.events.Event.{Event}
use Rattle.gs_event.specs.declared.events.Event.TheVariants.{Seat as At}
use Rattle.gs_event.specs.declared.answers.Answer.{Answer}
use Rattle.gs_event.specs.declared.answers.Answer.TheVariants.{Status, Pinned}
use Rattle.gs_event.specs.Datasets.{graph_at, quads_of}
use Rattle.gs_event.specs.Operations.{Puts}
use Rattle.gs_event.specs.Views.{is_written}
use Rattle.gs_event.specs.Histories.{History, Start, IsLegal, dataset_after}
use Rattle.gs_protocol_laws.specs.Reads.{IsWholeGet}
use Rattle.gs_protocol_laws.specs.ReadBack.{IsWrite, SpareSince}

-- A whole GET of all graphs is given the lines that the dataset had when it was pinned, whatever other seats did since.
abbrev pub AllGetsGiveTheDataset : Type 0
AllGetsGiveTheDataset = (start : Start) (before whole : History) (seat : ℕ) (bytes : List ℕ) → IsLegal start whole
    → IsWholeGet seat All before whole bytes → bytes ≡ concat (quads_of (dataset_after start before))

-- A HEAD of all graphs is answered 200, whatever they are,
abbrev pub AllHeadsAreOk : Type 0
AllHeadsAreOk = (start : Start) (h : History) (seat s number : ℕ) (name : Option (List ℕ))
    → IsLegal start ((At seat (Head All), Status s name number) ∷ h) → s ≡ 200

-- and so is a GET.
abbrev pub AllPinsAreOk : Type 0
AllPinsAreOk = (start : Start) (h : History) (seat s number : ℕ) → IsLegal start ((At seat (Pin All), Pinned s number) ∷ h) → s ≡ 200

-- none of these events, of whichever seat, was a write that was answered 201 or 204
abbrev pub WriteNothing : History → Type 0
WriteNothing [] = Unit {0}
WriteNothing (x ∷ before) = WriteNothing before × (is_written x.1 ≡ false)

-- Two whole GETs of all graphs between whose pins nothing was written are given the same bytes.
abbrev pub AllGetsAgree : Type 0
AllGetsAgree = (start : Start) (before later whole whole_later : History) (seat seat_later : ℕ) (bytes bytes_later : List ℕ)
    → IsLegal start whole → IsLegal start whole_later → WriteNothing later
    → IsWholeGet seat All before whole bytes → IsWholeGet seat_later All (later ++ before) whole_later bytes_later → bytes_later ≡ bytes

-- the line of a triple of this target's graph, among the lines of all graphs
abbrev pub line_among : Target → RdfTriple → List ℕ
line_among Default t = line_of t
line_among (Named name) t = quad_line_of name t

-- The bytes are these lines, one after another, and among the lines is one for each triple of the target's graph, in a row.
pub record HasLinesOf (t : Target) (g : Graph) (lines : List (List ℕ)) (bytes : List ℕ) : Type 0 where
  pub given : bytes ≡ concat lines
  pub front : List (List ℕ)
  pub back : List (List ℕ)
  pub whole : lines ≡ front ++ each (line_among t) (triples_of g) ++ back

-- A whole GET of all graphs has each graph that was there when it was pinned, among the lines of the dataset.
abbrev pub AllGetsHaveEachGraph : Type 0
AllGetsHaveEachGraph = (start : Start) (before whole : History) (seat : ℕ) (t : Target) (g : Graph) (bytes : List ℕ) → IsLegal start whole
    → IsWholeGet seat All before whole bytes → graph_at (dataset_after start before) t ≡ Some g
    → HasLinesOf t g (quads_of (dataset_after start before)) bytes

-- So a PUT is read back there too, until a later write of its target takes effect.
abbrev pub PutsAreInAllGets : Type 0
PutsAreInAllGets = (start : Start) (before later whole : History) (x : Event × Answer) (t : Target) (g : Graph) (seat : ℕ) (bytes : List ℕ)
    → IsLegal start whole → IsWrite before x (Puts t g) → SpareSince start t (x ∷ before) later
    → IsWholeGet seat All (later ++ x ∷ before) whole bytes
    → HasLinesOf t g (quads_of (dataset_after start (later ++ x ∷ before))) bytes

-- Blank nodes are those of the request that brought them (RDF 1.1 Concepts, section 3.4).
use Rattle.std.specs.Prelude.{◌≡◌, ℕ, List}
use Rattle.std.specs.List.{All}
use Rattle.gs_model.specs.Terms.{Term, Blank}
use Rattle.gs_model.specs.Triples.{RdfTriple}
use Rattle.gs_body.specs.Bodies.{all_stated}
use Rattle.gs_term.specs.declared.patterns.Part.{Part}
use Rattle.gs_term.specs.declared.patterns.Part.TheVariants.{Term as TheTerm, Variable}
use Rattle.gs_term.specs.declared.patterns.Pattern.{Pattern}
use Rattle.gs_upload.specs.declared.languages.Language.{Language}
use Rattle.gs_upload.specs.Languages.{meaning_in}
use Rattle.gs_event.specs.declared.updates.Op.{Op}
use Rattle.gs_event.specs.declared.updates.Op.TheVariants.{Insert, DeleteData, DeleteWhere}
use Rattle.gs_update_text.specs.Texts.{request_by}
use Rattle.gs_update.specs.Answers.{AreOperationsOf}

-- a term that is no blank node, or one of this request
abbrev pub NamesOwn : ℕ → Term → Type 0
NamesOwn r (Blank q k) = q ≡ r
NamesOwn r t = Unit {0}

-- the terms of a triple
abbrev pub HasOwn : ℕ → RdfTriple → Type 0
HasOwn r t = NamesOwn r t.subject × NamesOwn r t.predicate × NamesOwn r t.object

-- a part of a pattern
abbrev pub IsOwnPart : ℕ → Part → Type 0
IsOwnPart r (TheTerm t) = NamesOwn r t
IsOwnPart r (Variable x) = Unit {0}

-- the parts of a pattern
abbrev pub MatchesOwn : ℕ → Pattern → Type 0
MatchesOwn r p = IsOwnPart r p.subject × IsOwnPart r p.predicate × IsOwnPart r p.object

-- what an operation says
abbrev pub SaysOwn : ℕ → Op → Type 0
SaysOwn r (Insert ts) = All (HasOwn r) ts.items
SaysOwn r (DeleteData ts) = All (HasOwn r) ts.items
SaysOwn r (DeleteWhere ps) = All (MatchesOwn r) ps.items

-- Each blank node that a document says is one of its request, also where the document has a fault.
abbrev pub DocumentsNameTheirOwn : Type 0
DocumentsNameTheirOwn = (l : Language) (base : List ℕ) (r : ℕ) (x : List ℕ) → All (HasOwn r) (all_stated (meaning_in l base r x).0)

-- so is each that an update says
abbrev pub UpdatesNameTheirOwn : Type 0
UpdatesNameTheirOwn = (base : List ℕ) (r : ℕ) (x : List ℕ) (ops : List Op) → AreOperationsOf ops (request_by base r x) → All (SaysOwn r) ops

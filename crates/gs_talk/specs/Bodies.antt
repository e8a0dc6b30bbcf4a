-- What the body of a request says, under the number that the store gave it.
use Rattle.std.specs.Prelude.{◌≡◌, ℕ, List, ◌++◌, codes, Option, Some, None}
use Rattle.gs_model.specs.Triples.{RdfTriple}
use Rattle.gs_event.specs.declared.updates.Op.{Op}
use Rattle.gs_term.specs.declared.names.Target.{Target}
use Rattle.gs_term.specs.declared.names.Target.TheVariants.{Named}
use Rattle.gs_body.specs.Bodies.{Meaning, Ending, Whole, Faulty, all_stated}
use Rattle.gs_names.specs.declared.media.Media.{Media}
use Rattle.gs_names.specs.declared.media.Media.TheVariants as media
use Rattle.gs_upload.specs.declared.languages.Language.{Language}
use Rattle.gs_upload.specs.declared.languages.Language.TheVariants as language
use Rattle.gs_upload.specs.Languages.{meaning_in}
use Rattle.gs_update_text.specs.Requests.{Broken, OutOfProfile, Rejection}
use Rattle.gs_update_text.specs.Texts.{request_by}
use Rattle.gs_update.specs.Answers.{AreOperationsOf}
use Rattle.gs_verdict.specs.declared.verdicts.Asked.{Asked}
use Rattle.gs_talk.specs.Plans.{Plan, Uploads, Patches}

-- the base of a body's text: the name of its graph; for the default graph, and for the store itself, that of the store
abbrev pub text_base : List ℕ → Option Target → List ℕ
text_base base (Some (Named name)) = name
text_base base other = base ++ codes "/store"

-- the language of a document's type
abbrev pub document_language : Media → Language
document_language media.Turtle = language.Turtle
document_language other = language.NTriples

-- the status of a document that has a fault
abbrev pub fault_status : Ending → Option ℕ
fault_status Whole = None
fault_status (Faulty f) = Some 400

-- the status of an update that has one
abbrev pub rejection_status : Option Rejection → Option ℕ
rejection_status None = None
rejection_status (Some OutOfProfile) = Some 422
rejection_status (Some (Broken f)) = Some 400

-- the statuses of a body that is no document, or no update that is served
abbrev pub refusal_at : List ℕ → Asked → Plan → ℕ → List ℕ → Option ℕ
refusal_at base a (Uploads k since) r body = fault_status (meaning_in (document_language a.body) (text_base base a.graph) r body).1
refusal_at base a (Patches t since) r body = rejection_status (request_by (text_base base a.graph) r body).1
refusal_at base a p r body = None

-- a meaning without a fault, of exactly these triples in their order
abbrev pub HasTriples : Meaning → List RdfTriple → Type 0
HasTriples m ts = (m.1 ≡ Whole) × (ts ≡ all_stated m.0)

-- a document has no fault, and states exactly these triples
abbrev pub States : List ℕ → Asked → ℕ → List ℕ → List RdfTriple → Type 0
States base a r body ts = HasTriples (meaning_in (document_language a.body) (text_base base a.graph) r body) ts

-- an update has no fault, and is these operations in their order
abbrev pub Orders : List ℕ → Asked → ℕ → List ℕ → List Op → Type 0
Orders base a r body ops = AreOperationsOf ops (request_by (text_base base a.graph) r body)

-- What the answers of a store print.
use Rattle.std.specs.Prelude.{◌≡◌, ℕ, nat_eq, List, [], ◌∷◌, ◌++◌, if◌then◌else◌, codes, Option, None, Some, Result, MatchResult}
use Rattle.std.specs.Io.KnownBytes.{Appends}
use Rattle.gs_model.specs.Characters.{line_feed, space}
use Rattle.gs_model.specs.Terms.{numeral}
use Rattle.gs_model.specs.Refusals.{name_of}
use Rattle.gs_event.specs.declared.answers.Answer.{Answer}
use Rattle.gs_event.specs.declared.answers.Answer.TheVariants.{Opened, Staged, Status, Pinned, Lines, Cancelled, Reclaimed, Refused}
use Rattle.gs_drill.specs.declared.printing.Reply.{Reply}
use Rattle.gs_drill.specs.declared.printing.Reply.TheVariants.{Answered, Taken, Fault, Outside}

-- a space and the name of the graph that was made up, if one was
abbrev pub location_text : Option (List ℕ) → List ℕ
location_text None = []
location_text (Some name) = space ∷ name

-- what stands after a status: after 412 a space and the number of the last write, and after any other the name
abbrev pub note_text : ℕ → Option (List ℕ) → ℕ → List ℕ
note_text s name number = if nat_eq s 412 then space ∷ numeral number else location_text name

-- one line; the lines of a piece, and then a line
abbrev pub answer_text : Answer → List ℕ
answer_text (Opened r) = codes "opened " ++ numeral r ++ line_feed ∷ []
answer_text Staged = codes "staged" ++ line_feed ∷ []
answer_text (Status s name number) = numeral s ++ note_text s name number ++ line_feed ∷ []
answer_text (Pinned s number) = numeral s ++ line_feed ∷ []
answer_text (Lines lines is_end) = lines.items ++ (if is_end then codes "end" else codes "more") ++ line_feed ∷ []
answer_text Cancelled = codes "cancelled" ++ line_feed ∷ []
answer_text (Reclaimed freed left) = codes "reclaimed " ++ numeral freed ++ (if left then codes " more" else codes " done") ++ line_feed ∷ []
answer_text (Refused refusal) = codes "refused " ++ name_of refusal ++ line_feed ∷ []

-- what a feed prints
abbrev pub fed_text : List ℕ
fed_text = codes "fed" ++ line_feed ∷ []

-- what the commit of a text with a fault prints, and a patch whose text has one
abbrev pub fault_text : List ℕ
fault_text = codes "fault 400" ++ line_feed ∷ []

-- what a patch prints whose text is outside what is served
abbrev pub outside_text : List ℕ
outside_text = codes "fault 422" ++ line_feed ∷ []

-- what a line prints
abbrev pub reply_text : Reply → List ℕ
reply_text (Answered a) = answer_text a
reply_text Taken = fed_text
reply_text Fault = fault_text
reply_text Outside = outside_text

-- the nodes and records in use, and the triples of all graphs
abbrev pub counts_text : ℕ → ℕ → List ℕ
counts_text nodes triples = codes "nodes " ++ numeral nodes ++ (codes " triples " ++ numeral triples) ++ line_feed ∷ []

-- what is said of a line that is no command
abbrev pub no_command_text : ℕ → List ℕ
no_command_text line = codes "gsdrill: line " ++ numeral line ++ codes " is no command" ++ line_feed ∷ []

-- what is said of want of memory
abbrev pub no_memory_text : List ℕ
no_memory_text = codes "gsdrill: no memory" ++ line_feed ∷ []

-- a prefix of the text is written
pub record WritesFront (old new : Option (List ℕ)) (text : List ℕ) : Type 0 where
  pub printed : List ℕ
  pub rest : List ℕ
  pub parts : text ≡ printed ++ rest
  pub appends : Appends old new printed

-- the text is written; where that fails, a prefix of it
abbrev pub Writes : {X E : Type 0} → Option (List ℕ) → Option (List ℕ) → List ℕ → Result X E → Type 0
Writes old new text written = MatchResult written (λ _. Appends old new text) (λ _. WritesFront old new text)

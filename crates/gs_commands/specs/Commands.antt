-- What a line of a schedule says. Words are parted by one space.
use Rattle.std.specs.Prelude.{◌≡◌, ◌⊎◌, ℕ, ◌≤◌, Bool, true, ◌==◌, List, [], ◌∷◌, ◌++◌, codes, if◌then◌else◌, Option, None, MatchOption}
use Rattle.std.specs.Str.{IsUtf8}
use Rattle.gs_model.specs.Characters.{line_feed, space, number_sign}
use Rattle.gs_model.specs.Limits.{last_number, max_seats}
use Rattle.gs_model.specs.Terms.{numeral}
use Rattle.gs_model.specs.Triples.{RdfTriple, IsTriple, line_of}
use Rattle.gs_event.specs.declared.events.UploadKind.{UploadKind}
use Rattle.gs_event.specs.declared.events.UploadKind.TheVariants.{Put, Post, New}
use Rattle.gs_event.specs.declared.events.Action.{Action}
use Rattle.gs_event.specs.declared.events.Action.TheVariants.{Open, OpenPatch, Stage, Commit, CommitPatch, Delete, Head, Pin, Piece, Cancel}
use Rattle.gs_event.specs.declared.events.Event.{Event}
use Rattle.gs_event.specs.declared.events.Event.TheVariants.{Seat as At, Reclaim}
use Rattle.gs_commands.specs.declared.commands.Command.{Command}
use Rattle.gs_commands.specs.declared.commands.Command.TheVariants.{Nothing, Begin, Ask, Count, Feed, Patch, Cut}
use Rattle.gs_upload.specs.declared.languages.Language.{Language}
use Rattle.gs_upload.specs.declared.languages.Language.TheVariants.{NTriples, Turtle}
use Rattle.gs_commands.specs.Found.{SaysNumber, SaysAfter, last_u16, last_u32, last_u64}
use Rattle.gs_commands.specs.Targets.{SaysScope, SaysTargetSince}

-- a character at the front of the first line, or as the only line where there is none
abbrev pub before_first : ℕ → List (List ℕ) → List (List ℕ)
before_first c [] = (c ∷ []) ∷ []
before_first c (x ∷ xs) = (c ∷ x) ∷ xs

-- the lines of an input: each ends with a line feed, which the last may lack
abbrev pub lines_in : List ℕ → List (List ℕ)
lines_in [] = []
lines_in (c ∷ cs) = if c == line_feed then [] ∷ lines_in cs else before_first c (lines_in cs)

-- what an upload is opened for, with such a number or without; a new graph has none
abbrev pub SaysKind : UploadKind → Option ℕ → List ℕ → Type 0
SaysKind (Put t) since x = SaysAfter (codes "put ") (SaysTargetSince t since) x
SaysKind (Post t) since x = SaysAfter (codes "post ") (SaysTargetSince t since) x
SaysKind New since x = (x ≡ codes "new") × (since ≡ None)

-- a triple, by its canonical line
abbrev pub SaysLine : RdfTriple → List ℕ → Type 0
SaysLine t x = (line_of t ≡ x) × IsTriple t

-- a triple, by its canonical line without the line feed
abbrev pub SaysTriple : RdfTriple → List ℕ → Type 0
SaysTriple t x = SaysLine t (x ++ line_feed ∷ [])

-- one triple
abbrev pub SaysTriples : List RdfTriple → List ℕ → Type 0
SaysTriples [] x = ⊥
SaysTriples (t ∷ []) x = SaysTriple t x
SaysTriples (t ∷ u ∷ ts) x = ⊥

-- the action of a seat; no line says a patch's commit, which comes of a text
abbrev pub SaysAction : Action → List ℕ → Type 0
SaysAction (Open k since) x = SaysAfter (codes "open ") (SaysKind k since) x
SaysAction (OpenPatch t since) x = SaysAfter (codes "open patch ") (SaysTargetSince t since) x
SaysAction (Stage ts) x = SaysAfter (codes "stage ") (SaysTriples ts.items) x
SaysAction Commit x = x ≡ codes "commit"
SaysAction (CommitPatch ops) x = ⊥
SaysAction (Delete t since) x = SaysAfter (codes "delete ") (SaysTargetSince t since) x
SaysAction (Head c) x = SaysAfter (codes "head ") (SaysScope c) x
SaysAction (Pin c) x = SaysAfter (codes "pin ") (SaysScope c) x
SaysAction (Piece n) x = SaysAfter (codes "piece ") (SaysNumber last_u32 n) x
SaysAction Cancel x = x ≡ codes "cancel"

-- an event: a seat's number and its action, or `reclaim` and a number
abbrev pub SaysEvent : Event → List ℕ → Type 0
SaysEvent (At s action) x = (s ≤ last_u16) × SaysAfter (numeral s ++ space ∷ []) (SaysAction action) x
SaysEvent (Reclaim n) x = SaysAfter (codes "reclaim ") (SaysNumber last_u64 n) x

-- the text of a feed is the rest of the line and a line feed
abbrev pub SaysText : List ℕ → List ℕ → Type 0
SaysText y x = (y ≡ x ++ line_feed ∷ []) × IsUtf8 x

-- the words of a feed, by its language
abbrev pub feed_words : Language → List ℕ
feed_words NTriples = codes "feed nt "
feed_words Turtle = codes "feed ttl "

-- a seat's number, the language, and the text, which may be empty
abbrev pub SaysFeed : ℕ → Language → List ℕ → List ℕ → Type 0
SaysFeed s l y x = (s ≤ last_u16) × SaysAfter (numeral s ++ space ∷ []) (SaysAfter (feed_words l) (SaysText y)) x

-- the text of an update: the rest of the line as it is; an empty one may be left out with its space
abbrev pub SaysUpdate : List ℕ → List ℕ → Type 0
SaysUpdate y x = ((x ≡ codes "patch") × (y ≡ [])) ⊎ ((x ≡ codes "patch " ++ y) × IsUtf8 y)

-- a seat's number, and the text of an update
abbrev pub SaysPatch : ℕ → List ℕ → List ℕ → Type 0
SaysPatch s y x = (s ≤ last_u16) × SaysAfter (numeral s ++ space ∷ []) (SaysUpdate y) x

-- what stands after `stage ` is a triple, and the action stages it; there is none only where it is none
abbrev pub FindsStage : List ℕ → Option Action → Type 0
FindsStage x found = MatchOption found ((t : RdfTriple) → ¬ SaysTriple t x) (λ action. SaysAction action (codes "stage " ++ x))

-- the event of a seat that a line says, and none only where it says none
abbrev pub FindsSeatEvent : List ℕ → Option Event → Type 0
FindsSeatEvent x found = MatchOption found ((s : ℕ) (action : Action) → ¬ SaysEvent (At s action) x) (λ event. SaysEvent event x)

-- the line is no seat's event, no feed and no patch
pub record SaysNothingAt (x : List ℕ) : Type 0 where
  pub no_event : (s : ℕ) (action : Action) → ¬ SaysEvent (At s action) x
  pub no_feed : (s : ℕ) (l : Language) (y : List ℕ) → ¬ SaysFeed s l y x
  pub no_patch : (s : ℕ) (y : List ℕ) → ¬ SaysPatch s y x

-- how many seats, and the numbers of the last commit and of the last request
pub record SaysStart (seats commit request : ℕ) (x : List ℕ) : Type 0 where
  pub parts : x ≡ numeral seats ++ space ∷ (numeral commit ++ space ∷ numeral request)
  pub some : 1 ≤ seats
  pub most : seats ≤ max_seats
  pub commit_left : commit ≤ last_number
  pub request_left : request ≤ last_number

-- an empty line, or one that begins with '#'
abbrev pub is_skipped : List ℕ → Bool
is_skipped [] = true
is_skipped (c ∷ cs) = c == number_sign

-- what a line says
abbrev pub SaysCommand : Command → List ℕ → Type 0
SaysCommand Nothing x = (is_skipped x ≡ true) × IsUtf8 x
SaysCommand (Begin seats commit request) x = SaysAfter (codes "store ") (SaysStart seats commit request) x
SaysCommand (Ask event) x = SaysEvent event x
SaysCommand Count x = x ≡ codes "counts"
SaysCommand (Feed s l y) x = SaysFeed s l y.items x
SaysCommand (Patch s y) x = SaysPatch s y.items x
SaysCommand (Cut n) x = SaysAfter (codes "cut ") (SaysNumber last_u64 n) x

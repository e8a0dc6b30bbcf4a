-- How a command, a line and a run of lines come out.
use Rattle.std.proofs.Common.{◌≡◌, ◌≢◌, ℕ, ◌+◌, ◌<◌, ◌≤◌, List, [], ◌∷◌, ◌++◌, length, Option, Some, Result, Ok, Err, refl, sym, ap, ◌∙◌, subst, append_assoc, append-nil, arith, length-append}
use Rattle.std.specs.Io.KnownBytes.{Appends}
use Rattle.gs_model.specs.Texts.{split_first}
use Rattle.gs_event.specs.declared.events.Event.{Event}
use Rattle.gs_event.specs.declared.events.Event.TheVariants.{Seat as At}
use Rattle.gs_event.specs.declared.events.Action.TheVariants.{Commit}
use Rattle.gs_commands.specs.declared.commands.Command.{Command}
use Rattle.gs_drill.specs.declared.stops.Stop.{Stop}
use Rattle.gs_drill.specs.declared.stops.Stop.TheVariants.{NoCommand, NoMemory, Failed}
use Rattle.gs_commands.specs.Commands.{SaysCommand, lines_in}
use Rattle.gs_drill.specs.Feeds.{Desk}
use Rattle.gs_drill.specs.Commits.{Asks, DoesEvent}
use Rattle.gs_drill.specs.Drills.{RunState, CarriesOut, DoesLine, Plays, FinishesRun, Halts, first_state}
use Rattle.gs_drill.specs.Taking.{PrintsAll, WritesReply, DoesCommand, TakesLine, EndsBy}
use Rattle.gs_drill.proofs.WritingLemmas.{Appends-append, Appends-none, WritesFront-next}
use Rattle.gs_drill.proofs.LateLemmas.{late_none}
use Rattle.gs_commands.proofs.LinesLemmas.{lines_in-split, length-split}
use Rattle.gs_drill.proofs.DrillLemmas.{Plays-more}

-- what is done at a desk, and printed, is what a command does
pub does_by : {T X : Type 0} (at : T → Desk) (s : RunState) (command : Command) (done : Desk → RunState) (Makes : List ℕ → Desk → Type 0) (old new : Option (List ℕ)) (r : Result X Stop)
    → ((text : List ℕ) (d : Desk) → Makes text d → CarriesOut s command text (done d)) → WritesReply at Makes old new r → DoesCommand s command (λ t. done (at t)) old new r
does_by at s command done Makes old new (Ok x) does replies = record { text = replies.text; last = replies.last; makes = does replies.text (at replies.last) replies.makes; written = replies.written }
does_by at s command done Makes old new (Err NoCommand) does replies = absurd replies
does_by at s command done Makes old new (Err NoMemory) does replies = replies
does_by at s command done Makes old new (Err Failed) does replies = record { text = replies.text; last = done replies.last; makes = does replies.text replies.last replies.makes; written = replies.written }

-- the same where a text is given that does not depend on the desk
pub printed_by : {T D X : Type 0} (at : T → D) (last : T) (Makes : List ℕ → D → Type 0) (printed : List ℕ) (old new : Option (List ℕ)) (r : Result X Stop)
    → Makes printed (at last) → WritesReply (λ (d : Unit {0}). d) (λ text d. text ≡ printed) old new r → WritesReply at Makes old new r
printed_by at last Makes printed old new (Ok x) makes replies = let P : List ℕ → Type 0 = λ z. Makes z (at last) in record { text = replies.text; last = last; makes = subst P (sym replies.makes) makes; written = replies.written }
printed_by at last Makes printed old new (Err NoCommand) makes replies = absurd replies
printed_by at last Makes printed old new (Err NoMemory) makes replies = replies
printed_by at last Makes printed old new (Err Failed) makes replies = let P : List ℕ → Type 0 = λ z. Makes z (at last) in record { text = replies.text; last = at last; makes = subst P (sym replies.makes) makes; written = replies.written }

-- an event that is no commit is asked
pub asks_event : (d e : Desk) (event : Event) (text : List ℕ) → ((s : ℕ) → event ≢ At s Commit) → Asks d event text e → DoesEvent d event text e
asks_event d e (At s Commit) text other asks = absurd (other s refl)
asks_event d e event text other asks = asks

-- what a command does is what its line does
pub does_takes : {T X : Type 0} (s : RunState) (after : T → RunState) (command : Command) (line : List ℕ) (old new : Option (List ℕ)) (r : Result X Stop) → SaysCommand command line → DoesCommand s command after old new r → TakesLine s line after old new r
does_takes s after command line old new (Ok x) says does = record { text = does.text; last = does.last; makes = record { command = command; says = says; does = does.makes }; written = does.written }
does_takes s after command line old new (Err NoCommand) says does = (late_none s command line says does.0, does.1)
does_takes s after command line old new (Err NoMemory) says does = does
does_takes s after command line old new (Err Failed) says does = record { text = does.text; last = does.last; makes = record { command = command; says = says; does = does.makes }; written = does.written }

length-snoc : (xs : List (List ℕ)) (x : List ℕ) → length (xs ++ x ∷ []) ≡ length xs + 1
length-snoc xs x = length-append xs (x ∷ [])

-- the first n lines of an input are played, and these bytes are left
pub record Playing (input rest : List ℕ) (n : ℕ) (s : RunState) (old new : Option (List ℕ)) : Type 0 where
  pub before : List (List ℕ)
  pub text : List ℕ
  pub parts : lines_in input ≡ before ++ lines_in rest
  pub number : n ≡ length before
  pub room : n + length rest ≤ length input
  pub plays : Plays first_state before text s
  pub written : Appends old new text

pub Playing-none : (input : List ℕ) (s : RunState) (old : Option (List ℕ)) → s ≡ first_state → Playing input input 0 s old old
Playing-none input s old same = record {
  before = [];
  text = [];
  parts = refl;
  number = refl;
  room = omega arith;
  plays = (refl, same);
  written = Appends-none old;
}

-- the next line is cut off
next_line : (input rest : List ℕ) (before : List (List ℕ)) → lines_in input ≡ before ++ lines_in rest → ¬ (rest ≡ []) → lines_in input ≡ before ++ (split_first 10 rest).0 ∷ lines_in (split_first 10 rest).1
next_line input rest before parts some = parts ∙ ap (λ z. before ++ z) (lines_in-split rest some)

pub Playing-more : (input rest line after : List ℕ) (n : ℕ) (s t : RunState) (old mid new : Option (List ℕ)) → Playing input rest n s old mid → ¬ (rest ≡ [])
    → line ≡ (split_first 10 rest).0 → after ≡ (split_first 10 rest).1 → PrintsAll (λ text. DoesLine s line text t) mid new → Playing input after (n + 1) t old new
Playing-more input rest line after n s t old mid new p some line_is after_is reports =
    let cut : lines_in input ≡ p.before ++ line ∷ lines_in after =
    next_line input rest p.before p.parts some ∙ ap (λ z. p.before ++ z ∷ lines_in (split_first 10 rest).1) (sym line_is) ∙ ap (λ z. p.before ++ line ∷ lines_in z) (sym after_is) in
    let shorter : length (split_first 10 rest).1 < length rest = length-split rest some in
    let same : length after ≡ length (split_first 10 rest).1 = ap length after_is in
    let room = p.room in
    record {
      before = p.before ++ line ∷ [];
      text = p.text ++ reports.text;
      parts = cut ∙ sym (append_assoc p.before (line ∷ []) (lines_in after));
      number = ap (λ k. k + 1) p.number ∙ sym (length-snoc p.before line);
      room = omega arith;
      plays = Plays-more p.before first_state s t p.text line reports.text p.plays reports.makes;
      written = Appends-append old mid new p.text reports.text p.written reports.written;
    }

pub Playing-all : (input rest : List ℕ) (n : ℕ) (s : RunState) (old new : Option (List ℕ)) → Playing input rest n s old new → rest ≡ [] → FinishesRun (Some input) old new
Playing-all input rest n s old new p none =
    let all : p.before ≡ lines_in input = sym (append-nil p.before) ∙ ap (λ z. p.before ++ lines_in z) (sym none) ∙ sym p.parts in
    let P : List (List ℕ) → Type 0 = λ z. Plays first_state z p.text s in
    record { input = input; read = refl; text = p.text; last = s; plays = subst P all p.plays; written = p.written }

pub Playing-ends : {T : Type 0} (input rest line : List ℕ) (n : ℕ) (s : RunState) (after : T → RunState) (old mid new : Option (List ℕ)) (stop : Stop) → Playing input rest n s old mid → ¬ (rest ≡ []) → line ≡ (split_first 10 rest).0
    → TakesLine s line after mid new {X = Unit {0}} (Err stop) → EndsBy (Some input) old new stop (n + 1)
Playing-ends input rest line n s after old mid new NoCommand p some line_is takes = record {
  input = input;
  read = refl;
  before = p.before;
  line = line;
  after = lines_in (split_first 10 rest).1;
  parts = next_line input rest p.before p.parts some ∙ ap (λ z. p.before ++ z ∷ lines_in (split_first 10 rest).1) (sym line_is);
  number = ap (λ k. k + 1) p.number;
  text = p.text;
  last = s;
  plays = p.plays;
  refused = takes.0;
  written = let w : Appends old new (p.text ++ []) = Appends-append old mid new p.text [] p.written takes.1 in subst (λ (z : List ℕ). Appends old new z) (append-nil p.text) w;
}
Playing-ends input rest line n s after old mid new NoMemory p some line_is takes = record {
  input = input;
  read = refl;
  before = p.before;
  after = lines_in rest;
  parts = p.parts;
  text = p.text;
  last = s;
  plays = p.plays;
  written = let w : Appends old new (p.text ++ []) = Appends-append old mid new p.text [] p.written takes in subst (λ (z : List ℕ). Appends old new z) (append-nil p.text) w;
}
Playing-ends input rest line n s after old mid new Failed p some line_is takes = record {
  input = input;
  read = refl;
  before = p.before ++ line ∷ [];
  after = lines_in (split_first 10 rest).1;
  parts = next_line input rest p.before p.parts some ∙ ap (λ z. p.before ++ z ∷ lines_in (split_first 10 rest).1) (sym line_is) ∙ sym (append_assoc p.before (line ∷ []) (lines_in (split_first 10 rest).1));
  text = p.text ++ takes.text;
  last = takes.last;
  plays = Plays-more p.before first_state s takes.last p.text line takes.text p.plays takes.makes;
  written = WritesFront-next old mid new p.text takes.text p.written takes.written;
}

-- before the first line
pub Halts-none : (input : List ℕ) (old : Option (List ℕ)) → Halts (Some input) old old
Halts-none input old = record { input = input; read = refl; before = []; after = lines_in input; parts = refl; text = []; last = first_state; plays = (refl, refl); written = Appends-none old }

pub shorter : (x after : List ℕ) → ¬ (x ≡ []) → after ≡ (split_first 10 x).1 → length after < length x
shorter x after some is = let P : List ℕ → Type 0 = λ z. length z < length x in subst P (sym is) (length-split x some)

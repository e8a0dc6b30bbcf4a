-- What a run of lines says of a reader and of a writer.
use Rattle.std.proofs.Common.{◌≡◌, inl, inr, ℕ, List, [], ◌∷◌, ◌++◌, Option, Some, None, Result, Ok, Err, refl, sym, ap, ◌∙◌, subst, append-nil}
use Rattle.std.specs.Prelude.{IfSome}
use Rattle.std.specs.Io.KnownBytes.{Appends, Keeps}
use Rattle.gs_drill.specs.declared.stops.Stop.{Stop}
use Rattle.gs_drill.specs.declared.stops.Stop.TheVariants.{NoCommand, NoMemory, Failed}
use Rattle.gs_commands.specs.Commands.{lines_in}
use Rattle.gs_drill.specs.Printing.{WritesFront, no_command_text}
use Rattle.gs_drill.specs.Drills.{IsInput, FinishesRun, SaysStop, Halts, BreaksOff, FailsRun, first_state}
use Rattle.gs_drill.specs.Taking.{EndsBy, EndsRun, stop_text}
use Rattle.gs_drill.proofs.WritingLemmas.{Appends-keeps, Appends-none, WritesFront-all, WritesFront-none, WritesFront-keeps}

pub given_read : (given : Option (List ℕ)) (start x : List ℕ) → start ≡ [] → IfSome given (λ xs. x ≡ start ++ xs) → IsInput given x
given_read None start x e h = tt
given_read (Some ys) start x e h = h ∙ ap (λ z. z ++ ys) e

pub reread : (given : Option (List ℕ)) (x input : List ℕ) → IsInput given x → input ≡ x → IsInput given input
reread given x input h e = let P : List ℕ → Type 0 = λ z. IsInput given z in subst P (sym e) h

by_given : (given : Option (List ℕ)) (x : List ℕ) → IsInput given x → (old new : Option (List ℕ)) (stop : Stop) (n : ℕ) → EndsBy (Some x) old new stop n → EndsBy given old new stop n
by_given given x h old new NoCommand n e = record {
  input = e.input;
  read = reread given x e.input h e.read;
  before = e.before;
  line = e.line;
  after = e.after;
  parts = e.parts;
  number = e.number;
  text = e.text;
  last = e.last;
  plays = e.plays;
  refused = e.refused;
  written = e.written;
}
by_given given x h old new NoMemory n e = record {
  input = e.input;
  read = reread given x e.input h e.read;
  before = e.before;
  after = e.after;
  parts = e.parts;
  text = e.text;
  last = e.last;
  plays = e.plays;
  written = e.written;
}
by_given given x h old new Failed n e = record {
  input = e.input;
  read = reread given x e.input h e.read;
  before = e.before;
  after = e.after;
  parts = e.parts;
  text = e.text;
  last = e.last;
  plays = e.plays;
  written = e.written;
}

pub ends_given : {X : Type 0} (given : Option (List ℕ)) (x : List ℕ) → IsInput given x → (old new : Option (List ℕ)) (r : Result X (Stop × ℕ)) → EndsRun (Some x) old new r → EndsRun given old new r
ends_given given x h old new (Ok z) e = record { input = e.input; read = reread given x e.input h e.read; text = e.text; last = e.last; plays = e.plays; written = e.written }
ends_given given x h old new (Err p) e = by_given given x h old new p.0 p.1 e

-- a run that takes no line
input_of : Option (List ℕ) → List ℕ
input_of None = []
input_of (Some xs) = xs

read_of : (given : Option (List ℕ)) → IsInput given (input_of given)
unfolding input_of
read_of None = tt
read_of (Some xs) = refl

pub halts_first : (given old : Option (List ℕ)) → Halts given old old
halts_first given old = record {
  input = input_of given;
  read = read_of given;
  before = [];
  after = lines_in (input_of given);
  parts = refl;
  text = [];
  last = first_state;
  plays = (refl, refl);
  written = Appends-none old;
}

halts_breaks : (given old new : Option (List ℕ)) → Halts given old new → BreaksOff given old new
halts_breaks given old new e = record {
  input = e.input;
  read = e.read;
  before = e.before;
  after = e.after;
  parts = e.parts;
  text = e.text;
  last = e.last;
  plays = e.plays;
  written = WritesFront-all old new e.text e.written;
}

pub breaks_first : (given old : Option (List ℕ)) → BreaksOff given old old
breaks_first given old = halts_breaks given old old (halts_first given old)

by_breaks : (given old new : Option (List ℕ)) (stop : Stop) (n : ℕ) → EndsBy given old new stop n → BreaksOff given old new
by_breaks given old new NoCommand n e = record {
  input = e.input;
  read = e.read;
  before = e.before;
  after = e.line ∷ e.after;
  parts = e.parts;
  text = e.text;
  last = e.last;
  plays = e.plays;
  written = WritesFront-all old new e.text e.written;
}
by_breaks given old new NoMemory n e = halts_breaks given old new e
by_breaks given old new Failed n e = e

pub ends_breaks : {X : Type 0} (given old new : Option (List ℕ)) (r : Result X (Stop × ℕ)) → EndsRun given old new r → BreaksOff given old new
ends_breaks given old new (Ok z) e = record {
  input = e.input;
  read = e.read;
  before = lines_in e.input;
  after = [];
  parts = sym (append-nil (lines_in e.input));
  text = e.text;
  last = e.last;
  plays = e.plays;
  written = WritesFront-all old new e.text e.written;
}
ends_breaks given old new (Err p) e = by_breaks given old new p.0 p.1 e

-- a flush keeps what is written
by_kept : (given old mid new : Option (List ℕ)) (stop : Stop) (n : ℕ) → Keeps mid new → EndsBy given old mid stop n → EndsBy given old new stop n
by_kept given old mid new NoCommand n k e = record {
  input = e.input;
  read = e.read;
  before = e.before;
  line = e.line;
  after = e.after;
  parts = e.parts;
  number = e.number;
  text = e.text;
  last = e.last;
  plays = e.plays;
  refused = e.refused;
  written = Appends-keeps old mid new e.text e.written k;
}
by_kept given old mid new NoMemory n k e = record {
  input = e.input;
  read = e.read;
  before = e.before;
  after = e.after;
  parts = e.parts;
  text = e.text;
  last = e.last;
  plays = e.plays;
  written = Appends-keeps old mid new e.text e.written k;
}
by_kept given old mid new Failed n k e = record {
  input = e.input;
  read = e.read;
  before = e.before;
  after = e.after;
  parts = e.parts;
  text = e.text;
  last = e.last;
  plays = e.plays;
  written = WritesFront-keeps old mid new e.text e.written k;
}

pub ends_kept : {X : Type 0} (given old mid new : Option (List ℕ)) (r : Result X (Stop × ℕ)) → Keeps mid new → EndsRun given old mid r → EndsRun given old new r
ends_kept given old mid new (Ok z) k e = record { input = e.input; read = e.read; text = e.text; last = e.last; plays = e.plays; written = Appends-keeps old mid new e.text e.written k }
ends_kept given old mid new (Err p) k e = by_kept given old mid new p.0 p.1 k e

pub finishes : {X : Type 0} (given old new : Option (List ℕ)) (r : Result X (Stop × ℕ)) (x : X) → r ≡ Ok x → EndsRun given old new r → FinishesRun given old new
finishes given old new r x is e = let P : Result _ (Stop × ℕ) → Type 0 = λ z. EndsRun given old new z in subst P is e

ends_by : {X : Type 0} (given old new : Option (List ℕ)) (r : Result X (Stop × ℕ)) (p : Stop × ℕ) → r ≡ Err p → EndsRun given old new r → EndsBy given old new p.0 p.1
ends_by given old new r p is e = let P : Result _ (Stop × ℕ) → Type 0 = λ z. EndsRun given old new z in subst P is e

pub stops_said : {X : Type 0} (given old new errors_old errors_new : Option (List ℕ)) (r : Result X (Stop × ℕ)) (stop : Stop) (n : ℕ) → r ≡ Err (stop, n) → EndsRun given old new r
    → (stop ≡ NoCommand) × Appends errors_old errors_new (no_command_text n) → SaysStop given old new errors_old errors_new
stops_said given old new errors_old errors_new r stop n is e h =
    let P : Stop → Type 0 = λ z. EndsBy given old new z n in
    record { line_number = n; stops = subst P h.0 (ends_by given old new r (stop, n) is e); printed = h.1 }

pub halts_said : {X : Type 0} (given old new : Option (List ℕ)) (r : Result X (Stop × ℕ)) (stop : Stop) (n : ℕ) → r ≡ Err (stop, n) → EndsRun given old new r → stop ≡ NoMemory → Halts given old new
halts_said given old new r stop n is e h = let P : Stop → Type 0 = λ z. EndsBy given old new z n in subst P h (ends_by given old new r (stop, n) is e)

fails_by : (given old new errors_old errors_new : Option (List ℕ)) (stop : Stop) (n : ℕ) → EndsBy given old new stop n → WritesFront errors_old errors_new (stop_text stop n) → FailsRun given old new errors_old errors_new
fails_by given old new errors_old errors_new NoCommand n e w = inr (inl (n, e, w))
fails_by given old new errors_old errors_new NoMemory n e w = inr (inr (e, w))
fails_by given old new errors_old errors_new Failed n e w = inl (e, WritesFront-none errors_old errors_new w)

-- a front is written of what is said of the end of a run
pub fails_said : {X : Type 0} (given old new errors_old errors_new : Option (List ℕ)) (r : Result X (Stop × ℕ)) (stop : Stop) (n : ℕ) → r ≡ Err (stop, n) → EndsRun given old new r
    → WritesFront errors_old errors_new (stop_text stop n) → FailsRun given old new errors_old errors_new
fails_said given old new errors_old errors_new r stop n is e w = fails_by given old new errors_old errors_new stop n (ends_by given old new r (stop, n) is e) w

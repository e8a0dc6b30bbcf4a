-- The machine of triples at a parser: what its functions give with the parser's context, stack, triples and numbers.
use Rattle.std.specs.Prelude.{◌≡◌, ℕ, [], ◌∷◌, Bool, false, Option, Result, OnOk, IfOk, string_bytes}
use Rattle.gs_model.specs.Terms.{Term}
use Rattle.gs_triples.specs.Meanings.{Context, Fault, simple, word}
use Rattle.gs_triples.specs.Goals.{Verbs}
use Rattle.gs_triples.specs.States.{ToVerbs, State, Turn, Heading, Goes}
use Rattle.gs_triples.specs.Machine as machine
use Rattle.gs_triple_values.specs.Languages.{TypedLanguage}
use Rattle.gs_triple_parser.specs.Frames.{goal_of, slot_of, frame_of, frames_at, triples_at, stack_of}
use Rattle.gs_triple_values.specs.Views.{token_at, symbol_at}
use Rattle.gs_triple_parser.specs.Views.{triples_state, triples_state_at, triples_turn, context_now, pending_triples, numbers_now}
use Rattle.gs_triple_values.specs.Contexts.{ChangesContext}
use Rattle.gs_triple_parser.specs.declared.frames.Frame.{Frame}
use Rattle.gs_triple_parser.specs.declared.frames.Goal.{Goal}
use Rattle.gs_triple_parser.specs.declared.frames.Slot.{Slot}
use Rattle.gs_triple_parser.specs.declared.places.Place.{Place}
use Rattle.gs_token_terms.specs.declared.symbols.Symbol.{Symbol}
use Rattle.gs_token_terms.specs.declared.symbols.TermToken.{TermToken}
use Rattle.gs_triple_parser.specs.declared.parser.TripleParser.{TripleParser}
use Rattle.gs_triple_parser.specs.declared.parser.Turn as code

-- a symbol after a string without a suffix, which is the object that stands last
abbrev pub turn_after_string : {X T : Type 0} → State X T → Symbol → Turn X T
turn_after_string s t = machine.go_on (symbol_at t) s

-- in a language of the code
module _ {L S V X T K : Type 0} (l : TypedLanguage S V X T K) where
  -- a call that has not failed left a parser in this state
  abbrev pub Reaches : {E : Type 0} → Result (Unit {0}) E → TripleParser L S V X T K → State X T → Type 0
  Reaches r p s = OnOk r (triples_state l p ≡ s)

  -- it took a symbol
  abbrev pub IsTaken : {E : Type 0} → Result (Unit {0}) E → TripleParser L S V X T K → Turn X T → Type 0
  IsTaken r p t = OnOk r (Goes (triples_state l p) ≡ t)

  -- it reports what a symbol does
  abbrev pub Turned : {E : Type 0} → Result code.Turn E → TripleParser L S V X T K → Turn X T → Type 0
  Turned r p t = IfOk r (λ u. triples_turn l p u ≡ t)

  -- it says whether there is such a context, and leaves it, or else the state as it was; numbers and triples stay
  pub record Declares {E : Type 0} (r : Result Bool E) (old new : TripleParser L S V X T K) (o : Option (Context X T)) : Type 0 where
    pub context : ChangesContext r (context_now l old) (context_now l new) o
    pub state : IfOk r (λ b. b ≡ false → triples_state l new ≡ triples_state l old)
    pub numbers : numbers_now new ≡ numbers_now old
    pub pending : pending_triples l new ≡ pending_triples l old

  -- a value for a slot
  abbrev pub given_slot : TripleParser L S V X T K → Slot L S V X T K → X → State X T
  given_slot p s v = machine.give (context_now l p) v (slot_of l s ∷ stack_of l p.stack) (pending_triples l p) (numbers_now p)

  -- a value for what stands on top of the stack
  abbrev pub given_top : TripleParser L S V X T K → X → State X T
  given_top p v = machine.give (context_now l p) v (stack_of l p.stack) (pending_triples l p) (numbers_now p)

  -- a collection that opens triples
  abbrev pub given_opening : TripleParser L S V X T K → S → State X T
  given_opening p s = machine.give (context_now l p) (l.subject s) (ToVerbs ∷ stack_of l p.stack) (pending_triples l p) (numbers_now p)

  -- a literal for a slot, or its fault
  abbrev pub put_slot : TripleParser L S V X T K → Slot L S V X T K → Result Term Fault → State X T
  put_slot p s made = machine.put (slot_of l s ∷ stack_of l p.stack) (context_now l p) (pending_triples l p) (numbers_now p) made

  -- the first symbol of an object for a slot
  abbrev pub object_of : TripleParser L S V X T K → ℕ → Slot L S V X T K → Symbol → State X T
  object_of p d s t = machine.object d (symbol_at t) (slot_of l s ∷ stack_of l p.stack) (context_now l p) (pending_triples l p) (numbers_now p)

  -- a token that is a term or a variable, for a slot
  abbrev pub word_of : TripleParser L S V X T K → Slot L S V X T K → TermToken → State X T
  word_of p s w =
      machine.give_token (slot_of l s ∷ stack_of l p.stack) (context_now l p) (pending_triples l p) (word (context_now l p) (numbers_now p) (token_at w))

  -- the first symbol in a collection that is not empty
  abbrev pub first_object_of : TripleParser L S V X T K → ℕ → Symbol → State X T
  first_object_of p d t = machine.first_object d (symbol_at t) (stack_of l p.stack) (context_now l p) (pending_triples l p) (numbers_now p)

  -- the symbol of a verb
  abbrev pub verb_of : TripleParser L S V X T K → ℕ → X → Symbol → State X T
  verb_of p d s t = machine.at_verb d s (symbol_at t) (stack_of l p.stack) (context_now l p) (pending_triples l p) (numbers_now p)

  -- a symbol where this frame is open after a list of verbs and objects
  abbrev pub shut_of : TripleParser L S V X T K → Frame L S V X T K → Symbol → State X T
  shut_of p f t = machine.shut (symbol_at t) (frame_of l f) (stack_of l p.stack) (context_now l p) (pending_triples l p) (numbers_now p)

  -- a symbol after a list of verbs and objects
  abbrev pub leave_of : TripleParser L S V X T K → Symbol → Turn X T
  leave_of p t = machine.leave (symbol_at t) (stack_of l p.stack) (context_now l p) (pending_triples l p) (numbers_now p)

  -- one symbol at a goal
  abbrev pub head_of : TripleParser L S V X T K → Goal L S V X T K → Symbol → Turn X T
  head_of p g t =
      machine.head (goal_of l g) (symbol_at t) (frames_at l g (stack_of l p.stack)) (context_now l p) (triples_at l g (pending_triples l p)) (numbers_now p)

  -- one symbol at a place
  abbrev pub step_of : TripleParser L S V X T K → Place L S V X T K → Symbol → Turn X T
  step_of p h t = machine.step (triples_state_at l p h) (symbol_at t)

  -- a subject, before its first verb
  abbrev pub first_verb : TripleParser L S V X T K → X → State X T
  first_verb p s = Heading (Verbs 0 s) [] (context_now l p) [] (numbers_now p)

  -- the string that is held, an object by itself
  abbrev pub simple_of : TripleParser L S V X T K → Slot L S V X T K → State X T
  simple_of p s = put_slot p s (simple (string_bytes p.text))

  -- the first symbol of triples
  abbrev pub opening_of : TripleParser L S V X T K → Symbol → State X T
  opening_of p t = machine.opening (context_now l p) (numbers_now p) (symbol_at t)

-- What parsers and scopes of the code stand for.
use Rattle.std.specs.Prelude.{ℕ, List, ◌∷◌, string_bytes}
use Rattle.gs_blank.specs.Numbers.{Numbers}
use Rattle.gs_triples.specs.Meanings.{Context}
use Rattle.gs_triples.specs.States as machine
use Rattle.gs_triple_values.specs.Languages.{TypedLanguage, language_of}
use Rattle.gs_triple_values.specs.Waiting.{waiting}
use Rattle.gs_triple_values.specs.Contexts.{TermContext}
use Rattle.gs_triple_values.specs.Views.{context_in, context_of}
use Rattle.gs_triple_parser.specs.Frames.{goal_of, slot_of, frames_at, triples_at, stack_of}
use Rattle.gs_triple_parser.specs.declared.scopes.Scope.{Scope}
use Rattle.gs_triple_parser.specs.declared.places.Place.{Place}
use Rattle.gs_triple_parser.specs.declared.places.Place.TheVariants as place
use Rattle.gs_triple_parser.specs.declared.parser.TripleParser.{TripleParser}
use Rattle.gs_triple_parser.specs.declared.parser.Turn.{Turn}
use Rattle.gs_triple_parser.specs.declared.parser.Turn.TheVariants as turn

-- the base, the prefixes and the request of a scope
abbrev pub scope_context : Scope → TermContext
scope_context s = context_of s.context

-- the numbers of the blank nodes so far
abbrev pub scope_numbers : Scope → Numbers
scope_numbers s = s.numbering

module _ {L S V X T K : Type 0} where
  -- the numbers of the blank nodes so far
  abbrev pub numbers_now : TripleParser L S V X T K → Numbers
  numbers_now p = scope_numbers p.scope

-- in a language of the code
module _ {L S V X T K : Type 0} (l : TypedLanguage S V X T K) where
  -- the triples so far, but for one that waits for what follows its object
  abbrev pub pending_triples : TripleParser L S V X T K → List T
  pending_triples p = waiting l p.pending

  -- what a place stands for, with the other fields, of which the first is the text that is held: each place has only some
  abbrev pub state_at : Place L S V X T K → List ℕ → Context X T → List (machine.Frame X) → List T → Numbers → machine.State X T
  state_at place.Opened x env fs P n = machine.Opened env n
  state_at (place.Closed s) x env fs P n = machine.Closed (l.subject s) env P n
  state_at (place.Heading g) x env fs P n = machine.Heading (goal_of l g) (frames_at l g fs) env (triples_at l g P) n
  state_at (place.Held s) x env fs P n = machine.Held x (slot_of l s ∷ fs) env P n
  state_at (place.Typing s) x env fs P n = machine.Typing x (slot_of l s ∷ fs) env P n
  state_at (place.Lost e) x env fs P n = machine.Lost e

  -- the base, the prefixes and the request of a parser, with what its triples are made of and what may stand in them
  abbrev pub context_now : TripleParser L S V X T K → Context X T
  context_now p = context_in (language_of l p.allowed) p.scope.context

  -- the state of a parser, were it at this place
  abbrev pub triples_state_at : TripleParser L S V X T K → Place L S V X T K → machine.State X T
  triples_state_at p h = state_at h (string_bytes p.text) (context_now p) (stack_of l p.stack) (pending_triples p) (numbers_now p)

  -- the state of a parser
  abbrev pub triples_state : TripleParser L S V X T K → machine.State X T
  triples_state p = triples_state_at p p.place

  -- a turn that left a parser so
  abbrev pub triples_turn : TripleParser L S V X T K → Turn → machine.Turn X T
  triples_turn p turn.Taken = machine.Goes (triples_state p)
  triples_turn p turn.Over = machine.Ends (context_now p) (pending_triples p) (numbers_now p)

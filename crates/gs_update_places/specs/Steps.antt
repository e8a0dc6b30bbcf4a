-- What a symbol does at a place of a parser of updates, and in a block.
use Rattle.std.specs.Prelude.{◌≡◌, ◌≢◌, List, ◌++◌, Option, Result, IfOk}
use Rattle.gs_triples.specs.Meanings.{Fault}
use Rattle.gs_triples.specs.States.{Lost, triples_so_far}
use Rattle.gs_triple_values.specs.Languages.{TypedLanguage}
use Rattle.gs_triple_values.specs.Views.{symbol_at}
use Rattle.gs_triple_parser.specs.Views.{scope_context, scope_numbers, triples_state, context_now, numbers_now, pending_triples}
use Rattle.gs_triple_parser.specs.declared.scopes.Scope.{Scope}
use Rattle.gs_token_terms.specs.declared.symbols.Symbol.{Symbol}
use Rattle.gs_update_text.specs.Requests.{UpdateOperation, Rejection}
use Rattle.gs_update_text.specs.Blocks as blocks
use Rattle.gs_update_text.specs.States as machine
use Rattle.gs_update_text.specs.Machine.{step}
use Rattle.gs_update_places.specs.Views.{rejection_at, HasGiven, IsSoundPlace, block_state, rules_of, state_at}
use Rattle.gs_update_places.specs.declared.blocks.Block.{Block as CodeBlock}
use Rattle.gs_update_places.specs.declared.blocks.BlockTurn.{BlockTurn as CodeTurn}
use Rattle.gs_update_places.specs.declared.blocks.BlockTurn.TheVariants as turn
use Rattle.gs_update_places.specs.declared.places.Place.{Place}

-- what makes an operation of a block's triples
abbrev pub Making : Type 0 → Type 0
Making T = List T → Option UpdateOperation

-- a place that a symbol leads to, and no operation ends
pub record LeadsToPlace (p : Place) (t : machine.UpdateStep) : Type 0 where
  pub state : machine.quiet (state_at p) ≡ t
  pub sound : IsSoundPlace p

-- the machine's transition by a symbol at a place
abbrev pub transition_at_place : Place → Symbol → machine.UpdateStep
transition_at_place p t = step (state_at p) (symbol_at t)

-- at the start of the block of an operation of this form
abbrev pub block_start : machine.Form → Scope → machine.UpdateStep
block_start f s = machine.quiet (machine.block_of f (scope_context s) (scope_numbers s))

-- what bounds a block stays
pub record KeepsBounds {L S V X T K : Type 0} (old new : CodeBlock L S V X T K) : Type 0 where
  pub since : new.since ≡ old.since
  pub most : new.most ≡ old.most

-- in a language of the code
module _ {L S V X T K : Type 0} (l : TypedLanguage S V X T K) where
  -- a block's triples, with those that are read and handed on
  abbrev pub all_triples : CodeBlock L S V X T K → List T
  all_triples b = l.items b.triples ++ pending_triples l b.parser

  -- a block's triples, with those that are being read
  abbrev pub triples_now : CodeBlock L S V X T K → List T
  triples_now b = l.items b.triples ++ triples_so_far (triples_state l b.parser)

  -- a turn that left a block so
  abbrev pub turn_at : Making T → CodeBlock L S V X T K → CodeTurn → blocks.BlockTurn X T
  turn_at made b turn.Takes = blocks.Takes (block_state l b)
  turn_at made b (turn.Shuts e) = blocks.shut (made (l.items b.triples)) (numbers_now b.parser) e
  turn_at made b (turn.Stops r) = blocks.Stops (rejection_at r)

  -- a block took the turn that its rules give, whatever operation they make
  abbrev pub Turned : CodeBlock L S V X T K → CodeTurn → (Making T → blocks.BlockTurn X T) → Type 0
  Turned b u t = (made : Making T) → turn_at made b u ≡ t made

  -- a call that has not failed reports that turn
  abbrev pub TurnsTo : {E : Type 0} → Result CodeTurn E → CodeBlock L S V X T K → (Making T → blocks.BlockTurn X T) → Type 0
  TurnsTo r b t = IfOk r (λ u. Turned b u t)

  -- where triples took a symbol and the block goes on, they have no fault
  abbrev pub GoesOn : CodeBlock L S V X T K → CodeTurn → Type 0
  GoesOn b turn.Takes = (f : Fault) → triples_state l b.parser ≢ Lost f
  GoesOn b (turn.Shuts e) = ⊥
  GoesOn b (turn.Stops r) = Unit {0}

  -- the turn of the rules by a state of triples that took a symbol
  abbrev pub entered_turn : CodeBlock L S V X T K → Making T → blocks.BlockTurn X T
  entered_turn b made = blocks.entered (rules_of l made b) (l.items b.triples) (triples_state l b.parser)

  -- by a symbol after triples, which have joined the others or are to join them
  abbrev pub parted_turn : CodeBlock L S V X T K → Symbol → Making T → blocks.BlockTurn X T
  parted_turn b t made = blocks.parted (rules_of l made b) (symbol_at t) (context_now l b.parser) (l.items b.triples) (numbers_now b.parser)

  abbrev pub followed_turn : CodeBlock L S V X T K → Symbol → Making T → blocks.BlockTurn X T
  followed_turn b t made = blocks.followed (rules_of l made b) (symbol_at t) (context_now l b.parser) (all_triples b) (numbers_now b.parser)

  -- by a symbol where triples may begin
  abbrev pub opening_turn : CodeBlock L S V X T K → Symbol → Making T → blocks.BlockTurn X T
  opening_turn b t made = blocks.at_triples (rules_of l made b) (symbol_at t) (context_now l b.parser) (l.items b.triples) (numbers_now b.parser)

  -- by a symbol where any may stand, and by any symbol
  abbrev pub moved_turn : CodeBlock L S V X T K → Symbol → Making T → blocks.BlockTurn X T
  moved_turn b t made = blocks.moved (rules_of l made b) (block_state l b) (symbol_at t)

  abbrev pub block_turn : CodeBlock L S V X T K → Symbol → Making T → blocks.BlockTurn X T
  block_turn b t made = blocks.block_step (rules_of l made b) (block_state l b) (symbol_at t)

  -- the departure of a text that ends there
  abbrev pub end_turn : CodeBlock L S V X T K → Making T → Rejection
  end_turn b made = blocks.block_ended (rules_of l made b) (block_state l b)

  -- context and rules stay
  pub record Stays (old new : CodeBlock L S V X T K) : Type 0 where
    pub context : context_now l new.parser ≡ context_now l old.parser
    pub rules : (made : Making T) → rules_of l made new ≡ rules_of l made old
    pub given : HasGiven new.since (numbers_now new.parser)

  -- unless the block is refused
  abbrev pub StaysUnless : CodeBlock L S V X T K → CodeBlock L S V X T K → CodeTurn → Type 0
  StaysUnless old new (turn.Stops r) = Unit {0}
  StaysUnless old new u = Stays old new

  -- a call that has not failed leaves them so
  abbrev pub StaysIf : {E : Type 0} → Result CodeTurn E → CodeBlock L S V X T K → CodeBlock L S V X T K → Type 0
  StaysIf r old new = IfOk r (λ u. StaysUnless old new u)

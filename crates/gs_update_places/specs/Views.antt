-- What a place of a parser of updates stands for, and a block.
use Rattle.std.specs.Prelude.{ℕ, ◌≤◌, Bool, false, if◌then◌else◌, List, length, nat_lt, Option, Some, None, string_bytes}
use Rattle.gs_blank.specs.Numbers.{Numbers}
use Rattle.gs_triples.specs.Symbols.{Symbol}
use Rattle.gs_triples.specs.Languages.{of_terms}
use Rattle.gs_triples.specs.Meanings.{in_language}
use Rattle.gs_triple_values.specs.Languages.{TypedLanguage}
use Rattle.gs_triple_values.specs.Typed.{terms, patterns}
use Rattle.gs_triple_parser.specs.Views.{scope_context, scope_numbers, triples_state, context_now, numbers_now}
use Rattle.gs_update_text.specs.Requests.{UpdateOperation, Inserts, DeletesData, Rejection, Broken, OutOfProfile}
use Rattle.gs_update_text.specs.Operations.{Scope, Block, is_old, some_patterns}
use Rattle.gs_update_text.specs.Blocks.{BlockState, AtTriples, WithinTriples}
use Rattle.gs_update_text.specs.States as machine
use Rattle.gs_update_places.specs.declared.rejections.Rejection.{Rejection as CodeRejection}
use Rattle.gs_update_places.specs.declared.rejections.Rejection.TheVariants as rejection
use Rattle.gs_update_places.specs.declared.places.Form.{Form as CodeForm}
use Rattle.gs_update_places.specs.declared.places.Form.TheVariants as form
use Rattle.gs_update_places.specs.declared.places.Place.{Place}
use Rattle.gs_update_places.specs.declared.places.Place.TheVariants as place
use Rattle.gs_update_places.specs.declared.blocks.Block.{Block as CodeBlock}

-- why a text is no update, as the grammar has it
abbrev pub rejection_at : CodeRejection → Rejection
rejection_at (rejection.Broken f) = Broken f
rejection_at rejection.OutOfProfile = OutOfProfile

-- the form of an operation
abbrev pub form_at : CodeForm → machine.Form
form_at form.InsertData = machine.InsertData
form_at form.DeleteData = machine.DeleteData
form_at form.DeleteWhere = machine.DeleteWhere

-- a label with one of the first so many numbers, where there is such a bound
abbrev pub bars_since : Option ℕ → Numbers → Symbol → Bool
bars_since None n t = false
bars_since (Some k) n t = is_old k n t

-- more than so many, where there is such a bound
abbrev pub more_than : {T : Type 0} → Option ℕ → List T → Bool
more_than None P = false
more_than (Some k) P = nat_lt k (length P)

-- as many numbers are given, where there is such a bound
abbrev pub HasGiven : Option ℕ → Numbers → Type 0
HasGiven None n = Unit {0}
HasGiven (Some k) n = k ≤ n.1

module _ {L S V X T K : Type 0} where
  -- the numbers of the blank nodes so far
  abbrev pub block_numbers : CodeBlock L S V X T K → Numbers
  block_numbers b = numbers_now b.parser

  -- the triples before those that are being read
  abbrev pub gathered_triples : CodeBlock L S V X T K → K
  gathered_triples b = b.triples

  -- the numbers that bound the labels of a block are given
  abbrev pub IsSoundBlock : CodeBlock L S V X T K → Type 0
  IsSoundBlock b = HasGiven b.since (numbers_now b.parser)

-- in a language of the code
module _ {L S V X T K : Type 0} (l : TypedLanguage S V X T K) where
  -- the state of a block
  abbrev pub block_state : CodeBlock L S V X T K → BlockState X T
  block_state b =
      if b.within then WithinTriples (l.items b.triples) (triples_state l b.parser)
      else AtTriples (context_now l b.parser) (l.items b.triples) (numbers_now b.parser)

  -- how it is read, where its triples make this operation
  abbrev pub rules_of : (List T → Option UpdateOperation) → CodeBlock L S V X T K → Block X T
  rules_of made b = record {
    language = (context_now l b.parser).language;
    bars = bars_since b.since (numbers_now b.parser);
    too_many = more_than b.most;
    operation = made;
  }

  -- the context between operations
  abbrev pub scope_of : CodeBlock L S V X T K → Scope
  scope_of b = in_language of_terms (context_now l b.parser)

-- the state of a parser at a place
abbrev pub state_at : Place → machine.UpdateState
state_at (place.Between s) = machine.Between (scope_context s) (scope_numbers s)
state_at (place.InPrefix s) = machine.InPrefix (scope_context s) (scope_numbers s)
state_at (place.InPrefixIri s x) = machine.InPrefixIri (string_bytes x) (scope_context s) (scope_numbers s)
state_at (place.InBase s) = machine.InBase (scope_context s) (scope_numbers s)
state_at (place.AfterInsert s) = machine.AfterInsert (scope_context s) (scope_numbers s)
state_at (place.AfterDelete s) = machine.AfterDelete (scope_context s) (scope_numbers s)
state_at (place.AtBrace f s) = machine.AtBrace (form_at f) (scope_context s) (scope_numbers s)
state_at (place.Inserting b) = machine.InData (rules_of terms (λ T. Some (Inserts T)) b) (scope_of terms b) (block_state terms b)
state_at (place.Deleting b) = machine.InData (rules_of terms (λ T. Some (DeletesData T)) b) (scope_of terms b) (block_state terms b)
state_at (place.Seeking b) = machine.InWhere (rules_of patterns some_patterns b) (scope_of patterns b) (block_state patterns b)
state_at (place.After s) = machine.After (scope_context s) (scope_numbers s)
state_at (place.Rejected r) = machine.Rejected (rejection_at r)

-- where a place is in a block, that is sound
abbrev pub IsSoundPlace : Place → Type 0
IsSoundPlace (place.Inserting b) = IsSoundBlock b
IsSoundPlace (place.Deleting b) = IsSoundBlock b
IsSoundPlace (place.Seeking b) = IsSoundBlock b
IsSoundPlace other = Unit {0}

-- The transitions of the machine at a place, from the turns of its block.
use Rattle.std.proofs.Common.{◌≡◌, ℕ, refl, sym, ap, ◌∙◌, subst}
use Rattle.std.specs.Prelude.{Option, Some, None}
use Rattle.gs_blank.specs.Numbers.{Numbers}
use Rattle.std.specs.declared.vec.Vec.{Vec}
use Rattle.std.specs.declared.alloc.Global.{Global}
use Rattle.gs_model.specs.Terms.{Term}
use Rattle.gs_model.specs.Triples.{RdfTriple}
use Rattle.gs_term.specs.declared.patterns.Part.{Part}
use Rattle.gs_term.specs.declared.patterns.Pattern.{Pattern}
use Rattle.gs_triples.specs.Languages.{of_terms}
use Rattle.gs_triples.specs.Meanings.{in_language}
use Rattle.gs_triple_lists.specs.Lists.{Listed}
use Rattle.gs_triple_values.specs.Languages.{TypedLanguage}
use Rattle.gs_triple_values.specs.Typed.{terms, patterns}
use Rattle.gs_triple_values.specs.declared.kinds.Subject.{Subject}
use Rattle.gs_triple_values.specs.declared.kinds.Verb.{Verb}
use Rattle.gs_triple_values.specs.declared.triple_terms.Terms.{Terms}
use Rattle.gs_triple_values.specs.declared.patterns.Patterns.{Patterns}
use Rattle.gs_token_terms.specs.declared.symbols.Symbol.{Symbol}
use Rattle.gs_triple_parser.specs.Views.{numbers_now}
use Rattle.gs_update_text.specs.Requests.{UpdateOperation, Inserts, DeletesData}
use Rattle.gs_update_text.specs.Operations.{Scope, Block, some_patterns}
use Rattle.gs_update_text.specs.Blocks as blocks
use Rattle.gs_update_text.specs.Blocks.{BlockState}
use Rattle.gs_update_text.specs.States.{UpdateState, UpdateStep, InData, InWhere, Rejected, quiet}
use Rattle.gs_update_text.specs.Machine.{blocked, step}
use Rattle.gs_update_places.specs.Views.{rejection_at, block_state, rules_of, scope_of}
use Rattle.gs_update_places.specs.Steps.{Making, Turned, block_turn, Stays, StaysUnless, LeadsToPlace, transition_at_place}
use Rattle.gs_update_places.specs.Places.{concluded, Follows}
use Rattle.gs_update_places.specs.declared.blocks.Block.{Block as CodeBlock}
use Rattle.gs_update_places.specs.declared.blocks.BlockTurn.{BlockTurn as CodeTurn}
use Rattle.gs_update_places.specs.declared.blocks.BlockTurn.TheVariants as turn
use Rattle.gs_update_places.specs.declared.rejections.Rejection.{Rejection as CodeRejection}
use Rattle.gs_update_places.specs.declared.places.Place.{Place}
use Rattle.gs_update_places.specs.declared.places.Place.TheVariants as place

-- nothing leads away from a departure
pub stays_rejected : (r : CodeRejection) (t : Symbol) → LeadsToPlace (place.Rejected r) (transition_at_place (place.Rejected r) t)
unfolding step
stays_rejected r t = record { state = refl; sound = tt }

-- the end of a block is the machine's
concluded_blocked : {X T : Type 0} (o : Option UpdateOperation) (inside : BlockState X T → UpdateState) (env : Scope) (n : Numbers) (e : ℕ) → concluded o env n e ≡ blocked inside env (blocks.shut o n e)
concluded_blocked None inside env n e = refl
concluded_blocked (Some o) inside env n e = refl

module _ {L S V X T K : Type 0} (l : TypedLanguage S V X T K) (inside : Block X T → Scope → BlockState X T → UpdateState) (made : Making T) where
  -- the machine's transition in a block
  abbrev pub turn_in : CodeBlock L S V X T K → Symbol → UpdateStep
  turn_in a t = blocked (inside (rules_of l made a) (scope_of l a)) (scope_of l a) (block_turn l a t made)

  -- the block goes on
  pub takes_in : (a b : CodeBlock L S V X T K) (t : Symbol) → Turned l b turn.Takes (block_turn l a t) → Stays l a b
      → quiet (inside (rules_of l made b) (scope_of l b) (block_state l b)) ≡ turn_in a t
  takes_in a b t h s =
      let same : quiet (inside (rules_of l made b) (scope_of l b) (block_state l b)) ≡ quiet (inside (rules_of l made a) (scope_of l a) (block_state l b)) =
      λ i. quiet (inside (s.rules made i) (in_language of_terms (s.context i)) (block_state l b)) in
      same ∙ ap (blocked (inside (rules_of l made a) (scope_of l a)) (scope_of l a)) (h made)

  -- it ends
  pub shuts_in : (a b : CodeBlock L S V X T K) (t : Symbol) (e : ℕ) → Turned l b (turn.Shuts e) (block_turn l a t) → Stays l a b
      → concluded (made (l.items b.triples)) (scope_of l b) (numbers_now b.parser) e ≡ turn_in a t
  shuts_in a b t e h s =
      ap (λ c. concluded (made (l.items b.triples)) (in_language of_terms c) (numbers_now b.parser) e) s.context
      ∙ concluded_blocked (made (l.items b.triples)) (inside (rules_of l made a) (scope_of l a)) (scope_of l a) (numbers_now b.parser) e
      ∙ ap (blocked (inside (rules_of l made a) (scope_of l a)) (scope_of l a)) (h made)

  -- a departure
  pub stops_in : (a b : CodeBlock L S V X T K) (t : Symbol) (r : CodeRejection) → Turned l b (turn.Stops r) (block_turn l a t) → quiet (Rejected (rejection_at r)) ≡ turn_in a t
  stops_in a b t r h = ap (blocked (inside (rules_of l made a) (scope_of l a)) (scope_of l a)) (h made)

-- the block of INSERT DATA
pub inserting_follows : (a b : CodeBlock Terms Subject Verb Term RdfTriple Listed) (t : Symbol) (u : CodeTurn) → Turned terms b u (block_turn terms a t) → StaysUnless terms a b u
    → Follows (transition_at_place (place.Inserting a) t) u (place.Inserting b)
unfolding step
inserting_follows a b t turn.Takes h s = record { state = takes_in terms InData (λ P. Some (Inserts P)) a b t h s; sound = s.given }
inserting_follows a b t (turn.Shuts e) h s = shuts_in terms InData (λ P. Some (Inserts P)) a b t e h s
inserting_follows a b t (turn.Stops r) h s = stops_in terms InData (λ P. Some (Inserts P)) a b t r h

-- that of DELETE DATA
pub deleting_follows : (a b : CodeBlock Terms Subject Verb Term RdfTriple Listed) (t : Symbol) (u : CodeTurn) → Turned terms b u (block_turn terms a t) → StaysUnless terms a b u
    → Follows (transition_at_place (place.Deleting a) t) u (place.Deleting b)
unfolding step
deleting_follows a b t turn.Takes h s = record { state = takes_in terms InData (λ P. Some (DeletesData P)) a b t h s; sound = s.given }
deleting_follows a b t (turn.Shuts e) h s = shuts_in terms InData (λ P. Some (DeletesData P)) a b t e h s
deleting_follows a b t (turn.Stops r) h s = stops_in terms InData (λ P. Some (DeletesData P)) a b t r h

-- that of DELETE WHERE
pub seeking_follows : (a b : CodeBlock Patterns Part Part Part Pattern (Vec Pattern Global)) (t : Symbol) (u : CodeTurn) → Turned patterns b u (block_turn patterns a t) → StaysUnless patterns a b u
    → Follows (transition_at_place (place.Seeking a) t) u (place.Seeking b)
unfolding step
seeking_follows a b t turn.Takes h s = record { state = takes_in patterns InWhere some_patterns a b t h s; sound = s.given }
seeking_follows a b t (turn.Shuts e) h s = shuts_in patterns InWhere some_patterns a b t e h s
seeking_follows a b t (turn.Stops r) h s = stops_in patterns InWhere some_patterns a b t r h

-- The start of a block.
use Rattle.std.proofs.Common.{◌≡◌, ℕ, ◌≤◌, false, cond, [], sym, subst, arith}
use Rattle.std.specs.Prelude.{Option, Some, None}
use Rattle.gs_blank.specs.Numbers.{Numbers}
use Rattle.gs_triples.specs.Languages.{of_terms}
use Rattle.gs_triples.specs.Meanings.{Context, in_language}
use Rattle.std.specs.declared.vec.Vec.{Vec}
use Rattle.std.specs.declared.alloc.Global.{Global}
use Rattle.gs_model.specs.Limits.{max_patterns}
use Rattle.gs_model.specs.Terms.{Term}
use Rattle.gs_model.specs.Triples.{RdfTriple}
use Rattle.gs_term.specs.declared.patterns.Part.{Part}
use Rattle.gs_term.specs.declared.patterns.Pattern.{Pattern}
use Rattle.gs_triple_lists.specs.Lists.{Listed}
use Rattle.gs_triple_values.specs.declared.kinds.Subject.{Subject}
use Rattle.gs_triple_values.specs.declared.kinds.Verb.{Verb}
use Rattle.gs_triple_values.specs.declared.triple_terms.Terms.{Terms}
use Rattle.gs_triple_values.specs.declared.patterns.Patterns.{Patterns}
use Rattle.gs_triple_values.specs.Typed.{terms, patterns}
use Rattle.gs_triple_values.specs.Languages.{TypedLanguage}
use Rattle.gs_triple_parser.specs.Views.{scope_context, scope_numbers, triples_state, context_now, numbers_now}
use Rattle.gs_triple_parser.specs.declared.scopes.Scope.{Scope as CodeScope}
use Rattle.gs_update_text.specs.Requests.{Inserts, DeletesData}
use Rattle.gs_update_text.specs.Operations.{Scope, Block, inserted, deleted, sought, some_patterns}
use Rattle.gs_update_text.specs.Blocks as blocks
use Rattle.gs_update_text.specs.Blocks.{BlockState}
use Rattle.gs_update_text.specs.States.{InsertData, DeleteData, DeleteWhere, UpdateState, InData, InWhere, quiet}
use Rattle.gs_update_places.specs.Views.{HasGiven, block_state, rules_of, scope_of, more_than, bars_since}
use Rattle.gs_update_places.specs.Steps.{Making, LeadsToPlace, block_start}
use Rattle.gs_update_places.specs.declared.blocks.Block.{Block as CodeBlock}
use Rattle.gs_update_places.specs.declared.places.Place.TheVariants as place

module _ {L S V X T K : Type 0} (l : TypedLanguage S V X T K) (b : CodeBlock L S V X T K) (env : Context X T) (n : Numbers) where
  -- a block that begins
  pub record Begins (old most_of : Option ℕ) : Type 0 where
    pub context : context_now l b.parser ≡ env
    pub numbers : numbers_now b.parser ≡ n
    pub triples : (l.items b.triples) ≡ []
    pub within : b.within ≡ false
    pub since : b.since ≡ old
    pub most : b.most ≡ most_of

  -- is at its start for the machine
  pub begun_in : (inside : Block X T → Scope → BlockState X T → UpdateState) (made : Making T) (since most : Option ℕ) → Begins since most
      → quiet (inside (rules_of l made b) (scope_of l b) (block_state l b))
      ≡ quiet (inside (record { language = env.language; bars = bars_since since n; too_many = more_than most; operation = made }) (in_language of_terms env) (blocks.AtTriples env [] n))
  begun_in inside made since most h = λ i. quiet (inside
      (record { language = (h.context i).language; bars = bars_since (h.since i) (h.numbers i); too_many = more_than (h.most i); operation = made })
      (in_language of_terms (h.context i))
      (cond (h.within i) (blocks.WithinTriples (l.items b.triples) (triples_state l b.parser)) (blocks.AtTriples (h.context i) (h.triples i) (h.numbers i))))

  -- and the numbers before it bound its labels
  pub begun_sound : (most : Option ℕ) → Begins (Some n.1) most → HasGiven b.since (numbers_now b.parser)
  begun_sound most h =
      let given : n.1 ≤ (numbers_now b.parser).1 = subst (λ (z : Numbers). n.1 ≤ z.1) (sym h.numbers) (omega arith) in
      subst (λ z. HasGiven z (numbers_now b.parser)) (sym h.since) given

  -- where none bound them
  pub begun_free : (most : Option ℕ) → Begins None most → HasGiven b.since (numbers_now b.parser)
  begun_free most h = subst (λ z. HasGiven z (numbers_now b.parser)) (sym h.since) tt

-- the start of the block of INSERT DATA
pub inserting_starts : (s : CodeScope) (b : CodeBlock Terms Subject Verb Term RdfTriple Listed)
    → Begins terms b (in_language inserted (scope_context s)) (scope_numbers s) (Some (scope_numbers s).1) None → LeadsToPlace (place.Inserting b) (block_start InsertData s)
inserting_starts s b h =
    let env = in_language inserted (scope_context s) in
    let n = scope_numbers s in
    record {
      state = begun_in terms b env n InData (λ P. Some (Inserts P)) (Some n.1) None h;
      sound = begun_sound terms b env n None h;
    }

-- of DELETE DATA
pub deleting_starts : (s : CodeScope) (b : CodeBlock Terms Subject Verb Term RdfTriple Listed)
    → Begins terms b (in_language deleted (scope_context s)) (scope_numbers s) None None → LeadsToPlace (place.Deleting b) (block_start DeleteData s)
deleting_starts s b h =
    let env = in_language deleted (scope_context s) in
    let n = scope_numbers s in
    record {
      state = begun_in terms b env n InData (λ P. Some (DeletesData P)) None None h;
      sound = begun_free terms b env n None h;
    }

-- of DELETE WHERE
pub seeking_starts : (s : CodeScope) (b : CodeBlock Patterns Part Part Part Pattern (Vec Pattern Global))
    → Begins patterns b (in_language sought (scope_context s)) (scope_numbers s) None (Some max_patterns) → LeadsToPlace (place.Seeking b) (block_start DeleteWhere s)
seeking_starts s b h =
    let env = in_language sought (scope_context s) in
    let n = scope_numbers s in
    record {
      state = begun_in patterns b env n InWhere some_patterns None (Some max_patterns) h;
      sound = begun_free patterns b env n (Some max_patterns) h;
    }

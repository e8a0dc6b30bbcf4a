-- The turns of a block, from those of its parser.
use Rattle.std.proofs.Common.{◌≡◌, ◌≢◌, ℕ, Bool, true, false, cond, List, [], ◌++◌, refl, sym, ap, ◌∙◌}
use Rattle.std.specs.Prelude.{Option, Some, None}
use Rattle.std.proofs.lemmas.Bool.{false≢true}
use Rattle.gs_lex.specs.declared.kinds.TokenKind.{TokenKind}
use Rattle.gs_lex.specs.declared.kinds.TokenKind.TheVariants as kind
use Rattle.gs_blank.specs.Numbers.{Numbers}
use Rattle.gs_triples.specs.Symbols as grammar
use Rattle.gs_triples.specs.Meanings.{Fault, Syntax, Context}
use Rattle.gs_triples.specs.States as triples
use Rattle.gs_triples.specs.States.{Opened, Closed, Heading, Held, Typing, Lost, Goes, Ends, triples_so_far}
use Rattle.gs_triples.specs.Machine as triples_machine
use Rattle.gs_triples.specs.Machine.{opening}
use Rattle.gs_triple_values.specs.Languages.{TypedLanguage}
use Rattle.gs_triple_values.specs.Views.{symbol_at}
use Rattle.gs_triple_parser.specs.Views.{triples_state, context_now, numbers_now, pending_triples}
use Rattle.gs_token_terms.specs.declared.symbols.Symbol.{Symbol}
use Rattle.gs_token_terms.specs.declared.symbols.Symbol.TheVariants as symbol
use Rattle.gs_update_text.specs.Requests.{Inserts, Rejection, Broken, OutOfProfile}
use Rattle.gs_update_text.specs.Operations.{Block}
use Rattle.gs_update_text.specs.Blocks as blocks
use Rattle.gs_update_places.specs.Views.{block_state, rules_of, more_than, bars_since}
use Rattle.gs_update_places.specs.Steps.{Making, Turned, entered_turn, followed_turn, opening_turn, moved_turn, block_turn, end_turn}
use Rattle.gs_update_places.specs.declared.blocks.Block.{Block as CodeBlock}
use Rattle.gs_update_places.specs.declared.blocks.BlockTurn.{BlockTurn as CodeTurn}
use Rattle.gs_update_places.specs.declared.blocks.BlockTurn.TheVariants as turn
use Rattle.gs_update_places.specs.declared.rejections.Rejection.{Rejection as CodeRejection}
use Rattle.gs_update_places.specs.declared.rejections.Rejection.TheVariants as rejection

module _ {Value Triple : Type 0} where
  -- rules that count alike
  entered_same : (x y : Block Value Triple) → x.too_many ≡ y.too_many → (P : List Triple) (s : triples.State Value Triple) → blocks.entered x P s ≡ blocks.entered y P s
  entered_same x y e P (Lost f) = refl
  entered_same x y e P (Opened env n) = ap (λ z. cond (z (P ++ triples_so_far (Opened env n))) (blocks.Stops OutOfProfile) (blocks.Takes (blocks.WithinTriples P (Opened env n)))) e
  entered_same x y e P (Closed v env T n) = ap (λ z. cond (z (P ++ T)) (blocks.Stops OutOfProfile) (blocks.Takes (blocks.WithinTriples P (Closed v env T n)))) e
  entered_same x y e P (Heading g fs env T n) = ap (λ z. cond (z (P ++ T)) (blocks.Stops OutOfProfile) (blocks.Takes (blocks.WithinTriples P (Heading g fs env T n)))) e
  entered_same x y e P (Held t fs env T n) = ap (λ z. cond (z (P ++ T)) (blocks.Stops OutOfProfile) (blocks.Takes (blocks.WithinTriples P (Held t fs env T n)))) e
  entered_same x y e P (Typing t fs env T n) = ap (λ z. cond (z (P ++ T)) (blocks.Stops OutOfProfile) (blocks.Takes (blocks.WithinTriples P (Typing t fs env T n)))) e

  -- and make the same operation
  parted_same : (x y : Block Value Triple) → x.operation ≡ y.operation → (t : grammar.Symbol) (env : Context Value Triple) (P : List Triple) (n : Numbers) → blocks.parted x t env P n ≡ blocks.parted y t env P n
  parted_same x y e (grammar.Foreign kind.CloseBrace k) env P n = ap (λ o. blocks.shut (o P) n k) e
  parted_same x y e t env P n = refl

  followed_same : (x y : Block Value Triple) → x.too_many ≡ y.too_many → x.operation ≡ y.operation → (t : grammar.Symbol) (env : Context Value Triple) (P : List Triple) (n : Numbers)
      → blocks.followed x t env P n ≡ blocks.followed y t env P n
  followed_same x y m o t env P n =
      ap (λ f. cond (f P) (blocks.Stops OutOfProfile) (blocks.parted x t env P n)) m ∙ ap (λ z. cond (y.too_many P) (blocks.Stops OutOfProfile) z) (parted_same x y o t env P n)

  -- what is no token of updates begins triples
  opens : (t : Symbol) → ((k : TokenKind) (e : ℕ) → t ≢ symbol.Foreign k e) → (b : Block Value Triple) (env : Context Value Triple) (P : List Triple) (n : Numbers)
      → blocks.at_triples b (symbol_at t) env P n ≡ blocks.entered b P (opening env n (symbol_at t))
  opens (symbol.Foreign k e) h b env P n = absurd (h k e refl)
  opens t h b env P n = refl

  -- a turn that closes a block
  abbrev is_shut : blocks.BlockTurn Value Triple → Bool
  is_shut (blocks.Shuts o n e) = true
  is_shut t = false

  counts_open : (x : Bool) (r : Rejection) (s : blocks.BlockState Value Triple) → is_shut (cond x (blocks.Stops r) (blocks.Takes s)) ≡ false
  counts_open true r s = refl
  counts_open false r s = refl

  entered_open : (b : Block Value Triple) (P : List Triple) (s : triples.State Value Triple) → is_shut (blocks.entered b P s) ≡ false
  entered_open b P (Lost f) = refl
  entered_open b P (Opened env n) = counts_open (b.too_many (P ++ triples_so_far (Opened env n))) OutOfProfile (blocks.WithinTriples P (Opened env n))
  entered_open b P (Closed v env T n) = counts_open (b.too_many (P ++ T)) OutOfProfile (blocks.WithinTriples P (Closed v env T n))
  entered_open b P (Heading g fs env T n) = counts_open (b.too_many (P ++ T)) OutOfProfile (blocks.WithinTriples P (Heading g fs env T n))
  entered_open b P (Held t fs env T n) = counts_open (b.too_many (P ++ T)) OutOfProfile (blocks.WithinTriples P (Held t fs env T n))
  entered_open b P (Typing t fs env T n) = counts_open (b.too_many (P ++ T)) OutOfProfile (blocks.WithinTriples P (Typing t fs env T n))

  -- no word closes one
  within_open : (b : Block Value Triple) (P : List Triple) (w : grammar.TermToken) (t : triples.Turn Value Triple) → is_shut (blocks.within b (grammar.ATerm w) P t) ≡ false
  within_open b P w (Goes s) = entered_open b P s
  within_open b P w (Ends env T n) =
      let over : Bool → blocks.BlockTurn Value Triple = λ x. cond x (blocks.Stops OutOfProfile) (blocks.Stops (Broken Syntax)) in
      elim (b.too_many (P ++ T)) as (λ x. is_shut (over x) ≡ false) [ true ↦ refl | false ↦ refl ]

  word_open : (b : Block Value Triple) (s : blocks.BlockState Value Triple) (w : grammar.TermToken) → is_shut (blocks.moved b s (grammar.ATerm w)) ≡ false
  word_open b (blocks.AtTriples env P n) w = entered_open b P (opening env n (grammar.ATerm w))
  word_open b (blocks.WithinTriples P s) w = within_open b P w (triples_machine.step s (grammar.ATerm w))

  -- so no label does that may not stand
  barred_open : (o : Option ℕ) (n : Numbers) (t : grammar.Symbol) (b : Block Value Triple) (s : blocks.BlockState Value Triple) → bars_since o n t ≡ true → is_shut (blocks.moved b s t) ≡ false
  barred_open None n t b s h = absurd (false≢true h)
  barred_open (Some k) n (grammar.ATerm (grammar.Label x)) b s h = word_open b s (grammar.Label x)
  barred_open (Some k) n t b s h = absurd (false≢true h)

  -- a text that ends within triples that have no fault
  unfinished : (b : Block Value Triple) (P : List Triple) (s : triples.State Value Triple) → ((f : Fault) → s ≢ Lost f) → Broken Syntax ≡ blocks.ended_within b P (Goes s)
  unfinished b P (Lost e) h = absurd (h e refl)
  unfinished b P s h = refl

module _ {L S V X T K : Type 0} (l : TypedLanguage S V X T K) where
  -- the state of a block, by where it stands
  state_within : (a : CodeBlock L S V X T K) (w : Bool) → a.within ≡ w
      → block_state l a ≡ cond w (blocks.WithinTriples (l.items a.triples) (triples_state l a.parser)) (blocks.AtTriples (context_now l a.parser) (l.items a.triples) (numbers_now a.parser))
  state_within a w e =
      ap (λ z. cond z (blocks.WithinTriples (l.items a.triples) (triples_state l a.parser)) (blocks.AtTriples (context_now l a.parser) (l.items a.triples) (numbers_now a.parser))) e

  -- triples took the symbol
  pub taken_moved : (a b c : CodeBlock L S V X T K) (t : Symbol) (u : CodeTurn) → a.within ≡ true → Goes (triples_state l b.parser) ≡ triples_machine.step (triples_state l a.parser) (symbol_at t)
      → (l.items b.triples) ≡ (l.items a.triples) → b.most ≡ a.most → Turned l c u (entered_turn l b) → Turned l c u (moved_turn l a t)
  taken_moved a b c t u w e ts m h = λ made.
      h made
      ∙ ap (λ z. blocks.entered (rules_of l made b) z (triples_state l b.parser)) ts
      ∙ entered_same (rules_of l made b) (rules_of l made a) (ap more_than m) (l.items a.triples) (triples_state l b.parser)
      ∙ ap (blocks.within (rules_of l made a) (symbol_at t) (l.items a.triples)) e
      ∙ ap (λ z. blocks.moved (rules_of l made a) z (symbol_at t)) (sym (state_within a true w))

  -- it ends them
  pub over_moved : (a b c : CodeBlock L S V X T K) (t : Symbol) (u : CodeTurn) → a.within ≡ true
      → Ends (context_now l b.parser) (pending_triples l b.parser) (numbers_now b.parser) ≡ triples_machine.step (triples_state l a.parser) (symbol_at t)
      → (l.items b.triples) ≡ (l.items a.triples) → b.most ≡ a.most → Turned l c u (followed_turn l b t) → Turned l c u (moved_turn l a t)
  over_moved a b c t u w e ts m h = λ made.
      h made
      ∙ ap (λ z. blocks.followed (rules_of l made b) (symbol_at t) (context_now l b.parser) (z ++ pending_triples l b.parser) (numbers_now b.parser)) ts
      ∙ followed_same (rules_of l made b) (rules_of l made a) (ap more_than m) refl (symbol_at t) (context_now l b.parser) ((l.items a.triples) ++ pending_triples l b.parser) (numbers_now b.parser)
      ∙ ap (blocks.within (rules_of l made a) (symbol_at t) (l.items a.triples)) e
      ∙ ap (λ z. blocks.moved (rules_of l made a) z (symbol_at t)) (sym (state_within a true w))

  -- triples may begin there
  pub opening_moved : (a c : CodeBlock L S V X T K) (t : Symbol) (u : CodeTurn) → a.within ≡ false → Turned l c u (opening_turn l a t) → Turned l c u (moved_turn l a t)
  opening_moved a c t u w h = λ made. h made ∙ ap (λ z. blocks.moved (rules_of l made a) z (symbol_at t)) (sym (state_within a false w))

  -- and the symbol begins some
  pub entered_opening : (a b c : CodeBlock L S V X T K) (t : Symbol) (u : CodeTurn) → ((k : TokenKind) (e : ℕ) → t ≢ symbol.Foreign k e)
      → triples_state l b.parser ≡ opening (context_now l a.parser) (numbers_now a.parser) (symbol_at t)
      → (l.items b.triples) ≡ (l.items a.triples) → b.most ≡ a.most → Turned l c u (entered_turn l b) → Turned l c u (opening_turn l a t)
  entered_opening a b c t u n e ts m h = λ made.
      h made
      ∙ ap (λ z. blocks.entered (rules_of l made b) z (triples_state l b.parser)) ts
      ∙ entered_same (rules_of l made b) (rules_of l made a) (ap more_than m) (l.items a.triples) (triples_state l b.parser)
      ∙ ap (blocks.entered (rules_of l made a) (l.items a.triples)) e
      ∙ sym (opens t n (rules_of l made a) (context_now l a.parser) (l.items a.triples) (numbers_now a.parser))

  -- whether a symbol may stand, in the turn by it
  turn_barred : (a : CodeBlock L S V X T K) (t : Symbol) (b : Bool) (made : Making T) → b ≡ bars_since a.since (numbers_now a.parser) (symbol_at t)
      → cond b (blocks.barred (moved_turn l a t made)) (moved_turn l a t made) ≡ block_turn l a t made
  turn_barred a t b made e = ap (λ z. cond z (blocks.barred (moved_turn l a t made)) (moved_turn l a t made)) e

  -- a symbol that may stand
  pub free_step : (a c : CodeBlock L S V X T K) (t : Symbol) (u : CodeTurn) → false ≡ bars_since a.since (numbers_now a.parser) (symbol_at t) → Turned l c u (moved_turn l a t) → Turned l c u (block_turn l a t)
  free_step a c t u e h = λ made. h made ∙ turn_barred a t false made e

  -- one that may not stand, after a departure
  pub stopped_step : (a c d : CodeBlock L S V X T K) (t : Symbol) (r : CodeRejection) → true ≡ bars_since a.since (numbers_now a.parser) (symbol_at t)
      → Turned l c (turn.Stops r) (moved_turn l a t) → Turned l d (turn.Stops r) (block_turn l a t)
  stopped_step a c d t r e h = λ made. ap blocks.barred (h made) ∙ turn_barred a t true made e

  -- and with none before
  pub barred_step : (a c d : CodeBlock L S V X T K) (t : Symbol) (u : CodeTurn) → true ≡ bars_since a.since (numbers_now a.parser) (symbol_at t) → ((r : CodeRejection) → u ≢ turn.Stops r)
      → Turned l c u (moved_turn l a t) → Turned l d (turn.Stops (rejection.Broken Syntax)) (block_turn l a t)
  barred_step a c d t turn.Takes e n h = λ made. ap blocks.barred (h made) ∙ turn_barred a t true made e
  barred_step a c d t (turn.Shuts k) e n h =
      let made : Making T = λ P. Some (Inserts []) in
      absurd (false≢true (sym (ap is_shut (h made) ∙ barred_open a.since (numbers_now a.parser) (symbol_at t) (rules_of l made a) (block_state l a) (sym e))))
  barred_step a c d t (turn.Stops r) e n h = absurd (n r refl)

  -- a text that ends where triples may begin
  pub end_between : (a : CodeBlock L S V X T K) (made : Making T) → a.within ≡ false → Broken Syntax ≡ end_turn l a made
  end_between a made w = ap (blocks.block_ended (rules_of l made a)) (sym (state_within a false w))

  -- or within some, by what a brace would do
  end_within : (a : CodeBlock L S V X T K) (made : Making T) (t : triples.Turn X T) → a.within ≡ true → t ≡ triples_machine.step (triples_state l a.parser) (grammar.Foreign kind.CloseBrace 0)
      → blocks.ended_within (rules_of l made a) (l.items a.triples) t ≡ end_turn l a made
  end_within a made t w e =
      ap (blocks.ended_within (rules_of l made a) (l.items a.triples)) e ∙ ap (blocks.block_ended (rules_of l made a)) (sym (state_within a true w))

  pub end_unfinished : (a : CodeBlock L S V X T K) (s : triples.State X T) (made : Making T) → a.within ≡ true → Goes s ≡ triples_machine.step (triples_state l a.parser) (grammar.Foreign kind.CloseBrace 0)
      → ((f : Fault) → s ≢ Lost f) → Broken Syntax ≡ end_turn l a made
  end_unfinished a s made w e h = unfinished (rules_of l made a) (l.items a.triples) s h ∙ end_within a made (Goes s) w e

  pub end_lost : (a : CodeBlock L S V X T K) (s : triples.State X T) (made : Making T) (f : Fault) → a.within ≡ true → Goes s ≡ triples_machine.step (triples_state l a.parser) (grammar.Foreign kind.CloseBrace 0)
      → s ≡ Lost f → Broken f ≡ end_turn l a made
  end_lost a s made f w e h = ap (λ z. blocks.ended_within (rules_of l made a) (l.items a.triples) (Goes z)) (sym h) ∙ end_within a made (Goes s) w e

  pub end_over : (a : CodeBlock L S V X T K) (env : Context X T) (P : List T) (n : Numbers) (b : Bool) (made : Making T) → a.within ≡ true
      → Ends env P n ≡ triples_machine.step (triples_state l a.parser) (grammar.Foreign kind.CloseBrace 0) → b ≡ more_than a.most ((l.items a.triples) ++ P)
      → cond b OutOfProfile (Broken Syntax) ≡ end_turn l a made
  end_over a env P n b made w e m = ap (λ z. cond z OutOfProfile (Broken Syntax)) m ∙ end_within a made (Ends env P n) w e

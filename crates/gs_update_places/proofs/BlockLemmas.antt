-- What a symbol of triples leaves of a block: its context, and the labels that it bars.
use Rattle.std.proofs.Common.{◌≡◌, ◌≢◌, ℕ, ◌≤◌, List, refl, sym, ap, ◌∙◌, subst, arith}
use Rattle.std.specs.Prelude.{codes, Option, Some, None}
use Rattle.gs_blank.specs.Numbers.{Numbers}
use Rattle.gs_escape.specs.Tokens.{rest_after}
use Rattle.gs_triples.specs.Symbols.{Symbol, ATerm, Label}
use Rattle.gs_triples.specs.Meanings.{Fault, Context}
use Rattle.gs_triples.specs.States as triples
use Rattle.gs_triples.specs.States.{Opened, Closed, Heading, Held, Typing, Lost, Goes, Ends}
use Rattle.gs_triples.specs.Machine as triples_machine
use Rattle.gs_triples.specs.Machine.{opening}
use Rattle.gs_triple_values.specs.Languages.{TypedLanguage}
use Rattle.gs_triple_parser.specs.Views.{triples_state, triples_state_at, context_now, numbers_now}
use Rattle.gs_triple_parser.specs.declared.parser.TripleParser.{TripleParser}
use Rattle.gs_triple_parser.specs.declared.places.Place as code
use Rattle.gs_triple_parser.specs.declared.places.Place.TheVariants as place
use Rattle.gs_update_text.specs.Operations.{is_old}
use Rattle.gs_update_text.proofs.GrowthLemmas.{NotLost}
use Rattle.gs_update_text.proofs.NumberLemmas.{Keeps, keeps_all, Kept, KeptBy, Stays, stays_one, stays_label, step_stays, opening_stays}
use Rattle.gs_update_places.specs.Views.{HasGiven, bars_since, more_than}
use Rattle.gs_update_places.specs.Steps as steps
use Rattle.gs_update_places.specs.declared.blocks.Block.{Block as CodeBlock}
use Rattle.gs_update_places.specs.declared.blocks.BlockTurn.{BlockTurn as CodeTurn}
use Rattle.gs_update_places.specs.declared.blocks.BlockTurn.TheVariants as turn

module _ {Value Triple : Type 0} where
  -- a state that is not lost
  pub goes_on : (s : triples.State Value Triple) → ((f : Fault) → s ≢ Lost f) → NotLost s
  goes_on (Lost e) h = h e refl
  goes_on (Opened env n) h = tt
  goes_on (Closed v env T n) h = tt
  goes_on (Heading g fs env T n) h = tt
  goes_on (Held x fs env T n) h = tt
  goes_on (Typing x fs env T n) h = tt

-- labels with the first k numbers are the same
old_same : (k : ℕ) (m n : Numbers) → Keeps k m n → (t : Symbol) → is_old k n t ≡ is_old k m t
old_same k m n h (ATerm (Label x)) = h.1 (rest_after (codes "_:") x)
old_same k m n h t = refl

bars_same : (o : Option ℕ) (m n : Numbers) → ((k : ℕ) → k ≤ m.1 → Keeps k m n) → HasGiven o m → bars_since o n ≡ bars_since o m
bars_same None m n f h = refl
bars_same (Some k) m n f h = λ i t. old_same k m n (f k h) t i

given_same : (o : Option ℕ) (m n : Numbers) → ((k : ℕ) → k ≤ m.1 → Keeps k m n) → HasGiven o m → HasGiven o n
given_same None m n f h = tt
given_same (Some k) m n f h = (f k h).0

module _ {L S V X T K : Type 0} (l : TypedLanguage S V X T K) where
  -- what stays of a parser, by its context and numbers
  abbrev ParserStays : TripleParser L S V X T K → TripleParser L S V X T K → ℕ → Type 0
  ParserStays p q k = Stays k (context_now l p) (numbers_now p) (context_now l q) (numbers_now q)

  -- a place keeps what its parser keeps
  kept_at : (k : ℕ) (c : Context X T) (m : Numbers) (q : TripleParser L S V X T K) (h : code.Place L S V X T K) → Stays k c m (context_now l q) (numbers_now q)
      → Kept (Stays k c m) (stays_one k c m) (stays_label k c m) (triples_state_at l q h)
  kept_at k c m q place.Opened g = g
  kept_at k c m q (place.Closed s) g = g
  kept_at k c m q (place.Heading x) g = g
  kept_at k c m q (place.Held s) g = g
  kept_at k c m q (place.Typing s) g = g
  kept_at k c m q (place.Lost e) g = tt

  now_kept_at : (k : ℕ) (c : Context X T) (m : Numbers) (q : TripleParser L S V X T K) (h : code.Place L S V X T K) → NotLost (triples_state_at l q h)
      → Kept (Stays k c m) (stays_one k c m) (stays_label k c m) (triples_state_at l q h) → Stays k c m (context_now l q) (numbers_now q)
  now_kept_at k c m q place.Opened n g = g
  now_kept_at k c m q (place.Closed s) n g = g
  now_kept_at k c m q (place.Heading x) n g = g
  now_kept_at k c m q (place.Held s) n g = g
  now_kept_at k c m q (place.Typing s) n g = g
  now_kept_at k c m q (place.Lost e) n g = elim n [ ]

  -- a symbol that triples took
  pub taken_keeps : (p q : TripleParser L S V X T K) (t : Symbol) → Goes (triples_state l q) ≡ triples_machine.step (triples_state l p) t → NotLost (triples_state l q)
      → (k : ℕ) → k ≤ (numbers_now p).1 → ParserStays p q k
  taken_keeps p q t e n k h =
      let c = context_now l p in
      let m = numbers_now p in
      now_kept_at k c m q q.place n
      (subst (KeptBy (Stays k c m) (stays_one k c m) (stays_label k c m)) (sym e) (step_stays k c m (triples_state l p) t (kept_at k c m p p.place (refl, keeps_all k m h))))

  -- one that ends them
  pub over_keeps : (p q : TripleParser L S V X T K) (t : Symbol) (P : List T) → Ends (context_now l q) P (numbers_now q) ≡ triples_machine.step (triples_state l p) t
      → (k : ℕ) → k ≤ (numbers_now p).1 → ParserStays p q k
  over_keeps p q t P e k h =
      let c = context_now l p in
      let m = numbers_now p in
      subst (KeptBy (Stays k c m) (stays_one k c m) (stays_label k c m)) (sym e) (step_stays k c m (triples_state l p) t (kept_at k c m p p.place (refl, keeps_all k m h)))

  -- and the first one
  pub opened_keeps : (p q : TripleParser L S V X T K) (t : Symbol) → triples_state l q ≡ opening (context_now l p) (numbers_now p) t → NotLost (triples_state l q)
      → (k : ℕ) → k ≤ (numbers_now p).1 → ParserStays p q k
  opened_keeps p q t e n k h =
      let c = context_now l p in
      let m = numbers_now p in
      now_kept_at k c m q q.place n
      (subst (Kept (Stays k c m) (stays_one k c m) (stays_label k c m)) (sym e) (opening_stays k c m m t (keeps_all k m h)))

  -- so context and rules of a block stay
  pub block_stays : (a b : CodeBlock L S V X T K) → b.since ≡ a.since → b.most ≡ a.most → HasGiven a.since (numbers_now a.parser)
      → ((k : ℕ) → k ≤ (numbers_now a.parser).1 → ParserStays a.parser b.parser k) → steps.Stays l a b
  block_stays a b s m g f =
      let C : context_now l b.parser ≡ context_now l a.parser = (f 0 (omega arith)).0 in
      let keeps : (k : ℕ) → k ≤ (numbers_now a.parser).1 → Keeps k (numbers_now a.parser) (numbers_now b.parser) = λ k h. (f k h).1 in
      let B : bars_since b.since (numbers_now b.parser) ≡ bars_since a.since (numbers_now a.parser) =
      ap (λ z. bars_since z (numbers_now b.parser)) s ∙ bars_same a.since (numbers_now a.parser) (numbers_now b.parser) keeps g in
      record {
        context = C;
        rules = λ made i. record { language = (C i).language; bars = B i; too_many = more_than (m i); operation = made };
        given = subst (λ z. HasGiven z (numbers_now b.parser)) (sym s) (given_same a.since (numbers_now a.parser) (numbers_now b.parser) keeps g);
      }

  -- they stay whatever the turn is
  pub stays_unless : (a b : CodeBlock L S V X T K) (u : CodeTurn) → steps.Stays l a b → steps.StaysUnless l a b u
  stays_unless a b turn.Takes h = h
  stays_unless a b (turn.Shuts e) h = h
  stays_unless a b (turn.Stops r) h = tt

  -- nothing changes
  pub nothing_stays : (a : CodeBlock L S V X T K) (u : CodeTurn) → HasGiven a.since (numbers_now a.parser) → steps.StaysUnless l a a u
  nothing_stays a u g = stays_unless a a u (record { context = refl; rules = λ made. refl; given = g })

  -- after a symbol that triples took, unless they have a fault
  pub entered_stays : (a b c : CodeBlock L S V X T K) (u : CodeTurn) → steps.GoesOn l b u → b.since ≡ a.since → b.most ≡ a.most → c.parser ≡ b.parser → steps.KeepsBounds b c
      → HasGiven a.since (numbers_now a.parser) → (NotLost (triples_state l b.parser) → (k : ℕ) → k ≤ (numbers_now a.parser).1 → ParserStays a.parser b.parser k) → steps.StaysUnless l a c u
  entered_stays a b c turn.Takes g s m p k h f =
      block_stays a c (k.since ∙ s) (k.most ∙ m) h (subst (λ z. (k : ℕ) → k ≤ (numbers_now a.parser).1 → ParserStays a.parser z k) (sym p) (f (goes_on (triples_state l b.parser) g)))
  entered_stays a b c (turn.Shuts e) g s m p k h f = absurd g
  entered_stays a b c (turn.Stops r) g s m p k h f = tt

  -- after one that ends them
  pub followed_stays : (a b c : CodeBlock L S V X T K) (u : CodeTurn) → b.since ≡ a.since → b.most ≡ a.most → steps.KeepsBounds b c → context_now l c.parser ≡ context_now l b.parser
      → numbers_now c.parser ≡ numbers_now b.parser → HasGiven a.since (numbers_now a.parser) → ((k : ℕ) → k ≤ (numbers_now a.parser).1 → ParserStays a.parser b.parser k) → steps.StaysUnless l a c u
  followed_stays a b c u s m k e n h f =
      let parser_stays : (k : ℕ) → k ≤ (numbers_now a.parser).1 → ParserStays a.parser c.parser k =
      λ k g. (e ∙ (f k g).0, subst (Keeps k (numbers_now a.parser)) (sym n) (f k g).1) in
      stays_unless a c u (block_stays a c (k.since ∙ s) (k.most ∙ m) h parser_stays)

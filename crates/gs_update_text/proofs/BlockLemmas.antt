-- The machine of a block over triples, up to the token that ends them, and back.
use Rattle.std.proofs.Common.{◌≡◌, ℕ, false, cond, List, ◌∷◌, ◌++◌, refl, sym, ap, ◌∙◌, append_assoc, append-nil}
use Rattle.std.specs.Prelude.{◌||◌, Result}
use Rattle.std.specs.List.{list_any}
use Rattle.std.proofs.lemmas.Bool.{or_parts}
use Rattle.std.proofs.lemmas.List.Folds.{list_any-append}
use Rattle.gs_blank.specs.Numbers.{Numbers}
use Rattle.gs_lex.specs.declared.kinds.TokenKind.TheVariants as kind
use Rattle.gs_triples.specs.Symbols.{Symbol, Dot, Foreign}
use Rattle.gs_triples.specs.Meanings.{Context}
use Rattle.gs_triples.specs.States as triples
use Rattle.gs_triples.specs.States.{Opened, Closed, Heading, Held, Typing, Lost, Goes, Ends}
use Rattle.gs_triples.specs.Machine as triples_machine
use Rattle.gs_triples.specs.Machine.{opening}
use Rattle.gs_update_text.specs.Requests.{Rejection, OutOfProfile}
use Rattle.gs_update_text.specs.Operations.{Block}
use Rattle.gs_update_text.specs.Grammar.{IsTemplate}
use Rattle.gs_update_text.specs.Grammar as rule
use Rattle.gs_triples.specs.States.{triples_so_far}
use Rattle.gs_update_text.specs.Blocks.{BlockState, AtTriples, WithinTriples, BlockTurn, Takes, Stops, Shut, counted, entered, shut, parted, within, barred, at_triples, moved, block_step, block_taken, block_run}
use Rattle.gs_update_text.proofs.LeadLemmas.{Leads, stay, go, LeadTriples, triples_lead}
use Rattle.gs_update_text.proofs.GrowthLemmas.{Extends, NotLost, leads_grow}

-- a token that parts or ends the triples of a block
abbrev pub Parts : Symbol → Type 0
Parts (Dot e) = Unit {0}
Parts (Foreign kind.CloseBrace e) = Unit {0}
Parts t = ⊥

module _ {Value Triple : Type 0} where
  -- where triples are not too many, fewer are not
  abbrev pub Bounds : Block Value Triple → Type 0
  Bounds b = (P V : List Triple) → b.too_many (P ++ V) ≡ false → b.too_many P ≡ false

  -- what is read of a block from a turn
  abbrev pub block_reported : Block Value Triple → List Symbol → BlockTurn Value Triple → Result Shut Rejection
  block_reported b ts u = block_taken (block_run b ts) ts u

  few_takes : (b : Block Value Triple) (P : List Triple) (s : triples.State Value Triple) → b.too_many (P ++ triples_so_far s) ≡ false → counted b P s ≡ Takes (WithinTriples P s)
  few_takes b P s q = ap (λ z. cond z (Stops OutOfProfile) (Takes (WithinTriples P s))) q

  -- a state of triples that are not too many, and without a fault
  enter : (b : Block Value Triple) (P : List Triple) (s : triples.State Value Triple) → NotLost s → b.too_many (P ++ triples_so_far s) ≡ false
      → entered b P s ≡ Takes (WithinTriples P s)
  enter b P (Lost e) h q = elim h [ ]
  enter b P (Opened env n) h q = few_takes b P (Opened env n) q
  enter b P (Closed v env T n) h q = few_takes b P (Closed v env T n) q
  enter b P (Heading g fs env T n) h q = few_takes b P (Heading g fs env T n) q
  enter b P (Held x fs env T n) h q = few_takes b P (Held x fs env T n) q
  enter b P (Typing x fs env T n) h q = few_takes b P (Typing x fs env T n) q

  few_before : (b : Block Value Triple) → Bounds b → (P A T : List Triple) → Extends A T → b.too_many (P ++ T) ≡ false → b.too_many (P ++ A) ≡ false
  few_before b bounds P A T (V, p) q = bounds (P ++ A) V (ap b.too_many (append_assoc P A V ∙ ap (λ z. P ++ z) (sym p)) ∙ q)

  -- a token that may stand
  pub stands : (b : Block Value Triple) (s : BlockState Value Triple) (t : Symbol) → b.bars t ≡ false → block_step b s t ≡ moved b s t
  stands b s t h = ap (λ z. cond z (barred (moved b s t)) (moved b s t)) h

  -- from one state of triples to the state that the token after them ends
  block_leads : {s u : triples.State Value Triple} {xs : List Symbol} {env : Context Value Triple} {T : List Triple} {n : Numbers} (b : Block Value Triple) → Bounds b → (P : List Triple)
      (t : Symbol) (us : List Symbol) → Leads s xs u → triples_machine.step u t ≡ Ends env T n → list_any b.bars xs ≡ false → b.too_many (P ++ T) ≡ false
      → block_run b (xs ++ t ∷ us) (WithinTriples P s) ≡ block_run b (t ∷ us) (WithinTriples P u)
  unfolding block_run
  block_leads b bounds P t us (stay s) q new few = refl
  block_leads {s = s} {T = T} b bounds P t us (go {u = v} {ts = ts} x p l) q new few =
      let (here, later) : (b.bars x ≡ false) × (list_any b.bars ts ≡ false) = or_parts (b.bars x) (list_any b.bars ts) new in
      let (goes, more) : NotLost v × Extends (triples_so_far v) T = leads_grow t l q in
      ap (block_reported b (ts ++ t ∷ us))
      (stands b (WithinTriples P s) x here ∙ ap (within b x P) p ∙ enter b P v goes (few_before b bounds P (triples_so_far v) T more few))
      ∙ block_leads b bounds P t us l q later few

  -- the token after triples
  block_ends : {env : Context Value Triple} {T : List Triple} {n : Numbers} (b : Block Value Triple) (P : List Triple) (u : triples.State Value Triple)
      (t : Symbol) (us : List Symbol) → triples_machine.step u t ≡ Ends env T n → b.bars t ≡ false → b.too_many (P ++ T) ≡ false
      → block_run b (t ∷ us) (WithinTriples P u) ≡ block_reported b us (parted b t env (P ++ T) n)
  unfolding block_run
  block_ends {env = env} {T = T} {n = n} b P u t us q new few =
      ap (block_reported b us) (stands b (WithinTriples P u) t new ∙ ap (within b t P) q ∙ ap (λ z. cond z (Stops OutOfProfile) (parted b t env (P ++ T) n)) few)

  -- the first symbol of triples is none that a block itself takes
  pub first_enters : (b : Block Value Triple) (P : List Triple) (env : Context Value Triple) (n : Numbers) (t : Symbol) → NotLost (opening env n t)
      → at_triples b t env P n ≡ entered b P (opening env n t)
  first_enters b P env n (Foreign k e) h = elim h [ ]
  first_enters b P env n t h = refl

  -- triples and the token after them, from where they begin
  pub block_triples : {env : Context Value Triple} {n k : Numbers} {ts : List Symbol} {T : List Triple} (b : Block Value Triple) → Bounds b → (P : List Triple) (t : Symbol) (us : List Symbol)
      → LeadTriples env n ts t T k → list_any b.bars ts ≡ false → b.bars t ≡ false → b.too_many (P ++ T) ≡ false
      → block_run b (ts ++ t ∷ us) (AtTriples env P n) ≡ block_reported b us (parted b t env (P ++ T) k)
  unfolding block_run
  block_triples {env = env} {n = n} {k = k} {T = T} b bounds P t us r new free few =
      let w : Symbol = r.first in
      let xs : List Symbol = r.others in
      let (here, later) : (b.bars w ≡ false) × (list_any b.bars xs ≡ false) = or_parts (b.bars w) (list_any b.bars xs) (ap (list_any b.bars) (sym r.parts) ∙ new) in
      let (goes, more) : NotLost (opening env n w) × Extends (triples_so_far (opening env n w)) T = leads_grow t r.leads r.ends in
      ap (λ z. block_run b (z ++ t ∷ us) (AtTriples env P n)) r.parts
      ∙ ap (block_reported b (xs ++ t ∷ us))
      (stands b (AtTriples env P n) w here ∙ first_enters b P env n w goes ∙ enter b P (opening env n w) goes (few_before b bounds P (triples_so_far (opening env n w)) T more few))
      ∙ block_leads b bounds P t us r.leads r.ends later few
      ∙ block_ends b P r.state t us r.ends free few

  -- the tokens of a block's triples, and its closing brace
  pub template_run : {env : Context Value Triple} {n k : Numbers} {xs : List Symbol} {T : List Triple} (b : Block Value Triple) → Bounds b → (P : List Triple) (e : ℕ) (us : List Symbol)
      → IsTemplate env n xs T k → list_any b.bars xs ≡ false → ((t : Symbol) → Parts t → b.bars t ≡ false) → b.too_many (P ++ T) ≡ false
      → block_run b (xs ++ Foreign kind.CloseBrace e ∷ us) (AtTriples env P n) ≡ block_reported b us (shut (b.operation (P ++ T)) k e)
  unfolding block_run
  template_run {env = env} b bounds P e us (rule.nothing n) new free few =
      ap (block_reported b us) (stands b (AtTriples env P n) (Foreign kind.CloseBrace e) (free (Foreign kind.CloseBrace e) tt))
      ∙ ap (λ z. block_reported b us (shut (b.operation z) n e)) (sym (append-nil P))
  template_run b bounds P e us (rule.last a) new free few =
      block_triples b bounds P (Foreign kind.CloseBrace e) us (triples_lead a (Foreign kind.CloseBrace e) tt) new (free (Foreign kind.CloseBrace e) tt) few
  template_run {env = env} {n = n} b bounds P e us (rule.more {k = k} {l = l} {xs = xs} {ys = ys} {T = T} {U = U} i a r) new free few =
      let (here, later) : (list_any b.bars xs ≡ false) × ((b.bars (Dot i) || list_any b.bars ys) ≡ false) =
      or_parts (list_any b.bars xs) (b.bars (Dot i) || list_any b.bars ys) (sym (list_any-append b.bars xs (Dot i ∷ ys)) ∙ new) in
      let there : list_any b.bars ys ≡ false = (or_parts (b.bars (Dot i)) (list_any b.bars ys) later).1 in
      let both : b.too_many ((P ++ T) ++ U) ≡ false = ap b.too_many (append_assoc P T U) ∙ few in
      ap (λ z. block_run b z (AtTriples env P n)) (append_assoc xs (Dot i ∷ ys) (Foreign kind.CloseBrace e ∷ us))
      ∙ block_triples b bounds P (Dot i) (ys ++ Foreign kind.CloseBrace e ∷ us) (triples_lead a (Dot i) tt) here (free (Dot i) tt) (bounds (P ++ T) U both)
      ∙ template_run b bounds (P ++ T) e us r there free both
      ∙ ap (λ z. block_reported b us (shut (b.operation z) l e)) (append_assoc P T U)

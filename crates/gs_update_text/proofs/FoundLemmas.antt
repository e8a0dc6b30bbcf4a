-- What the machine of a block has read where it ends is what the rules say.
use Rattle.std.proofs.Common.{◌≡◌, ℕ, zero, suc, ◌≤◌, Bool, true, false, cond, List, [], ◌∷◌, ◌++◌, length, refl, sym, ap, ◌∙◌, append_assoc, append-nil, subst, arith, length-append}
use Rattle.std.specs.Prelude.{◌||◌, Result, Ok, Err, Option, Some, None}
use Rattle.std.specs.List.{list_any}
use Rattle.std.proofs.lemmas.List.Folds.{list_any-append}
use Rattle.gs_blank.specs.Numbers.{Numbers}
use Rattle.gs_lex.specs.declared.kinds.TokenKind.TheVariants as kind
use Rattle.gs_triples.specs.Symbols.{Symbol, Dot, Foreign}
use Rattle.gs_triples.specs.Meanings.{Context}
use Rattle.gs_triples.specs.Triples.{AreTriples}
use Rattle.gs_triples.specs.States as triples
use Rattle.gs_triples.specs.States.{Opened, Closed, Heading, Held, Typing, Lost, Goes, Ends}
use Rattle.gs_triples.specs.Machine as triples_machine
use Rattle.gs_triples.specs.Machine.{opening}
use Rattle.gs_update_text.specs.Requests.{UpdateOperation, Rejection, OutOfProfile}
use Rattle.gs_update_text.specs.Operations.{Block}
use Rattle.gs_update_text.specs.Grammar.{IsTemplate}
use Rattle.gs_update_text.specs.Grammar as rule
use Rattle.gs_triples.specs.States.{triples_so_far}
use Rattle.gs_update_text.specs.Blocks.{AtTriples, WithinTriples, BlockTurn, Takes, Shuts, Stops, Shut, counted, entered, shut, parted, within, barred, at_triples, moved, block_run}
use Rattle.gs_update_text.proofs.LeadLemmas.{Leads, stay, go, lead_triples}
use Rattle.gs_update_text.proofs.BlockLemmas.{block_reported}

-- the block that was read, or this one
abbrev shut_or : Shut → Result Shut Rejection → Shut
shut_or d (Ok r) = r
shut_or d (Err e) = d

module _ {Value Triple : Type 0} where
  -- the tokens up to the one that ends the triples, where the block ends as d
  record Through (b : Block Value Triple) (P : List Triple) (ts : List Symbol) (s : triples.State Value Triple) (d : Shut) : Type 0 where
    front : List Symbol
    state : triples.State Value Triple
    next : Symbol
    after : List Symbol
    context : Context Value Triple
    triples : List Triple
    numbers : Numbers
    parts : ts ≡ front ++ next ∷ after
    leads : Leads s front state
    ends : triples_machine.step state next ≡ Ends context triples numbers
    new : list_any b.bars front ≡ false
    few : b.too_many (P ++ triples) ≡ false
    goes : block_reported b after (parted b next context (P ++ triples) numbers) ≡ Ok d

  -- a turn after which a block is read is one of a token that may stand
  unbarred : (b : Block Value Triple) (ts : List Symbol) (d : Shut) (m : BlockTurn Value Triple) (c : Bool) → block_reported b ts (cond c (barred m) m) ≡ Ok d
      → (c ≡ false) × (block_reported b ts m ≡ Ok d)
  unbarred b ts d m false h = (refl, h)
  unbarred b ts d (Takes s) true h = absurd (cc)
  unbarred b ts d (Shuts o n e) true h = absurd (cc)
  unbarred b ts d (Stops r) true h = absurd (cc)

  few_if : (b : Block Value Triple) (ts : List Symbol) (d : Shut) (m : BlockTurn Value Triple) (r : Rejection) (c : Bool) → block_reported b ts (cond c (Stops r) m) ≡ Ok d
      → (c ≡ false) × (block_reported b ts m ≡ Ok d)
  few_if b ts d m r false h = (refl, h)
  few_if b ts d m r true h = absurd (cc)

  counted_on : (b : Block Value Triple) (P : List Triple) (ts : List Symbol) (d : Shut) (s : triples.State Value Triple) → block_reported b ts (counted b P s) ≡ Ok d
      → block_run b ts (WithinTriples P s) ≡ Ok d
  counted_on b P ts d s h = (few_if b ts d (Takes (WithinTriples P s)) OutOfProfile (b.too_many (P ++ triples_so_far s)) h).1

  -- triples go on
  entered_on : (b : Block Value Triple) (P : List Triple) (ts : List Symbol) (d : Shut) (s : triples.State Value Triple) → block_reported b ts (entered b P s) ≡ Ok d
      → block_run b ts (WithinTriples P s) ≡ Ok d
  entered_on b P ts d (Lost e) h = absurd (cc)
  entered_on b P ts d (Opened env n) h = counted_on b P ts d (Opened env n) h
  entered_on b P ts d (Closed v env T n) h = counted_on b P ts d (Closed v env T n) h
  entered_on b P ts d (Heading g fs env T n) h = counted_on b P ts d (Heading g fs env T n) h
  entered_on b P ts d (Held x fs env T n) h = counted_on b P ts d (Held x fs env T n) h
  entered_on b P ts d (Typing x fs env T n) h = counted_on b P ts d (Typing x fs env T n) h

  through_one : (b : Block Value Triple) (P : List Triple) (t : Symbol) (ts : List Symbol) (s v : triples.State Value Triple) (d : Shut) → b.bars t ≡ false
      → triples_machine.step s t ≡ Goes v → Through b P ts v d → Through b P (t ∷ ts) s d
  through_one b P t ts s v d free q r = record {
    front = t ∷ r.front;
    state = r.state;
    next = r.next;
    after = r.after;
    context = r.context;
    triples = r.triples;
    numbers = r.numbers;
    parts = ap (λ z. t ∷ z) r.parts;
    leads = go t q r.leads;
    ends = r.ends;
    new = ap (λ z. z || list_any b.bars r.front) free ∙ r.new;
    few = r.few;
    goes = r.goes;
  }

  through_turn : (b : Block Value Triple) (P : List Triple) (t : Symbol) (ts : List Symbol) (s : triples.State Value Triple) (d : Shut) (u : triples.Turn Value Triple) → b.bars t ≡ false
      → triples_machine.step s t ≡ u → ((v : triples.State Value Triple) → block_run b ts (WithinTriples P v) ≡ Ok d → Through b P ts v d)
      → block_reported b ts (within b t P u) ≡ Ok d → Through b P (t ∷ ts) s d
  through_turn b P t ts s d (Goes v) free q again h = through_one b P t ts s v d free q (again v (entered_on b P ts d v h))
  through_turn b P t ts s d (Ends env T n) free q again h = record {
    front = [];
    state = s;
    next = t;
    after = ts;
    context = env;
    triples = T;
    numbers = n;
    parts = refl;
    leads = stay s;
    ends = q;
    new = refl;
    few = (few_if b ts d (parted b t env (P ++ T) n) OutOfProfile (b.too_many (P ++ T)) h).0;
    goes = (few_if b ts d (parted b t env (P ++ T) n) OutOfProfile (b.too_many (P ++ T)) h).1;
  }

  through : (b : Block Value Triple) (P : List Triple) (ts : List Symbol) (s : triples.State Value Triple) (d : Shut) → block_run b ts (WithinTriples P s) ≡ Ok d → Through b P ts s d
  unfolding block_run
  through b P [] s d h = absurd (cc)
  through b P (t ∷ ts) s d h =
      let (free, k) : (b.bars t ≡ false) × (block_reported b ts (within b t P (triples_machine.step s t)) ≡ Ok d) = unbarred b ts d (moved b (WithinTriples P s) t) (b.bars t) h in
      through_turn b P t ts s d (triples_machine.step s t) free refl (λ v. through b P ts v d) k

  -- a block's triples, its closing brace, and what it makes of them
  pub record Found (b : Block Value Triple) (env : Context Value Triple) (P : List Triple) (n : Numbers) (ts : List Symbol) (d : Shut) : Type 0 where
    pub content : List Symbol
    pub triples : List Triple
    pub parts : ts ≡ content ++ Foreign kind.CloseBrace d.end ∷ d.rest
    pub template : IsTemplate env n content triples d.numbers
    pub new : list_any b.bars content ≡ false
    pub few : b.too_many (P ++ triples) ≡ false
    pub made : b.operation (P ++ triples) ≡ Some d.operation

  -- a closing brace after these triples
  shut_found : (b : Block Value Triple) (env : Context Value Triple) (P T : List Triple) (n k : Numbers) (xs us : List Symbol) (e : ℕ) (d : Shut) (o : Option UpdateOperation)
      → b.operation (P ++ T) ≡ o → IsTemplate env n xs T k → list_any b.bars xs ≡ false → b.too_many (P ++ T) ≡ false
      → block_reported b us (shut o k e) ≡ Ok d → Found b env P n (xs ++ Foreign kind.CloseBrace e ∷ us) d
  shut_found b env P T n k xs us e d None q a new few h = absurd (cc)
  shut_found b env P T n k xs us e d (Some o) q a new few h =
      subst (λ z. Found b env P n (xs ++ Foreign kind.CloseBrace e ∷ us) z) (ap (shut_or d) h)
      (record { content = xs; triples = T; parts = refl; template = a; new = new; few = few; made = q })

  abbrev pub Finds : ℕ → Block Value Triple → Context Value Triple → Shut → Type 0
  Finds f b env d = (P : List Triple) (n : Numbers) (ts : List Symbol) → length ts ≤ f → b.too_many P ≡ false → block_run b ts (AtTriples env P n) ≡ Ok d → Found b env P n ts d

  -- and triples after a dot
  dot_found : (b : Block Value Triple) (env : Context Value Triple) (P T : List Triple) (n k : Numbers) (xs us : List Symbol) (e : ℕ) (d : Shut)
      → AreTriples env n xs T k → list_any b.bars xs ≡ false → b.bars (Dot e) ≡ false → Found b env (P ++ T) k us d → Found b env P n (xs ++ Dot e ∷ us) d
  dot_found b env P T n k xs us e d a new free r = record {
    content = xs ++ Dot e ∷ r.content;
    triples = T ++ r.triples;
    parts = ap (λ z. xs ++ Dot e ∷ z) r.parts ∙ sym (append_assoc xs (Dot e ∷ r.content) _);
    template = rule.more e a r.template;
    new = list_any-append b.bars xs (Dot e ∷ r.content) ∙ ap (λ z. z || (b.bars (Dot e) || list_any b.bars r.content)) new ∙ ap (λ z. z || list_any b.bars r.content) free ∙ r.new;
    few = ap b.too_many (sym (append_assoc P T r.triples)) ∙ r.few;
    made = ap b.operation (sym (append_assoc P T r.triples)) ∙ r.made;
  }

  -- the token after triples
  parted_found : (f : ℕ) (b : Block Value Triple) (env : Context Value Triple) (P T : List Triple) (n k : Numbers) (xs us : List Symbol) (t : Symbol) (d : Shut)
      → Finds f b env d → AreTriples env n xs T k → list_any b.bars xs ≡ false → ((e : ℕ) → b.bars (Dot e) ≡ false) → b.too_many (P ++ T) ≡ false → length us ≤ f
      → block_reported b us (parted b t env (P ++ T) k) ≡ Ok d → Found b env P n (xs ++ t ∷ us) d
  parted_found f b env P T n k xs us (Dot e) d again a new free few size h =
      dot_found b env P T n k xs us e d a new (free e) (again (P ++ T) k us size few h)
  parted_found f b env P T n k xs us (Foreign kind.CloseBrace e) d again a new free few size h =
      shut_found b env P T n k xs us e d (b.operation (P ++ T)) refl (rule.last a) new few h
  parted_found f b env P T n k xs us t d again a new free few size h = absurd (cc)

  -- triples from their first symbol on
  triples_found : (f : ℕ) (b : Block Value Triple) (env : Context Value Triple) (P : List Triple) (n : Numbers) (w : Symbol) (ts : List Symbol) (d : Shut)
      → Finds f b env d → ((e : ℕ) → b.bars (Dot e) ≡ false) → b.bars w ≡ false → length ts ≤ f → block_reported b ts (entered b P (opening env n w)) ≡ Ok d → Found b env P n (w ∷ ts) d
  triples_found f b env P n w ts d again free here size h =
      let r : Through b P ts (opening env n w) d = through b P ts (opening env n w) d (entered_on b P ts d (opening env n w) h) in
      let (same, a) : (env ≡ r.context) × AreTriples env n (w ∷ r.front) r.triples r.numbers = lead_triples w r.next r.leads r.ends in
      let shorter : length r.after ≤ f = omega (arith, size, ap length r.parts, length-append r.front (r.next ∷ r.after)) in
      subst (λ z. Found b env P n (w ∷ z) d) (sym r.parts)
      (parted_found f b env P r.triples n r.numbers (w ∷ r.front) r.after r.next d again a (ap (λ z. z || list_any b.bars r.front) here ∙ r.new) free r.few shorter
      (ap (λ z. block_reported b r.after (parted b r.next z (P ++ r.triples) r.numbers)) same ∙ r.goes))

  at_found : (f : ℕ) (b : Block Value Triple) (env : Context Value Triple) (P : List Triple) (n : Numbers) (t : Symbol) (ts : List Symbol) (d : Shut)
      → Finds f b env d → ((e : ℕ) → b.bars (Dot e) ≡ false) → b.bars t ≡ false → length ts ≤ f → b.too_many P ≡ false → block_reported b ts (at_triples b t env P n) ≡ Ok d → Found b env P n (t ∷ ts) d
  at_found f b env P n (Foreign kind.CloseBrace e) ts d again free here size few h =
      shut_found b env P [] n n [] ts e d (b.operation (P ++ [])) refl (rule.nothing n) refl (ap b.too_many (append-nil P) ∙ few)
      (ap (λ z. block_reported b ts (shut (b.operation z) n e)) (append-nil P) ∙ h)
  at_found f b env P n (Foreign kind.Graph e) ts d again free here size few h = absurd (cc)
  at_found f b env P n t ts d again free here size few h = triples_found f b env P n t ts d again free here size h

  -- the tokens of a block that the machine has read
  pub template_found : (f : ℕ) (b : Block Value Triple) (env : Context Value Triple) (d : Shut) → ((e : ℕ) → b.bars (Dot e) ≡ false) → Finds f b env d
  unfolding block_run
  template_found f b env d free P n [] size few h = absurd (cc)
  template_found zero b env d free P n (t ∷ ts) size few h = absurd (omega arith)
  template_found (suc f) b env d free P n (t ∷ ts) size few h =
      let (here, k) : (b.bars t ≡ false) × (block_reported b ts (at_triples b t env P n) ≡ Ok d) = unbarred b ts d (moved b (AtTriples env P n) t) (b.bars t) h in
      at_found f b env P n t ts d (template_found f b env d free) free here (omega arith) few k

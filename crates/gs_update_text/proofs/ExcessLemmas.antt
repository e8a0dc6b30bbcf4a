-- A block with too many triples stops, at the last token of the first that is one too many.
use Rattle.std.proofs.Common.{◌≡◌, ℕ, Bool, true, false, cond, List, [], ◌∷◌, ◌++◌, refl, sym, ap, ◌∙◌, append_assoc, append-nil}
use Rattle.std.specs.Prelude.{◌||◌, Result, Ok, Err}
use Rattle.std.specs.List.{list_any}
use Rattle.std.proofs.lemmas.Bool.{or_parts}
use Rattle.std.proofs.lemmas.List.Folds.{list_any-append}
use Rattle.gs_model.specs.Terms.{Term}
use Rattle.gs_blank.specs.Numbers.{Numbers}
use Rattle.gs_lex.specs.declared.kinds.TokenKind.TheVariants as kind
use Rattle.gs_triples.specs.Symbols.{Symbol, At, Carets, Semicolon, Comma, Dot, Foreign}
use Rattle.gs_triples.specs.Meanings.{Syntax, Fault, Context, simple}
use Rattle.gs_triples.specs.Goals.{Goal, Object, Inside, Verbs, After, Semis, Begun, Items}
use Rattle.gs_triples.specs.Program.{stands_alone}
use Rattle.gs_triples.specs.Triples.{AreTriples}
use Rattle.gs_triples.specs.States as triples
use Rattle.gs_triples.specs.States.{Frame, ToObject, ToClose, ToFirst, ToItem, ToVerbs, ToMore, Opened, Closed, Heading, Held, Typing, Lost, Goes, Ends}
use Rattle.gs_triples.specs.Machine as triples_machine
use Rattle.gs_triples.specs.Machine.{opening, head, leave, go_on, put, give}
use Rattle.gs_update_text.specs.Requests.{Rejection, Broken, OutOfProfile}
use Rattle.gs_update_text.specs.Operations.{Block}
use Rattle.gs_update_text.specs.Grammar.{IsTemplate}
use Rattle.gs_update_text.specs.Grammar as rule
use Rattle.gs_update_text.specs.Profile.{EndsString, ends_in_string, AreDotted}
use Rattle.gs_update_text.specs.Profile as profile
use Rattle.gs_triples.specs.States.{triples_so_far}
use Rattle.gs_update_text.specs.Blocks.{AtTriples, WithinTriples, Takes, Stops, Shut, counted, entered, within, parted, ended_within, block_run}
use Rattle.gs_update_text.proofs.LeadLemmas.{Leads, stay, go, LeadTriples, triples_lead}
use Rattle.gs_update_text.proofs.GrowthLemmas.{NotLost, leads_grow}
use Rattle.gs_update_text.proofs.HeldLemmas.{IsHeld, held_last, dot_ends}
use Rattle.gs_update_text.proofs.BlockLemmas.{Bounds, block_reported, stands, first_enters, block_triples, Parts}

-- the closing brace
abbrev brace : ℕ → Symbol
brace e = Foreign kind.CloseBrace e

module _ {Value Triple : Type 0} where
  -- before a brace that ends these triples, a state has them, or lacks the last one, whose object is a string
  pub data IsReady (T : List Triple) : triples.State Value Triple → Type 0 where
    has : (u : triples.State Value Triple) → triples_so_far u ≡ T → IsReady T u
    lacks : (x : List ℕ) (d : ℕ) (s p : Value) (env : Context Value Triple) (Q : List Triple) (n : Numbers) (t : Term) → simple x ≡ Ok t
        → Q ++ env.language.triple s p (env.language.of_term t) ∷ [] ≡ T → IsReady T (Held x (ToObject d s p ∷ []) env Q n)

  abbrev turn_triples : List Triple → triples.Turn Value Triple → List Triple
  turn_triples T (Goes s) = T
  turn_triples T (Ends env U n) = U

  ready_goal : (g : Goal Value) (fs : List (Frame Value)) (env c : Context Value Triple) (P T : List Triple) (n k : Numbers) (e : ℕ) → head g (brace e) fs env P n ≡ Ends c T k → P ≡ T
  ready_goal (Object d) fs env c P T n k e q = absurd (cc)
  ready_goal (Inside d m) fs env c P T n k e q = absurd (cc)
  ready_goal (Verbs d s) fs env c P T n k e q = absurd (cc)
  ready_goal (After d s p) [] env c P T n k e q = ap (turn_triples T) q
  ready_goal (After d s p) (f ∷ fs) env c P T n k e q = absurd (cc)
  ready_goal (Semis d s) [] env c P T n k e q = ap (turn_triples T) q
  ready_goal (Semis d s) (f ∷ fs) env c P T n k e q = absurd (cc)
  ready_goal (Begun d) fs env c P T n k e q = absurd (cc)
  ready_goal (Items d h l) fs env c P T n k e q = absurd (cc)

  ready_verbs : (v : Value) (fs : List (Frame Value)) (env c : Context Value Triple) (P T : List Triple) (n k : Numbers) (e : ℕ) (b : Bool)
      → go_on (brace e) (cond b (Closed v env P n) (Heading (Verbs 0 v) fs env P n)) ≡ Ends c T k → P ≡ T
  ready_verbs v fs env c P T n k e true q = ap (turn_triples T) q
  ready_verbs v fs env c P T n k e false q = absurd (cc)

  ready_string : (x : List ℕ) (fs : List (Frame Value)) (env c : Context Value Triple) (P T : List Triple) (n k : Numbers) (e : ℕ) (r : Result Term Fault) → simple x ≡ r
      → go_on (brace e) (put fs env P n r) ≡ Ends c T k → IsReady T (Held x fs env P n)
  ready_string x fs env c P T n k e (Err z) h q = absurd (cc)
  ready_string x [] env c P T n k e (Ok t) h q = absurd (cc)
  ready_string x (ToObject d s p ∷ []) env c P T n k e (Ok t) h q = lacks x d s p env P n t h (ap (turn_triples T) q)
  ready_string x (ToObject d s p ∷ f ∷ fs) env c P T n k e (Ok t) h q = absurd (cc)
  ready_string x (ToFirst d m ∷ fs) env c P T n k e (Ok t) h q = absurd (cc)
  ready_string x (ToItem d a l m ∷ fs) env c P T n k e (Ok t) h q = absurd (cc)
  ready_string x (ToVerbs ∷ fs) env c P T n k e (Ok t) h q = has (Held x (ToVerbs ∷ fs) env P n) (ready_verbs (env.language.of_term t) fs env c P T n k e (stands_alone env P) q)
  ready_string x (ToClose m ∷ fs) env c P T n k e (Ok t) h q = absurd (cc)
  ready_string x (ToMore m ∷ fs) env c P T n k e (Ok t) h q = absurd (cc)

  ready : (u : triples.State Value Triple) (c : Context Value Triple) (T : List Triple) (k : Numbers) (e : ℕ) → triples_machine.step u (brace e) ≡ Ends c T k → IsReady T u
  unfolding triples_machine.step
  ready (Opened env n) c T k e q = absurd (cc)
  ready (Closed v env P n) c T k e q = has (Closed v env P n) (ap (turn_triples T) q)
  ready (Heading g fs env P n) c T k e q = has (Heading g fs env P n) (ready_goal g fs env c P T n k e q)
  ready (Held x fs env P n) c T k e q = ready_string x fs env c P T n k e (simple x) refl q
  ready (Typing x fs env P n) c T k e q = absurd (cc)
  ready (Lost z) c T k e q = absurd (cc)

  -- no token is barred
  abbrev pub Free : Block Value Triple → Type 0
  Free b = (t : Symbol) → b.bars t ≡ false

  is_counted : (b : Block Value Triple) (P : List Triple) (s : triples.State Value Triple) → NotLost s → entered b P s ≡ counted b P s
  is_counted b P (Lost e) h = elim h [ ]
  is_counted b P (Opened _ _) h = refl
  is_counted b P (Closed _ _ _ _) h = refl
  is_counted b P (Heading _ _ _ _ _) h = refl
  is_counted b P (Held _ _ _ _ _) h = refl
  is_counted b P (Typing _ _ _ _ _) h = refl

  -- a state with too many triples
  excess : (b : Block Value Triple) (P : List Triple) (s : triples.State Value Triple) → b.too_many (P ++ triples_so_far s) ≡ true → counted b P s ≡ Stops OutOfProfile
  excess b P s h = ap (λ z. cond z (Stops OutOfProfile) (Takes (WithinTriples P s))) h

  -- whatever comes after the last triple
  head_excess : (b : Block Value Triple) (P T : List Triple) (d : ℕ) (s p : Value) (env : Context Value Triple) (n : Numbers) (t : Symbol) → b.too_many (P ++ T) ≡ true
      → within b t P (head (After d s p) t [] env T n) ≡ Stops OutOfProfile
  head_excess b P T d s p env n Comma h = excess b P (Heading (Object d) (ToObject d s p ∷ []) env T n) h
  head_excess b P T d s p env n Semicolon h = excess b P (Heading (Semis d s) [] env T n) h
  head_excess b P T d s p env n t h = ap (λ z. cond z (Stops OutOfProfile) (parted b t env (P ++ T) n)) h

  held_step : (x : List ℕ) (fs : List (Frame Value)) (env : Context Value Triple) (Q : List Triple) (n : Numbers) (t : Symbol) (us : List Symbol) → EndsString (t ∷ us)
      → triples_machine.step (Held x fs env Q n) t ≡ go_on t (put fs env Q n (simple x))
  unfolding triples_machine.step
  held_step x fs env Q n (At y) us h = elim h [ ]
  held_step x fs env Q n Carets us h = elim h [ ]
  held_step x fs env Q n t us h = refl

  -- at the last token of a triple too many
  ready_excess : (b : Block Value Triple) → Free b → (P T : List Triple) (u : triples.State Value Triple) (us : List Symbol) → IsReady T u → b.too_many (P ++ triples_so_far u) ≡ false
      → b.too_many (P ++ T) ≡ true → (IsHeld u → EndsString us) → block_run b us (WithinTriples P u) ≡ Err OutOfProfile
  unfolding block_run
  ready_excess b free P T u us (has _ q) few many h =
      let both : false ≡ true = sym few ∙ ap (λ z. b.too_many (P ++ z)) q ∙ many in absurd (cc)
  ready_excess b free P T u [] (lacks x d s p env Q n t e q) few many h =
      ap (λ z. let r : Result Shut Rejection = Err (ended_within b P z) in r)
      (held_step x (ToObject d s p ∷ []) env Q n (brace 0) [] tt ∙ ap (λ z. go_on (brace 0) (put (ToObject d s p ∷ []) env Q n z)) e)
      ∙ ap (λ z. let r : Result Shut Rejection = Err (cond z OutOfProfile (Broken Syntax)) in r) (ap (λ z. b.too_many (P ++ z)) q ∙ many)
  ready_excess b free P T u (y ∷ us) (lacks x d s p env Q n t e q) few many h =
      ap (block_reported b us)
      (stands b (WithinTriples P (Held x (ToObject d s p ∷ []) env Q n)) y (free y)
      ∙ ap (within b y P) (held_step x (ToObject d s p ∷ []) env Q n y us (h tt) ∙ ap (λ z. go_on y (put (ToObject d s p ∷ []) env Q n z)) e)
      ∙ head_excess b P (Q ++ env.language.triple s p (env.language.of_term t) ∷ []) d s p env n y (ap (λ z. b.too_many (P ++ z)) q ∙ many))

  -- a state that triples go on from, with too many or not
  counted_if : (b : Block Value Triple) (P : List Triple) (s : triples.State Value Triple) (ts : List Symbol) (c : Bool) → b.too_many (P ++ triples_so_far s) ≡ c
      → (b.too_many (P ++ triples_so_far s) ≡ false → block_run b ts (WithinTriples P s) ≡ Err OutOfProfile) → block_reported b ts (counted b P s) ≡ Err OutOfProfile
  counted_if b P s ts true h again = ap (block_reported b ts) (excess b P s h)
  counted_if b P s ts false h again = ap (λ z. block_reported b ts (cond z (Stops OutOfProfile) (Takes (WithinTriples P s)))) h ∙ again h

  leads_excess : {s u : triples.State Value Triple} {xs : List Symbol} {env : Context Value Triple} {T : List Triple} {n : Numbers} (b : Block Value Triple) → Free b → (P : List Triple) (e : ℕ) (us : List Symbol)
      → Leads s xs u → triples_machine.step u (brace e) ≡ Ends env T n → b.too_many (P ++ triples_so_far s) ≡ false → b.too_many (P ++ T) ≡ true → (IsHeld u → EndsString us)
      → block_run b (xs ++ us) (WithinTriples P s) ≡ Err OutOfProfile
  unfolding block_run
  leads_excess {env = env} {T = T} {n = n} b free P e us (stay s) q few many h = ready_excess b free P T s us (ready s env T n e q) few many h
  leads_excess {s = s} b free P e us (go {u = v} {ts = ts} x p l) q few many h =
      let goes : NotLost v = (leads_grow (brace e) l q).0 in
      ap (block_reported b (ts ++ us)) (stands b (WithinTriples P s) x (free x) ∙ ap (within b x P) p ∙ is_counted b P v goes)
      ∙ counted_if b P v (ts ++ us) (b.too_many (P ++ triples_so_far v)) refl (λ less. leads_excess b free P e us l q less many h)

  triples_excess : {env : Context Value Triple} {n k : Numbers} {xs : List Symbol} {T : List Triple} (b : Block Value Triple) → Free b → (P : List Triple) (us : List Symbol)
      → LeadTriples env n xs (brace 0) T k → b.too_many (P ++ T) ≡ true → (ends_in_string xs ≡ true → EndsString us) → block_run b (xs ++ us) (AtTriples env P n) ≡ Err OutOfProfile
  unfolding block_run
  triples_excess {env = env} {n = n} b free P us r many h =
      let goes : NotLost (opening env n r.first) = (leads_grow (brace 0) r.leads r.ends).0 in
      ap (λ z. block_run b (z ++ us) (AtTriples env P n)) r.parts
      ∙ ap (block_reported b (r.others ++ us)) (stands b (AtTriples env P n) r.first (free r.first) ∙ first_enters b P env n r.first goes ∙ is_counted b P (opening env n r.first) goes)
      ∙ counted_if b P (opening env n r.first) (r.others ++ us) (b.too_many (P ++ triples_so_far (opening env n r.first))) refl (λ less. leads_excess b free P 0 us r.leads r.ends less many (λ i. h (ap ends_in_string r.parts ∙ held_last env n r.first r.leads i)))

  none_of : (b : Block Value Triple) → Free b → (xs : List Symbol) → list_any b.bars xs ≡ false
  none_of b free [] = refl
  none_of b free (x ∷ xs) = ap (λ z. z || list_any b.bars xs) (free x) ∙ none_of b free xs

  -- triples and a dot, with too many triples or not
  dot_excess : {env : Context Value Triple} {n k : Numbers} {xs : List Symbol} {T : List Triple} (b : Block Value Triple) → Bounds b → Free b → (P : List Triple) (e : ℕ)
      → AreTriples env n xs T k → (us : List Symbol) (c : Bool) → b.too_many (P ++ T) ≡ c
      → (b.too_many (P ++ T) ≡ false → block_run b us (AtTriples env (P ++ T) k) ≡ Err OutOfProfile) → block_run b (xs ++ Dot e ∷ us) (AtTriples env P n) ≡ Err OutOfProfile
  dot_excess b bounds free P e a us true h again = triples_excess b free P (Dot e ∷ us) (triples_lead a (brace 0) tt) h (λ i. tt)
  dot_excess {xs = xs} b bounds free P e a us false h again =
      block_triples b bounds P (Dot e) us (triples_lead a (Dot e) tt) (none_of b free xs) (free (Dot e)) h ∙ again h

  -- a block's triples that are too many
  pub template_excess : {env : Context Value Triple} {n k : Numbers} {xs : List Symbol} {T : List Triple} (b : Block Value Triple) → Bounds b → Free b → (P : List Triple) (us : List Symbol)
      → IsTemplate env n xs T k → b.too_many P ≡ false → b.too_many (P ++ T) ≡ true → (ends_in_string xs ≡ true → EndsString us)
      → block_run b (xs ++ us) (AtTriples env P n) ≡ Err OutOfProfile
  template_excess b bounds free P us (rule.nothing n) few many h =
      let both : false ≡ true = sym few ∙ ap b.too_many (sym (append-nil P)) ∙ many in absurd (cc)
  template_excess b bounds free P us (rule.last a) few many h = triples_excess b free P us (triples_lead a (brace 0) tt) many h
  template_excess {env = env} {n = n} b bounds free P us (rule.more {xs = xs} {ys = ys} {T = T} {U = U} e a r) few many h =
      ap (λ z. block_run b z (AtTriples env P n)) (append_assoc xs (Dot e ∷ ys) us)
      ∙ dot_excess b bounds free P e a (ys ++ us) (b.too_many (P ++ T)) refl
      (λ less. template_excess b bounds free (P ++ T) us r less (ap b.too_many (append_assoc P T U) ∙ many) (λ i. h (dot_ends xs ys e i)))

  -- triples with their dots, after which others may begin
  pub dotted_run : {env : Context Value Triple} {n k : Numbers} {xs : List Symbol} {T : List Triple} (b : Block Value Triple) → Bounds b → (P : List Triple) (us : List Symbol)
      → AreDotted env n xs T k → list_any b.bars xs ≡ false → ((t : Symbol) → Parts t → b.bars t ≡ false) → b.too_many (P ++ T) ≡ false
      → block_run b (xs ++ us) (AtTriples env P n) ≡ block_run b us (AtTriples env (P ++ T) k)
  dotted_run {env = env} b bounds P us (profile.nothing n) new free few = ap (λ z. block_run b us (AtTriples env z n)) (sym (append-nil P))
  dotted_run {env = env} {n = n} b bounds P us (profile.more {l = l} {xs = xs} {ys = ys} {T = T} {U = U} e a r) new free few =
      let (here, later) : (list_any b.bars xs ≡ false) × ((b.bars (Dot e) || list_any b.bars ys) ≡ false) =
      or_parts (list_any b.bars xs) (b.bars (Dot e) || list_any b.bars ys) (sym (list_any-append b.bars xs (Dot e ∷ ys)) ∙ new) in
      let there : list_any b.bars ys ≡ false = (or_parts (b.bars (Dot e)) (list_any b.bars ys) later).1 in
      let both : b.too_many ((P ++ T) ++ U) ≡ false = ap b.too_many (append_assoc P T U) ∙ few in
      ap (λ z. block_run b z (AtTriples env P n)) (append_assoc xs (Dot e ∷ ys) us)
      ∙ block_triples b bounds P (Dot e) (ys ++ us) (triples_lead a (Dot e) tt) here (free (Dot e) tt) (bounds (P ++ T) U both)
      ∙ dotted_run b bounds (P ++ T) us r there free both
      ∙ ap (λ z. block_run b us (AtTriples env z l)) (append_assoc P T U)

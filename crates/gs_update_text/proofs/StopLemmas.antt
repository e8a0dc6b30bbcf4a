-- Where the machine of a block refuses it as out of the profile within triples, the rules say why.
use Rattle.std.proofs.Common.{◌≡◌, ℕ, Bool, true, false, cond, List, [], ◌∷◌, ◌++◌, refl, sym, ap, ◌∙◌, append_assoc, subst}
use Rattle.std.specs.Prelude.{◌||◌, Result, Ok, Err}
use Rattle.std.specs.List.{list_any}
use Rattle.gs_model.specs.Terms.{Term}
use Rattle.gs_blank.specs.Numbers.{Numbers}
use Rattle.gs_lex.specs.declared.kinds.TokenKind.TheVariants as kind
use Rattle.gs_triples.specs.Symbols.{Symbol, At, Carets, Dot, Foreign}
use Rattle.gs_triples.specs.Meanings.{Syntax, Context, simple}
use Rattle.gs_triples.specs.States as triples
use Rattle.gs_triples.specs.States.{Frame, ToObject, Opened, Closed, Heading, Held, Typing, Lost, Goes, Ends}
use Rattle.gs_triples.specs.Goals.{After}
use Rattle.gs_triples.specs.Machine as triples_machine
use Rattle.gs_triples.specs.Machine.{begin, opening, put, go_on}
use Rattle.gs_update_text.specs.Requests.{Rejection, Broken, OutOfProfile}
use Rattle.gs_update_text.specs.Operations.{Block}
use Rattle.gs_update_text.specs.Profile.{EndsString, is_string, ends_in_string}
use Rattle.gs_triples.specs.States.{triples_so_far}
use Rattle.gs_update_text.specs.Blocks.{BlockState, WithinTriples, BlockTurn, Takes, Shuts, Stops, Shut, entered, parted, within, barred, moved, ended_within, block_step, block_run}
use Rattle.gs_update_text.proofs.LeadLemmas.{Leads, stay, go}
use Rattle.gs_update_text.proofs.GrowthLemmas.{NotLost}
use Rattle.gs_update_text.proofs.BlockLemmas.{block_reported}
use Rattle.gs_update_text.proofs.FlatLemmas.{IsPlain, Flat, Moves, same, astray, over, one, string_on, string_over, flat_moves, flat_next}

-- the closing brace
abbrev pub brace : ℕ → Symbol
brace e = Foreign kind.CloseBrace e

-- where these tokens end with a string, whatever stands before them, nothing goes on with it
abbrev pub Clear : List Symbol → List Symbol → Type 0
Clear xs us = (z : List Symbol) → ends_in_string (z ++ xs) ≡ true → EndsString us

last_of : (z : List Symbol) (t : Symbol) → ends_in_string (z ++ t ∷ []) ≡ is_string t
last_of [] t = refl
last_of (x ∷ []) t = refl
last_of (x ∷ y ∷ z) t = last_of (y ∷ z) t

-- a token that is no string
clear_last : (t : Symbol) (us : List Symbol) → is_string t ≡ false → Clear (t ∷ []) us
clear_last t us q z h = let both : true ≡ false = sym h ∙ last_of z t ∙ q in absurd (cc)

pub clear_more : (t : Symbol) (xs us : List Symbol) → Clear xs us → Clear (t ∷ xs) us
clear_more t xs us c z h = c (z ++ t ∷ []) (ap ends_in_string (append_assoc z (t ∷ []) xs) ∙ h)

pub clear_front : (ys xs us : List Symbol) → Clear xs us → Clear (ys ++ xs) us
clear_front ys xs us c z h = c (z ++ ys) (ap ends_in_string (append_assoc z ys xs) ∙ h)

-- no token stands after the last
ends_here : (t : Symbol) (ts : List Symbol) → EndsString (t ∷ []) → EndsString (t ∷ ts)
ends_here (At x) ts h = elim h [ ]
ends_here Carets ts h = elim h [ ]
ends_here t ts h = tt

-- the departure of a block, or this one
abbrev rejection_or : Rejection → Result Shut Rejection → Rejection
rejection_or r (Ok d) = r
rejection_or r (Err e) = e

not_full : (c : Bool) → cond c OutOfProfile (Broken Syntax) ≡ OutOfProfile → c ≡ true
not_full true h = refl
not_full false h = absurd (cc)

module _ {Value Triple : Type 0} where
  -- what a block needs, so that it counts triples without blank nodes alone, and refuses no token that it bars otherwise
  pub record Guards (b : Block Value Triple) (env : Context Value Triple) : Type 0 where
    pub plain : (T : List Triple) → b.too_many T ≡ true → IsPlain env
    pub dots : (e : ℕ) → b.bars (Dot e) ≡ false
    pub bars : (s : BlockState Value Triple) (t : Symbol) → b.bars t ≡ true → moved b s t ≡ Stops OutOfProfile → ⊥

  -- triples that are one too many
  pub record IsExcess (b : Block Value Triple) (T : List Triple) : Type 0 where
    pub before : List Triple
    pub extra : Triple
    pub parts : T ≡ before ++ extra ∷ []
    pub few : b.too_many before ≡ false
    pub many : b.too_many T ≡ true

  -- within triples: the tokens up to the one that ends them, after which the block is refused, or up to a triple too many
  pub data StopsWithin (b : Block Value Triple) (P : List Triple) : List Symbol → triples.State Value Triple → Type 0 where
    passes : {s u : triples.State Value Triple} {xs : List Symbol} {env : Context Value Triple} {T : List Triple} {k : Numbers} (t : Symbol) (us : List Symbol) → Leads s xs u → triples_machine.step u t ≡ Ends env T k
        → list_any b.bars xs ≡ false → b.too_many (P ++ T) ≡ false → block_reported b us (parted b t env (P ++ T) k) ≡ Err OutOfProfile → StopsWithin b P (xs ++ t ∷ us) s
    exceeds : {s u : triples.State Value Triple} {xs : List Symbol} {env : Context Value Triple} {T : List Triple} {k : Numbers} (us : List Symbol) → Leads s xs u → triples_machine.step u (brace 0) ≡ Ends env T k
        → IsExcess b (P ++ T) → Clear xs us → StopsWithin b P (xs ++ us) s

  goes_within : (b : Block Value Triple) (P : List Triple) (t : Symbol) (s v : triples.State Value Triple) (ts : List Symbol) → triples_machine.step s t ≡ Goes v → b.bars t ≡ false
      → StopsWithin b P ts v → StopsWithin b P (t ∷ ts) s
  goes_within b P t s v ts q free (passes {xs = xs} y us l e new few reported) = passes y us (go t q l) e (ap (λ z. z || list_any b.bars xs) free ∙ new) few reported
  goes_within b P t s v ts q free (exceeds {xs = xs} us l e x c) = exceeds us (go t q l) e x (clear_more t xs us c)

  -- a turn that refuses is one of a token that may stand
  unbarred : (b : Block Value Triple) (ts : List Symbol) (m : BlockTurn Value Triple) (c : Bool) → (c ≡ true → m ≡ Stops OutOfProfile → ⊥) → block_reported b ts (cond c (barred m) m) ≡ Err OutOfProfile
      → (c ≡ false) × (block_reported b ts m ≡ Err OutOfProfile)
  unbarred b ts m false never h = (refl, h)
  unbarred b ts (Takes s) true never h = absurd (cc)
  unbarred b ts (Shuts o n e) true never h = absurd (cc)
  unbarred b ts (Stops (Broken e)) true never h = absurd (cc)
  unbarred b ts (Stops OutOfProfile) true never h = absurd (never refl refl)

  pub free_token : (b : Block Value Triple) (env : Context Value Triple) → Guards b env → (s : BlockState Value Triple) (t : Symbol) (ts : List Symbol) → block_reported b ts (block_step b s t) ≡ Err OutOfProfile
      → (b.bars t ≡ false) × (block_reported b ts (moved b s t) ≡ Err OutOfProfile)
  free_token b env g s t ts h = unbarred b ts (moved b s t) (b.bars t) (g.bars s t) h

  -- a state that is entered, or that has too many triples
  pub data Entry (b : Block Value Triple) (P : List Triple) (ts : List Symbol) (s : triples.State Value Triple) : Type 0 where
    goes_in : b.too_many (P ++ triples_so_far s) ≡ false → block_run b ts (WithinTriples P s) ≡ Err OutOfProfile → Entry b P ts s
    too_full : NotLost s → b.too_many (P ++ triples_so_far s) ≡ true → Entry b P ts s

  counted_entry : (b : Block Value Triple) (P : List Triple) (ts : List Symbol) (s : triples.State Value Triple) (c : Bool) → NotLost s → b.too_many (P ++ triples_so_far s) ≡ c
      → block_reported b ts (cond c (Stops OutOfProfile) (Takes (WithinTriples P s))) ≡ Err OutOfProfile → Entry b P ts s
  counted_entry b P ts s true n q h = too_full n q
  counted_entry b P ts s false n q h = goes_in q h

  pub entry : (b : Block Value Triple) (P : List Triple) (ts : List Symbol) (s : triples.State Value Triple) → block_reported b ts (entered b P s) ≡ Err OutOfProfile → Entry b P ts s
  entry b P ts (Lost e) h = absurd (cc)
  entry b P ts (Opened env n) h = counted_entry b P ts (Opened env n) (b.too_many (P ++ [])) tt refl h
  entry b P ts (Closed v env T n) h = counted_entry b P ts (Closed v env T n) (b.too_many (P ++ T)) tt refl h
  entry b P ts (Heading g fs env T n) h = counted_entry b P ts (Heading g fs env T n) (b.too_many (P ++ T)) tt refl h
  entry b P ts (Held x fs env T n) h = counted_entry b P ts (Held x fs env T n) (b.too_many (P ++ T)) tt refl h
  entry b P ts (Typing x fs env T n) h = counted_entry b P ts (Typing x fs env T n) (b.too_many (P ++ T)) tt refl h

  excess_of : (b : Block Value Triple) (P T : List Triple) (o : Triple) → b.too_many (P ++ T) ≡ false → b.too_many (P ++ (T ++ o ∷ [])) ≡ true → IsExcess b (P ++ (T ++ o ∷ []))
  excess_of b P T o few many = record { before = P ++ T; extra = o; parts = sym (append_assoc P T (o ∷ [])); few = few; many = many }

  pub both_ways : (b : Block Value Triple) (T U : List Triple) → T ≡ U → b.too_many U ≡ false → b.too_many T ≡ true → ⊥
  both_ways b T U q few many = let both : false ≡ true = sym few ∙ ap b.too_many (sym q) ∙ many in cc

  -- a string that ends a triple too many
  string_exceeds : (b : Block Value Triple) (P : List Triple) (env : Context Value Triple) (x : List ℕ) (d : ℕ) (w p : Value) (T : List Triple) (n : Numbers) (l : Term) (us : List Symbol) → simple x ≡ Ok l → EndsString us
      → b.too_many (P ++ T) ≡ false → b.too_many (P ++ (T ++ env.language.triple w p (env.language.of_term l) ∷ [])) ≡ true → StopsWithin b P us (Held x (ToObject d w p ∷ []) env T n)
  unfolding triples_machine.step
  string_exceeds b P env x d w p T n l us q h few many =
      exceeds us (stay (Held x (ToObject d w p ∷ []) env T n)) (ap (λ z. go_on (brace 0) (put (ToObject d w p ∷ []) env T n z)) q)
      (excess_of b P T (env.language.triple w p (env.language.of_term l)) few many) (λ z e. h)

  abbrev state_or : triples.State Value Triple → triples.Turn Value Triple → triples.State Value Triple
  state_or s (Goes u) = u
  state_or s (Ends env T n) = s

  abbrev triples_or : List Triple → triples.Turn Value Triple → List Triple
  triples_or P (Goes u) = P
  triples_or P (Ends env T n) = T

  -- a token after which there are too many triples
  full_turn : (b : Block Value Triple) (P : List Triple) (env : Context Value Triple) (t : Symbol) (ts : List Symbol) {s : triples.State Value Triple} {m : triples.Turn Value Triple} → Moves env t s m → (v : triples.State Value Triple) → m ≡ Goes v
      → triples_machine.step s t ≡ Goes v → NotLost v → b.too_many (P ++ triples_so_far s) ≡ false → b.too_many (P ++ triples_so_far v) ≡ true → StopsWithin b P (t ∷ ts) s
  unfolding triples_machine.step
  full_turn b P env t ts (same s u f k) v e q n few many =
      absurd (both_ways b (P ++ triples_so_far v) (P ++ triples_so_far s) (ap (λ z. P ++ z) (ap triples_so_far (sym (ap (state_or s) e)) ∙ k)) few many)
  full_turn b P env t ts (astray s f) v e q n few many = absurd (subst NotLost (sym (ap (state_or s) e)) n)
  full_turn b P env t ts (over s n) v e q m few many = absurd (cc)
  full_turn b P env t ts (one s d w p n o h) v e q m few many =
      let same : Heading (After d w p) [] env (triples_so_far s ++ o ∷ []) n ≡ v = ap (state_or s) e in
      exceeds ts (go t (q ∙ ap Goes (sym same)) (stay (Heading (After d w p) [] env (triples_so_far s ++ o ∷ []) n))) refl
      (excess_of b P (triples_so_far s) o few (ap (λ z. b.too_many (P ++ triples_so_far z)) same ∙ many)) (clear_last t ts h)
  full_turn b P env t ts (string_on x d w p Q n l u k h f j) v e q m few many =
      string_exceeds b P env x d w p Q n l (t ∷ ts) k (ends_here t ts h) few
      (ap (λ z. b.too_many (P ++ z)) (sym j ∙ ap triples_so_far (ap (state_or u) e)) ∙ many)
  full_turn b P env t ts (string_over x d w p Q n k l e h) v q s m few many = absurd (cc)

  -- a token before which there are too many triples
  full_end : (b : Block Value Triple) (P : List Triple) (env : Context Value Triple) (t : Symbol) (ts : List Symbol) {s : triples.State Value Triple} {m : triples.Turn Value Triple} → Moves env t s m
      → (c : Context Value Triple) (T : List Triple) (k : Numbers) → m ≡ Ends c T k → b.too_many (P ++ triples_so_far s) ≡ false → b.too_many (P ++ T) ≡ true → StopsWithin b P (t ∷ ts) s
  full_end b P env t ts (same s u f k) c T l e few many = absurd (cc)
  full_end b P env t ts (astray s f) c T l e few many = absurd (cc)
  full_end b P env t ts (over s n) c T l e few many =
      absurd (both_ways b (P ++ T) (P ++ triples_so_far s) (ap (λ z. P ++ z) (sym (ap (triples_or T) e))) few many)
  full_end b P env t ts (one s d w p n o h) c T l e few many = absurd (cc)
  full_end b P env t ts (string_on x d w p Q n l u k h f j) c T i e few many = absurd (cc)
  full_end b P env t ts (string_over x d w p Q n k l q h) c T i e few many =
      string_exceeds b P env x d w p Q n l (t ∷ ts) q (ends_here t ts h) few (ap (λ z. b.too_many (P ++ z)) (ap (triples_or T) e) ∙ many)

  -- a text that ends within triples that are too many
  full_text : (b : Block Value Triple) (P : List Triple) (env : Context Value Triple) {t : Symbol} {s : triples.State Value Triple} {m : triples.Turn Value Triple} → Moves env t s m
      → (c : Context Value Triple) (T : List Triple) (k : Numbers) → m ≡ Ends c T k → b.too_many (P ++ triples_so_far s) ≡ false → b.too_many (P ++ T) ≡ true → StopsWithin b P [] s
  full_text b P env (same s u f k) c T l e few many = absurd (cc)
  full_text b P env (astray s f) c T l e few many = absurd (cc)
  full_text b P env (over s n) c T l e few many =
      absurd (both_ways b (P ++ T) (P ++ triples_so_far s) (ap (λ z. P ++ z) (sym (ap (triples_or T) e))) few many)
  full_text b P env (one s d w p n o h) c T l e few many = absurd (cc)
  full_text b P env (string_on x d w p Q n l u k h f j) c T i e few many = absurd (cc)
  full_text b P env (string_over x d w p Q n k l q h) c T i e few many =
      string_exceeds b P env x d w p Q n l [] q tt few (ap (λ z. b.too_many (P ++ z)) (ap (triples_or T) e) ∙ many)

  end_turn : (b : Block Value Triple) (P : List Triple) (env : Context Value Triple) → Guards b env → (s : triples.State Value Triple) → (IsPlain env → Flat env s)
      → b.too_many (P ++ triples_so_far s) ≡ false → (u : triples.Turn Value Triple) → triples_machine.step s (brace 0) ≡ u → ended_within b P u ≡ OutOfProfile → StopsWithin b P [] s
  end_turn b P env g s f few (Goes (Lost e)) q h = absurd (cc)
  end_turn b P env g s f few (Goes v) q h = absurd (cc)
  end_turn b P env g s f few (Ends c T k) q h =
      let many : b.too_many (P ++ T) ≡ true = not_full (b.too_many (P ++ T)) h in
      let plain : IsPlain env = g.plain (P ++ T) many in
      full_text b P env (flat_moves (brace 0) plain (f plain)) c T k q few many

  abbrev Again : Block Value Triple → List Triple → Context Value Triple → List Symbol → Type 0
  Again b P env ts =
      (v : triples.State Value Triple) → (IsPlain env → Flat env v) → b.too_many (P ++ triples_so_far v) ≡ false → block_run b ts (WithinTriples P v) ≡ Err OutOfProfile → StopsWithin b P ts v

  goes_stop : (b : Block Value Triple) (P : List Triple) (env : Context Value Triple) → Guards b env → (t : Symbol) (ts : List Symbol) (s v : triples.State Value Triple) → (IsPlain env → Flat env s)
      → b.too_many (P ++ triples_so_far s) ≡ false → b.bars t ≡ false → triples_machine.step s t ≡ Goes v → Again b P env ts → Entry b P ts v → StopsWithin b P (t ∷ ts) s
  goes_stop b P env g t ts s v f few free q again (goes_in less run) = goes_within b P t s v ts q free (again v (λ r. flat_next t r (f r) q) less run)
  goes_stop b P env g t ts s v f few free q again (too_full n many) =
      let plain : IsPlain env = g.plain (P ++ triples_so_far v) many in
      full_turn b P env t ts (flat_moves t plain (f plain)) v q q n few many

  ends_stop : (b : Block Value Triple) (P : List Triple) (env : Context Value Triple) → Guards b env → (t : Symbol) (ts : List Symbol) (s : triples.State Value Triple) (c : Context Value Triple) (T : List Triple) (k : Numbers) → (IsPlain env → Flat env s)
      → b.too_many (P ++ triples_so_far s) ≡ false → triples_machine.step s t ≡ Ends c T k → (m : Bool) → b.too_many (P ++ T) ≡ m
      → block_reported b ts (cond m (Stops OutOfProfile) (parted b t c (P ++ T) k)) ≡ Err OutOfProfile → StopsWithin b P (t ∷ ts) s
  ends_stop b P env g t ts s c T k f few q false less h = passes t ts (stay s) q refl less h
  ends_stop b P env g t ts s c T k f few q true many h =
      let plain : IsPlain env = g.plain (P ++ T) many in
      full_end b P env t ts (flat_moves t plain (f plain)) c T k q few many

  turn_stop : (b : Block Value Triple) (P : List Triple) (env : Context Value Triple) → Guards b env → (t : Symbol) (ts : List Symbol) (s : triples.State Value Triple) → (IsPlain env → Flat env s)
      → b.too_many (P ++ triples_so_far s) ≡ false → b.bars t ≡ false → Again b P env ts → (u : triples.Turn Value Triple) → triples_machine.step s t ≡ u
      → block_reported b ts (within b t P u) ≡ Err OutOfProfile → StopsWithin b P (t ∷ ts) s
  turn_stop b P env g t ts s f few free again (Goes v) q h = goes_stop b P env g t ts s v f few free q again (entry b P ts v h)
  turn_stop b P env g t ts s f few free again (Ends c T k) q h = ends_stop b P env g t ts s c T k f few q (b.too_many (P ++ T)) refl h

  -- a block that is refused within triples
  pub stops_within : (b : Block Value Triple) (P : List Triple) (env : Context Value Triple) → Guards b env → (ts : List Symbol) → Again b P env ts
  unfolding block_run
  stops_within b P env g [] s f few h = end_turn b P env g s f few (triples_machine.step s (brace 0)) refl (ap (rejection_or OutOfProfile) h)
  stops_within b P env g (t ∷ ts) s f few h =
      let (free, k) : (b.bars t ≡ false) × (block_reported b ts (within b t P (triples_machine.step s t)) ≡ Err OutOfProfile) = free_token b env g (WithinTriples P s) t ts h in
      turn_stop b P env g t ts s f few free (stops_within b P env g ts) (triples_machine.step s t) refl k

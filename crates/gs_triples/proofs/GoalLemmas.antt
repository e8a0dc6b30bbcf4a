-- The machine and the program, goal by goal.
use Rattle.std.proofs.Common.{◌≡◌, ℕ, zero, suc, ◌+◌, ◌*◌, ◌<◌, Bool, true, false, cond, List, [], ◌∷◌, length, refl, sym, ap, ◌∙◌, append-nil, arith}
use Rattle.std.specs.Prelude.{Result, Ok, Err, codes}
use Rattle.gs_blank.specs.Numbers.{Numbers, one_more}
use Rattle.gs_triples.specs.Symbols.{Symbol, ATerm, Text, A, Open, Close, OpenList, CloseList, Semicolon, Comma}
use Rattle.gs_triples.specs.Meanings as meaning
use Rattle.gs_triples.specs.Meanings.{Fault, Syntax, Context, blank, rdf_value}
use Rattle.gs_triples.specs.Goals.{Goal, Object, Inside, Verbs, After, Semis, Begun, Items, may_open, may_open_node, next_number}
use Rattle.gs_triples.specs.Reading.{Got, ◌and_then◌, parse}
use Rattle.gs_triples.specs.States.{Frame, ToObject, ToClose, ToFirst, ToItem, State, Heading, Lost}
use Rattle.gs_triples.specs.Machine.{give, object, leave, after_verb, step, ended}
use Rattle.gs_triples.specs.Runs.{Done, run}
use Rattle.gs_triples.proofs.BackLemmas.{first_of, cell_of, then_goal, covered}
use Rattle.gs_triples.proofs.ForthLemmas.{rank}
use Rattle.gs_triples.proofs.WalkLemmas.{read_from, lost_run, leaves, continue, continue_then, as_begun, as_items, as_verbs, as_semis, as_after, as_object, list_object, close_then, given_run, held_run}

module _ {Value Triple : Type 0} where
  open_run : (env : Context Value Triple) (d : ℕ) (b : Bool) (g : Goal Value) (fs : List (Frame Value)) (P : List Triple) (n : Numbers) (ts : List Symbol) (r : Result (Got Value Triple) Fault)
      → run ts (Heading g fs env P n) ≡ continue (Object d) fs env P r
      → run ts (cond b (Heading g fs env P n) (Lost Syntax)) ≡ continue (Object d) fs env P (cond b r (Err Syntax))
  open_run env d true g fs P n ts r e = e
  open_run env d false g fs P n ts r e = lost_run Syntax ts

  -- where no tokens are left
  stop_inside : (env : Context Value Triple) (f d m : ℕ) (n : Numbers) (fs : List (Frame Value)) (P : List Triple) → (let p : Result (Done Value Triple) Fault = Err Syntax in p) ≡ continue (Inside d m) fs env P (parse env (suc f) (Inside d m) n [])
  unfolding parse
  stop_inside env zero d m n fs P = refl
  stop_inside env (suc f) d m n fs P = refl

  stop_if : (env : Context Value Triple) (d : ℕ) (b : Bool) (fs : List (Frame Value)) (P : List Triple)
      → (let p : Result (Done Value Triple) Fault = Err Syntax in p) ≡ continue (Begun d) fs env P (cond b (Err Syntax) (Err Syntax))
  stop_if env d true fs P = refl
  stop_if env d false fs P = refl

  stop_begun : (env : Context Value Triple) (f d : ℕ) (n : Numbers) (fs : List (Frame Value)) (P : List Triple)
      → (let p : Result (Done Value Triple) Fault = Err Syntax in p) ≡ continue (Begun d) fs env P (parse env (suc f) (Begun d) n [])
  unfolding parse
  stop_begun env zero d n fs P = stop_if env d env.language.nodes fs P
  stop_begun env (suc f) d n fs P = stop_if env d env.language.nodes fs P

  stop_items : (env : Context Value Triple) (f d h m : ℕ) (n : Numbers) (fs : List (Frame Value)) (P : List Triple) → (let p : Result (Done Value Triple) Fault = Err Syntax in p) ≡ continue (Items d h m) fs env P (parse env (suc f) (Items d h m) n [])
  unfolding parse
  stop_items env zero d h m n fs P = refl
  stop_items env (suc f) d h m n fs P = refl

  -- the object of a verb
  verb_run : (env : Context Value Triple) (f d : ℕ) (s : Value) (fs : List (Frame Value)) (P : List Triple) (n : Numbers) (ts : List Symbol) (q : Result Value Fault)
      → ((p : Value) → run ts (Heading (Object d) (ToObject d s p ∷ fs) env P n) ≡ continue (Verbs d s) fs env P (parse env f (Object d) n ts and_then then_goal env f (After d s p) (λ o. env.language.triple s p o ∷ [])))
      → run ts (after_verb d s fs env P n q) ≡ continue (Verbs d s) fs env P (q and_then λ p. parse env f (Object d) n ts and_then then_goal env f (After d s p) (λ o. env.language.triple s p o ∷ []))
  verb_run env f d s fs P n ts (Err e) h = lost_run e ts
  verb_run env f d s fs P n ts (Ok p) h = h p

  -- an object after a '(', where one may stand
  begun_run : (env : Context Value Triple) (d : ℕ) (b : Bool) (s : State Value Triple) (fs : List (Frame Value)) (P : List Triple) (ts : List Symbol) (r : Result (Got Value Triple) Fault)
      → run ts s ≡ continue (Begun d) fs env P r
      → run ts (cond b s (Lost Syntax)) ≡ continue (Begun d) fs env P (cond b r (Err Syntax))
  begun_run env d true s fs P ts r e = e
  begun_run env d false s fs P ts r e = lost_run Syntax ts

  -- what the machine reads from a goal is what the program reads there, and then the rest
  pub walk : (env : Context Value Triple) (f : ℕ) (g : Goal Value) (n : Numbers) (ts : List Symbol) (fs : List (Frame Value)) (P : List Triple) → 2 * length ts + rank g < f
      → run ts (Heading g fs env P n) ≡ continue g fs env P (parse env f g n ts)
  unfolding parse run step ended leaves
  walk env zero g n ts fs P h = absurd (omega arith)
  walk env (suc f) (Object d) n [] fs P h = refl
  walk env (suc f) (Object d) n (ATerm w ∷ ts) fs P h = given_run env d fs P ts (meaning.word env n w)
  walk env (suc f) (Object d) n (Text x ∷ ts) fs P h = held_run env d fs P n x ts
  walk env (suc f) (Object d) n (Open ∷ ts) fs P h =
      open_run env d (may_open_node env d) (Inside (suc d) (next_number n)) fs P (one_more n) ts (parse env f (Inside (suc d) (next_number n)) (one_more n) ts)
      (walk env f (Inside (suc d) (next_number n)) (one_more n) ts fs P (omega arith) ∙ as_object env d (suc d) (next_number n) fs P (parse env f (Inside (suc d) (next_number n)) (one_more n) ts))
  walk env (suc f) (Object d) n (OpenList ∷ ts) fs P h =
      open_run env d (may_open d) (Begun (suc d)) fs P n ts (parse env f (Begun (suc d)) n ts)
      (walk env f (Begun (suc d)) n ts fs P (omega arith) ∙ list_object env d (suc d) fs P (parse env f (Begun (suc d)) n ts))
  walk env (suc f) (Object d) n (t ∷ ts) fs P h = lost_run Syntax ts
  walk env (suc f) (Inside d m) n [] fs P h = stop_inside env f d m n fs P
  walk env (suc f) (Inside d m) n (Close ∷ ts) fs P h = ap (λ z. run ts (give env (blank env m) fs z n)) (sym (append-nil P))
  walk env (suc f) (Inside d m) n (t ∷ ts) fs P h =
      walk env f (Verbs d (blank env m)) n (t ∷ ts) (ToClose m ∷ fs) P (omega arith)
      ∙ close_then env d m (blank env m) fs P (parse env f (Verbs d (blank env m)) n (t ∷ ts))
  walk env (suc f) (Verbs d s) n [] fs P h = refl
  walk env (suc f) (Verbs d s) n (t ∷ ts) fs P h =
      verb_run env f d s fs P n ts (meaning.verb env t) (λ p.
      walk env f (Object d) n ts (ToObject d s p ∷ fs) P (omega arith)
      ∙ continue_then env f d n (ToObject d s p) fs P (λ o. env.language.triple s p o ∷ []) (After d s p) (length ts) (λ v Q l. refl) (λ l us Q e. walk env f (After d s p) l us fs Q (omega arith)) ts (omega arith) (parse env f (Object d) n ts) (covered env f (Object d) n ts)
      ∙ as_verbs env d s p fs P (parse env f (Object d) n ts and_then then_goal env f (After d s p) (λ o. env.language.triple s p o ∷ [])))
  walk env (suc f) (After d s p) n [] fs P h = refl
  walk env (suc f) (After d s p) n (Comma ∷ ts) fs P h =
      walk env f (Object d) n ts (ToObject d s p ∷ fs) P (omega arith)
      ∙ continue_then env f d n (ToObject d s p) fs P (λ o. env.language.triple s p o ∷ []) (After d s p) (length ts) (λ v Q l. refl) (λ l us Q e. walk env f (After d s p) l us fs Q (omega arith)) ts (omega arith) (parse env f (Object d) n ts) (covered env f (Object d) n ts)
  walk env (suc f) (After d s p) n (Semicolon ∷ ts) fs P h = walk env f (Semis d s) n ts fs P (omega arith) ∙ as_after env d s p fs P (parse env f (Semis d s) n ts)
  walk env (suc f) (After d s p) n (t ∷ ts) fs P h = ap (λ z. read_from t ts (leave t fs env z n)) (sym (append-nil P))
  walk env (suc f) (Semis d s) n [] fs P h = refl
  walk env (suc f) (Semis d s) n (Semicolon ∷ ts) fs P h = walk env f (Semis d s) n ts fs P (omega arith)
  walk env (suc f) (Semis d s) n (ATerm w ∷ ts) fs P h = walk env f (Verbs d s) n (ATerm w ∷ ts) fs P (omega arith) ∙ as_semis env d s fs P (parse env f (Verbs d s) n (ATerm w ∷ ts))
  walk env (suc f) (Semis d s) n (A ∷ ts) fs P h = walk env f (Verbs d s) n (A ∷ ts) fs P (omega arith) ∙ as_semis env d s fs P (parse env f (Verbs d s) n (A ∷ ts))
  walk env (suc f) (Semis d s) n (t ∷ ts) fs P h = ap (λ z. read_from t ts (leave t fs env z n)) (sym (append-nil P))
  walk env (suc f) (Begun d) n [] fs P h = stop_begun env f d n fs P
  walk env (suc f) (Begun d) n (CloseList ∷ ts) fs P h = ap (λ z. run ts (give env (rdf_value env (codes "nil")) fs z n)) (sym (append-nil P))
  walk env (suc f) (Begun d) n (t ∷ ts) fs P h =
      begun_run env d env.language.nodes (object d t (ToFirst d (next_number n) ∷ fs) env P (one_more n)) fs P ts (parse env f (Object d) (one_more n) (t ∷ ts) and_then then_goal env f (Items d (next_number n) (next_number n)) (first_of env (next_number n)))
      (walk env f (Object d) (one_more n) (t ∷ ts) (ToFirst d (next_number n) ∷ fs) P (omega arith)
      ∙ continue_then env f d (one_more n) (ToFirst d (next_number n)) fs P (first_of env (next_number n)) (Items d (next_number n) (next_number n)) (suc (length ts)) (λ v Q l. refl) (λ l us Q e. walk env f (Items d (next_number n) (next_number n)) l us fs Q (omega arith)) (t ∷ ts) (omega arith) (parse env f (Object d) (one_more n) (t ∷ ts)) (covered env f (Object d) (one_more n) (t ∷ ts))
      ∙ as_begun env d (next_number n) (next_number n) fs P (parse env f (Object d) (one_more n) (t ∷ ts) and_then then_goal env f (Items d (next_number n) (next_number n)) (first_of env (next_number n))))
  walk env (suc f) (Items d a m) n [] fs P h = stop_items env f d a m n fs P
  walk env (suc f) (Items d a m) n (CloseList ∷ ts) fs P h = refl
  walk env (suc f) (Items d a m) n (t ∷ ts) fs P h =
      walk env f (Object d) (one_more n) (t ∷ ts) (ToItem d a m (next_number n) ∷ fs) P (omega arith)
      ∙ continue_then env f d (one_more n) (ToItem d a m (next_number n)) fs P (cell_of env (next_number n) m) (Items d a (next_number n)) (suc (length ts)) (λ v Q l. refl) (λ l us Q e. walk env f (Items d a (next_number n)) l us fs Q (omega arith)) (t ∷ ts) (omega arith) (parse env f (Object d) (one_more n) (t ∷ ts)) (covered env f (Object d) (one_more n) (t ∷ ts))
      ∙ as_items env d a m (next_number n) fs P (parse env (suc f) (Items d a m) n (t ∷ ts))

-- What the machine reads from a goal is what the program reads there, and then the rest.
use Rattle.std.proofs.Common.{◌≡◌, ℕ, Bool, true, false, cond, ◌+◌, ◌≤◌, List, [], ◌∷◌, ◌++◌, length, refl, sym, ap, ◌∙◌, append_assoc, append-nil, arith, length-append}
use Rattle.std.specs.Prelude.{Result, Ok, Err}
use Rattle.gs_model.specs.Terms.{Term}
use Rattle.gs_blank.specs.Numbers.{Numbers}
use Rattle.gs_triples.specs.Symbols.{Symbol, At, Carets, Close}
use Rattle.gs_triples.specs.Meanings as meaning
use Rattle.gs_triples.specs.Meanings.{Fault, Syntax, Context, blank, rdf_value}
use Rattle.gs_triples.specs.Goals.{Goal, Object, Inside, Verbs, After, Semis, Begun, Items}
use Rattle.gs_triples.specs.Rules.{Covers}
use Rattle.gs_triples.specs.Reading.{Got, ◌and_then◌, with_front, bare, literal, one_token, close, closes, parse}
use Rattle.gs_triples.specs.Program.{stands_alone}
use Rattle.gs_triples.specs.States.{Frame, ToObject, ToClose, ToFirst, ToItem, ToVerbs, ToMore, State, Closed, Heading, Held, Lost, Turn}
use Rattle.gs_triples.specs.Machine.{give, give_token, put, leave, go_on, step, unended, ended}
use Rattle.gs_triples.specs.Runs.{Done, taken, run}
use Rattle.gs_triples.proofs.BackLemmas.{Covered, then_goal}
use Rattle.gs_triples.proofs.ForthLemmas.{takes}

-- four lists, grouped anew
pub regroup : {A : Type 0} (P a b c : List A) → ((P ++ a) ++ b) ++ c ≡ P ++ ((a ++ b) ++ c)
regroup P a b c = simp append_assoc

module _ {Value Triple : Type 0} where
  -- what is read from a turn that the first of these symbols made
  abbrev pub read_from : Symbol → List Symbol → Turn Value Triple → Result (Done Value Triple) Fault
  read_from t ts u = taken (run ts) (t ∷ ts) u

  -- after a fault, whatever stands there
  pub lost_run : (e : Fault) (ts : List Symbol) → (let s : State Value Triple = Lost e in run ts s) ≡ Err e
  unfolding run step ended
  lost_run e [] = refl
  lost_run e (t ∷ ts) = lost_run e ts

  -- what is read after a list of verbs and objects
  unfoldable pub leaves : List (Frame Value) → Context Value Triple → List Triple → Numbers → List Symbol → Result (Done Value Triple) Fault
  leaves fs env P n [] = Err Syntax
  leaves fs env P n (t ∷ ts) = read_from t ts (leave t fs env P n)

  -- what is read after a goal
  abbrev pub continue : Goal Value → List (Frame Value) → Context Value Triple → List Triple → Result (Got Value Triple) Fault → Result (Done Value Triple) Fault
  continue g fs env P (Err e) = Err e
  continue (Verbs d s) fs env P (Ok r) = leaves fs env (P ++ r.triples) r.numbers r.rest
  continue (After d s p) fs env P (Ok r) = leaves fs env (P ++ r.triples) r.numbers r.rest
  continue (Semis d s) fs env P (Ok r) = leaves fs env (P ++ r.triples) r.numbers r.rest
  continue g fs env P (Ok r) = run r.rest (give env r.value fs (P ++ r.triples) r.numbers)

  pub continue_front : (g : Goal Value) (fs : List (Frame Value)) (env : Context Value Triple) (P a b : List Triple) (r : Result (Got Value Triple) Fault) → continue g fs env ((P ++ a) ++ b) r ≡ continue g fs env P (with_front (a ++ b) r)
  continue_front g fs env P a b (Err e) = refl
  continue_front (Verbs d s) fs env P a b (Ok r) = ap (λ z. leaves fs env z r.numbers r.rest) (regroup P a b r.triples)
  continue_front (After d s p) fs env P a b (Ok r) = ap (λ z. leaves fs env z r.numbers r.rest) (regroup P a b r.triples)
  continue_front (Semis d s) fs env P a b (Ok r) = ap (λ z. leaves fs env z r.numbers r.rest) (regroup P a b r.triples)
  continue_front (Object d) fs env P a b (Ok r) = ap (λ z. run r.rest (give env r.value fs z r.numbers)) (regroup P a b r.triples)
  continue_front (Inside d m) fs env P a b (Ok r) = ap (λ z. run r.rest (give env r.value fs z r.numbers)) (regroup P a b r.triples)
  continue_front (Begun d) fs env P a b (Ok r) = ap (λ z. run r.rest (give env r.value fs z r.numbers)) (regroup P a b r.triples)
  continue_front (Items d h m) fs env P a b (Ok r) = ap (λ z. run r.rest (give env r.value fs z r.numbers)) (regroup P a b r.triples)

  -- an object leaves fewer tokens
  pub shorter : {env : Context Value Triple} {d : ℕ} {n k : Numbers} {xs : List Symbol} {v : Value} {T : List Triple} (ts us : List Symbol) → ts ≡ xs ++ us → Covers env (Object d) n xs v T k → length us + 1 ≤ length ts
  shorter {xs = xs} ts us e c = omega (arith, takes c, ap length e, length-append xs us)

  -- a frame that goes on to another goal
  pub continue_then : (env : Context Value Triple) (f d : ℕ) (n : Numbers) (fr : Frame Value) (fs : List (Frame Value)) (P : List Triple) (T : Value → List Triple) (then : Goal Value) (k : ℕ)
      → ((v : Value) (Q : List Triple) (l : Numbers) → give env v (fr ∷ fs) Q l ≡ Heading then fs env (Q ++ T v) l)
      → ((l : Numbers) (us : List Symbol) (Q : List Triple) → length us + 1 ≤ k → run us (Heading then fs env Q l) ≡ continue then fs env Q (parse env f then l us))
      → (ts : List Symbol) → length ts ≤ k → (r : Result (Got Value Triple) Fault) → Covered env (Object d) n ts r
      → continue (Object d) (fr ∷ fs) env P r ≡ continue then fs env P (r and_then then_goal env f then T)
  continue_then env f d n fr fs P T then k e again ts h (Err x) c = refl
  continue_then env f d n fr fs P T then k e again ts h (Ok o) (xs, q, c) =
      ap (λ z. run o.rest z) (e o.value (P ++ o.triples) o.numbers)
      ∙ again o.numbers o.rest ((P ++ o.triples) ++ T o.value) (omega (arith, shorter ts o.rest q c))
      ∙ continue_front then fs env P o.triples (T o.value) (parse env f then o.numbers o.rest)

  pub as_begun : (env : Context Value Triple) (d h m : ℕ) (fs : List (Frame Value)) (P : List Triple) (r : Result (Got Value Triple) Fault) → continue (Items d h m) fs env P r ≡ continue (Begun d) fs env P r
  as_begun env d h m fs P (Err e) = refl
  as_begun env d h m fs P (Ok r) = refl

  pub as_items : (env : Context Value Triple) (d h m k : ℕ) (fs : List (Frame Value)) (P : List Triple) (r : Result (Got Value Triple) Fault) → continue (Items d h k) fs env P r ≡ continue (Items d h m) fs env P r
  as_items env d h m k fs P (Err e) = refl
  as_items env d h m k fs P (Ok r) = refl

  pub as_verbs : (env : Context Value Triple) (d : ℕ) (s p : Value) (fs : List (Frame Value)) (P : List Triple) (r : Result (Got Value Triple) Fault) → continue (After d s p) fs env P r ≡ continue (Verbs d s) fs env P r
  as_verbs env d s p fs P (Err e) = refl
  as_verbs env d s p fs P (Ok r) = refl

  pub as_semis : (env : Context Value Triple) (d : ℕ) (s : Value) (fs : List (Frame Value)) (P : List Triple) (r : Result (Got Value Triple) Fault) → continue (Verbs d s) fs env P r ≡ continue (Semis d s) fs env P r
  as_semis env d s fs P (Err e) = refl
  as_semis env d s fs P (Ok r) = refl

  pub as_after : (env : Context Value Triple) (d : ℕ) (s p : Value) (fs : List (Frame Value)) (P : List Triple) (r : Result (Got Value Triple) Fault) → continue (Semis d s) fs env P r ≡ continue (After d s p) fs env P r
  as_after env d s p fs P (Err e) = refl
  as_after env d s p fs P (Ok r) = refl

  pub as_object : (env : Context Value Triple) (d e m : ℕ) (fs : List (Frame Value)) (P : List Triple) (r : Result (Got Value Triple) Fault) → continue (Inside e m) fs env P r ≡ continue (Object d) fs env P r
  as_object env d e m fs P (Err x) = refl
  as_object env d e m fs P (Ok r) = refl

  pub list_object : (env : Context Value Triple) (d e : ℕ) (fs : List (Frame Value)) (P : List Triple) (r : Result (Got Value Triple) Fault) → continue (Begun e) fs env P r ≡ continue (Object d) fs env P r
  list_object env d e fs P (Err x) = refl
  list_object env d e fs P (Ok r) = refl

  -- after the properties in brackets
  pub close_step : (env : Context Value Triple) (d m : ℕ) (fs : List (Frame Value)) (P Q : List Triple) (n : Numbers) (ts : List Symbol)
      → leaves (ToClose m ∷ fs) env (P ++ Q) n ts ≡ continue (Inside d m) fs env P (close (blank env m) Q n ts)
  unfolding leaves
  close_step env d m fs P Q n [] = refl
  close_step env d m fs P Q n (Close ∷ ts) = refl
  close_step env d m fs P Q n (t ∷ ts) = lost_run Syntax ts

  pub close_then : (env : Context Value Triple) (d m : ℕ) (s : Value) (fs : List (Frame Value)) (P : List Triple) (r : Result (Got Value Triple) Fault)
      → continue (Verbs d s) (ToClose m ∷ fs) env P r ≡ continue (Inside d m) fs env P (r and_then closes (blank env m))
  close_then env d m s fs P (Err e) = refl
  close_then env d m s fs P (Ok g) = close_step env d m fs P g.triples g.numbers g.rest

  -- a term of one token
  pub given_run : (env : Context Value Triple) (d : ℕ) (fs : List (Frame Value)) (P : List Triple) (ts : List Symbol) (r : Result (Value × Numbers) Fault)
      → run ts (give_token fs env P r) ≡ continue (Object d) fs env P (one_token ts r)
  given_run env d fs P ts (Err e) = lost_run e ts
  given_run env d fs P ts (Ok p) = ap (λ z. run ts (give env p.0 fs z p.1)) (sym (append-nil P))

  pub put_run : (env : Context Value Triple) (d : ℕ) (fs : List (Frame Value)) (P : List Triple) (n : Numbers) (ts : List Symbol) (r : Result Term Fault)
      → run ts (put fs env P n r) ≡ continue (Object d) fs env P (bare env n ts r)
  put_run env d fs P n ts (Err e) = lost_run e ts
  put_run env d fs P n ts (Ok t) = ap (λ z. run ts (give env (env.language.of_term t) fs z n)) (sym (append-nil P))

  -- where a term is give_token, the text may not end
  -- a collection that is a subject, which may stand alone or not
  abbrev either : Context Value Triple → Value → List (Frame Value) → List Triple → Numbers → Bool → State Value Triple
  either env v fs P n b = cond b (Closed v env P n) (Heading (Verbs 0 v) fs env P n)

  either_ends : (env : Context Value Triple) (v : Value) (fs : List (Frame Value)) (P : List Triple) (n : Numbers) (b : Bool) → run [] (either env v fs P n b) ≡ Err Syntax
  unfolding run ended
  either_ends env v fs P n true = refl
  either_ends env v fs P n false = refl

  either_goes : (env : Context Value Triple) (v : Value) (fs : List (Frame Value)) (P : List Triple) (n : Numbers) (t : Symbol) (b : Bool)
      → step (either env v fs P n b) t ≡ go_on t (either env v fs P n b)
  unfolding step
  either_goes env v fs P n t true = refl
  either_goes env v fs P n t false = refl

  give_ends : (env : Context Value Triple) (v : Value) (fs : List (Frame Value)) (P : List Triple) (n : Numbers) → run [] (give env v fs P n) ≡ Err Syntax
  unfolding run ended
  give_ends env v [] P n = refl
  give_ends env v (ToObject d s p ∷ fs) P n = refl
  give_ends env v (ToClose m ∷ fs) P n = refl
  give_ends env v (ToFirst d m ∷ fs) P n = refl
  give_ends env v (ToItem d h l m ∷ fs) P n = refl
  give_ends env v (ToVerbs ∷ fs) P n = either_ends env v fs P n (stands_alone env P)
  give_ends env v (ToMore m ∷ fs) P n = refl

  -- and a symbol goes on there
  give_goes : (env : Context Value Triple) (v : Value) (fs : List (Frame Value)) (P : List Triple) (n : Numbers) (t : Symbol) → step (give env v fs P n) t ≡ go_on t (give env v fs P n)
  unfolding step
  give_goes env v [] P n t = refl
  give_goes env v (ToObject d s p ∷ fs) P n t = refl
  give_goes env v (ToClose m ∷ fs) P n t = refl
  give_goes env v (ToFirst d m ∷ fs) P n t = refl
  give_goes env v (ToItem d h l m ∷ fs) P n t = refl
  give_goes env v (ToVerbs ∷ fs) P n t = either_goes env v fs P n t (stands_alone env P)
  give_goes env v (ToMore m ∷ fs) P n t = refl

  simple_ends : (env : Context Value Triple) (d : ℕ) (fs : List (Frame Value)) (P : List Triple) (n : Numbers) (r : Result Term Fault)
      → (let p : Result (Done Value Triple) Fault = Err (unended r) in p) ≡ continue (Object d) fs env P (bare env n [] r)
  simple_ends env d fs P n (Err e) = refl
  simple_ends env d fs P n (Ok t) = sym (give_ends env (env.language.of_term t) fs (P ++ []) n)

  simple_goes : (env : Context Value Triple) (d : ℕ) (fs : List (Frame Value)) (P : List Triple) (n : Numbers) (t : Symbol) (ts : List Symbol) (r : Result Term Fault)
      → read_from t ts (go_on t (put fs env P n r)) ≡ continue (Object d) fs env P (bare env n (t ∷ ts) r)
  unfolding run
  simple_goes env d fs P n t ts (Err e) = lost_run e ts
  simple_goes env d fs P n t ts (Ok x) =
      let v : Value = env.language.of_term x in
      ap (λ z. read_from t ts z) (sym (give_goes env v fs P n t)) ∙ ap (λ z. run (t ∷ ts) (give env v fs z n)) (sym (append-nil P))

  pub held_run : (env : Context Value Triple) (d : ℕ) (fs : List (Frame Value)) (P : List Triple) (n : Numbers) (x : List ℕ) (ts : List Symbol)
      → run ts (Held x fs env P n) ≡ continue (Object d) fs env P (literal env n x ts)
  unfolding run step ended
  held_run env d fs P n x [] = simple_ends env d fs P n (meaning.simple x)
  held_run env d fs P n x (At y ∷ ts) = put_run env d fs P n ts (meaning.tagged x y)
  held_run env d fs P n x (Carets ∷ []) = refl
  held_run env d fs P n x (Carets ∷ t ∷ ts) = put_run env d fs P n ts (meaning.typed env x t)
  held_run env d fs P n x (t ∷ ts) = simple_goes env d fs P n t ts (meaning.simple x)

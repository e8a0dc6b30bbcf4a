-- The triples that the machine of triples has read stay, symbol by symbol.
use Rattle.std.proofs.Common.{◌≡◌, ℕ, Bool, true, false, cond, List, [], ◌∷◌, ◌++◌, refl, sym, ap, ◌∙◌, append_assoc, append-nil, subst}
use Rattle.std.specs.Prelude.{codes, Result, Ok, Err}
use Rattle.gs_model.specs.Terms.{Term}
use Rattle.gs_blank.specs.Numbers.{Numbers, one_more}
use Rattle.gs_triples.specs.Symbols.{Symbol, ATerm, Text, At, Carets, Open, Close, OpenList, CloseList, Semicolon, Comma}
use Rattle.gs_triples.specs.Meanings as meaning
use Rattle.gs_triples.specs.Meanings.{Fault, Context, blank, rdf_value, tagged, typed, simple}
use Rattle.gs_triples.specs.Goals.{Goal, Object, Inside, Verbs, After, Semis, Begun, Items, may_open, may_open_node, next_number, rest_is}
use Rattle.gs_triples.specs.Reading.{begins_verb}
use Rattle.gs_triples.specs.Program.{stands_alone}
use Rattle.gs_triples.specs.States.{Frame, ToObject, ToClose, ToFirst, ToItem, ToVerbs, ToMore, State, Opened, Closed, Heading, Held, Typing, Lost, Turn, Goes, Ends}
use Rattle.gs_triples.specs.Machine.{give, shut, leave, give_token, put, object, after_verb, at_verb, first_object, head, after_alone, go_on, step}
use Rattle.gs_triples.specs.States.{triples_so_far}
use Rattle.gs_update_text.proofs.LeadLemmas.{Leads, stay, go}

-- a list, and more after it
abbrev pub Extends : {A : Type 0} → List A → List A → Type 0
Extends {A} P Q = (V : List A) × (Q ≡ P ++ V)

all : {A : Type 0} (P : List A) → Extends P P
all P = ([], sym (append-nil P))

pub further : {A : Type 0} (P Q R : List A) → Extends P Q → Extends Q R → Extends P R
further P Q R (V, p) (W, q) = (V ++ W, q ∙ ap (λ z. z ++ W) p ∙ append_assoc P V W)

module _ {Value Triple : Type 0} where
  -- a state, or a turn, that has these triples, unless after a fault
  abbrev Grown : List Triple → State Value Triple → Type 0
  Grown P (Lost e) = Unit {0}
  Grown P (Opened env n) = Extends P []
  Grown P (Closed v env Q n) = Extends P Q
  Grown P (Heading g fs env Q n) = Extends P Q
  Grown P (Held x fs env Q n) = Extends P Q
  Grown P (Typing x fs env Q n) = Extends P Q

  abbrev Grows : List Triple → Turn Value Triple → Type 0
  Grows P (Goes s) = Grown P s
  Grows P (Ends env Q n) = Extends P Q

  grown_further : (P Q : List Triple) (s : State Value Triple) → Extends P Q → Grown Q s → Grown P s
  grown_further P Q (Lost e) p g = tt
  grown_further P Q (Opened env n) p g = further P Q [] p g
  grown_further P Q (Closed v env R n) p g = further P Q R p g
  grown_further P Q (Heading x fs env R n) p g = further P Q R p g
  grown_further P Q (Held x fs env R n) p g = further P Q R p g
  grown_further P Q (Typing x fs env R n) p g = further P Q R p g

  grows_further : (P Q : List Triple) (u : Turn Value Triple) → Extends P Q → Grows Q u → Grows P u
  grows_further P Q (Goes s) p g = grown_further P Q s p g
  grows_further P Q (Ends env R n) p g = further P Q R p g

  one_of : (P : List Triple) (b : Bool) (s u : State Value Triple) → Grown P s → Grown P u → Grown P (cond b s u)
  one_of P true s u g h = g
  one_of P false s u g h = h

  either : (P : List Triple) (b : Bool) (s u : Turn Value Triple) → Grows P s → Grows P u → Grows P (cond b s u)
  either P true s u g h = g
  either P false s u g h = h

  give_grows : (env : Context Value Triple) (v : Value) (fs : List (Frame Value)) (P : List Triple) (n : Numbers) → Grown P (give env v fs P n)
  give_grows env v [] P n = tt
  give_grows env v (ToObject d s p ∷ fs) P n = (_, refl)
  give_grows env v (ToFirst d m ∷ fs) P n = (_, refl)
  give_grows env v (ToItem d h l m ∷ fs) P n = (_, refl)
  give_grows env v (ToVerbs ∷ fs) P n = one_of P (stands_alone env P) (Closed v env P n) (Heading (Verbs 0 v) fs env P n) (all P) (all P)
  give_grows env v (ToClose m ∷ fs) P n = tt
  give_grows env v (ToMore m ∷ fs) P n = tt

  shut_grows : (t : Symbol) (f : Frame Value) (fs : List (Frame Value)) (env : Context Value Triple) (P : List Triple) (n : Numbers) → Grown P (shut t f fs env P n)
  shut_grows Close (ToClose m) fs env P n = give_grows env (blank env m) fs P n
  shut_grows Close (ToMore m) [] env P n = all P
  shut_grows t f fs env P n = tt

  leave_grows : (t : Symbol) (fs : List (Frame Value)) (env : Context Value Triple) (P : List Triple) (n : Numbers) → Grows P (leave t fs env P n)
  leave_grows t [] env P n = all P
  leave_grows t (f ∷ fs) env P n = shut_grows t f fs env P n

  token_grows : (fs : List (Frame Value)) (env : Context Value Triple) (P : List Triple) (r : Result (Value × Numbers) Fault) → Grown P (give_token fs env P r)
  token_grows fs env P (Err e) = tt
  token_grows fs env P (Ok p) = give_grows env p.0 fs P p.1

  put_grows : (fs : List (Frame Value)) (env : Context Value Triple) (P : List Triple) (n : Numbers) (r : Result Term Fault) → Grown P (put fs env P n r)
  put_grows fs env P n (Err e) = tt
  put_grows fs env P n (Ok t) = give_grows env (env.language.of_term t) fs P n

  object_grows : (d : ℕ) (t : Symbol) (fs : List (Frame Value)) (env : Context Value Triple) (P : List Triple) (n : Numbers) → Grown P (object d t fs env P n)
  object_grows d (ATerm w) fs env P n = token_grows fs env P (meaning.word env n w)
  object_grows d (Text x) fs env P n = all P
  object_grows d Open fs env P n = one_of P (may_open_node env d) _ _ (all P) tt
  object_grows d OpenList fs env P n = one_of P (may_open d) _ _ (all P) tt
  object_grows d t fs env P n = tt

  verb_grows : (d : ℕ) (s : Value) (fs : List (Frame Value)) (env : Context Value Triple) (P : List Triple) (n : Numbers) (r : Result Value Fault) → Grown P (after_verb d s fs env P n r)
  verb_grows d s fs env P n (Err e) = tt
  verb_grows d s fs env P n (Ok p) = all P

  first_grows : (d : ℕ) (t : Symbol) (fs : List (Frame Value)) (env : Context Value Triple) (P : List Triple) (n : Numbers) → Grown P (first_object d t fs env P n)
  first_grows d t fs env P n = one_of P env.language.nodes _ _ (object_grows d t (ToFirst d (next_number n) ∷ fs) env P (one_more n)) tt

  head_grows : (g : Goal Value) (t : Symbol) (fs : List (Frame Value)) (env : Context Value Triple) (P : List Triple) (n : Numbers) → Grows P (head g t fs env P n)
  head_grows (Object d) t fs env P n = object_grows d t fs env P n
  head_grows (Inside d m) Close fs env P n = give_grows env (blank env m) fs P n
  head_grows (Inside d m) t fs env P n = verb_grows d (blank env m) (ToClose m ∷ fs) env P n (meaning.verb env t)
  head_grows (Verbs d s) t fs env P n = verb_grows d s fs env P n (meaning.verb env t)
  head_grows (After d s p) Comma fs env P n = all P
  head_grows (After d s p) Semicolon fs env P n = all P
  head_grows (After d s p) t fs env P n = leave_grows t fs env P n
  head_grows (Semis d s) Semicolon fs env P n = all P
  head_grows (Semis d s) t fs env P n =
      either P (begins_verb t) (Goes (at_verb d s t fs env P n)) (leave t fs env P n) (verb_grows d s fs env P n (meaning.verb env t)) (leave_grows t fs env P n)
  head_grows (Begun d) CloseList fs env P n = give_grows env _ fs P n
  head_grows (Begun d) t fs env P n = first_grows d t fs env P n
  head_grows (Items d h l) CloseList fs env P n = grown_further P (P ++ rest_is env l (rdf_value env (codes "nil")) ∷ []) (give env (blank env h) fs (P ++ rest_is env l (rdf_value env (codes "nil")) ∷ []) n) (rest_is env l (rdf_value env (codes "nil")) ∷ [], refl) (give_grows env (blank env h) fs (P ++ rest_is env l (rdf_value env (codes "nil")) ∷ []) n)
  head_grows (Items d h l) t fs env P n = object_grows d t (ToItem d h l (next_number n) ∷ fs) env P (one_more n)

  alone_grows : (v : Value) (t : Symbol) (env : Context Value Triple) (P : List Triple) (n : Numbers) → Grows P (after_alone v t env P n)
  alone_grows v t env P n = either P (begins_verb t) (Goes (at_verb 0 v t [] env P n)) (leave t [] env P n) (verb_grows 0 v [] env P n (meaning.verb env t)) (leave_grows t [] env P n)

  on_grows : (P : List Triple) (t : Symbol) (s : State Value Triple) → Grown P s → Grows P (go_on t s)
  on_grows P t (Heading g fs env Q n) h = grows_further P Q (head g t fs env Q n) h (head_grows g t fs env Q n)
  on_grows P t (Closed v env Q n) h = grows_further P Q (after_alone v t env Q n) h (alone_grows v t env Q n)
  on_grows P t s h = tt

  step_grows : (s : State Value Triple) (t : Symbol) → Grows (triples_so_far s) (step s t)
  unfolding step
  step_grows (Opened env n) Close = all []
  step_grows (Opened env n) t = verb_grows 1 (blank env (next_number n)) (ToMore (next_number n) ∷ []) env [] (one_more n) (meaning.verb env t)
  step_grows (Closed v env P n) t = alone_grows v t env P n
  step_grows (Heading g fs env P n) t = head_grows g t fs env P n
  step_grows (Held x fs env P n) (At y) = put_grows fs env P n (tagged x y)
  step_grows (Held x fs env P n) Carets = all P
  step_grows (Held x fs env P n) t = on_grows P t (put fs env P n (simple x)) (put_grows fs env P n (simple x))
  step_grows (Typing x fs env P n) t = put_grows fs env P n (typed env x t)
  step_grows (Lost e) t = tt

  -- a state that is not after a fault
  abbrev pub NotLost : State Value Triple → Type 0
  NotLost (Lost e) = ⊥
  NotLost s = Unit {0}

  grown_all : (P : List Triple) (s : State Value Triple) → NotLost s → Grown P s → Extends P (triples_so_far s)
  grown_all P (Lost e) h g = elim h [ ]
  grown_all P (Opened env n) h g = g
  grown_all P (Closed v env Q n) h g = g
  grown_all P (Heading x fs env Q n) h g = g
  grown_all P (Held x fs env Q n) h g = g
  grown_all P (Typing x fs env Q n) h g = g

  -- where triples end, there was no fault
  end_goes : (s : State Value Triple) (t : Symbol) (env : Context Value Triple) (T : List Triple) (n : Numbers) → step s t ≡ Ends env T n → NotLost s
  unfolding step
  end_goes (Lost e) t env T n q = absurd (cc)
  end_goes (Opened _ _) t env T n q = tt
  end_goes (Closed _ _ _ _) t env T n q = tt
  end_goes (Heading _ _ _ _ _) t env T n q = tt
  end_goes (Held _ _ _ _ _) t env T n q = tt
  end_goes (Typing _ _ _ _ _) t env T n q = tt

  abbrev goes_or : State Value Triple → Turn Value Triple → State Value Triple
  goes_or s (Goes u) = u
  goes_or s (Ends env T n) = s

  turn_goes : (s u : State Value Triple) (t : Symbol) → step s t ≡ Goes u → NotLost u → NotLost s
  unfolding step
  turn_goes (Lost e) u t q h = subst NotLost (sym (ap (goes_or u) q)) h
  turn_goes (Opened _ _) u t q h = tt
  turn_goes (Closed _ _ _ _) u t q h = tt
  turn_goes (Heading _ _ _ _ _) u t q h = tt
  turn_goes (Held _ _ _ _ _) u t q h = tt
  turn_goes (Typing _ _ _ _ _) u t q h = tt

  -- up to the token that ends them, triples only join
  pub leads_grow : {s u : State Value Triple} {xs : List Symbol} {env : Context Value Triple} {T : List Triple} {n : Numbers} (t : Symbol)
      → Leads s xs u → step u t ≡ Ends env T n → NotLost s × Extends (triples_so_far s) T
  leads_grow {env = env} {T = T} {n = n} t (stay s) q = (end_goes s t env T n q, subst (Grows (triples_so_far s)) q (step_grows s t))
  leads_grow {s = s} {T = T} t (go {u = u} x p l) q =
      let (goes, more) : NotLost u × Extends (triples_so_far u) T = leads_grow t l q in
      (turn_goes s u x p goes, further (triples_so_far s) (triples_so_far u) T (grown_all (triples_so_far s) u goes (subst (Grows (triples_so_far s)) p (step_grows s x))) more)

-- The machine of triples holds a string just where that was the last token.
use Rattle.std.proofs.Common.{◌≡◌, ℕ, suc, Bool, true, false, cond, List, [], ◌∷◌, ◌++◌, refl, subst}
use Rattle.std.specs.Prelude.{Result, Ok, Err}
use Rattle.gs_model.specs.Terms.{Term}
use Rattle.gs_blank.specs.Numbers.{Numbers, one_more}
use Rattle.gs_triples.specs.Symbols.{Symbol, ATerm, Text, At, Carets, Open, Close, OpenList, CloseList, Semicolon, Comma, Dot}
use Rattle.gs_triples.specs.Meanings as meaning
use Rattle.gs_triples.specs.Meanings.{Fault, Syntax, Context, blank, tagged, typed, simple}
use Rattle.gs_triples.specs.Goals.{Goal, Object, Inside, Verbs, After, Semis, Begun, Items, may_open, may_open_node, next_number}
use Rattle.gs_triples.specs.Reading.{begins_verb}
use Rattle.gs_triples.specs.Program.{stands_alone}
use Rattle.gs_triples.specs.States.{Frame, ToObject, ToClose, ToFirst, ToItem, ToVerbs, ToMore, State, Opened, Closed, Heading, Held, Typing, Lost, Turn, Goes, Ends}
use Rattle.gs_triples.specs.Machine.{give, shut, leave, give_token, put, object, after_verb, at_verb, head, after_alone, go_on, begin, opening, step}
use Rattle.gs_update_text.specs.Profile.{is_string, ends_in_string}
use Rattle.gs_update_text.proofs.LeadLemmas.{Leads, stay, go}

module _ {Value Triple : Type 0} where
  -- a state after a string
  abbrev pub IsHeld : State Value Triple → Type 0
  IsHeld (Held x fs env P n) = Unit {0}
  IsHeld s = ⊥

  -- a state that does not hold a string, or a turn to one
  abbrev NotHeld : State Value Triple → Type 0
  NotHeld s = IsHeld s → ⊥

  abbrev TurnsBy : Symbol → Turn Value Triple → Type 0
  TurnsBy t (Goes s) = IsHeld s → is_string t ≡ true
  TurnsBy t (Ends env P n) = Unit {0}

  one_of : (b : Bool) (s u : State Value Triple) → NotHeld s → NotHeld u → NotHeld (cond b s u)
  one_of true s u g h = g
  one_of false s u g h = h

  by_any : (t : Symbol) (s : State Value Triple) → NotHeld s → IsHeld s → is_string t ≡ true
  by_any t s h i = absurd (h i)

  give_holds : (env : Context Value Triple) (v : Value) (fs : List (Frame Value)) (P : List Triple) (n : Numbers) → NotHeld (give env v fs P n)
  give_holds env v [] P n i = i
  give_holds env v (ToObject d s p ∷ fs) P n i = i
  give_holds env v (ToFirst d m ∷ fs) P n i = i
  give_holds env v (ToItem d h l m ∷ fs) P n i = i
  give_holds env v (ToVerbs ∷ fs) P n i = one_of (stands_alone env P) (Closed v env P n) (Heading (Verbs 0 v) fs env P n) (λ j. j) (λ j. j) i
  give_holds env v (ToClose m ∷ fs) P n i = i
  give_holds env v (ToMore m ∷ fs) P n i = i

  shut_holds : (t : Symbol) (f : Frame Value) (fs : List (Frame Value)) (env : Context Value Triple) (P : List Triple) (n : Numbers) → NotHeld (shut t f fs env P n)
  shut_holds Close (ToClose m) fs env P n i = give_holds env (blank env m) fs P n i
  shut_holds Close (ToMore m) [] env P n i = i
  shut_holds t f fs env P n i = i

  leave_holds : (t : Symbol) (fs : List (Frame Value)) (env : Context Value Triple) (P : List Triple) (n : Numbers) → TurnsBy t (leave t fs env P n)
  leave_holds t [] env P n = tt
  leave_holds t (f ∷ fs) env P n = by_any t (shut t f fs env P n) (shut_holds t f fs env P n)

  token_holds : (fs : List (Frame Value)) (env : Context Value Triple) (P : List Triple) (r : Result (Value × Numbers) Fault) → NotHeld (give_token fs env P r)
  token_holds fs env P (Err e) i = i
  token_holds fs env P (Ok p) i = give_holds env p.0 fs P p.1 i

  put_holds : (fs : List (Frame Value)) (env : Context Value Triple) (P : List Triple) (n : Numbers) (r : Result Term Fault) → NotHeld (put fs env P n r)
  put_holds fs env P n (Err e) i = i
  put_holds fs env P n (Ok t) i = give_holds env (env.language.of_term t) fs P n i

  object_holds : (d : ℕ) (t : Symbol) (fs : List (Frame Value)) (env : Context Value Triple) (P : List Triple) (n : Numbers) → IsHeld (object d t fs env P n) → is_string t ≡ true
  object_holds d (ATerm w) fs env P n i = absurd (token_holds fs env P (meaning.word env n w) i)
  object_holds d (Text x) fs env P n i = refl
  object_holds d Open fs env P n i = absurd (one_of (may_open_node env d) (Heading (Inside (suc d) (next_number n)) fs env P (one_more n)) (Lost Syntax) (λ j. j) (λ j. j) i)
  object_holds d OpenList fs env P n i = absurd (one_of (may_open d) (Heading (Begun (suc d)) fs env P n) (Lost Syntax) (λ j. j) (λ j. j) i)
  object_holds d t fs env P n i = elim i [ ]

  verb_holds : (d : ℕ) (s : Value) (fs : List (Frame Value)) (env : Context Value Triple) (P : List Triple) (n : Numbers) (r : Result Value Fault) → NotHeld (after_verb d s fs env P n r)
  verb_holds d s fs env P n (Err e) i = i
  verb_holds d s fs env P n (Ok p) i = i

  first_if : (t : Symbol) (s : State Value Triple) (b : Bool) → (IsHeld s → is_string t ≡ true) → IsHeld (cond b s (Lost Syntax)) → is_string t ≡ true
  first_if t s true h i = h i
  first_if t s false h i = elim i [ ]

  either : (t : Symbol) (b : Bool) (s u : Turn Value Triple) → TurnsBy t s → TurnsBy t u → TurnsBy t (cond b s u)
  either t true s u g h = g
  either t false s u g h = h

  verb_by : (d : ℕ) (s : Value) (t : Symbol) (fs : List (Frame Value)) (env : Context Value Triple) (P : List Triple) (n : Numbers) → TurnsBy t (Goes (at_verb d s t fs env P n))
  verb_by d s t fs env P n = by_any t (at_verb d s t fs env P n) (verb_holds d s fs env P n (meaning.verb env t))

  head_holds : (g : Goal Value) (t : Symbol) (fs : List (Frame Value)) (env : Context Value Triple) (P : List Triple) (n : Numbers) → TurnsBy t (head g t fs env P n)
  head_holds (Object d) t fs env P n = object_holds d t fs env P n
  head_holds (Inside d m) Close fs env P n = by_any Close (give env (blank env m) fs P n) (give_holds env (blank env m) fs P n)
  head_holds (Inside d m) t fs env P n = verb_by d (blank env m) t (ToClose m ∷ fs) env P n
  head_holds (Verbs d s) t fs env P n = verb_by d s t fs env P n
  head_holds (After d s p) Comma fs env P n = λ i. elim i [ ]
  head_holds (After d s p) Semicolon fs env P n = λ i. elim i [ ]
  head_holds (After d s p) t fs env P n = leave_holds t fs env P n
  head_holds (Semis d s) Semicolon fs env P n = λ i. elim i [ ]
  head_holds (Semis d s) t fs env P n =
      either t (begins_verb t) (Goes (at_verb d s t fs env P n)) (leave t fs env P n) (verb_by d s t fs env P n) (leave_holds t fs env P n)
  head_holds (Begun d) CloseList fs env P n = λ i. absurd (give_holds env _ fs P n i)
  head_holds (Begun d) t fs env P n =
      first_if t (object d t (ToFirst d (next_number n) ∷ fs) env P (one_more n)) env.language.nodes (object_holds d t (ToFirst d (next_number n) ∷ fs) env P (one_more n))
  head_holds (Items d h l) CloseList fs env P n = λ i. absurd (give_holds env (blank env h) fs _ n i)
  head_holds (Items d h l) t fs env P n = object_holds d t (ToItem d h l (next_number n) ∷ fs) env P (one_more n)

  alone_holds : (v : Value) (t : Symbol) (env : Context Value Triple) (P : List Triple) (n : Numbers) → TurnsBy t (after_alone v t env P n)
  alone_holds v t env P n = either t (begins_verb t) (Goes (at_verb 0 v t [] env P n)) (leave t [] env P n) (verb_by 0 v t [] env P n) (leave_holds t [] env P n)

  on_holds : (t : Symbol) (s : State Value Triple) → TurnsBy t (go_on t s)
  on_holds t (Heading g fs env P n) = head_holds g t fs env P n
  on_holds t (Closed v env P n) = alone_holds v t env P n
  on_holds t s = λ i. elim i [ ]

  step_holds : (s : State Value Triple) (t : Symbol) → TurnsBy t (step s t)
  unfolding step
  step_holds (Opened env n) Close = λ i. elim i [ ]
  step_holds (Opened env n) t = verb_by 1 (blank env (next_number n)) t (ToMore (next_number n) ∷ []) env [] (one_more n)
  step_holds (Closed v env P n) t = alone_holds v t env P n
  step_holds (Heading g fs env P n) t = head_holds g t fs env P n
  step_holds (Held x fs env P n) (At y) = by_any (At y) (put fs env P n (tagged x y)) (put_holds fs env P n (tagged x y))
  step_holds (Held x fs env P n) Carets = λ i. elim i [ ]
  step_holds (Held x fs env P n) t = on_holds t (put fs env P n (simple x))
  step_holds (Typing x fs env P n) t = by_any t (put fs env P n (typed env x t)) (put_holds fs env P n (typed env x t))
  step_holds (Lost e) t = λ i. elim i [ ]

  -- triples do not begin with a string
  begin_holds : (env : Context Value Triple) (r : Result (Value × Numbers) Fault) → NotHeld (begin env r)
  begin_holds env (Err e) i = i
  begin_holds env (Ok p) i = i

  opening_holds : (env : Context Value Triple) (n : Numbers) (t : Symbol) → NotHeld (opening env n t)
  opening_holds env n (ATerm w) i = begin_holds env (meaning.subject env n w) i
  opening_holds env n Open i = one_of env.language.nodes (Opened env n) (Lost Syntax) (λ j. j) (λ j. j) i
  opening_holds env n OpenList i = i
  opening_holds env n t i = i

  leads_hold : {s u : State Value Triple} {xs : List Symbol} (w : Symbol) → Leads s xs u → (IsHeld s → is_string w ≡ true) → IsHeld u → ends_in_string (w ∷ xs) ≡ true
  leads_hold w (stay s) h i = h i
  leads_hold {s = s} w (go {u = v} x p l) h i = leads_hold x l (subst (TurnsBy x) p (step_holds s x)) i

  -- where the machine holds a string, it was the last token
  pub held_last : {u : State Value Triple} {xs : List Symbol} (env : Context Value Triple) (n : Numbers) (w : Symbol) → Leads (opening env n w) xs u → IsHeld u → ends_in_string (w ∷ xs) ≡ true
  held_last env n w l i = leads_hold w l (by_any w (opening env n w) (opening_holds env n w)) i

-- what ends in a string ends in it after a dot
pub dot_ends : (xs ys : List Symbol) (e : ℕ) → ends_in_string ys ≡ true → ends_in_string (xs ++ Dot e ∷ ys) ≡ true
dot_ends [] [] e h = absurd (cc)
dot_ends [] (y ∷ ys) e h = h
dot_ends (x ∷ []) ys e h = dot_ends [] ys e h
dot_ends (x ∷ z ∷ xs) ys e h = dot_ends (z ∷ xs) ys e h

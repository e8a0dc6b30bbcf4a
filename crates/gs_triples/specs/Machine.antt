-- The reader of triples as a machine that takes symbol by symbol, with a stack.
use Rattle.std.specs.Prelude.{ℕ, suc, if◌then◌else◌, List, [], ◌∷◌, ◌++◌, codes, Result, Ok, Err}
use Rattle.gs_model.specs.Terms.{Term}
use Rattle.gs_blank.specs.Numbers.{Numbers, one_more}
use Rattle.gs_triples.specs.Symbols.{Symbol, ATerm, Text, At, Carets, Open, Close, OpenList, CloseList, Semicolon, Comma}
use Rattle.gs_triples.specs.Meanings.{Fault, Syntax, Context, blank, rdf_value, verb, word, subject, simple, tagged, typed}
use Rattle.gs_triples.specs.Goals.{Goal, Object, Inside, Verbs, After, Semis, Begun, Items, may_open, may_open_node, next_number, first_is, rest_is}
use Rattle.gs_triples.specs.Reading.{begins_verb}
use Rattle.gs_triples.specs.Program.{stands_alone}
use Rattle.gs_triples.specs.States.{Frame, ToObject, ToClose, ToFirst, ToItem, ToVerbs, ToMore}
use Rattle.gs_triples.specs.States.{State, Opened, Closed, Heading, Held, Typing, Lost, Turn, Goes, Ends}

-- a text that ends after a string: the string's fault, or unfinished triples
abbrev pub unended : Result Term Fault → Fault
unended (Err e) = e
unended (Ok t) = Syntax

module _ {Value Triple : Type 0} where
  -- a value for the goal on top of the stack
  abbrev pub give : Context Value Triple → Value → List (Frame Value) → List Triple → Numbers → State Value Triple
  give env v [] P n = Lost Syntax
  give env v (ToObject d s p ∷ fs) P n = Heading (After d s p) fs env (P ++ env.language.triple s p v ∷ []) n
  give env v (ToFirst d m ∷ fs) P n = Heading (Items d m m) fs env (P ++ first_is env m v ∷ []) n
  give env v (ToItem d h l m ∷ fs) P n = Heading (Items d h m) fs env (P ++ first_is env m v ∷ rest_is env l (blank env m) ∷ []) n
  give env v (ToVerbs ∷ fs) P n = if stands_alone env P then Closed v env P n else Heading (Verbs 0 v) fs env P n
  give env v (ToClose m ∷ fs) P n = Lost Syntax
  give env v (ToMore m ∷ fs) P n = Lost Syntax

  -- a token where a frame is open after a list of verbs and objects
  abbrev pub shut : Symbol → Frame Value → List (Frame Value) → Context Value Triple → List Triple → Numbers → State Value Triple
  shut Close (ToClose m) fs env P n = give env (blank env m) fs P n
  shut Close (ToMore m) [] env P n = Closed (blank env m) env P n
  shut t f fs env P n = Lost Syntax

  -- a token after a list of verbs and objects, which are all where no frame is open
  abbrev pub leave : Symbol → List (Frame Value) → Context Value Triple → List Triple → Numbers → Turn Value Triple
  leave t [] env P n = Ends env P n
  leave t (f ∷ fs) env P n = Goes (shut t f fs env P n)

  -- a value of one token, with its numbers, or its fault
  abbrev pub give_token : List (Frame Value) → Context Value Triple → List Triple → Result (Value × Numbers) Fault → State Value Triple
  give_token fs env P (Err e) = Lost e
  give_token fs env P (Ok p) = give env p.0 fs P p.1

  -- a literal, or its fault
  abbrev pub put : List (Frame Value) → Context Value Triple → List Triple → Numbers → Result Term Fault → State Value Triple
  put fs env P n (Err e) = Lost e
  put fs env P n (Ok t) = give env (env.language.of_term t) fs P n

  -- the first symbol of an object
  abbrev pub object : ℕ → Symbol → List (Frame Value) → Context Value Triple → List Triple → Numbers → State Value Triple
  object d (ATerm w) fs env P n = give_token fs env P (word env n w)
  object d (Text x) fs env P n = Held x fs env P n
  object d Open fs env P n = if may_open_node env d then Heading (Inside (suc d) (next_number n)) fs env P (one_more n) else Lost Syntax
  object d OpenList fs env P n = if may_open d then Heading (Begun (suc d)) fs env P n else Lost Syntax
  object d t fs env P n = Lost Syntax

  -- the object of a verb, or the verb's fault
  abbrev pub after_verb : ℕ → Value → List (Frame Value) → Context Value Triple → List Triple → Numbers → Result Value Fault
      → State Value Triple
  after_verb d s fs env P n (Err e) = Lost e
  after_verb d s fs env P n (Ok p) = Heading (Object d) (ToObject d s p ∷ fs) env P n

  -- the symbol of a verb
  abbrev pub at_verb : ℕ → Value → Symbol → List (Frame Value) → Context Value Triple → List Triple → Numbers → State Value Triple
  at_verb d s t fs env P n = after_verb d s fs env P n (verb env t)

  -- the symbol after the '(' of a collection that is not empty
  abbrev pub first_object : ℕ → Symbol → List (Frame Value) → Context Value Triple → List Triple → Numbers → State Value Triple
  first_object d t fs env P n = if env.language.nodes then object d t (ToFirst d (next_number n) ∷ fs) env P (one_more n) else Lost Syntax

  -- one symbol at a goal
  abbrev pub head : Goal Value → Symbol → List (Frame Value) → Context Value Triple → List Triple → Numbers → Turn Value Triple
  head (Object d) t fs env P n = Goes (object d t fs env P n)
  head (Inside d m) Close fs env P n = Goes (give env (blank env m) fs P n)
  head (Inside d m) t fs env P n = Goes (at_verb d (blank env m) t (ToClose m ∷ fs) env P n)
  head (Verbs d s) t fs env P n = Goes (at_verb d s t fs env P n)
  head (After d s p) Comma fs env P n = Goes (Heading (Object d) (ToObject d s p ∷ fs) env P n)
  head (After d s p) Semicolon fs env P n = Goes (Heading (Semis d s) fs env P n)
  head (After d s p) t fs env P n = leave t fs env P n
  head (Semis d s) Semicolon fs env P n = Goes (Heading (Semis d s) fs env P n)
  head (Semis d s) t fs env P n = if begins_verb t then Goes (at_verb d s t fs env P n) else leave t fs env P n
  head (Begun d) CloseList fs env P n = Goes (give env (rdf_value env (codes "nil")) fs P n)
  head (Begun d) t fs env P n = Goes (first_object d t fs env P n)
  head (Items d h l) CloseList fs env P n = Goes (give env (blank env h) fs (P ++ rest_is env l (rdf_value env (codes "nil")) ∷ []) n)
  head (Items d h l) t fs env P n = Goes (object d t (ToItem d h l (next_number n) ∷ fs) env P (one_more n))

  -- a symbol after a subject that may stand alone
  abbrev pub after_alone : Value → Symbol → Context Value Triple → List Triple → Numbers → Turn Value Triple
  after_alone v t env P n = if begins_verb t then Goes (at_verb 0 v t [] env P n) else leave t [] env P n

  -- a token after a string without a suffix
  abbrev pub go_on : Symbol → State Value Triple → Turn Value Triple
  go_on t (Heading g fs env P n) = head g t fs env P n
  go_on t (Closed v env P n) = after_alone v t env P n
  go_on t (Lost e) = Goes (Lost e)
  go_on t s = Goes (Lost Syntax)

  -- the subject of triples, or its fault
  abbrev pub begin : Context Value Triple → Result (Value × Numbers) Fault → State Value Triple
  begin env (Err e) = Lost e
  begin env (Ok p) = Heading (Verbs 0 p.0) [] env [] p.1

  -- the first symbol of triples
  abbrev pub opening : Context Value Triple → Numbers → Symbol → State Value Triple
  opening env n (ATerm w) = begin env (subject env n w)
  opening env n Open = if env.language.nodes then Opened env n else Lost Syntax
  opening env n OpenList = Heading (Begun 1) (ToVerbs ∷ []) env [] n
  opening env n t = Lost Syntax

  -- one symbol more
  unfoldable pub step : State Value Triple → Symbol → Turn Value Triple
  step (Opened env n) Close = Goes (Heading (Verbs 0 (blank env (next_number n))) [] env [] (one_more n))
  step (Opened env n) t = Goes (at_verb 1 (blank env (next_number n)) t (ToMore (next_number n) ∷ []) env [] (one_more n))
  step (Closed v env P n) t = after_alone v t env P n
  step (Heading g fs env P n) t = head g t fs env P n
  step (Held x fs env P n) (At y) = Goes (put fs env P n (tagged x y))
  step (Held x fs env P n) Carets = Goes (Typing x fs env P n)
  step (Held x fs env P n) t = go_on t (put fs env P n (simple x))
  step (Typing x fs env P n) t = Goes (put fs env P n (typed env x t))
  step (Lost e) t = Goes (Lost e)

  -- the fault of a text that ends there
  unfoldable pub ended : State Value Triple → Fault
  ended (Held x fs env P n) = unended (simple x)
  ended (Lost e) = e
  ended _ = Syntax

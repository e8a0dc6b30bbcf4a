-- A goal read at the front of a list of tokens, as a plain recursive program.
use Rattle.std.specs.Prelude.{ℕ, zero, suc, ◌+◌, ◌*◌, Bool, true, false, if◌then◌else◌}
use Rattle.std.specs.Prelude.{List, [], ◌∷◌, ◌++◌, length, codes, Result, Ok, Err}
use Rattle.gs_model.specs.Terms.{Term}
use Rattle.gs_blank.specs.Numbers.{Numbers, one_more}
use Rattle.gs_triples.specs.Symbols.{Symbol, ATerm, Text, At, Carets, A, Open, Close, OpenList, CloseList, Semicolon, Comma}
use Rattle.gs_triples.specs.Meanings.{Fault, Syntax, Context, blank, rdf_value, verb, word, simple, tagged, typed}
use Rattle.gs_triples.specs.Goals.{Goal, Object, Inside, Verbs, After, Semis, Begun, Items, may_open, may_open_node, next_number, first_is, rest_is}

infixl 10 ◌and_then◌
-- what comes next, where there is no fault
abbrev pub ◌and_then◌ : {A B : Type 0} → Result A Fault → (A → Result B Fault) → Result B Fault
(Err e) and_then f = Err e
(Ok x) and_then f = f x

-- what a goal gives, and the tokens after it
pub record Got (Value Triple : Type 0) : Type 0 where
  pub value : Value
  pub triples : List Triple
  pub numbers : Numbers
  pub rest : List Symbol

-- a term or 'a'
abbrev pub begins_verb : Symbol → Bool
begins_verb (ATerm w) = true
begins_verb A = true
begins_verb _ = false

-- steps that are enough for a goal on these tokens
abbrev pub enough : List Symbol → ℕ
enough ts = 2 * length ts + 2

module _ {Value Triple : Type 0} where
  -- with triples before
  abbrev pub with_front : List Triple → Result (Got Value Triple) Fault → Result (Got Value Triple) Fault
  with_front T (Err e) = Err e
  with_front T (Ok g) = Ok (record g { triples = T ++ g.triples })

  -- a literal's value with the tokens after it
  abbrev pub bare : Context Value Triple → Numbers → List Symbol → Result Term Fault → Result (Got Value Triple) Fault
  bare env n ts (Err e) = Err e
  bare env n ts (Ok t) = Ok (record { value = env.language.of_term t; triples = []; numbers = n; rest = ts })

  -- a string, and what may stand after it
  abbrev pub literal : Context Value Triple → Numbers → List ℕ → List Symbol → Result (Got Value Triple) Fault
  literal env n x (At y ∷ ts) = bare env n ts (tagged x y)
  literal env n x (Carets ∷ t ∷ ts) = bare env n ts (typed env x t)
  literal env n x (Carets ∷ []) = Err Syntax
  literal env n x ts = bare env n ts (simple x)

  -- the value of one token, with the tokens after it
  abbrev pub one_token : List Symbol → Result (Value × Numbers) Fault → Result (Got Value Triple) Fault
  one_token ts (Err e) = Err e
  one_token ts (Ok p) = Ok (record { value = p.0; triples = []; numbers = p.1; rest = ts })

  -- a ']' and the tokens after it
  abbrev pub close : Value → List Triple → Numbers → List Symbol → Result (Got Value Triple) Fault
  close s T n (Close ∷ ts) = Ok (record { value = s; triples = T; numbers = n; rest = ts })
  close s T n _ = Err Syntax

  -- a ']' after the properties of a blank node
  abbrev pub closes : Value → Got Value Triple → Result (Got Value Triple) Fault
  closes s g = close s g.triples g.numbers g.rest

  -- A goal at the front of a list of tokens, in at most so many steps.
  unfoldable pub parse : Context Value Triple → ℕ → Goal Value → Numbers → List Symbol → Result (Got Value Triple) Fault
  parse env zero g n ts = Err Syntax
  parse env (suc f) (Object d) n (ATerm w ∷ ts) = one_token ts (word env n w)
  parse env (suc f) (Object d) n (Text x ∷ ts) = literal env n x ts
  parse env (suc f) (Object d) n (Open ∷ ts) = if may_open_node env d then parse env f (Inside (suc d) (next_number n)) (one_more n) ts else Err Syntax
  parse env (suc f) (Object d) n (OpenList ∷ ts) = if may_open d then parse env f (Begun (suc d)) n ts else Err Syntax
  parse env (suc f) (Object d) n _ = Err Syntax
  parse env (suc f) (Inside d m) n (Close ∷ ts) = Ok (record { value = blank env m; triples = []; numbers = n; rest = ts })
  parse env (suc f) (Inside d m) n ts = parse env f (Verbs d (blank env m)) n ts and_then closes (blank env m)
  parse env (suc f) (Verbs d s) n [] = Err Syntax
  parse env (suc f) (Verbs d s) n (t ∷ ts) =
      verb env t and_then λ p.
      parse env f (Object d) n ts and_then λ o.
      with_front (o.triples ++ env.language.triple s p o.value ∷ []) (parse env f (After d s p) o.numbers o.rest)
  parse env (suc f) (After d s p) n (Comma ∷ ts) =
      parse env f (Object d) n ts and_then λ o.
      with_front (o.triples ++ env.language.triple s p o.value ∷ []) (parse env f (After d s p) o.numbers o.rest)
  parse env (suc f) (After d s p) n (Semicolon ∷ ts) = parse env f (Semis d s) n ts
  parse env (suc f) (After d s p) n ts = Ok (record { value = s; triples = []; numbers = n; rest = ts })
  parse env (suc f) (Semis d s) n [] = Ok (record { value = s; triples = []; numbers = n; rest = [] })
  parse env (suc f) (Semis d s) n (Semicolon ∷ ts) = parse env f (Semis d s) n ts
  parse env (suc f) (Semis d s) n (t ∷ ts) =
      if begins_verb t then parse env f (Verbs d s) n (t ∷ ts) else Ok (record { value = s; triples = []; numbers = n; rest = t ∷ ts })
  parse env (suc f) (Begun d) n (CloseList ∷ ts) =
      Ok (record { value = rdf_value env (codes "nil"); triples = []; numbers = n; rest = ts })
  parse env (suc f) (Begun d) n ts =
      if env.language.nodes
      then (parse env f (Object d) (one_more n) ts and_then λ o.
      with_front (o.triples ++ first_is env (next_number n) o.value ∷ [])
      (parse env f (Items d (next_number n) (next_number n)) o.numbers o.rest))
      else Err Syntax
  parse env (suc f) (Items d h m) n (CloseList ∷ ts) =
      Ok (record { value = blank env h; triples = rest_is env m (rdf_value env (codes "nil")) ∷ []; numbers = n; rest = ts })
  parse env (suc f) (Items d h m) n ts =
      parse env f (Object d) (one_more n) ts and_then λ o.
      with_front (o.triples ++ first_is env (next_number n) o.value ∷ rest_is env m (blank env (next_number n)) ∷ [])
      (parse env f (Items d h (next_number n)) o.numbers o.rest)

  -- a goal at the front of a list of tokens
  abbrev pub read : Context Value Triple → Goal Value → Numbers → List Symbol → Result (Got Value Triple) Fault
  read env g n ts = parse env (enough ts) g n ts

-- The machine and the program, on triples from their first symbol on.
use Rattle.std.proofs.Common.{◌≡◌, ℕ, Bool, true, false, cond, List, [], ◌∷◌, ◌++◌, refl, ◌∙◌, arith}
use Rattle.std.specs.Prelude.{Result, Ok, Err}
use Rattle.gs_blank.specs.Numbers.{Numbers, one_more}
use Rattle.gs_triples.specs.Symbols.{Symbol, ATerm, Open, Close, OpenList}
use Rattle.gs_triples.specs.Meanings.{Fault, Syntax, Context, subject, blank}
use Rattle.gs_triples.specs.Goals.{Verbs, Begun, next_number}
use Rattle.gs_triples.specs.Reading.{Got, ◌and_then◌, with_front, close, closes, begins_verb, enough, read}
use Rattle.gs_triples.specs.Program.{verbs_after, verbs_or_none, stands_alone, after_list, verbs_of, in_brackets, triples_at}
use Rattle.gs_triples.specs.States.{ToVerbs, ToMore, Opened, Closed, Heading, Lost, Goes}
use Rattle.gs_triples.specs.Machine.{leave, at_verb, begin, step, ended}
use Rattle.gs_triples.specs.Runs.{run, done_before, done_of, RunsAsProgram}
use Rattle.gs_triples.proofs.ForthLemmas.{with_value}
use Rattle.gs_triples.proofs.WalkLemmas.{read_from, lost_run, leaves, continue}
use Rattle.gs_triples.proofs.GoalLemmas.{walk}

module _ {Value Triple : Type 0} where
  -- after the last list of verbs and objects
  over_run : (env : Context Value Triple) (T : List Triple) (n : Numbers) (us : List Symbol) → leaves [] env T n us ≡ done_before env T n us
  unfolding leaves
  over_run env T n [] = refl
  over_run env T n (t ∷ us) = refl

  -- the verbs of a subject with triples before
  verbs_over : (env : Context Value Triple) (s : Value) (P : List Triple) (r : Result (Got Value Triple) Fault)
      → continue (Verbs 0 s) [] env P r ≡ (with_front P r and_then done_of env)
  verbs_over env s P (Err e) = refl
  verbs_over env s P (Ok r) = over_run env (P ++ r.triples) r.numbers r.rest

  -- and without
  verbs_bare : (env : Context Value Triple) (s : Value) (r : Result (Got Value Triple) Fault) → continue (Verbs 0 s) [] env [] r ≡ (r and_then done_of env)
  verbs_bare env s (Err e) = refl
  verbs_bare env s (Ok r) = over_run env r.triples r.numbers r.rest

  -- what the machine reads there
  heads_bare : (env : Context Value Triple) (s : Value) (n : Numbers) (ts : List Symbol)
      → run ts (Heading (Verbs 0 s) [] env [] n) ≡ (read env (Verbs 0 s) n ts and_then done_of env)
  heads_bare env s n ts = walk env (enough ts) (Verbs 0 s) n ts [] [] (omega arith) ∙ verbs_bare env s (read env (Verbs 0 s) n ts)

  -- and with triples before
  heads_with : (env : Context Value Triple) (s : Value) (P : List Triple) (n : Numbers) (ts : List Symbol)
      → run ts (Heading (Verbs 0 s) [] env P n) ≡ (with_front P (read env (Verbs 0 s) n ts) and_then done_of env)
  heads_with env s P n ts = walk env (enough ts) (Verbs 0 s) n ts [] P (omega arith) ∙ verbs_over env s P (read env (Verbs 0 s) n ts)

  -- a subject of one token
  word_run : (env : Context Value Triple) (ts : List Symbol) (q : Result (Value × Numbers) Fault) → run ts (begin env q) ≡ ((q and_then verbs_of env ts) and_then done_of env)
  word_run env ts (Err e) = lost_run e ts
  word_run env ts (Ok p) = heads_bare env p.0 p.1 ts

  -- a symbol after a subject that may stand alone: of a verb, or of something else
  closed_if : (env : Context Value Triple) (s : Value) (T : List Triple) (k : Numbers) (t : Symbol) (us : List Symbol) (b : Bool)
      → read_from t us (cond b (Goes (at_verb 0 s t [] env T k)) (leave t [] env T k))
      ≡ (cond b (verbs_after env (with_value s T k (t ∷ us))) (Ok (with_value s T k (t ∷ us))) and_then done_of env)
  unfolding run step leaves
  closed_if env s T k t us true = heads_with env s T k (t ∷ us)
  closed_if env s T k t us false = over_run env T k (t ∷ us)

  -- after a subject that may stand alone
  closed_run : (env : Context Value Triple) (s : Value) (T : List Triple) (k : Numbers) (us : List Symbol)
      → run us (Closed s env T k) ≡ (verbs_or_none env (with_value s T k us) and_then done_of env)
  unfolding run step ended
  closed_run env s T k [] = refl
  closed_run env s T k (t ∷ us) = closed_if env s T k t us (begins_verb t)

  -- a collection as a subject, where it may stand alone and where it may not
  list_if : (env : Context Value Triple) (g : Got Value Triple) (b : Bool)
      → run g.rest (cond b (Closed g.value env g.triples g.numbers) (Heading (Verbs 0 g.value) [] env g.triples g.numbers))
      ≡ (cond b (verbs_or_none env g) (verbs_after env g) and_then done_of env)
  list_if env g true = closed_run env g.value g.triples g.numbers g.rest
  list_if env g false = heads_with env g.value g.triples g.numbers g.rest

  -- a collection as a subject
  list_run : (env : Context Value Triple) (r : Result (Got Value Triple) Fault)
      → continue (Begun 1) (ToVerbs ∷ []) env [] r ≡ ((r and_then after_list env) and_then done_of env)
  list_run env (Err e) = refl
  list_run env (Ok g) = list_if env g (stands_alone env g.triples)

  -- the ']' of properties that open triples
  close_run : (env : Context Value Triple) (m : ℕ) (T : List Triple) (k : Numbers) (us : List Symbol)
      → leaves (ToMore m ∷ []) env T k us ≡ ((close (blank env m) T k us and_then verbs_or_none env) and_then done_of env)
  unfolding leaves
  close_run env m T k [] = refl
  close_run env m T k (Close ∷ us) = closed_run env (blank env m) T k us
  close_run env m T k (t ∷ us) = lost_run Syntax us

  -- the properties of a blank node that opens triples
  properties_run : (env : Context Value Triple) (m d : ℕ) (s : Value) (r : Result (Got Value Triple) Fault)
      → continue (Verbs d s) (ToMore m ∷ []) env [] r ≡ (((r and_then closes (blank env m)) and_then verbs_or_none env) and_then done_of env)
  properties_run env m d s (Err e) = refl
  properties_run env m d s (Ok g) = close_run env m g.triples g.numbers g.rest

  -- what the machine reads there
  heads_properties : (env : Context Value Triple) (n : Numbers) (ts : List Symbol)
      → run ts (Heading (Verbs 1 (blank env (next_number n))) (ToMore (next_number n) ∷ []) env [] (one_more n))
      ≡ (((read env (Verbs 1 (blank env (next_number n))) (one_more n) ts and_then closes (blank env (next_number n))) and_then verbs_or_none env) and_then done_of env)
  heads_properties env n ts =
      walk env (enough ts) (Verbs 1 (blank env (next_number n))) (one_more n) ts (ToMore (next_number n) ∷ []) [] (omega arith)
      ∙ properties_run env (next_number n) 1 (blank env (next_number n)) (read env (Verbs 1 (blank env (next_number n))) (one_more n) ts)

  -- after a '[' that opens triples
  opened_run : (env : Context Value Triple) (n : Numbers) (ts : List Symbol) → run ts (Opened env n) ≡ (in_brackets env n ts and_then done_of env)
  unfolding run step ended
  opened_run env n [] = heads_properties env n []
  opened_run env n (Close ∷ ts) = heads_bare env (blank env (next_number n)) (one_more n) ts
  opened_run env n (t ∷ ts) = heads_properties env n (t ∷ ts)

  -- a '[', where one may stand and where none may
  open_if : (env : Context Value Triple) (n : Numbers) (ts : List Symbol) (b : Bool)
      → run ts (cond b (Opened env n) (Lost Syntax)) ≡ (cond b (in_brackets env n ts) (Err Syntax) and_then done_of env)
  open_if env n ts true = opened_run env n ts
  open_if env n ts false = lost_run Syntax ts

  -- the machine reads what the program reads
  pub opening_run : (env : Context Value Triple) → RunsAsProgram env
  unfolding triples_at
  opening_run env n (ATerm w) ts = word_run env ts (subject env n w)
  opening_run env n Open ts = open_if env n ts env.language.nodes
  opening_run env n OpenList ts = walk env (enough ts) (Begun 1) n ts (ToVerbs ∷ []) [] (omega arith) ∙ list_run env (read env (Begun 1) n ts)
  opening_run env n t ts = lost_run Syntax ts

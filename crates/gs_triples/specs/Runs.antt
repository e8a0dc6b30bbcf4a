-- What the machine reads of a list of tokens, and the program beside it.
use Rattle.std.specs.Prelude.{◌≡◌, List, [], ◌∷◌, Result, Ok, Err}
use Rattle.gs_blank.specs.Numbers.{Numbers}
use Rattle.gs_triples.specs.Symbols.{Symbol}
use Rattle.gs_triples.specs.Meanings.{Fault, Syntax, Context}
use Rattle.gs_triples.specs.Reading.{Got, ◌and_then◌}
use Rattle.gs_triples.specs.Program.{triples_at}
use Rattle.gs_triples.specs.States.{State, Turn, Goes, Ends}
use Rattle.gs_triples.specs.Machine.{opening, step, ended}

-- triples, with their context, the numbers after them and the tokens from the first that is none of theirs
pub record Done (Value Triple : Type 0) : Type 0 where
  pub context : Context Value Triple
  pub triples : List Triple
  pub numbers : Numbers
  pub rest : List Symbol

module _ {Value Triple : Type 0} where
  -- what a turn leads to on these tokens, of which the first made it
  abbrev pub taken : (State Value Triple → Result (Done Value Triple) Fault) → List Symbol → Turn Value Triple → Result (Done Value Triple) Fault
  taken again ts (Goes s) = again s
  taken again ts (Ends env P n) = Ok (record { context = env; triples = P; numbers = n; rest = ts })

  -- what the machine reads of a list of tokens, which may not end within triples
  unfoldable pub run : List Symbol → State Value Triple → Result (Done Value Triple) Fault
  run [] s = Err (ended s)
  run (t ∷ ts) s = taken (run ts) (t ∷ ts) (step s t)

  -- triples before these tokens, of which there is one
  abbrev pub done_before : Context Value Triple → List Triple → Numbers → List Symbol → Result (Done Value Triple) Fault
  done_before env T n [] = Err Syntax
  done_before env T n (t ∷ ts) = Ok (record { context = env; triples = T; numbers = n; rest = t ∷ ts })

  -- what the program reads, where a token stands after it
  abbrev pub done_of : Context Value Triple → Got Value Triple → Result (Done Value Triple) Fault
  done_of env g = done_before env g.triples g.numbers g.rest

  -- and its fault, where it has one
  abbrev pub with_next : Context Value Triple → Result (Got Value Triple) Fault → Result (Done Value Triple) Fault
  with_next env r = r and_then done_of env

  -- the machine reads of some tokens what the program reads, where a token stands after it, and else has its fault
  abbrev pub RunsAsProgram : Context Value Triple → Type 0
  RunsAsProgram env =
      (n : Numbers) (first : Symbol) (others : List Symbol)
      → run others (opening env n first) ≡ with_next env (triples_at env n (first ∷ others))

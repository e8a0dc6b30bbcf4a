-- Triples read at the front of a list of tokens, as a plain program.
use Rattle.std.specs.Prelude.{◌≡◌, ◌++◌, Bool, true, false, ◌&&◌, if◌then◌else◌, List, [], ◌∷◌, Result, Ok, Err}
use Rattle.gs_blank.specs.Numbers.{Numbers, one_more}
use Rattle.gs_triples.specs.Symbols.{Symbol, ATerm, Open, Close, OpenList}
use Rattle.gs_triples.specs.Meanings.{Fault, Syntax, Context, subject, blank}
use Rattle.gs_triples.specs.Goals.{Verbs, Begun, next_number}
use Rattle.gs_triples.specs.Triples.{AreTriples, EndsVerbs}
use Rattle.gs_triples.specs.Reading.{Got, ◌and_then◌, with_front, closes, begins_verb, read}

-- a verb stands next
abbrev pub starts_verb : List Symbol → Bool
starts_verb [] = false
starts_verb (t ∷ ts) = begins_verb t

-- there is a triple
abbrev pub has_triple : {Triple : Type 0} → List Triple → Bool
has_triple [] = false
has_triple (t ∷ T) = true

module _ {Value Triple : Type 0} where
  -- verbs after a subject that has triples of its own
  abbrev pub verbs_after : Context Value Triple → Got Value Triple → Result (Got Value Triple) Fault
  verbs_after env g = with_front g.triples (read env (Verbs 0 g.value) g.numbers g.rest)

  -- after a subject that may stand alone: verbs, or none
  abbrev pub verbs_or_none : Context Value Triple → Got Value Triple → Result (Got Value Triple) Fault
  verbs_or_none env g = if starts_verb g.rest then verbs_after env g else Ok g

  -- a collection of these triples may stand alone
  abbrev pub stands_alone : Context Value Triple → List Triple → Bool
  stands_alone env T = env.language.lone_lists && has_triple T

  -- after a collection that is a subject
  abbrev pub after_list : Context Value Triple → Got Value Triple → Result (Got Value Triple) Fault
  after_list env g = if stands_alone env g.triples then verbs_or_none env g else verbs_after env g

  -- the verbs and objects of a subject
  abbrev pub verbs_of : Context Value Triple → List Symbol → Value × Numbers → Result (Got Value Triple) Fault
  verbs_of env ts p = read env (Verbs 0 p.0) p.1 ts

  -- after a '[' that opens the triples
  abbrev pub in_brackets : Context Value Triple → Numbers → List Symbol → Result (Got Value Triple) Fault
  in_brackets env n (Close ∷ ts) = read env (Verbs 0 (blank env (next_number n))) (one_more n) ts
  in_brackets env n ts =
      read env (Verbs 1 (blank env (next_number n))) (one_more n) ts and_then closes (blank env (next_number n)) and_then verbs_or_none env

  -- [6] triples
  unfoldable pub triples_at : Context Value Triple → Numbers → List Symbol → Result (Got Value Triple) Fault
  triples_at env n (ATerm w ∷ ts) = subject env n w and_then verbs_of env ts
  triples_at env n (Open ∷ ts) = if env.language.nodes then in_brackets env n ts else Err Syntax
  triples_at env n (OpenList ∷ ts) = read env (Begun 1) n ts and_then after_list env
  triples_at env n _ = Err Syntax

  -- the program reads these triples at the front of the tokens, up to this rest
  abbrev pub ReadsTriples : Context Value Triple → Numbers → List Symbol → List Triple → Numbers → List Symbol → Type 0
  ReadsTriples env n ts T k rest =
      (v : Value) × (triples_at env n ts ≡ Ok (record { value = v; triples = T; numbers = k; rest = rest }))

  -- what was read is what the rules say of the tokens before its rest
  abbrev pub CoversTriples : Context Value Triple → Numbers → List Symbol → Result (Got Value Triple) Fault → Type 0
  CoversTriples env n ts (Err e) = Unit {0}
  CoversTriples env n ts (Ok r) = (front : List Symbol) × (ts ≡ front ++ r.rest) × AreTriples env n front r.triples r.numbers

  -- whatever the rules say of a prefix of some tokens, the program reads there, where its triples may end
  abbrev pub ReadsByRules : Context Value Triple → Type 0
  ReadsByRules env =
      (n k : Numbers) (xs rest : List Symbol) (T : List Triple)
      → AreTriples env n xs T k → EndsVerbs rest → ReadsTriples env n (xs ++ rest) T k rest

  -- whatever the program reads of some tokens, the rules say of a prefix of them
  abbrev pub CoversReadings : Context Value Triple → Type 0
  CoversReadings env = (n : Numbers) (ts : List Symbol) → CoversTriples env n ts (triples_at env n ts)

-- The reader of Turtle as a machine that takes symbol by symbol. The triples of a statement wait for its '.'.
use Rattle.std.specs.Prelude.{ℕ, Bool, true, false, if◌then◌else◌, List, [], codes, bytes_eq, Option, Some, None}
use Rattle.gs_model.specs.Triples.{RdfTriple}
use Rattle.gs_machine.specs.Machines.{Machine}
use Rattle.gs_blank.specs.Numbers.{Numbers}
use Rattle.gs_body.specs.Bodies.{Statement, Ending, Whole, Faulty}
use Rattle.gs_model.specs.Terms.{Term}
use Rattle.gs_triples.specs.Symbols.{Reference, Namespace, Symbol, ATerm, At, Dot, PrefixWord, BaseWord}
use Rattle.gs_triples.specs.Meanings.{Syntax}
use Rattle.gs_triples.specs.States as triples
use Rattle.gs_triples.specs.States.{Lost, Goes, Ends}
use Rattle.gs_triples.specs.Machine as triples_machine
use Rattle.gs_triples.specs.Machine.{opening}
use Rattle.gs_document.specs.Contexts.{TurtleContext}
use Rattle.gs_triples.specs.Directives.{with_prefix, with_base}
use Rattle.gs_document.specs.Documents.{stated}
use Rattle.gs_document.specs.States.{DocumentState, Between, InPrefix, InPrefixIri, InBase, AtDot, Within, lost, Transition, states_nothing}

-- the context of a directive, with a dot to come, or ended there
abbrev pub set : Bool → ℕ → Numbers → Option TurtleContext → Transition
set dot e n None = states_nothing (lost Syntax)
set true e n (Some env) = states_nothing (AtDot env n)
set false e n (Some env) = (Between env n, stated e [])

-- the symbol after triples, which is to be their dot
abbrev pub conclude : Symbol → TurtleContext → List RdfTriple → Numbers → Transition
conclude (Dot e) env P n = (Between env n, stated e P)
conclude t env P n = states_nothing (lost Syntax)

-- a symbol that triples take, or the one after them
abbrev pub over : Symbol → triples.Turn Term RdfTriple → Transition
over t (Goes s) = states_nothing (Within s)
over t (Ends env P n) = conclude t env P n

-- one symbol more
unfoldable pub step : DocumentState → Symbol → Transition
step (Between env n) (At x) =
    states_nothing (if bytes_eq x (codes "@prefix") then InPrefix true env n else if bytes_eq x (codes "@base") then InBase true env n else lost Syntax)
step (Between env n) PrefixWord = states_nothing (InPrefix false env n)
step (Between env n) BaseWord = states_nothing (InBase false env n)
step (Between env n) t = states_nothing (Within (opening env n t))
step (InPrefix dot env n) (ATerm (Namespace p)) = states_nothing (InPrefixIri dot p env n)
step (InPrefix dot env n) t = states_nothing (lost Syntax)
step (InPrefixIri dot p env n) (ATerm (Reference i e)) = set dot e n (with_prefix env p i)
step (InPrefixIri dot p env n) t = states_nothing (lost Syntax)
step (InBase dot env n) (ATerm (Reference i e)) = set dot e n (with_base env i)
step (InBase dot env n) t = states_nothing (lost Syntax)
step (AtDot env n) (Dot e) = (Between env n, stated e [])
step (AtDot env n) t = states_nothing (lost Syntax)
step (Within s) t = over t (triples_machine.step s t)

-- how a text ends there
unfoldable pub ended : DocumentState → Ending
ended (Between env n) = Whole
ended (Within s) = Faulty (triples_machine.ended s)
ended _ = Faulty Syntax

-- the reader: symbols in, statements out, and how the text ends
abbrev pub turtle : Machine DocumentState Symbol Statement Ending
turtle = record { step = step; ended = λ s. ([], ended s) }

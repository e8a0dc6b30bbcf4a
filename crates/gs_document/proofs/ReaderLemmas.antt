-- The machine and the program, directive by directive, on the triples of a statement, and on whole documents.
use Rattle.std.proofs.Common.{◌≡◌, ℕ, zero, suc, ◌≤◌, Bool, true, false, cond, List, [], ◌∷◌, length, refl, sym, ap, ◌∙◌, arith, length-append}
use Rattle.std.specs.Prelude.{Result, Ok, Err, Option, Some, None, codes, bytes_eq}
use Rattle.std.proofs.lemmas.List.{length-map}
use Rattle.gs_model.specs.Terms.{Term}
use Rattle.gs_model.specs.Triples.{RdfTriple}
use Rattle.gs_lex.specs.Tokens.{Lexeme}
use Rattle.gs_machine.specs.Machines.{joined, rest}
use Rattle.gs_blank.specs.Numbers.{Numbers, no_numbers}
use Rattle.gs_body.specs.Bodies.{Meaning, Faulty}
use Rattle.gs_triples.specs.Symbols.{Reference, Namespace, Symbol, ATerm, At, Dot, PrefixWord, BaseWord, symbol_of, symbols_of}
use Rattle.gs_triples.specs.Meanings.{Fault, Syntax}
use Rattle.gs_triples.specs.Reading.{Got, ◌and_then◌}
use Rattle.gs_triples.specs.Program.{triples_at, CoversTriples}
use Rattle.gs_triples.specs.States as triples
use Rattle.gs_triples.specs.States.{Lost, Goes, Ends}
use Rattle.gs_triples.specs.Machine as triples_machine
use Rattle.gs_triples.specs.Machine.{opening}
use Rattle.gs_triples.specs.Runs.{Done, taken, run, done_of}
use Rattle.gs_triples.proofs.TriplesLemmas.{triples_covered}
use Rattle.gs_triples.proofs.MachineLemmas.{opening_run}
use Rattle.gs_document.specs.Contexts.{TurtleContext}
use Rattle.gs_triples.specs.Directives.{with_prefix, with_base}
use Rattle.gs_document.specs.Documents.{stated, start}
use Rattle.gs_document.specs.Program.{read_statement as statement_by}
use Rattle.gs_document.specs.Program.{dotted, prefix_at, base_at, statement_at, followed, statements_at, document}
use Rattle.gs_document.specs.States.{Transition, Between, InPrefix, InPrefixIri, InBase, AtDot, Within, lost, states_nothing}
use Rattle.gs_document.specs.Machine.{set, conclude, over, step, ended, turtle}
use Rattle.gs_document.proofs.DocumentLemmas.{statements_nil}

-- what is reported of the rest, from a transition
abbrev pub reported : Transition → List Symbol → Meaning
reported u ts = joined u.1 (rest turtle u.0 ts)

pub lost_rest : (e : Fault) (ts : List Symbol) → rest turtle (lost e) ts ≡ ([], Faulty e)
unfolding rest step ended triples_machine.step triples_machine.ended
lost_rest e [] = refl
lost_rest e (t ∷ ts) = lost_rest e ts

-- what is reported of shorter texts is known
abbrev Known : ℕ → Type 0
Known f = (env : TurtleContext) (n : Numbers) (us : List Symbol) → length us ≤ f → rest turtle (Between env n) us ≡ statements_at f env n us

-- what is reported after triples
abbrev reported_after : TurtleContext → List RdfTriple → Numbers → List Symbol → Meaning
reported_after env T n [] = ([], Faulty Syntax)
reported_after env T n (t ∷ ts) = reported (conclude t env T n) ts

-- and where they have a fault
abbrev concluded : Result (Done Term RdfTriple) Fault → Meaning
concluded (Err e) = ([], Faulty e)
concluded (Ok d) = reported_after d.context d.triples d.numbers d.rest

-- within triples the machine reports what theirs reads
within_turn : (t : Symbol) (ts : List Symbol) (u : triples.Turn Term RdfTriple) → ((s : triples.State Term RdfTriple) → rest turtle (Within s) ts ≡ concluded (run ts s))
    → reported (over t u) ts ≡ concluded (taken (run ts) (t ∷ ts) u)
within_turn t ts (Goes s) again = again s
within_turn t ts (Ends env T n) again = refl

within : (ts : List Symbol) (s : triples.State Term RdfTriple) → rest turtle (Within s) ts ≡ concluded (run ts s)
unfolding rest run step ended
within [] s = refl
within (t ∷ ts) s = within_turn t ts (triples_machine.step s t) (within ts)

-- a statement of triples
dot_reported : (f : ℕ) (env : TurtleContext) (v : Term) (T : List RdfTriple) (n : Numbers) (us : List Symbol) → Known f → length us ≤ suc f
    → concluded (done_of env (record { value = v; triples = T; numbers = n; rest = us })) ≡ followed (statements_at f) (dotted env (record { value = v; triples = T; numbers = n; rest = us }))
dot_reported f env v T n [] again h = refl
dot_reported f env v T n (Dot e ∷ us) again h = ap (joined (stated e T)) (again env n us (omega arith))
dot_reported f env v T n (t ∷ us) again h = lost_rest Syntax us

triples_reported : (f : ℕ) (env : TurtleContext) (n : Numbers) (ts : List Symbol) → Known f → length ts ≤ suc f → (r : Result (Got Term RdfTriple) Fault) → CoversTriples env n ts r
    → concluded (r and_then done_of env) ≡ followed (statements_at f) (r and_then dotted env)
triples_reported f env n ts again h (Err e) c = refl
triples_reported f env n ts again h (Ok g) (xs, e, c) = dot_reported f env g.value g.triples g.numbers g.rest again (omega (arith, ap length e, length-append xs g.rest))

triples_rest : (f : ℕ) (env : TurtleContext) (n : Numbers) (t : Symbol) (ts : List Symbol) → Known f → length ts ≤ f
    → rest turtle (Within (opening env n t)) ts ≡ followed (statements_at f) (triples_at env n (t ∷ ts) and_then dotted env)
triples_rest f env n t ts again h =
    within ts (opening env n t) ∙ ap concluded (opening_run env n t ts)
    ∙ triples_reported f env n (t ∷ ts) again (omega arith) (triples_at env n (t ∷ ts)) (triples_covered env n (t ∷ ts))

-- the transition by a directive's IRI, where the text ends, where a dot stands, where something else does, and where it ends there
set_ends : (k : ℕ) (n : Numbers) (q : Option TurtleContext) → reported (set true k n q) [] ≡ ([], Faulty Syntax)
unfolding rest ended triples_machine.ended
set_ends k n None = refl
set_ends k n (Some env) = refl

set_dot : (f k : ℕ) (n : Numbers) (e : ℕ) (us : List Symbol) → Known f → length us ≤ f → (q : Option TurtleContext)
    → reported (set true k n q) (Dot e ∷ us) ≡ followed (statements_at f) (statement_by (stated e []) n us q)
unfolding rest step triples_machine.step
set_dot f k n e us again h None = lost_rest Syntax us
set_dot f k n e us again h (Some env) = ap (joined (stated e [])) (again env n us h)

set_other : (k : ℕ) (n : Numbers) (t : Symbol) (us : List Symbol) (q : Option TurtleContext) → ((env : TurtleContext) → step (AtDot env n) t ≡ states_nothing (lost Syntax))
    → reported (set true k n q) (t ∷ us) ≡ ([], Faulty Syntax)
unfolding rest
set_other k n t us None s = lost_rest Syntax (t ∷ us)
set_other k n t us (Some env) s = ap (λ z. reported z us) (s env) ∙ lost_rest Syntax us

set_word : (f e : ℕ) (n : Numbers) (us : List Symbol) → Known f → length us ≤ f → (q : Option TurtleContext)
    → reported (set false e n q) us ≡ followed (statements_at f) (statement_by (stated e []) n us q)
set_word f e n us again h None = lost_rest Syntax us
set_word f e n us again h (Some env) = ap (joined (stated e [])) (again env n us h)

iri_dot : (f : ℕ) (p : List ℕ) (env : TurtleContext) (n : Numbers) (ts : List Symbol) → Known f → length ts ≤ f
    → rest turtle (InPrefixIri true p env n) ts ≡ followed (statements_at f) (prefix_at env n (ATerm (Namespace p) ∷ ts))
unfolding rest step ended triples_machine.step triples_machine.ended
iri_dot f p env n [] again h = refl
iri_dot f p env n (ATerm (Reference i k) ∷ []) again h = set_ends k n (with_prefix env p i)
iri_dot f p env n (ATerm (Reference i k) ∷ Dot e ∷ us) again h = set_dot f k n e us again (omega arith) (with_prefix env p i)
iri_dot f p env n (ATerm (Reference i k) ∷ t ∷ us) again h = set_other k n t us (with_prefix env p i) (λ c. refl)
iri_dot f p env n (ATerm w ∷ ts) again h = lost_rest Syntax ts
iri_dot f p env n (t ∷ ts) again h = lost_rest Syntax ts

prefix_dot : (f : ℕ) (env : TurtleContext) (n : Numbers) (ts : List Symbol) → Known f → length ts ≤ f
    → rest turtle (InPrefix true env n) ts ≡ followed (statements_at f) (prefix_at env n ts)
unfolding rest step ended triples_machine.step triples_machine.ended
prefix_dot f env n [] again h = refl
prefix_dot f env n (ATerm (Namespace p) ∷ ts) again h = iri_dot f p env n ts again (omega arith)
prefix_dot f env n (ATerm w ∷ ts) again h = lost_rest Syntax ts
prefix_dot f env n (t ∷ ts) again h = lost_rest Syntax ts

base_dot : (f : ℕ) (env : TurtleContext) (n : Numbers) (ts : List Symbol) → Known f → length ts ≤ f
    → rest turtle (InBase true env n) ts ≡ followed (statements_at f) (base_at env n ts)
unfolding rest step ended triples_machine.step triples_machine.ended
base_dot f env n [] again h = refl
base_dot f env n (ATerm (Reference i k) ∷ []) again h = set_ends k n (with_base env i)
base_dot f env n (ATerm (Reference i k) ∷ Dot e ∷ us) again h = set_dot f k n e us again (omega arith) (with_base env i)
base_dot f env n (ATerm (Reference i k) ∷ t ∷ us) again h = set_other k n t us (with_base env i) (λ c. refl)
base_dot f env n (ATerm w ∷ ts) again h = lost_rest Syntax ts
base_dot f env n (t ∷ ts) again h = lost_rest Syntax ts

-- an at-word
at_rest : (f : ℕ) (env : TurtleContext) (n : Numbers) (ts : List Symbol) → Known f → length ts ≤ f → (b c : Bool)
    → rest turtle (cond b (InPrefix true env n) (cond c (InBase true env n) (lost Syntax))) ts
    ≡ followed (statements_at f) (cond b (prefix_at env n ts) (cond c (base_at env n ts) (Err Syntax)))
at_rest f env n ts again h true c = prefix_dot f env n ts again h
at_rest f env n ts again h false true = base_dot f env n ts again h
at_rest f env n ts again h false false = lost_rest Syntax ts

iri_word : (f : ℕ) (p : List ℕ) (env : TurtleContext) (n : Numbers) (ts : List Symbol) → Known f → length ts ≤ f
    → rest turtle (InPrefixIri false p env n) ts ≡ followed (statements_at f) (statement_at env n (PrefixWord ∷ ATerm (Namespace p) ∷ ts))
unfolding rest step ended statement_at triples_machine.step triples_machine.ended
iri_word f p env n [] again h = refl
iri_word f p env n (ATerm (Reference i e) ∷ ts) again h = set_word f e n ts again (omega arith) (with_prefix env p i)
iri_word f p env n (ATerm w ∷ ts) again h = lost_rest Syntax ts
iri_word f p env n (t ∷ ts) again h = lost_rest Syntax ts

prefix_word : (f : ℕ) (env : TurtleContext) (n : Numbers) (ts : List Symbol) → Known f → length ts ≤ f
    → rest turtle (InPrefix false env n) ts ≡ followed (statements_at f) (statement_at env n (PrefixWord ∷ ts))
unfolding rest step ended statement_at triples_machine.step triples_machine.ended
prefix_word f env n [] again h = refl
prefix_word f env n (ATerm (Namespace p) ∷ ts) again h = iri_word f p env n ts again (omega arith)
prefix_word f env n (ATerm w ∷ ts) again h = lost_rest Syntax ts
prefix_word f env n (t ∷ ts) again h = lost_rest Syntax ts

base_word : (f : ℕ) (env : TurtleContext) (n : Numbers) (ts : List Symbol) → Known f → length ts ≤ f
    → rest turtle (InBase false env n) ts ≡ followed (statements_at f) (statement_at env n (BaseWord ∷ ts))
unfolding rest step ended statement_at triples_machine.step triples_machine.ended
base_word f env n [] again h = refl
base_word f env n (ATerm (Reference i e) ∷ ts) again h = set_word f e n ts again (omega arith) (with_base env i)
base_word f env n (ATerm w ∷ ts) again h = lost_rest Syntax ts
base_word f env n (t ∷ ts) again h = lost_rest Syntax ts

-- between two statements
pub between : (f : ℕ) (env : TurtleContext) (n : Numbers) (ts : List Symbol) → length ts ≤ f → rest turtle (Between env n) ts ≡ statements_at f env n ts
unfolding rest step ended statements_at statement_at
between f env n [] h = sym (statements_nil f env n)
between zero env n (t ∷ ts) h = absurd (omega arith)
between (suc f) env n (At x ∷ ts) h = at_rest f env n ts (between f) (omega arith) (bytes_eq x (codes "@prefix")) (bytes_eq x (codes "@base"))
between (suc f) env n (PrefixWord ∷ ts) h = prefix_word f env n ts (between f) (omega arith)
between (suc f) env n (BaseWord ∷ ts) h = base_word f env n ts (between f) (omega arith)
between (suc f) env n (ATerm w ∷ ts) h = triples_rest f env n (ATerm w) ts (between f) (omega arith)
between (suc f) env n (t ∷ ts) h = triples_rest f env n t ts (between f) (omega arith)

-- the machine reports of a document what the program says
pub machine_reports : (b : List ℕ) (r : ℕ) (ts : List Lexeme) → rest turtle (Between (start b r) no_numbers) (symbols_of ts) ≡ document b r ts
machine_reports b r ts = between (length ts) (start b r) no_numbers (symbols_of ts) (omega (arith, length-map ts symbol_of))

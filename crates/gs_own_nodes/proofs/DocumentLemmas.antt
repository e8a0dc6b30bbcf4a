-- Turtle: each statement of a document has terms of the request that is read, up to the first fault.
use Rattle.std.proofs.Common.{◌≡◌, ℕ, zero, suc, List, [], ◌∷◌, true, false, sym, subst}
use Rattle.std.specs.Prelude.{Option, Some, Result, Ok, Err}
use Rattle.std.specs.Option.{IfSome}
use Rattle.std.specs.List.{All}
use Rattle.std.proofs.lemmas.List.Elements.{All-nil, All-append}
use Rattle.std.proofs.lemmas.List.Concat.{flat_map-append}
use Rattle.gs_model.specs.Terms.{Term}
use Rattle.gs_model.specs.Triples.{RdfTriple}
use Rattle.gs_lex.specs.Tokens as lexer
use Rattle.gs_lex.specs.Cuts.{cut_of_text}
use Rattle.gs_blank.specs.Numbers.{Numbers, no_numbers}
use Rattle.gs_body.specs.Bodies.{Meaning, Statement, Whole, Faulty, all_stated}
use Rattle.gs_triples.specs.Symbols.{Symbol, symbols_of}
use Rattle.gs_triples.specs.Languages.{Language}
use Rattle.gs_triples.specs.Meanings.{Fault}
use Rattle.gs_triples.specs.Directives.{with_prefix, with_base}
use Rattle.gs_document.specs.Contexts.{TurtleContext}
use Rattle.gs_document.specs.Documents as statement
use Rattle.gs_document.specs.Documents.{IsStatement, start}
use Rattle.gs_document.specs.Program.{ReadStatement, statement_at, followed, statements_at, document}
use Rattle.gs_document.proofs.DocumentLemmas.{CoveredStatement, statement_covered}
use Rattle.gs_turtle.specs.Documents.{ended_by, meaning_by}
use Rattle.gs_own_nodes.specs.Own.{NamesOwn, HasOwn}
use Rattle.gs_own_nodes.proofs.DirectiveLemmas.{prefix_keeps, base_keeps}
use Rattle.gs_own_nodes.proofs.TripleLemmas.{IsHonest, triples_own, terms_honest}

-- a request and a language under which a document's terms are those of request r
abbrev IsFor : ℕ → ℕ → Language Term RdfTriple → Type 0
IsFor r q l = IsHonest l q (NamesOwn r) (HasOwn r)

-- what a statement leaves and says
abbrev StatementOwn : ℕ → TurtleContext → List Statement → Type 0
StatementOwn r next S = IsFor r next.request next.language × All (HasOwn r) (all_stated S)

-- a directive says no triple
directed : (r : ℕ) (m : Option TurtleContext) (next : TurtleContext) (end : ℕ) → IfSome m (λ e. IsFor r e.request e.language) → m ≡ Some next
    → StatementOwn r next (statement.stated end [])
directed r m next end h q = (subst (λ z. IfSome z (λ e. IsFor r e.request e.language)) q h, All-nil (HasOwn r))

-- a statement
statement_own : (r : ℕ) {env next : TurtleContext} {n k : Numbers} {xs : List Symbol} {S : List Statement}
    → IsFor r env.request env.language → IsStatement env n xs S next k → StatementOwn r next S
statement_own r {env = env} {next = next} h (statement.prefix x p i e end a q) = directed r (with_prefix env p i) next end (prefix_keeps (IsFor r) env h p i) q
statement_own r {env = env} {next = next} h (statement.base x i e end a q) = directed r (with_base env i) next end (base_keeps (IsFor r) env h i) q
statement_own r {env = env} {next = next} h (statement.prefix_word p i end q) = directed r (with_prefix env p i) next end (prefix_keeps (IsFor r) env h p i) q
statement_own r {env = env} {next = next} h (statement.base_word i end q) = directed r (with_base env i) next end (base_keeps (IsFor r) env h i) q
statement_own r {env = env} h (statement.triples {T = T} end c) = (h, All-append (HasOwn r) T [] (triples_own env (NamesOwn r) (HasOwn r) h c) (All-nil (HasOwn r)))

-- a statement and what follows it
followed_own : (r f : ℕ) (env : TurtleContext) (n : Numbers) (ts : List Symbol) → IsFor r env.request env.language
    → ((e : TurtleContext) (k : Numbers) (us : List Symbol) → IsFor r e.request e.language → All (HasOwn r) (all_stated (statements_at f e k us).0))
    → (q : Result ReadStatement Fault) → CoveredStatement env n ts q → All (HasOwn r) (all_stated (followed (statements_at f) q).0)
followed_own r f env n ts h again (Err e) c = All-nil (HasOwn r)
followed_own r f env n ts h again (Ok s) (front, e, c) =
    let first = statement_own r h c in
    let others : List Statement = (statements_at f s.context s.numbers s.rest).0 in
    subst (All (HasOwn r)) (sym (flat_map-append (λ (x : Statement). x.triples) s.stated others))
    (All-append (HasOwn r) (all_stated s.stated) (all_stated others) first.1 (again s.context s.numbers s.rest first.0))

-- all statements before a fault
statements_own : (r f : ℕ) (env : TurtleContext) (n : Numbers) (ts : List Symbol) → IsFor r env.request env.language
    → All (HasOwn r) (all_stated (statements_at f env n ts).0)
unfolding statements_at
statements_own r zero env n [] h = All-nil (HasOwn r)
statements_own r (suc f) env n [] h = All-nil (HasOwn r)
statements_own r zero env n (t ∷ ts) h = All-nil (HasOwn r)
statements_own r (suc f) env n (t ∷ ts) h =
    followed_own r f env n (t ∷ ts) h (statements_own r f) (statement_at env n (t ∷ ts)) (statement_covered env n (t ∷ ts))

-- where no token begins, nothing more is said
ended_own : (r : ℕ) (e : lexer.CutEnd) (d : Meaning) → All (HasOwn r) (all_stated d.0) → All (HasOwn r) (all_stated (ended_by e d).0)
ended_own r lexer.AtEnd d own = own
ended_own r (lexer.AtFault n) (S, Whole) own = own
ended_own r (lexer.AtFault n) (S, Faulty f) own = own

-- a document of Turtle
pub document_own : (base : List ℕ) (r : ℕ) (x : List ℕ) → All (HasOwn r) (all_stated (meaning_by base r x).0)
unfolding meaning_by
document_own base r x =
    let c = cut_of_text false x in
    ended_own r c.1 (document base r c.0) (statements_own r _ (start base r) no_numbers (symbols_of c.0) (terms_honest true false r))

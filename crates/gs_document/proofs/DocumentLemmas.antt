-- Statements and documents: what the program reads, the rules cover, and the other way round.
use Rattle.std.proofs.Common.{◌≡◌, ℕ, zero, suc, ◌<◌, ◌≤◌, Bool, true, false, cond, List, [], ◌∷◌, ◌++◌, length, refl, sym, ap, ◌∙◌, append_assoc, subst, arith, length-append}
use Rattle.std.specs.Prelude.{Result, Ok, Err, Option, Some, None, codes, bytes_eq}
use Rattle.std.proofs.lemmas.Slice.Eq.{bytes_eq-Decides}
use Rattle.std.proofs.lemmas.List.{length-map}
use Rattle.gs_model.specs.Triples.{RdfTriple}
use Rattle.gs_lex.specs.Tokens.{Lexeme}
use Rattle.gs_blank.specs.Numbers.{Numbers, no_numbers}
use Rattle.gs_body.specs.Bodies.{Meaning, Statement, Whole, Faulty}
use Rattle.gs_model.specs.Terms.{Term}
use Rattle.gs_triples.specs.Symbols.{Reference, Namespace, Symbol, ATerm, At, Dot, PrefixWord, BaseWord, symbol_of, symbols_of}
use Rattle.gs_triples.specs.Meanings.{Fault, Syntax}
use Rattle.gs_triples.specs.Triples as triples
use Rattle.gs_triples.specs.Triples.{AreTriples}
use Rattle.gs_triples.specs.Program.{triples_at, CoversTriples}
use Rattle.gs_document.specs.Contexts.{TurtleContext}
use Rattle.gs_triples.specs.Directives.{with_prefix, with_base}
use Rattle.gs_document.specs.Documents as statement
use Rattle.gs_document.specs.Documents.{IsStatement, AreStatements, IsDocument, stated, start}
use Rattle.gs_triples.specs.Reading.{Got, ◌and_then◌}
use Rattle.gs_document.specs.Program.{ReadStatement, read_statement, ends_at, dotted, prefix_at, base_at, statement_at, followed, statements_at, document}
use Rattle.gs_triples.proofs.TriplesLemmas.{triples_covered, triples_read}

abbrev pub CoveredStatement : TurtleContext → Numbers → List Symbol → Result ReadStatement Fault → Type 0
CoveredStatement env n ts (Err e) = Unit {0}
CoveredStatement env n ts (Ok r) = (front : List Symbol) × (ts ≡ front ++ r.rest) × IsStatement env n front r.stated r.context r.numbers

-- a directive of some tokens
back_read : (env : TurtleContext) (n : Numbers) (S : List Statement) (front rest : List Symbol) (m q : Option TurtleContext) → m ≡ q
    → ((next : TurtleContext) → m ≡ Some next → IsStatement env n front S next n) → CoveredStatement env n (front ++ rest) (read_statement S n rest q)
back_read env n S front rest m None h rule = tt
back_read env n S front rest m (Some next) h rule = (front, refl, rule next h)

back_prefix : (env : TurtleContext) (n : Numbers) (x : List ℕ) (ts : List Symbol) → x ≡ codes "@prefix" → CoveredStatement env n (At x ∷ ts) (prefix_at env n ts)
back_prefix env n x (ATerm (Namespace p) ∷ ATerm (Reference i k) ∷ Dot e ∷ ts) h =
    back_read env n (stated e []) (At x ∷ ATerm (Namespace p) ∷ ATerm (Reference i k) ∷ Dot e ∷ []) ts (with_prefix env p i) _ refl (λ c q. statement.prefix x p i k e h q)
back_prefix env n x _ h = tt

back_base : (env : TurtleContext) (n : Numbers) (x : List ℕ) (ts : List Symbol) → x ≡ codes "@base" → CoveredStatement env n (At x ∷ ts) (base_at env n ts)
back_base env n x (ATerm (Reference i k) ∷ Dot e ∷ ts) h =
    back_read env n (stated e []) (At x ∷ ATerm (Reference i k) ∷ Dot e ∷ []) ts (with_base env i) _ refl (λ c q. statement.base x i k e h q)
back_base env n x _ h = tt

back_at : (env : TurtleContext) (n : Numbers) (x : List ℕ) (ts : List Symbol) (b c : Bool) → bytes_eq x (codes "@prefix") ≡ b → bytes_eq x (codes "@base") ≡ c
    → CoveredStatement env n (At x ∷ ts) (cond b (prefix_at env n ts) (cond c (base_at env n ts) (Err Syntax)))
back_at env n x ts true c h k = back_prefix env n x ts ((bytes_eq-Decides x (codes "@prefix")).0 h)
back_at env n x ts false true h k = back_base env n x ts ((bytes_eq-Decides x (codes "@base")).0 k)
back_at env n x ts false false h k = tt

back_dot : (env : TurtleContext) (n k : Numbers) (ts xs us : List Symbol) (T : List RdfTriple) → ts ≡ xs ++ us → AreTriples env n xs T k → CoveredStatement env n ts (ends_at env T k us)
back_dot env n k ts xs [] T e c = tt
back_dot env n k ts xs (Dot z ∷ us) T e c = (xs ++ Dot z ∷ [], e ∙ sym (append_assoc xs (Dot z ∷ []) us), statement.triples z c)
back_dot env n k ts xs (t ∷ us) T e c = tt

back_triples : (env : TurtleContext) (n : Numbers) (ts : List Symbol) (r : Result (Got Term RdfTriple) Fault) → CoversTriples env n ts r → CoveredStatement env n ts (r and_then dotted env)
back_triples env n ts (Err e) c = tt
back_triples env n ts (Ok g) (xs, e, c) = back_dot env n g.numbers ts xs g.rest g.triples e c

pub statement_covered : (env : TurtleContext) (n : Numbers) (ts : List Symbol) → CoveredStatement env n ts (statement_at env n ts)
unfolding statement_at
statement_covered env n (At x ∷ ts) = back_at env n x ts (bytes_eq x (codes "@prefix")) (bytes_eq x (codes "@base")) refl refl
statement_covered env n (PrefixWord ∷ ATerm (Namespace p) ∷ ATerm (Reference i e) ∷ ts) =
    back_read env n (stated e []) (PrefixWord ∷ ATerm (Namespace p) ∷ ATerm (Reference i e) ∷ []) ts (with_prefix env p i) _ refl (λ c q. statement.prefix_word p i e q)
statement_covered env n (PrefixWord ∷ _) = tt
statement_covered env n (BaseWord ∷ ATerm (Reference i e) ∷ ts) =
    back_read env n (stated e []) (BaseWord ∷ ATerm (Reference i e) ∷ []) ts (with_base env i) _ refl (λ c q. statement.base_word i e q)
statement_covered env n (BaseWord ∷ _) = tt
statement_covered env n ts = back_triples env n ts (triples_at env n ts) (triples_covered env n ts)

-- a statement is read by its rule
abbrev pub as_read : List Statement → TurtleContext → Numbers → List Symbol → Result ReadStatement Fault
as_read S env n rest = Ok (record { stated = S; context = env; numbers = n; rest = rest })

triples_go : {env : TurtleContext} {n k : Numbers} {xs : List Symbol} {T : List RdfTriple} → AreTriples env n xs T k → (z : List Symbol)
    → statement_at env n (xs ++ z) ≡ (triples_at env n (xs ++ z) and_then dotted env)
unfolding statement_at
triples_go (triples.word w q c) z = refl
triples_go (triples.anon q c) z = refl
triples_go (triples.list a b) z = refl
triples_go (triples.lone_list q c) z = refl
triples_go (triples.properties q c) z = refl
triples_go (triples.properties_and q a c) z = refl

pub statement_read : {env next : TurtleContext} {n k : Numbers} {xs : List Symbol} {S : List Statement} → IsStatement env n xs S next k → (rest : List Symbol)
    → statement_at env n (xs ++ rest) ≡ as_read S next k rest
unfolding statement_at
statement_read {env = env} {n = n} (statement.prefix x p i k e h q) rest =
    ap (λ z. cond (bytes_eq z (codes "@prefix")) (read_statement (stated e []) n rest (with_prefix env p i)) (cond (bytes_eq z (codes "@base")) (base_at env n (ATerm (Namespace p) ∷ ATerm (Reference i k) ∷ Dot e ∷ rest)) (Err Syntax))) h
    ∙ ap (read_statement (stated e []) n rest) q
statement_read {env = env} {n = n} (statement.base x i k e h q) rest =
    ap (λ z. cond (bytes_eq z (codes "@prefix")) (prefix_at env n (ATerm (Reference i k) ∷ Dot e ∷ rest)) (cond (bytes_eq z (codes "@base")) (read_statement (stated e []) n rest (with_base env i)) (Err Syntax))) h
    ∙ ap (read_statement (stated e []) n rest) q
statement_read {n = n} (statement.prefix_word p i e q) rest = ap (read_statement (stated e []) n rest) q
statement_read {n = n} (statement.base_word i e q) rest = ap (read_statement (stated e []) n rest) q
statement_read {env = env} {n = n} (statement.triples {xs = xs} e c) rest =
    ap (statement_at env n) (append_assoc xs (Dot e ∷ []) rest) ∙ triples_go c (Dot e ∷ rest) ∙ ap (λ z. z and_then dotted env) (triples_read c (Dot e ∷ rest) tt).1

-- these tokens are these statements, whatever they leave
abbrev Are : TurtleContext → Numbers → List Symbol → List Statement → Type 0
Are env n ts S = (last : TurtleContext) × (l : Numbers) × AreStatements env n ts S last l

-- no fault is the end of a document
no_end : (e : Fault) → Faulty e ≡ Whole → ⊥
no_end e h = cc

back_followed : (env : TurtleContext) (n : Numbers) (ts : List Symbol) (f : ℕ) (S : List Statement) (r : Result ReadStatement Fault)
    → ((e : TurtleContext) (k : Numbers) (us : List Symbol) (R : List Statement) → statements_at f e k us ≡ (R, Whole) → Are e k us R)
    → CoveredStatement env n ts r → followed (statements_at f) r ≡ (S, Whole) → Are env n ts S
back_followed env n ts f S (Err e) ih c h = absurd (no_end e (ap (λ z. z.1) h))
back_followed env n ts f S (Ok r) ih (xs, e, c) h =
    let rest : Meaning = statements_at f r.context r.numbers r.rest in
    let whole : rest.1 ≡ Whole = ap (λ z. z.1) h in
    let same : rest ≡ (rest.0, Whole) = ap (λ z. let p : Meaning = (rest.0, z) in p) whole in
    let all : Are r.context r.numbers r.rest rest.0 = ih r.context r.numbers r.rest rest.0 same in
    subst (λ z. Are env n z S) (sym e)
    (subst (λ z. Are env n (xs ++ r.rest) z) (ap (λ z. z.0) h) (all.0, all.1, statement.statement c all.2))

statements_covered : (f : ℕ) (env : TurtleContext) (n : Numbers) (ts : List Symbol) (S : List Statement) → statements_at f env n ts ≡ (S, Whole) → Are env n ts S
unfolding statements_at
statements_covered f env n [] S h = subst (Are env n []) (ap (λ z. z.0) h) (env, n, statement.nothing env n)
statements_covered zero env n (t ∷ ts) S h = let k : Faulty Syntax ≡ Whole = ap (λ z. z.1) h in absurd (cc)
statements_covered (suc f) env n (t ∷ ts) S h =
    back_followed env n (t ∷ ts) f S (statement_at env n (t ∷ ts)) (statements_covered f) (statement_covered env n (t ∷ ts)) h

-- a statement takes a token
pub statement_takes : {env next : TurtleContext} {n k : Numbers} {xs : List Symbol} {S : List Statement} → IsStatement env n xs S next k → 0 < length xs
statement_takes (statement.prefix x p i k e h q) = omega arith
statement_takes (statement.base x i k e h q) = omega arith
statement_takes (statement.prefix_word p i e q) = omega arith
statement_takes (statement.base_word i e q) = omega arith
statement_takes (statement.triples {xs = xs} e c) = simp length-append (omega arith)

-- one step of the program, where tokens are left
statements_step : (f : ℕ) (env : TurtleContext) (n : Numbers) (ts : List Symbol) → 0 < length ts → statements_at (suc f) env n ts ≡ followed (statements_at f) (statement_at env n ts)
unfolding statements_at
statements_step f env n [] h = absurd (omega arith)
statements_step f env n (t ∷ ts) h = refl

pub statements_nil : (f : ℕ) (env : TurtleContext) (n : Numbers) → statements_at f env n [] ≡ ([], Whole)
unfolding statements_at
statements_nil zero env n = refl
statements_nil (suc f) env n = refl

statements_read : (f : ℕ) {env last : TurtleContext} {n l : Numbers} {ts : List Symbol} {S : List Statement} → AreStatements env n ts S last l → length ts ≤ f → statements_at f env n ts ≡ (S, Whole)
statements_read f (statement.nothing env n) h = statements_nil f env n
statements_read zero (statement.statement {xs = xs} {ys = ys} a b) h = absurd (omega (arith, statement_takes a, length-append xs ys))
statements_read (suc f) (statement.statement {env = env} {next = next} {n = n} {k = k} {xs = xs} {ys = ys} {S = S} {R = R} a b) h =
    statements_step f env n (xs ++ ys) (omega (arith, statement_takes a, length-append xs ys))
    ∙ ap (followed (statements_at f)) (statement_read a ys)
    ∙ ap (λ z. let p : Meaning = (S ++ z.0, z.1) in p) (statements_read f b (omega (arith, statement_takes a, length-append xs ys)))

-- a document, and what the program says of it
pub document_read : (b : List ℕ) (r : ℕ) (ts : List Lexeme) (S : List Statement) → IsDocument b r ts S → document b r ts ≡ (S, Whole)
document_read b r ts S d = statements_read (length ts) d.2 (omega (arith, length-map ts symbol_of))

pub document_covered : (b : List ℕ) (r : ℕ) (ts : List Lexeme) (S : List Statement) → document b r ts ≡ (S, Whole) → IsDocument b r ts S
document_covered b r ts S h = statements_covered (length ts) (start b r) no_numbers (symbols_of ts) S h

-- so a document has one list of statements
pub document_once : (b : List ℕ) (r : ℕ) (ts : List Lexeme) (S R : List Statement) → IsDocument b r ts S → IsDocument b r ts R → S ≡ R
document_once b r ts S R d e = ap (λ (z : Meaning). z.0) (sym (document_read b r ts S d) ∙ document_read b r ts R e)

-- Where the program finds a fault, what it found before are the statements of the longest front.
use Rattle.std.proofs.Common.{◌≡◌, ℕ, zero, suc, ◌≤◌, ◌<◌, List, [], ◌∷◌, ◌++◌, length, refl, sym, ap, ◌∙◌, append_assoc, subst, arith, length-append}
use Rattle.std.specs.Prelude.{Result, Ok, Err}
use Rattle.std.proofs.lemmas.List.{length-map}
use Rattle.gs_lex.specs.Tokens.{Lexeme}
use Rattle.gs_blank.specs.Numbers.{Numbers, no_numbers}
use Rattle.gs_body.specs.Bodies.{Meaning, Statement, Whole, Faulty}
use Rattle.gs_triples.specs.Symbols.{Symbol, symbol_of, symbols_of}
use Rattle.gs_triples.specs.Meanings.{Fault}
use Rattle.gs_document.specs.Contexts.{TurtleContext}
use Rattle.gs_document.specs.Documents as statement
use Rattle.gs_document.specs.Documents.{IsStatement, AreStatements, start}
use Rattle.gs_document.specs.Fronts.{NoStatement, AreLongest, AreBeforeFault}
use Rattle.gs_document.specs.Program.{ReadStatement, statement_at, followed, statements_at, document}
use Rattle.gs_document.proofs.DocumentLemmas.{CoveredStatement, statement_covered, as_read, statement_read, statement_takes}

-- where the program refuses a statement, none begins
no_statement : (env : TurtleContext) (n : Numbers) (ts : List Symbol) (e : Fault) → statement_at env n ts ≡ Err e → NoStatement env n ts
no_statement env n ts e h xs ys S next k p s =
    let both : Err e ≡ as_read S next k ys = sym h ∙ ap (statement_at env n) p ∙ statement_read s ys in absurd (cc)

-- where none begins, a front of whole statements is empty
no_front : (env : TurtleContext) (n : Numbers) (ts : List Symbol) → NoStatement env n ts → (ys : List Symbol) {xs : List Symbol} {R : List Statement} {next : TurtleContext} {k : Numbers}
    → AreStatements env n xs R next k → ts ≡ xs ++ ys → length xs ≤ 0
no_front env n ts none ys (statement.nothing _ _) p = omega arith
no_front env n ts none ys (statement.statement {next = next} {k = k} {xs = xs} {ys = zs} {S = S} a b) p =
    absurd (none xs (zs ++ ys) S next k (p ∙ append_assoc xs zs ys) a)

-- no front at all
none_before : (env : TurtleContext) (n : Numbers) (ts : List Symbol) → NoStatement env n ts → AreLongest env n ts []
none_before env n ts none = record {
  front = [];
  after = ts;
  parts = refl;
  last = env;
  numbers = n;
  whole = statement.nothing env n;
  stops = none;
  longest = λ xs ys R next k p a. no_front env n ts none ys a p;
}

abbrev read_or : ReadStatement → Result ReadStatement Fault → ReadStatement
read_or d (Ok r) = r
read_or d (Err e) = d

-- a front of whole statements begins with the statement that the program reads
longest_with : (env : TurtleContext) (n : Numbers) (ts front : List Symbol) (r : ReadStatement) → statement_at env n ts ≡ Ok r → ts ≡ front ++ r.rest
    → {S : List Statement} (a : AreLongest r.context r.numbers r.rest S) (ys : List Symbol) {xs : List Symbol} {R : List Statement} {next : TurtleContext} {k : Numbers}
    → AreStatements env n xs R next k → ts ≡ xs ++ ys → length xs ≤ length (front ++ a.front)
longest_with env n ts front r h e a ys (statement.nothing _ _) p = omega arith
longest_with env n ts front r h e a ys (statement.statement {next = m} {last = last} {k = k} {l = l} {xs = xs} {ys = zs} {S = S} {R = R} s b) p =
    let both : Ok r ≡ as_read S m k (zs ++ ys) = sym h ∙ ap (statement_at env n) (p ∙ append_assoc xs zs ys) ∙ statement_read s (zs ++ ys) in
    let same : r ≡ record { stated = S; context = m; numbers = k; rest = zs ++ ys } = ap (read_or r) both in
    let left : r.rest ≡ zs ++ ys = ap (λ (z : ReadStatement). z.rest) same in
    let moved : AreStatements m r.numbers zs R last l = subst (λ (z : Numbers). AreStatements m z zs R last l) (sym (ap (λ (z : ReadStatement). z.numbers) same)) b in
    let here : AreStatements r.context r.numbers zs R last l = subst (λ (z : TurtleContext). AreStatements z r.numbers zs R last l) (sym (ap (λ (z : ReadStatement). z.context) same)) moved in
    let shorter : length zs ≤ length a.front = a.longest zs ys R last l left here in
    omega (arith, shorter, ap length e, ap length p, ap length left, length-append front r.rest, length-append (xs ++ zs) ys, length-append xs zs, length-append zs ys, length-append front a.front)

-- one statement before others
one_before : (env : TurtleContext) (n : Numbers) (ts : List Symbol) (r : ReadStatement) → statement_at env n ts ≡ Ok r → CoveredStatement env n ts (Ok r)
    → (S : List Statement) → AreLongest r.context r.numbers r.rest S → AreLongest env n ts (r.stated ++ S)
one_before env n ts r h (front, e, c) S a = record {
  front = front ++ a.front;
  after = a.after;
  parts = e ∙ ap (λ z. front ++ z) a.parts ∙ sym (append_assoc front a.front a.after);
  last = a.last;
  numbers = a.numbers;
  whole = statement.statement c a.whole;
  stops = a.stops;
  longest = λ xs ys R next k p b. longest_with env n ts front r h e a ys b p;
}

-- a statement's tokens are not all that is left of a list
read_shorter : (env : TurtleContext) (n : Numbers) (ts : List Symbol) (r : ReadStatement) → CoveredStatement env n ts (Ok r) → length r.rest < length ts
read_shorter env n ts r (front, e, c) = omega (arith, statement_takes c, ap length e, length-append front r.rest)

front_of : (f : ℕ) (env : TurtleContext) (n : Numbers) (ts : List Symbol) (S : List Statement) (x : Fault) → length ts ≤ suc f
    → ((c : TurtleContext) (k : Numbers) (us : List Symbol) (R : List Statement) → length us ≤ f → statements_at f c k us ≡ (R, Faulty x) → AreLongest c k us R)
    → (r : Result ReadStatement Fault) → statement_at env n ts ≡ r → CoveredStatement env n ts r → followed (statements_at f) r ≡ (S, Faulty x) → AreLongest env n ts S
front_of f env n ts S x size ih (Err e) q c h = subst (AreLongest env n ts) (ap (λ z. z.0) h) (none_before env n ts (no_statement env n ts e q))
front_of f env n ts S x size ih (Ok r) q c h =
    let rest : Meaning = statements_at f r.context r.numbers r.rest in
    let faulty : rest.1 ≡ Faulty x = ap (λ z. z.1) h in
    let same : rest ≡ (rest.0, Faulty x) = ap (λ z. let p : Meaning = (rest.0, z) in p) faulty in
    subst (AreLongest env n ts) (ap (λ z. z.0) h)
    (one_before env n ts r q c rest.0 (ih r.context r.numbers r.rest rest.0 (omega (arith, read_shorter env n ts r c)) same))

fronts : (f : ℕ) (env : TurtleContext) (n : Numbers) (ts : List Symbol) (S : List Statement) (x : Fault) → length ts ≤ f → statements_at f env n ts ≡ (S, Faulty x) → AreLongest env n ts S
unfolding statements_at
fronts f env n [] S x size h = let k : Whole ≡ Faulty x = ap (λ z. z.1) h in absurd (cc)
fronts zero env n (t ∷ ts) S x size h = absurd (omega arith)
fronts (suc f) env n (t ∷ ts) S x size h =
    front_of f env n (t ∷ ts) S x size (λ c k us R. fronts f c k us R x) (statement_at env n (t ∷ ts)) refl (statement_covered env n (t ∷ ts)) h

-- what the program reports of a faulty document
pub document_before_fault : (b : List ℕ) (r : ℕ) (ts : List Lexeme) (S : List Statement) (x : Fault) → document b r ts ≡ (S, Faulty x) → AreBeforeFault b r ts S
document_before_fault b r ts S x h = fronts (length ts) (start b r) no_numbers (symbols_of ts) S x (omega (arith, length-map ts symbol_of)) h

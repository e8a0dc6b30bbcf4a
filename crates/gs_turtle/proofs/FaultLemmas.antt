-- A body with a fault says the statements of the longest front of its tokens that is whole statements.
use Rattle.std.proofs.Common.{◌≡◌, ◌≤◌, ℕ, false, List, [], ◌∷◌, ◌++◌, length, refl, sym, ap, subst, ◌∙◌, arith, append-nil, length-append, take}
use Rattle.std.proofs.Math.Seq.{take-append_seam}
use Rattle.std.specs.List.{AllByRecursion}
use Rattle.std.proofs.lemmas.List.Elements.{All-from_recursion}
use Rattle.gs_lex.specs.Tokens as lexer
use Rattle.gs_lex.specs.Tokens.{Lexeme, IsCut, CutEnd}
use Rattle.gs_lex.specs.Cuts.{cut_of_text}
use Rattle.gs_lex.proofs.CutLemmas.{cut-from}
use Rattle.gs_blank.specs.Numbers.{Numbers, no_numbers}
use Rattle.gs_body.specs.Bodies.{Whole, Faulty, Meaning, Statement, IsBroken, end_after}
use Rattle.gs_model.specs.declared.faults.Fault.{Fault}
use Rattle.gs_model.specs.declared.faults.Fault.TheVariants as fault
use Rattle.gs_triples.specs.Symbols.{Symbol, symbols_of}
use Rattle.gs_document.specs.Contexts.{TurtleContext}
use Rattle.gs_document.specs.Documents.{AreStatements, IsDocument, start}
use Rattle.gs_document.specs.Fronts.{NoStatement, AreLongest, AreBeforeFault}
use Rattle.gs_document.specs.Program.{document}
use Rattle.gs_document.proofs.DocumentLemmas.{document_covered, document_once, statement_takes}
use Rattle.gs_document.proofs.FrontLemmas.{document_before_fault}
use Rattle.gs_document.proofs.ReaderLemmas.{machine_reports}
use Rattle.gs_turtle.specs.Documents.{ended_by, meaning_by, IsBody}
use Rattle.gs_turtle.specs.Faults.{last_end, bytes_before, IsFaultyAfter, SaysUpTo, BreaksAfter}
use Rattle.gs_turtle.proofs.SaidLemmas.{meaning_cut}
use Rattle.gs_turtle.proofs.BodyLemmas.{body-read}
use Rattle.gs_turtle.proofs.PlaceLemmas.{halves, statements_end, Rises, cut_rises, cut_within, cut_fault, rest_after, front_before}

-- no statement has no token
none_left : (env : TurtleContext) (n : Numbers) → NoStatement env n []
none_left env n [] ys S next k p s = absurd (omega (arith, statement_takes s))
none_left env n (x ∷ xs) ys S next k p s = absurd (cc)

-- whole statements are their own longest front
whole_longest : (env : TurtleContext) (n : Numbers) (ts : List Symbol) (S : List Statement) (last : TurtleContext) (k : Numbers) → AreStatements env n ts S last k → AreLongest env n ts S
whole_longest env n ts S last k a = record {
  front = ts;
  after = [];
  parts = sym (append-nil ts);
  last = last;
  numbers = k;
  whole = a;
  stops = none_left last k;
  longest = λ xs ys R next l p b. omega (arith, ap length p, length-append xs ys);
}

-- where the tokens before a fault of the lexer have none, or one
fault_cases : (e : CutEnd) (b : List ℕ) (r : ℕ) (ts : List Lexeme) (S : List Statement) (f : Fault) (d : Meaning) → document b r ts ≡ d → ended_by e d ≡ (S, Faulty f) → AreBeforeFault b r ts S
fault_cases lexer.AtEnd b r ts S f d is h = document_before_fault b r ts S f (is ∙ h)
fault_cases (lexer.AtFault n) b r ts S f (R, Whole) is h =
    let same : R ≡ S = ap (λ (z : Meaning). z.0) h in
    let doc = document_covered b r ts S (is ∙ ap (λ z. let p : Meaning = (z, Whole) in p) same) in
    whole_longest (start b r) no_numbers (symbols_of ts) S doc.0 doc.1 doc.2
fault_cases (lexer.AtFault n) b r ts S f (R, Faulty g) is h = document_before_fault b r ts S f (is ∙ h)

-- no later than the end, or than the lexer's fault
before_it : (x : List ℕ) (ts : List Lexeme) (e : CutEnd) (at : ℕ) → IsCut false x ts e → at ≤ last_end 0 ts → at ≤ bytes_before x e
before_it x ts lexer.AtEnd at c h = omega (arith, h, cut_within false lexer.Between 0 0 x ts lexer.AtEnd (omega arith) (omega arith) c)
before_it x ts (lexer.AtFault n) at c h = omega (arith, h, cut_fault false lexer.Between 0 0 x ts (lexer.AtFault n) n c refl)

-- a front of tokens, with their places
read_to : (b : List ℕ) (r : ℕ) (x : List ℕ) (ts : List Lexeme) (e : CutEnd) (S : List Statement) → IsCut false x ts e → AreBeforeFault b r ts S → (IsBody b r x S → ⊥) → IsFaultyAfter b r x S
read_to b r x ts e S c a none =
    let h = halves ts a.front a.after a.parts in
    let cut : IsCut false x (h.first ++ h.second) e = subst (λ z. IsCut false x z e) h.parts c in
    let rises : Rises 0 (h.first ++ h.second) = cut_rises false lexer.Between 0 0 x (h.first ++ h.second) e (omega arith) (omega arith) cut in
    let place : end_after 0 S ≡ last_end 0 h.first = statements_end a.whole h.first 0 h.left in
    let no_later : end_after 0 S ≤ last_end 0 (h.first ++ h.second) = omega (arith, place, front_before 0 h.first h.second rises) in
    let rest : AllByRecursion (λ (t : Lexeme). end_after 0 S ≤ t.start) h.second = subst (λ n. AllByRecursion (λ (t : Lexeme). n ≤ t.start) h.second) (sym place) (rest_after 0 h.first h.second rises) in
    record {
      front = h.first;
      after = h.second;
      ending = e;
      cut = cut;
      whole = (a.last, a.numbers, subst (λ z. AreStatements (start b r) no_numbers z S a.last a.numbers) (sym h.left) a.whole);
      longest = subst (λ z. AreBeforeFault b r z S) h.parts a;
      faulty = none;
      place = place;
      before_rest = All-from_recursion (λ (t : Lexeme). end_after 0 S ≤ t.start) h.second rest;
      before_fault = before_it x (h.first ++ h.second) e (end_after 0 S) cut no_later;
      within = omega (arith, no_later, cut_within false lexer.Between 0 0 x (h.first ++ h.second) e (omega arith) (omega arith) cut);
    }

-- fronts of one list that are as long as each other are the same
same_front : (ts xs ys zs ws : List Symbol) → ts ≡ xs ++ ys → ts ≡ zs ++ ws → length xs ≡ length zs → xs ≡ zs
same_front ts xs ys zs ws p q e = sym (take-append_seam xs ys) ∙ ap (take (length xs)) (sym p ∙ q) ∙ ap (λ n. take n (zs ++ ws)) e ∙ take-append_seam zs ws

-- tokens have one longest front, with one list of statements
longest_once : (b : List ℕ) (r : ℕ) (ts : List Lexeme) (S T : List Statement) → AreBeforeFault b r ts S → AreBeforeFault b r ts T → S ≡ T
longest_once b r ts S T a c =
    let h = halves ts a.front a.after a.parts in
    let as_long : length a.front ≡ length c.front = omega (arith, a.longest c.front c.after T c.last c.numbers c.parts c.whole, c.longest a.front a.after S a.last a.numbers a.parts a.whole) in
    let same : a.front ≡ c.front = same_front (symbols_of ts) a.front a.after c.front c.after a.parts c.parts as_long in
    let first : IsDocument b r h.first S = (a.last, a.numbers, subst (λ z. AreStatements (start b r) no_numbers z S a.last a.numbers) (sym h.left) a.whole) in
    let second : IsDocument b r h.first T = (c.last, c.numbers, subst (λ z. AreStatements (start b r) no_numbers z T c.last c.numbers) (sym same ∙ sym h.left) c.whole) in
    document_once b r h.first S T first second

-- a text with a fault is no body
no_body : (b : List ℕ) (r : ℕ) (x : List ℕ) (S : List Statement) (f : Fault) → meaning_by b r x ≡ (S, Faulty f) → IsBody b r x S → ⊥
no_body b r x S f h body = let both : Whole ≡ Faulty f = ap (λ (z : Meaning). z.1) (sym (body-read b r x S body) ∙ h) in absurd (cc)

pub faulty_read : (b : List ℕ) (r : ℕ) (x : List ℕ) (S : List Statement) → SaysUpTo b r x S → IsFaultyAfter b r x S
unfolding meaning_by
faulty_read b r x S (f, h) =
    let c = cut_of_text false x in
    read_to b r x c.0 c.1 S (cut-from false lexer.Between 0 0 x) (fault_cases c.1 b r c.0 S f (document b r c.0) refl h) (no_body b r x S f h)

-- tokens after which a text has a fault
found : (b : List ℕ) (r : ℕ) (x : List ℕ) (S : List Statement) (ts : List Lexeme) (e : CutEnd) (d : Meaning) → document b r ts ≡ d → IsCut false x ts e → AreBeforeFault b r ts S → (IsBody b r x S → ⊥)
    → (f : Fault) × (ended_by e d ≡ (S, Faulty f))
found b r x S ts lexer.AtEnd (T, Whole) is c a none =
    let doc : IsDocument b r ts T = document_covered b r ts T is in
    let same : T ≡ S = longest_once b r ts T S (whole_longest (start b r) no_numbers (symbols_of ts) T doc.0 doc.1 doc.2) a in
    absurd (none (record { lexemes = ts; cut = c; stated = subst (λ z. IsDocument b r ts z) same doc }))
found b r x S ts (lexer.AtFault n) (T, Whole) is c a none =
    let doc : IsDocument b r ts T = document_covered b r ts T is in
    let same : T ≡ S = longest_once b r ts T S (whole_longest (start b r) no_numbers (symbols_of ts) T doc.0 doc.1 doc.2) a in
    (fault.Syntax, ap (λ z. let p : Meaning = (z, Faulty fault.Syntax) in p) same)
found b r x S ts lexer.AtEnd (T, Faulty f) is c a none =
    (f, ap (λ z. let p : Meaning = (z, Faulty f) in p) (longest_once b r ts T S (document_before_fault b r ts T f is) a))
found b r x S ts (lexer.AtFault n) (T, Faulty f) is c a none =
    (f, ap (λ z. let p : Meaning = (z, Faulty f) in p) (longest_once b r ts T S (document_before_fault b r ts T f is) a))

pub faulty_covered : (b : List ℕ) (r : ℕ) (x : List ℕ) (S : List Statement) → IsFaultyAfter b r x S → SaysUpTo b r x S
faulty_covered b r x S h =
    let ts = h.front ++ h.after in
    let f = found b r x S ts h.ending (document b r ts) refl h.cut h.longest h.faulty in
    (f.0, meaning_cut b r x ts h.ending h.cut ∙ ap (ended_by h.ending) (machine_reports b r ts) ∙ f.1)

pub broken_read : (b : List ℕ) (r : ℕ) (x : List ℕ) (at : ℕ) → IsBroken (meaning_by b r x) at → BreaksAfter b r x at
broken_read b r x at h = record {
  statements = (meaning_by b r x).0;
  before = faulty_read b r x (meaning_by b r x).0 (fault.Syntax, ap (λ z. let p : Meaning = ((meaning_by b r x).0, z) in p) h.broken);
  end = h.place;
}

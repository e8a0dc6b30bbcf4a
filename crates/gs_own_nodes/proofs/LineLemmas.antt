-- N-Triples: each line states terms without blank nodes, or labels, which are numbered for the request that is read.
use Rattle.std.proofs.Common.{ℕ, false, List, [], ◌∷◌, ◌++◌, refl}
use Rattle.std.specs.Prelude.{◌==◌, Result, Ok, Err, IfOk}
use Rattle.std.specs.List.{All}
use Rattle.std.proofs.lemmas.List.Elements.{All-nil, All-cons, All-head, All-tail, All-append}
use Rattle.gs_model.specs.Characters.{number_sign, less_than, underscore, quote, caret, at_sign}
use Rattle.gs_model.specs.Escapes.{is_line_end}
use Rattle.gs_model.specs.Faults.{◌>>=◌}
use Rattle.gs_model.specs.Terms.{Term, Iri, Literal, Typed, Tagged, xsd_string}
use Rattle.gs_model.specs.declared.faults.Fault.{Fault}
use Rattle.gs_machine.specs.Machines.{rest}
use Rattle.gs_machine.specs.Utf8.{symbols}
use Rattle.gs_body.specs.Bodies.{Whole, Faulty, all_stated}
use Rattle.gs_blank.specs.Numbers.{Numbers, no_numbers}
use Rattle.std.specs.Str.{str_to_ascii_lowercase}
use Rattle.gs_ntterm.specs.Marks.{Mark, marks}
use Rattle.gs_ntterm.specs.Classes.{is_space}
use Rattle.gs_ntterm.specs.LineTerms.{LineTerm, Fixed, Labelled, iri_made, plain_made, typed_made, tagged_made}
use Rattle.gs_ntterm.specs.Terminals.{FrontRead, skip, Plain, iri_after, string_after, label_at, begins_part, tag_after}
use Rattle.gs_ntread.specs.LineTriples.{LineTriple}
use Rattle.gs_ntread.specs.Grammar.{before_text, fixed, iri_read, label_read, datatype_at, caret_at, tag_at, suffix_at, subject_at, predicate_at, object_at, dot_at, line_triple_at}
use Rattle.gs_ntread.specs.Documents.{Meant, triple_meant, line_meant, then_meant, lines_meant, document_meant, term_of, numbering, meaning_by}
use Rattle.gs_own_nodes.specs.Own.{NamesOwn, HasOwn}
use Rattle.gs_own_nodes.proofs.AnswerLemmas.{chosen, then_read}
use Rattle.gs_own_nodes.proofs.TermLemmas.{made_own}

-- a term of a line that is no blank node, but may be a label
abbrev IsOwnTerm : ℕ → LineTerm → Type 0
IsOwnTerm r (Fixed t) = NamesOwn r t
IsOwnTerm r (Labelled label) = Unit {0}

-- the terms of a line
abbrev HasOwnTerms : ℕ → LineTriple → Type 0
HasOwnTerms r l = IsOwnTerm r l.subject × NamesOwn r l.predicate × IsOwnTerm r l.object

-- what was read is own
abbrev Reads : ℕ → FrontRead Term → Type 0
Reads r q = IfOk q (λ p. NamesOwn r p.0)

-- the same of a term of a line
abbrev ReadsTerm : ℕ → FrontRead LineTerm → Type 0
ReadsTerm r q = IfOk q (λ p. IsOwnTerm r p.0)

-- a term with the text after it
before_own : (r : ℕ) (ms : List Mark) (q : Result Term Fault) → IfOk q (NamesOwn r) → Reads r (before_text ms q)
before_own r ms (Err e) own = tt
before_own r ms (Ok t) own = own

-- a term that needs no number
fixed_own : (r : ℕ) (q : FrontRead Term) → Reads r q → ReadsTerm r (fixed q)
fixed_own r (Err e) own = tt
fixed_own r (Ok p) own = own

-- an IRI
iri_own : (r : ℕ) (q : FrontRead (List ℕ)) → Reads r (iri_read q)
iri_own r (Err e) = tt
iri_own r (Ok i) = before_own r i.1 (iri_made i.0) (made_own r (Iri i.0) tt)

-- a label
label_own : (r : ℕ) (q : FrontRead (List ℕ)) → ReadsTerm r (label_read q)
label_own r (Err e) = tt
label_own r (Ok l) = tt

-- a literal without a suffix
plain_own : (r : ℕ) (ms : List Mark) (lexical : List ℕ) → Reads r (before_text ms (plain_made lexical))
plain_own r ms lexical = before_own r ms (plain_made lexical) (made_own r (Literal lexical (Typed xsd_string)) tt)

-- a literal whose datatype was read
typed_own : (r : ℕ) (lexical : List ℕ) (q : FrontRead (List ℕ)) → Reads r (q >>= λ i. before_text i.1 (typed_made lexical i.0))
typed_own r lexical (Err e) = tt
typed_own r lexical (Ok i) = before_own r i.1 (typed_made lexical i.0) (made_own r (Literal lexical (Typed i.0)) tt)

-- a datatype
datatype_own : (r : ℕ) (lexical : List ℕ) (ms : List Mark) → Reads r (datatype_at lexical ms)
datatype_own r lexical [] = tt
datatype_own r lexical (m ∷ ms) = chosen (Reads r) (m.0 == less_than) _ _ (typed_own r lexical (iri_after Plain ms)) tt

-- the second '^'
caret_own : (r : ℕ) (lexical : List ℕ) (ms : List Mark) → Reads r (caret_at lexical ms)
caret_own r lexical [] = tt
caret_own r lexical (m ∷ ms) = chosen (Reads r) (m.0 == caret) _ _ (datatype_own r lexical (skip ms)) tt

-- a language tag
tag_own : (r : ℕ) (lexical : List ℕ) (ms : List Mark) → Reads r (tag_at lexical ms)
tag_own r lexical ms =
    let tag : List ℕ = (tag_after false ms).0 in
    let made = made_own r (Literal lexical (Tagged (str_to_ascii_lowercase tag))) tt in
    chosen (Reads r) (begins_part false ms) _ _ (before_own r (tag_after false ms).1 (tagged_made lexical tag) made) tt

-- what stands after a string
suffix_own : (r : ℕ) (lexical : List ℕ) (ms : List Mark) → Reads r (suffix_at lexical ms)
suffix_own r lexical [] = plain_own r [] lexical
suffix_own r lexical (m ∷ ms) =
    chosen (Reads r) (m.0 == caret) _ _ (caret_own r lexical ms) (chosen (Reads r) (m.0 == at_sign) _ _ (tag_own r lexical ms) (plain_own r (m ∷ ms) lexical))

-- a literal
literal_own : (r : ℕ) (q : FrontRead (List ℕ)) → Reads r (q >>= λ l. suffix_at l.0 (skip l.1))
literal_own r (Err e) = tt
literal_own r (Ok l) = suffix_own r l.0 (skip l.1)

-- a subject
subject_own : (r : ℕ) (ms : List Mark) → ReadsTerm r (subject_at ms)
subject_own r [] = tt
subject_own r (m ∷ ms) =
    let iri = fixed_own r (iri_read (iri_after Plain ms)) (iri_own r (iri_after Plain ms)) in
    chosen (ReadsTerm r) (m.0 == less_than) _ _ iri (chosen (ReadsTerm r) (m.0 == underscore) _ _ (label_own r (label_at ms)) tt)

-- a predicate
predicate_own : (r : ℕ) (ms : List Mark) → Reads r (predicate_at ms)
predicate_own r [] = tt
predicate_own r (m ∷ ms) = chosen (Reads r) (m.0 == less_than) _ _ (iri_own r (iri_after Plain ms)) tt

-- an object
object_own : (r : ℕ) (ms : List Mark) → ReadsTerm r (object_at ms)
object_own r [] = tt
object_own r (m ∷ ms) =
    let iri = fixed_own r (iri_read (iri_after Plain ms)) (iri_own r (iri_after Plain ms)) in
    let literal = fixed_own r (string_after Plain ms >>= λ l. suffix_at l.0 (skip l.1)) (literal_own r (string_after Plain ms)) in
    chosen (ReadsTerm r) (m.0 == less_than) _ _ iri (chosen (ReadsTerm r) (m.0 == underscore) _ _ (label_own r (label_at ms)) (chosen (ReadsTerm r) (m.0 == quote) _ _ literal tt))

-- a dot after three terms
dot_own : (r : ℕ) (s : LineTerm) (p : Term) (o : LineTerm) → IsOwnTerm r s → NamesOwn r p → IsOwnTerm r o → (q : FrontRead ℕ)
    → IfOk (q >>= λ d. let l : Result (LineTriple × List Mark) Fault = Ok (record { subject = s; predicate = p; object = o; end = d.0 }, d.1) in l) (λ l. HasOwnTerms r l.0)
dot_own r s p o a b c (Err e) = tt
dot_own r s p o a b c (Ok d) = (a, b, c)

-- a triple
triple_own : (r : ℕ) (ms : List Mark) → IfOk (line_triple_at ms) (λ l. HasOwnTerms r l.0)
triple_own r ms =
    let Q : LineTriple × List Mark → Type 0 = λ l. HasOwnTerms r l.0 in
    let P : Term × List Mark → Type 0 = λ p. NamesOwn r p.0 in
    let T : LineTerm × List Mark → Type 0 = λ p. IsOwnTerm r p.0 in
    then_read T Q (subject_at ms) _ (subject_own r ms) (λ s a.
    then_read P Q (predicate_at (skip s.1)) _ (predicate_own r (skip s.1)) (λ p b.
    then_read T Q (object_at (skip p.1)) _ (object_own r (skip p.1)) (λ o c. dot_own r s.0 p.0 o.0 a b c (dot_at (skip o.1)))))

-- the lines so far are own
abbrev MeansOwn : ℕ → Meant → Type 0
MeansOwn r d = All (HasOwnTerms r) d.0

-- a triple with the rest of its line
triple_means : (r : ℕ) (q : FrontRead LineTriple) → IfOk q (λ l. HasOwnTerms r l.0) → MeansOwn r (triple_meant q)
triple_means r (Err e) own = All-nil (HasOwnTerms r)
triple_means r (Ok l) own = All-cons (HasOwnTerms r) l.0 [] own (All-nil (HasOwnTerms r))

-- a line
line_means : (r : ℕ) (ms : List Mark) → MeansOwn r (line_meant ms)
line_means r [] = All-nil (HasOwnTerms r)
line_means r (m ∷ ms) =
    chosen (MeansOwn r) (is_space m.0) _ _ (line_means r ms)
    (chosen (MeansOwn r) (m.0 == number_sign) _ _ (All-nil (HasOwnTerms r)) (triple_means r (line_triple_at (m ∷ ms)) (triple_own r (m ∷ ms))))

-- a line and the lines after it
then_means : (r : ℕ) (d next : Meant) → MeansOwn r d → MeansOwn r next → MeansOwn r (then_meant d next)
then_means r (ls, Whole) next h k = All-append (HasOwnTerms r) ls next.0 h k
then_means r (ls, Faulty e) next h k = h

-- all lines
lines_mean : (r : ℕ) (line ms : List Mark) → MeansOwn r (lines_meant line ms)
lines_mean r line [] = line_means r line
lines_mean r line (m ∷ ms) =
    chosen (MeansOwn r) (is_line_end m.0) _ _ (then_means r (line_meant line) (lines_meant [] ms) (line_means r line) (lines_mean r [] ms))
    (lines_mean r (line ++ m ∷ []) ms)

-- a term, once its label is numbered
term_own : (r : ℕ) (n : Numbers) (t : LineTerm) → IsOwnTerm r t → NamesOwn r (term_of r n t).0
term_own r n (Fixed t) own = own
term_own r n (Labelled label) own = refl

-- the triples of lines
numbered_own : (r : ℕ) (n : Numbers) (ls : List LineTriple) → All (HasOwnTerms r) ls → All (HasOwn r) (all_stated (rest (numbering r) n ls).0)
unfolding rest
numbered_own r n [] own = All-nil (HasOwn r)
numbered_own r n (l ∷ ls) own =
    let here : HasOwnTerms r l = All-head (HasOwnTerms r) l ls own in
    let s : Term × Numbers = term_of r n l.subject in
    let o : Term × Numbers = term_of r s.1 l.object in
    All-cons (HasOwn r) _ _ (term_own r n l.subject here.0, here.1, term_own r s.1 l.object here.2) (numbered_own r o.1 ls (All-tail (HasOwnTerms r) l ls own))

-- a document of N-Triples
pub lines_own : (r : ℕ) (x : List ℕ) → All (HasOwn r) (all_stated (meaning_by r x).0)
unfolding meaning_by
lines_own r x = numbered_own r no_numbers (document_meant (marks 0 (symbols x))).0 (lines_mean r [] (marks 0 (symbols x)))

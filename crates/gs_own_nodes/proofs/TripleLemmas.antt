-- Triples of Turtle and of updates: in an honest language each triple that the rules give has terms of its request.
use Rattle.std.proofs.Common.{◌≡◌, ℕ, Bool, List, [], ◌∷◌, ◌++◌, refl}
use Rattle.std.specs.Prelude.{Option, Some, None, Result, Ok, Err, IfOk, codes}
use Rattle.std.specs.List.{All}
use Rattle.std.proofs.lemmas.Result.{IfOk-at_ok}
use Rattle.std.proofs.lemmas.List.Elements.{All-nil, All-cons, All-append}
use Rattle.gs_model.specs.Terms.{Term, Blank, Literal, Typed}
use Rattle.gs_escape.specs.Tokens.{rest_after}
use Rattle.gs_blank.specs.Numbers.{Numbers}
use Rattle.gs_triples.specs.Symbols.{TermToken, Label, Plain, Variable, Symbol, ATerm, A}
use Rattle.gs_triples.specs.Languages.{Language, of_terms}
use Rattle.gs_triples.specs.Meanings as meaning
use Rattle.gs_triples.specs.Meanings.{Fault, Context, made_of, iri, blank, rdf, rdf_value, with_numbers, standing, value_of, labelled}
use Rattle.gs_triples.specs.Goals.{Goal, Verbs, After, Semis, next_number, first_is, rest_is}
use Rattle.gs_triples.specs.Rules as rule
use Rattle.gs_triples.specs.Rules.{Covers}
use Rattle.gs_triples.specs.Triples as triples
use Rattle.gs_triples.specs.Triples.{AreTriples}
use Rattle.gs_own_nodes.specs.Own.{NamesOwn, HasOwn}
use Rattle.gs_own_nodes.proofs.AnswerLemmas.{chosen}
use Rattle.gs_own_nodes.proofs.TermLemmas.{iri_own, written_own, simple_own, tagged_own, typed_own}

-- a value with its numbers
numbered : {Value : Type 0} (P : Value → Type 0) (n : Numbers) (q : Result Value Fault) → IfOk q P → IfOk (with_numbers n q) (λ p. P p.0)
numbered P n (Err e) own = tt
numbered P n (Ok v) own = own

-- a variable, where one may stand
stands : {Value : Type 0} (P : Value → Type 0) (o : Option Value) → ((v : Value) → o ≡ Some v → P v) → IfOk (standing o) P
stands P None own = tt
stands P (Some v) own = own v refl

module _ {Value Triple : Type 0} where
  -- The values that a language makes of the request's terms and of variables are so, and triples of such values too.
  pub record IsHonest (l : Language Value Triple) (r : ℕ) (P : Value → Type 0) (Q : Triple → Type 0) : Type 0 where
    pub terms : (t : Term) → NamesOwn r t → P (l.of_term t)
    pub variables : (x : List ℕ) (v : Value) → l.variable x ≡ Some v → P v
    pub triples : (s p o : Value) → P s → P p → P o → Q (l.triple s p o)

  module _ (env : Context Value Triple) (P : Value → Type 0) (Q : Triple → Type 0) (k : IsHonest env.language env.request P Q) where
    -- a blank node of the request
    blank_own : (m : ℕ) → P (blank env m)
    blank_own m = k.terms (Blank env.request m) refl

    -- a name of the RDF vocabulary
    name_own : (x : List ℕ) → P (rdf_value env x)
    name_own x = k.terms (rdf x) tt

    -- a term's value
    value_own : (q : Result Term Fault) → IfOk q (NamesOwn env.request) → IfOk (value_of env q) P
    value_own (Err e) own = tt
    value_own (Ok t) own = k.terms t own

    -- a term that was found
    term_own : (q : Result Term Fault) (t : Term) → IfOk q (NamesOwn env.request) → q ≡ Ok t → P (env.language.of_term t)
    term_own q t own e = k.terms t (IfOk-at_ok (NamesOwn env.request) e own)

    -- an IRI
    iri_value : (w : TermToken) → IfOk (value_of env (iri env w)) P
    iri_value w = value_own (iri env w) (iri_own env.request env w)

    -- a verb
    verb_own : (t : Symbol) → IfOk (meaning.verb env t) P
    verb_own (ATerm (Variable x)) = stands P (env.language.variable x) (k.variables x)
    verb_own (ATerm w) = iri_value w
    verb_own A = name_own (codes "type")
    verb_own t = tt

    -- a label
    label_own : (n : Numbers) (o : Option (List ℕ)) → IfOk (labelled env n o) (λ p. P p.0)
    label_own n None = tt
    label_own n (Some l) = blank_own _

    -- the value of one token
    word_own : (n : Numbers) (w : TermToken) → IfOk (meaning.word env n w) (λ p. P p.0)
    unfolding meaning.word
    word_own n (Label x) = chosen (λ (q : Result (Value × Numbers) Fault). IfOk q (λ p. P p.0)) env.language.nodes _ _ (label_own n (rest_after (codes "_:") x)) tt
    word_own n (Plain x d) = numbered P n _ (value_own (made_of (Some (Literal x (Typed d)))) (written_own env.request x d))
    word_own n (Variable x) = numbered P n _ (stands P (env.language.variable x) (k.variables x))
    word_own n w = numbered P n _ (iri_value w)

    -- a subject of one token
    subject_own : (n : Numbers) (w : TermToken) → IfOk (meaning.subject env n w) (λ p. P p.0)
    subject_own n (Plain x d) = tt
    subject_own n w = word_own n w

    -- what a goal has read so far
    abbrev GoalOwn : Goal Value → Type 0
    GoalOwn (Verbs d s) = P s
    GoalOwn (After d s p) = P s × P p
    GoalOwn (Semis d s) = P s
    GoalOwn g = Unit {0}

    -- triples, one triple, and others
    with_one : (T U : List Triple) (t : Triple) → All Q T → Q t → All Q U → All Q ((T ++ t ∷ []) ++ U)
    with_one T U t a b c = All-append Q (T ++ t ∷ []) U (All-append Q T (t ∷ []) a (All-cons Q t [] b (All-nil Q))) c

    -- the object of a cell
    first_own : (m : ℕ) (o : Value) → P o → Q (first_is env m o)
    first_own m o own = k.triples (blank env m) (rdf_value env (codes "first")) o (blank_own m) (name_own (codes "first")) own

    -- what stands after a cell
    rest_own : (m : ℕ) (o : Value) → P o → Q (rest_is env m o)
    rest_own m o own = k.triples (blank env m) (rdf_value env (codes "rest")) o (blank_own m) (name_own (codes "rest")) own

    -- what a goal gives
    covers_own : {g : Goal Value} {n l : Numbers} {xs : List Symbol} {v : Value} {T : List Triple} → GoalOwn g → Covers env g n xs v T l → P v × All Q T
    covers_own own (rule.word {n = n} {k = k} {v = v} w q) = (IfOk-at_ok (λ p. P p.0) q (word_own n w), All-nil Q)
    covers_own own (rule.simple {t = t} x q) = (term_own (meaning.simple x) t (simple_own env.request x) q, All-nil Q)
    covers_own own (rule.tagged {t = t} x y q) = (term_own (meaning.tagged x y) t (tagged_own env.request x y) q, All-nil Q)
    covers_own own (rule.typed {t = t} x d q) = (term_own (meaning.typed env x d) t (typed_own env.request env x d) q, All-nil Q)
    covers_own own (rule.brackets q c) = covers_own tt c
    covers_own own (rule.anon m n) = (blank_own m, All-nil Q)
    covers_own own (rule.properties {m = m} c) = (blank_own m, (covers_own (blank_own m) c).1)
    covers_own own (rule.verbs {s = s} {p = p} {o = o} t {T = T} {U = U} q a b) =
        let verb : P p = IfOk-at_ok P q (verb_own t) in
        let object = covers_own tt a in
        let more = covers_own (own, verb) b in
        (more.0, with_one T U _ object.1 (k.triples s p o own verb object.0) more.1)
    covers_own own (rule.no_more s p n) = (own.0, All-nil Q)
    covers_own own (rule.comma {s = s} {p = p} {o = o} {T = T} {U = U} a b) =
        let object = covers_own tt a in
        let more = covers_own own b in
        (more.0, with_one T U _ object.1 (k.triples s p o own.0 own.1 object.0) more.1)
    covers_own own (rule.semicolon c) = covers_own own.0 c
    covers_own own (rule.none s n) = (own, All-nil Q)
    covers_own own (rule.again c) = covers_own own c
    covers_own own (rule.more c) = covers_own own c
    covers_own own (rule.list q c) = covers_own tt c
    covers_own own (rule.empty n) = (name_own (codes "nil"), All-nil Q)
    covers_own own (rule.begun {n = n} {o = o} {T = T} {U = U} q a b) =
        let object = covers_own tt a in
        let more = covers_own tt b in
        (more.0, with_one T U _ object.1 (first_own (next_number n) o object.0) more.1)
    covers_own own (rule.ended h m n) = (blank_own h, All-cons Q _ [] (rest_own m _ (name_own (codes "nil"))) (All-nil Q))
    covers_own own (rule.item {m = m} {n = n} {o = o} {T = T} {U = U} a b) =
        let object = covers_own tt a in
        let more = covers_own tt b in
        let next = rest_is env m (blank env (next_number n)) in
        let cell : All Q (first_is env (next_number n) o ∷ next ∷ []) =
        All-cons Q _ (next ∷ []) (first_own (next_number n) o object.0) (All-cons Q next [] (rest_own m _ (blank_own (next_number n))) (All-nil Q)) in
        (more.0, All-append Q _ U (All-append Q T _ object.1 cell) more.1)

    -- triples
    pub triples_own : {n l : Numbers} {xs : List Symbol} {T : List Triple} → AreTriples env n xs T l → All Q T
    triples_own {n = n} (triples.word {k = m} {s = s} w q c) = (covers_own (IfOk-at_ok (λ p. P p.0) q (subject_own n w)) c).1
    triples_own {n = n} (triples.anon q c) = (covers_own (blank_own (next_number n)) c).1
    triples_own (triples.list {T = T} {U = U} a b) = let subject = covers_own tt a in All-append Q T U subject.1 (covers_own subject.0 b).1
    triples_own (triples.lone_list q c) = (covers_own tt c).1
    triples_own {n = n} (triples.properties q c) = (covers_own (blank_own (next_number n)) c).1
    triples_own {n = n} (triples.properties_and {T = T} {U = U} q a b) =
        All-append Q T U (covers_own (blank_own (next_number n)) a).1 (covers_own (blank_own (next_number n)) b).1

-- a language of the terms and the triples of RDF is honest, whatever else may stand in it
pub terms_honest : (nodes lone_lists : Bool) (r : ℕ) → IsHonest (record of_terms { nodes = nodes; lone_lists = lone_lists }) r (NamesOwn r) (HasOwn r)
terms_honest nodes lone_lists r = record { terms = λ t own. own; variables = λ x v e. absurd (cc); triples = λ s p o a b c. (a, b, c) }

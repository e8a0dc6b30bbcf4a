-- Turtle's triples, from their subject on (25 February 2014, section 6.5), with exactly the tokens that they span.
use Rattle.std.specs.Prelude.{◌≡◌, true, List, [], ◌∷◌, ◌++◌, Ok}
use Rattle.gs_blank.specs.Numbers.{Numbers, one_more}
use Rattle.gs_triples.specs.Symbols.{TermToken, Symbol, ATerm, At, Carets, A, Open, Close, OpenList, Semicolon, Comma}
use Rattle.gs_triples.specs.Meanings.{Context, subject, blank}
use Rattle.gs_triples.specs.Goals.{Verbs, Begun, next_number}
use Rattle.gs_triples.specs.Rules.{Covers}

module _ {Value Triple : Type 0} where
  -- [6] triples, and the numbers after them
  pub data AreTriples (env : Context Value Triple) (n : Numbers) : List Symbol → List Triple → Numbers → Type 0 where
    -- [10] subject: an IRI, a label or a variable
    word : {k l : Numbers} {s v : Value} (w : TermToken) {xs : List Symbol} {T : List Triple} → subject env n w ≡ Ok (s, k)
        → Covers env (Verbs 0 s) k xs v T l → AreTriples env n (ATerm w ∷ xs) T l
    -- [162s] ANON
    anon : {l : Numbers} {v : Value} {xs : List Symbol} {T : List Triple} → env.language.nodes ≡ true
        → Covers env (Verbs 0 (blank env (next_number n))) (one_more n) xs v T l → AreTriples env n (Open ∷ Close ∷ xs) T l
    -- [15] collection
    list : {k l : Numbers} {s v : Value} {xs ys : List Symbol} {T U : List Triple} → Covers env (Begun 1) n xs s T k
        → Covers env (Verbs 0 s) k ys v U l → AreTriples env n (OpenList ∷ xs ++ ys) (T ++ U) l
    -- and alone, where it has an object and so a triple (SPARQL 1.1 Query, section 19.8: [75] and [98])
    lone_list : {k : Numbers} {s : Value} {t : Triple} {xs : List Symbol} {T : List Triple} → env.language.lone_lists ≡ true
        → Covers env (Begun 1) n xs s (t ∷ T) k → AreTriples env n (OpenList ∷ xs) (t ∷ T) k
    -- [14] blankNodePropertyList, alone or with a predicateObjectList
    properties : {k : Numbers} {v : Value} {xs : List Symbol} {T : List Triple} → env.language.nodes ≡ true
        → Covers env (Verbs 1 (blank env (next_number n))) (one_more n) xs v T k → AreTriples env n (Open ∷ xs ++ Close ∷ []) T k
    properties_and : {k l : Numbers} {v w : Value} {xs ys : List Symbol} {T U : List Triple} → env.language.nodes ≡ true
        → Covers env (Verbs 1 (blank env (next_number n))) (one_more n) xs v T k
        → Covers env (Verbs 0 (blank env (next_number n))) k ys w U l → AreTriples env n (Open ∷ xs ++ Close ∷ ys) (T ++ U) l

-- What may stand after triples, so that they end there: no verb, no ';' and ',', and no suffix of a string.
abbrev pub EndsVerbs : List Symbol → Type 0
EndsVerbs (ATerm w ∷ ts) = ⊥
EndsVerbs (A ∷ ts) = ⊥
EndsVerbs (Semicolon ∷ ts) = ⊥
EndsVerbs (Comma ∷ ts) = ⊥
EndsVerbs (At x ∷ ts) = ⊥
EndsVerbs (Carets ∷ ts) = ⊥
EndsVerbs ts = Unit {0}

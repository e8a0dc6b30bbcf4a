-- The rules of Turtle below a statement (25 February 2014, section 6.5), each with exactly the tokens that it spans.
use Rattle.std.specs.Prelude.{◌≡◌, ℕ, suc, true, List, [], ◌∷◌, ◌++◌, codes, Ok}
use Rattle.gs_model.specs.Terms.{Term}
use Rattle.gs_blank.specs.Numbers.{Numbers, one_more}
use Rattle.gs_triples.specs.Symbols.{TermToken, Symbol, ATerm, Text, At, Carets, Open, Close, OpenList, CloseList, Semicolon, Comma}
use Rattle.gs_triples.specs.Meanings as meaning
use Rattle.gs_triples.specs.Meanings.{Context, blank, rdf_value}
use Rattle.gs_triples.specs.Goals.{Goal, Object, Inside, Verbs, After, Semis, Begun, Items, may_open, may_open_node, next_number, first_is, rest_is}

module _ {Value Triple : Type 0} where
  -- The goal spans these tokens, where the blank nodes so far have these numbers; it gives a value, the object or else the
  -- subject, triples, and the numbers after it.
  pub data Covers (env : Context Value Triple) : Goal Value → Numbers → List Symbol → Value → List Triple → Numbers → Type 0 where
    -- an IRI, a label, a number, a boolean or a variable
    word : {d : ℕ} {n k : Numbers} {v : Value} (w : TermToken) → meaning.word env n w ≡ Ok (v, k)
        → Covers env (Object d) n (ATerm w ∷ []) v [] k
    -- [128s] RDFLiteral
    simple : {d : ℕ} {n : Numbers} {t : Term} (x : List ℕ) → meaning.simple x ≡ Ok t
        → Covers env (Object d) n (Text x ∷ []) (env.language.of_term t) [] n
    tagged : {d : ℕ} {n : Numbers} {t : Term} (x y : List ℕ) → meaning.tagged x y ≡ Ok t
        → Covers env (Object d) n (Text x ∷ At y ∷ []) (env.language.of_term t) [] n
    typed : {d : ℕ} {n : Numbers} {t : Term} (x : List ℕ) (datatype : Symbol) → meaning.typed env x datatype ≡ Ok t
        → Covers env (Object d) n (Text x ∷ Carets ∷ datatype ∷ []) (env.language.of_term t) [] n
    -- [162s] ANON and [14] blankNodePropertyList: the blank node is numbered where its '[' opens
    brackets : {d : ℕ} {n k : Numbers} {ts : List Symbol} {v : Value} {T : List Triple} → may_open_node env d ≡ true
        → Covers env (Inside (suc d) (next_number n)) (one_more n) ts v T k → Covers env (Object d) n (Open ∷ ts) v T k
    anon : {d : ℕ} (m : ℕ) (n : Numbers) → Covers env (Inside d m) n (Close ∷ []) (blank env m) [] n
    properties : {d m : ℕ} {n k : Numbers} {xs : List Symbol} {w : Value} {T : List Triple}
        → Covers env (Verbs d (blank env m)) n xs w T k → Covers env (Inside d m) n (xs ++ Close ∷ []) (blank env m) T k
    -- [7] predicateObjectList: a verb, and [8] objectList
    verbs : {d : ℕ} {s p o w : Value} {n k l : Numbers} (t : Symbol) {xs ys : List Symbol} {T U : List Triple}
        → meaning.verb env t ≡ Ok p → Covers env (Object d) n xs o T k → Covers env (After d s p) k ys w U l
        → Covers env (Verbs d s) n (t ∷ xs ++ ys) w ((T ++ env.language.triple s p o ∷ []) ++ U) l
    no_more : {d : ℕ} (s p : Value) (n : Numbers) → Covers env (After d s p) n [] s [] n
    comma : {d : ℕ} {s p o w : Value} {n k l : Numbers} {xs ys : List Symbol} {T U : List Triple}
        → Covers env (Object d) n xs o T k → Covers env (After d s p) k ys w U l
        → Covers env (After d s p) n (Comma ∷ xs ++ ys) w ((T ++ env.language.triple s p o ∷ []) ++ U) l
    -- ';', and then a verb and its objects, another ';', or nothing
    semicolon : {d : ℕ} {s p w : Value} {n k : Numbers} {ts : List Symbol} {T : List Triple}
        → Covers env (Semis d s) n ts w T k → Covers env (After d s p) n (Semicolon ∷ ts) w T k
    none : {d : ℕ} (s : Value) (n : Numbers) → Covers env (Semis d s) n [] s [] n
    again : {d : ℕ} {s w : Value} {n k : Numbers} {ts : List Symbol} {T : List Triple}
        → Covers env (Semis d s) n ts w T k → Covers env (Semis d s) n (Semicolon ∷ ts) w T k
    more : {d : ℕ} {s w : Value} {n k : Numbers} {ts : List Symbol} {T : List Triple}
        → Covers env (Verbs d s) n ts w T k → Covers env (Semis d s) n ts w T k
    -- [15] collection: a cell is numbered just before its object
    list : {d : ℕ} {n k : Numbers} {ts : List Symbol} {v : Value} {T : List Triple} → may_open d ≡ true
        → Covers env (Begun (suc d)) n ts v T k → Covers env (Object d) n (OpenList ∷ ts) v T k
    empty : {d : ℕ} (n : Numbers) → Covers env (Begun d) n (CloseList ∷ []) (rdf_value env (codes "nil")) [] n
    begun : {d : ℕ} {n k l : Numbers} {xs ys : List Symbol} {o w : Value} {T U : List Triple} → env.language.nodes ≡ true
        → Covers env (Object d) (one_more n) xs o T k → Covers env (Items d (next_number n) (next_number n)) k ys w U l
        → Covers env (Begun d) n (xs ++ ys) w ((T ++ first_is env (next_number n) o ∷ []) ++ U) l
    ended : {d : ℕ} (h m : ℕ) (n : Numbers)
        → Covers env (Items d h m) n (CloseList ∷ []) (blank env h) (rest_is env m (rdf_value env (codes "nil")) ∷ []) n
    item : {d h m : ℕ} {n k l : Numbers} {xs ys : List Symbol} {o w : Value} {T U : List Triple}
        → Covers env (Object d) (one_more n) xs o T k → Covers env (Items d h (next_number n)) k ys w U l
        → Covers env (Items d h m) n (xs ++ ys) w
        ((T ++ first_is env (next_number n) o ∷ rest_is env m (blank env (next_number n)) ∷ []) ++ U) l

-- What the program reads, the rules cover.
use Rattle.std.proofs.Common.{◌≡◌, ℕ, zero, suc, Bool, true, false, cond, List, [], ◌∷◌, ◌++◌, refl, sym, ap, ◌∙◌, append_assoc}
use Rattle.std.specs.Prelude.{Result, Ok, Err}
use Rattle.gs_model.specs.Terms.{Term}
use Rattle.gs_blank.specs.Numbers.{Numbers, one_more}
use Rattle.gs_triples.specs.Symbols.{TermToken, Symbol, ATerm, Text, At, Carets, A, Open, Close, OpenList, CloseList, Semicolon, Comma}
use Rattle.gs_triples.specs.Meanings as meaning
use Rattle.gs_triples.specs.Meanings.{Fault, Syntax, Context, blank, rdf_value}
use Rattle.gs_triples.specs.Goals.{Goal, Object, Inside, Verbs, After, Semis, Begun, Items, may_open, may_open_node, next_number, first_is, rest_is}
use Rattle.gs_triples.specs.Rules as rule
use Rattle.gs_triples.specs.Rules.{Covers}
use Rattle.gs_triples.specs.Reading.{Got, ◌and_then◌, with_front, bare, literal, one_token, close, closes, parse}

-- some tokens, then those of an object and of another goal
joins : (pre ts xs ys a b : List Symbol) → ts ≡ xs ++ a → a ≡ ys ++ b → pre ++ ts ≡ (pre ++ (xs ++ ys)) ++ b
joins pre ts xs ys a b e h =
    ap (λ z. pre ++ z) (e ∙ ap (λ z. xs ++ z) h ∙ sym (append_assoc xs ys b)) ∙ sym (append_assoc pre (xs ++ ys) b)

module _ {Value Triple : Type 0} where
  -- what was read of a goal is what its rules say of the tokens before its rest
  abbrev pub Covered : Context Value Triple → Goal Value → Numbers → List Symbol → Result (Got Value Triple) Fault → Type 0
  Covered env g n ts (Err e) = Unit {0}
  Covered env g n ts (Ok r) = (front : List Symbol) × (ts ≡ front ++ r.rest) × Covers env g n front r.value r.triples r.numbers

  -- the object of a first cell, and of a further one
  abbrev pub first_of : Context Value Triple → ℕ → Value → List Triple
  first_of env m o = first_is env m o ∷ []

  abbrev pub cell_of : Context Value Triple → ℕ → ℕ → Value → List Triple
  cell_of env m l o = first_is env m o ∷ rest_is env l (blank env m) ∷ []

  -- after an object, with its triples, another goal
  abbrev pub then_goal : Context Value Triple → ℕ → Goal Value → (Value → List Triple) → Got Value Triple → Result (Got Value Triple) Fault
  then_goal env f g X r = with_front (r.triples ++ X r.value) (parse env f g r.numbers r.rest)

  -- a rule of an object and another goal
  abbrev Rule : Context Value Triple → ℕ → Goal Value → Goal Value → Numbers → Numbers → List Symbol → (Value → List Triple) → Type 0
  Rule env d g then m n pre X = (xs ys : List Symbol) (o w : Value) (T U : List Triple) (k l : Numbers) → Covers env (Object d) n xs o T k → Covers env then k ys w U l
      → Covers env g m (pre ++ (xs ++ ys)) w ((T ++ X o) ++ U) l

  covered_then : (env : Context Value Triple) (f d : ℕ) (m n : Numbers) (g then : Goal Value) (pre ts : List Symbol) (X : Value → List Triple) → Rule env d g then m n pre X
      → ((k : Numbers) (us : List Symbol) → Covered env then k us (parse env f then k us))
      → (r : Result (Got Value Triple) Fault) → Covered env (Object d) n ts r
      → Covered env g m (pre ++ ts) (r and_then then_goal env f then X)
  covered_then env f d m n g then pre ts X rule ih (Err e) h = tt
  covered_then env f d m n g then pre ts X rule ih (Ok o) (xs, e, c) = go (parse env f then o.numbers o.rest) (ih o.numbers o.rest)
    where
      go : (r : Result (Got Value Triple) Fault) → Covered env then o.numbers o.rest r → Covered env g m (pre ++ ts) (with_front (o.triples ++ X o.value) r)
      go (Err e) h = tt
      go (Ok r) (ys, h, b) = (pre ++ (xs ++ ys), joins pre ts xs ys o.rest r.rest e h, rule xs ys o.value r.value o.triples r.triples o.numbers r.numbers c b)

  -- a goal after one token
  covered_after : (env : Context Value Triple) (g h : Goal Value) (m n : Numbers) (t : Symbol) (ts : List Symbol)
      → ((us : List Symbol) (v : Value) (T : List Triple) (k : Numbers) → Covers env h n us v T k → Covers env g m (t ∷ us) v T k)
      → (r : Result (Got Value Triple) Fault) → Covered env h n ts r → Covered env g m (t ∷ ts) r
  covered_after env g h m n t ts rule (Err e) c = tt
  covered_after env g h m n t ts rule (Ok r) (us, e, d) = (t ∷ us, ap (λ z. t ∷ z) e, rule us r.value r.triples r.numbers d)

  -- where a test holds, and else nothing is read
  covered_when : (env : Context Value Triple) (g : Goal Value) (n : Numbers) (ts : List Symbol) (b : Bool) (r : Result (Got Value Triple) Fault)
      → (b ≡ true → Covered env g n ts r) → Covered env g n ts (cond b r (Err Syntax))
  covered_when env g n ts true r c = c refl
  covered_when env g n ts false r c = tt

  -- the value of one token
  covered_named : (env : Context Value Triple) (d : ℕ) (n : Numbers) (w : TermToken) (ts : List Symbol) (r : Result (Value × Numbers) Fault) → meaning.word env n w ≡ r
      → Covered env (Object d) n (ATerm w ∷ ts) (one_token ts r)
  covered_named env d n w ts (Err e) h = tt
  covered_named env d n w ts (Ok p) h = (ATerm w ∷ [], refl, rule.word w h)

  -- a literal of these tokens
  covered_bare : (env : Context Value Triple) (d : ℕ) (n : Numbers) (front ts : List Symbol) (m r : Result Term Fault) → m ≡ r
      → ((t : Term) → m ≡ Ok t → Covers env (Object d) n front (env.language.of_term t) [] n) → Covered env (Object d) n (front ++ ts) (bare env n ts r)
  covered_bare env d n front ts m (Err e) h rule = tt
  covered_bare env d n front ts m (Ok t) h rule = (front, refl, rule t h)

  -- a string, and what may stand after it
  covered_literal : (env : Context Value Triple) (d : ℕ) (n : Numbers) (x : List ℕ) (ts : List Symbol) → Covered env (Object d) n (Text x ∷ ts) (literal env n x ts)
  covered_literal env d n x [] = covered_bare env d n (Text x ∷ []) [] (meaning.simple x) _ refl (λ v h. rule.simple x h)
  covered_literal env d n x (At y ∷ ts) = covered_bare env d n (Text x ∷ At y ∷ []) ts (meaning.tagged x y) _ refl (λ v h. rule.tagged x y h)
  covered_literal env d n x (Carets ∷ []) = tt
  covered_literal env d n x (Carets ∷ t ∷ ts) = covered_bare env d n (Text x ∷ Carets ∷ t ∷ []) ts (meaning.typed env x t) _ refl (λ v h. rule.typed x t h)
  covered_literal env d n x (t ∷ ts) = covered_bare env d n (Text x ∷ []) (t ∷ ts) (meaning.simple x) _ refl (λ v h. rule.simple x h)

  -- properties up to their ']'
  covered_close : (env : Context Value Triple) (d m : ℕ) (n : Numbers) (ts xs us : List Symbol) (w : Value) (T : List Triple) (k : Numbers) → ts ≡ xs ++ us
      → Covers env (Verbs d (blank env m)) n xs w T k → Covered env (Inside d m) n ts (close (blank env m) T k us)
  covered_close env d m n ts xs [] w T k e c = tt
  covered_close env d m n ts xs (Close ∷ us) w T k e c = (xs ++ Close ∷ [], e ∙ sym (append_assoc xs (Close ∷ []) us), rule.properties c)
  covered_close env d m n ts xs (t ∷ us) w T k e c = tt

  covered_closes : (env : Context Value Triple) (d m : ℕ) (n : Numbers) (ts : List Symbol) (r : Result (Got Value Triple) Fault) → Covered env (Verbs d (blank env m)) n ts r
      → Covered env (Inside d m) n ts (r and_then closes (blank env m))
  covered_closes env d m n ts (Err e) h = tt
  covered_closes env d m n ts (Ok g) (xs, e, c) = covered_close env d m n ts xs g.rest g.value g.triples g.numbers e c

  covered_verbs : (env : Context Value Triple) (f d : ℕ) (s : Value) (n : Numbers) (t : Symbol) (ts : List Symbol) (q : Result Value Fault) → meaning.verb env t ≡ q
      → ((p : Value) (k : Numbers) (us : List Symbol) → Covered env (After d s p) k us (parse env f (After d s p) k us))
      → Covered env (Object d) n ts (parse env f (Object d) n ts)
      → Covered env (Verbs d s) n (t ∷ ts) (q and_then λ p. parse env f (Object d) n ts and_then then_goal env f (After d s p) (λ o. env.language.triple s p o ∷ []))
  covered_verbs env f d s n t ts (Err e) h ih c = tt
  covered_verbs env f d s n t ts (Ok p) h ih c =
      covered_then env f d n n (Verbs d s) (After d s p) (t ∷ []) ts (λ o. env.language.triple s p o ∷ []) (λ xs ys o w T U k l a b. rule.verbs t h a b) (ih p) (parse env f (Object d) n ts) c

  -- a goal that is another one
  covered_as : (env : Context Value Triple) (g h : Goal Value) (n : Numbers) (ts : List Symbol)
      → ((us : List Symbol) (v : Value) (T : List Triple) (k : Numbers) → Covers env h n us v T k → Covers env g n us v T k)
      → (r : Result (Got Value Triple) Fault) → Covered env h n ts r → Covered env g n ts r
  covered_as env g h n ts rule (Err e) c = tt
  covered_as env g h n ts rule (Ok r) (us, e, d) = (us, e, rule us r.value r.triples r.numbers d)

  -- what is covered in so many steps
  abbrev Known : Context Value Triple → ℕ → Type 0
  Known env f = (g : Goal Value) (n : Numbers) (ts : List Symbol) → Covered env g n ts (parse env f g n ts)

  -- a collection that is not empty
  covered_begun : (env : Context Value Triple) (f d : ℕ) (n : Numbers) (ts : List Symbol) → Known env f
      → Covered env (Begun d) n ts (cond env.language.nodes (parse env f (Object d) (one_more n) ts and_then then_goal env f (Items d (next_number n) (next_number n)) (first_of env (next_number n))) (Err Syntax))
  covered_begun env f d n ts ih =
      covered_when env (Begun d) n ts env.language.nodes (parse env f (Object d) (one_more n) ts and_then then_goal env f (Items d (next_number n) (next_number n)) (first_of env (next_number n))) (λ q.
      covered_then env f d n (one_more n) (Begun d) (Items d (next_number n) (next_number n)) [] ts (first_of env (next_number n)) (λ xs ys o w T U k l a b. rule.begun q a b) (ih (Items d (next_number n) (next_number n))) (parse env f (Object d) (one_more n) ts) (ih (Object d) (one_more n) ts))

  -- a cell more
  covered_items : (env : Context Value Triple) (f d h m : ℕ) (n : Numbers) (ts : List Symbol) → Known env f
      → Covered env (Items d h m) n ts (parse env f (Object d) (one_more n) ts and_then then_goal env f (Items d h (next_number n)) (cell_of env (next_number n) m))
  covered_items env f d h m n ts ih =
      covered_then env f d n (one_more n) (Items d h m) (Items d h (next_number n)) [] ts (cell_of env (next_number n) m) (λ xs ys o w T U k l a b. rule.item a b) (ih (Items d h (next_number n))) (parse env f (Object d) (one_more n) ts) (ih (Object d) (one_more n) ts)

  -- the program reads what the rules cover
  pub covered : (env : Context Value Triple) (f : ℕ) (g : Goal Value) (n : Numbers) (ts : List Symbol) → Covered env g n ts (parse env f g n ts)
  unfolding parse
  covered env zero g n ts = tt
  covered env (suc f) (Object d) n [] = tt
  covered env (suc f) (Object d) n (ATerm w ∷ ts) = covered_named env d n w ts _ refl
  covered env (suc f) (Object d) n (Text x ∷ ts) = covered_literal env d n x ts
  covered env (suc f) (Object d) n (Open ∷ ts) =
      let inside : Goal Value = Inside (suc d) (next_number n) in
      covered_when env (Object d) n (Open ∷ ts) (may_open_node env d) (parse env f inside (one_more n) ts) (λ q.
      covered_after env (Object d) inside n (one_more n) Open ts (λ us v T k c. rule.brackets q c) (parse env f inside (one_more n) ts) (covered env f inside (one_more n) ts))
  covered env (suc f) (Object d) n (OpenList ∷ ts) =
      let begun : Goal Value = Begun (suc d) in
      covered_when env (Object d) n (OpenList ∷ ts) (may_open d) (parse env f begun n ts) (λ q.
      covered_after env (Object d) begun n n OpenList ts (λ us v T k c. rule.list q c) (parse env f begun n ts) (covered env f begun n ts))
  covered env (suc f) (Object d) n (t ∷ ts) = tt
  covered env (suc f) (Inside d m) n [] = covered_closes env d m n [] (parse env f (Verbs d (blank env m)) n []) (covered env f (Verbs d (blank env m)) n [])
  covered env (suc f) (Inside d m) n (Close ∷ ts) = (Close ∷ [], refl, rule.anon m n)
  covered env (suc f) (Inside d m) n (t ∷ ts) = covered_closes env d m n (t ∷ ts) (parse env f (Verbs d (blank env m)) n (t ∷ ts)) (covered env f (Verbs d (blank env m)) n (t ∷ ts))
  covered env (suc f) (Verbs d s) n [] = tt
  covered env (suc f) (Verbs d s) n (t ∷ ts) = covered_verbs env f d s n t ts (meaning.verb env t) refl (λ p. covered env f (After d s p)) (covered env f (Object d) n ts)
  covered env (suc f) (After d s p) n [] = ([], refl, rule.no_more s p n)
  covered env (suc f) (After d s p) n (Comma ∷ ts) =
      covered_then env f d n n (After d s p) (After d s p) (Comma ∷ []) ts (λ o. env.language.triple s p o ∷ []) (λ xs ys o w T U k l a b. rule.comma a b) (covered env f (After d s p)) (parse env f (Object d) n ts) (covered env f (Object d) n ts)
  covered env (suc f) (After d s p) n (Semicolon ∷ ts) = covered_after env (After d s p) (Semis d s) n n Semicolon ts (λ us v T k c. rule.semicolon c) (parse env f (Semis d s) n ts) (covered env f (Semis d s) n ts)
  covered env (suc f) (After d s p) n (t ∷ ts) = ([], refl, rule.no_more s p n)
  covered env (suc f) (Semis d s) n [] = ([], refl, rule.none s n)
  covered env (suc f) (Semis d s) n (Semicolon ∷ ts) = covered_after env (Semis d s) (Semis d s) n n Semicolon ts (λ us v T k c. rule.again c) (parse env f (Semis d s) n ts) (covered env f (Semis d s) n ts)
  covered env (suc f) (Semis d s) n (ATerm w ∷ ts) = covered_as env (Semis d s) (Verbs d s) n (ATerm w ∷ ts) (λ us v T k c. rule.more c) (parse env f (Verbs d s) n (ATerm w ∷ ts)) (covered env f (Verbs d s) n (ATerm w ∷ ts))
  covered env (suc f) (Semis d s) n (A ∷ ts) = covered_as env (Semis d s) (Verbs d s) n (A ∷ ts) (λ us v T k c. rule.more c) (parse env f (Verbs d s) n (A ∷ ts)) (covered env f (Verbs d s) n (A ∷ ts))
  covered env (suc f) (Semis d s) n (t ∷ ts) = ([], refl, rule.none s n)
  covered env (suc f) (Begun d) n (CloseList ∷ ts) = (CloseList ∷ [], refl, rule.empty n)
  covered env (suc f) (Begun d) n [] = covered_begun env f d n [] (covered env f)
  covered env (suc f) (Begun d) n (t ∷ ts) = covered_begun env f d n (t ∷ ts) (covered env f)
  covered env (suc f) (Items d h m) n (CloseList ∷ ts) = (CloseList ∷ [], refl, rule.ended h m n)
  covered env (suc f) (Items d h m) n [] = covered_items env f d h m n [] (covered env f)
  covered env (suc f) (Items d h m) n (t ∷ ts) = covered_items env f d h m n (t ∷ ts) (covered env f)

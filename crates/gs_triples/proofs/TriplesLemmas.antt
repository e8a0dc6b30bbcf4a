-- Triples: what the program reads, the rules cover, and the other way round.
use Rattle.std.proofs.Common.{◌≡◌, ℕ, ◌≤◌, Bool, true, false, cond, List, [], ◌∷◌, ◌++◌, refl, sym, ap, ◌∙◌, append_assoc, subst, arith}
use Rattle.std.specs.Prelude.{◌&&◌, Result, Ok, Err}
use Rattle.std.proofs.lemmas.Bool.{and_parts}
use Rattle.gs_blank.specs.Numbers.{Numbers, one_more}
use Rattle.gs_triples.specs.Symbols.{TermToken, Symbol, ATerm, A, Open, Close, OpenList}
use Rattle.gs_triples.specs.Meanings as meaning
use Rattle.gs_triples.specs.Meanings.{Fault, Syntax, Context, subject, blank}
use Rattle.gs_triples.specs.Goals.{Goal, Verbs, Begun, next_number}
use Rattle.gs_triples.specs.Rules as rule
use Rattle.gs_triples.specs.Rules.{Covers}
use Rattle.gs_triples.specs.Triples as statement
use Rattle.gs_triples.specs.Triples.{AreTriples, EndsVerbs}
use Rattle.gs_triples.specs.Reading.{Got, ◌and_then◌, with_front, close, closes, enough, read}
use Rattle.gs_triples.specs.Program.{CoversTriples, CoversReadings, ReadsTriples, starts_verb, verbs_after, verbs_or_none, stands_alone, after_list, verbs_of, in_brackets, triples_at}
use Rattle.gs_triples.proofs.BackLemmas.{Covered, covered}
use Rattle.gs_triples.proofs.FollowLemmas.{Follows}
use Rattle.gs_triples.proofs.ForthLemmas.{with_value, got, reads, rank, verb_begins}

-- where triples end, no verb begins
no_verb : (ts : List Symbol) → EndsVerbs ts → starts_verb ts ≡ false
no_verb [] h = refl
no_verb (ATerm w ∷ ts) h = elim h [ ]
no_verb (A ∷ ts) h = elim h [ ]
no_verb (t ∷ ts) h = refl

module _ {Value Triple : Type 0} where
  -- what is read of a goal
  read_covered : (env : Context Value Triple) (g : Goal Value) (n : Numbers) (ts : List Symbol) → Covered env g n ts (read env g n ts)
  read_covered env g n ts = covered env (enough ts) g n ts

  -- verbs after a subject of these tokens
  abbrev VerbsRule : Context Value Triple → Numbers → Numbers → Value → List Symbol → List Triple → Type 0
  VerbsRule env n k s front T = (xs : List Symbol) (v : Value) (U : List Triple) (l : Numbers) → Covers env (Verbs 0 s) k xs v U l → AreTriples env n (front ++ xs) (T ++ U) l

  -- verbs after a subject that has triples of its own
  back_verbs : (env : Context Value Triple) (n k : Numbers) (s : Value) (front ts : List Symbol) (T : List Triple) → VerbsRule env n k s front T
      → (r : Result (Got Value Triple) Fault) → Covered env (Verbs 0 s) k ts r → CoversTriples env n (front ++ ts) (with_front T r)
  back_verbs env n k s front ts T rule (Err e) c = tt
  back_verbs env n k s front ts T rule (Ok r) (xs, e, c) = (front ++ xs, ap (λ z. front ++ z) e ∙ sym (append_assoc front xs r.rest), rule xs r.value r.triples r.numbers c)

  -- and after one that has none
  back_bare : (env : Context Value Triple) (n k : Numbers) (s : Value) (front ts : List Symbol) → VerbsRule env n k s front []
      → (r : Result (Got Value Triple) Fault) → Covered env (Verbs 0 s) k ts r → CoversTriples env n (front ++ ts) r
  back_bare env n k s front ts rule (Err e) c = tt
  back_bare env n k s front ts rule (Ok r) (xs, e, c) = (front ++ xs, ap (λ z. front ++ z) e ∙ sym (append_assoc front xs r.rest), rule xs r.value r.triples r.numbers c)

  -- a subject of one token
  back_word : (env : Context Value Triple) (n : Numbers) (w : TermToken) (ts : List Symbol) (q : Result (Value × Numbers) Fault) → subject env n w ≡ q
      → CoversTriples env n (ATerm w ∷ ts) (q and_then verbs_of env ts)
  back_word env n w ts (Err e) h = tt
  back_word env n w ts (Ok p) h =
      back_bare env n p.1 p.0 (ATerm w ∷ []) ts (λ xs v U l c. statement.word w h c) (read env (Verbs 0 p.0) p.1 ts) (read_covered env (Verbs 0 p.0) p.1 ts)

  -- a subject that stands alone, or has verbs
  back_alone : (env : Context Value Triple) (n k : Numbers) (s : Value) (front rest : List Symbol) (T : List Triple) (b : Bool)
      → AreTriples env n front T k → VerbsRule env n k s front T
      → CoversTriples env n (front ++ rest) (cond b (verbs_after env (with_value s T k rest)) (Ok (with_value s T k rest)))
  back_alone env n k s front rest T true alone rule = back_verbs env n k s front rest T rule (read env (Verbs 0 s) k rest) (read_covered env (Verbs 0 s) k rest)
  back_alone env n k s front rest T false alone rule = (front, refl, alone)

  -- a collection that stands alone has an object
  lone : (env : Context Value Triple) (n k : Numbers) (s : Value) (xs : List Symbol) (T : List Triple) → stands_alone env T ≡ true
      → Covers env (Begun 1) n xs s T k → AreTriples env n (OpenList ∷ xs) T k
  lone env n k s xs [] q c = let none : false ≡ true = (and_parts env.language.lone_lists false q).1 in absurd (cc)
  lone env n k s xs (t ∷ T) q c = statement.lone_list (and_parts env.language.lone_lists true q).0 c

  -- a collection, where it may stand alone and where it may not
  back_either : (env : Context Value Triple) (n k : Numbers) (s : Value) (xs rest : List Symbol) (T : List Triple) (b : Bool) → stands_alone env T ≡ b
      → Covers env (Begun 1) n xs s T k
      → CoversTriples env n (OpenList ∷ xs ++ rest) (cond b (verbs_or_none env (with_value s T k rest)) (verbs_after env (with_value s T k rest)))
  back_either env n k s xs rest T true q c =
      back_alone env n k s (OpenList ∷ xs) rest T (starts_verb rest) (lone env n k s xs T q c) (λ ys v U l d. statement.list c d)
  back_either env n k s xs rest T false q c =
      back_verbs env n k s (OpenList ∷ xs) rest T (λ ys v U l d. statement.list c d) (read env (Verbs 0 s) k rest) (read_covered env (Verbs 0 s) k rest)

  -- a collection that is a subject
  back_list : (env : Context Value Triple) (n : Numbers) (ts : List Symbol) (r : Result (Got Value Triple) Fault) → Covered env (Begun 1) n ts r
      → CoversTriples env n (OpenList ∷ ts) (r and_then after_list env)
  back_list env n ts (Err e) c = tt
  back_list env n ts (Ok g) (xs, e, c) =
      subst (λ z. CoversTriples env n (OpenList ∷ z) (after_list env g)) (sym e)
      (back_either env n g.numbers g.value xs g.rest g.triples (stands_alone env g.triples) refl c)

  -- properties in brackets, up to their ']', and what stands after them
  back_close : (env : Context Value Triple) (n k : Numbers) (ts xs us : List Symbol) (v : Value) (T : List Triple) → env.language.nodes ≡ true → ts ≡ xs ++ us
      → Covers env (Verbs 1 (blank env (next_number n))) (one_more n) xs v T k
      → CoversTriples env n (Open ∷ ts) (close (blank env (next_number n)) T k us and_then verbs_or_none env)
  back_close env n k ts xs [] v T q e c = tt
  back_close env n k ts xs (Close ∷ us) v T q e c =
      subst (λ z. CoversTriples env n (Open ∷ z) (verbs_or_none env (with_value (blank env (next_number n)) T k us))) (append_assoc xs (Close ∷ []) us ∙ sym e)
      (back_alone env n k (blank env (next_number n)) (Open ∷ xs ++ Close ∷ []) us T (starts_verb us) (statement.properties q c) (λ ys w U l d.
      subst (λ z. AreTriples env n (Open ∷ z) (T ++ U) l) (sym (append_assoc xs (Close ∷ []) ys)) (statement.properties_and q c d)))
  back_close env n k ts xs (t ∷ us) v T q e c = tt

  -- properties in brackets
  back_properties : (env : Context Value Triple) (n : Numbers) (ts : List Symbol) (r : Result (Got Value Triple) Fault) → env.language.nodes ≡ true
      → Covered env (Verbs 1 (blank env (next_number n))) (one_more n) ts r
      → CoversTriples env n (Open ∷ ts) ((r and_then closes (blank env (next_number n))) and_then verbs_or_none env)
  back_properties env n ts (Err e) q c = tt
  back_properties env n ts (Ok g) q (xs, e, c) = back_close env n g.numbers ts xs g.rest g.value g.triples q e c

  -- a '[', where one may stand
  back_open : (env : Context Value Triple) (n : Numbers) (ts : List Symbol) (b : Bool) → env.language.nodes ≡ b
      → CoversTriples env n (Open ∷ ts) (cond b (in_brackets env n ts) (Err Syntax))
  back_open env n ts false q = tt
  back_open env n [] true q = back_properties env n [] _ q (read_covered env (Verbs 1 (blank env (next_number n))) (one_more n) [])
  back_open env n (Close ∷ ts) true q =
      back_bare env n (one_more n) (blank env (next_number n)) (Open ∷ Close ∷ []) ts (λ xs v U l c. statement.anon q c) _ (read_covered env (Verbs 0 (blank env (next_number n))) (one_more n) ts)
  back_open env n (t ∷ ts) true q = back_properties env n (t ∷ ts) _ q (read_covered env (Verbs 1 (blank env (next_number n))) (one_more n) (t ∷ ts))

  -- what the program reads, the rules say of a front of the tokens
  pub triples_covered : (env : Context Value Triple) → CoversReadings env
  unfolding triples_at
  triples_covered env n [] = tt
  triples_covered env n (ATerm w ∷ ts) = back_word env n w ts (subject env n w) refl
  triples_covered env n (Open ∷ ts) = back_open env n ts env.language.nodes refl
  triples_covered env n (OpenList ∷ ts) = back_list env n ts _ (read_covered env (Begun 1) n ts)
  triples_covered env n (t ∷ ts) = tt

  -- a goal that ends where it ends
  read_of : (env : Context Value Triple) (g : Goal Value) (n k : Numbers) (xs rest : List Symbol) (v : Value) (T : List Triple) → Covers env g n xs v T k → rank g ≤ 1
      → Follows g rest → read env g n (xs ++ rest) ≡ got v T k rest
  read_of env g n k xs rest v T c small h = reads env (enough (xs ++ rest)) c rest (omega arith) h

  -- a '[' where one may stand
  opens : (env : Context Value Triple) (n : Numbers) (ts : List Symbol) → env.language.nodes ≡ true → triples_at env n (Open ∷ ts) ≡ in_brackets env n ts
  unfolding triples_at
  opens env n ts q = ap (λ z. cond z (in_brackets env n ts) (Err Syntax)) q

  -- the verbs of brackets that open a statement
  open_by : (env : Context Value Triple) (m : Numbers) (t : Symbol) (ts : List Symbol) (p : Value) → meaning.verb env t ≡ Ok p
      → in_brackets env m (t ∷ ts) ≡ ((read env (Verbs 1 (blank env (next_number m))) (one_more m) (t ∷ ts) and_then closes (blank env (next_number m))) and_then verbs_or_none env)
  open_by env m Close ts p h = absurd (cc)
  open_by env m t ts p h = refl

  open_goes : {env : Context Value Triple} {d : ℕ} {s v : Value} {n k : Numbers} {xs : List Symbol} {T : List Triple} (m : Numbers) → Covers env (Verbs d s) n xs v T k → (z : List Symbol)
      → in_brackets env m (xs ++ z) ≡ ((read env (Verbs 1 (blank env (next_number m))) (one_more m) (xs ++ z) and_then closes (blank env (next_number m))) and_then verbs_or_none env)
  open_goes {env = env} m (rule.verbs {p = p} t {xs = xs} {ys = ys} h a b) z = open_by env m t ((xs ++ ys) ++ z) p h

  -- properties in brackets, up to their ']'
  brackets_read : (env : Context Value Triple) (n k : Numbers) (xs rest : List Symbol) (v : Value) (T : List Triple) → env.language.nodes ≡ true
      → Covers env (Verbs 1 (blank env (next_number n))) (one_more n) xs v T k
      → triples_at env n (Open ∷ (xs ++ Close ∷ rest)) ≡ verbs_or_none env (with_value (blank env (next_number n)) T k rest)
  brackets_read env n k xs rest v T q c =
      opens env n (xs ++ Close ∷ rest) q ∙ open_goes n c (Close ∷ rest)
      ∙ ap (λ z. (z and_then closes (blank env (next_number n))) and_then verbs_or_none env) (read_of env (Verbs 1 (blank env (next_number n))) (one_more n) k xs (Close ∷ rest) v T c (omega arith) tt)

  -- verbs begin with one
  verbs_start : {env : Context Value Triple} {d : ℕ} {s v : Value} {n k : Numbers} {xs : List Symbol} {T : List Triple} → Covers env (Verbs d s) n xs v T k → (z : List Symbol) → starts_verb (xs ++ z) ≡ true
  verbs_start {env = env} (rule.verbs {p = p} t h a b) z = verb_begins env t p h

  -- a collection with verbs, whether it may stand alone or not
  after_either : (b c : Bool) (x y : Result (Got Value Triple) Fault) → c ≡ true → cond b (cond c x y) x ≡ x
  after_either true c x y h = ap (λ z. cond z x y) h
  after_either false c x y h = refl

  -- what the rules say of a front of some tokens, the program reads
  pub triples_read : {env : Context Value Triple} {n k : Numbers} {xs : List Symbol} {T : List Triple} → AreTriples env n xs T k → (rest : List Symbol) → EndsVerbs rest
      → ReadsTriples env n (xs ++ rest) T k rest
  unfolding triples_at
  triples_read {env = env} {n = n} (statement.word {k = k} {l = l} {s = s} {v = v} w {xs = xs} {T = T} q c) rest h =
      (v, ap (λ z. z and_then verbs_of env (xs ++ rest)) q ∙ read_of env (Verbs 0 s) k l xs rest v T c (omega arith) h)
  triples_read {env = env} {n = n} (statement.anon {l = l} {v = v} {xs = xs} {T = T} q c) rest h =
      (v, opens env n (Close ∷ (xs ++ rest)) q ∙ read_of env (Verbs 0 (blank env (next_number n))) (one_more n) l xs rest v T c (omega arith) h)
  triples_read {env = env} {n = n} (statement.list {k = k} {l = l} {s = s} {v = v} {xs = xs} {ys = ys} {T = T} {U = U} a b) rest h =
      let G : Got Value Triple = with_value s T k (ys ++ rest) in (
        v,
        ap (λ z. read env (Begun 1) n z and_then after_list env) (append_assoc xs ys rest)
            ∙ ap (λ z. z and_then after_list env) (read_of env (Begun 1) n k xs (ys ++ rest) s T a (omega arith) tt)
            ∙ after_either (stands_alone env T) (starts_verb (ys ++ rest)) (verbs_after env G) (Ok G) (verbs_start b rest)
            ∙ ap (λ z. with_front T z) (read_of env (Verbs 0 s) k l ys rest v U b (omega arith) h),
      )
  triples_read {env = env} {n = n} (statement.lone_list {k = k} {s = s} {t = t} {xs = xs} {T = T} q c) rest h =
      let G : Got Value Triple = with_value s (t ∷ T) k rest in (
        s,
        ap (λ z. z and_then after_list env) (read_of env (Begun 1) n k xs rest s (t ∷ T) c (omega arith) tt)
            ∙ ap (λ z. cond (z && true) (verbs_or_none env G) (verbs_after env G)) q
            ∙ ap (λ z. cond z (verbs_after env G) (Ok G)) (no_verb rest h),
      )
  triples_read {env = env} {n = n} (statement.properties {k = k} {v = v} {xs = xs} {T = T} q c) rest h =
      let G : Got Value Triple = with_value (blank env (next_number n)) T k rest in (
        blank env (next_number n),
        ap (λ z. triples_at env n (Open ∷ z)) (append_assoc xs (Close ∷ []) rest)
            ∙ brackets_read env n k xs rest v T q c
            ∙ ap (λ z. cond z (verbs_after env G) (Ok G)) (no_verb rest h),
      )
  triples_read {env = env} {n = n} (statement.properties_and {k = k} {l = l} {v = v} {w = w} {xs = xs} {ys = ys} {T = T} {U = U} q a c) rest h =
      let G : Got Value Triple = with_value (blank env (next_number n)) T k (ys ++ rest) in (
        w,
        ap (λ z. triples_at env n (Open ∷ z)) (append_assoc xs (Close ∷ ys) rest)
            ∙ brackets_read env n k xs (ys ++ rest) v T q a
            ∙ ap (λ z. cond z (verbs_after env G) (Ok G)) (verbs_start c rest)
            ∙ ap (λ z. with_front T z) (read_of env (Verbs 0 (blank env (next_number n))) k l ys rest w U c (omega arith) h),
      )

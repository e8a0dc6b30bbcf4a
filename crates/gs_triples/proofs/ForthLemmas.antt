-- What the rules cover, the program reads.
use Rattle.std.proofs.Common.{◌≡◌, ℕ, zero, suc, ◌+◌, ◌*◌, ◌<◌, Bool, true, cond, List, [], ◌∷◌, ◌++◌, length, refl, sym, ap, ◌∙◌, append_assoc, arith, length-append}
use Rattle.std.specs.Prelude.{Result, Ok, Err}
use Rattle.gs_blank.specs.Numbers.{Numbers, one_more}
use Rattle.gs_triples.specs.Symbols.{Symbol, ATerm, A, Close, Semicolon, Comma}
use Rattle.gs_triples.specs.Meanings as meaning
use Rattle.gs_triples.specs.Meanings.{Fault, Syntax, Context, blank, rdf_value}
use Rattle.gs_triples.specs.Goals.{Goal, Object, Inside, Verbs, After, Semis, Begun, Items, may_open, may_open_node, next_number}
use Rattle.gs_triples.specs.Triples.{EndsVerbs}
use Rattle.gs_triples.specs.Rules as rule
use Rattle.gs_triples.specs.Rules.{Covers}
use Rattle.gs_triples.specs.Reading.{Got, ◌and_then◌, with_front, bare, one_token, closes, begins_verb, parse}
use Rattle.gs_triples.proofs.BackLemmas.{first_of, cell_of, then_goal}
use Rattle.gs_triples.proofs.FollowLemmas.{Follows, after_object, after_cell, literal-simple}

module _ {Value : Type 0} where
  -- a goal that may take a step and no token
  abbrev pub rank : Goal Value → ℕ
  rank (Inside d m) = 1
  rank (Semis d s) = 1
  rank (Begun d) = 1
  rank (Items d h m) = 1
  rank g = 0

module _ {Value Triple : Type 0} where
  -- what is read, with its value, its triples and its numbers
  abbrev pub with_value : Value → List Triple → Numbers → List Symbol → Got Value Triple
  with_value v T n ts = record { value = v; triples = T; numbers = n; rest = ts }

  -- and that there is no fault
  abbrev pub got : Value → List Triple → Numbers → List Symbol → Result (Got Value Triple) Fault
  got v T n ts = Ok (with_value v T n ts)

  -- where an object's triples end
  ends_after : (env : Context Value Triple) (f d : ℕ) (s p : Value) (n : Numbers) (ts : List Symbol) → EndsVerbs ts → parse env (suc f) (After d s p) n ts ≡ got s [] n ts
  unfolding parse
  ends_after env f d s p n [] h = refl
  ends_after env f d s p n (Comma ∷ ts) h = elim h [ ]
  ends_after env f d s p n (Semicolon ∷ ts) h = elim h [ ]
  ends_after env f d s p n (t ∷ ts) h = refl

  -- and after a ';'
  ends_semis : (env : Context Value Triple) (f d : ℕ) (s : Value) (n : Numbers) (ts : List Symbol) → EndsVerbs ts → parse env (suc f) (Semis d s) n ts ≡ got s [] n ts
  unfolding parse
  ends_semis env f d s n [] h = refl
  ends_semis env f d s n (Semicolon ∷ ts) h = elim h [ ]
  ends_semis env f d s n (ATerm w ∷ ts) h = elim h [ ]
  ends_semis env f d s n (A ∷ ts) h = elim h [ ]
  ends_semis env f d s n (t ∷ ts) h = refl

  -- an object, and then another goal
  reads_then : (env : Context Value Triple) (f d : ℕ) (n k l : Numbers) (g : Goal Value) (xs ys rest : List Symbol) (o w : Value) (T U : List Triple) (X : Value → List Triple)
      → parse env f (Object d) n (xs ++ (ys ++ rest)) ≡ got o T k (ys ++ rest) → parse env f g k (ys ++ rest) ≡ got w U l rest
      → (parse env f (Object d) n ((xs ++ ys) ++ rest) and_then then_goal env f g X) ≡ got w ((T ++ X o) ++ U) l rest
  reads_then env f d n k l g xs ys rest o w T U X one two =
      ap (λ z. parse env f (Object d) n z and_then then_goal env f g X) (append_assoc xs ys rest)
      ∙ ap (λ z. z and_then then_goal env f g X) one
      ∙ ap (with_front (T ++ X o)) two

  -- a collection that is not empty begins with an object
  begun_goes : {env : Context Value Triple} {d : ℕ} {n k : Numbers} {xs : List Symbol} {o : Value} {T : List Triple} (f : ℕ) (m : Numbers) → Covers env (Object d) n xs o T k → (z : List Symbol)
      → parse env (suc f) (Begun d) m (xs ++ z) ≡ cond env.language.nodes (parse env f (Object d) (one_more m) (xs ++ z) and_then then_goal env f (Items d (next_number m) (next_number m)) (first_of env (next_number m))) (Err Syntax)
  unfolding parse
  begun_goes f m (rule.word w h) z = refl
  begun_goes f m (rule.simple x h) z = refl
  begun_goes f m (rule.tagged x y h) z = refl
  begun_goes f m (rule.typed x t h) z = refl
  begun_goes f m (rule.brackets h c) z = refl
  begun_goes f m (rule.list h c) z = refl

  -- and so does a cell more
  items_goes : {env : Context Value Triple} {d : ℕ} {n k : Numbers} {xs : List Symbol} {o : Value} {T : List Triple} (f a b : ℕ) (m : Numbers) → Covers env (Object d) n xs o T k → (z : List Symbol)
      → parse env (suc f) (Items d a b) m (xs ++ z) ≡ (parse env f (Object d) (one_more m) (xs ++ z) and_then then_goal env f (Items d a (next_number m)) (cell_of env (next_number m) b))
  unfolding parse
  items_goes f a b m (rule.word w h) z = refl
  items_goes f a b m (rule.simple x h) z = refl
  items_goes f a b m (rule.tagged x y h) z = refl
  items_goes f a b m (rule.typed x t h) z = refl
  items_goes f a b m (rule.brackets h c) z = refl
  items_goes f a b m (rule.list h c) z = refl

  -- a verb begins with a term or `a`
  pub verb_begins : (env : Context Value Triple) (t : Symbol) (p : Value) → meaning.verb env t ≡ Ok p → begins_verb t ≡ true
  verb_begins env (ATerm w) p h = refl
  verb_begins env A p h = refl
  verb_begins env t p h = absurd (cc)

  -- after a '[', where a verb stands
  inside_by : (env : Context Value Triple) (f e m : ℕ) (i : Numbers) (t : Symbol) (ts : List Symbol) (p : Value) → meaning.verb env t ≡ Ok p
      → parse env (suc f) (Inside e m) i (t ∷ ts) ≡ (parse env f (Verbs e (blank env m)) i (t ∷ ts) and_then closes (blank env m))
  unfolding parse
  inside_by env f e m i Close ts p h = absurd (cc)
  inside_by env f e m i t ts p h = refl

  -- after a ';', where a verb stands
  semis_by : (env : Context Value Triple) (f d : ℕ) (s : Value) (i : Numbers) (t : Symbol) (ts : List Symbol) (p : Value) → meaning.verb env t ≡ Ok p
      → parse env (suc f) (Semis d s) i (t ∷ ts) ≡ parse env f (Verbs d s) i (t ∷ ts)
  unfolding parse
  semis_by env f d s i (ATerm w) ts p h = refl
  semis_by env f d s i A ts p h = refl
  semis_by env f d s i t ts p h = absurd (cc)

  -- a list of verbs and objects after a '['
  inside_goes : {env : Context Value Triple} {d : ℕ} {s v : Value} {n k : Numbers} {xs : List Symbol} {T : List Triple} (f e m : ℕ) (i : Numbers) → Covers env (Verbs d s) n xs v T k → (z : List Symbol)
      → parse env (suc f) (Inside e m) i (xs ++ z) ≡ (parse env f (Verbs e (blank env m)) i (xs ++ z) and_then closes (blank env m))
  inside_goes {env = env} f e m i (rule.verbs {p = p} t {xs = xs} {ys = ys} h a b) z = inside_by env f e m i t ((xs ++ ys) ++ z) p h

  -- and after a ';'
  semis_goes : {env : Context Value Triple} {d : ℕ} {s v : Value} {n k : Numbers} {xs : List Symbol} {T : List Triple} (f : ℕ) (i : Numbers) → Covers env (Verbs d s) n xs v T k → (z : List Symbol)
      → parse env (suc f) (Semis d s) i (xs ++ z) ≡ parse env f (Verbs d s) i (xs ++ z)
  semis_goes {env = env} {d = d} {s = s} f i (rule.verbs {p = p} t {xs = xs} {ys = ys} h a b) z = semis_by env f d s i t ((xs ++ ys) ++ z) p h

  -- an object takes a token
  pub takes : {env : Context Value Triple} {d : ℕ} {n k : Numbers} {xs : List Symbol} {o : Value} {T : List Triple} → Covers env (Object d) n xs o T k → 0 < length xs
  takes (rule.word w h) = omega arith
  takes (rule.simple x h) = omega arith
  takes (rule.tagged x y h) = omega arith
  takes (rule.typed x t h) = omega arith
  takes (rule.brackets h c) = omega arith
  takes (rule.list h c) = omega arith

  -- a bracket that may open
  reads_open : (b : Bool) (r q : Result (Got Value Triple) Fault) → b ≡ true → r ≡ q → cond b r (Err Syntax) ≡ q
  reads_open b r q h e = ap (λ z. cond z r (Err Syntax)) h ∙ e

  -- what the rules cover, the program reads
  pub reads : (env : Context Value Triple) (f : ℕ) {g : Goal Value} {n k : Numbers} {xs : List Symbol} {v : Value} {T : List Triple} → Covers env g n xs v T k
      → (rest : List Symbol) → 2 * length (xs ++ rest) + rank g < f → Follows g rest → parse env f g n (xs ++ rest) ≡ got v T k rest
  unfolding parse
  reads env zero c rest h e = absurd (omega arith)
  reads env (suc f) (rule.word w q) rest h e = ap (one_token rest) q
  reads env (suc f) {n = n} (rule.simple x q) rest h e = literal-simple env n x rest e ∙ ap (bare env n rest) q
  reads env (suc f) {n = n} (rule.tagged x y q) rest h e = ap (bare env n rest) q
  reads env (suc f) {n = n} (rule.typed x t q) rest h e = ap (bare env n rest) q
  reads env (suc f) (rule.brackets {d = d} q c) rest h e = reads_open (may_open_node env d) _ _ q (reads env f c rest (omega arith) tt)
  reads env (suc f) (rule.list {d = d} q c) rest h e = reads_open (may_open d) _ _ q (reads env f c rest (omega arith) tt)
  reads env (suc f) (rule.anon m n) rest h e = refl
  reads env (suc f) (rule.no_more s p n) rest h e = ends_after env f _ s p n rest e
  reads env (suc f) (rule.none s n) rest h e = ends_semis env f _ s n rest e
  reads env (suc f) (rule.empty n) rest h e = refl
  reads env (suc f) (rule.ended a m n) rest h e = refl
  reads env (suc f) (rule.semicolon c) rest h e = reads env f c rest (omega arith) e
  reads env (suc f) (rule.again c) rest h e = reads env f c rest (omega arith) e
  reads env (suc f) {n = n} (rule.more c) rest h e = semis_goes f n c rest ∙ reads env f c rest (omega arith) e
  reads env (suc f) (rule.properties {d = d} {m = m} {n = n} {k = k} {xs = xs} {w = w} {T = T} c) rest h e =
      let size = simp length-append at h in
      let one : parse env f (Verbs d (blank env m)) n (xs ++ Close ∷ rest) ≡ got w T k (Close ∷ rest) = reads env f c (Close ∷ rest) (simp length-append (omega arith)) tt in
      ap (parse env (suc f) (Inside d m) n) (append_assoc xs (Close ∷ []) rest)
      ∙ inside_goes f d m n c (Close ∷ rest)
      ∙ ap (λ z. z and_then closes (blank env m)) one
  reads env (suc f) (rule.verbs {d = d} {s = s} {p = p} {o = o} {w = w} {n = n} {k = k} {l = l} t {xs = xs} {ys = ys} {T = T} {U = U} q a b) rest h e =
      let size = simp length-append at h in
      ap (λ z. z and_then λ p. parse env f (Object d) n ((xs ++ ys) ++ rest) and_then then_goal env f (After d s p) (λ o. env.language.triple s p o ∷ [])) q
      ∙ reads_then env f d n k l (After d s p) xs ys rest o w T U (λ o. env.language.triple s p o ∷ []) (reads env f a (ys ++ rest) (simp length-append (omega arith)) (after_object b rest e)) (reads env f b rest (simp length-append (omega arith)) e)
  reads env (suc f) (rule.comma {d = d} {s = s} {p = p} {o = o} {w = w} {n = n} {k = k} {l = l} {xs = xs} {ys = ys} {T = T} {U = U} a b) rest h e =
      let size = simp length-append at h in
      reads_then env f d n k l (After d s p) xs ys rest o w T U (λ o. env.language.triple s p o ∷ []) (reads env f a (ys ++ rest) (simp length-append (omega arith)) (after_object b rest e)) (reads env f b rest (simp length-append (omega arith)) e)
  reads env (suc f) (rule.begun {d = d} {n = n} {k = k} {l = l} {xs = xs} {ys = ys} {o = o} {w = w} {T = T} {U = U} q a b) rest h e =
      let size = simp length-append at h in
      let some : 0 < length xs = takes a in
      ap (parse env (suc f) (Begun d) n) (append_assoc xs ys rest) ∙ begun_goes f n a (ys ++ rest)
      ∙ ap (λ z. cond z (parse env f (Object d) (one_more n) (xs ++ (ys ++ rest)) and_then then_goal env f (Items d (next_number n) (next_number n)) (first_of env (next_number n))) (Err Syntax)) q
      ∙ ap (λ z. parse env f (Object d) (one_more n) z and_then then_goal env f (Items d (next_number n) (next_number n)) (first_of env (next_number n))) (sym (append_assoc xs ys rest))
      ∙ reads_then env f d (one_more n) k l (Items d (next_number n) (next_number n)) xs ys rest o w T U (first_of env (next_number n)) (reads env f a (ys ++ rest) (simp length-append (omega arith)) (after_cell b rest)) (reads env f b rest (simp length-append (omega arith)) tt)
  reads env (suc f) (rule.item {d = d} {h = i} {m = m} {n = n} {k = k} {l = l} {xs = xs} {ys = ys} {o = o} {w = w} {T = T} {U = U} a b) rest h e =
      let size = simp length-append at h in
      let some : 0 < length xs = takes a in
      ap (parse env (suc f) (Items d i m) n) (append_assoc xs ys rest) ∙ items_goes f i m n a (ys ++ rest)
      ∙ ap (λ z. parse env f (Object d) (one_more n) z and_then then_goal env f (Items d i (next_number n)) (cell_of env (next_number n) m)) (sym (append_assoc xs ys rest))
      ∙ reads_then env f d (one_more n) k l (Items d i (next_number n)) xs ys rest o w T U (cell_of env (next_number n) m) (reads env f a (ys ++ rest) (simp length-append (omega arith)) (after_cell b rest)) (reads env f b rest (simp length-append (omega arith)) tt)

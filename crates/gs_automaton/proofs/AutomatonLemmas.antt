-- Laws of automata: what the longest token at the front of a text is.
use Rattle.std.proofs.Common.{◌≡◌, ◌≢◌, ◌<◌, ◌≤◌, List, [], ◌∷◌, ◌++◌, refl, sym, ap, ◌∙◌, arith, subst, length, length-append, Option, Some, None}
use Rattle.gs_automaton.specs.Automata.{Automaton, run_from, kind_at, Found, found_after, longest_from}

-- what is found in a text that goes on with y
abbrev pub onward : {K I : Type 0} → List I → Found K I → Found K I
onward y None = None
onward y (Some t) = Some (t.0, t.1, t.2 ++ y)

pub after_onward : {K I : Type 0} (i : I) (is y : List I) (k : Option K) (f : Found K I) → found_after i (is ++ y) k (onward y f) ≡ onward y (found_after i is k f)
after_onward i is y k (Some f) = refl
after_onward i is y (Some k) None = refl
after_onward i is y None None = refl

-- what was found
pub record Split {K I : Type 0} (x : List I) (t : K × List I × List I) : Type 0 where
  pub parts : x ≡ t.1 ++ t.2
  pub some : 0 < length t.1

abbrev pub IsSplit : {K I : Type 0} → List I → Found K I → Type 0
IsSplit x None = Unit {0}
IsSplit x (Some t) = Split x t

after_split : {K I : Type 0} (i : I) (is : List I) (k : Option K) (f : Found K I) → IsSplit is f → IsSplit (i ∷ is) (found_after i is k f)
after_split i is k (Some f) s = record { parts = ap (λ z. i ∷ z) s.parts; some = omega arith }
after_split i is (Some k) None s = record { parts = refl; some = omega arith }
after_split i is None None s = tt

pub longest-split : {Q K I : Type 0} (a : Automaton Q K I) (q : Option Q) (x : List I) → IsSplit x (longest_from a q x)
longest-split a None x = tt
longest-split a (Some q) [] = tt
longest-split a (Some q) (i ∷ is) = after_split i is (kind_at a (a.next q i)) (longest_from a (a.next q i) is) (longest-split a (a.next q i) is)

pub shorter : {K I : Type 0} {x : List I} {t : K × List I × List I} → Split x t → length t.2 < length x
shorter {x = x} {t = t} s = omega (arith, length-append t.1 t.2, ap length s.parts, s.some)

abbrev pub then_next : {Q K I : Type 0} → Automaton Q K I → Option Q → I → Option Q
then_next a None i = None
then_next a (Some q) i = a.next q i

pub run-snoc : {Q K I : Type 0} (a : Automaton Q K I) (q : Option Q) (x : List I) (i : I) → run_from a q (x ++ i ∷ []) ≡ then_next a (run_from a q x) i
run-snoc a None [] i = refl
run-snoc a (Some q) [] i = refl
run-snoc a None (c ∷ x) i = refl
run-snoc a (Some q) (c ∷ x) i = run-snoc a (a.next q c) x i

pub none-stays : {Q K I : Type 0} (a : Automaton Q K I) (x : List I) → run_from a None x ≡ None
none-stays a [] = refl
none-stays a (c ∷ x) = refl

pub run-append : {Q K I : Type 0} (a : Automaton Q K I) (q : Option Q) (x y : List I) → run_from a q (x ++ y) ≡ run_from a (run_from a q x) y
run-append a q [] y = refl
run-append a None (c ∷ x) y = sym (none-stays a y)
run-append a (Some q) (c ∷ x) y = run-append a (a.next q c) x y

-- what is found in x and one character more, where a token goes on so
abbrev pub one_more : {K I : Type 0} → Option K → List I → I → Found K I → Found K I
one_more (Some k) x c f = Some (k, x ++ c ∷ [], [])
one_more None x c f = onward (c ∷ []) f

one_more_after : {K I : Type 0} (d : I) (x : List I) (c : I) (j k : Option K) (f : Found K I)
    → found_after d (x ++ c ∷ []) j (one_more k x c f) ≡ one_more k (d ∷ x) c (found_after d x j f)
one_more_after d x c j (Some k) f = refl
one_more_after d x c j None f = after_onward d x (c ∷ []) j f

one_alone : {Q K I : Type 0} (a : Automaton Q K I) (c : I) (p : Q) (k : Option K) → found_after c [] k (longest_from a (Some p) []) ≡ one_more k [] c None
one_alone a c p None = refl
one_alone a c p (Some k) = refl

pub longest-live : {Q K I : Type 0} (a : Automaton Q K I) (q : Option Q) (x : List I) (c : I) (p : Q) → then_next a (run_from a q x) c ≡ Some p
    → longest_from a q (x ++ c ∷ []) ≡ one_more (a.accepts p) x c (longest_from a q x)
longest-live a None [] c p e = Prim.cc
longest-live a None (d ∷ x) c p e = Prim.cc
longest-live a (Some q) [] c p e = ap (λ z. found_after c [] (kind_at a z) (longest_from a z [])) e ∙ one_alone a c p (a.accepts p)
longest-live a (Some q) (d ∷ x) c p e =
    ap (found_after d (x ++ c ∷ []) (kind_at a (a.next q d))) (longest-live a (a.next q d) x c p e)
    ∙ one_more_after d x c (kind_at a (a.next q d)) (a.accepts p) (longest_from a (a.next q d) x)

-- the best that can be found from q
abbrev pub Best : {Q K I : Type 0} → Automaton Q K I → Option Q → List I → Found K I → Type 0
Best {K = K} {I = I} a q x None = (j : K) (v s : List I) → x ≡ v ++ s → v ≢ [] → kind_at a (run_from a q v) ≡ Some j → ⊥
Best {K = K} {I = I} a q x (Some t) =
    (kind_at a (run_from a q t.1) ≡ Some t.0) × ((j : K) (v s : List I) → x ≡ v ++ s → kind_at a (run_from a q v) ≡ Some j → length v ≤ length t.1)

pub nonempty : {I : Type 0} (i : I) (is : List I) → i ∷ is ≢ []
nonempty i is e = Prim.cc

most_some : {Q K I : Type 0} (a : Automaton Q K I) (q : Q) (i : I) (is : List I) (w : List I)
    → ((j : K) (v s : List I) → is ≡ v ++ s → kind_at a (run_from a (a.next q i) v) ≡ Some j → length v ≤ length w)
    → (j : K) (v s : List I) → i ∷ is ≡ v ++ s → kind_at a (run_from a (Some q) v) ≡ Some j → length v ≤ length (i ∷ w)
most_some a q i is w h j [] s e k = omega arith
most_some a q i is w h j (c ∷ v) s e k =
    let same : i ≡ c = Prim.cc in
    let others : is ≡ v ++ s = Prim.cc in
    omega (arith, h j v s others (subst (λ z. kind_at a (run_from a (a.next q z) v) ≡ Some j) (sym same) k))

none_after : {Q K I : Type 0} (a : Automaton Q K I) (q : Q) (i : I) (is : List I)
    → ((j : K) (v s : List I) → is ≡ v ++ s → v ≢ [] → kind_at a (run_from a (a.next q i) v) ≡ Some j → ⊥)
    → (j : K) (v s : List I) → i ∷ is ≡ v ++ s → kind_at a (run_from a (Some q) v) ≡ Some j → v ≢ [] → (v ≡ i ∷ []) × (kind_at a (a.next q i) ≡ Some j)
none_after a q i is h j [] s e k n = absurd (n refl)
none_after a q i is h j (c ∷ []) s e k n =
    let same : i ≡ c = Prim.cc in
    (ap (λ z. z ∷ []) (sym same), subst (λ z. kind_at a (a.next q z) ≡ Some j) (sym same) k)
none_after a q i is h j (c ∷ (d ∷ v)) s e k n =
    let same : i ≡ c = Prim.cc in
    let others : is ≡ (d ∷ v) ++ s = Prim.cc in
    absurd (h j (d ∷ v) s others (nonempty d v) (subst (λ z. kind_at a (run_from a (a.next q z) (d ∷ v)) ≡ Some j) (sym same) k))

most_one : {Q K I : Type 0} (a : Automaton Q K I) (q : Q) (i : I) (is : List I)
    → ((j : K) (v s : List I) → is ≡ v ++ s → v ≢ [] → kind_at a (run_from a (a.next q i) v) ≡ Some j → ⊥)
    → (j : K) (v s : List I) → i ∷ is ≡ v ++ s → kind_at a (run_from a (Some q) v) ≡ Some j → length v ≤ 1
most_one a q i is h j [] s e k = omega arith
most_one a q i is h j (c ∷ v) s e k = omega (arith, ap length (none_after a q i is h j (c ∷ v) s e k (nonempty c v)).0)

best_after : {Q K I : Type 0} (a : Automaton Q K I) (q : Q) (i : I) (is : List I) (k : Option K) → kind_at a (a.next q i) ≡ k → (f : Found K I)
    → Best a (a.next q i) is f → Best a (Some q) (i ∷ is) (found_after i is k f)
best_after a q i is k e (Some t) b = (b.0, most_some a q i is t.1 b.1)
best_after a q i is (Some k) e None b = (e, most_one a q i is b)
best_after a q i is None e None b =
    λ j v s p n m. let h = none_after a q i is b j v s p m n in Prim.cc (sym e ∙ h.1)

stuck : {Q K I : Type 0} (a : Automaton Q K I) (v : List I) (j : K) → kind_at a (run_from a None v) ≡ Some j → ⊥
stuck a [] j e = Prim.cc
stuck a (i ∷ is) j e = Prim.cc

front_of_nothing : {I : Type 0} (v s : List I) → [] ≡ v ++ s → v ≡ []
front_of_nothing [] s e = refl
front_of_nothing (c ∷ v) s e = Prim.cc

pub best : {Q K I : Type 0} (a : Automaton Q K I) (q : Option Q) (x : List I) → Best a q x (longest_from a q x)
best a None x = λ j v s e n k. stuck a v j k
best a (Some q) [] = λ j v s e n k. n (front_of_nothing v s e)
best a (Some q) (i ∷ is) = best_after a q i is (kind_at a (a.next q i)) refl (longest_from a (a.next q i) is) (best a (a.next q i) is)

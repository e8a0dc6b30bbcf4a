-- Derivatives of regular expressions: what may follow a character.
use Rattle.std.proofs.lemmas.Bool.{and_parts}
use Rattle.std.proofs.Common.{◌≡◌, ℕ, Bool, true, false, cond, List, [], ◌∷◌, ◌++◌, refl, sym, ap, ◌∙◌, subst}
use Rattle.std.specs.Prelude.{◌&&◌, ◌||◌}
use Rattle.gs_automaton.specs.Regexes.{Never, Empty, One, Then, Or, Many, Matches, empty, one, both, left, right, stop, more}
use Rattle.gs_automaton.specs.Terminals.{Chars, Pattern}

-- whether the empty text matches
abbrev pub nullable : Pattern → Bool
nullable Never = false
nullable Empty = true
nullable (One s) = false
nullable (Then r s) = nullable r && nullable s
nullable (Or r s) = nullable r || nullable s
nullable (Many r) = true

-- the same with less to write
abbrev pub then : Pattern → Pattern → Pattern
then Never s = Never
then Empty s = s
then (One n) s = Then (One n) s
then (Then r t) s = Then (Then r t) s
then (Or r t) s = Then (Or r t) s
then (Many r) s = Then (Many r) s

abbrev pub or_some : Pattern → Pattern → Pattern
or_some r Never = r
or_some r Empty = Or r Empty
or_some r (One n) = Or r (One n)
or_some r (Then s t) = Or r (Then s t)
or_some r (Or s t) = Or r (Or s t)
or_some r (Many s) = Or r (Many s)

abbrev pub or : Pattern → Pattern → Pattern
or Never s = s
or Empty s = or_some Empty s
or (One n) s = or_some (One n) s
or (Then r t) s = or_some (Then r t) s
or (Or r t) s = or_some (Or r t) s
or (Many r) s = or_some (Many r) s

-- what may follow the character c
abbrev pub derive : (Chars → ℕ → Bool) → ℕ → Pattern → Pattern
derive has_char c Never = Never
derive has_char c Empty = Never
derive has_char c (One s) = cond (has_char s c) Empty Never
derive has_char c (Then r s) = or (then (derive has_char c r) s) (cond (nullable r) (derive has_char c s) Never)
derive has_char c (Or r s) = or (derive has_char c r) (derive has_char c s)
derive has_char c (Many r) = then (derive has_char c r) (Many r)

or_true : (x y : Bool) → y ≡ true → (x || y) ≡ true
or_true true y e = refl
or_true false y e = e

never : (h : Chars → ℕ → Bool) (x : List ℕ) → Matches h Never x → ⊥
never h x m = elim m [ ]

null_or : (h : Chars → ℕ → Bool) (r s : Pattern) → (nullable r ≡ true → Matches h r []) → (nullable s ≡ true → Matches h s [])
    → (a : Bool) → nullable r ≡ a → (b : Bool) → nullable s ≡ b → (a || b) ≡ true → Matches h (Or r s) []
null_or h r s f g true p b q e = left (f p)
null_or h r s f g false p true q e = right (g q)
null_or h r s f g false p false q e = Prim.cc

pub nullable-right : (h : Chars → ℕ → Bool) (r : Pattern) → nullable r ≡ true → Matches h r []
nullable-right h Never e = Prim.cc
nullable-right h Empty e = empty
nullable-right h (One s) e = Prim.cc
nullable-right h (Then r s) e = let b = and_parts (nullable r) (nullable s) e in both [] [] refl (nullable-right h r b.0) (nullable-right h s b.1)
nullable-right h (Or r s) e = null_or h r s (nullable-right h r) (nullable-right h s) (nullable r) refl (nullable s) refl e
nullable-right h (Many r) e = stop

pub then-right : (h : Chars → ℕ → Bool) (r s : Pattern) (x : List ℕ) → Matches h (then r s) x → Matches h (Then r s) x
then-right h Never s x m = absurd (never h x m)
then-right h Empty s x m = both [] x refl empty m
then-right h (One n) s x m = m
then-right h (Then r t) s x m = m
then-right h (Or r t) s x m = m
then-right h (Many r) s x m = m

or_some-right : (h : Chars → ℕ → Bool) (r s : Pattern) (x : List ℕ) → Matches h (or_some r s) x → Matches h (Or r s) x
or_some-right h r Never x m = left m
or_some-right h r Empty x m = m
or_some-right h r (One n) x m = m
or_some-right h r (Then s t) x m = m
or_some-right h r (Or s t) x m = m
or_some-right h r (Many s) x m = m

pub or-right : (h : Chars → ℕ → Bool) (r s : Pattern) (x : List ℕ) → Matches h (or r s) x → Matches h (Or r s) x
or-right h Never s x m = right m
or-right h Empty s x m = or_some-right h Empty s x m
or-right h (One n) s x m = or_some-right h (One n) s x m
or-right h (Then r t) s x m = or_some-right h (Then r t) s x m
or-right h (Or r t) s x m = or_some-right h (Or r t) s x m
or-right h (Many r) s x m = or_some-right h (Many r) s x m

or_some-back : (h : Chars → ℕ → Bool) (r s : Pattern) (x : List ℕ) → Matches h (Or r s) x → Matches h (or_some r s) x
or_some-back h r Never x (left m) = m
or_some-back h r Never x (right m) = absurd (never h x m)
or_some-back h r Empty x m = m
or_some-back h r (One n) x m = m
or_some-back h r (Then s t) x m = m
or_some-back h r (Or s t) x m = m
or_some-back h r (Many s) x m = m

pub or-back : (h : Chars → ℕ → Bool) (r s : Pattern) (x : List ℕ) → Matches h (Or r s) x → Matches h (or r s) x
or-back h Never s x (left m) = absurd (never h x m)
or-back h Never s x (right m) = m
or-back h Empty s x m = or_some-back h Empty s x m
or-back h (One n) s x m = or_some-back h (One n) s x m
or-back h (Then r t) s x m = or_some-back h (Then r t) s x m
or-back h (Or r t) s x m = or_some-back h (Or r t) s x m
or-back h (Many r) s x m = or_some-back h (Many r) s x m

abbrev Follows : (Chars → ℕ → Bool) → ℕ → Pattern → Type 0
Follows h c r = (x : List ℕ) → Matches h (derive h c r) x → Matches h r (c ∷ x)

right_one : (h : Chars → ℕ → Bool) (c : ℕ) (s : Chars) (b : Bool) → h s c ≡ b → (x : List ℕ) → Matches h (cond b Empty Never) x → Matches h (One s) (c ∷ x)
right_one h c s true e _ empty = one e
right_one h c s false e x k = absurd (never h x k)

right_second : (h : Chars → ℕ → Bool) (c : ℕ) (r s : Pattern) → Follows h c s → (x : List ℕ) (b : Bool) → nullable r ≡ b → Matches h (cond b (derive h c s) Never) x → Matches h (Then r s) (c ∷ x)
right_second h c r s g x true e k = both [] (c ∷ x) refl (nullable-right h r e) (g x k)
right_second h c r s g x false e k = absurd (never h x k)

right_first : (h : Chars → ℕ → Bool) (c : ℕ) (r s : Pattern) → Follows h c r → (x : List ℕ) → Matches h (Then (derive h c r) s) x → Matches h (Then r s) (c ∷ x)
right_first h c r s f x (both v w e k l) = both (c ∷ v) w (ap (λ z. c ∷ z) e) (f v k) l

right_then : (h : Chars → ℕ → Bool) (c : ℕ) (r s : Pattern) → Follows h c r → Follows h c s → (x : List ℕ)
    → Matches h (Or (then (derive h c r) s) (cond (nullable r) (derive h c s) Never)) x → Matches h (Then r s) (c ∷ x)
right_then h c r s f g x (left k) = right_first h c r s f x (then-right h (derive h c r) s x k)
right_then h c r s f g x (right k) = right_second h c r s g x (nullable r) refl k

right_or : (h : Chars → ℕ → Bool) (c : ℕ) (r s : Pattern) → Follows h c r → Follows h c s → (x : List ℕ) → Matches h (Or (derive h c r) (derive h c s)) x → Matches h (Or r s) (c ∷ x)
right_or h c r s f g x (left k) = left (f x k)
right_or h c r s f g x (right k) = right (g x k)

right_many : (h : Chars → ℕ → Bool) (c : ℕ) (r : Pattern) → Follows h c r → (x : List ℕ) → Matches h (Then (derive h c r) (Many r)) x → Matches h (Many r) (c ∷ x)
right_many h c r f x (both v w e k l) = more (c ∷ v) w (ap (λ z. c ∷ z) e) (f v k) l

-- what is in the derivative, after c is in the expression
pub derive-right : (h : Chars → ℕ → Bool) (c : ℕ) (r : Pattern) → Follows h c r
derive-right h c Never x m = absurd (never h x m)
derive-right h c Empty x m = absurd (never h x m)
derive-right h c (One s) x m = right_one h c s (h s c) refl x m
derive-right h c (Then r s) x m = right_then h c r s (derive-right h c r) (derive-right h c s) x (or-right h (then (derive h c r) s) (cond (nullable r) (derive h c s) Never) x m)
derive-right h c (Or r s) x m = right_or h c r s (derive-right h c r) (derive-right h c s) x (or-right h (derive h c r) (derive h c s) x m)
derive-right h c (Many r) x m = right_many h c r (derive-right h c r) x (then-right h (derive h c r) (Many r) x m)

front_nil : (v w : List ℕ) → [] ≡ v ++ w → (v ≡ []) × (w ≡ [])
front_nil [] w e = (refl, sym e)
front_nil (c ∷ v) w e = Prim.cc

pub nullable-back : (h : Chars → ℕ → Bool) (r : Pattern) (y : List ℕ) → Matches h r y → y ≡ [] → nullable r ≡ true
nullable-back h _ _ empty e = refl
nullable-back h _ _ (one k) e = Prim.cc e
nullable-back h _ y (both {r = r} {s = s} v w p k l) e =
    let n = front_nil v w (sym e ∙ p) in
    ap (λ z. z && nullable s) (nullable-back h r v k n.0) ∙ nullable-back h s w l n.1
nullable-back h _ y (left {r = r} {s = s} k) e = ap (λ z. z || nullable s) (nullable-back h r y k e)
nullable-back h _ y (right {r = r} {s = s} k) e = or_true (nullable r) (nullable s) (nullable-back h s y k e)
nullable-back h _ _ stop e = refl
nullable-back h _ y (more v w p k l) e = refl

pub then-back : (h : Chars → ℕ → Bool) (r s : Pattern) (x : List ℕ) → Matches h (Then r s) x → Matches h (then r s) x
then-back h Never s x (both v w e k l) = absurd (never h v k)
then-back h Empty s x (both _ w e empty l) = subst (Matches h s) (sym e) l
then-back h (One n) s x m = m
then-back h (Then r t) s x m = m
then-back h (Or r t) s x m = m
then-back h (Many r) s x m = m

tails : {c d : ℕ} {x y : List ℕ} → c ∷ x ≡ d ∷ y → (c ≡ d) × (x ≡ y)
tails e = (Prim.cc, Prim.cc)

-- what is in the expression after c is in the derivative
pub derive-back : (h : Chars → ℕ → Bool) (c : ℕ) (r : Pattern) (y : List ℕ) → Matches h r y → (x : List ℕ) → y ≡ c ∷ x → Matches h (derive h c r) x
derive-back h c _ _ empty x e = absurd (Prim.cc e)
derive-back h c _ _ (one {s = s} {c = d} k) x e =
    let t = tails e in
    let has_char : h s c ≡ true = ap (h s) (sym t.0) ∙ k in
    subst (λ z. Matches h z x) (ap (λ b. cond b Empty Never) (sym has_char)) (subst (Matches h Empty) t.1 empty)
derive-back h c _ y (both {r = r} {s = s} [] w p k l) x e =
    let n = nullable-back h r [] k refl in
    or-back h (then (derive h c r) s) (cond (nullable r) (derive h c s) Never) x
    (right (subst (λ b. Matches h (cond b (derive h c s) Never) x) (sym n) (derive-back h c s w l x (sym p ∙ e))))
derive-back h c _ y (both {r = r} {s = s} (d ∷ v) w p k l) x e =
    let t = tails (sym e ∙ p) in
    or-back h (then (derive h c r) s) (cond (nullable r) (derive h c s) Never) x
    (left (then-back h (derive h c r) s x (both v w t.1 (derive-back h c r (d ∷ v) k v (ap (λ z. z ∷ v) (sym t.0))) l)))
derive-back h c _ y (left {r = r} {s = s} k) x e = or-back h (derive h c r) (derive h c s) x (left (derive-back h c r y k x e))
derive-back h c _ y (right {r = r} {s = s} k) x e = or-back h (derive h c r) (derive h c s) x (right (derive-back h c s y k x e))
derive-back h c _ _ stop x e = absurd (Prim.cc e)
derive-back h c _ y (more {r = r} [] w p k l) x e = derive-back h c (Many r) w l x (sym p ∙ e)
derive-back h c _ y (more {r = r} (d ∷ v) w p k l) x e =
    let t = tails (sym e ∙ p) in
    then-back h (derive h c r) (Many r) x (both v w t.1 (derive-back h c r (d ∷ v) k v (ap (λ z. z ∷ v) (sym t.0))) l)

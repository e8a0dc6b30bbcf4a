-- Laws of machines.
use Rattle.std.proofs.Common.{◌≡◌, ℕ, ◌+◌, ◌<◌, List, [], ◌∷◌, ◌++◌, length, take, get_or, refl, sym, ap, ◌∙◌, append_assoc, append-nil}
use Rattle.std.proofs.lemmas.List.{take_more}
use Rattle.gs_machine.specs.Machines.{Machine, joined, steps, rest, composed, AreSettled, Silences}

pub joined-joined : {O E : Type 0} (a b : List O) (r : List O × E) → joined (a ++ b) r ≡ joined a (joined b r)
joined-joined a b r = ap (λ x. (x, r.1)) (append_assoc a b r.0)

pub steps-append : {S I O E : Type 0} (m : Machine S I O E) (s : S) (x y : List I)
    → steps m s (x ++ y) ≡ ((steps m (steps m s x).0 y).0, (steps m s x).1 ++ (steps m (steps m s x).0 y).1)
unfolding steps
steps-append m s [] y = refl
steps-append m s (i ∷ is) y =
    let t = m.step s i in
    ap (λ u. (u.0, t.1 ++ u.1)) (steps-append m t.0 is y)
    ∙ ap (λ z. ((steps m (steps m t.0 is).0 y).0, z)) (sym (append_assoc t.1 (steps m t.0 is).1 (steps m (steps m t.0 is).0 y).1))

-- the outputs over a text are those of its front, and those of the rest from there
pub rest-append : {S I O E : Type 0} (m : Machine S I O E) (s : S) (x y : List I)
    → rest m s (x ++ y) ≡ joined (steps m s x).1 (rest m (steps m s x).0 y)
unfolding steps rest
rest-append m s [] y = refl
rest-append m s (i ∷ is) y =
    let t = m.step s i in
    ap (joined t.1) (rest-append m t.0 is y) ∙ sym (joined-joined t.1 (steps m t.0 is).1 (rest m (steps m t.0 is).0 y))

pub steps-composed : {S T I M O E F : Type 0} (a : Machine S I M E) (b : Machine T M O F) (s : S) (t : T) (x : List I)
    → steps (composed a b) (s, t) x ≡ (((steps a s x).0, (steps b t (steps a s x).1).0), (steps b t (steps a s x).1).1)
unfolding steps composed
steps-composed a b s t [] = refl
steps-composed a b s t (i ∷ is) =
    let u = a.step s i in
    let v = steps b t u.1 in
    ap (λ z. (z.0, v.1 ++ z.1)) (steps-composed a b u.0 v.0 is)
    ∙ ap (λ z. (((steps a u.0 is).0, z.0), z.1)) (sym (steps-append b t u.1 (steps a u.0 is).1))

-- the outputs of two machines are those of the second over the outputs of the first
pub rest-composed : {S T I M O E F : Type 0} (a : Machine S I M E) (b : Machine T M O F) (s : S) (t : T) (x : List I)
    → rest (composed a b) (s, t) x ≡ rest b t (rest a s x).0
unfolding rest composed
rest-composed a b s t [] = refl
rest-composed a b s t (i ∷ is) =
    let u = a.step s i in
    ap (joined (steps b t u.1).1) (rest-composed a b u.0 (steps b t u.1).0 is)
    ∙ sym (rest-append b t u.1 (rest a u.0 is).0)

-- what was given so far is settled, and all that is
pub settled : {S I O E : Type 0} (m : Machine S I O E) (s : S) → Silences m → (x : List I)
    → AreSettled (λ z. (rest m s z).0) x (steps m s x).1
settled m s h x = record {
  stay = λ y. ((rest m (steps m s x).0 y).0, ap (λ r. r.0) (rest-append m s x y));
  are_all = λ more f.
      let y = (h (steps m s x).0).0 in
      ((f y).0, sym (append-nil (steps m s x).1) ∙ ap (λ z. (steps m s x).1 ++ z) (sym (h (steps m s x).0).1) ∙ ap (λ r. r.0) (sym (rest-append m s x y)) ∙ (f y).1);
}

-- one item, and none
pub steps-one : {S I O E : Type 0} (m : Machine S I O E) (s : S) (i : I) → steps m s (i ∷ []) ≡ m.step s i
unfolding steps
steps-one m s i = ap (λ z. ((m.step s i).0, z)) (append-nil (m.step s i).1)

pub steps-nil : {S I O E : Type 0} (m : Machine S I O E) (s : S) → steps m s [] ≡ (s, [])
unfolding steps
steps-nil m s = refl

-- one item more of a list
pub steps-snoc : {S I O E : Type 0} (m : Machine S I O E) (s : S) (x : List I) (n : ℕ) (d : I) → n < length x
    → steps m s (take (n + 1) x) ≡ ((m.step (steps m s (take n x)).0 (get_or x n d)).0, (steps m s (take n x)).1 ++ (m.step (steps m s (take n x)).0 (get_or x n d)).1)
steps-snoc m s x n d h =
    ap (steps m s) (take_more x n d h) ∙ steps-append m s (take n x) (get_or x n d ∷ [])
    ∙ ap (λ z. (z.0, (steps m s (take n x)).1 ++ z.1)) (steps-one m (steps m s (take n x)).0 (get_or x n d))

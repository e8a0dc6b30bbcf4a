-- Bindings by number, and the values of variables that agree with them.
use Rattle.std.proofs.Common.{◌≡◌, ℕ, Bool, true, false, cond, nat_eq, List, [], ◌∷◌, Option, Some, None, refl, sym, ap, ◌∙◌, subst, arith}
use Rattle.std.specs.Option.{option_and_then}
use Rattle.std.specs.Str.{bytes_eq}
use Rattle.std.proofs.lemmas.Slice.Eq.{bytes_eq-Decides}
use Rattle.std.proofs.lemmas.Bool.Decides.{nat_tests}
use Rattle.gs_pool.specs.declared.nodes.Key.{Key}
use Rattle.gs_joins.specs.declared.sought.Item.{Item}
use Rattle.gs_joins.specs.declared.sought.Item.TheVariants.{Number, Variable}
use Rattle.gs_joins.specs.declared.sought.Sought.{Sought}
use Rattle.gs_joins.specs.Numbers.{BoundNumbers, number_for, bound_to_number, bind_number, bind_key, or_none}
use Rattle.gs_joins.specs.Values.{Values, value_of, key_of}

-- each variable that is bound has its number
abbrev pub Holds : Values → BoundNumbers → Type 0
Holds v b = (x : List ℕ) (n : ℕ) → number_for b x ≡ Some n → v x ≡ n

-- nothing is bound
pub holds_none : (v : Values) → Holds v []
holds_none v x n e = absurd (cc)

-- the values that are bound
abbrev pub values_of : BoundNumbers → Values
values_of b x = or_none (number_for b x)

-- they agree with what is bound
pub holds_own : (b : BoundNumbers) → Holds (values_of b) b
holds_own b x n e = ap or_none e

-- a text is itself
same_text : (x : List ℕ) → bytes_eq x x ≡ true
same_text x = (bytes_eq-Decides x x).1 refl

-- a number is itself
same_number : (n : ℕ) → nat_eq n n ≡ true
same_number n = grind (arith, nat_tests)

-- numbers that pass the test are one
one_number : (m n : ℕ) → nat_eq m n ≡ true → m ≡ n
one_number m n e = grind (arith, nat_tests)

-- one variable more
pub holds_more : (v : Values) (b : BoundNumbers) (x : List ℕ) (n : ℕ) → Holds v b → v x ≡ n → Holds v ((x, n) ∷ b)
holds_more v b x n h is y m e = by_name (bytes_eq x y) refl e
  where
    by_name : (r : Bool) → bytes_eq x y ≡ r → cond r (Some n) (number_for b y) ≡ Some m → v y ≡ m
    by_name true t e =
        let same : x ≡ y = (bytes_eq-Decides x y).0 t in
        let is_m : n ≡ m = cc in
        ap v (sym same) ∙ is ∙ is_m
    by_name false t e = h y m e

-- a test that gives back bindings gives those that it had, where it passes
kept : (b c : BoundNumbers) (r : Bool) → cond r (Some b) None ≡ Some c → (r ≡ true) × (b ≡ c)
kept b c true e = (refl, some_is b c e)
  where
    some_is : (k l : BoundNumbers) → Some k ≡ Some l → k ≡ l
    some_is k l e = cc
kept b c false e = absurd (cc)

-- values that agree stand for numbers that can be bound
with_complete : (v : Values) (b : BoundNumbers) (x : List ℕ) (o : Option ℕ) → Holds v b → number_for b x ≡ o → (c : BoundNumbers) × (bound_to_number b x (v x) o ≡ Some c) × Holds v c
with_complete v b x None h e = ((x, v x) ∷ b, refl, holds_more v b x (v x) h refl)
with_complete v b x (Some m) h e = (b, let is : v x ≡ m = h x m e in ap (λ n. cond (nat_eq m n) (Some b) None) is ∙ ap (λ r. cond r (Some b) None) (same_number m), h)

-- the same at an item
number_complete : (v : Values) (b : BoundNumbers) (i : Item) → Holds v b → (c : BoundNumbers) × (bind_number b i (value_of v i) ≡ Some c) × Holds v c
number_complete v b (Number m) h = (b, ap (λ r. cond r (Some b) None) (same_number m), h)
number_complete v b (Variable x) h = with_complete v b x.now (number_for b x.now) h refl

-- what is bound then agrees only with values that stand for the number
with_sound : (v : Values) (b c : BoundNumbers) (x : List ℕ) (n : ℕ) (o : Option ℕ) → number_for b x ≡ o → bound_to_number b x n o ≡ Some c → Holds v c → Holds v b × (v x ≡ n)
with_sound v b c x n None e f h =
    let own : Holds v ((x, n) ∷ b) = subst (Holds v) (sym (some_is ((x, n) ∷ b) c f)) h in
    ((λ y m g. by_name y m g (bytes_eq x y) refl own), own x n (ap (λ r. cond r (Some n) (number_for b x)) (same_text x)))
  where
    some_is : (k l : BoundNumbers) → Some k ≡ Some l → k ≡ l
    some_is k l e = cc

    by_name : (y : List ℕ) (m : ℕ) → number_for b y ≡ Some m → (r : Bool) → bytes_eq x y ≡ r → Holds v ((x, n) ∷ b) → v y ≡ m
    by_name y m g true t own = let there : None ≡ Some m = sym e ∙ ap (number_for b) ((bytes_eq-Decides x y).0 t) ∙ g in absurd (cc)
    by_name y m g false t own = own y m (ap (λ r. cond r (Some n) (number_for b y)) t ∙ g)
with_sound v b c x n (Some m) e f h =
    let both = kept b c (nat_eq m n) f in
    let own : Holds v b = subst (Holds v) (sym both.1) h in
    (own, own x m e ∙ one_number m n both.0)

-- the same at an item
number_sound : (v : Values) (b c : BoundNumbers) (i : Item) (n : ℕ) → bind_number b i n ≡ Some c → Holds v c → Holds v b × (value_of v i ≡ n)
number_sound v b c (Number m) n f h = let both = kept b c (nat_eq m n) f in (subst (Holds v) (sym both.1) h, one_number m n both.0)
number_sound v b c (Variable x) n f h = with_sound v b c x.now n (number_for b x.now) refl f h

-- values that agree with what is bound bind the pattern to its instance
pub key_complete : (v : Values) (b : BoundNumbers) (s : Sought) → Holds v b → (c : BoundNumbers) × (bind_key b s (key_of v s) ≡ Some c) × Holds v c
key_complete v b s h =
    let (c, ec, hc) = number_complete v b s.subject h in
    let (d, ed, hd) = number_complete v c s.predicate hc in
    let (e, ee, he) = number_complete v d s.object hd in (
      e,
      ap (option_and_then (λ c. option_and_then (λ d. bind_number d s.object (value_of v s.object)) (bind_number c s.predicate (value_of v s.predicate)))) ec
          ∙ ap (option_and_then (λ d. bind_number d s.object (value_of v s.object))) ed ∙ ee,
      he,
    )

-- three numbers that are equal make equal keys
pub same_key : (k l : Key) → k.subject ≡ l.subject → k.predicate ≡ l.predicate → k.object ≡ l.object → k ≡ l
same_key k l s p o =
    let by_subject : ℕ → Key = λ n. record { subject = n; predicate = k.predicate; object = k.object } in
    let by_predicate : ℕ → Key = λ n. record { subject = l.subject; predicate = n; object = k.object } in
    let by_object : ℕ → Key = λ n. record { subject = l.subject; predicate = l.predicate; object = n } in
    ap by_subject s ∙ ap by_predicate p ∙ ap by_object o

-- what is bound by a key agrees only with values under which the key is the instance
pub key_sound : (v : Values) (b c : BoundNumbers) (s : Sought) (k : Key) → bind_key b s k ≡ Some c → Holds v c → Holds v b × (key_of v s ≡ k)
key_sound v b c s k e h = by_subject (bind_number b s.subject k.subject) refl e
  where
    by_object : (d : BoundNumbers) → bind_number d s.object k.object ≡ Some c → Holds v d × (value_of v s.object ≡ k.object)
    by_object d f = number_sound v d c s.object k.object f h

    by_predicate : (a : BoundNumbers) (o : Option BoundNumbers) → bind_number a s.predicate k.predicate ≡ o → option_and_then (λ d. bind_number d s.object k.object) o ≡ Some c
        → Holds v a × (value_of v s.predicate ≡ k.predicate) × (value_of v s.object ≡ k.object)
    by_predicate a None f g = absurd (cc)
    by_predicate a (Some d) f g =
        let last = by_object d g in
        let mid = number_sound v a d s.predicate k.predicate f last.0 in
        (mid.0, mid.1, last.1)

    by_subject : (o : Option BoundNumbers) → bind_number b s.subject k.subject ≡ o → option_and_then (λ a. option_and_then (λ d. bind_number d s.object k.object) (bind_number a s.predicate k.predicate)) o ≡ Some c
        → Holds v b × (key_of v s ≡ k)
    by_subject None f g = absurd (cc)
    by_subject (Some a) f g =
        let rest = by_predicate a (bind_number a s.predicate k.predicate) refl g in
        let first = number_sound v b a s.subject k.subject f rest.0 in
        (first.0, same_key (key_of v s) k first.1 rest.1 rest.2)

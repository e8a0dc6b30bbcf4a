-- Tests that two texts share, by cases.
use Rattle.std.proofs.Common.{◌≡◌, Bool, true, false, cond, refl}

pub two_ways : {A B C : Type 0} (f : A → C) (g : B → C) (b : Bool) (x y : A) (u v : B) → f x ≡ g u → f y ≡ g v → f (cond b x y) ≡ g (cond b u v)
two_ways f g true x y u v p q = p
two_ways f g false x y u v p q = q

-- the other side takes the test itself
pub by_test : {A C : Type 0} (f : A → C) (g : Bool → C) (b : Bool) (x y : A) → f x ≡ g true → f y ≡ g false → f (cond b x y) ≡ g b
by_test f g true x y p q = p
by_test f g false x y p q = q

pub by_test_knowing : {A C : Type 0} (f : A → C) (g : Bool → C) (b : Bool) (x y : A) → (b ≡ true → f x ≡ g true) → (b ≡ false → f y ≡ g false) → f (cond b x y) ≡ g b
by_test_knowing f g true x y p q = p refl
by_test_knowing f g false x y p q = q refl

-- a test that is known to fail
pub otherwise : {A C : Type 0} (f : A → C) (z : C) (b : Bool) (x y : A) → b ≡ false → f y ≡ z → f (cond b x y) ≡ z
otherwise f z true x y e p = absurd (Prim.cc)
otherwise f z false x y e p = p

-- a test that only one side has
pub one_way : {A C : Type 0} (f : A → C) (z : C) (b : Bool) (x y : A) → f x ≡ z → f y ≡ z → f (cond b x y) ≡ z
one_way f z true x y p q = p
one_way f z false x y p q = q

pub either_way : {A : Type 0} (P : A → Type 0) (b : Bool) (x y : A) → P x → P y → P (cond b x y)
either_way P true x y p q = p
either_way P false x y p q = q

-- Answers: what is so of each value that a choice, an option or a reading may give.
use Rattle.std.proofs.Common.{Bool, true, false, cond}
use Rattle.std.specs.Prelude.{Option, Some, None, option_map, option_and_then, Result, Ok, Err, IfOk}
use Rattle.std.specs.Option.{IfSome}
use Rattle.gs_model.specs.Faults.{◌>>=◌}
use Rattle.gs_model.specs.declared.faults.Fault.{Fault}

-- one of two
pub chosen : {A : Type 0} (P : A → Type 0) (b : Bool) (x y : A) → P x → P y → P (cond b x y)
chosen P true x y h k = h
chosen P false x y h k = k

-- what is made of a value, where there is one
pub mapped : {A B : Type 0} (P : B → Type 0) (f : A → B) → ((x : A) → P (f x)) → (o : Option A) → IfSome (option_map f o) P
mapped P f h None = tt
mapped P f h (Some x) = h x

-- and where nothing may be made of it
pub chained : {A B : Type 0} (P : B → Type 0) (f : A → Option B) → ((x : A) → IfSome (f x) P) → (o : Option A) → IfSome (option_and_then f o) P
chained P f h None = tt
chained P f h (Some x) = h x

-- one reading after another
pub then_read : {A B : Type 0} (P : A → Type 0) (Q : B → Type 0) (x : Result A Fault) (f : A → Result B Fault) → IfOk x P → ((a : A) → P a → IfOk (f a) Q) → IfOk (x >>= f) Q
then_read P Q (Err e) f h next = tt
then_read P Q (Ok a) f h next = next a h

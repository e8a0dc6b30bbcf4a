-- One reading after another, where the first has no fault.
use Rattle.std.specs.Prelude.{Result, Ok, Err}
use Rattle.gs_model.specs.declared.faults.Fault.{Fault}

infixl 10 ◌>>=◌
-- what comes next, where there is no fault
abbrev pub ◌>>=◌ : {A B : Type 0} → Result A Fault → (A → Result B Fault) → Result B Fault
(Err e) >>= f = Err e
(Ok x) >>= f = f x

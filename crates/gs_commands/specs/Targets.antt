-- How a schedule names graphs: a target, a scope, and a target with the condition of a write.
use Rattle.std.specs.Prelude.{◌≡◌, ℕ, List, [], ◌∷◌, ◌++◌, codes, Option, Some, None}
use Rattle.gs_model.specs.Characters.{space, less_than, greater_than}
use Rattle.gs_model.specs.Iris.{IsName}
use Rattle.gs_term.specs.declared.names.Target.{Target}
use Rattle.gs_term.specs.declared.names.Target.TheVariants.{Default, Named}
use Rattle.gs_event.specs.declared.events.Scope.{Scope}
use Rattle.gs_event.specs.declared.events.Scope.TheVariants.{One, All}
use Rattle.gs_commands.specs.Found.{SaysNumber, last_u64}

-- the name of a graph, as it is
abbrev pub SaysName : List ℕ → List ℕ → Type 0
SaysName name x = (x ≡ name) × IsName name

-- a text between `<` and `>`
abbrev pub bracketed : List ℕ → List ℕ
bracketed x = less_than ∷ x ++ greater_than ∷ []

-- `default`, or a name between `<` and `>`
abbrev pub SaysTarget : Target → List ℕ → Type 0
SaysTarget Default x = x ≡ codes "default"
SaysTarget (Named name) x = (x ≡ bracketed name) × IsName name

-- one graph, or `all`, which is no target
abbrev pub SaysScope : Scope → List ℕ → Type 0
SaysScope (One t) x = SaysTarget t x
SaysScope All x = x ≡ codes "all"

-- a target, a space, and after `since ` the number of a commit
pub record SaysCondition (t : Target) (n : ℕ) (x : List ℕ) : Type 0 where
  pub target : List ℕ
  pub digits : List ℕ
  pub parts : x ≡ target ++ space ∷ (codes "since " ++ digits)
  pub says : SaysTarget t target
  pub number : SaysNumber last_u64 n digits

-- a target, with the number of a commit since which it must not have been written, or without one
abbrev pub SaysTargetSince : Target → Option ℕ → List ℕ → Type 0
SaysTargetSince t None x = SaysTarget t x
SaysTargetSince t (Some n) x = SaysCondition t n x

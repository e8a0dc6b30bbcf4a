-- Two trees, and graphs of these alone.
use Rattle.std.specs.Prelude.{◌≡◌, ◌⊎◌, ℕ, true, List, Option, None}
use Rattle.gs_pool.specs.Pool.{Nodes}
use Rattle.gs_keys.specs.Texts.{Terms}
use Rattle.gs_keys.specs.Roots.{IsGraphAt}
use Rattle.gs_records.specs.Records.{Record}
use Rattle.gs_records.specs.Order.{has_number}
use Rattle.gs_quads.specs.Places.{root_at}
use Rattle.gs_quads_tests.specs.declared.trees.Roots.{Roots}

-- each of both roots is that of a graph
pub record AreTrees (terms : Terms) (p : Nodes) (roots : Roots) : Type 0 where
  pub one : IsGraphAt terms p roots.one
  pub two : IsGraphAt terms p roots.two

-- no root, or one of both
abbrev pub IsOneOf : Roots → Option ℕ → Type 0
IsOneOf roots root = (root ≡ None) ⊎ ((root ≡ roots.one) ⊎ (root ≡ roots.two))

-- all graphs of version v have such roots
abbrev pub AreOfTrees : Roots → ℕ → List Record → Type 0
AreOfTrees roots v rs = (n : ℕ) → has_number v rs n ≡ true → IsOneOf roots (root_at rs n)

-- The number of a blank node by its first appearance. Lists have the newest node first.
use Rattle.std.specs.Prelude.{ℕ, ◌+◌, Bool, false, ◌||◌, if◌then◌else◌, List, [], ◌∷◌}
use Rattle.std.specs.Str.{bytes_eq}
use Rattle.gs_blank.specs.Numbers.{Numbers, no_numbers, one_more, label_number}

-- a node with a label, or one without
pub data Node : Type 0 where
  Named : List ℕ → Node
  Nameless : Node

-- the numbers after some nodes, given one after another to a new numbering
abbrev pub node_numbers : List Node → Numbers
node_numbers [] = no_numbers
node_numbers (Named label ∷ nodes) = (label_number (node_numbers nodes) label).1
node_numbers (Nameless ∷ nodes) = one_more (node_numbers nodes)

-- whether a label appears
abbrev pub appears : List ℕ → List Node → Bool
appears label [] = false
appears label (Named other ∷ nodes) = bytes_eq label other || appears label nodes
appears label (Nameless ∷ nodes) = appears label nodes

-- how many labels appear, each counted once, and how many nodes have none
abbrev pub count_of : List Node → ℕ
count_of [] = 0
count_of (Named label ∷ nodes) = if appears label nodes then count_of nodes else count_of nodes + 1
count_of (Nameless ∷ nodes) = count_of nodes + 1

-- the nodes before the first one with this label, or all where it does not appear
abbrev pub before : List ℕ → List Node → List Node
before label [] = []
before label (Named other ∷ nodes) =
    if appears label nodes then before label nodes
    else if bytes_eq label other then nodes
    else Named other ∷ nodes
before label (Nameless ∷ nodes) = if appears label nodes then before label nodes else Nameless ∷ nodes

-- the place of a label by first appearance: one more than there are labels, and nodes without one, before it
abbrev pub label_place : List ℕ → List Node → ℕ
label_place label nodes = count_of (before label nodes) + 1

-- Trees of current graphs and uploads, and dead nodes: what they have of a number.
use Rattle.std.specs.Prelude.{ℕ, ◌+◌, ◌∷◌, ◌++◌, [], nat_lt, Bool, true, if◌then◌else◌, List, length}
use Rattle.std.specs.List.{sum_by}
use Rattle.gs_tree.specs.Tree.{Tree, leaf, fork, keys, occurrences}
use Rattle.gs_tree.specs.Steps.{one}
use Rattle.gs_event.specs.Waste.{Lifetime}

-- A dead node: retired, or set aside for a while. If `whole`, all nodes below it went with it, and these are its sides; else it went alone, its sides belong elsewhere, and a leaf stands for each.
pub record Dead : Type 0 where
  pub id : ℕ
  pub birth : ℕ
  pub death : ℕ
  pub whole : Bool
  pub left : Tree
  pub right : Tree

-- how often these trees have a number
abbrev pub trees_have : List Tree → ℕ → ℕ
trees_have ts x = sum_by (λ t. occurrences t x) ts

-- how many keys they have
abbrev pub keys_in : List Tree → ℕ
keys_in ts = sum_by (λ t. length (keys t)) ts

-- how often a dead node and what went with it have a number
abbrev pub entry_has : Dead → ℕ → ℕ
entry_has d x = one d.id x + occurrences d.left x + occurrences d.right x

-- how often these have it
abbrev pub dead_have : List Dead → ℕ → ℕ
dead_have ds x = sum_by (λ d. entry_has d x) ds

-- the same of one, if it died after version v
abbrev pub has_after : ℕ → Dead → ℕ → ℕ
has_after v d x = if nat_lt v d.death then entry_has d x else 0

-- and of those that died after version v
abbrev pub dead_have_after : ℕ → List Dead → ℕ → ℕ
dead_have_after v ds x = sum_by (λ d. has_after v d x) ds

-- how often a number is that of a dead node itself, and not of one below it
abbrev pub tops : List Dead → ℕ → ℕ
tops ds x = sum_by (λ d. one d.id x) ds

-- the births of a tree's nodes
abbrev pub tree_births : Tree → List ℕ
tree_births leaf = []
tree_births (fork id birth l k r) = birth ∷ tree_births l ++ tree_births r

-- a tree that died whole: its top, with all below it; nothing, if it is a leaf
abbrev pub died_whole : ℕ → Tree → List Dead
died_whole death leaf = []
died_whole death (fork id birth l k r) =
    record { id = id; birth = birth; death = death; whole = true; left = l; right = r } ∷ []

-- what is left of a dead node when its number is free: its sides, each of which died when it did
abbrev pub sides_of : Dead → List Dead
sides_of d = died_whole d.death d.left ++ died_whole d.death d.right

-- the lifetimes of a tree's nodes, which died together
abbrev pub tree_lives : ℕ → Tree → List Lifetime
tree_lives death leaf = []
tree_lives death (fork id birth l k r) =
    record { birth = birth; death = death } ∷ tree_lives death l ++ tree_lives death r

-- the lifetimes of a dead node and of what went with it
abbrev pub entry_lives : Dead → List Lifetime
entry_lives d = record { birth = d.birth; death = d.death } ∷ tree_lives d.death d.left ++ tree_lives d.death d.right

-- the waste that these make up
abbrev pub lives : List Dead → List Lifetime
lives [] = []
lives (d ∷ ds) = entry_lives d ++ lives ds

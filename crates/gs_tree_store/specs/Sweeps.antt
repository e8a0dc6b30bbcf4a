-- What a sweep of terms leaves of a store, and what is marked before it. No public clause cites this module.
use Rattle.std.specs.Prelude.{◌≡◌, Bool, List, Some}
use Rattle.std.specs.List.{All}
use Rattle.gs_keys.specs.Texts.{Terms, AgreeOn}
use Rattle.gs_keys.specs.Roots.{AgreeOnNodes}
use Rattle.gs_keys.specs.Marks.{IsMarkedKey}
use Rattle.gs_tree_store.specs.declared.books.Books.{Books}
use Rattle.gs_tree_store.specs.declared.books.Seat.{Seat}
use Rattle.gs_tree_store.specs.declared.books.Seat.TheVariants.{Reading, ReadingAll}

-- both lists of terms say the same of the key at which a seat's read stands
abbrev pub AgreeOnPlace : Terms → Terms → Seat → Type 0
AgreeOnPlace terms later (Reading root (Some k)) = AgreeOn terms later k
AgreeOnPlace terms later (ReadingAll v (Some x)) = AgreeOn terms later x.1
AgreeOnPlace terms later s = Unit {0}

-- the numbers of the key at which a seat's read stands are marked
abbrev pub IsMarkedPlace : List Bool → Seat → Type 0
IsMarkedPlace marks (Reading root (Some k)) = IsMarkedKey marks k
IsMarkedPlace marks (ReadingAll v (Some x)) = IsMarkedKey marks x.1
IsMarkedPlace marks s = Unit {0}

-- The books have another dictionary, which says the same of the keys of all nodes and of those at which these seats read. All else is
-- as it was.
pub record SweepsTerms (old : Books) (seats : List Seat) (new : Books) : Type 0 where
  pub rest : new ≡ record old { dict = new.dict }
  pub nodes : AgreeOnNodes old.dict.terms new.dict.terms old.pool
  pub places : All (AgreeOnPlace old.dict.terms new.dict.terms) seats

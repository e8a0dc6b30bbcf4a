-- Marks for the terms of the keys at which reads stand.
use Rattle.std.proofs.Common.{ℕ, ◌+◌, ◌<◌, ◌≤◌, Bool, List, length, get_or, take, Some, None, refl, subst}
use Rattle.std.specs.List.{All}
use Rattle.std.proofs.lemmas.List.{take_all}
use Rattle.std.proofs.lemmas.List.Elements.{All-nil, All-weaker, All-more}
use Rattle.gs_pool.specs.declared.nodes.Key.{Key}
use Rattle.gs_pool.specs.Pool.{Nodes}
use Rattle.gs_keys.specs.Texts.{Terms, AgreeOn}
use Rattle.gs_keys.specs.Roots.{AgreeOnNodes}
use Rattle.gs_keys.specs.Marks.{KeepsMarked, IsMarkedKey, IsMarkedNode}
use Rattle.gs_keys.proofs.KeyMarkLemmas.{kept_both, key_still}
use Rattle.gs_tree_store.specs.declared.books.Seat.{Seat}
use Rattle.gs_tree_store.specs.declared.books.Seat.TheVariants.{Idle, Writing, Patching, Reading, ReadingAll}
use Rattle.gs_tree_store.specs.Sweeps.{AgreeOnPlace, IsMarkedPlace}

-- marks that nobody changed are kept
pub marks_kept : (marks : List Bool) → KeepsMarked marks marks
marks_kept marks = record { count = refl; marked = λ n h. h }

-- a place that is marked still is
place_still : (old new : List Bool) → KeepsMarked old new → (s : Seat) → IsMarkedPlace old s → IsMarkedPlace new s
place_still old new kept Idle h = tt
place_still old new kept (Writing k r v n since) h = tt
place_still old new kept (Patching t r n since) h = tt
place_still old new kept (Reading root None) h = tt
place_still old new kept (Reading root (Some k)) h = key_still old new k kept h
place_still old new kept (ReadingAll v None) h = tt
place_still old new kept (ReadingAll v (Some x)) h = key_still old new x.1 kept h

-- the marks with those of the first `n` seats
pub record MarkingPlaces (seats : List Seat) (n : ℕ) (old marks : List Bool) : Type 0 where
  pub kept : KeepsMarked old marks
  pub marked : All (IsMarkedPlace marks) (take n seats)

-- so it is before the first
pub no_places : (seats : List Seat) (marks : List Bool) → MarkingPlaces seats 0 marks marks
no_places seats marks = record { kept = marks_kept marks; marked = All-nil (IsMarkedPlace marks) }

-- and after one more
pub more_places : (seats : List Seat) (n : ℕ) (old marks new : List Bool) (s : Seat) → n < length seats → MarkingPlaces seats n old marks → KeepsMarked marks new → IsMarkedPlace new (get_or seats n s) → MarkingPlaces seats (n + 1) old new
more_places seats n old marks new s within so kept marked = record {
  kept = kept_both old marks new so.kept kept;
  marked = All-more (IsMarkedPlace new) seats n s within (All-weaker (IsMarkedPlace marks) (IsMarkedPlace new) (place_still marks new kept) (take n seats) so.marked) marked;
}

-- and after the last all seats' places are marked
pub whole_places : (seats : List Seat) (n : ℕ) (old marks : List Bool) → length seats ≤ n → MarkingPlaces seats n old marks → All (IsMarkedPlace marks) seats
whole_places seats n old marks end so = subst (All (IsMarkedPlace marks)) (take_all n seats end) so.marked

module _ (terms later : Terms) (marks : List Bool) (agree : (k : Key) → IsMarkedKey marks k → AgreeOn terms later k) where
  -- where the lists of terms agree on the keys that are marked, they do at a place that is
  place_agrees : (s : Seat) → IsMarkedPlace marks s → AgreeOnPlace terms later s
  place_agrees Idle h = tt
  place_agrees (Writing k r v n since) h = tt
  place_agrees (Patching t r n since) h = tt
  place_agrees (Reading root None) h = tt
  place_agrees (Reading root (Some k)) h = agree k h
  place_agrees (ReadingAll v None) h = tt
  place_agrees (ReadingAll v (Some x)) h = agree x.1 h

  -- and at those of all seats
  pub places_agree : (seats : List Seat) → All (IsMarkedPlace marks) seats → All (AgreeOnPlace terms later) seats
  places_agree = All-weaker (IsMarkedPlace marks) (AgreeOnPlace terms later) place_agrees

  -- and on those of all nodes, where they are marked
  pub nodes_agree : (p : Nodes) → ((id : ℕ) → IsMarkedNode p marks id) → AgreeOnNodes terms later p
  nodes_agree p marked id n e = agree n.key (marked id n e)

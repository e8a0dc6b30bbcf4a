-- How freeing carries the ledger: the number of a dead node that no version needs is free, and its sides are dead themselves.
use Rattle.std.proofs.Common.{◌≡◌, ◌⊎◌, ℕ, zero, suc, ◌+◌, ◌<◌, ◌≤◌, List, [], ◌∷◌, ◌++◌, get_or, Option, Some, None, sym, ap, subst, ◌∙◌, inl, inr, arith}
use Rattle.std.proofs.lemmas.List.Elements.{All-append, All-head, All-tail}
use Rattle.std.specs.List.{slice_get, All}
use Rattle.std.proofs.lemmas.Bool.{cases_lt}
use Rattle.gs_pool.specs.Pool.{Nodes, mark_at}
use Rattle.gs_tree.specs.Tree.{Tree, occurrences}
use Rattle.gs_tree.specs.Steps.{one, plain_mark}
use Rattle.gs_tree.proofs.TreeLemmas.{one_same, one_cases}
use Rattle.gs_versions.specs.Pins.{Pins, LiesIn, IsNeeded}
use Rattle.gs_ledger.specs.Entries.{Dead, trees_have, dead_have, tops, died_whole, sides_of}
use Rattle.gs_ledger.specs.Marks.{used_count}
use Rattle.gs_ledger.specs.Ledger.{IsTreeOf, IsDead, IsRead, IsLedger}
use Rattle.gs_ledger.specs.Changes.{IsMarked, FreesTop}
use Rattle.gs_ledger.proofs.Sums.{zero_or, all_at, all_front, all_back, dead_cons, dead_append, after_cons, after_append, after_most, after_cases, tops_cons, tops_append, tops_most, dead_sides, after_sides}
use Rattle.gs_ledger.proofs.Frames.{Keeps, used_none, used_same, used_most, tree_kept, trees_kept, born_by, dead_kept, dead_tree, read_map, marked_one}
use Rattle.gs_ledger.proofs.Orders.{top_found}

-- a version that does not lie in a lifetime is before it, or after it
pub outside : (v birth death : ℕ) → (LiesIn v birth death → ⊥) → (v < birth) ⊎ (death ≤ v)
outside v birth death never = elim (cases_lt v birth) [
  | inl before ↦ inl before
  | inr from ↦ elim (cases_lt v death) [ inl until ↦ absurd (never (from, until)) | inr past ↦ inr past ]
]

-- a seat that has pinned a version stands among the seats
pub seat_found : (seats : List (Option ℕ)) (s v : ℕ) → get_or seats s None ≡ Some v → slice_get seats s ≡ Some (Some v)
seat_found [] s v e = absurd (let none : get_or {A = Option ℕ} [] s None ≡ None = Rattle.std.proofs.lemmas.List.get_or_past [] s None (omega arith) in let bad : None ≡ Some v = sym none ∙ e in cc)
seat_found (o ∷ seats) zero v e = ap Some e
seat_found (o ∷ seats) (suc s) v e = seat_found seats s v e

module _ (p q : Nodes) (v : Pins) (gs us : List Tree) (rs : List (List Tree)) (d : Dead) (ds : List Dead) (l : IsLedger p v gs us rs (d ∷ ds)) (f : FreesTop p q d) where
  entry : IsDead p v.commit d
  entry = All-head (IsDead p v.commit) d ds l.waste

  -- nothing else has the number
  alone : (trees_have gs d.id ≡ 0) × (trees_have us d.id ≡ 0) × (occurrences d.left d.id ≡ 0) × (occurrences d.right d.id ≡ 0) × (dead_have ds d.id ≡ 0)
  alone =
      let o = l.once d.id in
      let m = used_most p d.id in
      let s = one_same d.id in
      let k = dead_cons d ds d.id in
      (omega arith, omega arith, omega arith, omega arith, omega arith)

  -- what does not have the number stays
  stays : (g : ℕ → ℕ) → g d.id ≡ 0 → Keeps p q g
  stays g off x n h e = f.others x (λ same. let z : g x ≡ 0 = subst (λ y. g y ≡ 0) (sym same) off in omega arith) ∙ e

  -- sides and other dead nodes share no number
  apart : (x : ℕ) → one d.id x + tops (sides_of d) x + tops ds x ≤ 1
  apart x = omega (arith, l.once x, used_most p x, dead_cons d ds x, tops_most (sides_of d) x, tops_most ds x, dead_sides d x)

  -- a read whose version lies outside the lifetime does not have the number
  not_read : (w : ℕ) (t : Tree) → IsRead p v.commit gs (d ∷ ds) w t → (w < d.birth) ⊎ (d.death ≤ w) → occurrences t d.id ≡ 0
  not_read w t r out = elim out [
    | inl before ↦ elim (zero_or (occurrences t d.id)) [
      | inl none ↦ none
      | inr some ↦ absurd (let b = born_by p w t d.id entry.top r.tree some entry.found in omega (arith, entry.birth_is))
    ]
    | inr past ↦ elim (after_cases w d d.id) [
      | inl in_time ↦ absurd (omega (arith, in_time.0))
      | inr late ↦ omega (arith, r.within d.id, alone.0, alone.4, late.1, after_cons w d ds d.id, after_most w ds d.id)
    ]
  ]

  read_freed : (w : ℕ) (t : Tree) → (w < d.birth) ⊎ (d.death ≤ w) → IsRead p v.commit gs (d ∷ ds) w t → IsRead q v.commit gs (sides_of d ++ ds) w t
  read_freed w t out r =
      let off = not_read w t r out in
      record {
        pinned = r.pinned;
        tree = tree_kept p q w t (stays (occurrences t) off) r.tree;
        within = λ x. elim (one_cases d.id x) [
          | inl here ↦ let z : occurrences t x ≡ 0 = subst (λ y. occurrences t y ≡ 0) here.0 off in omega arith
          | inr ne ↦ elim (after_cases w d x) [
            | inl in_time ↦ omega (arith, r.within x, after_cons w d ds x, in_time.1, ne.1, after_append w (sides_of d) ds x, after_sides w d x in_time.0)
            | inr late ↦ omega (arith, r.within x, after_cons w d ds x, late.1, after_append w (sides_of d) ds x)
          ]
        ];
      }

  -- each seat's version lies outside the lifetime
  seat_outside : (IsNeeded v d.birth d.death → ⊥) → (s w : ℕ) → get_or v.seats s None ≡ Some w → (w < d.birth) ⊎ (d.death ≤ w)
  seat_outside unneeded s w e = outside w d.birth d.death (λ lies. unneeded (inr (record { seat = s; version = w; pinned = seat_found v.seats s w e; lies = lies })))

  marks_freed : (x : ℕ) → tops (sides_of d ++ ds) x + plain_mark (mark_at q x) ≡ 1
  marks_freed x = elim (one_cases d.id x) [
    | inl here ↦ let now : plain_mark (mark_at q x) ≡ 1 = subst (λ y. plain_mark (mark_at q y) ≡ 1) here.0 (ap plain_mark f.plain_now) in
        omega (arith, now, apart x, here.1, tops_append (sides_of d) ds x)
    | inr ne ↦ elim (zero_or (tops (sides_of d) x)) [
      | inl none ↦ omega (arith, l.marks x, ne.1, none, tops_append (sides_of d) ds x, tops_cons d ds x, ap plain_mark (f.marks x (omega (arith, ne.1, none, tops_cons d (sides_of d) x))))
      | inr some ↦ let side = top_found (sides_of d) x some in
          let gone : plain_mark (mark_at q x) ≡ 0 = subst (λ y. plain_mark (mark_at q y) ≡ 0) side.2 (marked_one (mark_at q side.0.id) _ (all_at (IsMarked q) (sides_of d) side.0 f.marked side.1)) in
          omega (arith, gone, apart x, tops_append (sides_of d) ds x)
    ]
  ]

  side_dead : IsTreeOf q d.birth d.left → IsTreeOf q d.birth d.right → All (IsDead q v.commit) (sides_of d)
  side_dead tl tr =
      let cl = died_whole d.death d.left in
      let cr = died_whole d.death d.right in
      All-append (IsDead q v.commit) cl cr
      (dead_tree q d.birth v.commit d.death d.left entry.died tl (all_front (IsMarked q) cl cr f.marked))
      (dead_tree q d.birth v.commit d.death d.right entry.died tr (all_back (IsMarked q) cl cr f.marked))

  -- The number of a dead node that no version needs is free.
  pub free_ledger : (IsNeeded v d.birth d.death → ⊥) → IsLedger q v gs us rs (sides_of d ++ ds)
  free_ledger unneeded = record {
    once = λ x. elim (one_cases d.id x) [
      | inl here ↦ let z : used_count q x ≡ 0 = subst (λ y. used_count q y ≡ 0) here.0 (used_none q d.id f.freed) in
          omega (arith, z, l.once x, used_most p x, here.1, dead_cons d ds x, dead_append (sides_of d) ds x, dead_sides d x)
      | inr ne ↦ omega (arith, l.once x, ne.1, dead_cons d ds x, dead_append (sides_of d) ds x, dead_sides d x, used_same p q x (f.others x (λ e. ne.0 (sym e))))
    ];
    marks = marks_freed;
    current = trees_kept p q v.commit gs (stays (trees_have gs) alone.0) l.current;
    staged = trees_kept p q (v.commit + 1) us (stays (trees_have us) alone.1) l.staged;
    waste = All-append (IsDead q v.commit) (sides_of d) ds
        (side_dead (tree_kept p q d.birth d.left (stays (occurrences d.left) alone.2) entry.left_tree) (tree_kept p q d.birth d.right (stays (occurrences d.right) alone.3) entry.right_tree))
        (dead_kept p q v.commit ds (stays (dead_have ds) alone.4) (λ x h. f.marks x (omega (arith, apart x, tops_cons d (sides_of d) x))) (All-tail (IsDead p v.commit) d ds l.waste));
    read = λ s. read_map p q v.commit v.commit gs gs (d ∷ ds) (sides_of d ++ ds) (get_or v.seats s None) (get_or rs s []) (omega arith) (λ w t e r. read_freed w t (seat_outside unneeded s w e) r) (l.read s);
  }

-- How a pin, and the end of a read, carry the ledger.
use Rattle.std.proofs.Common.{ℕ, ◌<◌, List, [], length, get_or, set, Option, Some, None, sym, subst, inl, inr, arith}
use Rattle.std.proofs.lemmas.Bool.{cases_eq}
use Rattle.std.proofs.lemmas.List.{get_or-set_same, get_or-set_other}
use Rattle.std.specs.List.{All, Contains}
use Rattle.gs_pool.specs.Pool.{Nodes}
use Rattle.gs_tree.specs.Tree.{Tree, occurrences}
use Rattle.gs_versions.specs.Pins.{Pins, with_pin}
use Rattle.gs_ledger.specs.Entries.{Dead}
use Rattle.gs_ledger.specs.Ledger.{IsTreeOf, IsReadAt, IsLedger}
use Rattle.gs_ledger.proofs.Sums.{all_at, sum_contained}

-- what holds of each seat's pin and trees holds after one seat has others
pub each_seat : (P : Option ℕ → List Tree → Type 0) (seats : List (Option ℕ)) (rs : List (List Tree)) (s : ℕ) (pin : Option ℕ) (ts : List Tree) → s < length seats → s < length rs → ((i : ℕ) → P (get_or seats i None) (get_or rs i [])) → P pin ts → (i : ℕ) → P (get_or (set seats s pin) i None) (get_or (set rs s ts) i [])
each_seat P seats rs s pin ts hs hr ps here i = elim (cases_eq i s) [
  | inl e ↦ subst (λ j. P (get_or (set seats s pin) j None) (get_or (set rs s ts) j [])) (sym e)
      (subst (λ o. P o (get_or (set rs s ts) s [])) (sym (get_or-set_same seats s pin None hs))
      (subst (P pin) (sym (get_or-set_same rs s ts [] hr)) here))
  | inr ne ↦ subst (λ o. P o (get_or (set rs s ts) i [])) (sym (get_or-set_other seats s i pin None ne))
      (subst (P (get_or seats i None)) (sym (get_or-set_other rs s i ts [] ne)) (ps i))
]

-- A pin of current graphs.
pub pin_ledger : (p : Nodes) (v : Pins) (gs us : List Tree) (rs : List (List Tree)) (ds : List Dead) (s : ℕ) (ts : List Tree) → IsLedger p v gs us rs ds → s < length v.seats → s < length rs → All (Contains gs) ts → IsLedger p (with_pin v s (Some v.commit)) gs us (set rs s ts) ds
pin_ledger p v gs us rs ds s ts l hs hr are = record {
  once = l.once;
  marks = l.marks;
  current = l.current;
  staged = l.staged;
  waste = l.waste;
  read = each_seat (IsReadAt p v.commit gs ds) v.seats rs s (Some v.commit) ts hs hr l.read (
    omega arith,
    λ k d h. record {
      pinned = omega arith;
      tree = all_at (IsTreeOf p v.commit) gs (get_or ts k d) l.current (are k d h);
      within = λ x. omega (arith, sum_contained (λ u. occurrences u x) gs (get_or ts k d) (are k d h));
    },
  );
}

-- The end of a read: its seat has pinned nothing.
pub unpin_ledger : (p : Nodes) (v : Pins) (gs us : List Tree) (rs : List (List Tree)) (ds : List Dead) (s : ℕ) → IsLedger p v gs us rs ds → s < length v.seats → IsLedger p (with_pin v s None) gs us rs ds
unpin_ledger p v gs us rs ds s l hs = record {
  once = l.once;
  marks = l.marks;
  current = l.current;
  staged = l.staged;
  waste = l.waste;
  read = λ i. elim (cases_eq i s) [
    | inl e ↦ subst (λ j. IsReadAt p v.commit gs ds (get_or (set v.seats s None) j None) (get_or rs i [])) (sym e)
        (subst (λ o. IsReadAt p v.commit gs ds o (get_or rs i [])) (sym (get_or-set_same v.seats s None None hs)) tt)
    | inr ne ↦ subst (λ o. IsReadAt p v.commit gs ds o (get_or rs i [])) (sym (get_or-set_other v.seats s i None None ne)) (l.read i)
  ];
}

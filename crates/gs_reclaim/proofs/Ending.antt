-- The end of a reclaim: what was set aside is retired again, and it is said whether waste is left.
use Rattle.std.proofs.Common.{◌≡◌, ◌≢◌, ◌⊎◌, ◌↔◌, ℕ, suc, ◌+◌, ◌<◌, ◌≤◌, Bool, true, false, cond, IsTrue, List, [], ◌∷◌, length, get_or, count_by, is_some, Some, None, refl, sym, ap, subst, ◌∙◌, inl, inr, arith, true≢false}
use Rattle.std.proofs.lemmas.Bool.{cases_eq, cases_lt}
use Rattle.std.proofs.lemmas.List.Elements.{All-head}
use Rattle.std.proofs.lemmas.List.Sums.{sum_by-cons}
use Rattle.std.specs.List.{All}
use Rattle.gs_pool.specs.declared.nodes.Retired.{Retired}
use Rattle.gs_pool.specs.Pool.{Nodes, NodeMark, plain, aside, retired, is_aside, is_retired, mark_at, in_use, aside_count, retired_count, KeepsNodes, Marks, Unlists}
use Rattle.gs_pool.specs.Held.{AreHeld}
use Rattle.gs_tree.specs.Steps.{plain_mark}
use Rattle.gs_versions.specs.Pins.{Pins}
use Rattle.gs_event.specs.Steps.{Frees}
use Rattle.gs_ledger.specs.Entries.{Dead, tops, lives}
use Rattle.gs_ledger.specs.Marks.{death_of, dead_at, waste_at}
use Rattle.gs_ledger.specs.Ledger.{IsDead}
use Rattle.gs_ledger.proofs.Retiring.{none_aside}
use Rattle.std.specs.Bool.{Decides}
use Rattle.gs_reclaim.specs.Reclaims.{HasMarkedLedger, KeepsLedgers, Reclaims}
use Rattle.gs_reclaim.specs.Holders.{Agrees, KeepsDead}
use Rattle.gs_reclaim.proofs.Reclaiming.{none_retired, same_ledgers, same_waste, ledger_now, freed_exact, in_use_falls}

-- nothing changed
pub dead_same : (p : Nodes) → KeepsDead p p
dead_same p = record { nodes = refl; deaths = λ x. refl }

-- a node that is taken off a list, and marked again with the death that it had
pub dead_marked : (p0 p p1 q : Nodes) (r : Retired) (m n : NodeMark) → KeepsDead p0 p → Unlists p p1 r.id m → Marks p1 q r.id n → death_of n ≡ death_of m → KeepsDead p0 q
dead_marked p0 p p1 q r m n k u h same = record {
  nodes = h.nodes ∙ u.marks.nodes ∙ k.nodes;
  deaths = λ x. elim (cases_eq x r.id) [
    | inl here ↦ subst (λ y. death_of (mark_at q y) ≡ death_of (mark_at p0 y)) (sym here) (ap death_of h.changed ∙ same ∙ sym (ap death_of u.was) ∙ k.deaths r.id)
    | inr ne ↦ ap death_of (h.others x ne ∙ u.marks.others x ne) ∙ k.deaths x
  ];
}

keeps_nodes : (p q : Nodes) → KeepsDead p q → KeepsNodes p q
keeps_nodes p q k x = ap (λ ns. get_or ns x None) k.nodes

-- one after the other
pub dead_then : (p m q : Nodes) → KeepsDead p m → KeepsDead m q → KeepsDead p q
dead_then p m q a b = record { nodes = b.nodes ∙ a.nodes; deaths = λ x. b.deaths x ∙ a.deaths x }

-- where no node is marked, there is no waste
no_death : (m : NodeMark) (d : ℕ × Bool) → is_aside m ≡ false → is_retired m ≡ false → death_of m ≡ Some d → ⊥
no_death plain d a r e = absurd (cc)
no_death (aside death whole) d a r e = true≢false a
no_death (retired death whole) d a r e = true≢false r

no_lives : (p : Nodes) (c : ℕ) (ds : List Dead) → All (IsDead p c) ds → aside_count p ≡ 0 → retired_count p ≡ 0 → lives ds ≡ []
no_lives p c [] a h k = refl
no_lives p c (d ∷ ds) a h k = let e : IsDead p c d = All-head (IsDead p c) d ds a in
    absurd (no_death (mark_at p d.id) (d.death, d.whole) (none_aside p h d.id) (none_retired p k d.id) e.marked)

-- where a node is retired, there is
retired_found : (ms : List NodeMark) → 0 < count_by is_retired ms → (x : ℕ) × (is_retired (get_or ms x plain) ≡ true)
retired_found [] h = absurd (omega arith)
retired_found (m ∷ ms) h = by_mark (is_retired m) refl (λ g. retired_found ms g)
  where
    first : count_by is_retired (m ∷ ms) ≡ cond {A = ℕ} (is_retired m) 1 0 + count_by is_retired ms
    first = sum_by-cons (λ (k : NodeMark). cond {A = ℕ} (is_retired k) 1 0) m ms

    by_mark : (b : Bool) → is_retired m ≡ b → (0 < count_by is_retired ms → (x : ℕ) × (is_retired (get_or ms x plain) ≡ true)) → (x : ℕ) × (is_retired (get_or (m ∷ ms) x plain) ≡ true)
    by_mark true e later = (0, e)
    by_mark false e later = let f = later (omega (arith, first, ap (λ b. cond {A = ℕ} b 1 0) e)) in (suc f.0, f.1)

retired_not_plain : (m : NodeMark) → is_retired m ≡ true → plain_mark m ≡ 0
retired_not_plain plain e = absurd (true≢false (sym e))
retired_not_plain (aside death whole) e = absurd (true≢false (sym e))
retired_not_plain (retired death whole) e = refl

some_lives : (ds : List Dead) (x : ℕ) → 0 < tops ds x → lives ds ≢ []
some_lives [] x h = absurd (omega arith)
some_lives (d ∷ ds) x h = λ e. absurd (omega (arith, ap length e))

no_more : (n : ℕ) → Decides false (0 < n) → n ≡ 0
no_more n none = elim (cases_lt 0 n) [
  | inl some ↦ absurd (true≢false (sym (none.1 some)))
  | inr few ↦ omega (arith, few)
]

left_is : (v : Pins) (p : Nodes) (left : Bool) → HasMarkedLedger p v → aside_count p ≡ 0 → Decides left (0 < retired_count p) → IsTrue left ↔ (waste_at p ≢ [])
left_is v p true h none some =
    let found = retired_found p.marks (some.0 refl) in
    (λ t. some_lives (dead_at p) found.0 (omega (arith, h.ledger.marks found.0, retired_not_plain (mark_at p found.0) found.1)), λ e. refl)
left_is v p false h none zero_left = (λ t. absurd (cc), λ e. absurd (e (no_lives p v.commit (dead_at p) h.ledger.waste none (no_more (retired_count p) zero_left))))

-- What a reclaim makes of the waste, from what its parts did.
module _ (v : Pins) (p0 p q : Nodes) (n freed : ℕ) (left : Bool) (h : HasMarkedLedger p0 v) (k : Reclaims v p0 p freed) (most : freed ≤ n) (all : (freed ≡ n) ⊎ AreHeld p) (agrees : Agrees p v) (dead : KeepsDead p q) where
  pub ended_ledgers : KeepsLedgers v p0 q
  ended_ledgers gs us rs l = same_ledgers v p q (keeps_nodes p q dead) dead.deaths gs us rs (k.ledgers gs us rs l)

  pub ended_waste : aside_count q ≡ 0 → Decides left (0 < retired_count q) → Frees v.seats n freed left (waste_at p0) (waste_at q)
  ended_waste none answer = record {
    exact = freed_exact v p0 p n freed h k most all agrees;
    gone = k.gone;
    many = k.many;
    same = λ f. omega (arith, k.same f, same_waste v p q (ledger_now v p0 p h k.ledgers) (keeps_nodes p q dead) dead.deaths f);
    none_needed = k.none_needed;
    left_is = left_is v q left (ledger_now v p0 q h ended_ledgers) none answer;
  }

  pub ended_in_use : in_use q + freed ≡ in_use p0
  ended_in_use = omega (arith, in_use_falls v p0 p freed h k, ap (λ ns. count_by is_some ns) dead.nodes)

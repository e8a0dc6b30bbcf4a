-- How one event more changes what is kept under the lock.
use Rattle.std.proofs.Common.{◌≡◌, ℕ, zero, suc, ◌+◌, ◌-◌, ◌<◌, ◌≤◌, List, [], ◌∷◌, ◌++◌, length, Option, None, Some, Bool, true, false, ◌&&◌, refl, sym, ap, ◌∙◌, subst, arith, length-append}
use Rattle.std.specs.Prelude.{sum, replicate, nat_lt, nat_le, if◌then◌else◌}
use Rattle.std.proofs.lemmas.List.{map-append}
use Rattle.std.proofs.lemmas.List.Sums.{sum_by_push, sum_by-cons}
use Rattle.std.proofs.lemmas.Bool.Decides.{nat_tests}
use Rattle.gs_event.specs.declared.events.Event.{Event}
use Rattle.gs_event.specs.declared.answers.Answer.{Answer}
use Rattle.gs_event.specs.Views.{View, Fits}
use Rattle.gs_chronicle.specs.declared.kinds.ActionKind.{ActionKind}
use Rattle.gs_chronicle.specs.Kinds.{action_kind_of}
use Rattle.gs_chronicle.specs.Pages.{Decided, Row, PageView, fresh_page, stored_in, turned, with_row, has_room, page_after}
use Rattle.gs_audit.specs.Staged.{staged_after}
use Rattle.gs_audit.specs.Decisions.{decided_by, page_by}
use Rattle.gs_pass.specs.declared.stamps.Stamp.{Stamp}
use Rattle.gs_pass.specs.declared.receipts.Receipt.{Receipt}
use Rattle.gs_pass.specs.Stamps.{stamp, receipt}
use Rattle.gs_shared.specs.Asked.{ask_of_event, decided_of, brought_of}
use Rattle.gs_shared.specs.Tells.{is_of_another}
use Rattle.gs_shared.specs.Counts.{stamp_in, stamps_in, IsTied, IsPageCounted}
use Rattle.gs_shared.proofs.DecisionLemmas.{size_if, staged_law, mark_law, some_decided, none_decided, own_decided}

-- where the page is still page 0 after a call, it has the call's stamp more
stamps_law : (n k : ℕ) (p : PageView) (d : Decided) → (page_after n k p d).number ≡ 0
    → (p.number ≡ 0) × (stamps_in (page_after n k p d).rows ≡ stamps_in p.rows ++ stamp d.seat (receipt (length (page_after n k p d).rows - 1) (action_kind_of d.asked.operation) d.status) ∷ [])
stamps_law n k p d = by_room (nat_lt k d.triples) (has_room n k p d)
  where
    row : Row
    row = record { number = length p.rows; call = d }

    after : Bool → Bool → PageView
    after b c = if b then turned p else if c then with_row p d else with_row (turned p) d

    by_room : (b c : Bool) → (after b c).number ≡ 0 → (p.number ≡ 0) × (stamps_in (after b c).rows ≡ stamps_in p.rows ++ stamp d.seat (receipt (length (after b c).rows - 1) (action_kind_of d.asked.operation) d.status) ∷ [])
    by_room true c e = absurd (omega (arith, e))
    by_room false true e =
        let len : length p.rows ≡ length (p.rows ++ row ∷ []) - 1 = omega (arith, length-append p.rows (row ∷ [])) in
        (e, map-append stamp_in p.rows (row ∷ []) ∙ ap (λ m. stamps_in p.rows ++ stamp d.seat (receipt m (action_kind_of d.asked.operation) d.status) ∷ []) len)
    by_room false false e = absurd (omega (arith, e))

-- the counts after a call
counts_law : (n k : ℕ) (p : PageView) (d : Decided) (was now more calls triples : ℕ) → now + d.triples ≤ was + more → IsPageCounted n k p was calls triples → IsPageCounted n k (page_after n k p d) now (calls + 1) (triples + more)
counts_law n k p d was now more calls triples law h = by_room (nat_lt k d.triples) (nat_lt (length p.rows) n) (nat_le (stored_in p.rows + d.triples) k) refl refl refl
  where
    row : Row
    row = record { number = length p.rows; call = d }

    after : Bool → Bool → PageView
    after b c = if b then turned p else if c then with_row p d else with_row (turned p) d

    -- a page that was turned before stays turned
    later : (p.number ≡ 0 → calls + 1 ≤ n → triples + more ≤ k → ⊥) → calls + 1 ≤ n → triples + more ≤ k → ⊥
    later f a b = by_number p.number refl
      where
        by_number : (m : ℕ) → p.number ≡ m → ⊥
        by_number zero e = f e a b
        by_number (suc m) e = h.1 (omega (arith, e)) (omega arith) (omega arith)

    by_room : (b c d' : Bool) → nat_lt k d.triples ≡ b → nat_lt (length p.rows) n ≡ c → nat_le (stored_in p.rows + d.triples) k ≡ d' → IsPageCounted n k (after b (c && d')) now (calls + 1) (triples + more)
    by_room true c d' is-b is-c is-d =
        let big : k < d.triples = grind (arith, nat_tests) in
        ((λ e. absurd (omega (arith, e))), (λ _. later (λ z a b. let o = h.0 z in omega (arith, o, big, law))))
    by_room false true true is-b is-c is-d = (
      (λ e. let o = h.0 e in (omega (arith, o, length-append p.rows (row ∷ [])), omega (arith, o, law, sum_by_push (λ (r : Row). r.call.triples) p.rows row))),
      (λ z a b. h.1 z (omega arith) (omega arith)),
    )
    by_room false true false is-b is-c is-d =
        let big : k < stored_in p.rows + d.triples = grind (arith, nat_tests) in
        ((λ e. absurd (omega (arith, e))), (λ _. later (λ z a b. let o = h.0 z in omega (arith, o, big, law))))
    by_room false false d' is-b is-c is-d =
        let full : n ≤ length p.rows = grind (arith, nat_tests) in
        ((λ e. absurd (omega (arith, e))), (λ _. later (λ z a b. let o = h.0 z in omega (arith, o, full))))

-- the counts after an event that decided nothing
counts_same : (n k : ℕ) (p : PageView) (was now more calls triples : ℕ) → now ≤ was + more → IsPageCounted n k p was calls triples → IsPageCounted n k p now calls (triples + more)
counts_same n k p was now more calls triples law h =
    ((λ e. let o = h.0 e in (o.0, omega (arith, o.1, law))), (λ z a b. h.1 z a (omega arith)))

-- what an event that decided something makes of the stamps and of the counts
pub record Moves (n k : ℕ) (p q : PageView) (was now more : ℕ) (own : ℕ) (m : ActionKind × ℕ) : Type 0 where
  pub stamps : q.number ≡ 0 → (p.number ≡ 0) × (stamps_in q.rows ≡ stamps_in p.rows ++ stamp own (receipt (length q.rows - 1) m.0 m.1) ∷ [])
  pub counts : (calls triples : ℕ) → IsPageCounted n k p was calls triples → IsPageCounted n k q now (calls + 1) (triples + more)

-- an event that decided something, by what it asked
pub decided_moves : (n k : ℕ) (v : View) (staged after : List ℕ) (e : Event) (a : Answer) (p q : PageView) (own more : ℕ) (m : ActionKind × ℕ)
    → Fits v e a → q ≡ page_by n k p (decided_by v staged e a) → after ≡ staged_after staged e a → is_of_another own e ≡ false
    → more ≡ brought_of (ask_of_event e) a → decided_of (ask_of_event e) a ≡ Some m → Moves n k p q (sum staged) (sum after) more own m
decided_moves n k v staged after e a p q own more m fits page set mine brought some =
    let x = some_decided (decided_by v staged e a) m (mark_law v staged e a fits ∙ some) in
    let d = x.0 in
    let seat = own_decided v staged e a own d mine x.1 in
    let now : q ≡ page_after n k p d = page ∙ ap (page_by n k p) x.1 in
    let law : sum after + d.triples ≤ sum staged + more =
    subst (λ (y : List ℕ × Option Decided). sum y.0 + size_if y.1 ≤ sum staged + more) (λ i. (sym set i, x.1 i)) (staged_law v staged e a more brought) in
    subst (λ r. Moves n k p r (sum staged) (sum after) more own m) (sym now) (record {
      stamps = λ z.
          let s = stamps_law n k p d z in
          (s.0, s.1 ∙ (λ i. stamps_in p.rows ++ stamp (seat i) (receipt (length (page_after n k p d).rows - 1) (x.2 i) (x.3 i)) ∷ []));
      counts = λ calls triples h. counts_law n k p d (sum staged) (sum after) more calls triples law h;
    })

-- an event that decided nothing, by what it asked
pub undecided_moves : (n k : ℕ) (v : View) (staged after : List ℕ) (e : Event) (a : Answer) (p q : PageView) (more calls triples : ℕ)
    → Fits v e a → q ≡ page_by n k p (decided_by v staged e a) → after ≡ staged_after staged e a → more ≡ brought_of (ask_of_event e) a → decided_of (ask_of_event e) a ≡ None
    → (q ≡ p) × (IsPageCounted n k p (sum staged) calls triples → IsPageCounted n k q (sum after) calls (triples + more))
undecided_moves n k v staged after e a p q more calls triples fits page set brought none =
    let x = none_decided (decided_by v staged e a) (mark_law v staged e a fits ∙ none) in
    let same : q ≡ p = page ∙ ap (page_by n k p) x in
    let law : sum after + 0 ≤ sum staged + more =
    subst (λ (y : List ℕ × Option Decided). sum y.0 + size_if y.1 ≤ sum staged + more) (λ i. (sym set i, x i)) (staged_law v staged e a more brought) in
    (same, λ h. subst (λ r. IsPageCounted n k r (sum after) calls (triples + more)) (sym same) (counts_same n k p (sum staged) (sum after) more calls triples (omega (arith, law)) h))

-- what is kept under the lock, after an event that decided nothing
pub undecided_kept : (n k : ℕ) (v : View) (staged after : List ℕ) (e : Event) (a : Answer) (p q : PageView) (more : ℕ) (all now : List Stamp) (calls calls' triples triples' : ℕ)
    → Fits v e a → q ≡ page_by n k p (decided_by v staged e a) → after ≡ staged_after staged e a → more ≡ brought_of (ask_of_event e) a → decided_of (ask_of_event e) a ≡ None
    → now ≡ all → calls' ≡ calls → triples' ≡ triples + more → IsTied p all → IsPageCounted n k p (sum staged) calls triples
    → IsTied q now × IsPageCounted n k q (sum after) calls' triples'
undecided_kept n k v staged after e a p q more all now calls calls' triples triples' fits page set brought none same same-calls same-triples tied counted =
    let m = undecided_moves n k v staged after e a p q more calls triples fits page set brought none in (
      (λ z. same ∙ tied (ap (λ (x : PageView). x.number) (sym m.0) ∙ z) ∙ ap (λ (x : PageView). stamps_in x.rows) (sym m.0)),
      subst (λ (y : ℕ × ℕ). IsPageCounted n k q (sum after) y.0 y.1) (λ i. (sym same-calls i, sym same-triples i)) (m.1 counted),
    )

-- what is kept under the lock, after an event that decided something
pub decided_kept : (n k : ℕ) (v : View) (staged after : List ℕ) (e : Event) (a : Answer) (p q : PageView) (more own : ℕ) (r : Receipt) (all now : List Stamp) (calls calls' triples triples' : ℕ)
    → Fits v e a → q ≡ page_by n k p (decided_by v staged e a) → after ≡ staged_after staged e a → is_of_another own e ≡ false → more ≡ brought_of (ask_of_event e) a → decided_of (ask_of_event e) a ≡ Some (r.kind, r.status)
    → r.number ≡ length q.rows - 1 → now ≡ all ++ stamp own r ∷ [] → calls' ≡ calls + 1 → triples' ≡ triples + more → IsTied p all → IsPageCounted n k p (sum staged) calls triples
    → IsTied q now × IsPageCounted n k q (sum after) calls' triples'
decided_kept n k v staged after e a p q more own r all now calls calls' triples triples' fits page set mine brought some number longer one-call same-triples tied counted =
    let m = decided_moves n k v staged after e a p q own more (r.kind, r.status) fits page set mine brought some in (
      (λ z.
          let s = m.stamps z in
          longer ∙ (λ i. tied s.0 i ++ stamp own (receipt (number i) r.kind r.status) ∷ []) ∙ sym s.1),
      subst (λ (y : ℕ × ℕ). IsPageCounted n k q (sum after) y.0 y.1) (λ i. (sym one-call i, sym same-triples i)) (m.counts calls triples counted),
    )

-- the sum of zeros
sum_zeros : (n : ℕ) → sum (replicate n 0) ≡ 0
sum_zeros zero = refl
sum_zeros (suc n) = omega (arith, sum_zeros n, sum_by-cons (λ (m : ℕ). m) 0 (replicate n 0))

-- the counts at the beginning
pub fresh_counts : (n k : ℕ) (p : PageView) (staged : List ℕ) (seats calls triples : ℕ) → p ≡ fresh_page → staged ≡ replicate seats 0 → calls ≡ 0 → triples ≡ 0 → IsPageCounted n k p (sum staged) calls triples
fresh_counts n k p staged seats calls triples fresh none no-calls no-triples =
    let rows = ap (λ (q : PageView). length q.rows) fresh in
    let stored = ap (λ (q : PageView). stored_in q.rows) fresh in
    let number = ap (λ (q : PageView). q.number) fresh in
    let zero-staged = ap sum none ∙ sum_zeros seats in
    ((λ z. (omega (arith, rows, no-calls), omega (arith, stored, zero-staged, no-triples))), (λ z a b. absurd (omega (arith, number, z))))

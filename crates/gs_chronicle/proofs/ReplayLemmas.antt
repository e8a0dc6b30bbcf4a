-- A page still replays after one more call.
use Rattle.std.proofs.Common.{◌≡◌, ℕ, List, [], ◌∷◌, ◌++◌, length, Bool, true, false, refl, sym, ap, ◌∙◌, arith}
use Rattle.std.specs.Prelude.{if◌then◌else◌, nat_lt}
use Rattle.gs_event.specs.Operations.{Setting}
use Rattle.gs_event.specs.Conditions.{State, after_if, status_if}
use Rattle.gs_chronicle.specs.Pages.{Row, PageView, Decided, turned, has_room, with_row, page_after}
use Rattle.gs_chronicle.specs.Replays.{Replays, after_rows, HaveStatuses}

pub after_rows-push : (w : Setting) (m : State) (rows : List Row) (r : Row) → after_rows w m (rows ++ r ∷ []) ≡ after_if w (after_rows w m rows) r.call.asked
after_rows-push w m [] r = refl
after_rows-push w m (x ∷ rows) r = after_rows-push w (after_if w m x.call.asked) rows r

pub HaveStatuses-push : (w : Setting) (m : State) (rows : List Row) (r : Row) → HaveStatuses w m rows → r.call.status ≡ status_if w (after_rows w m rows) r.call.asked
    → HaveStatuses w m (rows ++ r ∷ [])
HaveStatuses-push w m [] r h same = (same, tt)
HaveStatuses-push w m (x ∷ rows) r h same = (h.0, HaveStatuses-push w (after_if w m x.call.asked) rows r h.1 same)

module _ (w : Setting) (start : ℕ) where
  -- a page that replays to m still does after a row with the store's status on m
  with_row-replays : (p : PageView) (m : State) (d : Decided) → Replays w start p m → d.status ≡ status_if w m d.asked → Replays w start (with_row p d) (after_if w m d.asked)
  with_row-replays p m d r same =
      let row : Row = record { number = length p.rows; call = d } in record {
        first = r.first;
        begins = r.begins;
        statuses = HaveStatuses-push w r.first p.rows row r.statuses (same ∙ ap (λ x. status_if w x d.asked) (sym r.ends));
        ends = after_rows-push w r.first p.rows row ∙ ap (λ x. after_if w x d.asked) r.ends;
      }

  -- a page that was turned replays from any state to itself, since its number is not 0
  turned-replays : (p : PageView) (m : State) → Replays w start (turned p) m
  turned-replays p m = record { first = m; begins = λ e. absurd (omega (arith, e)); statuses = tt; ends = refl }

  pub page_after-replays : (n k : ℕ) (p : PageView) (m : State) (d : Decided) → Replays w start p m → d.status ≡ status_if w m d.asked
      → Replays w start (page_after n k p d) (after_if w m d.asked)
  page_after-replays n k p m d r same = by_room (nat_lt k d.triples) (has_room n k p d)
    where
      by_room : (b c : Bool) → Replays w start (if b then turned p else if c then with_row p d else with_row (turned p) d) (after_if w m d.asked)
      by_room true c = turned-replays p (after_if w m d.asked)
      by_room false true = with_row-replays p m d r same
      by_room false false = with_row-replays (turned p) m d (turned-replays p m) same

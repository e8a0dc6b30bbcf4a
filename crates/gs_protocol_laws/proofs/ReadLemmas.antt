-- A whole GET is given the lines that its graph, or all graphs, had at the pin.
use Rattle.std.proofs.Common.{◌≡◌, ◌⊎◌, inl, inr, ℕ, ◌+◌, Bool, true, false, cond, nat_eq, List, [], ◌∷◌, ◌++◌, take, drop, length, refl, sym, ap, ◌∙◌, subst, add-zero, append-nil}
use Rattle.std.specs.List.{concat}
use Rattle.std.proofs.Math.Seq.{take-add}
use Rattle.std.proofs.lemmas.Bool.{eqb-true, eq-eqb, leb-true}
use Rattle.std.proofs.lemmas.List.{take_all, take-append-drop}
use Rattle.std.proofs.lemmas.List.Folds.{concat-append}
use Rattle.gs_texts.specs.Lines.{Written}
use Rattle.gs_event.specs.declared.events.Scope.{Scope}
use Rattle.gs_model.specs.declared.refusals.Refusal.{Refusal}
use Rattle.gs_model.specs.declared.refusals.Refusal.TheVariants.{BadSeat}
use Rattle.gs_event.specs.declared.events.Action.{Action}
use Rattle.gs_event.specs.declared.events.Action.TheVariants.{Open, OpenPatch, Stage, Commit, CommitPatch, Delete, Head, Pin, Piece, Cancel}
use Rattle.gs_event.specs.declared.events.Event.{Event}
use Rattle.gs_event.specs.declared.events.Event.TheVariants.{Seat as At, Reclaim}
use Rattle.gs_event.specs.declared.answers.Answer.{Answer}
use Rattle.gs_event.specs.declared.answers.Answer.TheVariants.{Pinned, Lines, Cancelled, Refused}
use Rattle.gs_event.specs.Datasets.{lines_in}
use Rattle.gs_event.specs.Phases.{Phase, Idle, Reading}
use Rattle.gs_event.specs.Views.{Totals, Fits, FitsSeat}
use Rattle.gs_event.specs.Histories.{History, OpenRead, Start, IsLegal, phase_of, seat_view, view_of, dataset_after}
use Rattle.gs_event.proofs.HistoryLemmas.{later, refused_phase}
use Rattle.gs_protocol_laws.specs.Reads.{ends_read, LeavesRead, LeaveRead, bytes_given, event_bytes, bytes_to, lines_asked, event_lines, lines_to, GetsGiveTheirLines, CutGetsGiveTheFirst}
use Rattle.gs_protocol_laws.proofs.FitLemmas.{fits_phase, pin_idle}

-- a read that was pinned after these events, and given so many lines
abbrev read_of : Scope → History → ℕ → Phase OpenRead
read_of c before k = Reading record { scope = c; before = before; given = k }

-- what an action that does not end the read gives: the lines that it asked for, of those that are left
record Goes (c : Scope) (before h : History) (lines : List (List ℕ)) (k : ℕ) (action : Action) (a : Answer) : Type 0 where
  pub phase : later h (read_of c before k) action a ≡ read_of c before (k + lines_asked action a)
  pub bytes : bytes_given action a ≡ concat (take (lines_asked action a) (drop k lines))

-- a refusal gives nothing
refused_bytes : (action : Action) (r : Refusal) → bytes_given action (Refused r) ≡ []
refused_bytes (Piece n) r = refl
refused_bytes action r = refl

-- and was asked for nothing
refused_lines : (action : Action) (r : Refusal) → lines_asked action (Refused r) ≡ 0
refused_lines (Piece n) r = refl
refused_lines action r = refl

refused_goes : (c : Scope) (before h : History) (lines : List (List ℕ)) (k : ℕ) (action : Action) (r : Refusal) → Goes c before h lines k action (Refused r)
refused_goes c before h lines k action r = record {
  phase = refused_phase (λ (u : Scope). record { scope = u; before = h; given = 0 }) (λ (x : OpenRead) (n : ℕ). record { scope = x.scope; before = x.before; given = x.given + n }) (read_of c before k) action r
      ∙ ap (read_of c before) (sym (add-zero k))
      ∙ ap (λ n. read_of c before (k + n)) (sym (refused_lines action r));
  bytes = refused_bytes action r ∙ ap (λ n. concat (take n (drop k lines))) (sym (refused_lines action r));
}

goes_on : (v : Totals) (c : Scope) (before h : History) (lines : List (List ℕ)) (k : ℕ) (action : Action) (a : Answer) → FitsSeat v (Reading (drop k lines)) action a
    → ends_read action a ≡ false → Goes c before h lines k action a
goes_on v c before h lines k action (Refused r) f e = refused_goes c before h lines k action r
goes_on v c before h lines k (Piece n) (Lines b end) f e = record { phase = ap (λ e. cond e Idle (read_of c before (k + n))) e; bytes = f.1 }
goes_on v c before h lines k Cancel Cancelled f e = absurd (cc)
goes_on v c before h lines k (Open u condition) a f e = absurd f
goes_on v c before h lines k (OpenPatch u condition) a f e = absurd f
goes_on v c before h lines k (Stage ts) a f e = absurd f
goes_on v c before h lines k Commit a f e = absurd f
goes_on v c before h lines k (CommitPatch ops) a f e = absurd f
goes_on v c before h lines k (Delete u condition) a f e = absurd f
goes_on v c before h lines k (Head u) a f e = absurd f
goes_on v c before h lines k (Pin u) a f e = absurd f
goes_on v c before h lines k (Piece n) a f e = absurd f
goes_on v c before h lines k Cancel a f e = absurd f

-- what stands of a read while it goes on: its phase, with as many lines as it asked for, and the bytes given so far
record Stands (c : Scope) (before h : History) (lines : List (List ℕ)) (seat : ℕ) (bytes : List ℕ) (asked : ℕ) : Type 0 where
  pub phase : phase_of h seat ≡ read_of c before asked
  pub given : bytes ≡ concat (take asked lines)

-- two spans of lines are one
spans : (lines : List (List ℕ)) (k n : ℕ) → concat (take k lines) ++ concat (take n (drop k lines)) ≡ concat (take (k + n) lines)
spans lines k n = sym (ap concat (take-add k n lines) ∙ concat-append (take k lines) (take n (drop k lines)))

-- one more event of the seat
own_stands : (start : Start) (c : Scope) (before h : History) (seat : ℕ) (bytes : List ℕ) (k : ℕ) (action : Action) (a : Answer)
    → Fits (view_of start h) (At seat action) a → ends_read action a ≡ false
    → Stands c before h (lines_in (dataset_after start before) c) seat bytes k
    → Goes c before h (lines_in (dataset_after start before) c) k action a
own_stands start c before h seat bytes k action a f e s = go (fits_phase start h seat action a f) where
  go : (a ≡ Refused BadSeat) ⊎ FitsSeat (view_of start h).totals (seat_view start (phase_of h seat)) action a
      → Goes c before h (lines_in (dataset_after start before) c) k action a
  go (inl is) = subst (λ b. Goes c before h (lines_in (dataset_after start before) c) k action b) (sym is)
      (refused_goes c before h (lines_in (dataset_after start before) c) k action BadSeat)
  go (inr fits) = goes_on (view_of start h).totals c before h (lines_in (dataset_after start before) c) k action a
      (subst (λ p. FitsSeat (view_of start h).totals (seat_view start p) action a) s.phase fits) e

-- one more event that is none of the seat's
none_more : (c : Scope) (before h : History) (lines : List (List ℕ)) (seat : ℕ) (bytes : List ℕ) (k : ℕ) → Stands c before h lines seat bytes k
    → Stands c before h lines seat (bytes ++ []) (k + 0)
none_more c before h lines seat bytes k s = record {
  phase = s.phase ∙ ap (read_of c before) (sym (add-zero k));
  given = append-nil bytes ∙ s.given ∙ ap (λ n. concat (take n lines)) (sym (add-zero k));
}

-- one more event
more_stands : (start : Start) (c : Scope) (before h : History) (seat : ℕ) (bytes : List ℕ) (k : ℕ) (e : Event) (a : Answer) → Fits (view_of start h) e a → LeavesRead seat e a
    → Stands c before h (lines_in (dataset_after start before) c) seat bytes k
    → Stands c before ((e, a) ∷ h) (lines_in (dataset_after start before) c) seat (bytes ++ event_bytes seat e a) (k + event_lines seat e a)
more_stands start c before h seat bytes k (Reclaim n) a f l s =
    let same = none_more c before h (lines_in (dataset_after start before) c) seat bytes k s in
    record { phase = same.phase; given = same.given }
more_stands start c before h seat bytes k (At d action) a f l s = go (nat_eq d seat) refl where
  lines : List (List ℕ)
  lines = lines_in (dataset_after start before) c

  go : (b : Bool) → nat_eq d seat ≡ b
      → Stands c before ((At d action, a) ∷ h) lines seat (bytes ++ event_bytes seat (At d action) a) (k + event_lines seat (At d action) a)
  go true is =
      let same : d ≡ seat = eqb-true d seat is in
      let next = own_stands start c before h seat bytes k action a (subst (λ n. Fits (view_of start h) (At n action) a) same f) (l same) s in
      record {
        phase = ap (λ b. cond b (later h (phase_of h seat) action a) (phase_of h seat)) is
            ∙ ap (λ p. later h p action a) s.phase
            ∙ next.phase
            ∙ ap (λ b. read_of c before (k + cond b (lines_asked action a) 0)) (sym is);
        given = ap (λ b. bytes ++ cond b (bytes_given action a) []) is
            ∙ ap (λ xs. xs ++ bytes_given action a) s.given
            ∙ ap (λ xs. concat (take k lines) ++ xs) next.bytes
            ∙ spans lines k (lines_asked action a)
            ∙ ap (λ b. concat (take (k + cond b (lines_asked action a) 0) lines)) (sym is);
      }
  go false is =
      let same = none_more c before h lines seat bytes k s in
      record {
        phase = ap (λ b. cond b (later h (phase_of h seat) action a) (phase_of h seat)) is
            ∙ same.phase
            ∙ ap (λ b. read_of c before (k + cond b (lines_asked action a) 0)) (sym is);
        given = ap (λ b. bytes ++ cond b (bytes_given action a) []) is
            ∙ same.given
            ∙ ap (λ b. concat (take (k + cond b (lines_asked action a) 0) lines)) (sym is);
      }

-- it stands so since the pin
since_stands : (start : Start) (c : Scope) (before : History) (seat number : ℕ) (since : History) → IsLegal start (since ++ (At seat (Pin c), Pinned 200 number) ∷ before) → LeaveRead seat since
    → Stands c before (since ++ (At seat (Pin c), Pinned 200 number) ∷ before) (lines_in (dataset_after start before) c) seat (bytes_to seat since) (lines_to seat since)
since_stands start c before seat number [] legal l = record {
  phase = ap (λ b. cond b (later before (phase_of before seat) (Pin c) (Pinned 200 number)) (phase_of before seat)) (eq-eqb seat seat refl)
      ∙ ap (λ p. later before p (Pin c) (Pinned 200 number)) (pin_idle start before seat c 200 number legal);
  given = refl;
}
since_stands start c before seat number (x ∷ since) legal l =
    more_stands start c before (since ++ (At seat (Pin c), Pinned 200 number) ∷ before) seat (bytes_to seat since) (lines_to seat since) x.0 x.1 legal.1 l.1
    (since_stands start c before seat number since legal.0 l.0)

-- the last piece has the rest
last_piece : (v : Totals) (lines : List (List ℕ)) (k n : ℕ) (b : Written) → FitsSeat v (Reading (drop k lines)) (Piece n) (Lines b true) → concat (take k lines) ++ b.items ≡ concat lines
last_piece v lines k n b f =
    ap (λ xs. concat (take k lines) ++ xs) (f.1 ∙ ap concat (take_all n (drop k lines) (leb-true (length (drop k lines)) n (sym f.2))))
    ∙ sym (concat-append (take k lines) (drop k lines))
    ∙ ap concat (take-append-drop k lines)

whole_lines : (start : Start) (c : Scope) (before : History) (seat number : ℕ) (since : History) (n : ℕ) (b : Written)
    → IsLegal start ((At seat (Piece n), Lines b true) ∷ (since ++ (At seat (Pin c), Pinned 200 number) ∷ before)) → LeaveRead seat since
    → bytes_to seat ((At seat (Piece n), Lines b true) ∷ since) ≡ concat (lines_in (dataset_after start before) c)
whole_lines start c before seat number since n b legal l = go (fits_phase start h seat (Piece n) (Lines b true) legal.1) where
  h : History
  h = since ++ (At seat (Pin c), Pinned 200 number) ∷ before

  lines : List (List ℕ)
  lines = lines_in (dataset_after start before) c

  s : Stands c before h lines seat (bytes_to seat since) (lines_to seat since)
  s = since_stands start c before seat number since legal.0 l

  go : (Lines b true ≡ Refused BadSeat) ⊎ FitsSeat (view_of start h).totals (seat_view start (phase_of h seat)) (Piece n) (Lines b true)
      → bytes_to seat since ++ event_bytes seat (At seat (Piece n)) (Lines b true) ≡ concat lines
  go (inl k) = absurd (cc)
  go (inr k) =
      ap (λ e. bytes_to seat since ++ cond e b.items []) (eq-eqb seat seat refl)
      ∙ ap (λ xs. xs ++ b.items) s.given
      ∙ last_piece (view_of start h).totals lines (lines_to seat since) n b (subst (λ p. FitsSeat (view_of start h).totals (seat_view start p) (Piece n) (Lines b true)) s.phase k)

pub gets_give : GetsGiveTheirLines
gets_give start before whole seat c bytes legal g =
    g.given ∙ whole_lines start c before seat g.number g.since g.count g.piece (subst (IsLegal start) g.events legal) g.goes_on

pub cut_gets_give : CutGetsGiveTheFirst
cut_gets_give start before since seat number c legal l = (since_stands start c before seat number since legal l).given

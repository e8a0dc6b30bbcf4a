-- An event is answered, and the uploads follow.
use Rattle.std.proofs.Common.{◌≡◌, ℕ, Bool, true, false, cond, nat_eq, List, length, map, Option, Some, None, MatchOption, option_map, refl, sym, ap, ◌∙◌, subst}
use Rattle.std.specs.List.{slice_get, slice_set}
use Rattle.std.proofs.lemmas.List.{map-set, length-set}
use Rattle.std.proofs.lemmas.Option.{slice_get-map}
use Rattle.gs_model.specs.declared.refusals.Refusal.TheVariants.{BadSeat}
use Rattle.gs_event.specs.declared.events.Action.{Action}
use Rattle.gs_event.specs.declared.events.Action.TheVariants.{Open, OpenPatch, Commit, CommitPatch, Pin, Piece, Cancel}
use Rattle.gs_event.specs.declared.events.Event.{Event}
use Rattle.gs_event.specs.declared.events.Event.TheVariants.{Seat as At, Reclaim}
use Rattle.gs_event.specs.declared.answers.Answer.{Answer}
use Rattle.gs_event.specs.declared.answers.Answer.TheVariants.{Opened, Status, Pinned, Lines, Cancelled, Refused}
use Rattle.gs_event.specs.Phases.{Idle, Writing, Patching, Reading}
use Rattle.gs_event.specs.Views.{View, SeatView, Totals, Fits, FitsSeat, next_view, next_phase, next_if}
use Rattle.gs_event.specs.Waste.{Shown}
use Rattle.gs_event.specs.Steps.{Steps}
use Rattle.gs_feeding.specs.declared.texts.SeatText.{SeatText}
use Rattle.gs_feeding.specs.declared.texts.SeatText.TheVariants as seat_text
use Rattle.gs_feeding.specs.declared.openings.Opening.{Opening}
use Rattle.gs_drill.specs.declared.uploads.Uploads.{Uploads}
use Rattle.gs_drill.specs.Feeds.{Responds, with_fed, fed_after, is_boundary}
use Rattle.gs_drill.specs.Standing.{AreFed, Standing, desk_of, opening_of, patch_of}
use Rattle.gs_drill.specs.Following.{held_reset, held_after, openings_after, patches_after, patch_opened_by, texts_after}
use Rattle.gs_feeding.specs.Receiving.{Fed, Unfed}
use Rattle.gs_feeding.specs.SeatTexts.{opened_by}
use Rattle.gs_drill.proofs.SeatLemmas.{set_same, AreFed-unfed}

-- what a seat holds after an answer, where `by` says what an action opened
held_next : (Action → ℕ → Option Opening) → Option Opening → Action → Answer → Option Opening
held_next by o action (Opened r) = by action r
held_next by o action (Status s name number) = None
held_next by o action Cancelled = None
held_next by o action a = o

-- what a seat holds by its phase is what the answer leaves
Leads : (SeatView → Option Opening) → (Action → ℕ → Option Opening) → Type 0
Leads of by = (t : Totals) (p : SeatView) (action : Action) (a : Answer) → FitsSeat t p action a → held_next by (of p) action a ≡ of (next_phase t p action a)

pinned_none : (b : Bool) (left : List (List ℕ)) → None ≡ opening_of (cond b (Reading left) Idle)
pinned_none true left = refl
pinned_none false left = refl

given_none : (b : Bool) (left : List (List ℕ)) → None ≡ opening_of (cond b Idle (Reading left))
given_none true left = refl
given_none false left = refl

-- the phase that is next has the opening that the answer leaves
opening_next : Leads opening_of opened_by
unfolding held_next Leads
opening_next t Idle (Open k since) (Opened r) fits = refl
opening_next t Idle (OpenPatch x since) (Opened r) fits = refl
opening_next t Idle action (Opened r) fits = absurd fits
opening_next t (Writing k r g since) Commit (Opened q) fits = absurd fits
opening_next t (Writing k r g since) action (Opened q) fits = absurd fits
opening_next t (Patching x r since) (CommitPatch ops) (Opened q) fits = absurd fits
opening_next t (Patching x r since) Cancel (Opened q) fits = absurd fits
opening_next t (Patching x r since) action (Opened q) fits = absurd fits
opening_next t (Reading left) Cancel (Opened r) fits = absurd fits
opening_next t (Reading left) action (Opened r) fits = absurd fits
opening_next t (Writing k r g since) Commit (Status s name number) fits = refl
opening_next t (Writing k r g since) Cancel Cancelled fits = refl
opening_next t (Writing k r g since) action (Status s name number) fits = absurd fits
opening_next t (Writing k r g since) action Cancelled fits = absurd fits
opening_next t Idle (Pin x) (Pinned s number) fits = pinned_none (nat_eq s 200) _
opening_next t (Reading left) (Piece n) (Lines b end) fits = given_none end _
opening_next t p action a fits = refl

no_patch_pinned : (b : Bool) (left : List (List ℕ)) → None ≡ patch_of (cond b (Reading left) Idle)
no_patch_pinned true left = refl
no_patch_pinned false left = refl

no_patch_given : (b : Bool) (left : List (List ℕ)) → None ≡ patch_of (cond b Idle (Reading left))
no_patch_given true left = refl
no_patch_given false left = refl

-- the phase that is next has the patch that the answer leaves
patch_next : Leads patch_of patch_opened_by
unfolding held_next Leads
patch_next t Idle (Open k since) (Opened r) fits = refl
patch_next t Idle (OpenPatch x since) (Opened r) fits = refl
patch_next t Idle action (Opened r) fits = absurd fits
patch_next t (Writing k r g since) Commit (Opened q) fits = absurd fits
patch_next t (Writing k r g since) action (Opened q) fits = absurd fits
patch_next t (Patching x r since) (CommitPatch ops) (Opened q) fits = absurd fits
patch_next t (Patching x r since) Cancel (Opened q) fits = absurd fits
patch_next t (Patching x r since) action (Opened q) fits = absurd fits
patch_next t (Reading left) Cancel (Opened r) fits = absurd fits
patch_next t (Reading left) action (Opened r) fits = absurd fits
patch_next t (Patching x r since) (CommitPatch ops) (Status s name number) fits = refl
patch_next t (Patching x r since) Cancel Cancelled fits = refl
patch_next t (Patching x r since) action (Status s name number) fits = absurd fits
patch_next t (Patching x r since) action Cancelled fits = absurd fits
patch_next t Idle (Pin x) (Pinned s number) fits = no_patch_pinned (nat_eq s 200) _
patch_next t (Reading left) (Piece n) (Lines b end) fits = no_patch_given end _
patch_next t p action a fits = refl

reset_at : (by : Action → ℕ → Option Opening) (os : List (Option Opening)) (s : ℕ) (action : Action) (a : Answer) (o : Option Opening) → slice_get os s ≡ Some o → held_reset by os s action a ≡ slice_set os s (held_next by o action a)
unfolding held_next
reset_at by os s action (Opened r) o is = refl
reset_at by os s action (Status status name number) o is = refl
reset_at by os s action Cancelled o is = refl
reset_at by os s action a o is = sym (set_same os s o is)

reset_if : (of : SeatView → Option Opening) (by : Action → ℕ → Option Opening) → Leads of by → (v : View) (s : ℕ) (action : Action) (a : Answer) (o : Option SeatView) → slice_get v.seats s ≡ o → MatchOption o (a ≡ Refused BadSeat) (λ p. FitsSeat v.totals p action a)
    → held_reset by (map of v.seats) s action a ≡ map of (next_if v s o action a).seats
unfolding Leads
reset_if of by leads v s action a None is fits = ap (held_reset by (map of v.seats) s action) fits
reset_if of by leads v s action a (Some p) is fits =
    let here : slice_get (map of v.seats) s ≡ Some (of p) = slice_get-map of v.seats s ∙ ap (option_map of) is in
    reset_at by (map of v.seats) s action a (of p) here
    ∙ ap (slice_set (map of v.seats) s) (leads v.totals p action a fits)
    ∙ sym (map-set of v.seats s (next_phase v.totals p action a))

-- what the seats hold after an answer is what those of the next view hold
held_follows : (of : SeatView → Option Opening) (by : Action → ℕ → Option Opening) → Leads of by → (v : View) (event : Event) (a : Answer) → Fits v event a → held_after by (map of v.seats) event a ≡ map of (next_view v event a).seats
held_follows of by leads v (Reclaim n) a fits = refl
held_follows of by leads v (At s action) a fits = reset_if of by leads v s action a (slice_get v.seats s) refl fits

texts_if : (b : Bool) (bs : List SeatText) (s : ℕ) (fed : ℕ → Fed) → AreFed bs fed → AreFed (cond b (slice_set bs s seat_text.Unfed) bs) (cond b (with_fed fed s Unfed) fed)
texts_if true bs s fed all = AreFed-unfed bs s fed all
texts_if false bs s fed all = all

texts_next : (bs : List SeatText) (event : Event) (a : Answer) (fed : ℕ → Fed) → AreFed bs fed → AreFed (texts_after bs event a) (fed_after fed event a)
texts_next bs (Reclaim n) a fed all = all
texts_next bs (At s action) a fed all = texts_if (is_boundary a) bs s fed all

texts_length : (b : Bool) (bs : List SeatText) (s : ℕ) → length (cond b (slice_set bs s seat_text.Unfed) bs) ≡ length bs
texts_length true bs s = length-set bs s seat_text.Unfed
texts_length false bs s = refl

reset_length : (os : List (Option Opening)) (s : ℕ) (action : Action) (a : Answer) → length (held_reset opened_by os s action a) ≡ length os
reset_length os s action (Opened r) = length-set os s (opened_by action r)
reset_length os s action (Status status name number) = length-set os s None
reset_length os s action Cancelled = length-set os s None
reset_length os s action a = refl

lengths_next : (bs : List SeatText) (os : List (Option Opening)) (event : Event) (a : Answer) → length bs ≡ length os → length (texts_after bs event a) ≡ length (openings_after os event a)
lengths_next bs os (Reclaim n) a even = even
lengths_next bs os (At s action) a even = texts_length (is_boundary a) bs s ∙ even ∙ sym (reset_length os s action a)

-- the uploads follow an answer
pub follows : (old new : Shown) (u w : Uploads) (event : Event) (a : Answer) → Steps old event a new
    → w.openings.items ≡ openings_after u.openings.items event a → w.patches.items ≡ patches_after u.patches.items event a → w.texts.items ≡ texts_after u.texts.items event a
    → (st : Standing old u) → (en : Standing new w) × Responds (desk_of st) event a (desk_of en)
follows old new u w event a steps openings patches texts st =
    let P : List SeatText → Type 0 = λ z. AreFed z (fed_after st.fed event a) in
    let en : Standing new w = record {
      fed = fed_after st.fed event a;
      openings = openings ∙ ap (λ z. openings_after z event a) st.openings ∙ held_follows opening_of opened_by opening_next old.view event a steps.fits ∙ ap (λ (v : View). map opening_of v.seats) (sym steps.view);
      patches = patches ∙ ap (λ z. patches_after z event a) st.patches ∙ held_follows patch_of patch_opened_by patch_next old.view event a steps.fits ∙ ap (λ (v : View). map patch_of v.seats) (sym steps.view);
      texts = subst P (sym texts) (texts_next u.texts.items event a st.fed st.texts);
      even = ap length texts ∙ lengths_next u.texts.items u.openings.items event a st.even ∙ ap length (sym openings);
    } in (en, record { steps = steps; fed = refl })

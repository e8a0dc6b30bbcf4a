-- Patches, from what the store and the reader of updates do.
use Rattle.std.proofs.Common.{◌≡◌, ◌≢◌, ◌<◌, ◌≤◌, ℕ, List, length, get_or, Option, Some, None, MatchOption, option_map, Vec, Global, refl, sym, ap, ◌∙◌, subst}
use Rattle.std.specs.List.{slice_get}
use Rattle.std.proofs.lemmas.Option.{slice_get-map, slice_get_past, slice_get_read}
use Rattle.gs_model.specs.declared.refusals.Refusal.{Refusal}
use Rattle.gs_model.specs.declared.refusals.Refusal.TheVariants as refusal
use Rattle.gs_event.specs.declared.updates.Op.{Op}
use Rattle.gs_event.specs.declared.events.Action.TheVariants.{CommitPatch}
use Rattle.gs_event.specs.declared.events.Event.TheVariants.{Seat as At}
use Rattle.gs_event.specs.declared.answers.Answer.{Answer}
use Rattle.gs_event.specs.Phases.{Idle, Writing, Patching, Reading}
use Rattle.gs_event.specs.Views.{SeatView}
use Rattle.gs_event.specs.Waste.{Shown}
use Rattle.gs_triples.specs.Meanings.{Syntax, TermTooLong}
use Rattle.gs_update_text.specs.Requests.{Broken, OutOfProfile, Rejection, UpdateRequest}
use Rattle.gs_update_text.specs.Texts.{request_by}
use Rattle.gs_update.specs.Answers.{AreOperationsOf, Refuses}
use Rattle.gs_feeding.specs.declared.openings.Opening.{Opening}
use Rattle.gs_feeding.specs.Bases.{base_under}
use Rattle.gs_drill.specs.declared.uploads.Uploads.{Uploads}
use Rattle.gs_drill.specs.Printing.{answer_text, fault_text, outside_text}
use Rattle.gs_drill.specs.Feeds.{Desk, Responds, RefusesText}
use Rattle.gs_drill.specs.Commits.{GivesUpSeat}
use Rattle.gs_drill.specs.Patches.{SettlesBy, SettlesPatch, PatchesSeat, DoesPatch}
use Rattle.gs_drill.specs.Standing.{Standing, desk_of, patch_of}

-- the operations of a text are committed
pub settles_whole : (q : UpdateRequest) (d e : Desk) (s : ℕ) (ops : Vec Op Global) (a : Answer) → AreOperationsOf ops.items q → Responds d (At s (CommitPatch ops)) a e → SettlesPatch q d s (answer_text a) e
settles_whole q d e s ops a are answers =
    let P : Option Rejection → Type 0 = λ z. SettlesBy z q d s (answer_text a) e in
    subst P (sym are.0) (record { action = CommitPatch ops; is = are; asks = record { answer = a; answers = answers; printed = refl } })

-- a text breaks the grammar, or has a term that is too long
settles_broken : (q : UpdateRequest) (d e : Desk) (s : ℕ) (text : List ℕ) (r : Rejection) → q.1 ≡ Some r → SettlesBy (Some r) q d s text e → SettlesPatch q d s text e
settles_broken q d e s text r is by = let P : Option Rejection → Type 0 = λ z. SettlesBy z q d s text e in subst P (sym is) by

-- a text is outside what is served
pub settles_outside : (q : UpdateRequest) (d e : Desk) (s : ℕ) (text : List ℕ) → Refuses refusal.NotInProfile q → GivesUpSeat outside_text d s text e → SettlesPatch q d s text e
settles_outside q d e s text refuses up = settles_broken q d e s text OutOfProfile refuses up

-- any other refusal of a text but want of memory says that it has a fault
pub settles_fault : (q : UpdateRequest) (d e : Desk) (s : ℕ) (text : List ℕ) (r : Refusal) → Refuses r q → r ≢ refusal.NoMemory → r ≢ refusal.NotInProfile → GivesUpSeat fault_text d s text e → SettlesPatch q d s text e
settles_fault q d e s text (refusal.Syntax at) refuses memory profile up = settles_broken q d e s text (Broken Syntax) refuses.broken up
settles_fault q d e s text refusal.TermTooLong refuses memory profile up = settles_broken q d e s text (Broken TermTooLong) refuses up
settles_fault q d e s text refusal.NotInProfile refuses memory profile up = absurd (profile refl)
settles_fault q d e s text refusal.NoMemory refuses memory profile up = absurd (memory refl)
settles_fault q d e s text r refuses memory profile up = absurd refuses

-- the rows of a patch by what opened the patch of the seat
abbrev pub PatchesRow : Option (Option Opening) → Desk → ℕ → List ℕ → List ℕ → Desk → Type 0
PatchesRow None d s y text e = RefusesText refusal.BadSeat d text e
PatchesRow (Some None) d s y text e = RefusesText refusal.WrongPhase d text e
PatchesRow (Some (Some o)) d s y text e = SettlesPatch (request_by (base_under o.target) o.request y) d s text e

by_phase : (q : Option SeatView) (d : Desk) (s : ℕ) (y text : List ℕ) (e : Desk) → PatchesRow (option_map patch_of q) d s y text e → MatchOption q (RefusesText refusal.BadSeat d text e) (λ p. PatchesSeat p d s y text e)
by_phase None d s y text e h = h
by_phase (Some Idle) d s y text e h = h
by_phase (Some (Writing k r g since)) d s y text e h = h
by_phase (Some (Patching t r since)) d s y text e h = h
by_phase (Some (Reading left)) d s y text e h = h

-- what a patch does, by the row of its seat
pub patches_by : (shown : Shown) (u : Uploads) (st : Standing shown u) (s : ℕ) (y text : List ℕ) (e : Desk) (o : Option (Option Opening)) → slice_get u.patches.items s ≡ o → PatchesRow o (desk_of st) s y text e → DoesPatch (desk_of st) s y text e
patches_by shown u st s y text e o is row =
    let P : Option (Option Opening) → Type 0 = λ z. PatchesRow z (desk_of st) s y text e in
    let same : o ≡ option_map patch_of (slice_get shown.view.seats s) = sym is ∙ ap (λ z. slice_get z s) st.patches ∙ slice_get-map patch_of shown.view.seats s in
    by_phase (slice_get shown.view.seats s) (desk_of st) s y text e (subst P same row)

-- nothing is read past the end of a list
pub none_there : {X : Type 0} (xs ys : List X) (i j : ℕ) → xs ≡ ys → i ≡ j → length xs ≤ i → slice_get ys j ≡ None
none_there {X} xs ys i j same place past =
    let P : List X → Type 0 = λ z. slice_get z j ≡ None in
    let Q : ℕ → Type 0 = λ n. slice_get xs n ≡ None in
    subst P same (subst Q place (slice_get_past xs i past))

-- what is read at a place of a list
pub some_there : {X : Type 0} (xs ys : List X) (i j : ℕ) (x y : X) → xs ≡ ys → i ≡ j → i < length xs → x ≡ get_or xs i x → x ≡ y → slice_get ys j ≡ Some y
some_there {X} xs ys i j x y same place within read is =
    let P : List X → Type 0 = λ z. slice_get z j ≡ Some x in
    let Q : ℕ → Type 0 = λ n. slice_get xs n ≡ Some x in
    subst P same (subst Q place (slice_get_read xs (length xs) i x refl within read)) ∙ ap Some is

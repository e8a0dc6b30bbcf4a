-- Feeds and commits, from what the store and the uploads do.
use Rattle.std.proofs.Common.{◌≡◌, ◌≢◌, ◌<◌, ℕ, true, false, List, [], ◌∷◌, length, Option, Some, None, is_some, MatchOption, option_map, refl, sym, ap, ◌∙◌, subst}
use Rattle.std.specs.List.{slice_get}
use Rattle.std.proofs.lemmas.Option.{slice_get-map, slice_get_within}
use Rattle.gs_model.specs.Triples.{RdfTriple}
use Rattle.gs_model.specs.declared.refusals.Refusal.TheVariants.{BadSeat, WrongPhase}
use Rattle.gs_triple_lists.specs.Lists.{Listed}
use Rattle.gs_event.specs.declared.events.Action.TheVariants.{Stage, Commit}
use Rattle.gs_event.specs.declared.events.Event.TheVariants.{Seat as At}
use Rattle.gs_event.specs.declared.answers.Answer.{Answer}
use Rattle.gs_event.specs.declared.answers.Answer.TheVariants.{Staged}
use Rattle.gs_event.specs.Phases.{Idle, Writing, Patching, Reading}
use Rattle.gs_event.specs.Views.{SeatView}
use Rattle.gs_event.specs.Waste.{Shown}
use Rattle.gs_feeding.specs.declared.texts.SeatText.{SeatText}
use Rattle.gs_upload.specs.declared.languages.Language.{Language}
use Rattle.gs_feeding.specs.declared.openings.Opening.{Opening}
use Rattle.gs_drill.specs.declared.uploads.Uploads.{Uploads}
use Rattle.gs_drill.specs.Printing.{answer_text, fed_text}
use Rattle.gs_drill.specs.Feeds.{Desk, Responds, StagesByEvent, FeedsUpload, FeedsSeat, RefusesText, DoesFeed, with_fed, feed_text}
use Rattle.gs_drill.specs.Commits.{Commits, CommitsBy, Completes, CommitsStaged}
use Rattle.gs_drill.specs.Standing.{AreFed, Standing, FeedsAt, desk_of, opening_of}
use Rattle.gs_feeding.specs.Receiving.{Fed, Closes}
use Rattle.gs_feeding.specs.SeatTexts.{first_context}

-- nothing is staged
pub stages_none : (d : Desk) (s : ℕ) (given : List RdfTriple) → given ≡ [] → StagesByEvent d s given Staged d
stages_none d s given none = let P : List RdfTriple → Type 0 = λ z. StagesByEvent d s z Staged d in subst P (sym none) (refl, refl)

stages_by : (d e : Desk) (s : ℕ) (v : Listed) (a : Answer) (given : List RdfTriple) → v.items ≡ given → ¬ (given ≡ []) → Responds d (At s (Stage v)) a e → StagesByEvent d s given a e
stages_by d e s v a [] is some answers = absurd (some refl)
stages_by d e s v a (t ∷ ts) is some answers = (Stage v, is, answers)

-- some triples are staged
pub stages_some : (d e : Desk) (s : ℕ) (v : Listed) (a : Answer) → ¬ (v.items ≡ []) → Responds d (At s (Stage v)) a e → StagesByEvent d s v.items a e
stages_some d e s v a some answers = stages_by d e s v a v.items refl some answers

-- the uploads, once a text was fed to a seat
abbrev fed_standing : (shown : Shown) (u w : Uploads) (st : Standing shown u) (s : ℕ) (f : Fed) → w.openings.items ≡ u.openings.items → w.patches.items ≡ u.patches.items → length w.texts.items ≡ length u.texts.items → AreFed w.texts.items (with_fed st.fed s f) → Standing shown w
fed_standing shown u w st s f openings patches lengths all = record {
  fed = with_fed st.fed s f;
  openings = openings ∙ st.openings;
  patches = patches ∙ st.patches;
  texts = all;
  even = lengths ∙ st.even ∙ ap length (sym openings);
}

-- a text is fed to an upload
pub feeds_upload : (n : ℕ) (old new : Shown) (u m w : Uploads) (l : Language) (s : ℕ) (y : List ℕ) (given : List RdfTriple) (a : Answer) (text : List ℕ)
    → m.openings.items ≡ u.openings.items → m.patches.items ≡ u.patches.items → length m.texts.items ≡ length u.texts.items
    → FeedsAt n l s y u.openings.items u.texts.items m.texts.items given
    → ((st : Standing old m) → (en : Standing new w) × StagesByEvent (desk_of st) s given a (desk_of en)) → text ≡ feed_text a
    → (o : Opening) → slice_get u.openings.items s ≡ Some (Some o) → (st : Standing old u) → (en : Standing new w) × FeedsUpload n (first_context l o) (desk_of st) s y text (desk_of en)
feeds_upload n old new u m w l s y given a text openings patches lengths feeds stages printed o there st =
    let P : ℕ → Type 0 = λ k. s < k in
    let f = feeds o there st.fed st.texts (subst P (sym st.even) (slice_get_within u.openings.items s (Some o) there)) in
    let en = stages (fed_standing old u m st s f.0 openings patches lengths f.1) in
    (en.0, record { given = given; fed = f.0; receives = f.2; answer = a; staged = en.1; printed = printed })

pub staged_text : (a : Answer) → a ≡ Staged → fed_text ≡ feed_text a
staged_text a is = ap feed_text (sym is)

pub refusal_text : (a : Answer) → a ≢ Staged → answer_text a ≡ feed_text a
refusal_text Staged other = absurd (other refl)
refusal_text a other = refl

-- the rows of a feed by what opened the upload of the seat
abbrev pub FeedsRow : Option (Option Opening) → ℕ → Desk → ℕ → Language → List ℕ → List ℕ → Desk → Type 0
FeedsRow None n d s l y text e = RefusesText BadSeat d text e
FeedsRow (Some None) n d s l y text e = RefusesText WrongPhase d text e
FeedsRow (Some (Some o)) n d s l y text e = FeedsUpload n (first_context l o) d s y text e

by_phase : (q : Option SeatView) (n : ℕ) (d : Desk) (s : ℕ) (l : Language) (y text : List ℕ) (e : Desk) → FeedsRow (option_map opening_of q) n d s l y text e → MatchOption q (RefusesText BadSeat d text e) (λ p. FeedsSeat p n d s l y text e)
by_phase None n d s l y text e h = h
by_phase (Some Idle) n d s l y text e h = h
by_phase (Some (Writing k r g since)) n d s l y text e h = h
by_phase (Some (Patching t r since)) n d s l y text e h = h
by_phase (Some (Reading left)) n d s l y text e h = h

pub feeds_by : (n : ℕ) (shown : Shown) (u : Uploads) (st : Standing shown u) (s : ℕ) (l : Language) (y text : List ℕ) (e : Desk) (o : Option (Option Opening)) → slice_get u.openings.items s ≡ o → FeedsRow o n (desk_of st) s l y text e → DoesFeed n (desk_of st) s l y text e
feeds_by n shown u st s l y text e o is row =
    let P : Option (Option Opening) → Type 0 = λ z. FeedsRow z n (desk_of st) s l y text e in
    let same : o ≡ option_map opening_of (slice_get shown.view.seats s) = sym is ∙ ap (λ z. slice_get z s) st.openings ∙ slice_get-map opening_of shown.view.seats s in
    by_phase (slice_get shown.view.seats s) n (desk_of st) s l y text e (subst P same row)

-- a seat that has no upload, or none that is there
pub no_seat : (o : Option (Option Opening)) → option_map is_some o ≡ None → o ≡ None
no_seat None is = refl
no_seat (Some o) is = cc

pub no_upload : (o : Option (Option Opening)) → option_map is_some o ≡ Some false → o ≡ Some None
no_upload None is = cc
no_upload (Some None) is = refl
no_upload (Some (Some o)) is = cc

pub some_upload : (o : Option (Option Opening)) → option_map is_some o ≡ Some true → (opening : Opening) × (o ≡ Some (Some opening))
some_upload None is = absurd (cc)
some_upload (Some None) is = absurd (cc)
some_upload (Some (Some opening)) is = (opening, refl)

concludes_other : (a : Answer) (d : Desk) (s : ℕ) → a ≢ Staged → CommitsStaged a d s (answer_text a) d
concludes_other Staged d s other = absurd (other refl)
concludes_other a d s other = (refl, refl)

-- the last triples are not staged
pub completes_not : (old new : Shown) (u w : Uploads) (s : ℕ) (given : List RdfTriple) (a : Answer) → a ≢ Staged → ((st : Standing old u) → (en : Standing new w) × StagesByEvent (desk_of st) s given a (desk_of en))
    → (st : Standing old u) → (en : Standing new w) × Completes given (desk_of st) s (answer_text a) (desk_of en)
completes_not old new u w s given a other stages st =
    let en = stages st in (en.0, record { answer = a; between = desk_of en.0; staged = en.1; concludes = concludes_other a (desk_of en.0) s other })

-- they are staged, and the upload is committed
pub completes : (old mid new : Shown) (u m w : Uploads) (s : ℕ) (given : List RdfTriple) (a b : Answer) → a ≡ Staged → ((st : Standing old u) → (en : Standing mid m) × StagesByEvent (desk_of st) s given a (desk_of en))
    → ((st : Standing mid m) → (en : Standing new w) × Responds (desk_of st) (At s Commit) b (desk_of en))
    → (st : Standing old u) → (en : Standing new w) × Completes given (desk_of st) s (answer_text b) (desk_of en)
completes old mid new u m w s given a b is stages commits st =
    let between = stages st in
    let en = commits between.0 in
    let P : Answer → Type 0 = λ z. StagesByEvent (desk_of st) s given z (desk_of between.0) in (
      en.0,
      record { answer = Staged; between = desk_of between.0; staged = subst P is between.1; concludes = record { answer = b; answers = en.1; printed = refl } },
    )

-- what a seat's text gives as it ends, by another name
pub ends_by : (old new : List SeatText) (s : ℕ) (m given : Option (List RdfTriple)) → m ≡ given → ((fed : ℕ → Fed) → AreFed old fed → (f : Fed) × AreFed new (with_fed fed s f) × Closes (fed s) m f)
    → (fed : ℕ → Fed) → AreFed old fed → (f : Fed) × AreFed new (with_fed fed s f) × Closes (fed s) given f
ends_by old new s m given is ends fed all =
    let f = ends fed all in
    let P : Option (List RdfTriple) → Type 0 = λ z. Closes (fed s) z f.0 in
    (f.0, f.1, subst P is f.2)

-- the text that was fed ends, and the upload is committed or given up
pub commits : (old new : Shown) (u m w : Uploads) (s : ℕ) (given : Option (List RdfTriple)) (text : List ℕ) → m.openings.items ≡ u.openings.items → m.patches.items ≡ u.patches.items → length m.texts.items ≡ length u.texts.items
    → ((fed : ℕ → Fed) → AreFed u.texts.items fed → (f : Fed) × AreFed m.texts.items (with_fed fed s f) × Closes (fed s) given f)
    → ((st : Standing old m) → (en : Standing new w) × CommitsBy given (desk_of st) s text (desk_of en))
    → (st : Standing old u) → (en : Standing new w) × Commits (desk_of st) s text (desk_of en)
commits old new u m w s given text openings patches lengths ends by st =
    let f = ends st.fed st.texts in
    let en = by (fed_standing old u m st s f.0 openings patches lengths f.1) in
    (en.0, record { given = given; fed = f.0; closes = f.2; commits = en.1 })

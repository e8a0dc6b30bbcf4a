-- What was fed to a seat, as its text begins, goes on and ends.
use Rattle.std.proofs.Common.{◌≡◌, ◌≢◌, ℕ, true, false, cond, List, [], ◌++◌, refl, sym, ap, ◌∙◌, subst, is_some, Option, Some, None, Result, Ok}
use Rattle.std.specs.declared.alloc.AllocError.{AllocError}
use Rattle.gs_model.specs.Triples.{RdfTriple}
use Rattle.gs_model.specs.declared.refusals.Refusal.{Refusal}
use Rattle.gs_model.specs.declared.refusals.Refusal.TheVariants as refusal
use Rattle.gs_body.specs.Bodies.{Meaning, Whole}
use Rattle.gs_upload.specs.declared.languages.Language.{Language}
use Rattle.gs_upload.specs.declared.readers.TextReader.{TextReader}
use Rattle.gs_upload.specs.declared.readings.Reading.{Reading}
use Rattle.gs_upload.specs.Faults.{HasFault}
use Rattle.gs_upload.specs.Languages.{TextContext, meaning_in_context, meaning_in}
use Rattle.gs_upload.specs.Readings.{ReaderStands, EndsReading, FeedsPieces, FeedsEach, FeedsReading, MeansAll, GivesComplete}
use Rattle.gs_upload.specs.Readers.{meaning_of_text, LeadsText, is_closed_text, IsFedText}
use Rattle.gs_upload.proofs.ReadingLemmas.{IsFedBy-more}
use Rattle.gs_feeding.specs.declared.texts.SeatText.{SeatText}
use Rattle.gs_feeding.specs.declared.texts.SeatText.TheVariants as seat_text
use Rattle.gs_feeding.specs.declared.openings.Opening.{Opening}
use Rattle.gs_feeding.specs.Receiving.{Fed, Unfed, InPart, Faulted, Finished, Receives, IsFaulty}
use Rattle.gs_feeding.specs.SeatTexts.{WasFed, FedInPieces, FeedsText, GoesOnText, EndsText, Ended, first_context}

-- a body with a fault has no meaning
fault_faulty : (e : Refusal) (m : Meaning) → HasFault e m → m.1 ≢ Whole
fault_faulty (refusal.Syntax at) m h whole = let clash = sym h.broken ∙ whole in cc
fault_faulty refusal.TermTooLong m h whole = let clash = sym h ∙ whole in cc
fault_faulty e m h whole = absurd h

-- a text begins
pub begins_text : (k : Reading TextReader) (l : Language) (o : Opening) (base : List ℕ) → base ≡ (first_context l o).base → k.fault ≡ None
    → IsFedText k (meaning_in l base o.request) [] [] → WasFed (seat_text.Fed l k) (InPart (first_context l o) [] [] [])
begins_text k l o base is none h =
    let P : List ℕ → Type 0 = λ z. IsFedText k (meaning_in l z o.request) [] [] in
    let fresh = subst P is h in
    (refl, none, fresh, record { first = k; fresh = fresh; each = (refl, refl) })

-- what stands of a reading with a fault
faulty_on : (o : Option Refusal) (e : Refusal) (k : Reading TextReader) (means : List ℕ → Meaning) (x : List ℕ) (ts : List RdfTriple) → o ≡ Some e
    → ReaderStands meaning_of_text LeadsText is_closed_text o k.reader means x ts → (y : List ℕ) → IsFaulty means (x ++ y)
faulty_on o e k means x ts is h y =
    let P : Option Refusal → Type 0 = λ z. ReaderStands meaning_of_text LeadsText is_closed_text z k.reader means x ts in
    let faults : (y : List ℕ) → HasFault e (means (x ++ y)) = subst P is h in
    fault_faulty e (means (x ++ y)) (faults y)

-- an upload's text goes on
pub goes_on : (b : SeatText) (l : Language) (k n : Reading TextReader) (y : List ℕ) (cut : ℕ) (given : List RdfTriple) → b ≡ seat_text.Fed l k → FedInPieces k n y cut given → GoesOnText cut b y given (seat_text.Fed l n)
goes_on b l k n y cut given is fed = let P : SeatText → Type 0 = λ z. GoesOnText cut z y given (seat_text.Fed l n) in subst P (sym is) more
  where
    by_fault : (o : Option Refusal) → n.fault ≡ o → (c d : TextContext) (x : List ℕ) (ps : List (List ℕ)) (ts : List RdfTriple) → WasFed (seat_text.Fed l k) (InPart d x ps ts)
        → (g : Fed) × WasFed (seat_text.Fed l n) g × Receives cut c (InPart d x ps ts) y given g
    by_fault None none c d x ps ts h =
        let all : given ≡ fed.triples = fed.kept ∙ ap (λ (o : Option Refusal). cond (is_some o) [] fed.triples) none in
        let f = fed.feeds.fed (meaning_in_context d) x ts h.2 in
        let same : fed.feeds.given ≡ fed.triples = sym fed.feeds.grown in
        let T : List RdfTriple → Type 0 = λ us. IsFedText n (meaning_in_context d) (x ++ y) (ts ++ us) in
        let fs = subst T (same ∙ sym all) f in
        let C : List RdfTriple → Type 0 = λ us. GivesComplete (meaning_in_context d) (x ++ y) (ts ++ us) in
        let complete = subst C (same ∙ sym all) (fed.feeds.complete (meaning_in_context d) x ts h.2 none) in
        let E : List RdfTriple → Type 0 = λ us. FeedsEach meaning_of_text LeadsText is_closed_text k n fed.cuts.0 [] us in
        let by = IsFedBy-more meaning_of_text LeadsText is_closed_text k n (meaning_in_context d) ps fed.cuts.0 ts given h.3 (subst E (sym all) fed.cuts.2) in (
          InPart d (x ++ y) (ps ++ fed.cuts.0) (ts ++ given),
          (h.0, none, fs, by),
          (refl, refl, record { pieces = fed.cuts.0; cut = fed.cuts.1; grown = refl }, refl, record { begun = fs.begun; complete = complete }),
        )
    by_fault (Some e) some c d x ps ts h =
        let none : given ≡ [] = fed.kept ∙ ap (λ (o : Option Refusal). cond (is_some o) [] fed.triples) some in
        let f = fed.feeds.fed (meaning_in_context d) x ts h.2 in
        (Faulted d.language, (h.0, ap is_some some), (refl, none, faulty_on n.fault e n (meaning_in_context d) (x ++ y) (ts ++ fed.feeds.given) some f.stands))

    some_of : (o : Option Refusal) → is_some o ≡ true → (e : Refusal) × (o ≡ Some e)
    some_of None is = absurd (cc)
    some_of (Some e) is = (e, refl)

    more : GoesOnText cut (seat_text.Fed l k) y given (seat_text.Fed l n)
    more c Unfed h begun = absurd h
    more c (InPart d x ps ts) h begun = by_fault n.fault refl c d x ps ts h
    more c (Faulted m) h begun =
        let e = some_of k.fault h.1 in
        let kept = fed.feeds.latched e.0 e.1 in
        (Faulted m, (h.0, ap is_some kept), (fed.kept ∙ ap (λ (o : Option Refusal). cond (is_some o) [] fed.triples) kept, refl))
    more c (Finished m) h begun = absurd h

-- a text was fed in pieces
pub fed_pieces : (old new : Reading TextReader) (text : List ℕ) (cut : ℕ) (before triples given : List RdfTriple) → before ≡ []
    → FeedsPieces meaning_of_text LeadsText is_closed_text cut old new text before triples
    → FeedsReading meaning_of_text LeadsText is_closed_text old new text before triples → given ≡ cond (is_some new.fault) [] triples → FedInPieces old new text cut given
fed_pieces old new text cut before triples given empty cuts feeds kept =
    let P : List RdfTriple → Type 0 = λ z. FeedsEach meaning_of_text LeadsText is_closed_text old new cuts.0 z triples in
    let Q : List RdfTriple → Type 0 = λ z. FeedsReading meaning_of_text LeadsText is_closed_text old new text z triples in
    record { triples = triples; cuts = (cuts.0, cuts.1, subst P empty cuts.2); feeds = subst Q empty feeds; kept = kept }

-- a first text begins, and goes on
pub feeds_first : (n : ℕ) (b begun e : SeatText) (c : TextContext) (y : List ℕ) (given : List RdfTriple) → b ≡ seat_text.Unfed → WasFed begun (InPart c [] [] []) → GoesOnText n begun y given e → FeedsText n c b y given e
feeds_first n b begun e c y given is fed on = let P : SeatText → Type 0 = λ z. FeedsText n c z y given e in subst P (sym is) first
  where
    first : FeedsText n c seat_text.Unfed y given e
    first Unfed h = on c (InPart c [] [] []) fed tt
    first (InPart d x ps ts) h = absurd h
    first (Faulted l) h = absurd h
    first (Finished l) h = absurd h

-- an upload's text ends
pub ends_text : (b t : SeatText) (l : Language) (k : Reading TextReader) (given : Option (List RdfTriple)) → b ≡ seat_text.Fed l k → Ended l k t given → EndsText b given t
ends_text b t l k given is ends = let P : SeatText → Type 0 = λ z. EndsText z given t in subst P (sym is) (more given ends)
  where
    more : (given : Option (List RdfTriple)) → Ended l k t given → EndsText (seat_text.Fed l k) given t
    more given ends Unfed h = absurd h
    more None ends (InPart c x ps ts) h =
        let P : SeatText → Type 0 = λ z. WasFed z (Faulted c.language) in
        (Faulted c.language, subst P (sym ends.0) h.0, (ends.1 (meaning_in_context c) x ts h.2, refl))
    more (Some us) ends (InPart c x ps ts) h =
        let P : SeatText → Type 0 = λ z. WasFed z (Finished c.language) in
        (Finished c.language, subst P (sym ends.0) h.0, (ends.2 (meaning_in_context c) x ts h.2, refl))
    more None ends (Faulted m) h = let P : SeatText → Type 0 = λ z. WasFed z (Faulted m) in (Faulted m, subst P (sym ends.0) h.0, refl)
    more (Some us) ends (Faulted m) h = absurd (let clash : false ≡ true = sym (ap is_some ends.1) ∙ h.1 in cc)
    more given ends (Finished m) h = absurd h

-- how the text of a reading ended
pub ended_whole : (l : Language) (k : Reading TextReader) (before after : List RdfTriple) → before ≡ [] → k.fault ≡ None → EndsReading meaning_of_text LeadsText is_closed_text k None before after
    → Ended l k (seat_text.Finished l) (Some after)
ended_whole l k before after empty none h =
    let all : h.given ≡ after = sym (h.grown ∙ ap (λ z. z ++ h.given) empty) in (
      refl,
      none,
      λ means x ts fed. (let P : List RdfTriple → Type 0 = λ us. MeansAll (means x) (ts ++ us) in subst P all (h.all means x ts fed)),
    )

pub ended_faulty : (l : Language) (k : Reading TextReader) (e : Refusal) (before after : List RdfTriple) → EndsReading meaning_of_text LeadsText is_closed_text k (Some e) before after → Ended l k (seat_text.Faulted l) None
ended_faulty l k e before after h = (refl, λ means x ts fed. fault_faulty e (means x) (h.first means x ts fed))

-- a reading that ended without a fault had kept none
pub no_fault_by : (k : Reading TextReader) (o : Result (Option Refusal) AllocError) → o ≡ Ok None → ((e : Refusal) → k.fault ≡ Some e → o ≡ Ok (Some e)) → k.fault ≡ None
no_fault_by k o is latched = by_fault k.fault refl
  where
    by_fault : (f : Option Refusal) → k.fault ≡ f → k.fault ≡ None
    by_fault None same = same
    by_fault (Some e) same = absurd (let clash : Ok None ≡ Ok (Some e) = sym is ∙ latched e same in cc)

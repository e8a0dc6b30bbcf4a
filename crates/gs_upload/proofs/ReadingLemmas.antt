-- What was fed to a reading, as pieces come and as the text ends.
use Rattle.std.proofs.Common.{◌≡◌, ◌≢◌, ℕ, Bool, true, false, List, [], ◌∷◌, ◌++◌, drop, refl, sym, ap, ◌∙◌, subst, is_some, Option, Some, None, Result, Ok, Err, append_assoc, append-nil}
use Rattle.std.specs.Prelude.{OnOk, OnErr, IfErr}
use Rattle.std.proofs.lemmas.Result.{IfErr-at_err}
use Rattle.std.proofs.lemmas.List.{take-append-drop}
use Rattle.gs_model.specs.Triples.{RdfTriple}
use Rattle.gs_model.specs.declared.refusals.Refusal.{Refusal}
use Rattle.gs_model.specs.declared.refusals.Refusal.TheVariants as refusal
use Rattle.gs_machine.specs.Machines.{AreSettled, Begins}
use Rattle.gs_body.specs.Bodies.{Meaning, Reports, all_stated}
use Rattle.gs_body.specs.Feeding as feeding
use Rattle.gs_upload.specs.declared.readings.Reading.{Reading}
use Rattle.gs_upload.specs.Faults.{HasFault, ReportsFault}
use Rattle.gs_upload.specs.Readings.{ReadsBodyOn, ReaderStands, IsFedReading, FeedsReading, FeedsPiece, FeedsEach, IsFedBy, ArePieces, EndsReading, EndsWhole, EndsFaulty, GivesComplete}

-- a refusal that is neither want of memory nor a closed reader's is a fault of the body
reported_fault : (e : Refusal) (m : Meaning) → e ≢ refusal.NoMemory → e ≢ refusal.Closed → Reports e m → HasFault e m
reported_fault (refusal.Syntax at) m memory closed h = h
reported_fault refusal.TermTooLong m memory closed h = h
reported_fault refusal.NoMemory m memory closed h = absurd (memory refl)
reported_fault refusal.Closed m memory closed h = absurd (closed refl)
reported_fault e m memory closed h = absurd h

-- a list that begins with more begins with less
begins_less : (xs front more : List RdfTriple) → Begins xs (front ++ more) → Begins xs front
begins_less xs front more h = (more ++ h.0, h.1 ∙ append_assoc front more h.0)

-- what holds at the end of a call that was `Ok`
on_ok : {X : Type 0} {o : Result X Refusal} (P : Type 0) (x : X) → o ≡ Ok x → OnOk o P → P
on_ok P x is h = let Q : Result _ Refusal → Type 0 = λ z. OnOk z P in subst Q is h

-- a fact holds whatever a call answers
pub any_err : {X E : Type 0} (o : Result X E) (P : Type 0) → P → OnErr o P
any_err (Ok x) P h = tt
any_err (Err e) P h = h

-- a fault, or none
pub no_fault : (o : Option Refusal) → is_some o ≡ false → o ≡ None
no_fault None is = refl
no_fault (Some e) is = absurd (cc)

on_err : {o : Result (Unit {0}) Refusal} (P : Type 0) (e : Refusal) → o ≡ Err e → OnErr o P → P
on_err P e is h = let Q : Result (Unit {0}) Refusal → Type 0 = λ z. OnErr z P in subst Q is h

module _ {R : Type 0} (meaning_of : R → List ℕ → Meaning) (Leads : R → List ℕ → List RdfTriple → Type 0) (closed : R → Bool) where
  -- the same facts of an equal text and of equal triples
  fed_along : (k : Reading R) (means : List ℕ → Meaning) (x z : List ℕ) (ts us : List RdfTriple) → x ≡ z → ts ≡ us → IsFedReading meaning_of Leads closed k means x ts → IsFedReading meaning_of Leads closed k means z us
  fed_along k means x z ts us p q h =
      let P : List ℕ → Type 0 = λ w. IsFedReading meaning_of Leads closed k means w us in
      let Q : List RdfTriple → Type 0 = λ w. IsFedReading meaning_of Leads closed k means x w in
      subst P p (subst Q q h)

  complete_along : (means : List ℕ → Meaning) (x z : List ℕ) (ts us : List RdfTriple) → x ≡ z → ts ≡ us → GivesComplete means x ts → GivesComplete means z us
  complete_along means x z ts us p q h =
      let P : List ℕ → Type 0 = λ w. GivesComplete means w us in
      let Q : List RdfTriple → Type 0 = λ w. GivesComplete means x w in
      subst P p (subst Q q h)

  -- a fault that is kept is one of every longer text
  stands_faulty : (e : Refusal) (o : Option Refusal) (r : R) (means : List ℕ → Meaning) (x y : List ℕ) (ts us : List RdfTriple) → o ≡ Some e
      → ReaderStands meaning_of Leads closed o r means x ts → ReaderStands meaning_of Leads closed o r means (x ++ y) us
  stands_faulty e None r means x y ts us is h = absurd (cc)
  stands_faulty e (Some f) r means x y ts us is h = λ z. (let P : List ℕ → Type 0 = λ w. HasFault f (means w) in subst P (sym (append_assoc x y z)) (h (y ++ z)))

  some_of : (o : Option Refusal) → is_some o ≡ true → (e : Refusal) × (o ≡ Some e)
  some_of None is = absurd (cc)
  some_of (Some e) is = (e, refl)

  -- a reading that keeps a fault drops a piece
  pub drops_piece : (k : Reading R) (piece : List ℕ) (before : List RdfTriple) → is_some k.fault ≡ true → FeedsPiece meaning_of Leads closed k k piece before before
  drops_piece k piece before is =
      let e = some_of k.fault is in record {
        feeds = record {
          given = [];
          grown = sym (append-nil before);
          fed = λ means x ts h. record {
            begun = λ y. (let P : List ℕ → Type 0 = λ w. Begins (all_stated (means w).0) (ts ++ []) in
                let Q : List RdfTriple → Type 0 = λ w. Begins (all_stated (means (x ++ (piece ++ y))).0) w in
                subst P (sym (append_assoc x piece y)) (subst Q (sym (append-nil ts)) (h.begun (piece ++ y))));
            stands = stands_faulty e.0 k.fault k.reader means x piece ts (ts ++ []) e.1 h.stands;
          };
          complete = λ means x ts h none. absurd (let clash : None ≡ Some e.0 = sym none ∙ e.1 in cc);
          latched = λ e h. h;
        };
        silent = λ is. refl;
      }

  -- where no fault is kept the reader goes on
  reads_on : (k : Reading R) (means : List ℕ → Meaning) (x : List ℕ) (ts : List RdfTriple) → k.fault ≡ None → IsFedReading meaning_of Leads closed k means x ts → ReadsBodyOn meaning_of Leads closed k.reader means x ts
  reads_on k means x ts none h = let P : Option Refusal → Type 0 = λ o. ReaderStands meaning_of Leads closed o k.reader means x ts in subst P none h.stands

  -- a piece is read
  reads_piece : (o : Result (Unit {0}) Refusal) (k new : Reading R) (piece : List ℕ) (before after : List RdfTriple) → k.fault ≡ None → new.fault ≡ None → o ≡ Ok tt
      → OnOk o (feeding.Feeds meaning_of Leads k.reader new.reader piece before after) → OnOk o (closed new.reader ≡ false) → ((x : List ℕ) → meaning_of new.reader x ≡ meaning_of k.reader x)
      → FeedsPiece meaning_of Leads closed k new piece before after
  reads_piece o k new piece before after none still ok feeds goes_on same =
      let f = on_ok (feeding.Feeds meaning_of Leads k.reader new.reader piece before after) tt ok feeds in
      let goes = on_ok (closed new.reader ≡ false) tt ok goes_on in record {
        feeds = record {
          given = f.given;
          grown = f.grown;
          fed = λ means x ts h.
              let r = reads_on k means x ts none h in
              let P : Option Refusal → Type 0 = λ o. ReaderStands meaning_of Leads closed o new.reader means (x ++ piece) (ts ++ f.given) in record {
                begun = λ y. (let b = f.begun x ts r.leads y in (b.0, ap (λ (m : Meaning). all_stated m.0) (sym (r.same (x ++ piece ++ y))) ∙ b.1));
                stands = subst P (sym still) (record { leads = f.leads x ts r.leads; goes_on = goes; same = λ z. same z ∙ r.same z });
              };
          complete = λ means x ts h _ front longest.
              let r = reads_on k means x ts none h in
              let same_triples : (λ z. all_stated (meaning_of k.reader z).0) ≡ (λ z. all_stated (means z).0) = λ i z. all_stated (r.same z i).0 in
              let Q : (List ℕ → List RdfTriple) → Type 0 = λ t. AreSettled t front (ts ++ f.given) in
              subst Q same_triples (f.settled x ts r.leads front longest);
          latched = λ e is. absurd (let clash : None ≡ Some e = sym none ∙ is in cc);
        };
        silent = λ is. absurd (let clash : false ≡ true = ap is_some (sym still) ∙ is in cc);
      }

  -- a piece has a fault, which is kept
  keeps_fault : (o : Result (Unit {0}) Refusal) (e : Refusal) (k new : Reading R) (piece : List ℕ) (before after : List RdfTriple) → k.fault ≡ None → new.fault ≡ Some e → OnErr o (after ≡ before)
      → o ≡ Err e → e ≢ refusal.NoMemory → e ≢ refusal.Closed
      → IfErr o (λ e. (z : List ℕ) (us : List RdfTriple) → Leads k.reader z us → (w : List ℕ) → Reports e (meaning_of k.reader (z ++ piece ++ w)))
      → FeedsPiece meaning_of Leads closed k new piece before after
  keeps_fault o e k new piece before after none kept stays err memory open_still reports =
      let same = on_err (after ≡ before) e err stays in
      let is_reported = IfErr-at_err (λ e. (z : List ℕ) (us : List RdfTriple) → Leads k.reader z us → (w : List ℕ) → Reports e (meaning_of k.reader (z ++ piece ++ w))) err reports in
      let fault : (m : Meaning) → Reports e m → HasFault e m = λ m. reported_fault e m memory open_still in record {
        feeds = record {
          given = [];
          grown = same ∙ sym (append-nil before);
          fed = λ means x ts h.
              let r = reads_on k means x ts none h in
              let P : Option Refusal → Type 0 = λ o. ReaderStands meaning_of Leads closed o new.reader means (x ++ piece) (ts ++ []) in
              let S : Meaning → Type 0 = λ m. HasFault e m in record {
                begun = λ y. (let B : List ℕ → Type 0 = λ w. Begins (all_stated (means w).0) (ts ++ []) in
                    let Q : List RdfTriple → Type 0 = λ w. Begins (all_stated (means (x ++ (piece ++ y))).0) w in
                    subst B (sym (append_assoc x piece y)) (subst Q (sym (append-nil ts)) (h.begun (piece ++ y))));
                stands = subst P (sym kept) (λ y. subst S (r.same (x ++ piece ++ y)) (fault (meaning_of k.reader (x ++ piece ++ y)) (is_reported x ts r.leads y)));
              };
          complete = λ means x ts h gone. absurd (let clash : None ≡ Some e = sym gone ∙ kept in cc);
          latched = λ f is. absurd (let clash : None ≡ Some f = sym none ∙ is in cc);
        };
        silent = λ is. same;
      }

  -- a piece is fed to a reading without a fault
  pub takes_piece : (o : Result (Unit {0}) Refusal) (found : Option Refusal) (k new : Reading R) (piece : List ℕ) (before after : List RdfTriple) → k.fault ≡ None → new.fault ≡ found → ReportsFault o found
      → OnOk o (feeding.Feeds meaning_of Leads k.reader new.reader piece before after) → OnOk o (closed new.reader ≡ false) → ((x : List ℕ) → meaning_of new.reader x ≡ meaning_of k.reader x) → OnErr o (after ≡ before)
      → IfErr o (λ e. (z : List ℕ) (us : List RdfTriple) → Leads k.reader z us → (w : List ℕ) → Reports e (meaning_of k.reader (z ++ piece ++ w)))
      → FeedsPiece meaning_of Leads closed k new piece before after
  takes_piece o None k new piece before after none is finds feeds goes_on same stays reports = reads_piece o k new piece before after none is finds feeds goes_on same
  takes_piece o (Some e) k new piece before after none is finds feeds goes_on same stays reports = keeps_fault o e k new piece before after none is stays finds.0 finds.1 finds.2 reports

  -- one text after another
  FeedsReading-append : (old mid new : Reading R) (p q : List ℕ) (before between after : List RdfTriple)
      → FeedsReading meaning_of Leads closed old mid p before between → FeedsReading meaning_of Leads closed mid new q between after → FeedsReading meaning_of Leads closed old new (p ++ q) before after
  FeedsReading-append old mid new p q before between after f g = record {
    given = f.given ++ g.given;
    grown = g.grown ∙ ap (λ z. z ++ g.given) f.grown ∙ append_assoc before f.given g.given;
    fed = λ means x ts h. fed_along new means ((x ++ p) ++ q) (x ++ (p ++ q)) ((ts ++ f.given) ++ g.given) (ts ++ (f.given ++ g.given)) (append_assoc x p q) (append_assoc ts f.given g.given)
        (g.fed means (x ++ p) (ts ++ f.given) (f.fed means x ts h));
    complete = λ means x ts h none. complete_along means ((x ++ p) ++ q) (x ++ (p ++ q)) ((ts ++ f.given) ++ g.given) (ts ++ (f.given ++ g.given)) (append_assoc x p q) (append_assoc ts f.given g.given)
        (g.complete means (x ++ p) (ts ++ f.given) (f.fed means x ts h) none);
    latched = λ e is. g.latched e (f.latched e is);
  }

  -- a piece more after others
  pub FeedsEach-more : (pieces : List (List ℕ)) (old mid new : Reading R) (piece : List ℕ) (before between after : List RdfTriple)
      → FeedsEach meaning_of Leads closed old mid pieces before between → FeedsPiece meaning_of Leads closed mid new piece between after → FeedsEach meaning_of Leads closed old new (pieces ++ piece ∷ []) before after
  FeedsEach-more [] old mid new piece before between after h f =
      let P : Reading R → Type 0 = λ k. FeedsPiece meaning_of Leads closed k new piece before after in
      let Q : List RdfTriple → Type 0 = λ ts. FeedsPiece meaning_of Leads closed mid new piece ts after in
      (new, after, subst P h.0 (subst Q h.1 f), (refl, refl))
  FeedsEach-more (p ∷ ps) old mid new piece before between after h f = (h.0, h.1, h.2, FeedsEach-more ps h.0 mid new piece h.1 between after h.3 f)

  -- a piece is fed, whatever stands at the front of the list
  FeedsPiece-front : (old new : Reading R) (piece : List ℕ) (front before after : List RdfTriple) → FeedsPiece meaning_of Leads closed old new piece before after
      → FeedsPiece meaning_of Leads closed old new piece (front ++ before) (front ++ after)
  FeedsPiece-front old new piece front before after f = record {
    feeds = record {
      given = f.feeds.given;
      grown = ap (λ z. front ++ z) f.feeds.grown ∙ sym (append_assoc front before f.feeds.given);
      fed = f.feeds.fed;
      complete = f.feeds.complete;
      latched = f.feeds.latched;
    };
    silent = λ is. ap (λ z. front ++ z) (f.silent is);
  }

  -- the same of pieces one by one
  FeedsEach-front : (pieces : List (List ℕ)) (old new : Reading R) (front before after : List RdfTriple) → FeedsEach meaning_of Leads closed old new pieces before after
      → FeedsEach meaning_of Leads closed old new pieces (front ++ before) (front ++ after)
  FeedsEach-front [] old new front before after h = (h.0, ap (λ z. front ++ z) h.1)
  FeedsEach-front (p ∷ ps) old new front before after h = (h.0, front ++ h.1, FeedsPiece-front old h.0 p front before h.1 h.2, FeedsEach-front ps h.0 new front h.1 after h.3)

  -- pieces are fed after others
  FeedsEach-append : (ps qs : List (List ℕ)) (old mid new : Reading R) (before between after : List RdfTriple)
      → FeedsEach meaning_of Leads closed old mid ps before between → FeedsEach meaning_of Leads closed mid new qs between after → FeedsEach meaning_of Leads closed old new (ps ++ qs) before after
  FeedsEach-append [] qs old mid new before between after h f =
      let P : Reading R → Type 0 = λ k. FeedsEach meaning_of Leads closed k new qs before after in
      let Q : List RdfTriple → Type 0 = λ ts. FeedsEach meaning_of Leads closed mid new qs ts after in
      subst P h.0 (subst Q h.1 f)
  FeedsEach-append (p ∷ ps) qs old mid new before between after h f = (h.0, h.1, h.2, FeedsEach-append ps qs h.0 mid new h.1 between after h.3 f)

  -- a reading that was fed some pieces is fed more
  pub IsFedBy-more : (k new : Reading R) (means : List ℕ → Meaning) (ps qs : List (List ℕ)) (ts us : List RdfTriple)
      → IsFedBy meaning_of Leads closed k means ps ts → FeedsEach meaning_of Leads closed k new qs [] us → IsFedBy meaning_of Leads closed new means (ps ++ qs) (ts ++ us)
  IsFedBy-more k new means ps qs ts us h f =
      let P : List RdfTriple → Type 0 = λ z. FeedsEach meaning_of Leads closed k new qs z (ts ++ us) in record {
        first = h.first;
        fresh = h.fresh;
        each = FeedsEach-append ps qs h.first k new [] ts (ts ++ us) h.each (subst P (append-nil ts) (FeedsEach-front qs k new ts [] us f));
      }

  -- the list only grows
  pub each_grows : (pieces : List (List ℕ)) (old new : Reading R) (before after : List RdfTriple) → FeedsEach meaning_of Leads closed old new pieces before after → Begins after before
  each_grows [] old new before after h = ([], h.1 ∙ sym (append-nil before))
  each_grows (p ∷ ps) old new before after h =
      let more = each_grows ps h.0 new h.1 after h.3 in
      (h.2.feeds.given ++ more.0, more.1 ∙ ap (λ z. z ++ more.0) h.2.feeds.grown ∙ append_assoc before h.2.feeds.given more.0)

  -- a text that is fed in pieces is fed whole
  pub feeds_pieces : (n : ℕ) (pieces : List (List ℕ)) (text : List ℕ) (old new : Reading R) (before after : List RdfTriple) → ArePieces n text pieces
      → FeedsEach meaning_of Leads closed old new pieces before after → FeedsReading meaning_of Leads closed old new text before after
  feeds_pieces n [] text old new before after are h = absurd are
  feeds_pieces n (p ∷ []) text old new before after are h =
      let P : Reading R → Type 0 = λ k. FeedsReading meaning_of Leads closed old k text before after in
      let Q : List RdfTriple → Type 0 = λ ts. FeedsReading meaning_of Leads closed old h.0 text before ts in
      let T : List ℕ → Type 0 = λ z. FeedsReading meaning_of Leads closed old h.0 z before h.1 in
      subst P (sym h.3.0) (subst Q (sym h.3.1) (subst T are.0 h.2.feeds))
  feeds_pieces n (p ∷ q ∷ ps) text old new before after are h =
      let rest = feeds_pieces n (q ∷ ps) (drop n text) h.0 new h.1 after are.3 h.3 in
      let T : List ℕ → Type 0 = λ z. FeedsReading meaning_of Leads closed old new z before after in
      subst T (ap (λ z. z ++ drop n text) are.2 ∙ take-append-drop n text) (FeedsReading-append old h.0 new p (drop n text) before h.1 after h.2.feeds rest)

  -- a text ends that has a fault
  pub ends_kept : (k : Reading R) (e : Refusal) (before : List RdfTriple) → k.fault ≡ Some e → EndsFaulty meaning_of Leads closed k e before before
  ends_kept k e before is = record {
    unchanged = refl;
    first = λ means x ts h.
        let P : Option Refusal → Type 0 = λ o. ReaderStands meaning_of Leads closed o k.reader means x ts in
        let Q : List ℕ → Type 0 = λ z. HasFault e (means z) in
        let faulty : (y : List ℕ) → HasFault e (means (x ++ y)) = subst P is h.stands in
        subst Q (append-nil x) (faulty []);
  }

  -- a text ends without a fault
  ends_whole : (o : Result (Unit {0}) Refusal) (k : Reading R) (before after : List RdfTriple) → k.fault ≡ None → o ≡ Ok tt
      → OnOk o (feeding.Finishes meaning_of Leads k.reader before after) → EndsWhole meaning_of Leads closed k before after
  ends_whole o k before after none ok finishes =
      let f = on_ok (feeding.Finishes meaning_of Leads k.reader before after) tt ok finishes in record {
        given = f.given;
        grown = f.grown;
        all = λ means x ts h.
            let r = reads_on k means x ts none h in record {
              whole = ap (λ (m : Meaning). m.1) (sym (r.same x)) ∙ f.whole x ts r.leads;
              all = ap (λ (m : Meaning). all_stated m.0) (sym (r.same x)) ∙ f.all x ts r.leads;
            };
      }

  -- a text ends and has a fault
  ends_faulty : (o : Result (Unit {0}) Refusal) (e : Refusal) (k : Reading R) (before after : List RdfTriple) → k.fault ≡ None → OnErr o (after ≡ before)
      → o ≡ Err e → e ≢ refusal.NoMemory → e ≢ refusal.Closed
      → IfErr o (λ e. (z : List ℕ) (us : List RdfTriple) → Leads k.reader z us → Reports e (meaning_of k.reader z)) → EndsFaulty meaning_of Leads closed k e before after
  ends_faulty o e k before after none stays err memory open_still reports = record {
    unchanged = on_err (after ≡ before) e err stays;
    first = λ means x ts h.
        let r = reads_on k means x ts none h in
        let is_reported = IfErr-at_err (λ e. (z : List ℕ) (us : List RdfTriple) → Leads k.reader z us → Reports e (meaning_of k.reader z)) err reports in
        let S : Meaning → Type 0 = λ m. HasFault e m in
        subst S (r.same x) (reported_fault e (meaning_of k.reader x) memory open_still (is_reported x ts r.leads));
  }

  -- a text ends to a reading without a fault
  pub ends_by : (o : Result (Unit {0}) Refusal) (found : Option Refusal) (k : Reading R) (before after : List RdfTriple) → k.fault ≡ None → ReportsFault o found
      → OnOk o (feeding.Finishes meaning_of Leads k.reader before after) → OnErr o (after ≡ before)
      → IfErr o (λ e. (z : List ℕ) (us : List RdfTriple) → Leads k.reader z us → Reports e (meaning_of k.reader z)) → EndsReading meaning_of Leads closed k found before after
  ends_by o None k before after none finds finishes stays reports = ends_whole o k before after none finds finishes
  ends_by o (Some e) k before after none finds finishes stays reports = ends_faulty o e k before after none stays finds.0 finds.1 finds.2 reports

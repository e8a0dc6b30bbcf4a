-- What the history of a reader says of the texts that lead to it.
use Rattle.std.proofs.Common.{◌≡◌, ℕ, List, [], ◌++◌, length, take, refl, sym, ap, subst, inl, inr, ◌∙◌, append-nil}
use Rattle.std.proofs.Math.Seq.{take-append_seam}
use Rattle.gs_model.specs.Triples.{RdfTriple}
use Rattle.gs_model.specs.declared.faults.Fault.{Fault}
use Rattle.gs_model.specs.declared.faults.Fault.TheVariants.{Syntax, TermTooLong}
use Rattle.gs_model.specs.declared.refusals.Refusal.{Refusal}
use Rattle.gs_model.specs.declared.refusals.Refusal.TheVariants as refusal
use Rattle.gs_machine.specs.Machines.{joined, steps, rest, AreSettled, Begins}
use Rattle.gs_machine.specs.Utf8.{Lost, IsLongestFront}
use Rattle.gs_body.specs.Bodies.{Faulty, Statement, Meaning, Reports, all_stated, end_after}
use Rattle.gs_body.specs.Feeding.{Feeds, Finishes}
use Rattle.gs_body.specs.Leading.{IsLed}
use Rattle.gs_body.proofs.LeadingLemmas.{led-on, led-begun, led-settled_at_front, led-meaning, led-fails, triples_of-append, end_after-append}
use Rattle.gs_ntread.specs.Documents.{meaning_by}
use Rattle.gs_ntread.specs.States.{LineState, broken}
use Rattle.gs_ntread.specs.Reader.{Led, placing, ntriples, nothing_read}
use Rattle.gs_ntread.specs.Readers.{led_of, LeadsToNTriples, Advances, IsStopped, refusal_after, RefusesFault, FaultyAfter, FaultyEnd, EndsWell, Sound}
use Rattle.gs_ntread.specs.Views.{cursor_state}
use Rattle.gs_ntread.specs.declared.reader.NTriplesReader.{NTriplesReader}
use Rattle.gs_ntread.proofs.Whole.{meaning_is, says_nothing, silence}
use Rattle.gs_ntread.proofs.Lostness.{sound-led}

abbrev meaning_for : NTriplesReader → List ℕ → Meaning
meaning_for r x = meaning_by r.request x

-- a machine that led somewhere goes on to a state
goes : (a : NTriplesReader) (x y : List ℕ) (ts : List RdfTriple) → LeadsToNTriples a x ts
    → IsLed (ntriples a.request) nothing_read (steps (ntriples a.request) (led_of a) y).0 (end_after a.last (steps (ntriples a.request) (led_of a) y).1) (x ++ y) (ts ++ all_stated (steps (ntriples a.request) (led_of a) y).1)
goes a x y ts l = led-on (ntriples a.request) nothing_read (led_of a) (steps (ntriples a.request) (led_of a) y).0 a.last _ x y ts (steps (ntriples a.request) (led_of a) y).1 l refl refl

-- A decoder that is not lost has given all by the longest front between characters, where the text may go on so that
-- nothing more is said.
settled_at : (r : ℕ) (s : Led) (n : ℕ) (x : List ℕ) (ts : List RdfTriple) → IsLed (ntriples r) nothing_read s n x ts → (s.0 ≡ Lost → ⊥) → (front : List ℕ) → IsLongestFront x front
    → AreSettled (λ z. all_stated (meaning_by r z).0) front ts
settled_at r s n x ts h kept front f =
    let y = silence r s.1.0 s.1.1.0 s.1.1.1 in
    subst (λ (g : List ℕ → List RdfTriple). AreSettled g front ts) (λ i z. all_stated (meaning_is r z i).0) (led-settled_at_front (placing r) nothing_read.1 s n x front ts h f kept y.0 y.1)

-- a piece that was taken, and by which no fault came
pub feeds : (a b : NTriplesReader) (y : List ℕ) (o1 o2 : List RdfTriple) → Advances a b o1 o2 (steps (ntriples a.request) (led_of a) y) → ¬ (IsStopped (cursor_state b.cursor)) → Feeds meaning_for LeadsToNTriples a b y o1 o2
feeds a b y o1 o2 h unbroken =
    let m = ntriples a.request in
    let new : List Statement = (steps m (led_of a) y).1 in
    record {
      given = all_stated new;
      grown = h.given;
      leads = λ x ts l. subst (λ (r : ℕ). IsLed (ntriples r) nothing_read (led_of b) b.last (x ++ y) (ts ++ all_stated new)) (sym h.request)
          (led-on m nothing_read (led_of a) (led_of b) a.last b.last x y ts new l (ap (λ (s : Led). (s, new)) (sym h.led)) h.last);
      begun = λ x ts l z. subst (λ (s : Meaning). Begins (all_stated s.0) (ts ++ all_stated new)) (meaning_is a.request ((x ++ y) ++ z)) (led-begun m nothing_read _ _ (x ++ y) (ts ++ all_stated new) (goes a x y ts l) z);
      settled = λ x ts l front f.
          let g = goes a x y ts l in
          let whole : ¬ (IsStopped (steps m (led_of a) y).0.1.1.0) = subst (λ (s : Led). ¬ (IsStopped s.1.1.0)) h.led unbroken in
          settled_at a.request _ _ (x ++ y) (ts ++ all_stated new) g (λ e. whole (sound-led a.request _ _ (x ++ y) (ts ++ all_stated new) g e)) front f;
    }

-- what the refusal of a fault reports
reports_fault : (f : Fault) (n : ℕ) (t : Meaning) → t.1 ≡ Faulty f → n ≡ end_after 0 t.0 → Reports (refusal_after n f) t
reports_fault Syntax n t e p = record { broken = e; place = p }
reports_fault TermTooLong n t e p = e

-- for want of memory nothing is reported
unreported : (e : Refusal) (t : Meaning) → e ≡ refusal.NoMemory → Reports e t
unreported e t h = subst (λ (r : Refusal). Reports r t) (sym h) tt

-- a refused piece
pub faults : (e : Refusal) (a : NTriplesReader) (y : List ℕ) → FaultyAfter e a.last (steps (ntriples a.request) (led_of a) y)
    → (x : List ℕ) (ts : List RdfTriple) → LeadsToNTriples a x ts → (z : List ℕ) → Reports e (meaning_for a ((x ++ y) ++ z))
faults e a y f x ts l z = elim f [ inl h ↦ unreported e _ h | inr h ↦ reported h ]
  where
    reported : RefusesFault e (end_after a.last (steps (ntriples a.request) (led_of a) y).1) (λ f. (steps (ntriples a.request) (led_of a) y).0.1.1.0 ≡ broken f) → Reports e (meaning_for a ((x ++ y) ++ z))
    reported h =
        let t : Led × List Statement = steps (ntriples a.request) (led_of a) y in
        let m = ntriples a.request in
        let n = end_after a.last t.1 in
        let nothing : rest m t.0 z ≡ ([], Faulty h.fault) =
        ap (λ (q : LineState). rest m (t.0.0, (t.0.1.0, (q, t.0.1.1.1))) z) h.is ∙ says_nothing a.request t.0.0 t.0.1.0 h.fault t.0.1.1.1 z in
        let g = goes a x y ts l in
        let whole = led-fails m nothing_read (Faulty h.fault) t.0 n (x ++ y) z (ts ++ all_stated t.1) g nothing in
        subst (λ (s : Meaning). Reports e s) (meaning_is a.request ((x ++ y) ++ z))
        (subst (λ (k : Refusal). Reports k (rest m nothing_read ((x ++ y) ++ z))) (sym h.refusal)
        (reports_fault h.fault n _ (ap (λ (s : Meaning). s.1) whole) (g.place ∙ ap (λ (s : Meaning). end_after 0 s.0) (sym whole))))

-- the text ends
meaning_at_end : (a : NTriplesReader) (x : List ℕ) (ts : List RdfTriple) → (l : LeadsToNTriples a x ts) → meaning_for a x ≡ joined l.statements (rest (ntriples a.request) (led_of a) [])
meaning_at_end a x ts l = sym (meaning_is a.request x) ∙ ap (rest (ntriples a.request) nothing_read) (sym (append-nil x)) ∙ led-meaning (ntriples a.request) nothing_read (led_of a) a.last x [] ts l

pub finishes : (a : NTriplesReader) (o1 o2 : List RdfTriple) → EndsWell o1 o2 (rest (ntriples a.request) (led_of a) []) → Finishes meaning_for LeadsToNTriples a o1 o2
finishes a o1 o2 h =
    let t : Meaning = rest (ntriples a.request) (led_of a) [] in
    record {
      given = all_stated t.0;
      grown = h.given;
      whole = λ x ts l. ap (λ (s : Meaning). s.1) (meaning_at_end a x ts l) ∙ h.whole;
      all = λ x ts l. ap (λ (s : Meaning). all_stated s.0) (meaning_at_end a x ts l) ∙ triples_of-append l.statements t.0 ∙ ap (λ z. z ++ all_stated t.0) (sym l.given);
    }

-- a refused end
pub faults-end : (e : Refusal) (a : NTriplesReader) → (Sound (led_of a) → FaultyEnd e a.last (rest (ntriples a.request) (led_of a) []))
    → (x : List ℕ) (ts : List RdfTriple) → LeadsToNTriples a x ts → Reports e (meaning_for a x)
faults-end e a f x ts l = elim (f (sound-led a.request (led_of a) a.last x ts l)) [ inl h ↦ unreported e _ h | inr h ↦ reported h ]
  where
    reported : RefusesFault e (end_after a.last (rest (ntriples a.request) (led_of a) []).0) (λ f. (rest (ntriples a.request) (led_of a) []).1 ≡ Faulty f) → Reports e (meaning_for a x)
    reported h =
        let t : Meaning = rest (ntriples a.request) (led_of a) [] in
        let at_end = meaning_at_end a x ts l in
        subst (λ (k : Refusal). Reports k (meaning_for a x)) (sym h.refusal)
        (reports_fault h.fault _ _ (ap (λ (s : Meaning). s.1) at_end ∙ h.is)
        (ap (λ n. end_after n t.0) l.place ∙ sym (end_after-append 0 l.statements t.0) ∙ ap (λ (s : Meaning). end_after 0 s.0) (sym at_end)))

-- a list that is cut back
pub cut_back : (o1 o2 : List RdfTriple) (n : ℕ) → n ≡ length o1 → Begins o2 o1 → take n o2 ≡ o1
cut_back o1 o2 n h (more, e) = ap (take n) e ∙ ap (λ k. take k (o1 ++ more)) h ∙ take-append_seam o1 more

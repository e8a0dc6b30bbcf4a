-- What the history of a machine says.
use Rattle.std.proofs.Common.{◌≡◌, ℕ, List, [], ◌∷◌, ◌++◌, refl, sym, ap, subst, ◌∙◌, append-nil}
use Rattle.std.proofs.lemmas.List.Concat.{flat_map-append}
use Rattle.gs_model.specs.Triples.{RdfTriple}
use Rattle.gs_model.specs.declared.faults.Fault.TheVariants as fault
use Rattle.gs_machine.specs.Machines.{Machine, joined, steps, rest, composed, AreSettled, Begins}
use Rattle.gs_machine.specs.Utf8.{Decoding, Ready, Lost, utf8, IsLongestFront}
use Rattle.gs_machine.proofs.MachineLemmas.{steps-append, rest-append, steps-nil, steps-composed}
use Rattle.gs_machine.proofs.FrontLemmas.{composed-at_front}
use Rattle.gs_body.specs.Bodies.{Statement, Ending, Faulty, Meaning, all_stated, end_after, IsBroken}
use Rattle.gs_body.specs.Leading.{IsLed}

pub end_after-append : (n : ℕ) (a b : List Statement) → end_after n (a ++ b) ≡ end_after (end_after n a) b
end_after-append n [] b = refl
end_after-append n (s ∷ ss) b = end_after-append s.end ss b

pub triples_of-append : (a b : List Statement) → all_stated (a ++ b) ≡ all_stated a ++ all_stated b
triples_of-append a b = flat_map-append (λ (s : Statement). s.triples) a b

module _ {S I : Type 0} (m : Machine S I Statement Ending) (start : S) where
  -- a machine at its start
  pub led-start : IsLed m start start 0 [] []
  led-start = record { statements = []; run = steps-nil m start; given = refl; place = refl }

  -- a machine goes on
  pub led-on : (s t : S) (n l : ℕ) (x y : List I) (ts : List RdfTriple) (new : List Statement) → IsLed m start s n x ts
      → steps m s y ≡ (t, new) → l ≡ end_after n new → IsLed m start t l (x ++ y) (ts ++ all_stated new)
  led-on s t n l x y ts new h e p = record {
    statements = h.statements ++ new;
    run = steps-append m start x y ∙ ap (λ (u : S × List Statement). ((steps m u.0 y).0, u.1 ++ (steps m u.0 y).1)) h.run ∙ ap (λ (u : S × List Statement). (u.0, h.statements ++ u.1)) e;
    given = ap (λ z. z ++ all_stated new) h.given ∙ sym (triples_of-append h.statements new);
    place = p ∙ ap (λ z. end_after z new) h.place ∙ sym (end_after-append 0 h.statements new);
  }

  -- what is said of a text that goes on
  pub led-meaning : (s : S) (n : ℕ) (x y : List I) (ts : List RdfTriple) → (h : IsLed m start s n x ts)
      → rest m start (x ++ y) ≡ joined h.statements (rest m s y)
  led-meaning s n x y ts h = rest-append m start x y ∙ ap (λ (u : S × List Statement). joined u.1 (rest m u.0 y)) h.run

  -- what was given is a front of what is said
  pub led-begun : (s : S) (n : ℕ) (x : List I) (ts : List RdfTriple) → IsLed m start s n x ts
      → (y : List I) → Begins (all_stated (rest m start (x ++ y)).0) ts
  led-begun s n x ts h y = (all_stated (rest m s y).0, ap (λ (r : Meaning). all_stated r.0) (led-meaning s n x y ts h) ∙ triples_of-append h.statements (rest m s y).0 ∙ ap (λ z. z ++ all_stated (rest m s y).0) (sym h.given))

  -- what was given are the triples of the complete statements, where the text may go on so that nothing more is said
  pub led-settled : (s : S) (n : ℕ) (x : List I) (ts : List RdfTriple) → IsLed m start s n x ts
      → (y : List I) → (rest m s y).0 ≡ [] → AreSettled (λ z. all_stated (rest m start z).0) x ts
  led-settled s n x ts h y silent = record {
    stay = led-begun s n x ts h;
    are_all = λ more f.
        let e : all_stated (rest m start (x ++ y)).0 ≡ ts =
        ap (λ (r : Meaning). all_stated r.0) (led-meaning s n x y ts h) ∙ ap (λ z. all_stated (h.statements ++ z)) silent ∙ ap all_stated (append-nil h.statements) ∙ sym h.given in
        subst (λ z. Begins z more) e (f y);
  }

  -- a machine that says nothing more and ends so
  pub led-fails : (e : Ending) (s : S) (n : ℕ) (x y : List I) (ts : List RdfTriple) → (h : IsLed m start s n x ts)
      → rest m s y ≡ ([], e) → rest m start (x ++ y) ≡ (h.statements, e)
  led-fails e s n x y ts h p = led-meaning s n x y ts h ∙ ap (joined h.statements) p ∙ ap (λ z. (z, e)) (append-nil h.statements)

  -- it breaks the grammar after the last statement that was given
  pub led-breaks : (s : S) (n : ℕ) (x y : List I) (ts : List RdfTriple) → IsLed m start s n x ts
      → rest m s y ≡ ([], Faulty fault.Syntax) → IsBroken (rest m start (x ++ y)) n
  led-breaks s n x y ts h p =
      let e = led-fails (Faulty fault.Syntax) s n x y ts h p in
      record { broken = ap (λ (r : Meaning). r.1) e; place = h.place ∙ ap (λ (r : Meaning). end_after 0 r.0) (sym e) }

  pub led-exceeds : (s : S) (n : ℕ) (x y : List I) (ts : List RdfTriple) → IsLed m start s n x ts
      → rest m s y ≡ ([], Faulty fault.TermTooLong) → (rest m start (x ++ y)).1 ≡ Faulty fault.TermTooLong
  led-exceeds s n x y ts h p = ap (λ (r : Meaning). r.1) (led-fails (Faulty fault.TermTooLong) s n x y ts h p)

-- A machine that takes what a decoder gives, where the decoder is not lost: the longest front of the text that ends between
-- two characters leads it to the same state, and to having given the same, with the decoder between two characters.
pub led-at_front : {T : Type 0} (b : Machine T ℕ Statement Ending) (start : T) (s : Decoding × T) (n : ℕ) (x front : List ℕ) (ts : List RdfTriple)
    → IsLed (composed utf8 b) (Ready, start) s n x ts → IsLongestFront x front → (s.0 ≡ Lost → ⊥)
    → IsLed (composed utf8 b) (Ready, start) (Ready, s.1) n front ts
led-at_front {T} b start s n x front ts h f open_ =
    let m : Machine (Decoding × T) ℕ Statement Ending = composed utf8 b in
    let state : s.0 ≡ (steps utf8 Ready x).0 = ap (λ (t : (Decoding × T) × List Statement). t.0.0) (sym h.run ∙ steps-composed utf8 b Ready start x) in
    record {
      statements = h.statements;
      run = composed-at_front b start x front f (λ e. open_ (state ∙ e)) ∙ ap (λ (t : (Decoding × T) × List Statement). ((Ready, t.0.1), t.1)) h.run;
      given = h.given;
      place = h.place;
    }

-- So what was given is settled by that front, where the text may go on from there so that nothing more is said.
pub led-settled_at_front : {T : Type 0} (b : Machine T ℕ Statement Ending) (start : T) (s : Decoding × T) (n : ℕ) (x front : List ℕ) (ts : List RdfTriple)
    → IsLed (composed utf8 b) (Ready, start) s n x ts → IsLongestFront x front → (s.0 ≡ Lost → ⊥)
    → (y : List ℕ) → (rest (composed utf8 b) (Ready, s.1) y).0 ≡ []
    → AreSettled (λ z. all_stated (rest (composed utf8 b) (Ready, start) z).0) front ts
led-settled_at_front b start s n x front ts h f open_ y silent =
    led-settled (composed utf8 b) (Ready, start) (Ready, s.1) n front ts (led-at_front b start s n x front ts h f open_) y silent

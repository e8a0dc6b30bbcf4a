-- The machine of triples over the tokens of triples, up to the state that the token after them ends.
use Rattle.std.proofs.Common.{◌≡◌, List, [], ◌∷◌, ◌++◌, refl, sym, ap, ◌∙◌, subst}
use Rattle.std.specs.Prelude.{Result, Ok, Err}
use Rattle.std.proofs.lemmas.List.{append_cancel_right}
use Rattle.gs_blank.specs.Numbers.{Numbers}
use Rattle.gs_triples.specs.Symbols.{Symbol}
use Rattle.gs_triples.specs.Meanings.{Fault, Context}
use Rattle.gs_triples.specs.Reading.{Got}
use Rattle.gs_triples.specs.Triples.{AreTriples, EndsVerbs}
use Rattle.gs_triples.specs.Program.{triples_at, CoversTriples}
use Rattle.gs_triples.specs.States.{State, Turn, Goes, Ends}
use Rattle.gs_triples.specs.Machine.{opening, step}
use Rattle.gs_triples.specs.Runs.{Done, taken, run, done_before, with_next}
use Rattle.gs_triples.proofs.TriplesLemmas.{triples_covered, triples_read}
use Rattle.gs_triples.proofs.MachineLemmas.{opening_run}

-- the machine goes from one state to another over these tokens
pub data Leads {Value Triple : Type 0} : State Value Triple → List Symbol → State Value Triple → Type 0 where
  stay : (s : State Value Triple) → Leads s [] s
  go : {s u v : State Value Triple} {ts : List Symbol} (t : Symbol) → step s t ≡ Goes u → Leads u ts v → Leads s (t ∷ ts) v

-- the first of some tokens, or this one
abbrev first_or : Symbol → List Symbol → Symbol
first_or t [] = t
first_or t (z ∷ zs) = z

module _ {Value Triple : Type 0} where
  -- triples that were read
  abbrev pub done : Context Value Triple → List Triple → Numbers → List Symbol → Done Value Triple
  done env T n ts = record { context = env; triples = T; numbers = n; rest = ts }

  -- triples of a front of some tokens, and the token that ended them
  pub record CutRun (ts : List Symbol) (s : State Value Triple) (d : Done Value Triple) : Type 0 where
    pub front : List Symbol
    pub state : State Value Triple
    pub next : Symbol
    pub after : List Symbol
    pub parts : ts ≡ front ++ next ∷ after
    pub left : d.rest ≡ next ∷ after
    pub leads : Leads s front state
    pub ends : step state next ≡ Ends d.context d.triples d.numbers

  abbrev done_or : Done Value Triple → Result (Done Value Triple) Fault → Done Value Triple
  done_or d (Ok r) = r
  done_or d (Err e) = d

  one_more : (t : Symbol) (ts : List Symbol) (s u : State Value Triple) (d : Done Value Triple) → step s t ≡ Goes u → CutRun ts u d → CutRun (t ∷ ts) s d
  one_more t ts s u d q c = record {
    front = t ∷ c.front;
    state = c.state;
    next = c.next;
    after = c.after;
    parts = ap (λ z. t ∷ z) c.parts;
    left = c.left;
    leads = go t q c.leads;
    ends = c.ends;
  }

  cut_turn : (t : Symbol) (ts : List Symbol) (s : State Value Triple) (d : Done Value Triple) (u : Turn Value Triple) → step s t ≡ u
      → ((v : State Value Triple) → run ts v ≡ Ok d → CutRun ts v d) → taken (run ts) (t ∷ ts) u ≡ Ok d → CutRun (t ∷ ts) s d
  cut_turn t ts s d (Goes v) q again h = one_more t ts s v d q (again v h)
  cut_turn t ts s d (Ends env T n) q again h =
      subst (λ z. CutRun (t ∷ ts) s z) (ap (done_or d) h) (record {
        front = [];
        state = s;
        next = t;
        after = ts;
        parts = refl;
        left = refl;
        leads = stay s;
        ends = q;
      })

  -- a run that ends
  pub cut_run : (ts : List Symbol) (s : State Value Triple) (d : Done Value Triple) → run ts s ≡ Ok d → CutRun ts s d
  unfolding run
  cut_run [] s d h = absurd (cc)
  cut_run (t ∷ ts) s d h = cut_turn t ts s d (step s t) refl (λ v. cut_run ts v d) h

  -- and back
  pub join_run : {s u : State Value Triple} {xs : List Symbol} {env : Context Value Triple} {T : List Triple} {n : Numbers} (t : Symbol) (us : List Symbol)
      → Leads s xs u → step u t ≡ Ends env T n → run (xs ++ t ∷ us) s ≡ Ok (done env T n (t ∷ us))
  unfolding run
  join_run t us (stay s) q = ap (taken (run us) (t ∷ us)) q
  join_run t us (go {ts = ts} x p l) q = ap (taken (run (ts ++ t ∷ us)) (x ∷ ts ++ t ∷ us)) p ∙ join_run t us l q

  -- triples, as the machine reads them, up to a token that ends them
  pub record LeadTriples (env : Context Value Triple) (n : Numbers) (ts : List Symbol) (t : Symbol) (T : List Triple) (k : Numbers) : Type 0 where
    pub first : Symbol
    pub others : List Symbol
    pub state : State Value Triple
    pub parts : ts ≡ first ∷ others
    pub leads : Leads (opening env n first) others state
    pub ends : step state t ≡ Ends env T k

  lead_from : (env : Context Value Triple) (n k : Numbers) (w : Symbol) (xs : List Symbol) (t : Symbol) (T : List Triple)
      → CutRun (xs ++ t ∷ []) (opening env n w) (done env T k (t ∷ [])) → LeadTriples env n (w ∷ xs) t T k
  lead_from env n k w xs t T c =
      let same : c.front ≡ xs = append_cancel_right c.front xs (t ∷ []) (ap (λ z. c.front ++ z) c.left ∙ sym c.parts) in
      let head : t ≡ c.next = ap (λ z. first_or t z) c.left in
      record {
        first = w;
        others = xs;
        state = c.state;
        parts = refl;
        leads = subst (λ z. Leads (opening env n w) z c.state) same c.leads;
        ends = ap (step c.state) head ∙ c.ends;
      }

  pub triples_lead : {env : Context Value Triple} {n k : Numbers} {ts : List Symbol} {T : List Triple} → AreTriples env n ts T k → (t : Symbol) → EndsVerbs (t ∷ [])
      → LeadTriples env n ts t T k
  triples_lead {ts = []} a t h = elim a [ ]
  triples_lead {env = env} {n = n} {k = k} {ts = w ∷ xs} {T = T} a t h =
      lead_from env n k w xs t T (cut_run (xs ++ t ∷ []) (opening env n w) (done env T k (t ∷ []))
      (opening_run env n w (xs ++ t ∷ []) ∙ ap (with_next env) (triples_read a (t ∷ []) h).1))

  read_as : (env c : Context Value Triple) (n k : Numbers) (ts : List Symbol) (t : Symbol) (T : List Triple) (front rest : List Symbol) (U : List Triple) (l : Numbers)
      → ts ++ t ∷ [] ≡ front ++ rest → AreTriples env n front U l → done_before env U l rest ≡ Ok (done c T k (t ∷ [])) → (env ≡ c) × AreTriples env n ts T k
  read_as env c n k ts t T front [] U l p a h = absurd (cc)
  read_as env c n k ts t T front (z ∷ zs) U l p a h =
      let d : Done Value Triple = done c T k (t ∷ []) in
      let same : done env U l (z ∷ zs) ≡ d = ap (done_or d) h in
      let left : z ∷ zs ≡ t ∷ [] = ap (λ (x : Done Value Triple). x.rest) same in
      let fronts : front ≡ ts = append_cancel_right front ts (t ∷ []) (ap (λ x. front ++ x) (sym left) ∙ sym p) in
      let here : AreTriples env n ts U l = subst (λ x. AreTriples env n x U l) fronts a in
      let counted : AreTriples env n ts T l = subst (λ x. AreTriples env n ts x l) (ap (λ (x : Done Value Triple). x.triples) same) here in
      (ap (λ (x : Done Value Triple). x.context) same, subst (λ x. AreTriples env n ts T x) (ap (λ (x : Done Value Triple). x.numbers) same) counted)

  read_by : (env c : Context Value Triple) (n k : Numbers) (ts : List Symbol) (t : Symbol) (T : List Triple) (r : Result (Got Value Triple) Fault)
      → CoversTriples env n (ts ++ t ∷ []) r → with_next env r ≡ Ok (done c T k (t ∷ [])) → (env ≡ c) × AreTriples env n ts T k
  read_by env c n k ts t T (Err e) v h = absurd (cc)
  read_by env c n k ts t T (Ok g) (front, p, a) h = read_as env c n k ts t T front g.rest g.triples g.numbers p a h

  -- what the machine has read where a token ends triples are triples
  pub lead_triples : {env c : Context Value Triple} {n k : Numbers} {xs : List Symbol} {u : State Value Triple} {T : List Triple} (w t : Symbol)
      → Leads (opening env n w) xs u → step u t ≡ Ends c T k → (env ≡ c) × AreTriples env n (w ∷ xs) T k
  lead_triples {env = env} {c = c} {n = n} {k = k} {xs = xs} {T = T} w t l q =
      read_by env c n k (w ∷ xs) t T (triples_at env n (w ∷ xs ++ t ∷ [])) (triples_covered env n (w ∷ xs ++ t ∷ []))
      (sym (opening_run env n w (xs ++ t ∷ [])) ∙ join_run t [] l q)

-- What a reader takes, step by step.
use Rattle.std.proofs.Common.{◌≡◌, ℕ, ◌+◌, ◌<◌, false, List, [], ◌++◌, length, take, drop, get_or, refl, sym, ap, subst, ◌∙◌, append_assoc, append-nil, arith, inr, Result, Ok, Err}
use Rattle.std.proofs.Math.Seq.{take-add}
use Rattle.std.specs.Prelude.{OnOk, OnErr, IfOk, IfErr}
use Rattle.gs_model.specs.Triples.{RdfTriple}
use Rattle.gs_model.specs.declared.refusals.Refusal.{Refusal}
use Rattle.gs_machine.specs.Machines.{joined, steps, rest, composed}
use Rattle.gs_machine.specs.Utf8.{Decoding, Ready, Within, Lost, bad, is_ready_of}
use Rattle.gs_machine.proofs.MachineLemmas.{steps-nil, steps-snoc, steps-append}
use Rattle.gs_body.specs.Bodies.{Statement, Meaning, Ending, Faulty, all_stated, end_after}
use Rattle.gs_body.proofs.LeadingLemmas.{triples_of-append, end_after-append}
use Rattle.gs_blank.specs.Numbers.{Numbers}
use Rattle.gs_ntread.specs.States.{LineState, broken}
use Rattle.gs_ntread.specs.Reader.{Led, placing, ntriples}
use Rattle.gs_ntread.specs.Readers.{led_of, Advances, refusal_after, FaultsAs, FaultyAfter, FaultyEnd, ConcludesAs}
use Rattle.gs_ntread.specs.Views.{cursor_state}
use Rattle.gs_ntread.proofs.Whole.{Placed, says_nothing, placing_broken}
use Rattle.gs_ntread.specs.declared.reader.NTriplesReader.{NTriplesReader}

pub on_ok : {A E : Type 0} (r : Result A E) (P Q : Type 0) → (P → Q) → OnOk r P → OnOk r Q
on_ok (Ok x) P Q f h = f h
on_ok (Err e) P Q f h = h

pub on_err : {A E : Type 0} (r : Result A E) (P Q : Type 0) → (P → Q) → OnErr r P → OnErr r Q
on_err (Ok x) P Q f h = h
on_err (Err e) P Q f h = f h

pub if_ok : {A E : Type 0} (r : Result A E) (P Q : A → Type 0) → ((x : A) → P x → Q x) → IfOk r P → IfOk r Q
if_ok (Ok x) P Q f h = f x h
if_ok (Err e) P Q f h = h

pub if_err : {A E : Type 0} (r : Result A E) (P Q : E → Type 0) → ((e : E) → P e → Q e) → IfErr r P → IfErr r Q
if_err (Ok x) P Q f h = h
if_err (Err e) P Q f h = f e h

-- nothing was given
pub took-none : (a b : NTriplesReader) (ts : List RdfTriple) (t : Led × List Statement) → t ≡ (led_of b, []) → b.last ≡ a.last → b.request ≡ a.request → b.is_closed ≡ a.is_closed → Advances a b ts ts t
took-none a b ts t e l r k = record {
  led = ap (λ (u : Led × List Statement). u.0) (sym e);
  given = sym (append-nil ts) ∙ ap (λ (u : Led × List Statement). ts ++ all_stated u.1) (sym e);
  last = l ∙ ap (λ (u : Led × List Statement). end_after a.last u.1) (sym e);
  request = r;
  closed = k;
}

-- the same from a reader whose other fields differ
pub took-from : (a c b : NTriplesReader) (ts us : List RdfTriple) (t u : Led × List Statement) → c.last ≡ a.last → c.request ≡ a.request → c.is_closed ≡ a.is_closed → t ≡ u → Advances c b ts us u → Advances a b ts us t
took-from a c b ts us t u l r k e h = record {
  led = h.led ∙ ap (λ (u : Led × List Statement). u.0) (sym e);
  given = h.given ∙ ap (λ (u : Led × List Statement). ts ++ all_stated u.1) (sym e);
  last = h.last ∙ ap (λ n. end_after n u.1) l ∙ ap (λ (u : Led × List Statement). end_after a.last u.1) (sym e);
  request = h.request ∙ r;
  closed = h.closed ∙ k;
}

-- one run after another
pub took-then : (a b c : NTriplesReader) (o1 o2 o3 : List RdfTriple) (t u : Led × List Statement) → Advances a b o1 o2 t → Advances b c o2 o3 u → Advances a c o1 o3 (u.0, t.1 ++ u.1)
took-then a b c o1 o2 o3 t u f g = record {
  led = g.led;
  given = g.given ∙ ap (λ z. z ++ all_stated u.1) f.given ∙ append_assoc o1 (all_stated t.1) (all_stated u.1) ∙ ap (λ z. o1 ++ z) (sym (triples_of-append t.1 u.1));
  last = g.last ∙ ap (λ z. end_after z u.1) f.last ∙ sym (end_after-append a.last t.1 u.1);
  request = g.request ∙ f.request;
  closed = g.closed ∙ f.closed;
}

-- one byte more of a piece
pub took-more : (a b c : NTriplesReader) (o1 o2 o3 : List RdfTriple) (x : List ℕ) (n : ℕ) → n < length x
    → Advances a b o1 o2 (steps (ntriples a.request) (led_of a) (take n x)) → Advances b c o2 o3 ((ntriples b.request).step (led_of b) (get_or x n 0))
    → Advances a c o1 o3 (steps (ntriples a.request) (led_of a) (take (n + 1) x))
took-more a b c o1 o2 o3 x n h f g =
    let t : Led × List Statement = steps (ntriples a.request) (led_of a) (take n x) in
    let g' : Advances b c o2 o3 ((ntriples a.request).step t.0 (get_or x n 0)) =
    subst (λ (r : ℕ). Advances b c o2 o3 ((ntriples r).step t.0 (get_or x n 0))) f.request
    (subst (λ (s : Led). Advances b c o2 o3 ((ntriples b.request).step s (get_or x n 0))) f.led g) in
    subst (Advances a c o1 o3) (sym (steps-snoc (ntriples a.request) (led_of a) x n 0 h))
    (took-then a b c o1 o2 o3 t ((ntriples a.request).step t.0 (get_or x n 0)) f g')

-- some bytes more of a piece
pub took-on : (a b c : NTriplesReader) (o1 o2 o3 : List RdfTriple) (x : List ℕ) (n k : ℕ)
    → Advances a b o1 o2 (steps (ntriples a.request) (led_of a) (take n x)) → Advances b c o2 o3 (steps (ntriples b.request) (led_of b) (take k (drop n x)))
    → Advances a c o1 o3 (steps (ntriples a.request) (led_of a) (take (n + k) x))
took-on a b c o1 o2 o3 x n k f g =
    let t : Led × List Statement = steps (ntriples a.request) (led_of a) (take n x) in
    let y = take k (drop n x) in
    let g' : Advances b c o2 o3 (steps (ntriples a.request) t.0 y) =
    subst (λ (r : ℕ). Advances b c o2 o3 (steps (ntriples r) t.0 y)) f.request
    (subst (λ (s : Led). Advances b c o2 o3 (steps (ntriples b.request) s y)) f.led g) in
    subst (Advances a c o1 o3) (sym (ap (steps (ntriples a.request) (led_of a)) (take-add n k x) ∙ steps-append (ntriples a.request) (led_of a) (take n x) y))
    (took-then a b c o1 o2 o3 t (steps (ntriples a.request) t.0 y) f g')

-- some bytes of a piece after none of it
pub took-after : (a b c : NTriplesReader) (o1 o2 o3 : List RdfTriple) (x : List ℕ) (n k : ℕ) → n ≡ 0
    → Advances a b o1 o2 (steps (ntriples a.request) (led_of a) (take n x)) → Advances b c o2 o3 (steps (ntriples b.request) (led_of b) (take k x))
    → Advances a c o1 o3 (steps (ntriples a.request) (led_of a) (take k x))
took-after a b c o1 o2 o3 x n k e f g =
    let at : ℕ → Led × List Statement = λ z. steps (ntriples a.request) (led_of a) (take z x) in
    let none : 0 + k ≡ k = omega arith in
    subst (λ (z : ℕ). Advances a c o1 o3 (at z)) none (took-on a b c o1 o2 o3 x 0 k (subst (λ (z : ℕ). Advances a b o1 o2 (at z)) e f) g)

-- none of a piece gives nothing
pub took-nothing : (a b : NTriplesReader) (ts us : List RdfTriple) (x : List ℕ) (n : ℕ) → n ≡ 0 → Advances a b ts us (steps (ntriples a.request) (led_of a) (take n x)) → us ≡ ts
took-nothing a b ts us x n e h =
    h.given
    ∙ ap (λ (k : ℕ). ts ++ all_stated (steps (ntriples a.request) (led_of a) (take k x)).1) e
    ∙ ap (λ (t : Led × List Statement). ts ++ all_stated t.1) (steps-nil (ntriples a.request) (led_of a))
    ∙ append-nil ts

-- the fault of a state is that of what was given
pub fault-after : (e : Refusal) (a b : NTriplesReader) (o1 o2 : List RdfTriple) (s : LineState) (t : Led × List Statement) → Advances a b o1 o2 t → s ≡ (led_of b).1.1.0 → FaultsAs e b.last s → FaultyAfter e a.last t
fault-after e a b o1 o2 s t h q f = inr (record {
  fault = f.fault;
  is = sym (ap (λ (l : Led). l.1.1.0) h.led) ∙ sym q ∙ f.is;
  refusal = f.refusal ∙ ap (λ n. refusal_after n f.fault) h.last;
})

-- the text ends where the decoder is within a character
pub unready : (r : ℕ) (d : Decoding) (p : ℕ × (LineState × Numbers)) → is_ready_of d ≡ false → (d ≡ Lost → ⊥)
    → rest (ntriples r) (d, p) [] ≡ joined ((placing r).step p bad).1 (rest (placing r) ((placing r).step p bad).0 [])
unfolding rest composed
unready r Ready p h n = absurd (Prim.cc)
unready r (Within k v l g) p h n = refl
unready r Lost p h n = absurd (n refl)

-- what the end of a text concludes
pub concluded : (e : Refusal) (last n : ℕ) (end : Ending) (t : Meaning) → t.1 ≡ end → n ≡ end_after last t.0 → ConcludesAs e n end → FaultyEnd e last t
concluded e last n end t p q f = inr (record { fault = f.fault; is = p ∙ f.is; refusal = f.refusal ∙ ap (λ k. refusal_after k f.fault) q })

-- a text that ends where nothing more is read
pub broken-end : (e : Refusal) (a : NTriplesReader) → FaultsAs e a.last (cursor_state a.cursor) → FaultyEnd e a.last (rest (ntriples a.request) (led_of a) [])
broken-end e a f =
    let r : rest (ntriples a.request) (led_of a) [] ≡ ([], Faulty f.fault) =
    ap (λ (q : LineState). rest (ntriples a.request) (a.decoder, (a.read, (q, a.numbering))) []) f.is ∙ says_nothing a.request a.decoder a.read f.fault a.numbering [] in
    inr (record { fault = f.fault; is = ap (λ (s : Meaning). s.1) r; refusal = f.refusal ∙ ap (λ (s : Meaning). refusal_after (end_after a.last s.0) f.fault) (sym r) })

-- a text that ends within a character
pub bad-end : (e : Refusal) (a b : NTriplesReader) (ts us : List RdfTriple) (u : Placed × List Statement) → Advances a b ts us ((a.decoder, u.0), u.1) → FaultsAs e b.last (cursor_state b.cursor)
    → FaultyEnd e a.last (joined u.1 (rest (placing a.request) u.0 []))
bad-end e a b ts us u h f =
    let q : u.0.1.0 ≡ broken f.fault = sym (ap (λ (l : Led). l.1.1.0) h.led) ∙ f.is in
    let r : rest (placing a.request) u.0 [] ≡ ([], Faulty f.fault) = ap (λ (q : LineState). rest (placing a.request) (u.0.0, (q, u.0.1.1)) []) q ∙ placing_broken a.request u.0.0 f.fault u.0.1.1 in
    inr (record {
      fault = f.fault;
      is = ap (λ (s : Meaning). s.1) r;
      refusal = f.refusal ∙ ap (λ n. refusal_after n f.fault) (h.last ∙ ap (end_after a.last) (sym (append-nil u.1)) ∙ ap (λ (s : Meaning). end_after a.last (u.1 ++ s.0)) (sym r));
    })

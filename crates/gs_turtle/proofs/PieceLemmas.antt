-- Portions one after another.
use Rattle.std.proofs.Common.{◌≡◌, ℕ, List, [], ◌++◌, sym, ap, subst, ◌∙◌, take, drop, append_assoc, append-nil}
use Rattle.std.proofs.lemmas.List.{take-append-drop}
use Rattle.gs_model.specs.Triples.{RdfTriple}
use Rattle.gs_model.specs.declared.refusals.Refusal.{Refusal}
use Rattle.gs_machine.specs.Machines.{AreSettled, Begins}
use Rattle.gs_machine.specs.Utf8.{IsLongestFront}
use Rattle.gs_body.specs.Bodies.{Meaning, Reports, all_stated}
use Rattle.gs_body.specs.Feeding.{Feeds}
use Rattle.gs_turtle.specs.Readers.{IsLedBy, meaning_for, KeepsReader, PieceLeadsOn, Reads, IsRefused}
use Rattle.gs_turtle.specs.declared.readers.TurtleReader.{TurtleReader}
use Rattle.gs_turtle.proofs.SaidLemmas.{begun}
use Rattle.gs_turtle.proofs.HistoryLemmas.{meaning_of-same, keeps-then}

-- a piece is cut in two
pub halves : (x front back : List ℕ) (n : ℕ) → front ≡ take n x → back ≡ drop n x → x ≡ front ++ back
halves x front back n p q = sym (take-append-drop n x) ∙ ap (λ z. z ++ drop n x) (sym p) ∙ ap (λ z. front ++ z) (sym q)

-- a front of a piece was read
pub record Walks (old new : TurtleReader) (piece later : List ℕ) (before after : List RdfTriple) : Type 0 where
  pub front : List ℕ
  pub parts : piece ≡ front ++ later
  pub goes : PieceLeadsOn old new front before after
  pub kept : KeepsReader old new

-- one piece after another
abbrev goes-then : (a b c : TurtleReader) (p q : List ℕ) (o1 o2 o3 : List RdfTriple) → PieceLeadsOn a b p o1 o2 → PieceLeadsOn b c q o2 o3 → PieceLeadsOn a c (p ++ q) o1 o3
goes-then a b c p q o1 o2 o3 g h = record {
  given = g.given ++ h.given;
  grown = h.grown ∙ ap (λ z. z ++ h.given) g.grown ∙ append_assoc o1 g.given h.given;
  leads = λ x ts l. subst (λ z. IsLedBy c z (ts ++ (g.given ++ h.given))) (append_assoc x p q)
      (subst (IsLedBy c ((x ++ p) ++ q)) (append_assoc ts g.given h.given) (h.leads (x ++ p) (ts ++ g.given) (g.leads x ts l)));
}

-- one portion more
pub walks-more : (a b c : TurtleReader) (piece rest portion later : List ℕ) (o1 o2 o3 : List RdfTriple) → Walks a b piece rest o1 o2 → rest ≡ portion ++ later → Reads b c portion o2 o3 → KeepsReader b c
    → Walks a c piece later o1 o3
walks-more a b c piece rest portion later o1 o2 o3 w e r k = record {
  front = w.front ++ portion;
  parts = w.parts ∙ ap (λ z. w.front ++ z) e ∙ sym (append_assoc w.front portion later);
  goes = goes-then a b c w.front portion o1 o2 o3 w.goes r.goes;
  kept = keeps-then a b c w.kept k;
}

-- the last portion
reads-then : (a b c : TurtleReader) (p q : List ℕ) (o1 o2 o3 : List RdfTriple) → KeepsReader a b → PieceLeadsOn a b p o1 o2 → Reads b c q o2 o3 → Reads a c (p ++ q) o1 o3
reads-then a b c p q o1 o2 o3 k g r = record {
  goes = goes-then a b c p q o1 o2 o3 g r.goes;
  settled = λ x ts l front u.
      let i : IsLongestFront ((x ++ p) ++ q) front = subst (λ z. IsLongestFront z front) (sym (append_assoc x p q)) u in
      let s : AreSettled (λ z. all_stated (meaning_for a z).0) front ((ts ++ g.given) ++ r.goes.given) =
      subst (λ (f : List ℕ → List RdfTriple). AreSettled f front ((ts ++ g.given) ++ r.goes.given)) (λ j z. all_stated (meaning_of-same a b k z j).0)
      (r.settled (x ++ p) (ts ++ g.given) (g.leads x ts l) front i) in
      subst (AreSettled (λ y. all_stated (meaning_for a y).0) front) (append_assoc ts g.given r.goes.given) s;
}

-- all of a piece was read
pub walks-end : (a b c : TurtleReader) (piece rest : List ℕ) (o1 o2 o3 : List RdfTriple) → Walks a b piece rest o1 o2 → Reads b c rest o2 o3 → Reads a c piece o1 o3
walks-end a b c piece rest o1 o2 o3 w r = subst (λ z. Reads a c z o1 o3) (sym w.parts) (reads-then a b c w.front rest o1 o2 o3 w.kept w.goes r)

-- a text in five parts
parted : (x f p b y : List ℕ) → (((x ++ f) ++ p) ++ (b ++ y)) ≡ ((x ++ (f ++ (p ++ b))) ++ y)
parted x f p b y = simp append_assoc

-- a portion is refused, and so is the piece
pub walks-refused : (e : Refusal) (a b : TurtleReader) (piece rest portion later : List ℕ) (o1 o2 : List RdfTriple) → Walks a b piece rest o1 o2 → rest ≡ portion ++ later → IsRefused b portion e
    → IsRefused a piece e
walks-refused e a b piece rest portion later o1 o2 w p h = λ x ts l y.
    let all : ((x ++ w.front) ++ portion) ++ (later ++ y) ≡ (x ++ piece) ++ y =
    parted x w.front portion later y ∙ ap (λ z. (x ++ z) ++ y) (sym (w.parts ∙ ap (λ z. w.front ++ z) p)) in
    subst (λ z. Reports e (meaning_for a z)) all
    (subst (Reports e) (meaning_of-same a b w.kept (((x ++ w.front) ++ portion) ++ (later ++ y))) (h (x ++ w.front) (ts ++ w.goes.given) (w.goes.leads x ts l) (later ++ y)))

-- so is it at its last portion
pub walks-last-refused : (e : Refusal) (a b : TurtleReader) (piece rest : List ℕ) (o1 o2 : List RdfTriple) → Walks a b piece rest o1 o2 → IsRefused b rest e → IsRefused a piece e
walks-last-refused e a b piece rest o1 o2 w h = walks-refused e a b piece rest rest [] o1 o2 w (sym (append-nil rest)) h

-- a piece was read
pub feeds : (a b : TurtleReader) (piece : List ℕ) (o1 o2 : List RdfTriple) → Reads a b piece o1 o2 → KeepsReader a b → Feeds meaning_for IsLedBy a b piece o1 o2
feeds a b piece o1 o2 r k = record {
  given = r.goes.given;
  grown = r.goes.grown;
  leads = r.goes.leads;
  begun = λ x ts l y. subst (λ (s : Meaning). Begins (all_stated s.0) (ts ++ r.goes.given)) (meaning_of-same a b k ((x ++ piece) ++ y)) (begun b (x ++ piece) (ts ++ r.goes.given) (r.goes.leads x ts l) y);
  settled = r.settled;
}

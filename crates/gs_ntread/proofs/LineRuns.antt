-- What a statement that stands whole does to the machine.
use Rattle.std.proofs.Common.{◌≡◌, ℕ, ◌+◌, ◌<◌, ◌≤◌, ◌^◌, ◌-◌, true, false, cond, List, [], ◌∷◌, ◌++◌, length, take, drop, get_or, refl, sym, ap, subst, ◌∙◌, arith, append_assoc, append-nil, length-drop}
use Rattle.std.specs.Prelude.{◌==◌, nat_lt}
use Rattle.std.specs.Char.{encode_utf8}
use Rattle.std.specs.List.{list_all}
use Rattle.std.proofs.lemmas.List.{take_more, length-take-le}
use Rattle.std.proofs.lemmas.Bool.Decides.{nat_tests}
use Rattle.std.proofs.str.Laws.{one}
use Rattle.std.proofs.Math.Seq.{take-add}
use Rattle.gs_model.specs.Triples.{is_iri}
use Rattle.gs_model.specs.Texts.{term_of, IsCanonical}
use Rattle.gs_model.specs.declared.faults.Fault.TheVariants.{Syntax}
use Rattle.gs_machine.specs.Machines.{steps}
use Rattle.gs_machine.specs.Utf8.{Ready}
use Rattle.gs_machine.proofs.MachineLemmas.{steps-append}
use Rattle.gs_body.specs.Bodies.{Statement}
use Rattle.gs_blank.specs.Numbers.{Numbers}
use Rattle.gs_ntterm.specs.Marks.{counted}
use Rattle.gs_ntterm.specs.Classes.{is_space, begins_label, is_label_char}
use Rattle.gs_ntterm.specs.LineTerms.{Labelled}
use Rattle.gs_ntterm.specs.Wholes.{IriFront, LabelFront}
use Rattle.gs_ntterm.proofs.RunLemmas.{low_space}
use Rattle.gs_ntterm.proofs.WholeLemmas.{iri_canonical, is_iri_front}
use Rattle.gs_ntread.specs.LineTriples.{LineTriple}
use Rattle.gs_ntread.specs.Documents.{line_stated}
use Rattle.gs_ntread.specs.States.{LineState, Stage, AtSubject, AtPredicate, AtObject, AtDot, AtEnd, Between, Underscore, Colon, InLabel, InDots, broken, no_triple}
use Rattle.gs_ntread.specs.Transitions.{transition, label_transition}
use Rattle.gs_ntread.specs.Reader.{Led, ntriples}
use Rattle.gs_ntread.specs.Runs.{RunsTo, stays, goes}
use Rattle.gs_ntread.specs.Wholes.{EndsIn, IsObjectToken}
use Rattle.gs_ntread.specs.LineFronts.{SubjectFront, LineFront, written_term, line_triple, AreBegun, begun_state}
use Rattle.gs_ntread.specs.declared.lines.Written.{Written}
use Rattle.gs_ntread.specs.declared.lines.Line.{Line}
use Rattle.gs_ntread.proofs.RunLemmas.{space_runs, space_goes, label_runs, ran}
use Rattle.gs_ntread.proofs.WholeRuns.{runs_then, iri_predicate, awaits_at_dot, ended}

-- some bytes more of a piece
pub runs_more : (q r s : LineState) (x : List ℕ) (i j : ℕ) → RunsTo q (take i x) r → RunsTo r (take j (drop i x)) s → RunsTo q (take (i + j) x) s
runs_more q r s x i j f g = subst (λ (bs : List ℕ). RunsTo q bs s) (sym (take-add i j x)) (runs_then q r s (take i x) (take j (drop i x)) f g)

-- the same, which complete a triple
pub ends_more : (q r s : LineState) (x : List ℕ) (i j n : ℕ) (t : LineTriple) → RunsTo q (take i x) r → EndsIn r (take j (drop i x)) n s t → EndsIn q (take (i + j) x) n s t
ends_more q r s x i j n t f g = record {
  front = take i x ++ g.front;
  last = g.last;
  parts = take-add i j x ∙ ap (λ z. take i x ++ z) g.parts ∙ sym (append_assoc (take i x) g.front (g.last ∷ []));
  before = g.before;
  run = runs_then q r g.before (take i x) g.front f g.run;
  small = g.small;
  completes = g.completes;
  ends = g.ends;
}

-- a blank after a label
no_label_char : (b : ℕ) → is_space b ≡ true → is_label_char b ≡ false
no_label_char b e = grind (arith, nat_tests)

-- it is no dot
no_dot : (b : ℕ) → is_space b ≡ true → (b == 46) ≡ false
no_dot b e = grind (arith, nat_tests)

-- so it ends the label
label_space : (g : Stage) (l : List ℕ) (b n : ℕ) → is_space b ≡ true → transition g (InLabel l) b n ≡ label_transition g l b n
label_space g l b n e =
    ap (λ v. cond v (no_triple (g, InLabel (l ++ encode_utf8 b))) (cond (b == 46) (no_triple (g, InDots l n 0)) (label_transition g l b n))) (no_label_char b e)
    ∙ ap (λ v. cond v (no_triple (g, InDots l n 0)) (label_transition g l b n)) (no_dot b e)

-- a label after its mark
label_first : (g : Stage) (b n : ℕ) → b < 128 → begins_label b ≡ true → transition g Colon b n ≡ no_triple (g, InLabel (b ∷ []))
label_first g b n l e =
    ap (λ v. cond v (no_triple (g, InLabel (encode_utf8 b))) (no_triple (broken Syntax))) e ∙ ap (λ z. no_triple (g, InLabel z)) (one b l)

-- the mark and the label
label_opens : (g : Stage) → ((n : ℕ) → transition g Between 95 n ≡ no_triple (g, Underscore)) → (x l : List ℕ) → LabelFront x l → RunsTo (g, Between) (take (length l + 2) x) (g, InLabel l)
label_opens g opens x l f =
    let small : nat_lt f.first 128 ≡ true = f.small in
    let low : f.first < 128 = grind (arith, nat_tests) in
    subst (λ (bs : List ℕ). RunsTo (g, Between) bs (g, InLabel l)) (sym f.stands)
    (goes (g, Between) (g, Underscore) (g, InLabel l) 95 (58 ∷ l) (omega arith) opens
    (goes (g, Underscore) (g, Colon) (g, InLabel l) 58 l (omega arith) (λ n. refl)
    (subst (λ (z : List ℕ). RunsTo (g, Colon) z (g, InLabel z)) (sym f.is)
    (goes (g, Colon) (g, InLabel (f.first ∷ [])) (g, InLabel (f.first ∷ f.more)) f.first f.more low (λ n. label_first g f.first n low f.begins)
    (label_runs g (f.first ∷ []) f.more f.plain)))))

-- a label with the blank after it
label_whole : (g : Stage) (s : LineState) → ((n : ℕ) → transition g Between 95 n ≡ no_triple (g, Underscore)) → (x l : List ℕ) → LabelFront x l
    → ((b n : ℕ) → is_space b ≡ true → label_transition g l b n ≡ no_triple s) → RunsTo (g, Between) (take (length l + 3) x) s
label_whole g s opens x l f closes =
    let n = length l + 2 in
    let b = get_or x n 0 in
    let k : length l + 3 ≡ n + 1 = omega arith in
    subst (λ (bs : List ℕ). RunsTo (g, Between) bs s) (sym (ap (λ m. take m x) k ∙ take_more x n 0 f.within))
    (runs_then (g, Between) (g, InLabel l) s (take n x) (b ∷ []) (label_opens g opens x l f)
    (goes (g, InLabel l) s s b [] (low_space b f.blank) (λ m. label_space g l b m f.blank ∙ closes b m f.blank) (stays s)))

-- as a subject
pub label_subject : (x l : List ℕ) → LabelFront x l → RunsTo (AtSubject, Between) (take (length l + 3) x) (AtPredicate (Labelled l), Between)
label_subject x l f = label_whole AtSubject (AtPredicate (Labelled l), Between) (λ n. refl) x l f (λ b n e. space_goes (AtPredicate (Labelled l)) b n e)

-- as an object
pub label_object : (x l : List ℕ) → LabelFront x l → IsObjectToken x (length l + 3) (Labelled l)
label_object x l f = record {
  within = omega (arith, f.within);
  after = λ s p. (AtDot s p (Labelled l), Between);
  run = λ s p. label_whole (AtObject s p) (AtDot s p (Labelled l), Between) (λ n. refl) x l f (λ b n e. space_goes (AtDot s p (Labelled l)) b n e);
  awaits = λ s p bs e. awaits_at_dot s p (Labelled l) bs e;
}

-- an IRI's text is an IRI's
pub iri_kind : (x : List ℕ) (n : ℕ) → IriFront x n → is_iri (term_of (take n x)) ≡ true
iri_kind x n f = ap is_iri (is_iri_front x n (term_of (take n x)) f refl).term

-- a subject, blanks, a predicate of this text, and blanks
module _ (x : List ℕ) (w : Written) (a i n j : ℕ) (p : List ℕ) (front : SubjectFront x w a) (blanks : list_all is_space (take i (drop a x)) ≡ true) (iri : IriFront (drop (a + i) x) n)
    (is : p ≡ take n (drop (a + i) x)) (more : list_all is_space (take j (drop (a + i + n) x)) ≡ true) where
  -- their texts are those of terms, of the kinds of a triple
  pub are_begun : AreBegun w p
  are_begun = record {
    subject_text = front.is;
    subject_kind = front.kind;
    predicate_text = subst (λ (z : List ℕ). IsCanonical z) (sym is) (iri_canonical (drop (a + i) x) n iri);
    predicate_kind = ap (λ z. is_iri (term_of z)) is ∙ iri_kind (drop (a + i) x) n iri;
  }

  -- they lead to where an object comes
  pub begun_run : RunsTo (AtSubject, Between) (take (a + i + n + j) x) (begun_state w p)
  begun_run =
      let s = written_term w in
      let t = term_of p in
      let start : LineState = (AtSubject, Between) in
      let one : RunsTo start (take (a + i) x) (AtPredicate s, Between) = runs_more start (AtPredicate s, Between) (AtPredicate s, Between) x a i front.run (space_runs (AtPredicate s) (take i (drop a x)) blanks) in
      let two : RunsTo start (take (a + i + n) x) (AtObject s t, Between) =
      runs_more start (AtPredicate s, Between) (AtObject s t, Between) x (a + i) n one (iri_predicate s (drop (a + i) x) n t (is_iri_front (drop (a + i) x) n t iri (ap term_of is))) in
      runs_more start (AtObject s t, Between) (AtObject s t, Between) x (a + i + n) j two (space_runs (AtObject s t) (take j (drop (a + i + n) x)) more)

-- a line with its line feed
pub line_taken : (r n : ℕ) (q : LineState) (ns : Numbers) (x : List ℕ) (l : Line) (feed : ℕ) → LineFront x l → RunsTo (AtEnd, Between) (take feed (drop l.len x)) q → l.len + feed ≤ length x → n ≤ 2 ^ 64 - 1
    → steps (ntriples r) (Ready, (n, ((AtSubject, Between), ns))) (take (l.len + feed) x)
    ≡ ((Ready, (counted (counted (n + l.len) + feed), (q, (line_stated r ns (line_triple l (counted (n + l.len)))).0))), (line_stated r ns (line_triple l (counted (n + l.len)))).1)
line_taken r n q ns x l feed f run within h =
    let start : LineState = (AtSubject, Between) in
    let s : Led = (Ready, (n, (start, ns))) in
    let xs = take l.len x in
    let ys = take feed (drop l.len x) in
    let end = counted (n + l.len) in
    let w = line_triple l end in
    let u = line_stated r ns w in
    let k : end ≡ counted (n + length xs) = ap (λ z. counted (n + z)) (sym (length-take-le l.len x f.within)) in
    let first : steps (ntriples r) s xs ≡ ((Ready, (end, ((AtEnd, Between), u.0))), u.1) =
    ended r n start (AtEnd, Between) ns xs w (subst (λ (z : ℕ). EndsIn start xs z (AtEnd, Between) w) k (f.ends end)) h ∙ ap (λ z. ((Ready, (z, ((AtEnd, Between), u.0))), u.1)) (sym k) in
    let size : length ys ≡ feed = length-take-le feed (drop l.len x) (omega (arith, within, length-drop l.len x)) in
    let second : steps (ntriples r) (Ready, (end, ((AtEnd, Between), u.0))) ys ≡ ((Ready, (counted (end + feed), (q, u.0))), []) =
    ran r end (AtEnd, Between) q u.0 ys run (omega arith) ∙ ap (λ z. ((Ready, (counted (end + z), (q, u.0))), [])) size in
    ap (steps (ntriples r) s) (take-add l.len feed x)
    ∙ steps-append (ntriples r) s xs ys
    ∙ ap (λ (v : Led × List Statement). ((steps (ntriples r) v.0 ys).0, v.1 ++ (steps (ntriples r) v.0 ys).1)) first
    ∙ ap (λ (v : Led × List Statement). (v.0, u.1 ++ v.1)) second
    ∙ ap (λ z. ((Ready, (counted (end + feed), (q, u.0))), z)) (append-nil u.1)

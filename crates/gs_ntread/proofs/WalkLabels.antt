-- What is said within a label is what its production says, which takes the dots that the label goes on after.
use Rattle.std.proofs.Common.{◌≡◌, ℕ, zero, suc, add-one, Bool, true, false, cond, List, [], ◌∷◌, ◌++◌, refl, sym, ap, ◌∙◌, append_assoc, append-nil, arith}
use Rattle.std.proofs.lemmas.Bool.{eqb-true}
use Rattle.std.proofs.lemmas.Bool.Decides.{nat_tests}
use Rattle.std.specs.Prelude.{◌==◌, ◌&&◌, ◌||◌}
use Rattle.std.specs.Char.{encode_utf8}
use Rattle.gs_machine.specs.Machines.{joined, rest}
use Rattle.gs_model.specs.declared.faults.Fault.TheVariants.{Syntax}
use Rattle.gs_body.specs.Bodies.{Whole, Faulty}
use Rattle.gs_ntterm.specs.Marks.{Mark}
use Rattle.gs_ntterm.specs.Classes.{is_label_char, begins_label}
use Rattle.gs_ntterm.specs.LineTerms.{Labelled}
use Rattle.gs_ntterm.specs.Terminals.{label_goes_on, label_after, label_at}
use Rattle.gs_ntterm.specs.Labels.{add_dots}
use Rattle.gs_ntterm.proofs.Branches.{two_ways, by_test, by_test_knowing, one_way}
use Rattle.gs_ntread.specs.Documents.{Meant}
use Rattle.gs_ntread.specs.States.{Stage, AtSubject, AtPredicate, AtObject, AtSuffix, AtDatatype, AtDot, AtEnd, Between, Underscore, Colon, InLabel, InDots, LineState, broken, sentence}
use Rattle.gs_ntread.specs.Lines.{end_state}
use Rattle.gs_ntread.specs.Transitions.{label_transition, dotted_transition, transition}
use Rattle.gs_ntread.specs.Machine.{dots_end, end_of_text}
use Rattle.gs_ntread.proofs.WalkTokens.{reported, follow, Stops, at_nothing, at_feed, at_return, walk_broken, after}

-- where a label leads
abbrev pub label_closed : Stage → List ℕ → LineState
label_closed AtSubject t = (AtPredicate (Labelled t), Between)
label_closed (AtObject s p) t = (AtDot s p (Labelled t), Between)
label_closed (AtPredicate s) t = broken Syntax
label_closed (AtSuffix s p l) t = broken Syntax
label_closed (AtDatatype s p l) t = broken Syntax
label_closed (AtDot s p o) t = broken Syntax
label_closed AtEnd t = broken Syntax

-- the character after a label
pub closed_step : (g : Stage) (t : List ℕ) (c n : ℕ) → label_transition g t c n ≡ transition (label_closed g t).0 (label_closed g t).1 c n
closed_step AtSubject t c n = refl
closed_step (AtObject s p) t c n = refl
closed_step (AtPredicate s) t c n = refl
closed_step (AtSuffix s p l) t c n = refl
closed_step (AtDatatype s p l) t c n = refl
closed_step (AtDot s p o) t c n = refl
closed_step AtEnd t c n = refl

-- the end of the text after a label
closed_end : (g : Stage) (t : List ℕ) → end_of_text g (InLabel t) ≡ end_of_text (label_closed g t).0 (label_closed g t).1
closed_end AtSubject t = refl
closed_end (AtObject s p) t = refl
closed_end (AtPredicate s) t = refl
closed_end (AtSuffix s p l) t = refl
closed_end (AtDatatype s p l) t = refl
closed_end (AtDot s p o) t = refl
closed_end AtEnd t = refl

-- so many dots after the first
pub data Dots : ℕ → List Mark → Type 0 where
  one : Dots zero []
  many : {j : ℕ} (k : ℕ) (es : List Mark) → Dots (suc j) ((46, k) ∷ es)

dots_more : {more : ℕ} {ds : List Mark} → Dots more ds → (k : ℕ) → Dots (suc more) (ds ++ (46, k) ∷ [])
dots_more one k = many k []
dots_more (many k0 es) k = many k0 (es ++ (46, k) ∷ [])

-- a character after dots that are not the label's
dotted_step : (g : Stage) (t : List ℕ) (n more c k : ℕ) (x ds : List Mark) → Dots more ds
    → follow (dotted_transition g t n more c) x ≡ reported (label_closed g t) ((46, n) ∷ (ds ++ (c, k) ∷ x))
unfolding rest
dotted_step AtSubject t n more c k x ds d = walk_broken Syntax x ∙ sym (walk_broken Syntax (ds ++ (c, k) ∷ x))
dotted_step (AtObject s p) t n more c k x ds d = ap (joined (sentence s p (Labelled t) n ∷ [])) (after_all more ds d)
  where
    after_all : (more : ℕ) (ds : List Mark) → Dots more ds → reported (cond (more == 0) (end_state c) (broken Syntax)) x ≡ reported (AtEnd, Between) (ds ++ (c, k) ∷ x)
    after_all _ _ one = refl
    after_all _ _ (many {j} k0 es) = let e : (suc j == 0) ≡ false = grind (arith, nat_tests) in
        rw e (walk_broken Syntax x ∙ sym (walk_broken Syntax (es ++ (c, k) ∷ x)))
dotted_step (AtPredicate s) t n more c k x ds d = walk_broken Syntax x ∙ sym (walk_broken Syntax (ds ++ (c, k) ∷ x))
dotted_step (AtSuffix s p l) t n more c k x ds d = walk_broken Syntax x ∙ sym (walk_broken Syntax (ds ++ (c, k) ∷ x))
dotted_step (AtDatatype s p l) t n more c k x ds d = walk_broken Syntax x ∙ sym (walk_broken Syntax (ds ++ (c, k) ∷ x))
dotted_step (AtDot s p o) t n more c k x ds d = walk_broken Syntax x ∙ sym (walk_broken Syntax (ds ++ (c, k) ∷ x))
dotted_step AtEnd t n more c k x ds d = walk_broken Syntax x ∙ sym (walk_broken Syntax (ds ++ (c, k) ∷ x))

-- the text ends after such dots
dotted_ended : (g : Stage) (t : List ℕ) (n more : ℕ) (ds : List Mark) → Dots more ds → dots_end g t n more ≡ reported (label_closed g t) ((46, n) ∷ (ds ++ []))
unfolding rest
dotted_ended AtSubject t n more ds d = sym (walk_broken Syntax (ds ++ []))
dotted_ended (AtObject s p) t n more ds d = ap (joined (sentence s p (Labelled t) n ∷ [])) (after_all more ds d)
  where
    after_all : (more : ℕ) (ds : List Mark) → Dots more ds → ([], cond (more == 0) Whole (Faulty Syntax)) ≡ reported (AtEnd, Between) (ds ++ [])
    after_all _ _ one = refl
    after_all _ _ (many {j} k0 es) = let e : (suc j == 0) ≡ false = grind (arith, nat_tests) in
        rw e (sym (walk_broken Syntax (es ++ [])))
dotted_ended (AtPredicate s) t n more ds d = sym (walk_broken Syntax (ds ++ []))
dotted_ended (AtSuffix s p l) t n more ds d = sym (walk_broken Syntax (ds ++ []))
dotted_ended (AtDatatype s p l) t n more ds d = sym (walk_broken Syntax (ds ++ []))
dotted_ended (AtDot s p o) t n more ds d = sym (walk_broken Syntax (ds ++ []))
dotted_ended AtEnd t n more ds d = sym (walk_broken Syntax (ds ++ []))

-- after a label
abbrev pub after_label : Stage → List Mark → List ℕ → List ℕ × List Mark → Meant
after_label g tail t u = reported (label_closed g (t ++ u.0)) (u.1 ++ tail)

-- after dots: they belong to the label, or the label ends before them
abbrev pub after_dotted : Stage → List Mark → List ℕ → List ℕ → ℕ → List Mark → List ℕ × List Mark → List Mark → Bool → Meant
after_dotted g tail t w n ds u x true = after_label g tail w u
after_dotted g tail t w n ds u x false = reported (label_closed g t) ((46, n) ∷ (ds ++ x))

abbrev pub label_more : Mark → List Mark → List ℕ × List Mark
label_more m ms = (encode_utf8 m.0 ++ (label_after ms).0, (label_after ms).1)

first_dot : (g : Stage) (tail : List Mark) (t : List ℕ) (m : Mark) (ms : List Mark) → m.0 ≡ 46 → (v : Bool)
    → after_dotted g tail t (t ++ encode_utf8 46) m.1 [] (label_after ms) (ms ++ tail) v ≡ after_label g tail t (cond v (label_more m ms) ([], m ∷ ms))
first_dot g tail t m ms e true =
    ap (λ z. reported (label_closed g z) ((label_after ms).1 ++ tail)) (append_assoc t (encode_utf8 46) (label_after ms).0 ∙ ap (λ (c : ℕ). t ++ (encode_utf8 c ++ (label_after ms).0)) (sym e))
first_dot g tail t m ms e false =
    ap (λ (c : ℕ). reported (label_closed g t) ((c, m.1) ∷ (ms ++ tail))) (sym e) ∙ ap (λ z. reported (label_closed g z) (m ∷ (ms ++ tail))) (sym (append-nil t))

one_dot : (g : Stage) (tail : List Mark) (t w : List ℕ) (n : ℕ) (ds : List Mark) (m : Mark) (ms : List Mark) → m.0 ≡ 46 → (v : Bool)
    → after_dotted g tail t (w ++ encode_utf8 46) n (ds ++ (46, m.1) ∷ []) (label_after ms) (ms ++ tail) v ≡ after_dotted g tail t w n ds (cond v (label_more m ms) ([], m ∷ ms)) (m ∷ (ms ++ tail)) v
one_dot g tail t w n ds m ms e true =
    ap (λ z. reported (label_closed g z) ((label_after ms).1 ++ tail)) (append_assoc w (encode_utf8 46) (label_after ms).0 ∙ ap (λ (c : ℕ). w ++ (encode_utf8 c ++ (label_after ms).0)) (sym e))
one_dot g tail t w n ds m ms e false =
    ap (λ z. reported (label_closed g t) ((46, n) ∷ z)) (append_assoc ds ((46, m.1) ∷ []) (ms ++ tail) ∙ ap (λ (c : ℕ). ds ++ (c, m.1) ∷ (ms ++ tail)) (sym e))

pub walk_label : (g : Stage) (line tail : List Mark) → Stops tail
    → ((t : List ℕ) → reported (g, InLabel t) (line ++ tail) ≡ after_label g tail t (label_after line))
    × ((t w : List ℕ) (n more : ℕ) (ds : List Mark) → Dots more ds → add_dots (t ++ encode_utf8 46) more ≡ w
    → reported (g, InDots t n more) (line ++ tail) ≡ after_dotted g tail t w n ds (label_after line) (line ++ tail) (label_goes_on line))
unfolding rest
walk_label g [] tail at_nothing = (
  λ t. closed_end g t ∙ ap (λ z. reported (label_closed g z) []) (sym (append-nil t)),
  λ t w n more ds d e. dotted_ended g t n more ds d,
)
walk_label g [] tail (at_feed k ms) = (
  λ t. ap (λ z. follow z ms) (closed_step g t 10 k) ∙ ap (λ z. reported (label_closed g z) ((10, k) ∷ ms)) (sym (append-nil t)),
  λ t w n more ds d e. dotted_step g t n more 10 k ms ds d,
)
walk_label g [] tail (at_return k ms) = (
  λ t. ap (λ z. follow z ms) (closed_step g t 13 k) ∙ ap (λ z. reported (label_closed g z) ((13, k) ∷ ms)) (sym (append-nil t)),
  λ t w n more ds d e. dotted_step g t n more 13 k ms ds d,
)
walk_label g (m ∷ ms) tail s = (
  λ t. by_test (λ z. follow z (ms ++ tail)) (λ v. after_label g tail t (cond (v || (m.0 == 46 && label_goes_on ms)) (label_more m ms) ([], m ∷ ms))) (is_label_char m.0) _ _
      ((walk_label g ms tail s).0 (t ++ encode_utf8 m.0) ∙ ap (λ z. reported (label_closed g z) ((label_after ms).1 ++ tail)) (append_assoc t (encode_utf8 m.0) (label_after ms).0))
      (by_test_knowing (λ z. follow z (ms ++ tail)) (λ v. after_label g tail t (cond (v && label_goes_on ms) (label_more m ms) ([], m ∷ ms))) (m.0 == 46) _ _
      (λ e. (walk_label g ms tail s).1 t (t ++ encode_utf8 46) m.1 zero [] one refl ∙ first_dot g tail t m ms (eqb-true m.0 46 e) (label_goes_on ms))
      (λ _. ap (λ z. follow z (ms ++ tail)) (closed_step g t m.0 m.1) ∙ ap (λ z. reported (label_closed g z) (m ∷ (ms ++ tail))) (sym (append-nil t)))),
  λ t w n more ds d e. by_test (λ z. follow z (ms ++ tail)) (λ v. after_dotted g tail t w n ds (cond (v || (m.0 == 46 && label_goes_on ms)) (label_more m ms) ([], m ∷ ms)) (m ∷ (ms ++ tail)) (cond v true (cond (m.0 == 46) (label_goes_on ms) false))) (is_label_char m.0) _ _
      (ap (λ h. reported (g, InLabel (h ++ encode_utf8 m.0)) (ms ++ tail)) e ∙ (walk_label g ms tail s).0 (w ++ encode_utf8 m.0) ∙ ap (λ z. reported (label_closed g z) ((label_after ms).1 ++ tail)) (append_assoc w (encode_utf8 m.0) (label_after ms).0))
      (by_test_knowing (λ z. follow z (ms ++ tail)) (λ v. after_dotted g tail t w n ds (cond (v && label_goes_on ms) (label_more m ms) ([], m ∷ ms)) (m ∷ (ms ++ tail)) (cond v (label_goes_on ms) false)) (m.0 == 46) _ _
      (λ h. ap (λ k. reported (g, InDots t n k) (ms ++ tail)) (add-one more)
      ∙ (walk_label g ms tail s).1 t (w ++ encode_utf8 46) n (suc more) (ds ++ (46, m.1) ∷ []) (dots_more d m.1) (ap (λ x. x ++ encode_utf8 46) e)
      ∙ one_dot g tail t w n ds m ms (eqb-true m.0 46 h) (label_goes_on ms))
      (λ _. dotted_step g t n more m.0 m.1 (ms ++ tail) ds d)),
)

-- after the underscore of a label
pub walk_underscore : (g : Stage) (line tail : List Mark) → Stops tail → reported (g, Underscore) (line ++ tail) ≡ after (label_closed g) tail [] (label_at line)
unfolding rest
walk_underscore g [] tail at_nothing = refl
walk_underscore g [] tail (at_feed n ms) = walk_broken Syntax ms
walk_underscore g [] tail (at_return n ms) = walk_broken Syntax ms
walk_underscore g (m ∷ []) tail s =
    one_way (λ z. follow z tail) ([], Faulty Syntax) (m.0 == 58) _ _ (colon tail s) (walk_broken Syntax tail)
  where
    colon : (tail : List Mark) → Stops tail → reported (g, Colon) tail ≡ ([], Faulty Syntax)
    colon tail at_nothing = refl
    colon tail (at_feed n ms) = walk_broken Syntax ms
    colon tail (at_return n ms) = walk_broken Syntax ms
walk_underscore g (m ∷ d ∷ ms) tail s =
    two_ways (λ z. follow z (d ∷ (ms ++ tail))) (after (label_closed g) tail []) (m.0 == 58) _ _ _ _
    (two_ways (λ z. follow z (ms ++ tail)) (after (label_closed g) tail []) (begins_label d.0) _ _ _ _
    ((walk_label g ms tail s).0 (encode_utf8 d.0))
    (walk_broken Syntax (ms ++ tail)))
    (walk_broken Syntax (d ∷ (ms ++ tail)))

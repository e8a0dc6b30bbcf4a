-- What is said of a document is what its lines mean.
use Rattle.std.proofs.Common.{◌≡◌, ℕ, Bool, true, false, cond, List, [], ◌∷◌, ◌++◌, refl, sym, ap, ◌∙◌, append_assoc, append-nil, subst, Result, Ok, Err}
use Rattle.std.specs.Prelude.{◌==◌, ◌||◌}
use Rattle.std.proofs.lemmas.Bool.{eqb-true}
use Rattle.gs_model.specs.Terms.{Term, Iri}
use Rattle.gs_machine.specs.Machines.{joined, rest}
use Rattle.gs_model.specs.declared.faults.Fault.{Fault}
use Rattle.gs_model.specs.declared.faults.Fault.TheVariants.{Syntax}
use Rattle.gs_body.specs.Bodies.{Ending, Whole, Faulty}
use Rattle.gs_ntterm.specs.Marks.{Mark}
use Rattle.gs_model.specs.Escapes.{is_line_end}
use Rattle.gs_ntterm.specs.Classes.{is_space, may_stand_in_comment}
use Rattle.gs_ntterm.specs.LineTerms.{LineTerm, Fixed, Labelled, iri_made}
use Rattle.gs_model.specs.Faults.{◌>>=◌}
use Rattle.gs_ntterm.specs.Terminals.{FrontRead, skip, Plain, iri_after, string_after, label_at}
use Rattle.gs_ntterm.proofs.Branches.{two_ways, by_test, by_test_knowing, otherwise}
use Rattle.gs_ntterm.proofs.Holding.{iri_held-hold}
use Rattle.gs_ntread.specs.LineTriples.{LineTriple}
use Rattle.gs_ntread.specs.Grammar.{fixed, iri_read, label_read, before_text, suffix_at, predicate_at, object_at, dot_at}
use Rattle.gs_ntread.specs.Documents.{Meant, comment_meant, rest_meant, triple_meant, line_meant, then_meant, lines_meant, document_meant}
use Rattle.gs_ntread.specs.States.{AtSubject, AtPredicate, AtObject, AtDot, AtEnd, Between, Comment, line_start, broken, sentence}
use Rattle.gs_ntread.specs.Lines.{predicate_next, object_next, dot_next, iri_closed, string_closed}
use Rattle.gs_ntread.specs.Machine.{reading}
use Rattle.gs_ntread.proofs.Keeping.{NoEnd, none, more, KeepsLine, keeps_made, keeps_iri, keeps_string, keeps_label, keeps_suffix, keeps_skip}
use Rattle.gs_ntread.proofs.WalkTokens.{reported, follow, Stops, at_nothing, at_feed, at_return, walk_broken, closes, after, walk_iri, walk_string}
use Rattle.gs_ntread.proofs.WalkLabels.{label_closed, walk_underscore}
use Rattle.gs_ntread.proofs.WalkLiterals.{literal_reported, walk_suffix}

-- what the lines after one mean
abbrev pub after_line : List Mark → Meant
after_line [] = ([], Whole)
after_line (m ∷ ms) = reported line_start ms

pub walk_comment : (line tail : List Mark) → NoEnd line → Stops tail → reported (AtSubject, Comment) (line ++ tail) ≡ then_meant ([], comment_meant line) (after_line tail)
unfolding rest
walk_comment [] tail n at_nothing = refl
walk_comment [] tail n (at_feed k ms) = refl
walk_comment [] tail n (at_return k ms) = refl
walk_comment (m ∷ ms) tail (more h n) s =
    otherwise (λ z. follow z (ms ++ tail)) _ (is_line_end m.0) _ _ h
    (two_ways (λ z. follow z (ms ++ tail)) (λ z. then_meant ([], z) (after_line tail)) (may_stand_in_comment m.0) _ _ _ _
    (walk_comment ms tail n s)
    (walk_broken Syntax (ms ++ tail)))

pub walk_end : (line tail : List Mark) → NoEnd line → Stops tail → reported (AtEnd, Between) (line ++ tail) ≡ then_meant ([], rest_meant line) (after_line tail)
unfolding rest
walk_end [] tail n at_nothing = refl
walk_end [] tail n (at_feed k ms) = refl
walk_end [] tail n (at_return k ms) = refl
walk_end (m ∷ ms) tail (more h n) s =
    two_ways (λ z. reported z (ms ++ tail)) (λ z. then_meant ([], z) (after_line tail)) (is_space m.0) _ _ _ _
    (walk_end ms tail n s)
    (otherwise (λ z. reported z (ms ++ tail)) _ (is_line_end m.0) _ _ h
    (two_ways (λ z. reported z (ms ++ tail)) (λ z. then_meant ([], z) (after_line tail)) (m.0 == 35) _ _ _ _
    (walk_comment ms tail n s)
    (walk_broken Syntax (ms ++ tail))))

then_joined : (ts : List LineTriple) (e : Ending) (r : Meant) → joined ts (then_meant ([], e) r) ≡ then_meant (ts, e) r
then_joined ts Whole r = refl
then_joined ts (Faulty e) r = ap (λ z. (z, Faulty e)) (append-nil ts)

-- what a line says of its triple, and the lines after it
abbrev pub meant : List Mark → FrontRead LineTriple → Meant
meant tail r = then_meant (triple_meant r) (after_line tail)

abbrev pub object_then : LineTerm → Term → LineTerm × List Mark → FrontRead LineTriple
object_then s p o = dot_at (skip o.1) >>= λ d. Ok (sentence s p o.0 d.0, d.1)

abbrev pub predicate_then : LineTerm → Term × List Mark → FrontRead LineTriple
predicate_then s p = object_at (skip p.1) >>= object_then s p.0

abbrev pub subject_then : LineTerm × List Mark → FrontRead LineTriple
subject_then s = predicate_at (skip s.1) >>= predicate_then s.0

pub walk_dot : (s : LineTerm) (p : Term) (o : LineTerm) (line tail : List Mark) → NoEnd line → Stops tail
    → reported (AtDot s p o, Between) (line ++ tail) ≡ meant tail (object_then s p (o, line))
unfolding rest
walk_dot s p o [] tail n at_nothing = refl
walk_dot s p o [] tail n (at_feed k ms) = walk_broken Syntax ms
walk_dot s p o [] tail n (at_return k ms) = walk_broken Syntax ms
walk_dot s p o (m ∷ ms) tail (more h n) t =
    by_test (λ z. follow z (ms ++ tail)) (λ v. meant tail (dot_at (cond v (skip ms) (m ∷ ms)) >>= λ d. Ok (sentence s p o d.0, d.1))) (is_space m.0) _ _
    (walk_dot s p o ms tail n t)
    (two_ways (λ z. follow z (ms ++ tail)) (λ z. meant tail (z >>= λ d. Ok (sentence s p o d.0, d.1))) (m.0 == 46) _ _ (Ok (m.1, ms)) (Err Syntax)
    (ap (joined (sentence s p o m.1 ∷ [])) (walk_end ms tail n t) ∙ then_joined (sentence s p o m.1 ∷ []) (rest_meant ms) (after_line tail))
    (walk_broken Syntax (ms ++ tail)))

-- a fault, and what is said of it
faulty : (e : Fault) (x tail : List Mark) → reported (broken e) x ≡ meant tail (Err e)
faulty e x tail = walk_broken e x

-- after an IRI that is an object
object_reported : (s : LineTerm) (p : Term) (y tail : List Mark) (r : Result Term Fault) → Stops tail → KeepsLine (before_text y r)
    → reported (dot_next s p r) (y ++ tail) ≡ meant tail (fixed (before_text y r) >>= object_then s p)
object_reported s p y tail (Ok t) q h = walk_dot s p (Fixed t) y tail h q
object_reported s p y tail (Err e) q h = faulty e (y ++ tail) tail

closes_object : (s : LineTerm) (p : Term) (tail : List Mark) (r : FrontRead (List ℕ)) → Stops tail → KeepsLine r
    → after (closes (iri_closed (AtObject s p))) tail [] r ≡ meant tail (fixed (iri_read r) >>= object_then s p)
closes_object s p tail (Err e) q h = refl
closes_object s p tail (Ok i) q h =
    ap (λ r. reported (dot_next s p r) (i.1 ++ tail)) (iri_held-hold i.0)
    ∙ object_reported s p i.1 tail (iri_made i.0) q (keeps_made i.1 (Iri i.0) h)

-- after a literal
literal_closed : (s : LineTerm) (p : Term) (tail : List Mark) (r : FrontRead Term) → Stops tail → KeepsLine r
    → literal_reported s p tail r ≡ meant tail (fixed r >>= object_then s p)
literal_closed s p tail (Err e) q h = refl
literal_closed s p tail (Ok r) q h = walk_dot s p (Fixed r.0) r.1 tail h q

closes_string : (s : LineTerm) (p : Term) (tail : List Mark) (r : FrontRead (List ℕ)) → Stops tail → KeepsLine r
    → after (closes (string_closed (AtObject s p))) tail [] r ≡ meant tail (fixed (r >>= λ l. suffix_at l.0 (skip l.1)) >>= object_then s p)
closes_string s p tail (Err e) q h = refl
closes_string s p tail (Ok l) q h =
    walk_suffix s p l.0 l.1 tail q ∙ literal_closed s p tail (suffix_at l.0 (skip l.1)) q (keeps_suffix l.0 (skip l.1) (keeps_skip l.1 h))

-- after a label that is an object
closes_label : (s : LineTerm) (p : Term) (tail : List Mark) (r : FrontRead (List ℕ)) → Stops tail → KeepsLine r
    → after (label_closed (AtObject s p)) tail [] r ≡ meant tail (label_read r >>= object_then s p)
closes_label s p tail (Err e) q h = refl
closes_label s p tail (Ok l) q h = walk_dot s p (Labelled l.0) l.1 tail h q

pub walk_object : (s : LineTerm) (p : Term) (line tail : List Mark) → NoEnd line → Stops tail
    → reported (AtObject s p, Between) (line ++ tail) ≡ meant tail (predicate_then s (p, line))
unfolding rest
walk_object s p [] tail n at_nothing = refl
walk_object s p [] tail n (at_feed k ms) = walk_broken Syntax ms
walk_object s p [] tail n (at_return k ms) = walk_broken Syntax ms
walk_object s p (m ∷ ms) tail (more h n) q =
    by_test (λ z. follow z (ms ++ tail)) (λ v. meant tail (object_at (cond v (skip ms) (m ∷ ms)) >>= object_then s p)) (is_space m.0) _ _
    (walk_object s p ms tail n q)
    (two_ways (λ z. follow z (ms ++ tail)) (λ z. meant tail (z >>= object_then s p)) (m.0 == 60) _ _ _ _
    (walk_iri (AtObject s p) Plain [] ms tail q ∙ closes_object s p tail (iri_after Plain ms) q (keeps_iri Plain ms n))
    (two_ways (λ z. follow z (ms ++ tail)) (λ z. meant tail (z >>= object_then s p)) (m.0 == 95) _ _ _ _
    (walk_underscore (AtObject s p) ms tail q ∙ closes_label s p tail (label_at ms) q (keeps_label ms n))
    (two_ways (λ z. follow z (ms ++ tail)) (λ z. meant tail (z >>= object_then s p)) (m.0 == 34) _ _ _ (Err Syntax)
    (walk_string (AtObject s p) Plain [] ms tail q ∙ closes_string s p tail (string_after Plain ms) q (keeps_string Plain ms n))
    (walk_broken Syntax (ms ++ tail)))))

-- after a predicate
predicate_reported : (s : LineTerm) (y tail : List Mark) (r : Result Term Fault) → Stops tail → KeepsLine (before_text y r)
    → reported (object_next s r) (y ++ tail) ≡ meant tail (before_text y r >>= predicate_then s)
predicate_reported s y tail (Ok t) q h = walk_object s t y tail h q
predicate_reported s y tail (Err e) q h = faulty e (y ++ tail) tail

closes_predicate : (s : LineTerm) (tail : List Mark) (r : FrontRead (List ℕ)) → Stops tail → KeepsLine r
    → after (closes (iri_closed (AtPredicate s))) tail [] r ≡ meant tail (iri_read r >>= predicate_then s)
closes_predicate s tail (Err e) q h = refl
closes_predicate s tail (Ok i) q h =
    ap (λ r. reported (object_next s r) (i.1 ++ tail)) (iri_held-hold i.0)
    ∙ predicate_reported s i.1 tail (iri_made i.0) q (keeps_made i.1 (Iri i.0) h)

pub walk_predicate : (s : LineTerm) (line tail : List Mark) → NoEnd line → Stops tail
    → reported (AtPredicate s, Between) (line ++ tail) ≡ meant tail (subject_then (s, line))
unfolding rest
walk_predicate s [] tail n at_nothing = refl
walk_predicate s [] tail n (at_feed k ms) = walk_broken Syntax ms
walk_predicate s [] tail n (at_return k ms) = walk_broken Syntax ms
walk_predicate s (m ∷ ms) tail (more h n) q =
    by_test (λ z. follow z (ms ++ tail)) (λ v. meant tail (predicate_at (cond v (skip ms) (m ∷ ms)) >>= predicate_then s)) (is_space m.0) _ _
    (walk_predicate s ms tail n q)
    (two_ways (λ z. follow z (ms ++ tail)) (λ z. meant tail (z >>= predicate_then s)) (m.0 == 60) _ _ _ (Err Syntax)
    (walk_iri (AtPredicate s) Plain [] ms tail q ∙ closes_predicate s tail (iri_after Plain ms) q (keeps_iri Plain ms n))
    (walk_broken Syntax (ms ++ tail)))

-- after a subject
subject_reported : (y tail : List Mark) (r : Result Term Fault) → Stops tail → KeepsLine (before_text y r)
    → reported (predicate_next r) (y ++ tail) ≡ meant tail (fixed (before_text y r) >>= subject_then)
subject_reported y tail (Ok t) q h = walk_predicate (Fixed t) y tail h q
subject_reported y tail (Err e) q h = faulty e (y ++ tail) tail

closes_subject : (tail : List Mark) (r : FrontRead (List ℕ)) → Stops tail → KeepsLine r
    → after (closes (iri_closed AtSubject)) tail [] r ≡ meant tail (fixed (iri_read r) >>= subject_then)
closes_subject tail (Err e) q h = refl
closes_subject tail (Ok i) q h =
    ap (λ r. reported (predicate_next r) (i.1 ++ tail)) (iri_held-hold i.0)
    ∙ subject_reported i.1 tail (iri_made i.0) q (keeps_made i.1 (Iri i.0) h)

-- after a label that is a subject
closes_subject_label : (tail : List Mark) (r : FrontRead (List ℕ)) → Stops tail → KeepsLine r
    → after (label_closed AtSubject) tail [] r ≡ meant tail (label_read r >>= subject_then)
closes_subject_label tail (Err e) q h = refl
closes_subject_label tail (Ok l) q h = walk_predicate (Labelled l.0) l.1 tail h q

-- a whole line
pub walk_line : (line tail : List Mark) → NoEnd line → Stops tail → reported line_start (line ++ tail) ≡ then_meant (line_meant line) (after_line tail)
unfolding rest
walk_line [] tail n at_nothing = refl
walk_line [] tail n (at_feed k ms) = refl
walk_line [] tail n (at_return k ms) = refl
walk_line (m ∷ ms) tail (more h n) q =
    two_ways (λ z. follow z (ms ++ tail)) (λ z. then_meant z (after_line tail)) (is_space m.0) _ _ _ _
    (walk_line ms tail n q)
    (otherwise (λ z. follow z (ms ++ tail)) _ (is_line_end m.0) _ _ h
    (two_ways (λ z. follow z (ms ++ tail)) (λ z. then_meant z (after_line tail)) (m.0 == 35) _ _ _ _
    (walk_comment ms tail n q)
    (two_ways (λ z. follow z (ms ++ tail)) (λ z. meant tail (z >>= subject_then)) (m.0 == 60) _ _ _ _
    (walk_iri AtSubject Plain [] ms tail q ∙ closes_subject tail (iri_after Plain ms) q (keeps_iri Plain ms n))
    (two_ways (λ z. follow z (ms ++ tail)) (λ z. meant tail (z >>= subject_then)) (m.0 == 95) _ _ _ (Err Syntax)
    (walk_underscore AtSubject ms tail q ∙ closes_subject_label tail (label_at ms) q (keeps_label ms n))
    (walk_broken Syntax (ms ++ tail))))))

NoEnd-push : (line : List Mark) (m : Mark) → NoEnd line → is_line_end m.0 ≡ false → NoEnd (line ++ m ∷ [])
NoEnd-push [] m n h = more h none
NoEnd-push (d ∷ ds) m (more g n) h = more g (NoEnd-push ds m n h)

stops_at : (m : Mark) (ms : List Mark) (u v : Bool) → (m.0 == 10) ≡ u → (m.0 == 13) ≡ v → (u || v) ≡ true → Stops (m ∷ ms)
stops_at m ms true v e f h = subst (λ (c : ℕ). Stops ((c, m.1) ∷ ms)) (sym (eqb-true m.0 10 e)) (at_feed m.1 ms)
stops_at m ms false true e f h = subst (λ (c : ℕ). Stops ((c, m.1) ∷ ms)) (sym (eqb-true m.0 13 f)) (at_return m.1 ms)
stops_at m ms false false e f h = absurd (Prim.cc)

then_nothing : (r : Meant) → then_meant r ([], Whole) ≡ r
then_nothing (ts, Whole) = ap (λ z. (z, Whole)) (append-nil ts)
then_nothing (ts, Faulty e) = refl

walk_lines : (line x : List Mark) → NoEnd line → reported line_start (line ++ x) ≡ lines_meant line x
walk_lines line [] n = walk_line line [] n at_nothing ∙ then_nothing (line_meant line)
walk_lines line (m ∷ ms) n =
    by_test_knowing (λ (z : Meant). reported line_start (line ++ m ∷ ms)) (λ v. cond v (then_meant (line_meant line) (lines_meant [] ms)) (lines_meant (line ++ m ∷ []) ms)) (is_line_end m.0) ([], Whole) ([], Whole)
    (λ h. walk_line line (m ∷ ms) n (stops_at m ms _ _ refl refl h) ∙ ap (then_meant (line_meant line)) (walk_lines [] ms none))
    (λ h. ap (reported line_start) (sym (append_assoc line (m ∷ []) ms)) ∙ walk_lines (line ++ m ∷ []) ms (NoEnd-push line m n h))

-- what is read of a document character by character is what the grammar says
pub read_is : (x : List Mark) → rest reading line_start x ≡ document_meant x
read_is x = walk_lines [] x none

-- What a token that stands whole does to the machine.
use Rattle.std.proofs.Common.{◌≡◌, ℕ, ◌+◌, ◌-◌, ◌<◌, ◌≤◌, ◌^◌, true, false, cond, List, [], ◌∷◌, ◌++◌, length, take, drop, refl, sym, ap, ap₂, subst, ◌∙◌, arith, append_assoc, length-append, length-drop, Result, Ok}
use Rattle.std.specs.Prelude.{◌==◌, nat_le}
use Rattle.std.specs.List.{list_all}
use Rattle.std.specs.Char.{encode_utf8, to_ascii_lowercase}
use Rattle.std.specs.Str.{str_to_ascii_lowercase}
use Rattle.std.proofs.lemmas.List.{take_more, length-take-le}
use Rattle.std.proofs.lemmas.Bool.{and_parts}
use Rattle.std.proofs.lemmas.Bool.Decides.{nat_tests}
use Rattle.std.proofs.str.Laws.{one}
use Rattle.std.proofs.Math.Seq.{take-add}
use Rattle.gs_model.specs.Characters.{is_lower}
use Rattle.gs_model.specs.Limits.{max_term_bytes}
use Rattle.gs_model.specs.Terms.{Term, Iri, Literal, LiteralKind, Tagged}
use Rattle.gs_model.specs.declared.faults.Fault.{Fault}
use Rattle.gs_model.specs.declared.faults.Fault.TheVariants.{Syntax}
use Rattle.gs_term.specs.Making.{made}
use Rattle.gs_machine.specs.Machines.{steps}
use Rattle.gs_machine.specs.Utf8.{Ready}
use Rattle.gs_machine.proofs.MachineLemmas.{steps-append, steps-one}
use Rattle.gs_body.specs.Bodies.{Statement}
use Rattle.gs_blank.specs.Numbers.{Numbers}
use Rattle.gs_ntterm.specs.Marks.{counted, char_end}
use Rattle.gs_ntterm.specs.Classes.{is_space, is_tag_char}
use Rattle.gs_ntterm.specs.LineTerms.{LineTerm, Fixed}
use Rattle.gs_ntterm.specs.Terminals.{Plain}
use Rattle.gs_ntterm.specs.Forms.{form_of}
use Rattle.gs_ntterm.specs.Tokens.{Held, Text, Long, hold, add, plain_held, tagged_held}
use Rattle.gs_ntterm.specs.Runs.{runs_in_iri, runs_in_string, add_each}
use Rattle.gs_ntterm.specs.Wholes.{IriFront, IsIriFront, IsLiteralFront, SaysSuffix, none, datatype, tag}
use Rattle.gs_ntterm.proofs.RunLemmas.{low_space, add_each-text}
use Rattle.gs_ntread.specs.LineTriples.{LineTriple}
use Rattle.gs_ntread.specs.Documents.{line_stated}
use Rattle.gs_ntread.specs.States.{LineState, Stage, AtSubject, AtPredicate, AtObject, AtSuffix, AtDatatype, AtDot, AtEnd, Between, InIri, InString, Caret, AtSign, InTag, Hyphen, broken, no_triple, sentence}
use Rattle.gs_ntread.specs.Lines.{iri_closed, predicate_next, object_next, dot_next, after_literal, string_fault}
use Rattle.gs_ntread.specs.Transitions.{transition, tag_ended, tag_transition}
use Rattle.gs_ntread.specs.Reader.{Led, ntriples}
use Rattle.gs_ntread.specs.Runs.{RunsTo, stays, goes}
use Rattle.gs_ntread.specs.Wholes.{EndsIn, AwaitsDot, IsDotAfter, IsObjectToken, IsObjectFront}
use Rattle.gs_ntread.proofs.RunLemmas.{iri_runs, string_runs, space_runs, runs_on, length_one, ran, at_ascii}
use Rattle.gs_ntread.proofs.Whole.{Placed, byte-some, character-some}

-- one run after another
pub runs_then : (q r s : LineState) (xs ys : List ℕ) → RunsTo q xs r → RunsTo r ys s → RunsTo q (xs ++ ys) s
runs_then q _ s [] ys (stays _) k = k
runs_then q r s (b ∷ bs) ys (goes _ q2 _ _ _ l f h) k = goes q q2 s b (bs ++ ys) l f (runs_then q2 r s bs ys h k)

-- blanks, and what comes after them
pub blanks_then : (g : Stage) (r : LineState) (x : List ℕ) (k n : ℕ) → list_all is_space (take k x) ≡ true → RunsTo (g, Between) (take n (drop k x)) r → RunsTo (g, Between) (take (k + n) x) r
blanks_then g r x k n e h =
    subst (λ (bs : List ℕ). RunsTo (g, Between) bs r) (sym (take-add k n x)) (runs_then (g, Between) (g, Between) r (take k x) (take n (drop k x)) (space_runs g (take k x) e) h)

-- a text that a term has room for is held
held_text : (xs : List ℕ) → length xs ≤ max_term_bytes → hold xs ≡ Text xs
held_text xs l = let e : nat_le (length xs) max_term_bytes ≡ true = grind (arith, nat_tests) in ap (λ b. cond b (Text xs) (Long (form_of xs))) e

added_text : (xs : List ℕ) → length xs ≤ max_term_bytes → add_each (Text []) xs ≡ Text xs
added_text [] l = refl
added_text (b ∷ bs) l = add_each-text [] b bs ∙ held_text (b ∷ bs) l

-- an IRI in its marks, where one may begin
pub iri_whole : (g : Stage) → ((n : ℕ) → transition g Between 60 n ≡ no_triple (g, InIri Plain (Text []))) → (xs : List ℕ) → list_all runs_in_iri xs ≡ true → length xs ≤ max_term_bytes
    → RunsTo (g, Between) (60 ∷ xs ++ 62 ∷ []) (iri_closed g (Text xs))
iri_whole g opens xs p l =
    goes (g, Between) (g, InIri Plain (Text [])) (iri_closed g (Text xs)) 60 (xs ++ 62 ∷ []) (omega arith) opens
    (runs_then (g, InIri Plain (Text [])) (g, InIri Plain (Text xs)) (iri_closed g (Text xs)) xs (62 ∷ [])
    (subst (λ h. RunsTo (g, InIri Plain (Text [])) xs (g, InIri Plain h)) (added_text xs l) (iri_runs g (Text []) xs p))
    (goes (g, InIri Plain (Text xs)) (iri_closed g (Text xs)) (iri_closed g (Text xs)) 62 [] (omega arith) (λ n. refl) (stays (iri_closed g (Text xs)))))

-- a string in its quotes
pub string_whole : (s : LineTerm) (p : Term) (xs : List ℕ) → list_all runs_in_string xs ≡ true → length xs ≤ max_term_bytes
    → RunsTo (AtObject s p, Between) (34 ∷ xs ++ 34 ∷ []) (AtSuffix s p (Text xs), Between)
string_whole s p xs e l =
    let g = AtObject s p in
    let done : LineState = (AtSuffix s p (Text xs), Between) in
    goes (g, Between) (g, InString Plain (Text [])) done 34 (xs ++ 34 ∷ []) (omega arith) (λ n. refl)
    (runs_then (g, InString Plain (Text [])) (g, InString Plain (Text xs)) done xs (34 ∷ [])
    (subst (λ h. RunsTo (g, InString Plain (Text [])) xs (g, InString Plain h)) (added_text xs l) (string_runs g (Text []) xs e))
    (goes (g, InString Plain (Text xs)) done done 34 [] (omega arith) (λ n. refl) (stays done)))

-- where a dot comes
pub awaits_at_dot : (s : LineTerm) (p : Term) (o : LineTerm) (bs : List ℕ) → list_all is_space bs ≡ true → AwaitsDot (AtDot s p o, Between) s p o bs
awaits_at_dot s p o bs e = record { after = (AtDot s p o, Between); run = space_runs (AtDot s p o) bs e; completes = λ n. refl }

-- after a string
awaits_suffix : (s : LineTerm) (p : Term) (h : Held) (t : Term) → plain_held h ≡ Ok t → (bs : List ℕ) → list_all is_space bs ≡ true → AwaitsDot (AtSuffix s p h, Between) s p (Fixed t) bs
awaits_suffix s p h t m bs e = record {
  after = (AtSuffix s p h, Between);
  run = space_runs (AtSuffix s p h) bs e;
  completes = λ n. ap (λ (r : Result Term Fault). after_literal s p r 46 n) m;
}

-- within a tag
no_tag_char : (b : ℕ) → is_space b ≡ true → is_tag_char false b ≡ false
no_tag_char b e = grind (arith, nat_tests)

no_hyphen : (b : ℕ) → is_space b ≡ true → (b == 45) ≡ false
no_hyphen b e = grind (arith, nat_tests)

tag_space : (s : LineTerm) (p : Term) (l h : Held) (t : Term) → tagged_held l h ≡ Ok t → (b n : ℕ) → is_space b ≡ true
    → transition (AtSuffix s p l) (InTag false h) b n ≡ no_triple (AtDot s p (Fixed t), Between)
tag_space s p l h t m b n e =
    ap (λ v. cond v (no_triple (AtSuffix s p l, InTag false (add h (encode_utf8 b)))) (tag_ended (AtSuffix s p l) h b n)) (no_tag_char b e)
    ∙ ap (λ v. cond v (no_triple (AtSuffix s p l, Hyphen h)) (tag_transition (AtSuffix s p l) h b n)) (no_hyphen b e)
    ∙ ap (λ (r : Result Term Fault). after_literal s p r b n) m
    ∙ ap (λ v. cond v (no_triple (AtDot s p (Fixed t), Between)) (cond (b == 46) ((AtEnd, Between), sentence s p (Fixed t) n ∷ []) (no_triple (broken Syntax)))) e

awaits_tag : (s : LineTerm) (p : Term) (l h : Held) (t : Term) → tagged_held l h ≡ Ok t → (bs : List ℕ) → list_all is_space bs ≡ true → AwaitsDot (AtSuffix s p l, InTag false h) s p (Fixed t) bs
awaits_tag s p l h t m [] e = record {
  after = (AtSuffix s p l, InTag false h);
  run = stays (AtSuffix s p l, InTag false h);
  completes = λ n. ap (λ (r : Result Term Fault). after_literal s p r 46 n) m;
}
awaits_tag s p l h t m (b ∷ bs) e =
    let k = and_parts (is_space b) (list_all is_space bs) e in
    let then : LineState = (AtDot s p (Fixed t), Between) in
    record {
      after = then;
      run = goes (AtSuffix s p l, InTag false h) then then b bs (low_space b k.0) (λ n. tag_space s p l h t m b n k.0) (space_runs (AtDot s p (Fixed t)) bs k.1);
      completes = λ n. refl;
    }

-- the letters of a tag
low_lower : (b : ℕ) → is_lower b ≡ true → b < 128
low_lower b e = grind (arith, nat_tests)

lower_tag_char : (b : ℕ) → is_lower b ≡ true → is_tag_char false b ≡ true
lower_tag_char b e = grind (arith, nat_tests)

tag_goes : (g : Stage) (h : Held) (b n : ℕ) → is_lower b ≡ true → transition g (InTag false h) b n ≡ no_triple (g, InTag false (add h (b ∷ [])))
tag_goes g h b n e =
    ap (λ v. cond v (no_triple (g, InTag false (add h (encode_utf8 b)))) (tag_ended g h b n)) (lower_tag_char b e)
    ∙ ap (λ x. no_triple (g, InTag false (add h x))) (one b (low_lower b e))

tag_begins : (g : Stage) (b n : ℕ) → is_lower b ≡ true → transition g AtSign b n ≡ no_triple (g, InTag false (hold (b ∷ [])))
tag_begins g b n e =
    ap (λ v. cond v (no_triple (g, InTag false (hold (encode_utf8 b)))) (no_triple (broken (string_fault g)))) (lower_tag_char b e)
    ∙ ap (λ x. no_triple (g, InTag false (hold x))) (one b (low_lower b e))

tag_whole : (g : Stage) (t : List ℕ) → list_all is_lower t ≡ true → 0 < length t → length t ≤ max_term_bytes → RunsTo (g, AtSign) t (g, InTag false (Text t))
tag_whole g [] e some l = absurd (omega arith)
tag_whole g (b ∷ bs) e some l =
    let k = and_parts (is_lower b) (list_all is_lower bs) e in
    goes (g, AtSign) (g, InTag false (hold (b ∷ []))) (g, InTag false (Text (b ∷ bs))) b bs (low_lower b k.0) (λ n. tag_begins g b n k.0)
    (subst (λ h. RunsTo (g, InTag false (hold (b ∷ []))) bs (g, InTag false h)) (added_text (b ∷ bs) l)
    (runs_on is_lower (λ h. (g, InTag false h)) low_lower (tag_goes g) (hold (b ∷ [])) bs k.1))

lower_same : (t : List ℕ) → list_all is_lower t ≡ true → str_to_ascii_lowercase t ≡ t
lower_same [] e = refl
lower_same (c ∷ cs) e =
    let k = and_parts (is_lower c) (list_all is_lower cs) e in
    ap₂ (λ u v. u ∷ v) (kept c k.0) (lower_same cs k.1)
  where
    kept : (c : ℕ) → is_lower c ≡ true → to_ascii_lowercase c ≡ c
    kept c h = grind (arith, nat_tests)

-- an IRI where a subject, a predicate or an object comes
iri_size : (x : List ℕ) (n : ℕ) (f : IriFront x n) → length f.iri ≤ max_term_bytes
iri_size x n f = omega (arith, f.short, ap length f.stands, length-take-le n x f.within, length-append f.iri (62 ∷ []))

iri_made_is : (x : List ℕ) (n : ℕ) (t : Term) (f : IsIriFront x n t) → made (Iri f.front.iri) ≡ Ok t
iri_made_is x n t f = f.front.made ∙ ap (λ (u : Term). Ok u) (sym f.term)

pub iri_subject : (x : List ℕ) (n : ℕ) (t : Term) → IsIriFront x n t → RunsTo (AtSubject, Between) (take n x) (AtPredicate (Fixed t), Between)
iri_subject x n t f =
    subst (λ (bs : List ℕ). RunsTo (AtSubject, Between) bs (AtPredicate (Fixed t), Between)) (sym f.front.stands)
    (subst (λ (q : LineState). RunsTo (AtSubject, Between) (60 ∷ f.front.iri ++ 62 ∷ []) q) (ap (λ (r : Result Term Fault). predicate_next r) (iri_made_is x n t f))
    (iri_whole AtSubject (λ k. refl) f.front.iri f.front.plain (iri_size x n f.front)))

pub iri_predicate : (s : LineTerm) (x : List ℕ) (n : ℕ) (t : Term) → IsIriFront x n t → RunsTo (AtPredicate s, Between) (take n x) (AtObject s t, Between)
iri_predicate s x n t f =
    subst (λ (bs : List ℕ). RunsTo (AtPredicate s, Between) bs (AtObject s t, Between)) (sym f.front.stands)
    (subst (λ (q : LineState). RunsTo (AtPredicate s, Between) (60 ∷ f.front.iri ++ 62 ∷ []) q) (ap (λ (r : Result Term Fault). object_next s r) (iri_made_is x n t f))
    (iri_whole (AtPredicate s) (λ k. refl) f.front.iri f.front.plain (iri_size x n f.front)))

pub iri_object : (x : List ℕ) (n : ℕ) (t : Term) → IsIriFront x n t → IsObjectToken x n (Fixed t)
iri_object x n t f = record {
  within = f.front.within;
  after = λ s p. (AtDot s p (Fixed t), Between);
  run = λ s p.
      subst (λ (bs : List ℕ). RunsTo (AtObject s p, Between) bs (AtDot s p (Fixed t), Between)) (sym f.front.stands)
      (subst (λ (q : LineState). RunsTo (AtObject s p, Between) (60 ∷ f.front.iri ++ 62 ∷ []) q) (ap (λ (r : Result Term Fault). dot_next s p r) (iri_made_is x n t f))
      (iri_whole (AtObject s p) (λ k. refl) f.front.iri f.front.plain (iri_size x n f.front)));
  awaits = λ s p bs e. awaits_at_dot s p (Fixed t) bs e;
}

-- a literal
module _ (x lexical : List ℕ) (n : ℕ) (t : Term) (plain : list_all runs_in_string lexical ≡ true) (short : n ≤ max_term_bytes) (within : n ≤ length x) where
  sizes : (after : List ℕ) → take n x ≡ 34 ∷ lexical ++ 34 ∷ after → length lexical + length after ≤ max_term_bytes
  sizes after e = omega (arith, ap length e, length-take-le n x within, length-append lexical (34 ∷ after))

  by_says : (after : List ℕ) (k : LiteralKind) → SaysSuffix after k → take n x ≡ 34 ∷ lexical ++ 34 ∷ after → made (Literal lexical k) ≡ Ok t → IsObjectToken x n (Fixed t)
  by_says _ _ none e m = record {
    within = within;
    after = λ s p. (AtSuffix s p (Text lexical), Between);
    run = λ s p. subst (λ (bs : List ℕ). RunsTo (AtObject s p, Between) bs (AtSuffix s p (Text lexical), Between)) (sym e) (string_whole s p lexical plain (omega (arith, sizes [] e)));
    awaits = λ s p bs b. awaits_suffix s p (Text lexical) t m bs b;
  }
  by_says _ _ (datatype d c) e m =
      let tail = 94 ∷ 94 ∷ 60 ∷ d ++ 62 ∷ [] in
      record {
        within = within;
        after = λ s p. (AtDot s p (Fixed t), Between);
        run = λ s p.
            let l = Text lexical in
            let last : LineState = (AtDot s p (Fixed t), Between) in
            subst (λ (bs : List ℕ). RunsTo (AtObject s p, Between) bs last) (ap (λ z. 34 ∷ z) (append_assoc lexical (34 ∷ []) tail) ∙ sym e)
            (runs_then (AtObject s p, Between) (AtSuffix s p l, Between) last (34 ∷ lexical ++ 34 ∷ []) tail (string_whole s p lexical plain (omega (arith, sizes tail e)))
            (goes (AtSuffix s p l, Between) (AtSuffix s p l, Caret) last 94 (94 ∷ 60 ∷ d ++ 62 ∷ []) (omega arith) (λ k. refl)
            (goes (AtSuffix s p l, Caret) (AtDatatype s p l, Between) last 94 (60 ∷ d ++ 62 ∷ []) (omega arith) (λ k. refl)
            (subst (λ (q : LineState). RunsTo (AtDatatype s p l, Between) (60 ∷ d ++ 62 ∷ []) q) (ap (λ (r : Result Term Fault). dot_next s p r) m)
            (iri_whole (AtDatatype s p l) (λ k. refl) d c (omega (arith, sizes tail e, length-append d (62 ∷ []))))))));
        awaits = λ s p bs b. awaits_at_dot s p (Fixed t) bs b;
      }
  by_says _ _ (tag u c some) e m = record {
    within = within;
    after = λ s p. (AtSuffix s p (Text lexical), InTag false (Text u));
    run = λ s p.
        let l = Text lexical in
        let last : LineState = (AtSuffix s p l, InTag false (Text u)) in
        subst (λ (bs : List ℕ). RunsTo (AtObject s p, Between) bs last) (ap (λ z. 34 ∷ z) (append_assoc lexical (34 ∷ []) (64 ∷ u)) ∙ sym e)
        (runs_then (AtObject s p, Between) (AtSuffix s p l, Between) last (34 ∷ lexical ++ 34 ∷ []) (64 ∷ u) (string_whole s p lexical plain (omega (arith, sizes (64 ∷ u) e)))
        (goes (AtSuffix s p l, Between) (AtSuffix s p l, AtSign) last 64 u (omega arith) (λ k. refl) (tag_whole (AtSuffix s p l) u c some (omega (arith, sizes (64 ∷ u) e)))));
    awaits = λ s p bs b. awaits_tag s p (Text lexical) (Text u) t (ap (λ z. made (Literal lexical (Tagged z))) (lower_same u c) ∙ m) bs b;
  }

pub literal_object : (x : List ℕ) (n : ℕ) (t : Term) → IsLiteralFront x n t → IsObjectToken x n (Fixed t)
literal_object x n t f = by_says x f.lexical n t f.plain f.short f.within f.after f.kind f.says f.stands (f.made ∙ ap (λ (u : Term). Ok u) (sym f.term))

-- an object with blanks and a dot
pub object_dot : (x : List ℕ) (n k : ℕ) (o : LineTerm) → IsObjectToken x n o → IsDotAfter (drop n x) k → IsObjectFront x (n + k + 1) o
object_dot x n k o f d =
    let bs = take k (drop n x) in
    let parts : take (n + k + 1) x ≡ (take n x ++ bs) ++ 46 ∷ [] =
    ap (λ m. take m x) (omega arith) ∙ take-add n (k + 1) x ∙ ap (λ z. take n x ++ z) (take_more (drop n x) k 0 d.within ∙ ap (λ z. bs ++ z ∷ []) d.dotted) ∙ sym (append_assoc (take n x) bs (46 ∷ [])) in
    record {
      some = omega arith;
      within = omega (arith, f.within, d.within, length-drop n x);
      ends = λ s p end. let a = f.awaits s p bs d.blank in record {
        front = take n x ++ bs;
        last = 46;
        parts = parts;
        before = a.after;
        run = runs_then (AtObject s p, Between) (f.after s p) a.after (take n x) bs (f.run s p) a.run;
        small = omega arith;
        completes = a.completes end;
        ends = refl;
      };
    }

-- the end of a line
pub line_ends : RunsTo (AtEnd, Between) (10 ∷ []) (AtSubject, Between)
line_ends = goes (AtEnd, Between) (AtSubject, Between) (AtSubject, Between) 10 [] (omega arith) (λ n. refl) (stays (AtSubject, Between))

-- bytes that complete a triple
pub ended : (r n : ℕ) (q q' : LineState) (m : Numbers) (xs : List ℕ) (w : LineTriple) → EndsIn q xs (counted (n + length xs)) q' w → n ≤ 2 ^ 64 - 1
    → steps (ntriples r) (Ready, (n, (q, m))) xs ≡ ((Ready, (counted (n + length xs), (q', (line_stated r m w).0))), (line_stated r m w).1)
ended r n q q' m xs w e h =
    let s : Led = (Ready, (n, (q, m))) in
    let k : ℕ = counted (n + length e.front) in
    let s1 : Led = (Ready, (k, (e.before, m))) in
    let c : char_end k e.last ≡ counted (n + length xs) =
    ap (λ z. counted (k + z)) (length_one e.last e.small) ∙ omega (arith, ap length e.parts, length-append e.front (e.last ∷ [])) in
    let t : (q', w ∷ []) ≡ transition e.before.0 e.before.1 e.last (char_end k e.last) = sym (ap (λ z. transition e.before.0 e.before.1 e.last z) c ∙ e.completes) in
    let last : (ntriples r).step s1 e.last ≡ ((Ready, (counted (n + length xs), (q', (line_stated r m w).0))), (line_stated r m w).1) =
    byte-some r Ready Ready (k, (e.before, m)) e.last e.last (at_ascii e.last e.small)
    ∙ ap (λ (u : Placed × List Statement). ((Ready, u.0), u.1)) (character-some r k e.before q' m e.last w t)
    ∙ ap (λ z. ((Ready, (z, (q', (line_stated r m w).0))), (line_stated r m w).1)) c in
    ap (steps (ntriples r) s) e.parts
    ∙ steps-append (ntriples r) s e.front (e.last ∷ [])
    ∙ ap (λ (u : Led × List Statement). ((steps (ntriples r) u.0 (e.last ∷ [])).0, u.1 ++ (steps (ntriples r) u.0 (e.last ∷ [])).1)) (ran r n q e.before m e.front e.run h)
    ∙ steps-one (ntriples r) s1 e.last ∙ last

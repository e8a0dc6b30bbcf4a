-- What a run of bytes does to the machine.
use Rattle.std.proofs.Common.{◌≡◌, ℕ, ◌+◌, ◌<◌, ◌≤◌, ◌^◌, Bool, true, false, cond, List, [], ◌∷◌, ◌++◌, length, suc, refl, sym, ap, subst, ◌∙◌, arith, append_assoc, append-nil}
use Rattle.std.specs.Prelude.{◌==◌, ◌||◌, ◌-◌, not, nat_lt}
use Rattle.std.specs.Char.{encode_utf8, len_utf8, is_ascii}
use Rattle.std.specs.List.{list_all}
use Rattle.std.proofs.lemmas.Bool.{and_parts, and_from}
use Rattle.std.proofs.lemmas.Bool.Decides.{nat_tests}
use Rattle.std.proofs.str.Laws.{one}
use Rattle.gs_model.specs.Escapes.{is_character, is_line_end, is_string_char}
use Rattle.gs_model.specs.Punctuation.{left_brace}
use Rattle.gs_model.specs.Characters.{quote, colon, is_iri_char, in_ranges, pn_chars}
use Rattle.gs_machine.specs.Machines.{steps}
use Rattle.gs_machine.specs.Utf8.{Decoding, Ready, Within, Lost, is_ready_of, decode_step}
use Rattle.gs_model.specs.declared.faults.Fault.TheVariants.{Syntax}
use Rattle.gs_body.specs.Bodies.{Statement}
use Rattle.gs_blank.specs.Numbers.{Numbers}
use Rattle.gs_ntterm.specs.Marks.{counted, char_end}
use Rattle.gs_ntterm.specs.Classes.{is_space, may_stand_in_iri, may_stand_in_string, is_label_char, may_stand_in_comment}
use Rattle.gs_ntterm.specs.Terminals.{Plain, Escape}
use Rattle.gs_ntterm.specs.Tokens.{Held, add}
use Rattle.gs_ntterm.specs.Runs.{runs_in_iri, runs_in_string, runs_in_label, runs_in_comment, add_each}
use Rattle.gs_ntterm.proofs.RunLemmas.{low_iri, low_string, low_label, low_comment, low_space}
use Rattle.gs_ntread.specs.States.{LineState, Stage, AtSubject, AtPredicate, AtObject, AtSuffix, AtDatatype, AtDot, AtEnd, Between, Comment, InIri, InString, InLabel, InDots, no_triple, broken}
use Rattle.gs_ntread.specs.Lines.{iri_closed, string_closed}
use Rattle.gs_ntread.specs.Transitions.{transition, label_transition}
use Rattle.gs_ntread.specs.Reader.{Led, ntriples}
use Rattle.gs_ntread.specs.Runs.{RunsTo, stays, goes}
use Rattle.gs_ntread.proofs.Whole.{Placed, byte-some, character-none}

-- a class leaves a character out
apart : (p : ℕ → Bool) (b k : ℕ) → p b ≡ true → p k ≡ false → (b == k) ≡ false
apart p b k h f = by_test (b == k) refl
  where
    by_test : (v : Bool) → (b == k) ≡ v → v ≡ false
    by_test true e = let q : b ≡ k = grind (arith, nat_tests) in let r : p b ≡ p k = ap p q in absurd (Prim.cc)
    by_test false e = refl

scalar_ascii : (b : ℕ) → b < 128 → is_character b ≡ true
scalar_ascii b h = grind (arith, nat_tests)

-- bytes of a class, each of which goes on with a token
pub runs_on : (p : ℕ → Bool) (q : Held → LineState) → ((b : ℕ) → p b ≡ true → b < 128)
    → ((h : Held) (b n : ℕ) → p b ≡ true → transition (q h).0 (q h).1 b n ≡ no_triple (q (add h (b ∷ []))))
    → (h : Held) (xs : List ℕ) → list_all p xs ≡ true → RunsTo (q h) xs (q (add_each h xs))
runs_on p q low on h [] e = stays (q h)
runs_on p q low on h (b ∷ bs) e =
    let k : p b ≡ true = (and_parts (p b) (list_all p bs) e).0 in
    goes (q h) (q (add h (b ∷ []))) (q (add_each (add h (b ∷ [])) bs)) b bs (low b k) (λ n. on h b n k)
    (runs_on p q low on (add h (b ∷ [])) bs (and_parts (p b) (list_all p bs) e).1)

-- the same where nothing changes
runs_still : (p : ℕ → Bool) (q : LineState) → ((b : ℕ) → p b ≡ true → b < 128)
    → ((b n : ℕ) → p b ≡ true → transition q.0 q.1 b n ≡ no_triple q)
    → (xs : List ℕ) → list_all p xs ≡ true → RunsTo q xs q
runs_still p q low on [] e = stays q
runs_still p q low on (b ∷ bs) e =
    let k : p b ≡ true = (and_parts (p b) (list_all p bs) e).0 in
    goes q q q b bs (low b k) (λ n. on b n k) (runs_still p q low on bs (and_parts (p b) (list_all p bs) e).1)

iri_goes : (g : Stage) (h : Held) (b n : ℕ) → runs_in_iri b ≡ true → transition g (InIri Plain h) b n ≡ no_triple (g, InIri Plain (add h (b ∷ [])))
iri_goes g h b n k =
    let l : b < 128 = low_iri b k in
    let e62 : (b == 62) ≡ false = apart runs_in_iri b 62 k refl in
    let e92 : (b == 92) ≡ false = apart runs_in_iri b 92 k refl in
    let m : may_stand_in_iri b ≡ true = and_from (is_iri_char b) (is_character b) (and_parts (nat_lt b left_brace) (is_iri_char b) k).1 (scalar_ascii b l) in
    ap (λ v. no_triple (cond v (iri_closed g h) (cond (b == 92) (g, InIri Escape h) (cond (may_stand_in_iri b) (g, InIri Plain (add h (encode_utf8 b))) (broken Syntax))))) e62
    ∙ ap (λ v. no_triple (cond v (g, InIri Escape h) (cond (may_stand_in_iri b) (g, InIri Plain (add h (encode_utf8 b))) (broken Syntax)))) e92
    ∙ ap (λ v. no_triple (cond v (g, InIri Plain (add h (encode_utf8 b))) (broken Syntax))) m
    ∙ ap (λ x. no_triple (g, InIri Plain (add h x))) (one b l)

pub iri_runs : (g : Stage) (h : Held) (xs : List ℕ) → list_all runs_in_iri xs ≡ true → RunsTo (g, InIri Plain h) xs (g, InIri Plain (add_each h xs))
iri_runs g = runs_on runs_in_iri (λ h. (g, InIri Plain h)) low_iri (iri_goes g)

string_goes : (g : Stage) (h : Held) (b n : ℕ) → runs_in_string b ≡ true → transition g (InString Plain h) b n ≡ no_triple (g, InString Plain (add h (b ∷ [])))
string_goes g h b n k =
    let l : b < 128 = low_string b k in
    let e34 : (b == 34) ≡ false = apart runs_in_string b 34 k refl in
    let e92 : (b == 92) ≡ false = apart runs_in_string b 92 k refl in
    let m : may_stand_in_string b ≡ true = and_from (is_string_char quote b) (is_character b) (and_parts (is_ascii b) (is_string_char quote b) k).1 (scalar_ascii b l) in
    ap (λ v. no_triple (cond v (string_closed g h) (cond (b == 92) (g, InString Escape h) (cond (may_stand_in_string b) (g, InString Plain (add h (encode_utf8 b))) (broken Syntax))))) e34
    ∙ ap (λ v. no_triple (cond v (g, InString Escape h) (cond (may_stand_in_string b) (g, InString Plain (add h (encode_utf8 b))) (broken Syntax)))) e92
    ∙ ap (λ v. no_triple (cond v (g, InString Plain (add h (encode_utf8 b))) (broken Syntax))) m
    ∙ ap (λ x. no_triple (g, InString Plain (add h x))) (one b l)

pub string_runs : (g : Stage) (h : Held) (xs : List ℕ) → list_all runs_in_string xs ≡ true → RunsTo (g, InString Plain h) xs (g, InString Plain (add_each h xs))
string_runs g = runs_on runs_in_string (λ h. (g, InString Plain h)) low_string (string_goes g)

label_goes : (g : Stage) (t : List ℕ) (b n : ℕ) → runs_in_label b ≡ true → transition g (InLabel t) b n ≡ no_triple (g, InLabel (t ++ b ∷ []))
label_goes g t b n k =
    let l : b < 128 = low_label b k in
    let m : is_label_char b ≡ true = and_from (in_ranges pn_chars b || b == colon) (is_character b) (and_parts (is_ascii b) (in_ranges pn_chars b || b == colon) k).1 (scalar_ascii b l) in
    ap (λ v. cond v (no_triple (g, InLabel (t ++ encode_utf8 b))) (cond (b == 46) (no_triple (g, InDots t n 0)) (label_transition g t b n))) m
    ∙ ap (λ x. no_triple (g, InLabel (t ++ x))) (one b l)

pub label_runs : (g : Stage) (t xs : List ℕ) → list_all runs_in_label xs ≡ true → RunsTo (g, InLabel t) xs (g, InLabel (t ++ xs))
label_runs g t [] e = subst (λ z. RunsTo (g, InLabel t) [] (g, InLabel z)) (sym (append-nil t)) (stays (g, InLabel t))
label_runs g t (b ∷ bs) e =
    let k : runs_in_label b ≡ true = (and_parts (runs_in_label b) (list_all runs_in_label bs) e).0 in
    goes (g, InLabel t) (g, InLabel (t ++ b ∷ [])) (g, InLabel (t ++ b ∷ bs)) b bs (low_label b k) (λ n. label_goes g t b n k)
    (subst (λ z. RunsTo (g, InLabel (t ++ b ∷ [])) bs (g, InLabel z)) (append_assoc t (b ∷ []) bs)
    (label_runs g (t ++ b ∷ []) bs (and_parts (runs_in_label b) (list_all runs_in_label bs) e).1))

is_not : (a : Bool) → not a ≡ true → a ≡ false
is_not true h = Prim.cc
is_not false h = refl

comment_goes : (b n : ℕ) → runs_in_comment b ≡ true → transition AtSubject Comment b n ≡ no_triple (AtSubject, Comment)
comment_goes b n k =
    let e : is_line_end b ≡ false = is_not (is_line_end b) (and_parts (is_ascii b) (not (is_line_end b)) k).1 in
    let m : may_stand_in_comment b ≡ true = scalar_ascii b (low_comment b k) in
    ap (λ v. cond v (no_triple (AtSubject, Between)) (cond (may_stand_in_comment b) (no_triple (AtSubject, Comment)) (no_triple (broken Syntax)))) e
    ∙ ap (λ v. cond v (no_triple (AtSubject, Comment)) (no_triple (broken Syntax))) m

pub comment_runs : (xs : List ℕ) → list_all runs_in_comment xs ≡ true → RunsTo (AtSubject, Comment) xs (AtSubject, Comment)
comment_runs = runs_still runs_in_comment (AtSubject, Comment) low_comment comment_goes

at_true : {A : Type 0} (v : Bool) (x y : A) → v ≡ true → cond v x y ≡ x
at_true true x y e = refl
at_true false x y e = absurd (Prim.cc)

pub space_goes : (g : Stage) (b n : ℕ) → is_space b ≡ true → transition g Between b n ≡ no_triple (g, Between)
space_goes AtSubject b n k = at_true (is_space b) _ _ k
space_goes (AtPredicate s) b n k = at_true (is_space b) _ _ k
space_goes (AtObject s p) b n k = at_true (is_space b) _ _ k
space_goes (AtSuffix s p l) b n k = at_true (is_space b) _ _ k
space_goes (AtDatatype s p l) b n k = at_true (is_space b) _ _ k
space_goes (AtDot s p o) b n k = at_true (is_space b) _ _ k
space_goes AtEnd b n k = ap no_triple (at_true (is_space b) _ _ k)

pub space_runs : (g : Stage) (xs : List ℕ) → list_all is_space xs ≡ true → RunsTo (g, Between) xs (g, Between)
space_runs g = runs_still is_space (g, Between) low_space (space_goes g)

-- a byte of ASCII between two characters is one
pub at_ascii : (b : ℕ) → b < 128 → (Ready, b ∷ []) ≡ decode_step Ready b
at_ascii b l = let k : nat_lt b 128 ≡ true = grind (arith, nat_tests) in sym (at_true (is_ascii b) (Ready, b ∷ []) _ k)

-- one character of ASCII between two others
byte_goes : (r n : ℕ) (q q' : LineState) (m : Numbers) (b : ℕ) → b < 128 → transition q.0 q.1 b (char_end n b) ≡ no_triple q'
    → (ntriples r).step (Ready, (n, (q, m))) b ≡ ((Ready, (char_end n b, (q', m))), [])
byte_goes r n q q' m b l e =
    byte-some r Ready Ready (n, (q, m)) b b (at_ascii b l)
    ∙ ap (λ (u : Placed × List Statement). ((Ready, u.0), u.1)) (character-none r n q q' m b (sym e))

pub length_one : (b : ℕ) → b < 128 → len_utf8 b ≡ 1
length_one b l = grind (arith, nat_tests)

counted_more : (n k : ℕ) → counted (counted (n + 1) + k) ≡ counted (n + suc k)
counted_more n k = omega arith

-- a run only counts its bytes
pub ran : (r n : ℕ) (q q' : LineState) (m : Numbers) (xs : List ℕ) → RunsTo q xs q' → n ≤ 2 ^ 64 - 1
    → steps (ntriples r) (Ready, (n, (q, m))) xs ≡ ((Ready, (counted (n + length xs), (q', m))), [])
unfolding steps
ran r n q _ m [] (stays _) h = ap (λ k. ((Ready, (k, (q, m))), [])) (omega arith)
ran r n q q' m (b ∷ bs) (goes _ q2 _ _ _ l f s) h =
    let e = byte_goes r n q q2 m b l (f (char_end n b)) in
    let k : char_end n b ≡ counted (n + 1) = ap (λ x. counted (n + x)) (length_one b l) in
    ap (λ (t : Led × List Statement). ((steps (ntriples r) t.0 bs).0, t.1 ++ (steps (ntriples r) t.0 bs).1)) e
    ∙ ran r (char_end n b) q2 q' m bs s (omega arith)
    ∙ ap (λ x. ((Ready, (counted (x + length bs), (q', m))), [])) k
    ∙ ap (λ x. ((Ready, (x, (q', m))), [])) (counted_more n (length bs))

pub ready_is : (d : Decoding) → is_ready_of d ≡ true → d ≡ Ready
ready_is Ready e = refl
ready_is (Within n v low high) e = absurd (Prim.cc)
ready_is Lost e = absurd (Prim.cc)

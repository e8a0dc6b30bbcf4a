-- The four machines say of a text what its meaning is.
use Rattle.std.proofs.Common.{◌≡◌, ℕ, true, List, [], ◌∷◌, ◌++◌, refl, sym, ap, ◌∙◌}
use Rattle.gs_machine.specs.Machines.{Machine, joined, steps, rest, composed}
use Rattle.gs_machine.specs.Utf8.{Decoding, Ready, Within, Lost, utf8, symbols, decode_step, is_ready_of}
use Rattle.gs_machine.proofs.MachineLemmas.{rest-append, rest-composed, steps-one}
use Rattle.gs_model.specs.declared.faults.Fault.{Fault}
use Rattle.gs_body.specs.Bodies.{Ending, Faulty, Statement}
use Rattle.gs_blank.specs.Numbers.{Numbers, no_numbers}
use Rattle.gs_ntterm.specs.Marks.{Mark, marks, places, char_end}
use Rattle.gs_ntread.specs.LineTriples.{LineTriple}
use Rattle.gs_ntread.specs.Documents.{numbering, line_stated, meaning_by}
use Rattle.gs_ntread.specs.States.{LineState, LineTransition, Between, Comment, InIri, InString, Underscore, Colon, InLabel, InDots, Caret, AtSign, InTag, Hyphen, Broken, broken, line_start}
use Rattle.gs_ntread.specs.Transitions.{transition}
use Rattle.gs_ntread.specs.Machine.{end_of_text, reading}
use Rattle.gs_ntread.specs.Reader.{keeping, stating, placing, ntriples, nothing_read}
use Rattle.gs_ntread.proofs.WalkLines.{read_is}
use Rattle.gs_ntread.proofs.WalkTokens.{walk_broken}

pub rest-keeping : {S T I M O E F : Type 0} (a : Machine S I M E) (b : Machine T M O F) (s : S) (t : T) (x : List I)
    → rest (keeping a b) (s, t) x ≡ ((rest b t (rest a s x).0).0, (rest a s x).1)
unfolding rest keeping
rest-keeping a b s t [] = refl
rest-keeping a b s t (i ∷ is) =
    let u = a.step s i in
    ap (joined (steps b t u.1).1) (rest-keeping a b u.0 (steps b t u.1).0 is)
    ∙ sym (ap (λ z. (z.0, (rest a u.0 is).1)) (rest-append b t u.1 (rest a u.0 is).0))

places-marks : (n : ℕ) (cs : List ℕ) → (rest places n cs).0 ≡ marks n cs
unfolding rest marks
places-marks n [] = refl
places-marks n (c ∷ cs) = ap (λ z. (c, char_end n c) ∷ z) (places-marks (char_end n c) cs)

pub stating_is : (r : ℕ) (q : LineState) (n : Numbers) (ms : List Mark) → rest (stating r) (q, n) ms ≡ ((rest (numbering r) n (rest reading q ms).0).0, (rest reading q ms).1)
stating_is r q n ms = rest-keeping reading (numbering r) q n ms

-- what is said by the machine is the meaning
pub meaning_is : (r : ℕ) (x : List ℕ) → rest (ntriples r) nothing_read x ≡ meaning_by r x
unfolding meaning_by symbols
meaning_is r x =
    rest-composed utf8 (placing r) Ready (0, (line_start, no_numbers)) x
    ∙ rest-composed places (stating r) 0 (line_start, no_numbers) (symbols x)
    ∙ ap (rest (stating r) (line_start, no_numbers)) (places-marks 0 (symbols x))
    ∙ stating_is r line_start no_numbers (marks 0 (symbols x))
    ∙ ap (λ (d : List LineTriple × Ending). ((rest (numbering r) no_numbers d.0).0, d.1)) (read_is (marks 0 (symbols x)))

-- a machine that is broken says nothing more
pub says_nothing : (r : ℕ) (d : Decoding) (n : ℕ) (e : Fault) (m : Numbers) (y : List ℕ) → rest (ntriples r) (d, (n, (broken e, m))) y ≡ ([], Faulty e)
unfolding rest
says_nothing r d n e m y =
    rest-composed utf8 (placing r) d (n, (broken e, m)) y
    ∙ rest-composed places (stating r) n (broken e, m) (rest utf8 d y).0
    ∙ stating_is r (broken e) m (rest places n (rest utf8 d y).0).0
    ∙ ap (λ (u : List LineTriple × Ending). ((rest (numbering r) m u.0).0, u.1)) (walk_broken e (rest places n (rest utf8 d y).0).0)

-- between two characters the text may go on so that nothing more is said
pub silence : (r n : ℕ) (q : LineState) (m : Numbers) → (y : List ℕ) × ((rest (ntriples r) (Ready, (n, (q, m))) y).0 ≡ [])
unfolding rest composed keeping steps
silence r n (g, Between) m = ([], refl)
silence r n (g, Comment) m = ([], refl)
silence r n (g, InIri v h) m = ([], refl)
silence r n (g, InString v h) m = ([], refl)
silence r n (g, Underscore) m = ([], refl)
silence r n (g, Colon) m = ([], refl)
silence r n (g, InLabel h) m = ([], refl)
silence r n (g, InDots h f k) m = (97 ∷ [], refl)
silence r n (g, Caret) m = ([], refl)
silence r n (g, AtSign) m = ([], refl)
silence r n (g, InTag d h) m = ([], refl)
silence r n (g, Hyphen h) m = ([], refl)
silence r n (g, Broken e) m = ([], refl)

-- one character
pub character-none : (r n : ℕ) (q q' : LineState) (m : Numbers) (c : ℕ) → (q', []) ≡ transition q.0 q.1 c (char_end n c) → (placing r).step (n, (q, m)) c ≡ ((char_end n c, (q', m)), [])
unfolding composed keeping steps
character-none r n q q' m c e = ap (λ (u : LineTransition). ((char_end n c, (u.0, (steps (numbering r) m u.1).0)), (steps (numbering r) m u.1).1 ++ [])) (sym e)

pub character-some : (r n : ℕ) (q q' : LineState) (m : Numbers) (c : ℕ) (s : LineTriple) → (q', s ∷ []) ≡ transition q.0 q.1 c (char_end n c)
    → (placing r).step (n, (q, m)) c ≡ ((char_end n c, (q', (line_stated r m s).0)), (line_stated r m s).1)
unfolding composed keeping steps
character-some r n q q' m c s e = ap (λ (u : LineTransition). ((char_end n c, (u.0, (steps (numbering r) m u.1).0)), (steps (numbering r) m u.1).1 ++ [])) (sym e)

-- one byte
abbrev pub Placed : Type 0
Placed = ℕ × (LineState × Numbers)

pub byte-none : (r : ℕ) (d d' : Decoding) (p : Placed) (b : ℕ) → (d', []) ≡ decode_step d b → (ntriples r).step (d, p) b ≡ ((d', p), [])
unfolding composed steps
byte-none r d d' p b e = ap (λ (u : Decoding × List ℕ). ((u.0, (steps (placing r) p u.1).0), (steps (placing r) p u.1).1)) (sym e)

pub byte-some : (r : ℕ) (d d' : Decoding) (p : Placed) (b c : ℕ) → (d', c ∷ []) ≡ decode_step d b
    → (ntriples r).step (d, p) b ≡ ((d', ((placing r).step p c).0), ((placing r).step p c).1)
unfolding composed
byte-some r d d' p b c e =
    ap (λ (u : Decoding × List ℕ). ((u.0, (steps (placing r) p u.1).0), (steps (placing r) p u.1).1)) (sym e)
    ∙ ap (λ (v : Placed × List Statement). ((d', v.0), v.1)) (steps-one (placing r) p c)

-- the text ends between two characters
pub end-none : (r : ℕ) (q : LineState) (n : Numbers) (e : Ending) → ([], e) ≡ end_of_text q.0 q.1 → rest (stating r) (q, n) [] ≡ ([], e)
unfolding rest keeping
end-none r q n e h = ap (λ (d : List LineTriple × Ending). ((rest (numbering r) n d.0).0, d.1)) (sym h)

pub end-some : (r : ℕ) (q : LineState) (n : Numbers) (e : Ending) (s : LineTriple) → (s ∷ [], e) ≡ end_of_text q.0 q.1 → rest (stating r) (q, n) [] ≡ ((line_stated r n s).1, e)
unfolding rest keeping
end-some r q n e s h = ap (λ (d : List LineTriple × Ending). ((rest (numbering r) n d.0).0, d.1)) (sym h)

pub ready_end : (r : ℕ) (d : Decoding) (p : Placed) → is_ready_of d ≡ true → rest (ntriples r) (d, p) [] ≡ rest (stating r) p.1 []
unfolding rest composed
ready_end r Ready p h = refl
ready_end r (Within k v l g) p h = absurd (Prim.cc)
ready_end r Lost p h = absurd (Prim.cc)

pub placing_broken : (r n : ℕ) (e : Fault) (m : Numbers) → rest (placing r) (n, (broken e, m)) [] ≡ ([], Faulty e)
unfolding rest composed keeping
placing_broken r n e m = refl

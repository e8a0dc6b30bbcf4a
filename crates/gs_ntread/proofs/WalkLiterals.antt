-- What is said after a string is what the grammar says of its datatype, or its tag.
use Rattle.std.proofs.Common.{◌≡◌, ℕ, Bool, true, false, cond, List, [], ◌∷◌, ◌++◌, refl, sym, ap, ◌∙◌, append_assoc, append-nil, Result, Ok, Err}
use Rattle.std.proofs.lemmas.Bool.{eqb-true}
use Rattle.std.specs.Prelude.{◌==◌, ◌&&◌}
use Rattle.std.specs.Char.{encode_utf8}
use Rattle.gs_model.specs.Terms.{Term}
use Rattle.gs_model.specs.declared.faults.Fault.{Fault}
use Rattle.gs_model.specs.declared.faults.Fault.TheVariants.{Syntax}
use Rattle.gs_machine.specs.Machines.{rest}
use Rattle.gs_body.specs.Bodies.{Faulty}
use Rattle.gs_ntterm.specs.Marks.{Mark}
use Rattle.gs_ntterm.specs.Classes.{is_space, is_tag_char}
use Rattle.gs_ntterm.specs.LineTerms.{LineTerm, Fixed, plain_made, typed_made, tagged_made, fault_of}
use Rattle.gs_model.specs.Faults.{◌>>=◌}
use Rattle.gs_ntterm.specs.Terminals.{FrontRead, skip, Plain, iri_after, begins_part, tag_after}
use Rattle.gs_ntterm.specs.Tokens.{hold, add, tagged_held, typed_held, plain_held}
use Rattle.gs_ntterm.proofs.Branches.{two_ways, by_test, by_test_knowing, otherwise}
use Rattle.gs_ntterm.proofs.Holding.{add-hold, plain_held-hold, typed_held-hold, tagged_held-hold}
use Rattle.gs_ntread.specs.Grammar.{before_text, datatype_at, caret_at, tag_at, suffix_at}
use Rattle.gs_ntread.specs.Documents.{Meant}
use Rattle.gs_ntread.specs.States.{AtSuffix, AtDatatype, AtDot, Between, Caret, AtSign, InTag, Hyphen, broken}
use Rattle.gs_ntread.specs.Lines.{dot_next, after_literal, iri_closed}
use Rattle.gs_ntread.proofs.WalkTokens.{reported, follow, Stops, at_nothing, at_feed, at_return, walk_broken, closes, after, walk_iri}

-- after a literal that ended, with the text y to come
abbrev pub go_on : LineTerm → Term → Result Term Fault → List Mark → Meant
go_on s p (Err e) y = ([], Faulty e)
go_on s p (Ok t) y = reported (AtDot s p (Fixed t), Between) y

-- after a literal that was read
abbrev pub literal_reported : LineTerm → Term → List Mark → FrontRead Term → Meant
literal_reported s p tail (Err e) = ([], Faulty e)
literal_reported s p tail (Ok r) = reported (AtDot s p (Fixed r.0), Between) (r.1 ++ tail)

literal_text : (s : LineTerm) (p : Term) (tail y : List Mark) (r : Result Term Fault) → go_on s p r (y ++ tail) ≡ literal_reported s p tail (before_text y r)
literal_text s p tail y (Ok t) = refl
literal_text s p tail y (Err e) = refl

step_literal : (s : LineTerm) (p : Term) (r : Result Term Fault) (c n : ℕ) (x : List Mark) → follow (after_literal s p r c n) x ≡ go_on s p r ((c, n) ∷ x)
unfolding rest
step_literal s p (Ok t) c n x = refl
step_literal s p (Err e) c n x = walk_broken e x

end_literal : (s : LineTerm) (p : Term) (r : Result Term Fault) → ([], Faulty (fault_of r)) ≡ go_on s p r []
unfolding rest
end_literal s p (Ok t) = refl
end_literal s p (Err e) = refl

pub dot_after : (s : LineTerm) (p : Term) (r : Result Term Fault) (y : List Mark) → reported (dot_next s p r) y ≡ go_on s p r y
dot_after s p (Ok t) y = refl
dot_after s p (Err e) y = walk_broken e y

-- after a tag, of which t was read before u
abbrev pub after_tag : LineTerm → Term → List ℕ → List Mark → List ℕ → List ℕ × List Mark → Meant
after_tag s p l tail t u = go_on s p (tagged_made l (t ++ u.0)) (u.1 ++ tail)

-- a tag as it is held
made_tag : (l t : List ℕ) → tagged_held (hold l) (hold t) ≡ tagged_made l (t ++ [])
made_tag l t = tagged_held-hold l t ∙ ap (tagged_made l) (sym (append-nil t))

-- a tag, and the first character after it
tag_ends : (s : LineTerm) (p : Term) (l t : List ℕ) (c n : ℕ) (x : List Mark) → follow (after_literal s p (tagged_held (hold l) (hold t)) c n) x ≡ go_on s p (tagged_made l (t ++ [])) ((c, n) ∷ x)
tag_ends s p l t c n x = step_literal s p (tagged_held (hold l) (hold t)) c n x ∙ ap (λ r. go_on s p r ((c, n) ∷ x)) (made_tag l t)

-- a literal after which a character stands that is no dot
stuck : (s : LineTerm) (p : Term) (r : Result Term Fault) (c n : ℕ) (x : List Mark) → is_space c ≡ false → (c == 46) ≡ false → ([], Faulty (fault_of r)) ≡ go_on s p r ((c, n) ∷ x)
unfolding rest
stuck s p (Ok t) c n x e f =
    sym (otherwise (λ z. follow z x) ([], Faulty Syntax) (is_space c) _ _ e (otherwise (λ z. follow z x) ([], Faulty Syntax) (c == 46) _ _ f (walk_broken Syntax x)))
stuck s p (Err e) c n x q f = refl

-- a '-' that is not the tag's
hyphen_ends : (s : LineTerm) (p : Term) (l t : List ℕ) (m : Mark) (x y : List Mark) → m.0 ≡ 45
    → reported (broken (fault_of (tagged_held (hold l) (hold t)))) x ≡ go_on s p (tagged_made l (t ++ [])) (m ∷ y)
hyphen_ends s p l t m x y e =
    walk_broken (fault_of (tagged_held (hold l) (hold t))) x
    ∙ ap (λ (r : Result Term Fault). ([], Faulty (fault_of r))) (made_tag l t)
    ∙ stuck s p (tagged_made l (t ++ [])) 45 m.1 y refl refl
    ∙ ap (λ (c : ℕ). go_on s p (tagged_made l (t ++ [])) ((c, m.1) ∷ y)) (sym e)

-- the text ends after a '-' that is not the tag's
hyphen_last : (s : LineTerm) (p : Term) (l t : List ℕ) (m : Mark) (y : List Mark) → m.0 ≡ 45
    → ([], Faulty (fault_of (tagged_held (hold l) (hold t)))) ≡ go_on s p (tagged_made l (t ++ [])) (m ∷ y)
hyphen_last s p l t m y e = sym (walk_broken (fault_of (tagged_held (hold l) (hold t))) []) ∙ hyphen_ends s p l t m [] y e

-- a tag goes on by a character
tag_first : (d : Bool) (m : Mark) (ms : List Mark) → is_tag_char d m.0 ≡ true → tag_after d (m ∷ ms) ≡ (encode_utf8 m.0 ++ (tag_after d ms).0, (tag_after d ms).1)
tag_first d m ms e =
    ap (λ v. cond v (encode_utf8 m.0 ++ (tag_after d ms).0, (tag_after d ms).1) (cond (m.0 == 45 && begins_part true ms) (encode_utf8 45 ++ (tag_after true ms).0, (tag_after true ms).1) ([], m ∷ ms))) e

-- a tag that goes on by a '-' and a part, where one begins there
abbrev pub part_or_not : Mark → List Mark → Bool → List ℕ × List Mark
part_or_not m ms true = (encode_utf8 45 ++ (tag_after true ms).0, (tag_after true ms).1)
part_or_not m ms false = ([], m ∷ ms)

pub walk_tag : (s : LineTerm) (p : Term) (l : List ℕ) (line tail : List Mark) → Stops tail
    → ((d : Bool) (t : List ℕ) → reported (AtSuffix s p (hold l), InTag d (hold t)) (line ++ tail) ≡ after_tag s p l tail t (tag_after d line))
    × ((t : List ℕ) (m : Mark) → m.0 ≡ 45 → reported (AtSuffix s p (hold l), Hyphen (hold t)) (line ++ tail) ≡ after_tag s p l tail t (part_or_not m line (begins_part true line)))
unfolding rest
walk_tag s p l [] tail at_nothing = (
  λ d t. end_literal s p (tagged_held (hold l) (hold t)) ∙ ap (λ r. go_on s p r []) (made_tag l t),
  λ t m e. hyphen_last s p l t m [] e,
)
walk_tag s p l [] tail (at_feed n ms) = (
  λ d t. tag_ends s p l t 10 n ms,
  λ t m e. hyphen_ends s p l t m ms ((10, n) ∷ ms) e,
)
walk_tag s p l [] tail (at_return n ms) = (
  λ d t. tag_ends s p l t 13 n ms,
  λ t m e. hyphen_ends s p l t m ms ((13, n) ∷ ms) e,
)
walk_tag s p l (m ∷ ms) tail h = (
  λ d t. two_ways (λ z. follow z (ms ++ tail)) (after_tag s p l tail t) (is_tag_char d m.0) _ _ _ _
      (ap (λ x. reported (AtSuffix s p (hold l), InTag d x) (ms ++ tail)) (add-hold t (encode_utf8 m.0)) ∙ (walk_tag s p l ms tail h).0 d (t ++ encode_utf8 m.0)
      ∙ ap (λ z. go_on s p (tagged_made l z) ((tag_after d ms).1 ++ tail)) (append_assoc t (encode_utf8 m.0) (tag_after d ms).0))
      (by_test_knowing (λ z. follow z (ms ++ tail)) (λ v. after_tag s p l tail t (cond (v && begins_part true ms) (encode_utf8 45 ++ (tag_after true ms).0, (tag_after true ms).1) ([], m ∷ ms))) (m.0 == 45) _ _
      (λ e. (walk_tag s p l ms tail h).1 t m (eqb-true m.0 45 e) ∙ ap (after_tag s p l tail t) (parts m ms (begins_part true ms)))
      (λ _. tag_ends s p l t m.0 m.1 (ms ++ tail))),
  λ t k e. by_test_knowing (λ z. follow z (ms ++ tail)) (λ v. after_tag s p l tail t (part_or_not k (m ∷ ms) v)) (is_tag_char true m.0) _ _
      (λ q. ap (λ h. reported (AtSuffix s p (hold l), InTag true (add h (encode_utf8 m.0))) (ms ++ tail)) (add-hold t (encode_utf8 45))
      ∙ ap (λ h. reported (AtSuffix s p (hold l), InTag true h) (ms ++ tail)) (add-hold (t ++ encode_utf8 45) (encode_utf8 m.0))
      ∙ (walk_tag s p l ms tail h).0 true ((t ++ encode_utf8 45) ++ encode_utf8 m.0)
      ∙ ap (λ z. go_on s p (tagged_made l z) ((tag_after true ms).1 ++ tail)) (append_assoc (t ++ encode_utf8 45) (encode_utf8 m.0) (tag_after true ms).0 ∙ append_assoc t (encode_utf8 45) (encode_utf8 m.0 ++ (tag_after true ms).0))
      ∙ ap (λ u. after_tag s p l tail t (encode_utf8 45 ++ u.0, u.1)) (sym (tag_first true m ms q)))
      (λ _. hyphen_ends s p l t k (ms ++ tail) (m ∷ (ms ++ tail)) e),
)
  where
    parts : (m : Mark) (ms : List Mark) (v : Bool) → part_or_not m ms v ≡ cond v (encode_utf8 45 ++ (tag_after true ms).0, (tag_after true ms).1) ([], m ∷ ms)
    parts m ms true = refl
    parts m ms false = refl

closes_datatype : (s : LineTerm) (p : Term) (l : List ℕ) (tail : List Mark) (r : FrontRead (List ℕ))
    → after (closes (iri_closed (AtDatatype s p (hold l)))) tail [] r ≡ literal_reported s p tail (r >>= λ i. before_text i.1 (typed_made l i.0))
closes_datatype s p l tail (Err e) = refl
closes_datatype s p l tail (Ok i) =
    dot_after s p (typed_held (hold l) (hold i.0)) (i.1 ++ tail) ∙ ap (λ r. go_on s p r (i.1 ++ tail)) (typed_held-hold l i.0) ∙ literal_text s p tail i.1 (typed_made l i.0)

walk_datatype : (s : LineTerm) (p : Term) (l : List ℕ) (line tail : List Mark) → Stops tail
    → reported (AtDatatype s p (hold l), Between) (line ++ tail) ≡ literal_reported s p tail (datatype_at l (skip line))
unfolding rest
walk_datatype s p l [] tail at_nothing = refl
walk_datatype s p l [] tail (at_feed n ms) = walk_broken Syntax ms
walk_datatype s p l [] tail (at_return n ms) = walk_broken Syntax ms
walk_datatype s p l (m ∷ ms) tail h =
    by_test (λ z. follow z (ms ++ tail)) (λ v. literal_reported s p tail (datatype_at l (cond v (skip ms) (m ∷ ms)))) (is_space m.0) _ _
    (walk_datatype s p l ms tail h)
    (two_ways (λ z. follow z (ms ++ tail)) (literal_reported s p tail) (m.0 == 60) _ _ _ _
    (walk_iri (AtDatatype s p (hold l)) Plain [] ms tail h ∙ closes_datatype s p l tail (iri_after Plain ms))
    (walk_broken Syntax (ms ++ tail)))

-- a string after which no suffix begins
lone_end : (s : LineTerm) (p : Term) (l : List ℕ) (tail : List Mark) → ([], Faulty (fault_of (plain_held (hold l)))) ≡ literal_reported s p tail (Err (fault_of (plain_made l)))
lone_end s p l tail = ap (λ (r : Result Term Fault). ([], Faulty (fault_of r))) (plain_held-hold l)

lone : (s : LineTerm) (p : Term) (l : List ℕ) (x tail : List Mark) → reported (broken (fault_of (plain_held (hold l)))) x ≡ literal_reported s p tail (Err (fault_of (plain_made l)))
lone s p l x tail = walk_broken (fault_of (plain_held (hold l))) x ∙ lone_end s p l tail

walk_caret : (s : LineTerm) (p : Term) (l : List ℕ) (line tail : List Mark) → Stops tail
    → reported (AtSuffix s p (hold l), Caret) (line ++ tail) ≡ literal_reported s p tail (caret_at l line)
unfolding rest
walk_caret s p l [] tail at_nothing = lone_end s p l []
walk_caret s p l [] tail (at_feed n ms) = lone s p l ms tail
walk_caret s p l [] tail (at_return n ms) = lone s p l ms tail
walk_caret s p l (m ∷ ms) tail h =
    two_ways (λ z. follow z (ms ++ tail)) (literal_reported s p tail) (m.0 == 94) _ _ _ _
    (walk_datatype s p l ms tail h)
    (lone s p l (ms ++ tail) tail)

walk_at_sign : (s : LineTerm) (p : Term) (l : List ℕ) (line tail : List Mark) → Stops tail
    → reported (AtSuffix s p (hold l), AtSign) (line ++ tail) ≡ literal_reported s p tail (tag_at l line)
unfolding rest
walk_at_sign s p l [] tail at_nothing = lone_end s p l []
walk_at_sign s p l [] tail (at_feed n ms) = lone s p l ms tail
walk_at_sign s p l [] tail (at_return n ms) = lone s p l ms tail
walk_at_sign s p l (m ∷ ms) tail h =
    by_test_knowing (λ z. follow z (ms ++ tail))
    (λ v. literal_reported s p tail (cond v (before_text (tag_after false (m ∷ ms)).1 (tagged_made l (tag_after false (m ∷ ms)).0)) (Err (fault_of (plain_made l))))) (is_tag_char false m.0) _ _
    (λ e. (walk_tag s p l ms tail h).0 false (encode_utf8 m.0)
    ∙ literal_text s p tail (tag_after false ms).1 (tagged_made l (encode_utf8 m.0 ++ (tag_after false ms).0))
    ∙ ap (λ u. literal_reported s p tail (before_text u.1 (tagged_made l u.0))) (sym (tag_first false m ms e)))
    (λ _. lone s p l (ms ++ tail) tail)

-- a plain literal, and the first character after it
plain_ends : (s : LineTerm) (p : Term) (l : List ℕ) (c n : ℕ) (x : List Mark) → follow (after_literal s p (plain_held (hold l)) c n) x ≡ go_on s p (plain_made l) ((c, n) ∷ x)
plain_ends s p l c n x = step_literal s p (plain_held (hold l)) c n x ∙ ap (λ r. go_on s p r ((c, n) ∷ x)) (plain_held-hold l)

pub walk_suffix : (s : LineTerm) (p : Term) (l : List ℕ) (line tail : List Mark) → Stops tail
    → reported (AtSuffix s p (hold l), Between) (line ++ tail) ≡ literal_reported s p tail (suffix_at l (skip line))
unfolding rest
walk_suffix s p l [] tail at_nothing =
    end_literal s p (plain_held (hold l)) ∙ ap (λ r. go_on s p r []) (plain_held-hold l) ∙ literal_text s p [] [] (plain_made l)
walk_suffix s p l [] tail (at_feed n ms) = plain_ends s p l 10 n ms ∙ literal_text s p ((10, n) ∷ ms) [] (plain_made l)
walk_suffix s p l [] tail (at_return n ms) = plain_ends s p l 13 n ms ∙ literal_text s p ((13, n) ∷ ms) [] (plain_made l)
walk_suffix s p l (m ∷ ms) tail h =
    by_test (λ z. follow z (ms ++ tail)) (λ v. literal_reported s p tail (suffix_at l (cond v (skip ms) (m ∷ ms)))) (is_space m.0) _ _
    (walk_suffix s p l ms tail h)
    (two_ways (λ z. follow z (ms ++ tail)) (literal_reported s p tail) (m.0 == 94) _ _ _ _
    (walk_caret s p l ms tail h)
    (two_ways (λ z. follow z (ms ++ tail)) (literal_reported s p tail) (m.0 == 64) _ _ _ _
    (walk_at_sign s p l ms tail h)
    (plain_ends s p l m.0 m.1 (ms ++ tail) ∙ literal_text s p tail (m ∷ ms) (plain_made l))))

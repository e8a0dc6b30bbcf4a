-- What is said within an IRI, a string or a tag is what their productions say.
use Rattle.std.proofs.Common.{◌≡◌, ℕ, ◌-◌, List, [], ◌∷◌, ◌++◌, refl, sym, ap, ◌∙◌, append_assoc, append-nil, Some, None, Ok, Err}
use Rattle.std.specs.Prelude.{◌==◌}
use Rattle.std.specs.Char.{encode_utf8}
use Rattle.gs_model.specs.Escapes.{is_character, is_hex, echar_meaning}
use Rattle.gs_machine.specs.Machines.{joined, rest}
use Rattle.gs_model.specs.declared.faults.Fault.{Fault}
use Rattle.gs_model.specs.declared.faults.Fault.TheVariants.{Syntax}
use Rattle.gs_body.specs.Bodies.{Faulty}
use Rattle.gs_ntterm.specs.Marks.{Mark}
use Rattle.gs_ntterm.specs.Classes.{may_stand_in_iri, may_stand_in_string, with_digit}
use Rattle.gs_ntterm.specs.Terminals.{FrontRead, before_read, Inside, Plain, Escape, Digits, escape_before, iri_after, string_after}
use Rattle.gs_ntterm.specs.Tokens.{Held, hold}
use Rattle.gs_ntterm.proofs.Branches.{two_ways}
use Rattle.gs_ntterm.proofs.Holding.{add-hold}
use Rattle.gs_ntread.specs.Documents.{Meant}
use Rattle.gs_ntread.specs.States.{Stage, InIri, InString, LineState, LineTransition, broken}
use Rattle.gs_ntread.specs.Lines.{iri_closed, string_closed}
use Rattle.gs_ntread.specs.Transitions.{escape_transition}
use Rattle.gs_ntread.specs.Machine.{reading}

-- what is said from a state
abbrev pub reported : LineState → List Mark → Meant
reported s x = rest reading s x

abbrev pub follow : LineTransition → List Mark → Meant
follow t x = joined t.1 (reported t.0 x)

-- nothing, or a line's end and more
pub data Stops : List Mark → Type 0 where
  at_nothing : Stops []
  at_feed : (n : ℕ) (ms : List Mark) → Stops ((10, n) ∷ ms)
  at_return : (n : ℕ) (ms : List Mark) → Stops ((13, n) ∷ ms)

pub walk_broken : (e : Fault) (x : List Mark) → reported (broken e) x ≡ ([], Faulty e)
unfolding rest
walk_broken e [] = refl
walk_broken e (m ∷ ms) = walk_broken e ms

-- the state after a token that is held
abbrev pub closes : (Held → LineState) → List ℕ → LineState
closes close t = close (hold t)

-- after a token that was read up to its end
abbrev pub after : (List ℕ → LineState) → List Mark → List ℕ → FrontRead (List ℕ) → Meant
after close tail t (Err e) = ([], Faulty e)
after close tail t (Ok r) = reported (close (t ++ r.0)) (r.1 ++ tail)

pub after-before_read : (close : List ℕ → LineState) (tail : List Mark) (t : List ℕ) (c : ℕ) (r : FrontRead (List ℕ))
    → after close tail (t ++ encode_utf8 c) r ≡ after close tail t (before_read c r)
after-before_read close tail t c (Err e) = refl
after-before_read close tail t c (Ok r) = ap (λ z. reported (close z) (r.1 ++ tail)) (append_assoc t (encode_utf8 c) r.0)

pub cut_iri : (g : Stage) (v : Inside) (h : Held) (tail : List Mark) → Stops tail → reported (g, InIri v h) tail ≡ ([], Faulty Syntax)
unfolding rest
cut_iri g v h [] at_nothing = refl
cut_iri g Plain h _ (at_feed n ms) = walk_broken Syntax ms
cut_iri g Escape h _ (at_feed n ms) = walk_broken Syntax ms
cut_iri g (Digits l w) h _ (at_feed n ms) = walk_broken Syntax ms
cut_iri g Plain h _ (at_return n ms) = walk_broken Syntax ms
cut_iri g Escape h _ (at_return n ms) = walk_broken Syntax ms
cut_iri g (Digits l w) h _ (at_return n ms) = walk_broken Syntax ms

pub walk_iri : (g : Stage) (v : Inside) (t : List ℕ) (line tail : List Mark) → Stops tail
    → reported (g, InIri v (hold t)) (line ++ tail) ≡ after (closes (iri_closed g)) tail t (iri_after v line)
unfolding rest
walk_iri g v t [] tail s = cut_iri g v (hold t) tail s
walk_iri g Plain t (m ∷ ms) tail s =
    two_ways (λ z. reported z (ms ++ tail)) (after (closes (iri_closed g)) tail t) (m.0 == 62) _ _ _ _
    (ap (λ z. reported (iri_closed g (hold z)) (ms ++ tail)) (sym (append-nil t)))
    (two_ways (λ z. reported z (ms ++ tail)) (after (closes (iri_closed g)) tail t) (m.0 == 92) _ _ _ _
    (walk_iri g Escape t ms tail s)
    (two_ways (λ z. reported z (ms ++ tail)) (after (closes (iri_closed g)) tail t) (may_stand_in_iri m.0) _ _ _ _
    (ap (λ h. reported (g, InIri Plain h) (ms ++ tail)) (add-hold t (encode_utf8 m.0)) ∙ walk_iri g Plain (t ++ encode_utf8 m.0) ms tail s ∙ after-before_read (closes (iri_closed g)) tail t m.0 (iri_after Plain ms))
    (walk_broken Syntax (ms ++ tail))))
walk_iri g Escape t (m ∷ ms) tail s =
    two_ways (λ z. reported z (ms ++ tail)) (after (closes (iri_closed g)) tail t) (m.0 == 117) _ _ _ _
    (walk_iri g (Digits 3 0) t ms tail s)
    (two_ways (λ z. reported z (ms ++ tail)) (after (closes (iri_closed g)) tail t) (m.0 == 85) _ _ _ _
    (walk_iri g (Digits 7 0) t ms tail s)
    (walk_broken Syntax (ms ++ tail)))
walk_iri g (Digits l v) t (m ∷ ms) tail s =
    two_ways (λ z. reported z (ms ++ tail)) (after (closes (iri_closed g)) tail t) (is_hex m.0) _ _ _ _
    (two_ways (λ z. reported z (ms ++ tail)) (after (closes (iri_closed g)) tail t) (l == 0) _ _ _ _
    (two_ways (λ z. reported z (ms ++ tail)) (after (closes (iri_closed g)) tail t) (may_stand_in_iri (with_digit v m.0)) _ _ _ _
    (ap (λ h. reported (g, InIri Plain h) (ms ++ tail)) (add-hold t (encode_utf8 (with_digit v m.0))) ∙ walk_iri g Plain (t ++ encode_utf8 (with_digit v m.0)) ms tail s ∙ after-before_read (closes (iri_closed g)) tail t (with_digit v m.0) (iri_after Plain ms))
    (walk_broken Syntax (ms ++ tail)))
    (walk_iri g (Digits (l - 1) (with_digit v m.0)) t ms tail s))
    (walk_broken Syntax (ms ++ tail))

pub cut_string : (g : Stage) (v : Inside) (h : Held) (tail : List Mark) → Stops tail → reported (g, InString v h) tail ≡ ([], Faulty Syntax)
unfolding rest echar_meaning
cut_string g v h [] at_nothing = refl
cut_string g Plain h _ (at_feed n ms) = walk_broken Syntax ms
cut_string g Escape h _ (at_feed n ms) = walk_broken Syntax ms
cut_string g (Digits l w) h _ (at_feed n ms) = walk_broken Syntax ms
cut_string g Plain h _ (at_return n ms) = walk_broken Syntax ms
cut_string g Escape h _ (at_return n ms) = walk_broken Syntax ms
cut_string g (Digits l w) h _ (at_return n ms) = walk_broken Syntax ms

pub walk_string : (g : Stage) (v : Inside) (t : List ℕ) (line tail : List Mark) → Stops tail
    → reported (g, InString v (hold t)) (line ++ tail) ≡ after (closes (string_closed g)) tail t (string_after v line)
unfolding rest
walk_string g v t [] tail s = cut_string g v (hold t) tail s
walk_string g Plain t (m ∷ ms) tail s =
    two_ways (λ z. reported z (ms ++ tail)) (after (closes (string_closed g)) tail t) (m.0 == 34) _ _ _ _
    (ap (λ z. reported (string_closed g (hold z)) (ms ++ tail)) (sym (append-nil t)))
    (two_ways (λ z. reported z (ms ++ tail)) (after (closes (string_closed g)) tail t) (m.0 == 92) _ _ _ _
    (walk_string g Escape t ms tail s)
    (two_ways (λ z. reported z (ms ++ tail)) (after (closes (string_closed g)) tail t) (may_stand_in_string m.0) _ _ _ _
    (ap (λ h. reported (g, InString Plain h) (ms ++ tail)) (add-hold t (encode_utf8 m.0)) ∙ walk_string g Plain (t ++ encode_utf8 m.0) ms tail s ∙ after-before_read (closes (string_closed g)) tail t m.0 (string_after Plain ms))
    (walk_broken Syntax (ms ++ tail))))
walk_string g Escape t (m ∷ ms) tail s =
    two_ways (λ z. reported z (ms ++ tail)) (after (closes (string_closed g)) tail t) (m.0 == 117) _ _ _ _
    (walk_string g (Digits 3 0) t ms tail s)
    (two_ways (λ z. reported z (ms ++ tail)) (after (closes (string_closed g)) tail t) (m.0 == 85) _ _ _ _
    (walk_string g (Digits 7 0) t ms tail s)
    (elim (echar_meaning m.0) as (λ o. reported (escape_transition g (hold t) o) (ms ++ tail) ≡ after (closes (string_closed g)) tail t (escape_before o (string_after Plain ms))) [
      | None ↦ walk_broken Syntax (ms ++ tail)
      | Some c ↦ ap (λ h. reported (g, InString Plain h) (ms ++ tail)) (add-hold t (encode_utf8 c)) ∙ walk_string g Plain (t ++ encode_utf8 c) ms tail s ∙ after-before_read (closes (string_closed g)) tail t c (string_after Plain ms)
    ]))
walk_string g (Digits l v) t (m ∷ ms) tail s =
    two_ways (λ z. reported z (ms ++ tail)) (after (closes (string_closed g)) tail t) (is_hex m.0) _ _ _ _
    (two_ways (λ z. reported z (ms ++ tail)) (after (closes (string_closed g)) tail t) (l == 0) _ _ _ _
    (two_ways (λ z. reported z (ms ++ tail)) (after (closes (string_closed g)) tail t) (is_character (with_digit v m.0)) _ _ _ _
    (ap (λ h. reported (g, InString Plain h) (ms ++ tail)) (add-hold t (encode_utf8 (with_digit v m.0))) ∙ walk_string g Plain (t ++ encode_utf8 (with_digit v m.0)) ms tail s ∙ after-before_read (closes (string_closed g)) tail t (with_digit v m.0) (string_after Plain ms))
    (walk_broken Syntax (ms ++ tail)))
    (walk_string g (Digits (l - 1) (with_digit v m.0)) t ms tail s))
    (walk_broken Syntax (ms ++ tail))

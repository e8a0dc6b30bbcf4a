-- Laws of runs between tokens: the text goes on after them as it is cut.
use Rattle.std.proofs.Common.{◌≡◌, ℕ, zero, suc, ◌^◌, ◌<◌, ◌≤◌, Bool, true, false, List, [], ◌∷◌, ◌++◌, refl, sym, ap, arith, subst, length, take, get_or}
use Rattle.std.proofs.lemmas.Bool.Decides.{nat_tests}
use Rattle.std.proofs.lemmas.Str.{IsUtf8-nil, IsUtf8-append}
use Rattle.std.proofs.Common.{inl}
use Rattle.std.specs.Str.{IsUtf8}
use Rattle.std.proofs.str.Laws.{one}
use Rattle.gs_machine.proofs.Encodings.{scalar_from}
use Rattle.gs_automaton.specs.Classes.{is_ws, is_line_end}
use Rattle.gs_lex.specs.Readings.{Passes}
use Rattle.gs_automaton.specs.Runs.{AllFrom}
use Rattle.gs_lex.specs.Runs.{plain_comment}
use Rattle.gs_lex.specs.Tokens.{Cut, Between, InComment, CutEnd, Lexeme, place_after, space, comment}
use Rattle.gs_lex.specs.declared.steps.Reading.{Reading}
use Rattle.gs_lex.proofs.StepLemmas.{between, within as inside, low_utf8, space_low}

-- the first byte, and those after it
pub all-spaces : (x : List ℕ) (n : ℕ) → is_ws (get_or x 0 0) ≡ true → AllFrom is_ws x 1 n → AllFrom is_ws x 0 n
all-spaces x n h f i l b = first i b
  where
    first : (i : ℕ) → i < n → is_ws (get_or x i 0) ≡ true
    first zero b = h
    first (suc i) b = f (suc i) (omega arith) b

spaces_cut : (u : Bool) (l p : ℕ) (x z : List ℕ) (n : ℕ) (ts : List Lexeme) (e : CutEnd) → n ≤ length x → p < 2 ^ 64 → AllFrom is_ws x 0 n
    → Cut u Between (place_after p n) l z ts e → Cut u Between p l (take n x ++ z) ts e
spaces_cut u l p x z zero ts e h b f c = subst (λ m. Cut u Between m l z ts e) (omega (arith, b)) c
spaces_cut u l p [] z (suc n) ts e h b f c = absurd (omega (arith, h))
spaces_cut u l p (d ∷ x) z (suc n) ts e h b f c =
    let next_place : place_after p (suc n) ≡ place_after (place_after p 1) n = omega arith in
    space d (take n x ++ z) refl (f 0 (omega arith) (omega arith))
    (spaces_cut u l (place_after p 1) x z n ts e (omega (arith, h)) (omega arith) (λ i m k. f (suc i) (omega arith) (omega (arith, k)))
    (subst (λ m. Cut u Between m l z ts e) next_place c))

spaces_utf8 : (x : List ℕ) (n : ℕ) → AllFrom is_ws x 0 n → n ≤ length x → IsUtf8 (take n x)
spaces_utf8 x zero f h = IsUtf8-nil
spaces_utf8 [] (suc n) f h = absurd (omega (arith, h))
spaces_utf8 (d ∷ x) (suc n) f h =
    IsUtf8-append (d ∷ []) (take n x) (low_utf8 d (space_low d (f 0 (omega arith) (omega arith)))) (spaces_utf8 x n (λ i m k. f (suc i) (omega arith) (omega (arith, k))) (omega (arith, h)))

pub pass-spaces : (is_end : Bool) (r : Reading) (x : List ℕ) (n : ℕ) → r.in_comment ≡ false → n ≤ length x → r.place < 2 ^ 64 → AllFrom is_ws x 0 n → Passes is_end r x n false
pass-spaces is_end r x n k h b f = record {
  characters = spaces_utf8 x n f h;
  cut = λ z ts e m t. between r (take n x ++ z) ts e k (spaces_cut r.updates r.last r.place x z n ts e h b f t);
}

comment_parts : (c : ℕ) → plain_comment c ≡ true → (c < 128) × (is_line_end c ≡ false)
comment_parts c h = grind (arith, nat_tests)

comments_cut : (u : Bool) (l p : ℕ) (x z : List ℕ) (n : ℕ) (ts : List Lexeme) (e : CutEnd) → n ≤ length x → p < 2 ^ 64 → AllFrom plain_comment x 0 n
    → Cut u InComment (place_after p n) l z ts e → Cut u InComment p l (take n x ++ z) ts e
comments_cut u l p x z zero ts e h b f c = subst (λ m. Cut u InComment m l z ts e) (omega (arith, b)) c
comments_cut u l p [] z (suc n) ts e h b f c = absurd (omega (arith, h))
comments_cut u l p (d ∷ x) z (suc n) ts e h b f c =
    let plain = comment_parts d (f 0 (omega arith) (omega arith)) in
    let next_place : place_after p (suc n) ≡ place_after (place_after p 1) n = omega arith in
    let rest = comments_cut u l (place_after p 1) x z n ts e (omega (arith, h)) (omega arith) (λ i m k. f (suc i) (omega arith) (omega (arith, k)))
    (subst (λ m. Cut u InComment m l z ts e) next_place c) in
    comment d (take n x ++ z) (ap (λ y. y ++ (take n x ++ z)) (sym (one d plain.0))) (scalar_from d (inl (omega (arith, plain.0)))) plain.1
    (subst (λ m. Cut u InComment (place_after p m) l (take n x ++ z) ts e) (sym (ap length (one d plain.0))) rest)

comments_utf8 : (x : List ℕ) (n : ℕ) → AllFrom plain_comment x 0 n → n ≤ length x → IsUtf8 (take n x)
comments_utf8 x zero f h = IsUtf8-nil
comments_utf8 [] (suc n) f h = absurd (omega (arith, h))
comments_utf8 (d ∷ x) (suc n) f h =
    IsUtf8-append (d ∷ []) (take n x) (low_utf8 d (comment_parts d (f 0 (omega arith) (omega arith))).0) (comments_utf8 x n (λ i m k. f (suc i) (omega arith) (omega (arith, k))) (omega (arith, h)))

pub pass-comments : (is_end : Bool) (r : Reading) (x : List ℕ) (n : ℕ) → r.in_comment ≡ true → n ≤ length x → r.place < 2 ^ 64 → AllFrom plain_comment x 0 n → Passes is_end r x n true
pass-comments is_end r x n k h b f = record {
  characters = comments_utf8 x n f h;
  cut = λ z ts e m t. inside r (take n x ++ z) ts e k (comments_cut r.updates r.last r.place x z n ts e h b f t);
}

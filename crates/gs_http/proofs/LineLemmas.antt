-- A line at the front of a text is cut off as it stands.
use Rattle.std.proofs.Common.{◌≡◌, ℕ, Bool, true, false, cond, List, [], ◌∷◌, ◌++◌, refl, sym, ap, ◌∙◌, append_assoc}
use Rattle.std.specs.Prelude.{IsTrue, nat_eq}
use Rattle.std.specs.List.{list_any}
use Rattle.std.proofs.lemmas.Bool.{ne_eqb, both_ways}
use Rattle.std.proofs.lemmas.List.Elements.{All-head, All-tail}
use Rattle.httparse.specs.Grammar.{LineEnd, crlf, lf, print_end, AllPass}
use Rattle.gs_model.specs.Texts.{split_first}
use Rattle.gs_model.proofs.TextLemmas.{AllOther, split_first-other}
use Rattle.gs_http.specs.Lines.{before_byte, after_byte, put_first, lines, ended_line, ended_lines, has_no_byte}

-- two texts, one after the other
pub AllOther-append : (c : ℕ) (xs ys : List ℕ) → AllOther c xs → AllOther c ys → AllOther c (xs ++ ys)
AllOther-append c [] ys p q = q
AllOther-append c (x ∷ xs) ys p q = (p.0, AllOther-append c xs ys p.1 q)

-- a byte that passes a test is not one that fails it
differs : (test : ℕ → Bool) (c x : ℕ) → test c ≡ false → test x ≡ true → nat_eq x c ≡ false
differs test c x off on = ne_eqb x c (λ e. both_ways (test x) (ap test e ∙ off) on)

-- bytes of a class that c is not in
pub AllOther-class : (test : ℕ → Bool) (c : ℕ) → test c ≡ false → (xs : List ℕ) → AllPass test xs → AllOther c xs
AllOther-class test c off [] all = tt
AllOther-class test c off (x ∷ xs) all =
    let P : ℕ → Type 0 = λ b. IsTrue (test b) in
    (differs test c x off (All-head P x xs all), AllOther-class test c off xs (All-tail P x xs all))

-- cut at the first c
pub before-stop : (c : ℕ) (xs ys : List ℕ) → AllOther c xs → before_byte c (xs ++ c ∷ ys) ≡ xs
before-stop c xs ys p = ap (λ (q : List ℕ × List ℕ). q.0) (split_first-other c xs ys p)

-- what stands after the first c
pub after-stop : (c : ℕ) (xs ys : List ℕ) → AllOther c xs → after_byte c (xs ++ c ∷ ys) ≡ ys
after-stop c xs ys p = ap (λ (q : List ℕ × List ℕ). q.1) (split_first-other c xs ys p)

-- where c is not
before-none : (c : ℕ) (xs : List ℕ) → AllOther c xs → (split_first c xs).0 ≡ xs
before-none c [] p = refl
before-none c (x ∷ xs) p =
    ap (λ b. (cond {A = List ℕ × List ℕ} b ([], xs) (x ∷ (split_first c xs).0, (split_first c xs).1)).0) p.0 ∙ ap (λ l. x ∷ l) (before-none c xs p.1)

-- the bytes of a line without its LF
abbrev ended : List ℕ → LineEnd → List ℕ
ended xs crlf = xs ++ 13 ∷ []
ended xs lf = xs

-- a line up to its LF
lines-stop : (xs ys : List ℕ) → AllOther 10 xs → lines (xs ++ 10 ∷ ys) ≡ xs ∷ lines ys
lines-stop [] ys p = refl
lines-stop (x ∷ xs) ys p = rw p.0 (ap (put_first x) (lines-stop xs ys p.1))

-- no CR
any-none : (xs : List ℕ) → AllOther 13 xs → list_any (λ c. nat_eq c 13) xs ≡ false
any-none [] p = refl
any-none (x ∷ xs) p = rw p.0 (any-none xs p.1)

-- a CR
any-stop : (xs ys : List ℕ) → AllOther 13 xs → list_any (λ c. nat_eq c 13) (xs ++ 13 ∷ ys) ≡ true
any-stop [] ys p = refl
any-stop (x ∷ xs) ys p = rw p.0 (any-stop xs ys p.1)

-- how a line ends
ended_line-ended : (xs : List ℕ) (e : LineEnd) → AllOther 13 xs → ended_line (ended xs e) ≡ (xs, e)
ended_line-ended xs crlf p =
    λ i. (before-stop 13 xs [] p i, cond (any-stop xs [] p i) crlf lf)
ended_line-ended xs lf p =
    λ i. (before-none 13 xs p i, cond (any-none xs p i) crlf lf)

-- a line up to its end
lines-ended : (xs ys : List ℕ) (e : LineEnd) → AllOther 10 xs → lines (xs ++ (print_end e ++ ys)) ≡ ended xs e ∷ lines ys
lines-ended xs ys crlf p =
    let q : AllOther 10 (xs ++ 13 ∷ []) = AllOther-append 10 xs (13 ∷ []) p (refl, tt) in
    ap lines (sym (append_assoc xs (13 ∷ []) (10 ∷ ys))) ∙ lines-stop (xs ++ 13 ∷ []) ys q
lines-ended xs ys lf p = lines-stop xs ys p

-- one line at the front
pub ended_lines-front : (xs ys : List ℕ) (e : LineEnd) → AllOther 10 xs → AllOther 13 xs
    → ended_lines (lines (xs ++ (print_end e ++ ys))) ≡ (xs, e) ∷ ended_lines (lines ys)
ended_lines-front xs ys e p q = ap ended_lines (lines-ended xs ys e p) ∙ ap (λ l. l ∷ ended_lines (lines ys)) (ended_line-ended xs e q)

-- a text with a byte in it
pub is_empty-append : (xs ys : List ℕ) (c : ℕ) → has_no_byte (xs ++ c ∷ ys) ≡ false
is_empty-append [] ys c = refl
is_empty-append (x ∷ xs) ys c = refl

-- Texts unpacked one after another: with one mark more, and with more pieces than the marks take.
use Rattle.std.proofs.Common.{◌≡◌, ℕ, suc, ◌+◌, ◌-◌, ◌≤◌, List, [], ◌∷◌, ◌++◌, length, take, drop, ap, sym, ◌∙◌, refl, arith, length-drop, length-append}
use Rattle.std.specs.List.{sum}
use Rattle.std.proofs.lemmas.List.{append-nil, take_all, take-append-le, drop-append-le, nil_from_length}
use Rattle.std.proofs.lemmas.List.Sums.{sum_by-cons, sum_by_push}
use Rattle.gs_packed_texts.specs.Packing.{TextMark, Last, Earlier, Whole, Front, text_mark_of, Memory, Source, piece_of, text_by, pieces_after, next_text, left_after, unpacked, cut_by}
use Rattle.gs_packed_texts.specs.Kept.{own_by, own_in, own_counts, left_after_all}

-- one mark more gives one text more
pub unpacked_push :
    (ms : List ℕ) (b : ℕ) (s : Source) → unpacked (ms ++ b ∷ []) s ≡ unpacked ms s ++ next_text (text_mark_of b) (left_after_all ms s) ∷ []
unpacked_push [] b s = refl
unpacked_push (m ∷ ms) b s = ap (λ z. next_text (text_mark_of m) s ∷ z) (unpacked_push ms b (left_after (text_mark_of m) s))

-- it is read after all others
pub after_all_push : (ms : List ℕ) (b : ℕ) (s : Source) → left_after_all (ms ++ b ∷ []) s ≡ left_after (text_mark_of b) (left_after_all ms s)
after_all_push [] b s = refl
after_all_push (m ∷ ms) b s = after_all_push ms b (left_after (text_mark_of m) s)

-- it has a count where it has bytes of its own
pub own_in_push : (ms : List ℕ) (b : ℕ) → own_in (ms ++ b ∷ []) ≡ own_in ms + own_by (text_mark_of b)
own_in_push [] b = omega arith
own_in_push (m ∷ ms) b = omega (arith, own_in_push ms b)

-- with pieces after those that there are
abbrev pub with_more : Source → List (List ℕ) → Source
with_more s e = record { first = s.first; second = s.second; third = s.third; pieces = s.pieces ++ e }

-- a mark takes a piece, if there is one for it, before those that are more
text_more :
    (m : TextMark) (mem : Memory) (ps e : List (List ℕ)) → own_by m ≤ length ps → text_by m mem (piece_of (ps ++ e)) ≡ text_by m mem (piece_of ps)
text_more Last mem ps e h = refl
text_more Earlier mem ps e h = refl
text_more Whole mem [] e h = absurd (omega arith)
text_more Whole mem (p ∷ ps) e h = refl
text_more (Front n) mem [] e h = absurd (omega arith)
text_more (Front n) mem (p ∷ ps) e h = refl

-- the pieces that are more stay after those that are left
pieces_more : (m : TextMark) (ps e : List (List ℕ)) → own_by m ≤ length ps → pieces_after m (ps ++ e) ≡ pieces_after m ps ++ e
pieces_more Last ps e h = refl
pieces_more Earlier ps e h = refl
pieces_more Whole [] e h = absurd (omega arith)
pieces_more Whole (p ∷ ps) e h = refl
pieces_more (Front n) [] e h = absurd (omega arith)
pieces_more (Front n) (p ∷ ps) e h = refl

-- a mark leaves all pieces but the one that it takes
pieces_left : (m : TextMark) (ps : List (List ℕ)) → length (pieces_after m ps) ≡ length ps - own_by m
pieces_left Last ps = omega arith
pieces_left Earlier ps = omega arith
pieces_left Whole ps = length-drop 1 ps
pieces_left (Front n) ps = length-drop 1 ps

-- so pieces that are more stay as they are after a text
after_more : (m : TextMark) (s : Source) (e : List (List ℕ)) → own_by m ≤ length s.pieces → left_after m (with_more s e) ≡ with_more (left_after m s) e
after_more m s e h = rw (text_more m s.first s.pieces e h, pieces_more m s.pieces e h)

-- where there is a piece for each mark, there is one for each mark after the first
enough_left : (m : TextMark) (ms : List ℕ) (s : Source) → own_by m + own_in ms ≤ length s.pieces → own_in ms ≤ length (left_after m s).pieces
enough_left m ms s h = omega (arith, pieces_left m s.pieces)

-- pieces that are more change no text
pub unpacked_more :
    (ms : List ℕ) (s : Source) (e : List (List ℕ)) → own_in ms ≤ length s.pieces → unpacked ms (with_more s e) ≡ unpacked ms s
unpacked_more [] s e h = refl
unpacked_more (b ∷ bs) s e h =
    let m : TextMark = text_mark_of b in
    let here : own_by m ≤ length s.pieces = omega arith in
    ap (λ x. x ∷ unpacked bs (left_after m (with_more s e))) (text_more m s.first s.pieces e here)
    ∙ (ap (λ z. next_text m s ∷ unpacked bs z) (after_more m s e here)
    ∙ ap (λ z. next_text m s ∷ z) (unpacked_more bs (left_after m s) e (enough_left m bs s h)))

-- pieces that are more are what is left after all marks
pub after_all_more :
    (ms : List ℕ) (s : Source) (e : List (List ℕ)) → own_in ms ≤ length s.pieces → left_after_all ms (with_more s e) ≡ with_more (left_after_all ms s) e
after_all_more [] s e h = refl
after_all_more (b ∷ bs) s e h =
    let m : TextMark = text_mark_of b in
    let here : own_by m ≤ length s.pieces = omega arith in
    ap (left_after_all bs) (after_more m s e here) ∙ after_all_more bs (left_after m s) e (enough_left m bs s h)

-- as many pieces as counts
pub length_cut : (ns x : List ℕ) → length (cut_by ns x) ≡ length ns
length_cut [] x = refl
length_cut (n ∷ ns) x = ap (λ k. suc k) (length_cut ns (drop n x))

-- one count more is of the bytes after those of the others
cut_push : (ns x y : List ℕ) → sum ns ≡ length x → cut_by (ns ++ length y ∷ []) (x ++ y) ≡ cut_by ns x ++ y ∷ []
cut_push [] x y h =
    let none : x ≡ [] = nil_from_length x (sym h) in
    ap (λ z. take (length y) (z ++ y) ∷ []) none ∙ ap (λ z. z ∷ []) (take_all (length y) y (omega arith))
cut_push (n ∷ ns) x y h =
    let whole : n + sum ns ≡ length x = sym (sum_by-cons (λ k. k) n ns) ∙ h in
    let within : n ≤ length x = omega arith in
    let rest : sum ns ≡ length (drop n x) = omega (arith, length-drop n x) in
    ap (λ z. z ∷ cut_by (ns ++ length y ∷ []) (drop n (x ++ y))) (take-append-le n x y within)
    ∙ (ap (λ z. take n x ∷ cut_by (ns ++ length y ∷ []) z) (drop-append-le n x y within)
    ∙ ap (λ z. take n x ∷ z) (cut_push ns (drop n x) y rest))

-- the pieces that a text with this mark adds, where these are its own bytes
abbrev pub own_pieces : TextMark → List ℕ → List (List ℕ)
own_pieces Last y = []
own_pieces Earlier y = []
own_pieces Whole y = y ∷ []
own_pieces (Front n) y = y ∷ []

-- nothing is added where a text has no bytes of its own
cut_none : (ns x y : List ℕ) → y ≡ [] → cut_by (ns ++ []) (x ++ y) ≡ cut_by ns x ++ []
cut_none ns x y none =
    ap (λ z. cut_by (ns ++ []) (x ++ z)) none
    ∙ (ap (λ z. cut_by z (x ++ [])) (append-nil ns) ∙ (ap (cut_by ns) (append-nil x) ∙ sym (append-nil (cut_by ns x))))

-- one text more adds its own bytes as a piece, if it has some
pub cut_more :
    (m : TextMark) (ns x y : List ℕ) → sum ns ≡ length x → (own_by m ≡ 0 → y ≡ []) → cut_by (ns ++ own_counts m (length y)) (x ++ y) ≡ cut_by ns x ++ own_pieces m y
cut_more Last ns x y h none = cut_none ns x y (none refl)
cut_more Earlier ns x y h none = cut_none ns x y (none refl)
cut_more Whole ns x y h none = cut_push ns x y h
cut_more (Front n) ns x y h none = cut_push ns x y h

-- the counts are of all bytes, where a text adds none
sum_none : (ns x y : List ℕ) → sum ns ≡ length x → y ≡ [] → sum (ns ++ []) ≡ length (x ++ y)
sum_none ns x y h none = ap sum (append-nil ns) ∙ (h ∙ (sym (ap length (append-nil x)) ∙ sym (ap (λ z. length (x ++ z)) none)))

-- the counts are of all bytes, where a text adds some
sum_push : (ns x y : List ℕ) → sum ns ≡ length x → sum (ns ++ length y ∷ []) ≡ length (x ++ y)
sum_push ns x y h = omega (arith, sum_by_push (λ k. k) ns (length y), length-append x y)

-- the counts are of all bytes with one text more
pub sum_more : (m : TextMark) (ns x y : List ℕ) → sum ns ≡ length x → (own_by m ≡ 0 → y ≡ []) → sum (ns ++ own_counts m (length y)) ≡ length (x ++ y)
sum_more Last ns x y h none = sum_none ns x y h (none refl)
sum_more Earlier ns x y h none = sum_none ns x y h (none refl)
sum_more Whole ns x y h none = sum_push ns x y h
sum_more (Front n) ns x y h none = sum_push ns x y h

-- what is read of the pieces that a text adds is the text
pub text_of_own : (m : TextMark) (mem : Memory) (y : List ℕ) → text_by m mem (piece_of (own_pieces m y)) ≡ text_by m mem y
text_of_own Last mem y = refl
text_of_own Earlier mem y = refl
text_of_own Whole mem y = refl
text_of_own (Front n) mem y = refl

-- nothing is left of them
pub pieces_of_own : (m : TextMark) (y : List ℕ) → pieces_after m (own_pieces m y) ≡ []
pieces_of_own Last y = refl
pieces_of_own Earlier y = refl
pieces_of_own Whole y = refl
pieces_of_own (Front n) y = refl

-- a text has a count where it has bytes of its own
pub length_own : (m : TextMark) (k : ℕ) → length (own_counts m k) ≡ own_by m
length_own Last k = refl
length_own Earlier k = refl
length_own Whole k = refl
length_own (Front n) k = refl

-- a reader takes the bytes of the first count, if the text has one
pub text_of_first :
    (m : TextMark) (mem : Memory) (k : ℕ) (ns y : List ℕ) → text_by m mem (piece_of (cut_by (own_counts m k ++ ns) y)) ≡ text_by m mem (take k y)
text_of_first Last mem k ns y = refl
text_of_first Earlier mem k ns y = refl
text_of_first Whole mem k ns y = refl
text_of_first (Front n) mem k ns y = refl

-- a count of 0 cuts nothing off
pieces_after_none : (k : ℕ) (ns y : List ℕ) → k ≡ 0 → cut_by ns y ≡ cut_by ns (drop k y)
pieces_after_none k ns y none = ap (λ n. cut_by ns (drop n y)) (sym none)

-- the pieces after the first one are of the bytes after its own
pub pieces_after_first :
    (m : TextMark) (k : ℕ) (ns y : List ℕ) → (own_by m ≡ 0 → k ≡ 0) → pieces_after m (cut_by (own_counts m k ++ ns) y) ≡ cut_by ns (drop k y)
pieces_after_first Last k ns y none = pieces_after_none k ns y (none refl)
pieces_after_first Earlier k ns y none = pieces_after_none k ns y (none refl)
pieces_after_first Whole k ns y none = refl
pieces_after_first (Front n) k ns y none = refl

-- the first count and the others
pub sum_of_first : (m : TextMark) (k : ℕ) (ns : List ℕ) → (own_by m ≡ 0 → k ≡ 0) → sum (own_counts m k ++ ns) ≡ k + sum ns
sum_of_first Last k ns none = omega (arith, none refl)
sum_of_first Earlier k ns none = omega (arith, none refl)
sum_of_first Whole k ns none = sum_by-cons (λ n. n) k ns
sum_of_first (Front n) k ns none = sum_by-cons (λ n. n) k ns

-- The tokens of a cut are their spans.
use Rattle.std.proofs.Common.{◌≡◌, ℕ, ◌+◌, ◌^◌, ◌<◌, ◌≤◌, Bool, List, [], ◌∷◌, ◌++◌, refl, sym, ap, ◌∙◌, arith, append_assoc, length, length-append, encode_utf8, encode_utf8_all}
use Rattle.gs_lex.specs.Spans.{AreSpans}
use Rattle.gs_lex.specs.Tokens.{Cut, Gap, Between, InComment, CutEnd, Lexeme, Longest, place_after, ended, space, hash, comment, line_end, bad_comment, token, no_kind, no_token}
use Rattle.gs_automaton.proofs.AutomatonLemmas.{nonempty}
use Rattle.gs_lex.proofs.BarrenLemmas.{some_bytes_of}
use Rattle.gs_lex.proofs.LongestLemmas.{no_start}
use Rattle.gs_automaton.proofs.TerminalLemmas.{terminal-accepted}

-- after some bytes more of a text that is short enough
after_more : (x before w r : List ℕ) (n : ℕ) → x ≡ before ++ (w ++ r) → n ≡ length before → length x < 2 ^ 64
    → (place_after n (length w) ≡ length (before ++ w)) × ((place_after n (length w) ≡ n + length w) × (n + length w ≤ length x))
after_more x before w r n p e h =
    let size = ap length p ∙ length-append before (w ++ r) in
    let more = length-append w r in
    let both = length-append before w in
    (omega (arith, h, e, size, more, both), (omega (arith, h, e, size, more), omega (arith, e, size, more)))

split_more : (x before w r : List ℕ) → x ≡ before ++ (w ++ r) → x ≡ (before ++ w) ++ r
split_more x before w r p = p ∙ sym (append_assoc before w r)

some_token : (u : Bool) (x w : List ℕ) (t : _) (r : List ℕ) → Longest u x t w r → 0 < length (encode_utf8_all w)
some_token u x [] t r g = absurd (no_start u t (terminal-accepted u t [] g.is_terminal))
some_token u x (c ∷ w) t r g = some_bytes_of (c ∷ w) (nonempty c w)

pub cut-spans : (u : Bool) (x before : List ℕ) (m : Gap) (n l : ℕ) (y : List ℕ) (ts : List Lexeme) (e : CutEnd) → length x < 2 ^ 64 → x ≡ before ++ y → n ≡ length before → l ≤ n
    → Cut u m n l y ts e → AreSpans u x l ts
cut-spans u x before _ n l y _ _ h p k b (ended q) = tt
cut-spans u x before _ n l y ts e h p k b (space c r q i d) =
    let there = p ∙ ap (λ z. before ++ z) q in
    let more = after_more x before (c ∷ []) r n there k h in
    cut-spans u x (before ++ c ∷ []) Between (place_after n 1) l r ts e h (split_more x before (c ∷ []) r there) more.0 (omega (arith, b, more.1.0)) d
cut-spans u x before _ n l y ts e h p k b (hash r q d) =
    let there = p ∙ ap (λ z. before ++ z) q in
    let more = after_more x before (35 ∷ []) r n there k h in
    cut-spans u x (before ++ 35 ∷ []) InComment (place_after n 1) l r ts e h (split_more x before (35 ∷ []) r there) more.0 (omega (arith, b, more.1.0)) d
cut-spans u x before _ n l y ts e h p k b (comment c r q i j d) =
    let there = p ∙ ap (λ z. before ++ z) q in
    let more = after_more x before (encode_utf8 c) r n there k h in
    cut-spans u x (before ++ encode_utf8 c) InComment (place_after n (length (encode_utf8 c))) l r ts e h (split_more x before (encode_utf8 c) r there) more.0 (omega (arith, b, more.1.0)) d
cut-spans u x before _ n l y ts e h p k b (line_end i d) = cut-spans u x before Between n l y ts e h p k b d
cut-spans u x before _ n l y _ _ h p k b (bad_comment i j) = tt
cut-spans u x before _ n l y _ e h p k b (token {ts = ts} t w r j g i d) =
    let bytes = encode_utf8_all w in
    let there = p ∙ ap (λ z. before ++ z) g.parts in
    let more = after_more x before bytes r n there k h in (
      record {
        before = before;
        bytes = bytes;
        after = r;
        parts = there;
        starts = k;
        ends = more.1.0;
        apart = b;
        some = omega (arith, more.1.0, some_token u y w t r g);
        within = omega (arith, more.1.0, more.1.1);
        is_token = record { terminal = t; characters = w; spelled = refl; is_terminal = g.is_terminal; is_kind = i };
        has_bytes = refl;
      },
      cut-spans u x (before ++ bytes) Between (place_after n (length bytes)) (place_after n (length bytes)) r ts e h (split_more x before bytes r there) more.0 (omega arith) d,
    )
cut-spans u x before _ n l y _ _ h p k b (no_kind t w r g i) = tt
cut-spans u x before _ n l y _ _ h p k b (no_token c r q i j a) = tt

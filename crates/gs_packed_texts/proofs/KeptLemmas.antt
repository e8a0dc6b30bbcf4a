-- Packed texts with one text more, and a reader after one.
use Rattle.std.proofs.Common.{◌≡◌, ℕ, ◌+◌, ◌-◌, ◌≤◌, List, [], ◌∷◌, ◌++◌, length, take, drop, ap, sym, ◌∙◌, refl, arith, length-append}
use Rattle.std.specs.List.{sum}
use Rattle.std.proofs.lemmas.List.{drop-drop, drop_all, take_rest}
use Rattle.gs_packed_texts.specs.Packing.{TextMark, text_mark_of, Memory, Source, piece_of, text_by, memory_after, pieces_after, next_text, left_after, unpacked, cut_by, source_of}
use Rattle.gs_packed_texts.specs.Kept.{own_by, own_in, own_counts, left_after_all, span_in, parts_in, memory_in, window_after, IsSpanIn, IsWindowIn, IsPacked, IsReady, IsWindowPlace}
use Rattle.gs_packed_texts.specs.declared.places.Place.{Place}
use Rattle.gs_packed_texts.specs.declared.windows.Span.{Span}
use Rattle.gs_packed_texts.specs.declared.windows.Window.{Window}
use Rattle.gs_packed_texts.proofs.PackingLemmas.{unpacked_push, after_all_push, own_in_push, with_more, unpacked_more, after_all_more, length_cut, cut_more, sum_more, own_pieces, text_of_own, pieces_of_own, length_own, text_of_first, pieces_after_first, sum_of_first}
use Rattle.gs_packed_texts.proofs.SpanLemmas.{span_last, memory_more, window_in_more, text_after, memory_of_after, window_in_after}

-- A text more: these are its mark and its own bytes, which stand in this span.
pub record IsMore (x : List ℕ) (w : Window) (t : List ℕ) (m : TextMark) (own : List ℕ) (s : Span) : Type 0 where
  pub text : text_by m (memory_in x w) own ≡ t
  pub none : own_by m ≡ 0 → own ≡ []
  pub start : s.start ≡ length x
  pub count : s.count ≡ length own

-- the text that is placed, where what is left of it after a front are its own bytes
pub more_placed :
    (x y t : List ℕ) (w : Window) (p : Place) (start : ℕ) → IsWindowPlace y w t p → y ≡ x → start ≡ length x
    → IsMore x w t (text_mark_of p.mark) (take (length t - p.front) (drop p.front t)) (record { start = start; count = length (take (length t - p.front) (drop p.front t)) })
more_placed x y t w p start h same at =
    let own : take (length t - p.front) (drop p.front t) ≡ drop p.front t = take_rest t p.front in
    record {
      text = ap (λ z. text_by (text_mark_of p.mark) (memory_in x w) z) own ∙ (ap (λ z. text_by (text_mark_of p.mark) (memory_in z w) (drop p.front t)) (sym same) ∙ h.text);
      none = λ e. own ∙ drop_all p.front t (omega (arith, h.none e));
      start = at;
      count = refl;
    }

-- it adds its own bytes to what is read
source_push :
    (m : TextMark) (cs x own : List ℕ) → sum cs ≡ length x → (own_by m ≡ 0 → own ≡ [])
    → source_of (cs ++ own_counts m (length own)) (x ++ own) ≡ with_more (source_of cs x) (own_pieces m own)
source_push m cs x own h none = rw (cut_more m cs x own h none)

-- what is read after some texts: their windows' memories, and pieces
abbrev end_of : List ℕ → Window → Window → Window → List (List ℕ) → Source
end_of x first second third ps = record { first = memory_in x first; second = memory_in x second; third = memory_in x third; pieces = ps }

-- all that is left after the other texts is what it adds
at_end :
    (ms cs x : List ℕ) (first second third : Window) (e : List (List ℕ)) → IsPacked ms cs x first second third
    → left_after_all ms (with_more (source_of cs x) e) ≡ end_of x first second third e
at_end ms cs x first second third e h =
    let enough : own_in ms ≤ length (cut_by cs x) = omega (arith, length_cut cs x, h.owned) in
    after_all_more ms (source_of cs x) e enough ∙ ap (λ z. with_more z e) h.left

-- its memory after it is that of the window after it
memory_push :
    (x : List ℕ) (w : Window) (t : List ℕ) (m : TextMark) (own : List ℕ) (s : Span) → IsWindowIn (length x) w → IsMore x w t m own s
    → memory_in (x ++ own) (window_after m s w) ≡ memory_after m (text_by m (memory_in x w) (piece_of (own_pieces m own))) (memory_in x w)
memory_push x w t m own s h more =
    memory_of_after m (x ++ own) s w (window_in_more x own w h)
    ∙ (ap (λ z. memory_after m (text_by m z (span_in (x ++ own) s)) z) (memory_more x own w h)
    ∙ (ap (λ z. memory_after m (text_by m (memory_in x w) z) (memory_in x w)) (span_last x own s more.start more.count)
    ∙ ap (λ z. memory_after m z (memory_in x w)) (sym (text_of_own m (memory_in x w) own))))

-- nothing is left after it, and the memories are those of the windows
end_push :
    (x : List ℕ) (first second third : Window) (t : List ℕ) (m : TextMark) (own : List ℕ) (s : Span)
    → IsWindowIn (length x) first → IsWindowIn (length x) second → IsWindowIn (length x) third → IsMore x first t m own s
    → left_after m (end_of x first second third (own_pieces m own)) ≡ end_of (x ++ own) second third (window_after m s first) []
end_push x first second third t m own s h1 h2 h3 more =
    let f : Memory → Memory → Memory → List (List ℕ) → Source = λ a b c ps. record { first = a; second = b; third = c; pieces = ps } in
    let third' : Memory = memory_after m (text_by m (memory_in x first) (piece_of (own_pieces m own))) (memory_in x first) in
    ap (f (memory_in x second) (memory_in x third) third') (pieces_of_own m own)
    ∙ (ap (λ z. f (memory_in x second) (memory_in x third) z []) (sym (memory_push x first t m own s h1 more))
    ∙ (ap (λ z. f (memory_in x second) z (memory_in (x ++ own) (window_after m s first)) []) (sym (memory_more x own third h3))
    ∙ ap (λ z. f z (memory_in (x ++ own) third) (memory_in (x ++ own) (window_after m s first)) []) (sym (memory_more x own second h2))))

-- so packed texts are kept so with one text more
pub packed_push :
    (ms cs x : List ℕ) (first second third : Window) (t : List ℕ) (b : ℕ) (own : List ℕ) (s : Span) → IsPacked ms cs x first second third
    → IsMore x first t (text_mark_of b) own s
    → IsPacked (ms ++ b ∷ []) (cs ++ own_counts (text_mark_of b) (length own)) (x ++ own) second third (window_after (text_mark_of b) s first)
packed_push ms cs x first second third t b own s h more =
    let m : TextMark = text_mark_of b in
    let e : List (List ℕ) = own_pieces m own in
    let from : Source = source_of cs x in
    let inside : IsSpanIn (length (x ++ own)) s = omega (arith, length-append x own, more.start, more.count) in
    record {
      counted = sum_more m cs x own h.counted more.none;
      owned = omega (arith, own_in_push ms b, h.owned, length_own m (length own), length-append cs (own_counts m (length own)));
      first_in = window_in_more x own second h.second_in;
      second_in = window_in_more x own third h.third_in;
      third_in = window_in_after m (length (x ++ own)) s first (window_in_more x own first h.first_in) inside;
      left =
          ap (left_after_all (ms ++ b ∷ [])) (source_push m cs x own h.counted more.none)
          ∙ (after_all_push ms b (with_more from e)
          ∙ (ap (left_after m) (at_end ms cs x first second third e h)
          ∙ end_push x first second third t m own s h.first_in h.second_in h.third_in more));
    }

-- and that text stands at the end
pub texts_push :
    (ms cs x : List ℕ) (first second third : Window) (t : List ℕ) (b : ℕ) (own : List ℕ) (s : Span) → IsPacked ms cs x first second third
    → IsMore x first t (text_mark_of b) own s
    → unpacked (ms ++ b ∷ []) (source_of (cs ++ own_counts (text_mark_of b) (length own)) (x ++ own)) ≡ unpacked ms (source_of cs x) ++ t ∷ []
texts_push ms cs x first second third t b own s h more =
    let m : TextMark = text_mark_of b in
    let e : List (List ℕ) = own_pieces m own in
    let from : Source = source_of cs x in
    let enough : own_in ms ≤ length (cut_by cs x) = omega (arith, length_cut cs x, h.owned) in
    ap (unpacked (ms ++ b ∷ [])) (source_push m cs x own h.counted more.none)
    ∙ (unpacked_push ms b (with_more from e)
    ∙ (ap (λ z. z ++ next_text m (left_after_all ms (with_more from e)) ∷ []) (unpacked_more ms from e enough)
    ∙ ap (λ z. unpacked ms from ++ z ∷ [])
    (ap (next_text m) (at_end ms cs x first second third e h) ∙ (text_of_own m (memory_in x first) own ∙ more.text))))

-- a reader is ready after a text
pub ready_next :
    (ms cs x : List ℕ) (at k b : ℕ) (first second third : Window) → IsReady (b ∷ ms) (own_counts (text_mark_of b) k ++ cs) x at first second third
    → (own_by (text_mark_of b) ≡ 0 → k ≡ 0)
    → IsReady ms cs x (at + k) second third (window_after (text_mark_of b) (record { start = at; count = k }) first)
ready_next ms cs x at k b first second third h none =
    let m : TextMark = text_mark_of b in
    let own : Span = record { start = at; count = k } in
    let whole : sum (own_counts m k ++ cs) ≡ k + sum cs = sum_of_first m k cs none in
    let inside : IsSpanIn (length x) own = omega (arith, h.counted) in
    record {
      counted = omega (arith, h.counted);
      owned = omega (arith, h.owned, length_own m k, length-append (own_counts m k) cs);
      first_in = h.second_in;
      second_in = h.third_in;
      third_in = window_in_after m (length x) own first h.first_in inside;
    }

-- the first text is the one that the reader gives, and the others are those that it has before it then
pub left_next :
    (ms cs x : List ℕ) (at k b : ℕ) (first second third : Window) → IsWindowIn (length x) first → (own_by (text_mark_of b) ≡ 0 → k ≡ 0)
    → unpacked (b ∷ ms) (end_of x first second third (cut_by (own_counts (text_mark_of b) k ++ cs) (drop at x)))
    ≡ parts_in x (window_after (text_mark_of b) (record { start = at; count = k }) first).last
    ∷ unpacked ms (end_of x second third (window_after (text_mark_of b) (record { start = at; count = k }) first) (cut_by cs (drop (at + k) x)))
left_next ms cs x at k b first second third h none =
    let m : TextMark = text_mark_of b in
    let own : Span = record { start = at; count = k } in
    let mem : Memory = memory_in x first in
    let rest : List (List ℕ) = cut_by (own_counts m k ++ cs) (drop at x) in
    let count : k ≡ at + k - at = omega arith in
    let text : text_by m mem (piece_of rest) ≡ text_by m mem (span_in x own) =
    text_of_first m mem k cs (drop at x) ∙ ap (λ n. text_by m mem (take n (drop at x))) count in
    let memory : memory_after m (text_by m mem (piece_of rest)) mem ≡ memory_in x (window_after m own first) =
    ap (λ z. memory_after m z mem) text ∙ sym (memory_of_after m x own first h) in
    let pieces : pieces_after m rest ≡ cut_by cs (drop (at + k) x) =
    pieces_after_first m k cs (drop at x) none ∙ ap (cut_by cs) (drop-drop k at x) in
    let f : Memory → List (List ℕ) → Source = λ a ps. record { first = memory_in x second; second = memory_in x third; third = a; pieces = ps } in
    ap (λ z. z ∷ unpacked ms (f (memory_after m (text_by m mem (piece_of rest)) mem) (pieces_after m rest))) (text ∙ sym (text_after m x own first h))
    ∙ (ap (λ z. parts_in x (window_after m own first).last ∷ unpacked ms (f z (pieces_after m rest))) memory
    ∙ ap (λ z. parts_in x (window_after m own first).last ∷ unpacked ms (f (memory_in x (window_after m own first)) z)) pieces)

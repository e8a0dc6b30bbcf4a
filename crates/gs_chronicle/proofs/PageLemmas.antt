-- One row more.
use Rattle.std.proofs.Common.{◌≡◌, ℕ, ◌+◌, List, [], ◌∷◌, ◌++◌, length, map, refl, sym, ap, ◌∙◌, arith}
use Rattle.std.specs.List.{range_with_len}
use Rattle.std.proofs.lemmas.List.{map_push, length_push, length-map}
use Rattle.std.proofs.lemmas.List.FromFn.{map-range_with_len_more}
use Rattle.gs_chronicle.specs.declared.entries.Entry.{Entry}
use Rattle.gs_chronicle.specs.Pages.{Row, Decided, AreNumbered}
use Rattle.gs_chronicle.specs.Rows.{row_of, rows_of}

map-same : (xs : List ℕ) → map (λ x. x) xs ≡ xs
map-same [] = refl
map-same (x ∷ xs) = ap (λ ys. x ∷ ys) (map-same xs)

range_with_len-push : (n : ℕ) → range_with_len 0 (n + 1) ≡ range_with_len 0 n ++ n ∷ []
range_with_len-push n = sym (map-same (range_with_len 0 (n + 1))) ∙ map-range_with_len_more (λ x. x) 0 n n (omega arith) ∙ ap (λ xs. xs ++ n ∷ []) (map-same (range_with_len 0 n))

-- rows are numbered, the last one too, whose number is how many stand before it
pub AreNumbered-push : (rows : List Row) (r : Row) → AreNumbered rows → r.number ≡ length rows → AreNumbered (rows ++ r ∷ [])
AreNumbered-push rows r h e =
    map_push (λ (x : Row). x.number) rows r
    ∙ (λ i. h i ++ e i ∷ [])
    ∙ sym (range_with_len-push (length rows))
    ∙ ap (range_with_len 0) (sym (length_push rows r))

-- an entry more shows a row more
pub rows_of-push : (es new : List Entry) (e : Entry) (n : ℕ) (d : Decided) → new ≡ es ++ e ∷ [] → row_of e ≡ record { number = n; call = d } → n ≡ length es
    → rows_of new ≡ rows_of es ++ record { number = length (rows_of es); call = d } ∷ []
rows_of-push es new e n d more row place =
    ap rows_of more ∙ map_push row_of es e ∙ ap (λ (r : Row). rows_of es ++ r ∷ []) (row ∙ ap (λ (k : ℕ). record { number = k; call = d }) (place ∙ sym (length-map es row_of)))

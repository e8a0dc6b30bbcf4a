-- A hash map whose keys are texts, as a finite map.
use Rattle.std.proofs.Common.{◌≡◌, ℕ, ◌+◌, cond, List, [], ◌∷◌, map, refl, sym, ap, ◌∙◌, Some, None, string_bytes, String, arith}
use Rattle.std.specs.Prelude.{nat_eq, ◌&&◌}
use Rattle.std.proofs.lemmas.Bool.Decides.{nat_tests}
use Rattle.std.specs.Ordering.{nat_cmp, is_eq}
use Rattle.std.specs.Cmp.Lexicographic.{slice_cmp}
use Rattle.std.specs.FinMap as finite
use Rattle.std.specs.FinMap.{find, get-from_entries, get-insert, same_map, slice_cmp-IsAntisymmetric, nat_cmp-IsAntisymmetric}
use Rattle.std.specs.Cmp.Lexicographic.{nat_list_cmp_total}
use Rattle.std.specs.HashMap as hash
use Rattle.std.specs.HashMap.{HashMap}
use Rattle.std.specs.Map.{lookup}
use Rattle.std.specs.String.{string_eq}
use Rattle.std.specs.Str.{bytes_eq}
use Rattle.std.proofs.lemmas.Map.Text.{hash_map_updates_text, is_eq-slice_cmp}
use Rattle.gs_blank.specs.Numbers.{Numbers, label_number, label_numbered, known, with_label}

pub turned : (x y : List ℕ) → bytes_eq x y ≡ bytes_eq y x
turned [] [] = refl
turned [] (y ∷ ys) = refl
turned (x ∷ xs) [] = refl
turned (x ∷ xs) (y ∷ ys) = let h : nat_eq x y ≡ nat_eq y x = grind (arith, nat_tests) in
    ap (λ b. b && bytes_eq xs ys) h ∙ ap (λ b. nat_eq y x && b) (turned xs ys)

pub number-known : (n : Numbers) (label : List ℕ) (k : ℕ) → known n label ≡ Some k → label_number n label ≡ (k, n)
number-known n label k h = ap (label_numbered n label) h

pub number-new : (n : Numbers) (label : List ℕ) → known n label ≡ None → label_number n label ≡ (n.1 + 1, with_label n label)
number-new n label h = ap (label_numbered n label) h

-- an entry with its key's bytes
abbrev pub as_text : {Z : Type 0} → String Z × ℕ → List ℕ × ℕ
as_text e = (string_bytes e.0, e.1)

pub find-texts : {Z : Type 0} (q : List ℕ) (es : List (String Z × ℕ)) → find (slice_cmp nat_cmp) q (map as_text es) ≡ lookup (λ k. bytes_eq q (string_bytes k)) es
find-texts q [] = refl
find-texts q (e ∷ es) = ap (λ b. cond b (Some e.1) (find (slice_cmp nat_cmp) q (map as_text es))) (is_eq-slice_cmp q (string_bytes e.0))
    ∙ ap (λ r. cond (bytes_eq q (string_bytes e.0)) (Some e.1) r) (find-texts q es)

module _ {Z S : Type 0} where
  abbrev pub texts_of : HashMap (String Z) ℕ S → finite.FinMap (slice_cmp nat_cmp) ℕ
  texts_of m = finite.from_entries (map as_text m.entries)

  pub get-texts : (m : HashMap (String Z) ℕ S) (q : List ℕ) → finite.get (texts_of m) q ≡ hash.get_by_text m q
  get-texts m q = get-from_entries nat_list_cmp_total (map as_text m.entries) q ∙ find-texts q m.entries

  -- an insertion
  pub texts-insert : (m n : HashMap (String Z) ℕ S) (label : List ℕ) (k : ℕ) → hash.UpdatesBy string_eq (λ s. bytes_eq label (string_bytes s)) m n (Some k)
      → texts_of n ≡ finite.insert (texts_of m) label k
  texts-insert m n label k h = same_map nat_list_cmp_total (slice_cmp-IsAntisymmetric nat_cmp-IsAntisymmetric) (texts_of n) (finite.insert (texts_of m) label k) (λ q.
      get-texts n q ∙ hash_map_updates_text label m n (Some k) h q
      ∙ ap (λ b. cond b (Some k) (hash.get_by_text m q)) (turned label q ∙ sym (is_eq-slice_cmp q label))
      ∙ ap (cond (is_eq (slice_cmp nat_cmp q label)) (Some k)) (sym (get-texts m q))
      ∙ sym (get-insert nat_list_cmp_total (texts_of m) label k q))

  -- a label that is looked up
  pub look-up : (n : Numbers) (m : HashMap (String Z) ℕ S) (last : ℕ) (label : List ℕ) → (texts_of m, last) ≡ n → known n label ≡ hash.get_by_text m label
  look-up n m last label e = ap (λ (u : Numbers). finite.get u.0 label) (sym e) ∙ get-texts m label

-- A tree of texts as a finite map.
use Rattle.std.proofs.Common.{◌≡◌, ℕ, Bool, true, false, cond, List, [], ◌∷◌, map, refl, sym, ap, ◌∙◌, Option, Some, string_bytes, String}
use Rattle.std.specs.Prelude.{option_map}
use Rattle.std.specs.Ordering.{nat_cmp, is_eq}
use Rattle.std.specs.Cmp.Lexicographic.{slice_cmp, nat_list_cmp_total}
use Rattle.std.specs.FinMap as finite
use Rattle.std.specs.FinMap.{find, get-from_entries, get-insert, same_map, slice_cmp-IsAntisymmetric, nat_cmp-IsAntisymmetric}
use Rattle.std.specs.BTreeMap as tree
use Rattle.std.specs.BTreeMap.{BTreeMap, is_at}
use Rattle.std.specs.Map.{lookup}
use Rattle.std.specs.String.{string_cmp}
use Rattle.std.specs.Str.{bytes_eq}
use Rattle.std.proofs.lemmas.Map.Text.{btree_map_updates_text, is_eq-slice_cmp}
use Rattle.gs_blank.proofs.NumbersLemmas.{turned}
use Rattle.gs_token_terms.specs.Prefixes.{as_texts, prefix_texts}
use Rattle.gs_token_terms.specs.declared.prefixes.Absolute.{Absolute}

-- the bytes of an IRI
abbrev iri_bytes : Absolute → List ℕ
iri_bytes v = string_bytes v.text

bytes_if : (b : Bool) (x : Absolute) (o : Option Absolute) → option_map iri_bytes (cond b (Some x) o) ≡ cond b (Some (iri_bytes x)) (option_map iri_bytes o)
bytes_if true x o = refl
bytes_if false x o = refl

module _ {Y : Type 0} where
  find-texts : (q : List ℕ) (es : List (String Y × Absolute)) → find (slice_cmp nat_cmp) q (map as_texts es) ≡ option_map iri_bytes (lookup (is_at (λ k. slice_cmp nat_cmp q (string_bytes k))) es)
  find-texts q [] = refl
  find-texts q (e ∷ es) = ap (λ r. cond (is_eq (slice_cmp nat_cmp q (string_bytes e.0))) (Some (iri_bytes e.1)) r) (find-texts q es) ∙ sym (bytes_if _ e.1 _)

  pub get-texts : (m : BTreeMap (String Y) Absolute) (q : List ℕ) → finite.get (prefix_texts m) q ≡ option_map (λ v. string_bytes v.text) (tree.get_by_text m q)
  get-texts m q = get-from_entries nat_list_cmp_total (map as_texts m.entries) q ∙ find-texts q m.entries

  -- an insertion
  pub texts-insert : (m n : BTreeMap (String Y) Absolute) (key : List ℕ) (v : Absolute) → tree.UpdatesBy string_cmp (λ s. slice_cmp nat_cmp key (string_bytes s)) m n (Some v)
      → prefix_texts n ≡ finite.insert (prefix_texts m) key (string_bytes v.text)
  texts-insert m n key v h = same_map nat_list_cmp_total (slice_cmp-IsAntisymmetric nat_cmp-IsAntisymmetric) (prefix_texts n) (finite.insert (prefix_texts m) key (iri_bytes v)) (λ q.
      get-texts n q ∙ ap (option_map iri_bytes) (btree_map_updates_text key m n (Some v) h q)
      ∙ bytes_if (bytes_eq key q) v (tree.get_by_text m q)
      ∙ ap (λ b. cond b (Some (iri_bytes v)) (option_map iri_bytes (tree.get_by_text m q))) (turned key q ∙ sym (is_eq-slice_cmp q key))
      ∙ ap (cond (is_eq (slice_cmp nat_cmp q key)) (Some (iri_bytes v))) (sym (get-texts m q))
      ∙ sym (get-insert nat_list_cmp_total (prefix_texts m) key (iri_bytes v) q))

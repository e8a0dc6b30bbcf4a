-- A piece of the lines of a root, from the keys that were found, and the laws of lines.
use Rattle.std.proofs.Common.{◌≡◌, ℕ, zero, suc, ◌+◌, ◌-◌, ◌<◌, min, false, nat_le, List, [], ◌∷◌, map, length, get_or, take, drop, slice_get, Option, Some, None, sym, ap, ◌∙◌, subst, arith}
use Rattle.std.specs.List.{concat}
use Rattle.std.proofs.lemmas.Bool.Decides.{nat_tests}
use Rattle.std.proofs.lemmas.List.{length-map, take-map, drop-map, take-take, length-take, length-take-le, take-append-drop, get_or-take}
use Rattle.std.proofs.lemmas.Option.{slice_get-get_or}
use Rattle.gs_model.specs.Triples.{line_of}
use Rattle.gs_model.specs.Graphs.{lines_of}
use Rattle.gs_term.specs.declared.names.Target.TheVariants.{Default}
use Rattle.gs_pool.specs.declared.nodes.Key.{Key}
use Rattle.gs_pool.specs.Pool.{Nodes}
use Rattle.gs_tree.specs.Tree.{keys, tree_at}
use Rattle.gs_tree.specs.Keys.{AllKeys}
use Rattle.gs_tree.specs.Reading.{keys_at, keys_from}
use Rattle.gs_tree.proofs.FromLemmas.{from_all}
use Rattle.gs_tree.proofs.KeysAfter.{all_from, left_after, cut_at}
use Rattle.gs_tree.proofs.Order.{AllKeys-front}
use Rattle.gs_keys.specs.Texts.{Terms, KeepTerms, key_cmp, key_total, IsGiven}
use Rattle.gs_keys.specs.Roots.{IsGraphAt, graph_of_root}
use Rattle.gs_keys.proofs.KeyLemmas.{triples_of_keys}
use Rattle.gs_lines.specs.declared.pieces.Piece.{Piece}
use Rattle.gs_lines.specs.Pieces.{line_at, bytes_of, keys_left, lines_from, last_key, IsCursor, IsPiece}
use Rattle.gs_lines.proofs.LineLemmas.{lines_of_triples, lines_kept}

-- where one key more than asked was looked for, as many came as were asked exactly where no more are left
pub ends : (found left count : ℕ) → found ≡ min (count + 1) left → nat_le found count ≡ nat_le left count
ends found left count is = grind (arith, nat_tests)

-- where it is not the end, more are left
pub goes_on : (left count : ℕ) → nat_le left count ≡ false → count < left
goes_on left count e = grind (arith, nat_tests)

-- a key of those whose numbers have terms is a place to read from
given_at : (terms : Terms) (ks : List Key) (i : ℕ) → AllKeys (IsGiven terms) ks → IsCursor terms (slice_get ks i)
given_at terms [] i h = tt
given_at terms (k ∷ ks) zero h = h.0
given_at terms (k ∷ ks) (suc i) h = given_at terms ks i h.1

-- the last of the first elements
pub last_taken : {A : Type 0} (xs : List A) (n : ℕ) (d : A) → n < length xs → slice_get (take (n + 1) xs) (length (take (n + 1) xs) - 1) ≡ Some (get_or xs n d)
last_taken xs n d h =
    let long : length (take (n + 1) xs) ≡ n + 1 = length-take-le (n + 1) xs (omega arith) in
    let place : length (take (n + 1) xs) - 1 ≡ n = omega arith in
    ap (slice_get (take (n + 1) xs)) place ∙ slice_get-get_or (take (n + 1) xs) n d (omega arith) ∙ ap Some (get_or-take (n + 1) xs n d (omega arith))

pub any_key : Key
any_key = record { subject = 0; predicate = 0; object = 0 }

module _ (terms : Terms) (p : Nodes) (root : Option ℕ) (graph : IsGraphAt terms p root) where
  -- the numbers of the keys from a place on have terms
  pub left_given : (from : Option Key) → AllKeys (IsGiven terms) (keys_left terms p root from)
  left_given from = all_from (key_cmp terms) (IsGiven terms) from (keys_at p root) graph.given

  taken_given : (from : Option Key) (n : ℕ) → AllKeys (IsGiven terms) (take n (keys_left terms p root from))
  taken_given from n =
      let ks = keys_left terms p root from in
      AllKeys-front (IsGiven terms) (take n ks) (drop n ks) (subst (AllKeys (IsGiven terms)) (sym (take-append-drop n ks)) (left_given from))

  -- the first of those that were found are the first of all
  kept_first : (from : Option Key) (count : ℕ) (found kept : List Key) → found ≡ take (count + 1) (keys_left terms p root from) → kept ≡ take count found → kept ≡ take count (keys_left terms p root from)
  kept_first from count found kept found_is kept_is = kept_is ∙ ap (take count) found_is ∙ take-take count (count + 1) (keys_left terms p root from) (omega arith)

  -- so their numbers have terms
  pub kept_given : (from : Option Key) (count : ℕ) (found kept : List Key) → found ≡ take (count + 1) (keys_left terms p root from) → kept ≡ take count found → AllKeys (IsGiven terms) kept
  kept_given from count found kept found_is kept_is = subst (AllKeys (IsGiven terms)) (sym (kept_first from count found kept found_is kept_is)) (taken_given from count)

  -- after the last of the first keys come the others
  rest_after : (from : Option Key) (n count : ℕ) → count ≡ n + 1 → n < length (keys_left terms p root from)
      → lines_from terms p root (last_key (take count (keys_left terms p root from))) ≡ drop count (lines_from terms p root from)
  rest_after from n count is h =
      let ks = keys_left terms p root from in
      let k = get_or ks n any_key in
      let last : last_key (take count ks) ≡ Some k = ap (λ m. last_key (take m ks)) is ∙ last_taken ks n any_key h in
      let left : keys_left terms p root (Some k) ≡ drop count ks = left_after (key_cmp terms) (key_total terms) from (keys_at p root) (take n ks) k (drop (n + 1) ks) graph.set.rising (cut_at ks n any_key h) ∙ ap (λ m. drop m ks) (sym is) in
      ap (lines_from terms p root) last ∙ ap (map (line_at terms)) left ∙ sym (drop-map (line_at terms) count ks)

  -- the first keys, looked for with one more, make a piece
  pub piece_is : (from : Option Key) (count : ℕ) (found kept : List Key) (piece : Piece) → 0 < count
      → found ≡ take (count + 1) (keys_left terms p root from) → kept ≡ take count found
      → piece.lines.items ≡ bytes_of terms kept → piece.last ≡ last_key kept → piece.is_end ≡ nat_le (length found) count
      → IsPiece terms p root from count piece
  piece_is from count found kept piece some found_is kept_is bytes last end =
      let ks = keys_left terms p root from in
      let first : kept ≡ take count ks = kept_first from count found kept found_is kept_is in
      let last_is : piece.last ≡ last_key (take count ks) = last ∙ ap last_key first in
      let whole : length (lines_from terms p root from) ≡ length ks = length-map ks (line_at terms) in
      let long : length found ≡ min (count + 1) (length (lines_from terms p root from)) = ap length found_is ∙ length-take (count + 1) ks ∙ ap (min (count + 1)) (sym whole) in
      let end_is : piece.is_end ≡ nat_le (length (lines_from terms p root from)) count = end ∙ ends (length found) (length (lines_from terms p root from)) count long in
      record {
        bytes = bytes ∙ ap (bytes_of terms) first ∙ ap concat (sym (take-map (line_at terms) count ks));
        end = end_is;
        last = last_is;
        last_given = subst (IsCursor terms) (sym last_is) (given_at terms (take count ks) (length (take count ks) - 1) (taken_given from count));
        rest = λ more.
            let less : count < length (lines_from terms p root from) = goes_on (length (lines_from terms p root from)) count (sym end_is ∙ more) in
            ap (lines_from terms p root) last_is ∙ rest_after from (count - 1) count (omega arith) (omega arith);
      }

  -- from the beginning on, the lines are those of the graph
  pub all_lines : lines_from terms p root None ≡ lines_of (graph_of_root terms p root)
  all_lines =
      let ks = keys_at p root in
      ap (map (line_at terms)) (from_all (key_cmp terms) ks) ∙ lines_of_triples terms Default ks ∙ ap (map line_of) (sym (triples_of_keys terms ks graph.set.rising graph.given))

-- a later pool that has the tree has its lines
pub lines_outlast : (terms later : Terms) → KeepTerms terms later → (p q : Nodes) (root : Option ℕ) (from : Option Key) → IsGraphAt terms p root → tree_at q root ≡ tree_at p root → IsCursor terms from → lines_from later q root from ≡ lines_from terms p root from
lines_outlast terms later keep p q root from graph same cursor =
    ap (λ t. map (line_at later) (keys_from (key_cmp later) from (keys t))) same ∙ lines_kept terms later keep from (keys_at p root) cursor graph.given

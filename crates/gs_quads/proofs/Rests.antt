-- The places after one of those that were left, and the piece that ends there.
use Rattle.std.proofs.Common.{◌≡◌, ℕ, ◌+◌, ◌-◌, ◌<◌, min, true, nat_le, List, [], ◌∷◌, ◌++◌, map, length, get_or, take, drop, slice_get, Option, Some, None, refl, sym, ap, ◌∙◌, subst, inl, inr, arith}
use Rattle.std.specs.List.{All, AllByRecursion, concat}
use Rattle.std.specs.List.Sorted.{IsStrictlySortedBy}
use Rattle.std.proofs.lemmas.Bool.{cases_lt}
use Rattle.std.proofs.lemmas.List.{length-map, length-take, take-map, drop-map, take-take}
use Rattle.std.proofs.lemmas.List.Elements.{All-nil, All-cons, All-append, All-map, All-take, All-get_or, recursion_from_All}
use Rattle.std.proofs.lemmas.Option.{slice_get-get_or, slice_get_past}
use Rattle.gs_pool.specs.declared.nodes.Key.{Key}
use Rattle.gs_pool.specs.Pool.{Nodes}
use Rattle.gs_tree.specs.Keys.{AllKeys}
use Rattle.gs_tree.specs.Reading.{keys_at}
use Rattle.gs_tree.proofs.KeysAfter.{left_after}
use Rattle.gs_keys.specs.Texts.{Terms, key_cmp, key_total, IsGiven}
use Rattle.gs_lines.specs.Pieces.{keys_left}
use Rattle.gs_lines.proofs.PieceLemmas.{ends, goes_on, last_taken, any_key, left_given}
use Rattle.gs_index.specs.Ages.{aged_number_cmp}
use Rattle.gs_index.specs.Indexes.{after_number}
use Rattle.gs_records.specs.Records.{Recorded}
use Rattle.gs_records.specs.Order.{has_number, age_at, AreListed}
use Rattle.gs_quads.specs.declared.pieces.QuadPiece.{QuadPiece}
use Rattle.gs_quads.specs.Places.{Place, root_at, version_numbers, as_places, record_places, all_places, places_left, quad_at, quads_left}
use Rattle.gs_quads.specs.Pieces.{AreGraphs, IsQuadPlace, last_place, IsQuadPiece}
use Rattle.gs_quads.proofs.Lists.{cut_at, none_there, IsCutIn, inside, after, cut_in}
use Rattle.gs_quads.proofs.Numbers.{after_cut, numbers_sorted, numbers_had, had_after}

-- the keys of a record, where the place of one stands among its places
record IsKeyCut (n : ℕ) (ks : List Key) (x : Place) (zs : List Place) : Type 0 where
  key : Key
  before : List Key
  behind : List Key
  place : x ≡ (n, key)
  cut : ks ≡ before ++ key ∷ behind
  rest : zs ≡ as_places n behind

-- with one key more before them
longer_cut : (n : ℕ) (k : Key) (ks : List Key) (x : Place) (zs : List Place) → IsKeyCut n ks x zs → IsKeyCut n (k ∷ ks) x zs
longer_cut n k ks x zs c = record { key = c.key; before = k ∷ c.before; behind = c.behind; place = c.place; cut = ap (λ ys. k ∷ ys) c.cut; rest = c.rest }

-- the place of one is cut out of theirs
key_cut : (n : ℕ) (ks : List Key) (xs : List Place) (x : Place) (zs : List Place) → as_places n ks ≡ xs ++ x ∷ zs → IsKeyCut n ks x zs
key_cut n [] xs x zs e = absurd (none_there xs x zs e)
key_cut n (k ∷ ks) [] x zs e =
    let first : (n, k) ≡ x = cc in
    let others : as_places n ks ≡ zs = cc in
    record { key = k; before = []; behind = ks; place = sym first; cut = refl; rest = sym others }
key_cut n (k ∷ ks) (y ∷ xs) x zs e =
    let others : as_places n ks ≡ xs ++ x ∷ zs = cc in
    longer_cut n k ks x zs (key_cut n ks xs x zs others)

-- a key whose numbers have terms, of a record that the version has
abbrev pub IsAt : Terms → ℕ → Recorded → Place → Type 0
IsAt terms v r x = (has_number v r.records x.0 ≡ true) × IsGiven terms x.1

-- what stands for a place where there is none
any_place : Place
any_place = (0, any_key)

module _ (terms : Terms) (p : Nodes) (v : ℕ) (r : Recorded) (graphs : AreGraphs terms p v r.records) where
  -- the places of keys whose numbers have terms
  own_at : (n : ℕ) → has_number v r.records n ≡ true → (ks : List Key) → AllKeys (IsGiven terms) ks → All (IsAt terms v r) (as_places n ks)
  own_at n has ks h = All-map (IsAt terms v r) (λ k. (n, k)) ks (λ k d lt. (has, given ks h k d lt))
    where
      given : (ks : List Key) → AllKeys (IsGiven terms) ks → All (IsGiven terms) ks
      given [] h = All-nil (IsGiven terms)
      given (k ∷ ks) h = All-cons (IsGiven terms) k ks h.0 (given ks h.1)

  -- those of a record
  in_at : (n : ℕ) → has_number v r.records n ≡ true → (from : Option Key) → All (IsAt terms v r) (record_places terms p r.records from n)
  in_at n has from = own_at n has (keys_left terms p (root_at r.records n) from) (left_given terms p (root_at r.records n) (graphs n has) from)

  -- those of some records
  all_at : (ns : List ℕ) → AllByRecursion (λ n. has_number v r.records n ≡ true) ns → All (IsAt terms v r) (all_places terms p r.records ns)
  all_at [] h = All-nil (IsAt terms v r)
  all_at (n ∷ ns) h = All-append (IsAt terms v r) (record_places terms p r.records None n) (all_places terms p r.records ns) (in_at n h.0 None) (all_at ns h.1)

  -- the version has all of its numbers
  had : AllByRecursion (λ n. has_number v r.records n ≡ true) (version_numbers v r)
  had = recursion_from_All (λ n. has_number v r.records n ≡ true) (version_numbers v r) (numbers_had v r)

  -- all that is left are places
  left_at : (from : Option Place) → IsQuadPlace terms v r.records from → All (IsAt terms v r) (places_left terms p v r from)
  left_at None h = all_at (version_numbers v r) had
  left_at (Some x) h =
      All-append (IsAt terms v r) (record_places terms p r.records (Some x.1) x.0) (all_places terms p r.records (after_number x.0 (version_numbers v r)))
      (in_at x.0 h.0 (Some x.1)) (all_at (after_number x.0 (version_numbers v r)) (had_after (λ n. has_number v r.records n ≡ true) x.0 (version_numbers v r) had))

  -- one of such places, or none, is a place to read from
  place_at : (xs : List Place) (i : ℕ) → All (IsAt terms v r) xs → IsQuadPlace terms v r.records (slice_get xs i)
  place_at xs i h = elim (cases_lt i (length xs)) [
    | inl within ↦ subst (IsQuadPlace terms v r.records) (sym (slice_get-get_or xs i any_place within)) (All-get_or (IsAt terms v r) xs i any_place within h)
    | inr past ↦ subst (IsQuadPlace terms v r.records) (sym (slice_get_past xs i past)) tt
  ]

  module _ (al : AreListed r.records r.listed) where
    -- the numbers of the version
    abbrev ns : List ℕ
    ns = version_numbers v r

    -- they are in order
    sorted : IsStrictlySortedBy (aged_number_cmp (age_at r.records)) ns
    sorted = numbers_sorted v r al

    -- after a key of a record come its other keys, and those of the numbers after it
    here : (n : ℕ) (from : Option Key) (later : List ℕ) → has_number v r.records n ≡ true → after_number n ns ≡ later → (xs : List Place) (x : Place) (ys zs : List Place)
        → record_places terms p r.records from n ≡ xs ++ x ∷ zs → ys ≡ zs ++ all_places terms p r.records later → places_left terms p v r (Some x) ≡ ys
    here n from later has later_is xs x ys zs is others =
        let root = root_at r.records n in
        let c = key_cut n (keys_left terms p root from) xs x zs is in
        let left : keys_left terms p root (Some c.key) ≡ c.behind = left_after (key_cmp terms) (key_total terms) from (keys_at p root) c.before c.key c.behind (graphs n has).set.rising c.cut in
        ap (λ y. places_left terms p v r (Some y)) c.place
        ∙ (λ i. as_places n (left i) ++ all_places terms p r.records (later_is i))
        ∙ sym (others ∙ ap (λ us. us ++ all_places terms p r.records later) c.rest)

    -- the same, wherever the place is among all of these
    walk : (later : List ℕ) (n : ℕ) (from : Option Key) → has_number v r.records n ≡ true → after_number n ns ≡ later → AllByRecursion (λ m. has_number v r.records m ≡ true) later → (xs : List Place) (x : Place) (ys : List Place)
        → record_places terms p r.records from n ++ all_places terms p r.records later ≡ xs ++ x ∷ ys → places_left terms p v r (Some x) ≡ ys
    walk [] n from has later_is all xs x ys e = go (cut_in (record_places terms p r.records from n) [] xs x ys e)
      where
        go : IsCutIn (record_places terms p r.records from n) [] xs x ys → places_left terms p v r (Some x) ≡ ys
        go (inside zs is others) = here n from [] has later_is xs x ys zs is others
        go (after zs is) = absurd (none_there zs x ys is)
    walk (m ∷ later) n from has later_is all xs x ys e =
        go (λ zs is. walk later m None all.0 (after_cut r.records ns sorted (Some n) [] m later later_is) all.1 zs x ys is)
        (cut_in (record_places terms p r.records from n) (all_places terms p r.records (m ∷ later)) xs x ys e)
      where
        go : ((zs : List Place) → all_places terms p r.records (m ∷ later) ≡ zs ++ x ∷ ys → places_left terms p v r (Some x) ≡ ys)
            → IsCutIn (record_places terms p r.records from n) (all_places terms p r.records (m ∷ later)) xs x ys → places_left terms p v r (Some x) ≡ ys
        go farther (inside zs is others) = here n from (m ∷ later) has later_is xs x ys zs is others
        go farther (after zs is) = farther zs is

    -- the same from the beginning on
    first : (later : List ℕ) → ns ≡ later → AllByRecursion (λ m. has_number v r.records m ≡ true) later → (xs : List Place) (x : Place) (ys : List Place)
        → all_places terms p r.records later ≡ xs ++ x ∷ ys → places_left terms p v r (Some x) ≡ ys
    first [] is all xs x ys e = absurd (none_there xs x ys e)
    first (m ∷ later) is all xs x ys e = walk later m None all.0 (after_cut r.records ns sorted None [] m later is) all.1 xs x ys e

    -- after a place of those that are left come those that stand after it
    pub places_after : (from : Option Place) → IsQuadPlace terms v r.records from → (xs : List Place) (x : Place) (ys : List Place) → places_left terms p v r from ≡ xs ++ x ∷ ys → places_left terms p v r (Some x) ≡ ys
    places_after None h xs x ys e = first ns refl had xs x ys e
    places_after (Some y) h xs x ys e = walk (after_number y.0 ns) y.0 (Some y.1) h.0 refl (had_after (λ n. has_number v r.records n ≡ true) y.0 ns had) xs x ys e

    -- after the last of the first places come the others
    rest_after : (from : Option Place) → IsQuadPlace terms v r.records from → (n count : ℕ) → count ≡ n + 1 → n < length (places_left terms p v r from)
        → quads_left terms p v r (last_place (take count (places_left terms p v r from))) ≡ drop count (quads_left terms p v r from)
    rest_after from h n count is lt =
        let xs = places_left terms p v r from in
        let x = get_or xs n any_place in
        let last : last_place (take count xs) ≡ Some x = ap (λ m. last_place (take m xs)) is ∙ last_taken xs n any_place lt in
        let left : places_left terms p v r (Some x) ≡ drop count xs = places_after from h (take n xs) x (drop (n + 1) xs) (cut_at xs n any_place lt) ∙ ap (λ m. drop m xs) (sym is) in
        ap (quads_left terms p v r) last ∙ ap (map (quad_at terms r.records)) left ∙ sym (drop-map (quad_at terms r.records) count xs)

    -- the first places, looked for with one more, make a piece
    pub piece_is : (from : Option Place) (count : ℕ) (found kept : List Place) (many : ℕ) (piece : QuadPiece) → IsQuadPlace terms v r.records from → 0 < count
        → found ≡ take (count + 1) (places_left terms p v r from) → kept ≡ take count found → many ≡ length found
        → piece.lines.items ≡ concat (map (quad_at terms r.records) kept) → piece.last ≡ last_place kept → piece.is_end ≡ nat_le many count
        → IsQuadPiece terms p v r from count piece
    piece_is from count found kept many piece h some found_is kept_is many_is bytes last end =
        let xs = places_left terms p v r from in
        let quads = quads_left terms p v r from in
        let first_is : kept ≡ take count xs = kept_is ∙ ap (take count) found_is ∙ take-take count (count + 1) xs (omega arith) in
        let last_is : piece.last ≡ last_place (take count xs) = last ∙ ap last_place first_is in
        let whole : length quads ≡ length xs = length-map xs (quad_at terms r.records) in
        let long : many ≡ min (count + 1) (length quads) = many_is ∙ ap length found_is ∙ length-take (count + 1) xs ∙ ap (min (count + 1)) (sym whole) in
        let end_is : piece.is_end ≡ nat_le (length quads) count = end ∙ ends many (length quads) count long in
        record {
          bytes = bytes ∙ ap (λ zs. concat (map (quad_at terms r.records) zs)) first_is ∙ ap concat (sym (take-map (quad_at terms r.records) count xs));
          end = end_is;
          last = last_is;
          last_given = subst (IsQuadPlace terms v r.records) (sym last_is) (place_at (take count xs) (length (take count xs) - 1) (All-take (IsAt terms v r) count xs (left_at from h)));
          rest = λ more.
              let less : count < length quads = goes_on (length quads) count (sym end_is ∙ more) in
              ap (quads_left terms p v r) last_is ∙ rest_after from h (count - 1) count (omega arith) (omega arith);
        }

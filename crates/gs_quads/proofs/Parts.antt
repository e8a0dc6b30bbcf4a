-- Keys in runs, as places and as lines.
use Rattle.std.proofs.Common.{◌≡◌, ℕ, suc, ◌+◌, ◌-◌, ◌<◌, ◌≤◌, List, [], ◌∷◌, ◌++◌, length, get_or, take, drop, slice_get, Option, Some, None, refl, sym, ap, ◌∙◌, subst, inl, inr, arith, append_assoc, length-append}
use Rattle.std.proofs.Math.Seq.{take-nil, take-append-add}
use Rattle.std.proofs.lemmas.Bool.{cases_lt}
use Rattle.std.proofs.lemmas.List.{append-nil, length-map, length-drop, length-take, length-take-le, take_all, drop_all, take-map, take-take, drop-take, take-append-le, drop-append-le, drop_more, take-append-drop}
use Rattle.std.proofs.lemmas.List.Sums.{sum_by-cons}
use Rattle.gs_pool.specs.declared.nodes.Key.{Key}
use Rattle.gs_tree.specs.Keys.{AllKeys}
use Rattle.gs_tree.proofs.Order.{AllKeys-front, AllKeys-back}
use Rattle.gs_lines.specs.Graphs.{line_in, bytes_in}
use Rattle.gs_index.specs.declared.entries.Entry.{Entry}
use Rattle.gs_records.specs.Records.{Record, kept, record_at}
use Rattle.gs_records.specs.Order.{entry_of}
use Rattle.gs_quads.specs.declared.runs.Run.{Run}
use Rattle.gs_quads.specs.declared.runs.Source.{Source}
use Rattle.gs_quads.specs.Places.{Place, target_at, as_places}
use Rattle.gs_quads.specs.Pieces.{last_place}
use Rattle.gs_quads.specs.Found.{run_places, bytes_at, run_keys, last_or}

-- what holds of keys holds of the first, and of those after them
pub keys_first : (P : Key → Type 0) (n : ℕ) (ks : List Key) → AllKeys P ks → AllKeys P (take n ks)
keys_first P n ks h = AllKeys-front P (take n ks) (drop n ks) (subst (AllKeys P) (sym (take-append-drop n ks)) h)

-- the same of those after them
pub keys_after : (P : Key → Type 0) (n : ℕ) (ks : List Key) → AllKeys P ks → AllKeys P (drop n ks)
keys_after P n ks h = AllKeys-back P (take n ks) (drop n ks) (subst (AllKeys P) (sym (take-append-drop n ks)) h)

-- runs and keys that go together have as many places as keys
pub places_long : (runs : List Run) (ks : List Key) → run_keys runs ≡ length ks → length (run_places runs ks) ≡ length ks
places_long [] ks whole = whole
places_long (r ∷ runs) ks whole =
    let all : r.keys + run_keys runs ≡ length ks = sym (sum_by-cons (λ (q : Run). q.keys) r runs) ∙ whole in
    let long : length (take r.keys ks) ≡ r.keys = length-take-le r.keys ks (omega arith) in
    let own : length (as_places r.number (take r.keys ks)) ≡ length (take r.keys ks) = length-map (take r.keys ks) (λ k. (r.number, k)) in
    let left : length (drop r.keys ks) ≡ length ks - r.keys = length-drop r.keys ks in
    let rest : length (run_places runs (drop r.keys ks)) ≡ length (drop r.keys ks) = places_long runs (drop r.keys ks) (omega arith) in
    omega (arith, length-append (as_places r.number (take r.keys ks)) (run_places runs (drop r.keys ks)))

-- one run more, with its keys
pub runs_append : (runs : List Run) (r : Run) (ks more : List Key) → run_keys runs ≡ length ks → r.keys ≡ length more → run_places (runs ++ r ∷ []) (ks ++ more) ≡ run_places runs ks ++ as_places r.number more
runs_append [] r [] more whole is = append-nil (as_places r.number (take r.keys more)) ∙ ap (as_places r.number) (take_all r.keys more (omega arith))
runs_append [] r (k ∷ ks) more whole is = let all : 0 ≡ length (k ∷ ks) = whole in absurd (omega arith)
runs_append (q ∷ runs) r ks more whole is =
    let all : q.keys + run_keys runs ≡ length ks = sym (sum_by-cons (λ (u : Run). u.keys) q runs) ∙ whole in
    let left : length (drop q.keys ks) ≡ length ks - q.keys = length-drop q.keys ks in
    let t : take q.keys (ks ++ more) ≡ take q.keys ks = take-append-le q.keys ks more (omega arith) in
    let d : drop q.keys (ks ++ more) ≡ drop q.keys ks ++ more = drop-append-le q.keys ks more (omega arith) in
    let cut : run_places ((q ∷ runs) ++ r ∷ []) (ks ++ more) ≡ as_places q.number (take q.keys ks) ++ run_places (runs ++ r ∷ []) (drop q.keys ks ++ more) = λ i. as_places q.number (t i) ++ run_places (runs ++ r ∷ []) (d i) in
    cut
    ∙ ap (λ xs. as_places q.number (take q.keys ks) ++ xs) (runs_append runs r (drop q.keys ks) more (omega arith) is)
    ∙ sym (append_assoc (as_places q.number (take q.keys ks)) (run_places runs (drop q.keys ks)) (as_places r.number more))

-- no keys make no places
pub none_in : (runs : List Run) → run_places runs [] ≡ []
none_in [] = refl
none_in (r ∷ runs) =
    let t : ◌≡◌ {A = List Key} (take r.keys []) [] = take-nil {A = Key} r.keys in
    let d : ◌≡◌ {A = List Key} (drop r.keys []) [] = drop_all {X = Key} r.keys [] (omega arith) in
    let both : run_places (r ∷ runs) [] ≡ run_places runs [] = λ i. as_places r.number (t i) ++ run_places runs (d i) in
    both ∙ none_in runs

-- fewer keys make the first of the places
pub runs_take : (runs : List Run) (ks : List Key) (m : ℕ) → run_keys runs ≡ length ks → run_places runs (take m ks) ≡ take m (run_places runs ks)
runs_take [] ks m whole = sym (take-nil m)
runs_take (r ∷ runs) ks m whole =
    let count : r.keys + run_keys runs ≡ length ks = sym (sum_by-cons (λ (q : Run). q.keys) r runs) ∙ whole in
    let own = as_places r.number (take r.keys ks) in
    let rest = run_places runs (drop r.keys ks) in
    let long : length (take r.keys ks) ≡ r.keys = length-take-le r.keys ks (omega arith) in
    let own_long : length own ≡ r.keys = length-map (take r.keys ks) (λ k. (r.number, k)) ∙ long in
    elim (cases_lt r.keys m) [
      | inr few ↦
          let short : length (take m ks) ≤ r.keys = omega (arith, length-take m ks) in
          let t : take r.keys (take m ks) ≡ take m ks = take_all r.keys (take m ks) short in
          let d : drop r.keys (take m ks) ≡ [] = drop_all r.keys (take m ks) short in
          let one : run_places (r ∷ runs) (take m ks) ≡ as_places r.number (take m ks) ++ run_places runs [] = λ i. as_places r.number (t i) ++ run_places runs (d i) in
          let ones : take m own ≡ as_places r.number (take m (take r.keys ks)) = take-map (λ k. (r.number, k)) m (take r.keys ks) in
          let first : take m own ≡ as_places r.number (take m ks) = ones ∙ ap (as_places r.number) (take-take m r.keys ks few) in
          let alone : as_places r.number (take m ks) ++ run_places runs [] ≡ as_places r.number (take m ks) = ap (λ xs. as_places r.number (take m ks) ++ xs) (none_in runs) ∙ append-nil (as_places r.number (take m ks)) in
          let all : take m (own ++ rest) ≡ as_places r.number (take m ks) = take-append-le m own rest (omega arith) ∙ first in
          one ∙ alone ∙ sym all
      | inl many ↦
          let j = m - r.keys in
          let m_is : m ≡ r.keys + j = omega arith in
          let t : take r.keys (take m ks) ≡ take r.keys ks = take-take r.keys m ks (omega arith) in
          let d : drop r.keys (take m ks) ≡ take j (drop r.keys ks) = ap (λ n. drop r.keys (take n ks)) m_is ∙ drop-take r.keys j ks in
          let left : length (drop r.keys ks) ≡ length ks - r.keys = length-drop r.keys ks in
          let one : run_places (r ∷ runs) (take m ks) ≡ own ++ run_places runs (take j (drop r.keys ks)) = λ i. as_places r.number (t i) ++ run_places runs (d i) in
          let all : m ≡ length own + j = omega arith in
          let cut : take m (own ++ rest) ≡ own ++ take j rest = ap (λ n. take n (own ++ rest)) all ∙ take-append-add own rest j in
          one ∙ ap (λ xs. own ++ xs) (runs_take runs (drop r.keys ks) j (omega arith)) ∙ sym cut
    ]

-- what stands for a run past the last
abbrev pub no_run : Run
no_run = record { number = 0; keys = 0 }

-- the places of the runs that are left, cut after the first
pub places_cut : (runs : List Run) (ks : List Key) (i : ℕ) → i < length runs
    → run_places (drop i runs) ks ≡ as_places (get_or runs i no_run).number (take (get_or runs i no_run).keys ks) ++ run_places (drop (i + 1) runs) (drop (get_or runs i no_run).keys ks)
places_cut runs ks i within = ap (λ qs. run_places qs ks) (drop_more runs i no_run within)

module _ (s : Source) where
  -- the lines of one record's keys, and those of places after them
  pub bytes_cut : (n : ℕ) (ks : List Key) (xs : List Place) → bytes_at s (as_places n ks ++ xs) ≡ bytes_in s.dict.now.terms (target_at s.records.now.records n) ks ++ bytes_at s xs
  bytes_cut n [] xs = refl
  bytes_cut n (k ∷ ks) xs =
      let graph = target_at s.records.now.records n in
      let line = line_in s.dict.now.terms graph k in
      ap (λ ys. line ++ ys) (bytes_cut n ks xs) ∙ sym (append_assoc line (bytes_in s.dict.now.terms graph ks) (bytes_at s xs))

  -- the lines of the runs that are left, cut after the first, whose record this is
  module _ (runs : List Run) (ks own rest : List Key) (e : Entry) (i : ℕ) (within : i < length runs) (own_is : own ≡ take (get_or runs i no_run).keys ks) (rest_is : rest ≡ drop (get_or runs i no_run).keys ks) (at : record_at s.records.now.records (get_or runs i no_run).number ≡ kept e) where
    -- as bytes
    pub runs_left : bytes_at s (run_places (drop i runs) ks) ≡ bytes_in s.dict.now.terms e.target own ++ bytes_at s (run_places (drop (i + 1) runs) rest)
    runs_left =
        let r = get_or runs i no_run in
        let graph : target_at s.records.now.records r.number ≡ e.target = ap (λ (q : Record). (entry_of q).target) at in
        let first : take r.keys ks ≡ own = sym own_is in
        let others : drop r.keys ks ≡ rest = sym rest_is in
        ap (bytes_at s) (places_cut runs ks i within)
        ∙ bytes_cut r.number (take r.keys ks) (run_places (drop (i + 1) runs) (drop r.keys ks))
        ∙ (λ j. bytes_in s.dict.now.terms (graph j) (first j) ++ bytes_at s (run_places (drop (i + 1) runs) (others j)))

-- the last of two lists of places
pub last_both : (o : Option Place) (xs ys : List Place) → last_or o (xs ++ ys) ≡ last_or (last_or o xs) ys
last_both o [] ys = refl
last_both o (x ∷ xs) ys = last_both (Some x) xs ys

-- the last of places after another
last_some : (y : Place) (xs : List Place) → last_or (Some y) xs ≡ slice_get (y ∷ xs) (length xs)
last_some y [] = refl
last_some y (x ∷ xs) = last_some x xs

-- the last of places, by both definitions
pub last_is : (xs : List Place) → last_or None xs ≡ last_place xs
last_is [] = refl
last_is (x ∷ xs) = let e : length xs ≡ length (x ∷ xs) - 1 = omega arith in last_some x xs ∙ ap (slice_get (x ∷ xs)) e

-- the last of the places of a record's keys
pub last_own : (o : Option Place) (n : ℕ) (ks : List Key) (k : Key) → slice_get ks (length ks - 1) ≡ Some k → last_or o (as_places n ks) ≡ Some (n, k)
last_own o n [] k e = absurd (let bad : None ≡ Some k = e in cc)
last_own o n (x ∷ []) k e = let same : x ≡ k = cc in ap (λ y. Some (n, y)) same
last_own o n (x ∷ y ∷ ks) k e = last_own (Some (n, x)) n (y ∷ ks) k (let place : length (x ∷ y ∷ ks) - 1 ≡ suc (length (y ∷ ks) - 1) = omega arith in sym (ap (slice_get (x ∷ y ∷ ks)) place) ∙ e)

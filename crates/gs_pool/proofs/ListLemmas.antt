-- How each change of the items keeps a list that runs through them.
use Rattle.std.proofs.Common.{◌≡◌, ◌≢◌, ℕ, suc, ◌+◌, ◌<◌, ◌≤◌, Bool, true, false, cond, eqb, List, [], ◌∷◌, ◌++◌, length, get_or, set, Option, Some, None, count_by, slice_get, refl, sym, ap, subst, ◌∙◌, arith, length-set, true≢false}
use Rattle.std.proofs.lemmas.Bool.{eq-eqb, ne_eqb, eqb-true}
use Rattle.std.proofs.lemmas.List.{length_push, get_or-set_same, get_or-set_other, get_or_append_left}
use Rattle.std.proofs.lemmas.List.Sums.{sum_by-set, sum_by_push}
use Rattle.std.proofs.lemmas.Option.{slice_get_within, slice_get-get_or, slice_get_read, get_or_from_slice_get}
use Rattle.gs_pool.specs.Lists.{IsChain, times, IsListOf}

-- a number at the head of a list is in it once more
pub times_same : (x : ℕ) (ys : List ℕ) → times x (x ∷ ys) ≡ 1 + times x ys
times_same x ys = rw (eq-eqb x x refl)

-- another number at the head of a list changes nothing
pub times_other : (x y : ℕ) (ys : List ℕ) → y ≢ x → times x (y ∷ ys) ≡ times x ys
times_other x y ys ne = rw (ne_eqb y x ne) (omega arith)

-- what a list does not have is neither its head nor in its tail
pub times_absent : (x y : ℕ) (ys : List ℕ) → times x (y ∷ ys) ≡ 0 → (y ≢ x) × (times x ys ≡ 0)
times_absent x y ys h =
    let ne : y ≢ x = λ e. let k : times x (x ∷ ys) ≡ 0 = subst (λ z. times x (z ∷ ys) ≡ 0) e h in omega (arith, times_same x ys) in
    (ne, omega (arith, times_other x y ys ne))

-- a tail has no number more often than the list
pub fewer_times : (x y : ℕ) (ys : List ℕ) → times x (y ∷ ys) ≤ 1 → times x ys ≤ 1
fewer_times x y ys h = elim (eqb y x) as (λ b. cond b 1 0 + times x ys ≤ 1 → times x ys ≤ 1) [ true ↦ λ k. omega arith | false ↦ λ k. omega arith ] h

-- a number that was not in a list stands in front of it
one_more : (x id : ℕ) (ids : List ℕ) → times id ids ≡ 0 → times x ids ≤ 1 → times x (id ∷ ids) ≤ 1
one_more x id ids off h =
    elim (eqb id x) as (λ b. eqb id x ≡ b → cond b 1 0 + times x ids ≤ 1) [
      | true ↦ λ e. let same : id ≡ x = eqb-true id x e in let z : times x ids ≡ 0 = subst (λ k. times k ids ≡ 0) same off in omega arith
      | false ↦ λ e. omega arith
    ] refl

-- what is read at a number is its element
pub place_of : {A : Type 0} (items : List A) (id : ℕ) (d : A) → id < length items → d ≡ get_or items id d → slice_get items id ≡ Some d
place_of items id d within read = slice_get_read items (length items) id d refl within read

-- what was written at a number is its element
pub written : {A : Type 0} (items : List A) (id : ℕ) (s : A) → id < length items → slice_get (set items id s) id ≡ Some s
written items id s within = slice_get-get_or (set items id s) id s (omega (arith, length-set items id s)) ∙ ap Some (get_or-set_same items id s s within)

-- another number keeps its element
pub not_written : {A : Type 0} (items : List A) (id y : ℕ) (s was : A) → y ≢ id → slice_get items y ≡ Some was → slice_get (set items id s) y ≡ Some was
not_written items id y s was ne found =
    let within = slice_get_within items y was found in
    slice_get-get_or (set items id s) y s (omega (arith, length-set items id s))
    ∙ ap Some (get_or-set_other items id y s s ne ∙ get_or_from_slice_get items y was s found)

-- how many elements pass a test after a write
pub count-set : {A : Type 0} (test : A → Bool) (items : List A) (id : ℕ) (s d : A) → id < length items → d ≡ get_or items id d → count_by test (set items id s) + cond (test d) 1 0 ≡ count_by test items + cond (test s) 1 0
count-set test items id s d within read =
    rw (← read) at (sum_by-set (λ o. cond (test o) 1 0) items id s d within)

module _ {A : Type 0} (next_of : A → Option ℕ) (test : A → Bool) where
  -- a write at a number that is not on the list keeps the list
  pub IsChain-set : (items : List A) (id : ℕ) (s : A) (first : Option ℕ) (ids : List ℕ) → times id ids ≡ 0 → IsChain next_of test items first ids → IsChain next_of test (set items id s) first ids
  IsChain-set items id s first [] off p = p
  IsChain-set items id s first (y ∷ ys) off p =
      let apart = times_absent id y ys off in
      (p.0, (p.1.0, not_written items id y s p.1.0 apart.0 p.1.1, p.1.2, IsChain-set items id s (next_of p.1.0) ys apart.1 p.1.3))

  -- so does a write that leaves the test and the next number as they were
  IsChain-same : (items : List A) (id : ℕ) (s d : A) (first : Option ℕ) (ids : List ℕ) → slice_get items id ≡ Some d → id < length items → test s ≡ test d → next_of s ≡ next_of d → IsChain next_of test items first ids → IsChain next_of test (set items id s) first ids
  IsChain-same items id s d first [] found within alike next p = p
  IsChain-same items id s d first (y ∷ ys) found within alike next p =
      let rest = IsChain-same items id s d (next_of p.1.0) ys found within alike next p.1.3 in
      elim (eqb y id) as (λ b. eqb y id ≡ b → IsChain next_of test (set items id s) first (y ∷ ys)) [
        | true ↦ λ e.
            let same : y ≡ id = eqb-true y id e in
            let here : slice_get items id ≡ Some p.1.0 = subst (λ z. slice_get items z ≡ Some p.1.0) same p.1.1 in
            let one : p.1.0 ≡ d = cc in
            let now : slice_get (set items id s) y ≡ Some s = subst (λ z. slice_get (set items id s) z ≡ Some s) (sym same) (written items id s within) in
            let onward : next_of p.1.0 ≡ next_of s = ap next_of one ∙ sym next in
            (p.0, (s, now, alike ∙ ap test (sym one) ∙ p.1.2, subst (λ o. IsChain next_of test (set items id s) o ys) onward rest))
        | false ↦ λ e.
            let ne : y ≢ id = λ f. true≢false (sym (eq-eqb y id f) ∙ e) in
            (p.0, (p.1.0, not_written items id y s p.1.0 ne p.1.1, p.1.2, rest))
      ] refl

  -- an element that does not pass the test is not on the list
  off_list : (items : List A) (id : ℕ) (d : A) (first : Option ℕ) (ids : List ℕ) → slice_get items id ≡ Some d → test d ≡ false → IsChain next_of test items first ids → times id ids ≡ 0
  off_list items id d first [] found out p = refl
  off_list items id d first (y ∷ ys) found out p =
      let ne : y ≢ id = λ e.
      let same : slice_get items id ≡ Some p.1.0 = subst (λ z. slice_get items z ≡ Some p.1.0) e p.1.1 in
      let one : d ≡ p.1.0 = cc in
      true≢false (sym p.1.2 ∙ ap test (sym one) ∙ out) in
      times_other id y ys ne ∙ off_list items id d (next_of p.1.0) ys found out p.1.3

  -- an element more keeps the list
  pub IsChain-push : (items : List A) (s : A) (first : Option ℕ) (ids : List ℕ) → IsChain next_of test items first ids → IsChain next_of test (items ++ s ∷ []) first ids
  IsChain-push items s first [] p = p
  IsChain-push items s first (y ∷ ys) p =
      let within = slice_get_within items y _ p.1.1 in
      let kept : slice_get (items ++ s ∷ []) y ≡ Some p.1.0 =
      slice_get-get_or (items ++ s ∷ []) y s (omega (arith, length_push items s))
      ∙ ap Some (get_or_append_left items (s ∷ []) s y within ∙ get_or_from_slice_get items y _ s p.1.1) in
      (p.0, (p.1.0, kept, p.1.2, IsChain-push items s (next_of p.1.0) ys p.1.3))

  -- an element gets onto the list
  pub list_push : (items : List A) (first : Option ℕ) (id : ℕ) (s d : A) → IsListOf next_of test items first → id < length items → d ≡ get_or items id d → test d ≡ false → test s ≡ true → next_of s ≡ first → IsListOf next_of test (set items id s) (Some id)
  list_push items first id s d list within read was now next =
      let off = off_list items id d first list.ids (place_of items id d within read) was list.chain in
      let counted = rw (was, now) at (count-set test items id s d within read) in
      record {
        ids = id ∷ list.ids;
        chain = (refl, (s, written items id s within, now, subst (λ o. IsChain next_of test (set items id s) o list.ids) (sym next) (IsChain-set items id s first list.ids off list.chain)));
        once = λ x. one_more x id list.ids off (list.once x);
        all = omega (arith, list.all);
      }

  -- what holds where the first element leaves the list
  pub record Pops (items : List A) (first : Option ℕ) (id : ℕ) (s d : A) : Type 0 where
    pub within : id < length items
    pub was : test d ≡ true
    pub some : 0 < count_by test items
    pub list : IsListOf next_of test (set items id s) (next_of d)

  -- the first element leaves the list
  pub list_pop : (items : List A) (first : Option ℕ) (id : ℕ) (s d : A) → IsListOf next_of test items first → first ≡ Some id → d ≡ get_or items id d → test s ≡ false → Pops items first id s d
  list_pop items first id s d list is read now = by_ids list.ids list.chain list.once list.all
    where
      by_ids : (ids : List ℕ) → IsChain next_of test items first ids → ((x : ℕ) → times x ids ≤ 1) → length ids ≡ count_by test items → Pops items first id s d
      by_ids [] p once all = absurd (let e : first ≡ None = p in cc)
      by_ids (y ∷ ys) p once all =
          let e : first ≡ Some y = p.0 in
          let same : y ≡ id = cc in
          let found : slice_get items id ≡ Some p.1.0 = subst (λ z. slice_get items z ≡ Some p.1.0) same p.1.1 in
          let within = slice_get_within items id _ found in
          let here = place_of items id d within read in
          let one : p.1.0 ≡ d = cc in
          let was : test d ≡ true = ap test (sym one) ∙ p.1.2 in
          let rest : IsChain next_of test items (next_of d) ys = subst (λ (t : A). IsChain next_of test items (next_of t) ys) one p.1.3 in
          let off : times id ys ≡ 0 = let a = subst (λ z. times id (z ∷ ys) ≤ 1) same (once id) in omega (arith, times_same id ys) in
          let counted = rw (was, now) at (count-set test items id s d within read) in
          let few : suc (length ys) ≡ count_by test items = all in
          record {
            within = within;
            was = was;
            some = omega arith;
            list = record {
              ids = ys;
              chain = IsChain-set items id s (next_of d) ys off rest;
              once = λ x. fewer_times x y ys (once x);
              all = omega arith;
            };
          }

  -- an element that is not on the list is changed, and does not get onto it
  pub list_off : (items : List A) (first : Option ℕ) (id : ℕ) (s d : A) → IsListOf next_of test items first → id < length items → d ≡ get_or items id d → test d ≡ false → test s ≡ false → IsListOf next_of test (set items id s) first
  list_off items first id s d list within read was now =
      let off = off_list items id d first list.ids (place_of items id d within read) was list.chain in
      let counted = rw (was, now) at (count-set test items id s d within read) in
      record {
        ids = list.ids;
        chain = IsChain-set items id s first list.ids off list.chain;
        once = list.once;
        all = omega (arith, list.all);
      }

  -- an element is changed, but neither in what is tested nor in the next number
  pub list_same : (items : List A) (first : Option ℕ) (id : ℕ) (s d : A) → IsListOf next_of test items first → id < length items → d ≡ get_or items id d → test s ≡ test d → next_of s ≡ next_of d → IsListOf next_of test (set items id s) first
  list_same items first id s d list within read alike next =
      let counted = rw alike at (count-set test items id s d within read) in
      record {
        ids = list.ids;
        chain = IsChain-same items id s d first list.ids (place_of items id d within read) within alike next list.chain;
        once = list.once;
        all = omega (arith, list.all);
      }

  -- an element more, which is not on the list
  pub list_more : (items : List A) (first : Option ℕ) (s : A) → IsListOf next_of test items first → test s ≡ false → IsListOf next_of test (items ++ s ∷ []) first
  list_more items first s list now =
      let counted = rw now at (sum_by_push (λ o. cond (test o) 1 0) items s) in
      record {
        ids = list.ids;
        chain = IsChain-push items s first list.ids list.chain;
        once = list.once;
        all = omega (arith, list.all);
      }

  -- a list with no first element is empty
  pub none_listed : (items : List A) (first : Option ℕ) → IsListOf next_of test items first → first ≡ None → count_by test items ≡ 0
  none_listed items first list none = by_ids list.ids list.chain list.all
    where
      by_ids : (ids : List ℕ) → IsChain next_of test items first ids → length ids ≡ count_by test items → count_by test items ≡ 0
      by_ids [] p all = sym all
      by_ids (y ∷ ys) p all = absurd (let e : first ≡ Some y = p.0 in cc)

  -- the first element of a list is an element
  pub first_within : (items : List A) (first : Option ℕ) (id : ℕ) → IsListOf next_of test items first → first ≡ Some id → id < length items
  first_within items first id list is = by_ids list.ids list.chain
    where
      by_ids : (ids : List ℕ) → IsChain next_of test items first ids → id < length items
      by_ids [] p = absurd (let e : first ≡ None = p in cc)
      by_ids (y ∷ ys) p =
          let e : first ≡ Some y = p.0 in
          let same : y ≡ id = cc in
          omega (arith, slice_get_within items y _ p.1.1)

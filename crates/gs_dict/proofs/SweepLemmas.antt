-- The terms that a sweep leaves.
use Rattle.std.proofs.Common.{◌≡◌, ◌⊎◌, ℕ, ◌+◌, ◌<◌, ◌≤◌, ◌&&◌, List, [], length, ap, sym, ◌∙◌, subst, refl, inl, inr, arith, not, nat_le, nat_lt, Bool, true, false, cond, Option, None}
use Rattle.std.proofs.lemmas.Bool.{cases_lt}
use Rattle.std.proofs.lemmas.Bool.Decides.{nat_tests}
use Rattle.std.specs.declared.hash.FoldHasher.{FoldHasher}
use Rattle.gs_texts.specs.declared.places.Place.{Place}
use Rattle.gs_texts.specs.Places.{IsPlaceOf, LiesInBlock, text_in}
use Rattle.gs_dict.specs.declared.chains.Entry.{Entry}
use Rattle.gs_dict.specs.Chains.{AreInBlocks, dict_entry_at, text_at}
use Rattle.gs_dict.specs.Numbering.{term_given}
use Rattle.gs_dict.specs.Sweeping.{is_marked, is_swept, Sweeps}
use Rattle.gs_dict.specs.Kept.{IsDict, ClearsPlaces, given_by_text, terms_of}
use Rattle.gs_dict.proofs.EmptyLemmas.{empty_at}
use Rattle.gs_dict.proofs.TermLemmas.{shown, length-terms_of, get-terms_of, past_none, free_none}
use Rattle.gs_dict.proofs.DictLemmas.{table_placed, dict_loses}

-- three tests, of which the last is turned
all_of : (a b c : Bool) → (a && (b && not c)) ≡ true → (a ≡ true) × ((b ≡ true) × (c ≡ false))
all_of true true true h = absurd (cc)
all_of true true false h = (refl, (refl, refl))
all_of true false c h = absurd (cc)
all_of false b c h = absurd (cc)

some_not : (a b c : Bool) → (a && (b && not c)) ≡ false → (a ≡ false) ⊎ ((b ≡ false) ⊎ (c ≡ true))
some_not true true true h = inr (inr refl)
some_not true true false h = absurd (cc)
some_not true false c h = inr (inl refl)
some_not false b c h = inl refl

-- a test that says which of two an option is
chosen : {X : Type 0} (b : Bool) (x y : Option X) → (b ≡ true → x ≡ None) → (b ≡ false → x ≡ y) → x ≡ cond b None y
chosen true x y taken left = taken refl
chosen false x y taken left = left refl

module _ (marks : List Bool) (from count : ℕ) (blocks : List (List ℕ)) (es fs : List Entry) (clears : ClearsPlaces marks from (from + count) es fs) where
  -- a number that is swept has no text
  swept_empty : (i : ℕ) → i < length es → is_swept marks from count i ≡ true → IsPlaceOf (dict_entry_at fs i).place 0 0 0
  swept_empty i inside swept =
      let p = all_of (nat_le from i) (nat_lt i (from + count)) (is_marked marks i) swept in
      let since : from ≤ i = grind (arith, nat_tests, p.0) in
      let before : i < from + count = grind (arith, nat_tests, p.1.0) in
      clears.cleared i inside since before p.1.1

  -- and any other the place that it had
  unswept_same : (i : ℕ) → i < length es → is_swept marks from count i ≡ false → (dict_entry_at fs i).place ≡ (dict_entry_at es i).place
  unswept_same i inside unswept =
      clears.others i inside
      (elim (some_not (nat_le from i) (nat_lt i (from + count)) (is_marked marks i) unswept) [
        | inl below ↦ inl (grind (arith, nat_tests, below))
        | inr (inl past) ↦ inr (inl (grind (arith, nat_tests, past)))
        | inr (inr marked) ↦ inr (inr marked)
      ])

  -- the place of each number is empty, or what it was
  place_left : (i : ℕ) → i < length es → IsPlaceOf (dict_entry_at fs i).place 0 0 0 ⊎ ((dict_entry_at fs i).place ≡ (dict_entry_at es i).place)
  place_left i inside = by_test (is_swept marks from count i) refl
    where
      by_test :
          (b : Bool) → is_swept marks from count i ≡ b
          → IsPlaceOf (dict_entry_at fs i).place 0 0 0 ⊎ ((dict_entry_at fs i).place ≡ (dict_entry_at es i).place)
      by_test true swept = inl (swept_empty i inside swept)
      by_test false unswept = inr (unswept_same i inside unswept)

  -- the places lie in their blocks
  placed_left : AreInBlocks blocks es → AreInBlocks blocks fs
  placed_left placed = record {
    lies = λ i p.
        let inside : i < length es = omega (arith, clears.count) in
        let P : Place → Type 0 = λ z. LiesInBlock blocks z in
        elim (place_left i inside) [
          | inl empty ↦ record {
            block = omega (arith, empty.block_is, (placed.lies i inside).block);
            inside = omega (arith, empty.offset_is, empty.length_is);
          }
          | inr same ↦ subst P (sym same) (placed.lies i inside)
        ];
  }

  -- a text that is left is what it was
  text_same : (i : ℕ) → (dict_entry_at fs i).place ≡ (dict_entry_at es i).place → text_at blocks fs i ≡ text_at blocks es i
  unfolding text_at
  text_same i same = ap (text_in blocks) same

  text_left : (i : ℕ) → i < length es → (text_at blocks fs i ≡ []) ⊎ (text_at blocks fs i ≡ text_at blocks es i)
  text_left i inside = elim (place_left i inside) [
    | inl empty ↦ inl (empty_at blocks fs i empty.length_is)
    | inr same ↦ inr (text_same i same)
  ]

  -- a dictionary that was swept
  pub dict_swept : (heads : List ℕ) (s : FoldHasher) (last : ℕ) → IsDict blocks es heads s last → IsDict blocks fs heads s last
  dict_swept heads s last d =
      dict_loses blocks blocks es fs heads heads s last d
      (table_placed blocks blocks es fs heads d.table (placed_left d.table.placed) clears.count (λ i p. clears.hash_same i) clears.link_same)
      clears.count text_left (λ i p. clears.hash_same i)

  -- a number that is swept has no term, and any other what it had
  swept_terms :
      (n : ℕ) → term_given (terms_of blocks fs) n ≡ cond (is_swept marks from count n) None (term_given (terms_of blocks es) n)
  swept_terms n = chosen (is_swept marks from count n) (term_given (terms_of blocks fs) n) (term_given (terms_of blocks es) n)
      (λ swept. free_none blocks fs n (λ p.
      let inside : n < length es = omega (arith, clears.count) in
      empty_at blocks fs n (swept_empty n inside swept).length_is))
      (λ unswept. elim (cases_lt n (length es)) [
        | inl inside ↦
            let still : n < length fs = omega (arith, clears.count) in
            get-terms_of blocks fs n still ∙ (ap given_by_text (text_same n (unswept_same n inside unswept)) ∙ sym (get-terms_of blocks es n inside))
        | inr past ↦
            let beyond : length fs ≤ n = omega (arith, clears.count) in
            past_none blocks fs n beyond ∙ sym (past_none blocks es n past)
      ])

  -- the terms that are left
  pub sweeps : (last : ℕ) → Sweeps marks from count (shown blocks es last) (shown blocks fs last)
  sweeps last = record {
    terms = swept_terms;
    count = omega (arith, length-terms_of blocks es, length-terms_of blocks fs, clears.count);
    last = refl;
  }

-- Entries: with links written anew, and with one entry more.
use Rattle.std.proofs.Common.{◌≡◌, ◌≢◌, ℕ, ◌+◌, ◌<◌, List, [], ◌∷◌, ◌++◌, length, ap, sym, ◌∙◌, subst, refl, inl, inr, arith, get_or, set, length-set, get_or-set_same, get_or-set_other}
use Rattle.std.proofs.lemmas.Bool.{cases_eq}
use Rattle.std.proofs.lemmas.List.{get_or_append_left, get_or_push, length_push}
use Rattle.gs_dict.specs.declared.chains.Entry.{Entry}
use Rattle.gs_texts.specs.declared.places.Place.{Place}
use Rattle.gs_texts.specs.Places.{LiesInBlock, HoldsText, KeepsBytes, text_in}
use Rattle.gs_dict.specs.Chains.{IsLinked, AreInBlocks, IsTable, AreEnough, Agree, dict_entry_at, bucket_at, bucket_of, text_at, no_entry}
use Rattle.gs_dict.proofs.ChainLemmas.{linked_more}
use Rattle.gs_texts.proofs.PlaceLemmas.{lies_kept, text_kept}

-- the next entry is put into its chain
pub relinked :
    (n : ℕ) (es : List Entry) (heads : List ℕ) (b : ℕ) → b ≡ bucket_at (length heads) es n → n < length es → 0 < length heads → IsLinked n es heads
    → IsLinked (n + 1) (set es n (record { place = (dict_entry_at es n).place; next = get_or heads b 0; hash = (dict_entry_at es n).hash })) (set heads b (n + 1))
relinked n es heads b is inside some linked =
    let e : Entry = record { place = (dict_entry_at es n).place; next = get_or heads b 0; hash = (dict_entry_at es n).hash } in
    let fs : List Entry = set es n e in
    let there : dict_entry_at fs n ≡ e = get_or-set_same es n e no_entry inside in
    let bucket : bucket_at (length heads) fs n ≡ b = ap (λ (f : Entry). bucket_of (length heads) f.hash) there ∙ sym is in
    let P : ℕ → Type 0 = λ k. IsLinked (n + 1) fs (set heads k (n + 1)) in
    subst P bucket
    (linked_more n es fs heads linked some
    (λ i p. let other : i ≢ n = omega arith in get_or-set_other es n i e no_entry other)
    (ap (λ (f : Entry). f.next) there ∙ ap (λ k. get_or heads k 0) (sym bucket)))

-- places and hashes stay where an entry's next alone is written
pub agree_set :
    (gs es : List Entry) (n : ℕ) (e : Entry) → Agree gs es → n < length es → e.place ≡ (dict_entry_at es n).place → e.hash ≡ (dict_entry_at es n).hash
    → Agree gs (set es n e)
agree_set gs es n e agree inside same_place same_hash = record {
  count = length-set es n e ∙ agree.count;
  place_same = λ i. elim (cases_eq i n) [
    | inl at ↦
        let P : ℕ → Type 0 = λ k. (dict_entry_at (set es n e) k).place ≡ (dict_entry_at gs k).place in
        subst P (sym at) (ap (λ (f : Entry). f.place) (get_or-set_same es n e no_entry inside) ∙ (same_place ∙ agree.place_same n))
    | inr other ↦ ap (λ (f : Entry). f.place) (get_or-set_other es n i e no_entry other) ∙ agree.place_same i
  ];
  hash_same = λ i. elim (cases_eq i n) [
    | inl at ↦
        let P : ℕ → Type 0 = λ k. (dict_entry_at (set es n e) k).hash ≡ (dict_entry_at gs k).hash in
        subst P (sym at) (ap (λ (f : Entry). f.hash) (get_or-set_same es n e no_entry inside) ∙ (same_hash ∙ agree.hash_same n))
    | inr other ↦ ap (λ (f : Entry). f.hash) (get_or-set_other es n i e no_entry other) ∙ agree.hash_same i
  ];
}

-- a text stands where it stood, as long as its place is the same
pub text_same_place :
    (blocks : List (List ℕ)) (es fs : List Entry) (i : ℕ) → (dict_entry_at fs i).place ≡ (dict_entry_at es i).place → text_at blocks fs i ≡ text_at blocks es i
unfolding text_at
text_same_place blocks es fs i same = ap (text_in blocks) same

-- so where all places are the same
pub text_agree : (blocks : List (List ℕ)) (es fs : List Entry) (i : ℕ) → Agree es fs → text_at blocks fs i ≡ text_at blocks es i
text_agree blocks es fs i agree = text_same_place blocks es fs i (agree.place_same i)

-- a number whose place has a text has that text
pub text_placed :
    (blocks : List (List ℕ)) (es : List Entry) (i : ℕ) (p : Place) (x : List ℕ) → (dict_entry_at es i).place ≡ p → HoldsText blocks p x → text_at blocks es i ≡ x
unfolding text_at
text_placed blocks es i p x same stands = ap (text_in blocks) same ∙ stands.text

pub placed_agree : (blocks : List (List ℕ)) (es fs : List Entry) → AreInBlocks blocks es → Agree es fs → AreInBlocks blocks fs
placed_agree blocks es fs placed agree = record {
  lies = λ i p.
      let inside : i < length es = omega (arith, agree.count) in
      let P : Place → Type 0 = λ z. LiesInBlock blocks z in
      subst P (sym (agree.place_same i)) (placed.lies i inside);
}

-- with more bytes in the blocks, each text stays
pub text_later :
    (blocks later : List (List ℕ)) (es : List Entry) (i : ℕ) → AreInBlocks blocks es → KeepsBytes blocks later → i < length es
    → text_at later es i ≡ text_at blocks es i
unfolding text_at
text_later blocks later es i placed keeps inside = text_kept blocks later (dict_entry_at es i).place keeps (placed.lies i inside)

pub placed_later : (blocks later : List (List ℕ)) (es : List Entry) → AreInBlocks blocks es → KeepsBytes blocks later → AreInBlocks later es
placed_later blocks later es placed keeps = record {
  lies = λ i p. lies_kept blocks later (dict_entry_at es i).place keeps (placed.lies i p);
}

-- one entry more: each text stays, and the last is the one at its place
pub text_push :
    (blocks : List (List ℕ)) (es : List Entry) (e : Entry) (i : ℕ) → i < length es → text_at blocks (es ++ e ∷ []) i ≡ text_at blocks es i
unfolding text_at
text_push blocks es e i inside = ap (λ (f : Entry). text_in blocks f.place) (get_or_append_left es (e ∷ []) no_entry i inside)

pub text_last :
    (blocks : List (List ℕ)) (es : List Entry) (x : List ℕ) (e : Entry) → HoldsText blocks e.place x → text_at blocks (es ++ e ∷ []) (length es) ≡ x
unfolding text_at
text_last blocks es x e has = ap (λ (f : Entry). text_in blocks f.place) (get_or_push es e no_entry (length es) refl) ∙ has.text

pub placed_push :
    (blocks : List (List ℕ)) (es : List Entry) (e : Entry) → AreInBlocks blocks es → LiesInBlock blocks e.place → AreInBlocks blocks (es ++ e ∷ [])
placed_push blocks es e placed last =
    let P : Entry → Type 0 = λ f. LiesInBlock blocks f.place in
    record {
      lies = λ i p. elim (cases_eq i (length es)) [
        | inl at ↦ subst P (sym (get_or_push es e no_entry i (sym at))) last
        | inr other ↦
            let inside : i < length es = omega (arith, length_push es e) in
            subst P (sym (get_or_append_left es (e ∷ []) no_entry i inside)) (placed.lies i inside)
      ];
    }

-- for one entry more, where there were more buckets than entries
enough_as : (n m k l : ℕ) → n ≡ m → l ≡ k + 1 → k < n → AreEnough n k → AreEnough m l
enough_as n m k l buckets entries another enough = record {
  some = omega (arith, buckets, enough.some);
  power = (enough.power.0, sym buckets ∙ enough.power.1);
  short = omega (arith, buckets, entries, another);
}

-- the table with one entry more, which is at the head of its bucket's chain
pub table_push :
    (blocks : List (List ℕ)) (es : List Entry) (heads : List ℕ) (e : Entry) (b : ℕ) → IsTable blocks es heads → LiesInBlock blocks e.place
    → b ≡ bucket_of (length heads) e.hash → e.next ≡ get_or heads b 0 → length es < length heads → IsTable blocks (es ++ e ∷ []) (set heads b (length es + 1))
table_push blocks es heads e b table lies is next another =
    let n : ℕ = length es in
    let fs : List Entry = es ++ e ∷ [] in
    let there : dict_entry_at fs n ≡ e = get_or_push es e no_entry n refl in
    let bucket : bucket_at (length heads) fs n ≡ b = ap (λ (f : Entry). bucket_of (length heads) f.hash) there ∙ sym is in
    let P : ℕ → Type 0 = λ k. IsLinked (n + 1) fs (set heads k (n + 1)) in
    let Q : ℕ → Type 0 = λ m. IsLinked m fs (set heads b (n + 1)) in
    record {
      linked = subst Q (sym (length_push es e))
          (subst P bucket
          (linked_more n es fs heads table.linked table.enough.some (λ i p. get_or_append_left es (e ∷ []) no_entry i p)
          (ap (λ (f : Entry). f.next) there ∙ (next ∙ ap (λ k. get_or heads k 0) (sym bucket)))));
      placed = placed_push blocks es e table.placed lies;
      enough = enough_as (length heads) (length (set heads b (n + 1))) n (length fs) (sym (length-set heads b (n + 1))) (length_push es e) another table.enough;
    }

-- The table: with other links, and with one text more.
use Rattle.std.proofs.Common.{◌≡◌, ◌≢◌, ℕ, ◌+◌, ◌<◌, List, [], ◌∷◌, ◌++◌, length, ap, sym, ◌∙◌, subst, refl, inl, inr, arith, get_or, set, length-set, get_or-set_same, get_or-set_other, take, drop}
use Rattle.std.proofs.lemmas.Bool.{cases_eq}
use Rattle.std.proofs.lemmas.List.{get_or_append_left, get_or_push, length_push, take_all, drop_all, append-nil}
use Rattle.gs_dict.specs.declared.chains.Entry.{Entry}
use Rattle.gs_texts.specs.declared.places.Place.{Place}
use Rattle.gs_texts.specs.Places.{LiesInBlock, HoldsText, KeepsBytes}
use Rattle.gs_dict.specs.Chains.{IsLinked, IsTable, AreEnough, EntryHas, Agree, KeepsTexts, KeepsOtherTexts, bucket_of, dict_entry_at, no_entry}
use Rattle.gs_dict.proofs.EntryLemmas.{text_same_place, text_agree, text_placed, placed_agree, text_later, placed_later, text_push, text_last, table_push}

-- with other links and more bytes in the blocks, each text stands where it stood
pub table_agree :
    (blocks later : List (List ℕ)) (es fs gs : List Entry) (heads links : List ℕ) → IsTable blocks es heads → IsLinked (length es) fs links
    → AreEnough (length links) (length fs) → Agree es fs → gs ≡ fs → KeepsBytes blocks later → IsTable later gs links
table_agree blocks later es fs gs heads links table linked enough agree same_entries keeps =
    let P : List Entry → Type 0 = λ z. IsTable later z links in
    let N : ℕ → Type 0 = λ n. IsLinked n fs links in
    subst P (sym same_entries)
    (record {
      linked = subst N (sym agree.count) linked;
      placed = placed_agree later es fs (placed_later blocks later es table.placed keeps) agree;
      enough = enough;
    })

pub keeps_agree :
    (blocks later : List (List ℕ)) (es fs gs : List Entry) (heads : List ℕ) → IsTable blocks es heads → Agree es fs → gs ≡ fs
    → KeepsBytes blocks later → KeepsTexts blocks es later gs
keeps_agree blocks later es fs gs heads table agree same_entries keeps =
    let P : List Entry → Type 0 = λ z. KeepsTexts blocks es later z in
    subst P (sym same_entries)
    (record {
      text_same = λ i p. text_agree later es fs i agree ∙ text_later blocks later es i table.placed keeps p;
      hash_same = λ i p. agree.hash_same i;
    })

-- with other links, and then one text more
pub record Added (blocks : List (List ℕ)) (es : List Entry) (later : List (List ℕ)) (fs : List Entry) (heads x : List ℕ) (hash : ℕ) : Type 0 where
  pub table : IsTable later fs heads
  pub kept : KeepsTexts blocks es later fs
  pub count : length fs ≡ length es + 1
  pub has : EntryHas later fs (length es) hash x

pub added :
    (blocks later : List (List ℕ)) (es fs : List Entry) (links x : List ℕ) (e : Entry) (b : ℕ) → IsTable later fs links → KeepsTexts blocks es later fs
    → length fs ≡ length es → HoldsText later e.place x → b ≡ bucket_of (length links) e.hash → e.next ≡ get_or links b 0 → length fs < length links
    → Added blocks es later (fs ++ e ∷ []) (set links b (length fs + 1)) x e.hash
added blocks later es fs links x e b table kept count stands is next another =
    let H : ℕ → Type 0 = λ n. EntryHas later (fs ++ e ∷ []) n e.hash x in
    record {
      table = table_push later fs links e b table stands.lies is next another;
      kept = record {
        text_same = λ i p.
            let inside : i < length fs = omega (arith, count) in
            text_push later fs e i inside ∙ kept.text_same i p;
        hash_same = λ i p.
            let inside : i < length fs = omega (arith, count) in
            ap (λ (f : Entry). f.hash) (get_or_append_left fs (e ∷ []) no_entry i inside) ∙ kept.hash_same i p;
      };
      count = length_push fs e ∙ ap (λ n. n + 1) count;
      has = subst H count (ap (λ (f : Entry). f.hash) (get_or_push fs e no_entry (length fs) refl), text_last later fs x e stands);
    }

-- the same, where the lists have names
pub added_as :
    (blocks later : List (List ℕ)) (es fs gs hs : List Entry) (heads links x : List ℕ) (e : Entry) (b n : ℕ) → IsTable blocks es heads
    → IsLinked (length es) fs links → AreEnough (length links) (length fs) → length fs < length links → Agree es fs → gs ≡ fs
    → KeepsBytes blocks later → HoldsText later e.place x → hs ≡ gs ++ e ∷ [] → n ≡ length gs → b ≡ bucket_of (length links) e.hash
    → e.next ≡ get_or links b 0 → Added blocks es later hs (set links b (n + 1)) x e.hash
added_as blocks later es fs gs hs heads links x e b n table linked enough another agree same_entries keeps stands more_entries number is next =
    let whole : hs ≡ fs ++ e ∷ [] = more_entries ∙ ap (λ z. z ++ e ∷ []) same_entries in
    let count : n ≡ length fs = number ∙ ap length same_entries in
    let P : List Entry → Type 0 = λ z. Added blocks es later z (set links b (n + 1)) x e.hash in
    let R : ℕ → Type 0 = λ z. Added blocks es later (fs ++ e ∷ []) (set links b (z + 1)) x e.hash in
    subst P (sym whole)
    (subst R (sym count)
    (added blocks later es fs links x e b (table_agree blocks later es fs fs heads links table linked enough agree refl keeps)
    (keeps_agree blocks later es fs fs heads table agree refl keeps) agree.count stands is next another))

-- with another text of one number
pub record Given (n : ℕ) (blocks : List (List ℕ)) (es : List Entry) (later : List (List ℕ)) (fs : List Entry) (heads x : List ℕ) (hash : ℕ) : Type 0 where
  pub table : IsTable later fs heads
  pub others : KeepsOtherTexts n blocks es later fs
  pub has : EntryHas later fs n hash x

-- places and hashes are as if the number's entry alone had been written, and its place has the text
pub given :
    (n : ℕ) (blocks later : List (List ℕ)) (es fs : List Entry) (heads links x : List ℕ) (e : Entry) → IsTable blocks es heads → n < length es
    → IsLinked (length fs) fs links → length links ≡ length heads → Agree (set es n e) fs → KeepsBytes blocks later → HoldsText later e.place x
    → Given n blocks es later fs links x e.hash
given n blocks later es fs heads links x e table inside linked count agree keeps stands =
    let P : Place → Type 0 = λ z. LiesInBlock later z in
    let here : dict_entry_at (set es n e) n ≡ e = get_or-set_same es n e no_entry inside in
    let same : (i : ℕ) → i ≢ n → dict_entry_at (set es n e) i ≡ dict_entry_at es i = λ i other. get_or-set_other es n i e no_entry other in
    let place_is : (dict_entry_at fs n).place ≡ e.place = agree.place_same n ∙ ap (λ (f : Entry). f.place) here in
    let place_same : (i : ℕ) → i ≢ n → (dict_entry_at fs i).place ≡ (dict_entry_at es i).place =
    λ i other. agree.place_same i ∙ ap (λ (f : Entry). f.place) (same i other) in
    let entries : length fs ≡ length es = agree.count ∙ length-set es n e in
    record {
      table = record {
        linked = linked;
        placed = record {
          lies = λ i within. elim (cases_eq i n) [
            | inl at ↦ subst P (sym (ap (λ k. (dict_entry_at fs k).place) at ∙ place_is)) stands.lies
            | inr other ↦
                let before : i < length es = omega arith in
                subst P (sym (place_same i other)) ((placed_later blocks later es table.placed keeps).lies i before)
          ];
        };
        enough = record {
          some = omega (arith, count, table.enough.some);
          power = (table.enough.power.0, count ∙ table.enough.power.1);
          short = omega (arith, count, entries, table.enough.short);
        };
      };
      others = record {
        text_same = λ i within other. text_same_place later es fs i (place_same i other) ∙ text_later blocks later es i table.placed keeps within;
        hash_same = λ i within other. agree.hash_same i ∙ ap (λ (f : Entry). f.hash) (same i other);
      };
      has = (agree.hash_same n ∙ ap (λ (f : Entry). f.hash) here, text_placed later fs n e.place x place_is stands);
    }

-- a list of so many items that was written whole
pub written_whole : {X : Type 0} (n : ℕ) (new old : List X) → length new ≡ n → length old ≡ n → take n (new ++ drop (length new) old) ≡ new
written_whole n new old is was =
    let none : drop (length new) old ≡ [] = drop_all (length new) old (omega arith) in
    ap (λ z. take n (new ++ z)) none ∙ (ap (take n) (append-nil new) ∙ take_all n new (omega arith))

-- the same, where both lists were written whole, and what the entries were has another name
pub given_whole :
    (n k m : ℕ) (blocks later : List (List ℕ)) (es was fs : List Entry) (heads links x : List ℕ) (e : Entry) → IsTable blocks es heads → n < length es
    → IsLinked (length fs) fs links → length links ≡ length heads → Agree (set was n e) fs → was ≡ es → KeepsBytes blocks later → HoldsText later e.place x
    → length es ≡ k → length heads ≡ m
    → Given n blocks es later (take k (fs ++ drop (length fs) es)) (take m (links ++ drop (length links) heads)) x e.hash
given_whole n k m blocks later es was fs heads links x e table inside linked count written same keeps stands entries buckets =
    let A : List Entry → Type 0 = λ z. Agree (set z n e) fs in
    let P : List Entry → Type 0 = λ z. Given n blocks es later z (take m (links ++ drop (length links) heads)) x e.hash in
    let Q : List ℕ → Type 0 = λ z. Given n blocks es later fs z x e.hash in
    let agree : Agree (set es n e) fs = subst A same written in
    subst P (sym (written_whole k fs es (agree.count ∙ (length-set es n e ∙ entries)) entries))
    (subst Q (sym (written_whole m links heads (count ∙ buckets) buckets))
    (given n blocks later es fs heads links x e table inside linked count agree keeps stands))

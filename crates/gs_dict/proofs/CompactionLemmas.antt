-- Texts that are written once more, and blocks that are given back.
use Rattle.std.proofs.Common.{◌≡◌, ℕ, ◌+◌, ◌-◌, ◌<◌, Bool, List, length, ap, sym, ◌∙◌, subst, refl, inl, inr, arith, set, length-set, get_or-set_same, get_or-set_other}
use Rattle.std.proofs.lemmas.Bool.{cases_eq}
use Rattle.gs_texts.specs.declared.places.Place.{Place}
use Rattle.gs_texts.specs.Places.{LiesInBlock, HoldsText, KeepsBytes, block_of, text_in}
use Rattle.gs_texts.specs.Releasing.{KeepsOthers, IsSpared}
use Rattle.gs_texts.proofs.PlaceLemmas.{lies_kept, text_kept}
use Rattle.gs_texts.proofs.ReleaseLemmas.{lies_spared, text_spared, spared_past}
use Rattle.gs_dict.specs.declared.chains.Entry.{Entry}
use Rattle.gs_dict.specs.Chains.{AreInBlocks, dict_entry_at, link_after, no_entry, text_at}
use Rattle.gs_dict.specs.Compaction.{MovesTexts, AreSpared}

-- what is moved twice is moved
pub moved_twice :
    (blocks later last : List (List ℕ)) (es fs gs : List Entry) → MovesTexts blocks es later fs → MovesTexts later fs last gs → MovesTexts blocks es last gs
moved_twice blocks later last es fs gs first then = record {
  placed = then.placed;
  kept = record {
    text_same = λ i p. let inside : i < length fs = omega (arith, first.count) in then.kept.text_same i inside ∙ first.kept.text_same i p;
    hash_same = λ i p. let inside : i < length fs = omega (arith, first.count) in then.kept.hash_same i inside ∙ first.kept.hash_same i p;
  };
  links = λ i. then.links i ∙ first.links i;
  count = then.count ∙ first.count;
  longer = omega (arith, first.longer, then.longer);
}

-- the text of one number is written once more, at the place of its new entry
module _ (blocks later : List (List ℕ)) (es : List Entry) (n : ℕ) (e : Entry) (inside : n < length es) (placed : AreInBlocks blocks es) (keeps : KeepsBytes blocks later) (holds : HoldsText later e.place (text_in blocks (dict_entry_at es n).place)) where
  -- the entry has its place
  there : dict_entry_at (set es n e) n ≡ e
  there = get_or-set_same es n e no_entry inside

  -- each place lies in its block
  lies_moved : (i : ℕ) → i < length (set es n e) → LiesInBlock later (dict_entry_at (set es n e) i).place
  lies_moved i p =
      let P : Entry → Type 0 = λ f. LiesInBlock later f.place in
      elim (cases_eq i n) [
        | inl at ↦ let Q : ℕ → Type 0 = λ k. LiesInBlock later (dict_entry_at (set es n e) k).place in subst Q (sym at) (subst P (sym there) holds.lies)
        | inr other ↦
            let within : i < length es = omega (arith, p, length-set es n e) in
            subst P (sym (get_or-set_other es n i e no_entry other)) (lies_kept blocks later (dict_entry_at es i).place keeps (placed.lies i within))
      ]

  -- each text is the same
  text_moved : (i : ℕ) → i < length es → text_at later (set es n e) i ≡ text_at blocks es i
  unfolding text_at
  text_moved i p = elim (cases_eq i n) [
    | inl at ↦
        ap (λ k. text_in later (dict_entry_at (set es n e) k).place) at
        ∙ (ap (λ (f : Entry). text_in later f.place) there ∙ (holds.text ∙ ap (λ k. text_in blocks (dict_entry_at es k).place) (sym at)))
    | inr other ↦
        ap (λ (f : Entry). text_in later f.place) (get_or-set_other es n i e no_entry other)
        ∙ text_kept blocks later (dict_entry_at es i).place keeps (placed.lies i p)
  ]

  -- what an entry has beside its place is the same
  same_moved : (of : Entry → ℕ) → of e ≡ of (dict_entry_at es n) → (i : ℕ) → of (dict_entry_at (set es n e) i) ≡ of (dict_entry_at es i)
  same_moved of same i = elim (cases_eq i n) [
    | inl at ↦ ap (λ k. of (dict_entry_at (set es n e) k)) at ∙ (ap of there ∙ (same ∙ ap (λ k. of (dict_entry_at es k)) (sym at)))
    | inr other ↦ ap of (get_or-set_other es n i e no_entry other)
  ]

  -- so its text is moved
  pub moved_one : e.next ≡ link_after es n → e.hash ≡ (dict_entry_at es n).hash → MovesTexts blocks es later (set es n e)
  moved_one next hash = record {
    placed = record { lies = lies_moved };
    kept = record { text_same = text_moved; hash_same = λ i _. same_moved (λ (f : Entry). f.hash) hash i };
    links = same_moved (λ (f : Entry). f.next) next;
    count = length-set es n e;
    longer = keeps.count;
  }

-- one entry more is spared, which has a new place
pub spared_set :
    (gone : List Bool) (es : List Entry) (n : ℕ) (e : Entry) → n < length es → IsSpared gone e.place → AreSpared gone es n → AreSpared gone (set es n e) (n + 1)
spared_set gone es n e inside spared before i below =
    let P : Entry → Type 0 = λ f. IsSpared gone f.place in
    elim (cases_eq i n) [
      | inl at ↦
          let Q : ℕ → Type 0 = λ k. IsSpared gone (dict_entry_at (set es n e) k).place in
          subst Q (sym at) (subst P (sym (get_or-set_same es n e no_entry inside)) spared)
      | inr other ↦ let within : i < n = omega arith in subst P (sym (get_or-set_other es n i e no_entry other)) (before i within)
    ]

-- a text that is written once more is past the marks
pub spared_written :
    (gone : List Bool) (blocks later : List (List ℕ)) (p : Place) → length gone < length blocks → KeepsBytes blocks later → block_of p ≡ length later - 1
    → IsSpared gone p
spared_written gone blocks later p sealed keeps last = spared_past gone p (omega (arith, keeps.count))

-- where marked blocks are given back and each text is spared, each stays
pub moved_released :
    (gone : List Bool) (blocks later : List (List ℕ)) (es : List Entry) → AreInBlocks blocks es → AreSpared gone es (length es) → KeepsOthers gone blocks later
    → MovesTexts blocks es later es
unfolding text_at
moved_released gone blocks later es placed spared keeps = record {
  placed = record { lies = λ i p. lies_spared gone blocks later (dict_entry_at es i).place keeps (spared i p) (placed.lies i p) };
  kept = record { text_same = λ i p. text_spared gone blocks later (dict_entry_at es i).place keeps (spared i p); hash_same = λ i _. refl };
  links = λ i. refl;
  count = refl;
  longer = omega (arith, keeps.count);
}

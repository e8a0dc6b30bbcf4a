-- Entries and the first links of the buckets, where a number goes from one chain to another.
use Rattle.std.proofs.Common.{◌≡◌, ◌≢◌, ℕ, ◌+◌, ◌-◌, ◌<◌, List, length, ap, sym, ◌∙◌, subst, refl, inl, inr, arith, Option, Some, None, get_or, set, length-set, get_or-set_same, get_or-set_other}
use Rattle.std.proofs.lemmas.Bool.{cases_eq}
use Rattle.gs_dict.specs.declared.chains.Entry.{Entry}
use Rattle.gs_texts.specs.declared.places.Place.{Place}
use Rattle.gs_dict.specs.Chains.{IsChained, IsLinked, IsLinkedBut, IsLeastAbove, IsLinkSet, Agree, dict_entry_at, bucket_at, bucket_of, link_after, link_from, no_entry}
use Rattle.gs_dict.proofs.MoveLemmas.{but_other, taken_out, put_in}

-- chains stay where each number has the bucket that it had
chained_as : (n : ℕ) (b b' nx hd : ℕ → ℕ) → IsChained n b nx hd → ((i : ℕ) → b' i ≡ b i) → IsChained n b' nx hd
chained_as n b b' nx hd h same = record {
  head_given = h.head_given;
  head_there = λ k some. same (hd k - 1) ∙ h.head_there k some;
  head_greatest = λ j p. omega (arith, ap hd (same j), h.head_greatest j p);
  next_below = h.next_below;
  next_there = λ i p some. same (nx i - 1) ∙ (h.next_there i p some ∙ sym (same i));
  next_greatest = λ i j p below alike. h.next_greatest i j p below (sym (same j) ∙ (alike ∙ same i));
}

-- entries with the hashes that they had are in the buckets in which they were, if there are as many
bucket_agree :
    (es fs : List Entry) (n m : ℕ) → Agree es fs → m ≡ n → (i : ℕ) → bucket_at m fs i ≡ bucket_at n es i
bucket_agree es fs n m agree same i = ap (λ k. bucket_of k (dict_entry_at fs i).hash) same ∙ ap (bucket_of n) (agree.hash_same i)

-- what led to the number leads to its next: it is in no chain
pub linked_out :
    (v : ℕ) (es fs : List Entry) (heads links : List ℕ) (b : ℕ) (above : Option ℕ) → IsLinked (length es) es heads → v < length es
    → b ≡ bucket_at (length heads) es v → IsLeastAbove (length es) v (bucket_at (length heads) es) (link_after es) (λ k. get_or heads k 0) b above
    → IsLinkSet b above (link_after es v) (link_after es) (λ k. get_or heads k 0) (link_after fs) (λ k. get_or links k 0) → Agree es fs
    → length links ≡ length heads → IsLinkedBut (length fs) v fs links
linked_out v es fs heads links b above linked inside is least is_set agree count =
    let bucket : ℕ → ℕ = bucket_at (length heads) es in
    let hd : ℕ → ℕ = λ k. get_or heads k 0 in
    let hd' : ℕ → ℕ = λ k. get_or links k 0 in
    let L : ℕ → Type 0 = λ z. IsLeastAbove (length es) v bucket (link_after es) hd z above in
    let S : ℕ → Type 0 = λ z. IsLinkSet z above (link_after es v) (link_after es) hd (link_after fs) hd' in
    let N : ℕ → Type 0 = λ n. IsLinkedBut n v fs links in
    subst N (sym agree.count)
    (but_other (length es) v bucket (bucket_at (length links) fs) (link_after fs) (link_after fs) hd'
    (taken_out (length es) v bucket (link_after es) (link_after fs) hd hd' above linked inside (subst L is least) (subst S is is_set))
    (λ i other. bucket_agree es fs (length heads) (length links) agree count i)
    (λ i other. refl))

-- the entry of a number that is in no chain is written
but_written : (n v : ℕ) (es : List Entry) (heads : List ℕ) (e : Entry) → IsLinkedBut n v es heads → IsLinkedBut n v (set es v e) heads
but_written n v es heads e h =
    but_other n v (bucket_at (length heads) es) (bucket_at (length heads) (set es v e)) (link_after es) (link_after (set es v e))
    (λ k. get_or heads k 0)
    h
    (λ i other. ap (λ (f : Entry). bucket_of (length heads) f.hash) (get_or-set_other es v i e no_entry other))
    (λ i other. ap (λ (f : Entry). f.next) (get_or-set_other es v i e no_entry other))

pub but_set :
    (v : ℕ) (es : List Entry) (heads : List ℕ) (e : Entry) → IsLinkedBut (length es) v es heads → IsLinkedBut (length (set es v e)) v (set es v e) heads
but_set v es heads e h =
    let N : ℕ → Type 0 = λ n. IsLinkedBut n v (set es v e) heads in
    subst N (sym (length-set es v e)) (but_written (length es) v es heads e h)

-- the least number above v stays so where v's own entry alone is written
least_set :
    (n v : ℕ) (es : List Entry) (hd : ℕ → ℕ) (m b : ℕ) (e : Entry) (above : Option ℕ) → IsLeastAbove n v (bucket_at m es) (link_after es) hd b above
    → IsLeastAbove n v (bucket_at m (set es v e)) (link_after (set es v e)) hd b above
    × (link_from (link_after (set es v e)) hd b above ≡ link_from (link_after es) hd b above)
least_set n v es hd m b e None least = (record { is_above = tt; falls = least.falls }, refl)
least_set n v es hd m b e (Some a) least =
    let apart : a ≢ v = omega (arith, least.is_above.1) in
    let same : dict_entry_at (set es v e) a ≡ dict_entry_at es a = get_or-set_other es v a e no_entry apart in (
      record {
        is_above = (least.is_above.0, least.is_above.1, ap (λ (f : Entry). bucket_of m f.hash) same ∙ least.is_above.2);
        falls = omega (arith, ap (λ (f : Entry). f.next) same, least.falls);
      },
      ap (λ (f : Entry). f.next) same,
    )

-- the number leads to where what leads to it led: it is in the chain of its bucket
pub linked_in :
    (v : ℕ) (es fs : List Entry) (heads links : List ℕ) (b link : ℕ) (above : Option ℕ) → IsLinkedBut (length es) v es heads → v < length es
    → b ≡ bucket_at (length heads) es v → IsLeastAbove (length es) v (bucket_at (length heads) es) (link_after es) (λ k. get_or heads k 0) b above
    → link ≡ link_from (link_after es) (λ k. get_or heads k 0) b above
    → IsLinkSet b above (v + 1) (link_after (set es v (record { place = (dict_entry_at es v).place; next = link; hash = (dict_entry_at es v).hash })))
    (λ k. get_or heads k 0) (link_after fs) (λ k. get_or links k 0)
    → Agree (set es v (record { place = (dict_entry_at es v).place; next = link; hash = (dict_entry_at es v).hash })) fs
    → length links ≡ length heads → IsLinked (length fs) fs links
linked_in v es fs heads links b link above linked inside is least is_link is_set agree count =
    let e : Entry = record { place = (dict_entry_at es v).place; next = link; hash = (dict_entry_at es v).hash } in
    let gs : List Entry = set es v e in
    let m : ℕ = length heads in
    let hd : ℕ → ℕ = λ k. get_or heads k 0 in
    let hd' : ℕ → ℕ = λ k. get_or links k 0 in
    let there : dict_entry_at gs v ≡ e = get_or-set_same es v e no_entry inside in
    let home : b ≡ bucket_at m gs v = is ∙ sym (ap (λ (f : Entry). bucket_of m f.hash) there) in
    let still = least_set (length es) v es hd m b e above least in
    let L : ℕ → Type 0 = λ z. IsLeastAbove (length es) v (bucket_at m gs) (link_after gs) hd z above in
    let S : ℕ → Type 0 = λ z. IsLinkSet z above (v + 1) (link_after gs) hd (link_after fs) hd' in
    let F : ℕ → Type 0 = λ z. link_after gs v ≡ link_from (link_after gs) hd z above in
    let N : ℕ → Type 0 = λ n. IsLinked n fs links in
    subst N (sym (agree.count ∙ length-set es v e))
    (chained_as (length es) (bucket_at m gs) (bucket_at (length links) fs) (link_after fs) hd'
    (put_in (length es) v (bucket_at m gs) (link_after gs) (link_after fs) hd hd' above (but_written (length es) v es heads e linked) inside
    (subst L home still.0) (subst F home (ap (λ (f : Entry). f.next) there ∙ (is_link ∙ sym still.1))) (subst S home is_set))
    (bucket_agree gs fs m (length links) agree count))

-- places and hashes are as if the number's entry alone had been written
pub moved :
    (v : ℕ) (es fs gs : List Entry) (p : Place) (k h : ℕ) → Agree es fs → Agree (set fs v (record { place = p; next = k; hash = h })) gs → v < length es
    → Agree (set es v (record { place = p; next = 0; hash = h })) gs
moved v es fs gs p k h before after inside =
    let e : Entry = record { place = p; next = k; hash = h } in
    let d : Entry = record { place = p; next = 0; hash = h } in
    let within : v < length fs = omega (arith, before.count) in
    let new : dict_entry_at (set fs v e) v ≡ e = get_or-set_same fs v e no_entry within in
    let old : dict_entry_at (set es v d) v ≡ d = get_or-set_same es v d no_entry inside in
    let P : ℕ → Type 0 = λ i. (dict_entry_at gs i).place ≡ (dict_entry_at (set es v d) i).place in
    let H : ℕ → Type 0 = λ i. (dict_entry_at gs i).hash ≡ (dict_entry_at (set es v d) i).hash in
    record {
      count = after.count ∙ (length-set fs v e ∙ (before.count ∙ sym (length-set es v d)));
      place_same = λ i. elim (cases_eq i v) [
        | inl at ↦ subst P (sym at) (after.place_same v ∙ (ap (λ (f : Entry). f.place) new ∙ sym (ap (λ (f : Entry). f.place) old)))
        | inr other ↦
            after.place_same i ∙ (ap (λ (f : Entry). f.place) (get_or-set_other fs v i e no_entry other)
            ∙ (before.place_same i ∙ sym (ap (λ (f : Entry). f.place) (get_or-set_other es v i d no_entry other))))
      ];
      hash_same = λ i. elim (cases_eq i v) [
        | inl at ↦ subst H (sym at) (after.hash_same v ∙ (ap (λ (f : Entry). f.hash) new ∙ sym (ap (λ (f : Entry). f.hash) old)))
        | inr other ↦
            after.hash_same i ∙ (ap (λ (f : Entry). f.hash) (get_or-set_other fs v i e no_entry other)
            ∙ (before.hash_same i ∙ sym (ap (λ (f : Entry). f.hash) (get_or-set_other es v i d no_entry other))))
      ];
    }

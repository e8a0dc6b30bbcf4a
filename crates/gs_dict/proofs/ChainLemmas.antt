-- Chains: along one, and with one number more.
use Rattle.std.proofs.Common.{◌≡◌, ◌≢◌, ℕ, ◌+◌, ◌-◌, ◌<◌, List, length, ap, sym, ◌∙◌, subst, inl, inr, arith, get_or, set, length-set, get_or-set_same, get_or-set_other}
use Rattle.std.proofs.lemmas.Bool.{cases_eq, cases_lt}
use Rattle.std.proofs.lemmas.Nat.{and_le_r}
use Rattle.gs_dict.specs.declared.chains.Entry.{Entry}
use Rattle.gs_dict.specs.Chains.{IsChained, IsLinked, IsAlong, EntryHas, dict_entry_at, bucket_at, bucket_of, link_after}

-- one number more: its next is what was its bucket's link, and it becomes that link
pub chained_more :
    (n : ℕ) (b b' nx nx' hd hd' : ℕ → ℕ) → IsChained n b nx hd → ((i : ℕ) → i < n → b' i ≡ b i) → ((i : ℕ) → i < n → nx' i ≡ nx i)
    → nx' n ≡ hd (b' n) → hd' (b' n) ≡ n + 1 → ((k : ℕ) → k ≢ b' n → hd' k ≡ hd k) → IsChained (n + 1) b' nx' hd'
chained_more n b b' nx nx' hd hd' h sb sn e1 e2 oth = record {
  head_given = λ k. elim (cases_eq k (b' n)) [
    | inl e ↦ omega (arith, ap hd' e ∙ e2)
    | inr ne ↦ omega (arith, oth k ne, h.head_given k)
  ];
  head_there = λ k p. elim (cases_eq k (b' n)) [
    | inl e ↦ let q : hd' k - 1 ≡ n = omega (arith, ap hd' e ∙ e2) in ap b' q ∙ sym e
    | inr ne ↦
        let eq : hd' k ≡ hd k = oth k ne in
        let some : 0 < hd k = omega arith in
        let below : hd k - 1 < n = omega (arith, h.head_given k) in
        ap (λ z. b' (z - 1)) eq ∙ (sb (hd k - 1) below ∙ h.head_there k some)
  ];
  head_greatest = λ j p. elim (cases_eq j n) [
    | inl e ↦ omega (arith, ap (λ z. hd' (b' z)) e ∙ e2)
    | inr ne ↦
        let below : j < n = omega arith in
        elim (cases_eq (b' j) (b' n)) [
          | inl e ↦ omega (arith, ap hd' e ∙ e2)
          | inr other ↦ omega (arith, oth (b' j) other, ap hd (sb j below), h.head_greatest j below)
        ]
  ];
  next_below = λ i p. elim (cases_eq i n) [
    | inl e ↦ omega (arith, ap nx' e ∙ e1, h.head_given (b' n))
    | inr ne ↦ let below : i < n = omega arith in omega (arith, sn i below, h.next_below i below)
  ];
  next_there = λ i p q. elim (cases_eq i n) [
    | inl e ↦
        let eq : nx' i ≡ hd (b' n) = ap nx' e ∙ e1 in
        let some : 0 < hd (b' n) = omega arith in
        let below : hd (b' n) - 1 < n = omega (arith, h.head_given (b' n)) in
        ap (λ z. b' (z - 1)) eq ∙ (sb (hd (b' n) - 1) below ∙ (h.head_there (b' n) some ∙ sym (ap b' e)))
    | inr ne ↦
        let inside : i < n = omega arith in
        let eq : nx' i ≡ nx i = sn i inside in
        let some : 0 < nx i = omega arith in
        let below : nx i - 1 < n = omega (arith, h.next_below i inside) in
        ap (λ z. b' (z - 1)) eq ∙ (sb (nx i - 1) below ∙ (h.next_there i inside some ∙ sym (sb i inside)))
  ];
  next_greatest = λ i j p q r. elim (cases_eq i n) [
    | inl e ↦
        let below : j < n = omega arith in
        omega (arith, ap nx' e ∙ e1, h.head_greatest j below, ap hd (sym (sb j below) ∙ (r ∙ ap b' e)))
    | inr ne ↦
        let inside : i < n = omega arith in
        let below : j < n = omega arith in
        omega (arith, sn i inside, h.next_greatest i j inside q (sym (sb j below) ∙ (r ∙ sb i inside)))
  ];
}

-- a bucket is one of those there are
pub bucket_inside : (buckets hash : ℕ) → 0 < buckets → bucket_of buckets hash < buckets
unfolding bucket_of
bucket_inside buckets hash some = omega (arith, and_le_r hash (buckets - 1))

-- one entry more, at the head of its bucket's chain
pub linked_more :
    (n : ℕ) (es fs : List Entry) (heads : List ℕ) → IsLinked n es heads → 0 < length heads → ((i : ℕ) → i < n → dict_entry_at fs i ≡ dict_entry_at es i)
    → link_after fs n ≡ get_or heads (bucket_at (length heads) fs n) 0 → IsLinked (n + 1) fs (set heads (bucket_at (length heads) fs n) (n + 1))
linked_more n es fs heads h some same next =
    let b : ℕ = bucket_at (length heads) fs n in
    let inside : b < length heads = bucket_inside (length heads) (dict_entry_at fs n).hash some in
    let P : ℕ → Type 0 = λ m. IsChained (n + 1) (bucket_at m fs) (link_after fs) (λ k. get_or (set heads b (n + 1)) k 0) in
    subst P (sym (length-set heads b (n + 1)))
    (chained_more n (bucket_at (length heads) es) (bucket_at (length heads) fs) (link_after es) (link_after fs) (λ k. get_or heads k 0)
    (λ k. get_or (set heads b (n + 1)) k 0)
    h
    (λ i p. ap (λ (e : Entry). bucket_of (length heads) e.hash) (same i p))
    (λ i p. ap (λ (e : Entry). e.next) (same i p))
    next
    (get_or-set_same heads b (n + 1) 0 inside)
    (λ k other. get_or-set_other heads b k (n + 1) 0 other))

-- along a chain, from a number of another hash or text to the one after it
pub along_more :
    (blocks : List (List ℕ)) (es : List Entry) (heads : List ℕ) (hash : ℕ) (x : List ℕ) (link : ℕ) → IsLinked (length es) es heads
    → IsAlong blocks es (length heads) hash x link → 0 < link → (EntryHas blocks es (link - 1) hash x → ⊥)
    → IsAlong blocks es (length heads) hash x (link_after es (link - 1))
along_more blocks es heads hash x link linked along some other =
    let i : ℕ = link - 1 in
    let inside : i < length es = omega (arith, along.given) in
    let here : bucket_at (length heads) es i ≡ bucket_of (length heads) hash = along.there some in
    record {
      given = omega (arith, linked.next_below i inside);
      there = λ more. linked.next_there i inside more ∙ here;
      passed = λ j within past has. elim (cases_lt i j) [
        | inl above ↦ along.passed j within (omega arith) has
        | inr below ↦ elim (cases_eq j i) [
          | inl e ↦ let P : ℕ → Type 0 = λ k. EntryHas blocks es k hash x in other (subst P e has)
          | inr ne ↦
              let fall : j < i = omega arith in
              let alike : bucket_at (length heads) es j ≡ bucket_at (length heads) es i = ap (bucket_of (length heads)) has.0 ∙ sym here in
              absurd (omega (arith, linked.next_greatest i j inside fall alike))
        ]
      ];
    }

-- A number is taken out of its chain, and put into another one.
use Rattle.std.proofs.Common.{◌≡◌, ◌≢◌, ℕ, ◌+◌, ◌-◌, ◌<◌, ◌≤◌, ap, sym, ◌∙◌, inl, inr, arith, Option, Some, None}
use Rattle.std.proofs.lemmas.Bool.{cases_eq, cases_lt}
use Rattle.gs_dict.specs.Chains.{IsChained, IsChainedPast, IsChainedBut, IsLeastAbove, IsLinkSet, link_from}

-- where all numbers are in chains, those other than v are
pub past_chained : (n v : ℕ) (b nx hd : ℕ → ℕ) → IsChained n b nx hd → IsChainedPast n v b nx hd
past_chained n v b nx hd h = record {
  head_given = h.head_given;
  head_there = h.head_there;
  head_greatest = λ j p other. h.head_greatest j p;
  next_below = λ i p other. h.next_below i p;
  next_there = λ i p other. h.next_there i p;
  next_greatest = λ i j p here below other same. h.next_greatest i j p below same;
}

-- what v has itself does not matter where it is in no chain
pub but_other :
    (n v : ℕ) (b b' nx nx' hd : ℕ → ℕ) → IsChainedBut n v b nx hd → ((i : ℕ) → i ≢ v → b' i ≡ b i) → ((i : ℕ) → i ≢ v → nx' i ≡ nx i)
    → IsChainedBut n v b' nx' hd
but_other n v b b' nx nx' hd h sb sn = record {
  others = record {
    head_given = h.others.head_given;
    head_there = λ k some.
        let other : hd k - 1 ≢ v = λ e. h.head_other k (omega (arith, e)) in
        sb (hd k - 1) other ∙ h.others.head_there k some;
    head_greatest = λ j p other. omega (arith, h.others.head_greatest j p other, ap hd (sb j other));
    next_below = λ i p other. omega (arith, h.others.next_below i p other, sn i other);
    next_there = λ i p other some'.
        let some : 0 < nx i = omega (arith, sn i other) in
        let apart : nx i - 1 ≢ v = λ e. h.next_other i p other (omega (arith, e)) in
        ap (λ z. b' (z - 1)) (sn i other) ∙ (sb (nx i - 1) apart ∙ (h.others.next_there i p other some ∙ sym (sb i other)));
    next_greatest = λ i j p here below other same.
        omega (arith, sn i here, h.others.next_greatest i j p here below other (sym (sb j other) ∙ (same ∙ sb i here)));
  };
  head_other = h.head_other;
  next_other = λ i p other e. h.next_other i p other (sym (sn i other) ∙ e);
}

-- the link from the number above v, or from the bucket, leads to v where v is in the chain
pub leads_to :
    (n v : ℕ) (b nx hd : ℕ → ℕ) (above : Option ℕ) → IsChained n b nx hd → v < n → IsLeastAbove n v b nx hd (b v) above
    → link_from nx hd (b v) above ≡ v + 1
leads_to n v b nx hd None h inside least = omega (arith, least.falls, h.head_greatest v inside)
leads_to n v b nx hd (Some a) h inside least =
    omega (arith, least.falls, h.next_greatest a v least.is_above.0 least.is_above.1 (sym least.is_above.2))

-- no other number's link leads to v, where the bucket's does
next_apart_head :
    (n v i : ℕ) (b nx hd : ℕ → ℕ) → IsChained n b nx hd → i < n → i ≢ v → hd (b v) ≡ v + 1 → nx i ≢ v + 1
next_apart_head n v i b nx hd h p other leads e =
    let some : 0 < nx i = omega (arith, e) in
    let back : nx i - 1 ≡ v = omega (arith, e) in
    let same : b v ≡ b i = sym (ap b back) ∙ h.next_there i p some in
    absurd (omega (arith, e, h.next_below i p, h.head_greatest i p, ap hd same, leads))

-- no bucket's link leads to v, where a number's does
head_apart_next :
    (n v a k : ℕ) (b nx hd : ℕ → ℕ) → IsChained n b nx hd → a < n → v < a → b a ≡ b v → hd k ≢ v + 1
head_apart_next n v a k b nx hd h p above same e =
    let some : 0 < hd k = omega (arith, e) in
    let back : hd k - 1 ≡ v = omega (arith, e) in
    let here : b a ≡ k = same ∙ (sym (ap b back) ∙ h.head_there k some) in
    absurd (omega (arith, e, h.head_greatest a p, ap hd here))

-- no third number's link leads to v, where one does
next_apart_next :
    (n v a i : ℕ) (b nx hd : ℕ → ℕ) → IsChained n b nx hd → a < n → v < a → b a ≡ b v → nx a ≡ v + 1 → i < n → i ≢ a → nx i ≢ v + 1
next_apart_next n v a i b nx hd h p above same leads q other e =
    let some : 0 < nx i = omega (arith, e) in
    let back : nx i - 1 ≡ v = omega (arith, e) in
    let here : b v ≡ b i = sym (ap b back) ∙ h.next_there i q some in
    elim (cases_lt i a) [
      | inl below ↦ absurd (omega (arith, e, h.next_below i q, h.next_greatest a i p below (sym here ∙ sym same), leads))
      | inr not ↦
          let past : a < i = omega arith in
          absurd (omega (arith, e, h.next_greatest i a q past (same ∙ here)))
    ]

-- v is taken out of its chain: what led to it leads to its next
pub taken_out :
    (n v : ℕ) (b nx nx' hd hd' : ℕ → ℕ) (above : Option ℕ) → IsChained n b nx hd → v < n → IsLeastAbove n v b nx hd (b v) above
    → IsLinkSet (b v) above (nx v) nx hd nx' hd' → IsChainedBut n v b nx' hd'
taken_out n v b nx nx' hd hd' None h inside least set =
    let leads : hd (b v) ≡ v + 1 = leads_to n v b nx hd None h inside least in
    let there : hd' (b v) ≡ nx v = set.0 in
    let low : nx v ≤ v = h.next_below v inside in
    record {
      others = record {
        head_given = λ k. elim (cases_eq k (b v)) [
          | inl e ↦ omega (arith, ap hd' e, there, low)
          | inr ne ↦ omega (arith, set.1 k ne, h.head_given k)
        ];
        head_there = λ k some. elim (cases_eq k (b v)) [
          | inl e ↦
              let is : hd' k ≡ nx v = ap hd' e ∙ there in
              let more : 0 < nx v = omega arith in
              ap (λ z. b (z - 1)) is ∙ (h.next_there v inside more ∙ sym e)
          | inr ne ↦
              let is : hd' k ≡ hd k = set.1 k ne in
              let more : 0 < hd k = omega arith in
              ap (λ z. b (z - 1)) is ∙ h.head_there k more
        ];
        head_greatest = λ j p other. elim (cases_eq (b j) (b v)) [
          | inl e ↦
              let below : j < v = omega (arith, h.head_greatest j p, ap hd e, leads) in
              omega (arith, h.next_greatest v j inside below e, ap hd' e, there)
          | inr ne ↦ omega (arith, set.1 (b j) ne, h.head_greatest j p)
        ];
        next_below = λ i p other. omega (arith, set.2 i, h.next_below i p);
        next_there = λ i p other some.
            let more : 0 < nx i = omega (arith, set.2 i) in
            ap (λ z. b (z - 1)) (set.2 i) ∙ h.next_there i p more;
        next_greatest = λ i j p here below other same. omega (arith, set.2 i, h.next_greatest i j p below same);
      };
      head_other = λ k bad. elim (cases_eq k (b v)) [
        | inl e ↦ absurd (omega (arith, bad, ap hd' e, there, low))
        | inr ne ↦
            let is : hd k ≡ v + 1 = sym (set.1 k ne) ∙ bad in
            let more : 0 < hd k = omega arith in
            let back : hd k - 1 ≡ v = omega arith in
            ne (sym (h.head_there k more) ∙ ap b back)
      ];
      next_other = λ i p other bad. next_apart_head n v i b nx hd h p other leads (sym (set.2 i) ∙ bad);
    }
taken_out n v b nx nx' hd hd' (Some a) h inside least set =
    let leads : nx a ≡ v + 1 = leads_to n v b nx hd (Some a) h inside least in
    let there : nx' a ≡ nx v = set.0 in
    let low : nx v ≤ v = h.next_below v inside in
    let here : a < n = least.is_above.0 in
    let past : v < a = least.is_above.1 in
    let same_bucket : b a ≡ b v = least.is_above.2 in
    record {
      others = record {
        head_given = λ k. omega (arith, set.2 k, h.head_given k);
        head_there = λ k some.
            let more : 0 < hd k = omega (arith, set.2 k) in
            ap (λ z. b (z - 1)) (set.2 k) ∙ h.head_there k more;
        head_greatest = λ j p other. omega (arith, set.2 (b j), h.head_greatest j p);
        next_below = λ i p other. elim (cases_eq i a) [
          | inl e ↦ omega (arith, ap nx' e, there, low)
          | inr ne ↦ omega (arith, set.1 i ne, h.next_below i p)
        ];
        next_there = λ i p other some. elim (cases_eq i a) [
          | inl e ↦
              let is : nx' i ≡ nx v = ap nx' e ∙ there in
              let more : 0 < nx v = omega arith in
              ap (λ z. b (z - 1)) is ∙ (h.next_there v inside more ∙ (sym same_bucket ∙ sym (ap b e)))
          | inr ne ↦
              let is : nx' i ≡ nx i = set.1 i ne in
              let more : 0 < nx i = omega arith in
              ap (λ z. b (z - 1)) is ∙ h.next_there i p more
        ];
        next_greatest = λ i j p away below other same. elim (cases_eq i a) [
          | inl e ↦
              let alike : b j ≡ b a = same ∙ ap b e in
              let under : j < a = omega arith in
              let lower : j < v = omega (arith, h.next_greatest a j here under alike, leads) in
              omega (arith, h.next_greatest v j inside lower (alike ∙ same_bucket), ap nx' e, there)
          | inr ne ↦ omega (arith, set.1 i ne, h.next_greatest i j p below same)
        ];
      };
      head_other = λ k bad. head_apart_next n v a k b nx hd h here past same_bucket (sym (set.2 k) ∙ bad);
      next_other = λ i p other bad. elim (cases_eq i a) [
        | inl e ↦ absurd (omega (arith, bad, ap nx' e, there, low))
        | inr ne ↦ next_apart_next n v a i b nx hd h here past same_bucket leads p ne (sym (set.1 i ne) ∙ bad)
      ];
    }

-- where v is in no chain, the link from the number above it leads below it
leads_below :
    (n v : ℕ) (b nx hd : ℕ → ℕ) (k : ℕ) (above : Option ℕ) → IsChainedBut n v b nx hd → IsLeastAbove n v b nx hd k above
    → link_from nx hd k above ≤ v
leads_below n v b nx hd k None h least = omega (arith, least.falls, h.head_other k)
leads_below n v b nx hd k (Some a) h least =
    let apart : a ≢ v = omega (arith, least.is_above.1) in
    omega (arith, least.falls, h.next_other a least.is_above.0 apart)

-- v is put into the chain of its bucket: it leads to where what leads to it led
pub put_in :
    (n v : ℕ) (b nx nx' hd hd' : ℕ → ℕ) (above : Option ℕ) → IsChainedBut n v b nx hd → v < n → IsLeastAbove n v b nx hd (b v) above
    → nx v ≡ link_from nx hd (b v) above → IsLinkSet (b v) above (v + 1) nx hd nx' hd' → IsChained n b nx' hd'
put_in n v b nx nx' hd hd' None h inside least leads set =
    let low : nx v ≤ v = omega (arith, leads, leads_below n v b nx hd (b v) None h least) in
    let there : hd' (b v) ≡ v + 1 = set.0 in
    record {
      head_given = λ k. elim (cases_eq k (b v)) [
        | inl e ↦ omega (arith, ap hd' e, there)
        | inr ne ↦ omega (arith, set.1 k ne, h.others.head_given k)
      ];
      head_there = λ k some. elim (cases_eq k (b v)) [
        | inl e ↦ let back : hd' k - 1 ≡ v = omega (arith, ap hd' e, there) in ap b back ∙ sym e
        | inr ne ↦
            let more : 0 < hd k = omega (arith, set.1 k ne) in
            ap (λ z. b (z - 1)) (set.1 k ne) ∙ h.others.head_there k more
      ];
      head_greatest = λ j p. elim (cases_eq j v) [
        | inl e ↦ omega (arith, e, ap (λ z. hd' (b z)) e, there)
        | inr other ↦ elim (cases_eq (b j) (b v)) [
          | inl e ↦ omega (arith, ap hd' e, there, h.others.head_greatest j p other, ap hd e, leads, low)
          | inr ne ↦ omega (arith, set.1 (b j) ne, h.others.head_greatest j p other)
        ]
      ];
      next_below = λ i p. elim (cases_eq i v) [
        | inl e ↦ omega (arith, set.2 i, ap nx e, low, e)
        | inr other ↦ omega (arith, set.2 i, h.others.next_below i p other)
      ];
      next_there = λ i p some. elim (cases_eq i v) [
        | inl e ↦
            let is : nx' i ≡ hd (b v) = set.2 i ∙ (ap nx e ∙ leads) in
            let more : 0 < hd (b v) = omega arith in
            ap (λ z. b (z - 1)) is ∙ (h.others.head_there (b v) more ∙ sym (ap b e))
        | inr other ↦
            let more : 0 < nx i = omega (arith, set.2 i) in
            ap (λ z. b (z - 1)) (set.2 i) ∙ h.others.next_there i p other more
      ];
      next_greatest = λ i j p below same. elim (cases_eq i v) [
        | inl e ↦
            let given : j < n = omega arith in
            let other : j ≢ v = omega arith in
            let alike : b j ≡ b v = same ∙ ap b e in
            omega (arith, set.2 i, ap nx e, leads, h.others.head_greatest j given other, ap hd alike)
        | inr other ↦ elim (cases_eq j v) [
          | inl e ↦
              let alike : b i ≡ b v = sym same ∙ ap b e in
              absurd (omega (arith, h.others.head_greatest i p other, ap hd alike, leads, low, e))
          | inr apart ↦ omega (arith, set.2 i, h.others.next_greatest i j p other below apart same)
        ]
      ];
    }
put_in n v b nx nx' hd hd' (Some a) h inside least leads set =
    let low : nx v ≤ v = omega (arith, leads, leads_below n v b nx hd (b v) (Some a) h least) in
    let there : nx' a ≡ v + 1 = set.0 in
    let here : a < n = least.is_above.0 in
    let past : v < a = least.is_above.1 in
    let same_bucket : b a ≡ b v = least.is_above.2 in
    let a_apart : a ≢ v = omega arith in
    let v_apart : v ≢ a = omega arith in
    let same_next : nx' v ≡ nx a = set.1 v v_apart ∙ leads in
    record {
      head_given = λ k. omega (arith, set.2 k, h.others.head_given k);
      head_there = λ k some.
          let more : 0 < hd k = omega (arith, set.2 k) in
          ap (λ z. b (z - 1)) (set.2 k) ∙ h.others.head_there k more;
      head_greatest = λ j p. elim (cases_eq j v) [
        | inl e ↦ omega (arith, set.2 (b j), ap (λ z. hd (b z)) e, ap hd same_bucket, h.others.head_greatest a here a_apart, past, e)
        | inr other ↦ omega (arith, set.2 (b j), h.others.head_greatest j p other)
      ];
      next_below = λ i p. elim (cases_eq i a) [
        | inl e ↦ omega (arith, ap nx' e, there, past, e)
        | inr ne ↦ elim (cases_eq i v) [
          | inl e ↦ omega (arith, ap nx' e, same_next, leads, low, e)
          | inr other ↦ omega (arith, set.1 i ne, h.others.next_below i p other)
        ]
      ];
      next_there = λ i p some. elim (cases_eq i a) [
        | inl e ↦
            let back : nx' i - 1 ≡ v = omega (arith, ap nx' e, there) in
            ap b back ∙ (sym same_bucket ∙ sym (ap b e))
        | inr ne ↦ elim (cases_eq i v) [
          | inl e ↦
              let is : nx' i ≡ nx a = ap nx' e ∙ same_next in
              let more : 0 < nx a = omega arith in
              ap (λ z. b (z - 1)) is ∙ (h.others.next_there a here a_apart more ∙ (same_bucket ∙ sym (ap b e)))
          | inr other ↦
              let is : nx' i ≡ nx i = set.1 i ne in
              let more : 0 < nx i = omega arith in
              ap (λ z. b (z - 1)) is ∙ h.others.next_there i p other more
        ]
      ];
      next_greatest = λ i j p below same. elim (cases_eq i a) [
        | inl e ↦ elim (cases_eq j v) [
          | inl at ↦ omega (arith, ap nx' e, there, at)
          | inr other ↦
              let under : j < a = omega arith in
              omega (arith, ap nx' e, there, h.others.next_greatest a j here a_apart under other (same ∙ ap b e), leads, low)
        ]
        | inr ne ↦ elim (cases_eq i v) [
          | inl e ↦
              let under : j < a = omega arith in
              let other : j ≢ v = omega arith in
              let alike : b j ≡ b a = same ∙ (ap b e ∙ sym same_bucket) in
              omega (arith, ap nx' e, same_next, h.others.next_greatest a j here a_apart under other alike)
          | inr other ↦ elim (cases_eq j v) [
            | inl at ↦
                let alike : b i ≡ b a = sym same ∙ (ap b at ∙ sym same_bucket) in
                elim (cases_lt i a) [
                  | inl under ↦ absurd (omega (arith, h.others.next_greatest a i here a_apart under other alike, leads, low, at))
                  | inr not ↦
                      let over : a < i = omega arith in
                      omega (arith, set.1 i ne, h.others.next_greatest i a p other over a_apart (sym alike), past, at)
                ]
            | inr apart ↦ omega (arith, set.1 i ne, h.others.next_greatest i j p other below apart same)
          ]
        ]
      ];
    }

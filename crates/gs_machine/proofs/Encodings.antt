-- What the bytes of a character are.
use Rattle.std.proofs.Common.{◌≡◌, ◌≢◌, ℕ, zero, suc, ◌+◌, ◌-◌, ◌*◌, ◌/◌, ◌%◌, ◌<◌, ◌≤◌, List, [], ◌∷◌, ◌++◌, sym, ap, ◌∙◌, ◌⊎◌, inl, inr, arith, subst, length}
use Rattle.std.proofs.lemmas.Bool.Decides.{nat_tests}
use lib.Utf8.{encode, scalar_cases}
use Rattle.std.specs.Char.{IsScalar}
use Rattle.std.specs.Str.{StartsWithNoChar}
use Rattle.std.proofs.str.Laws.{Scalar, Shape, of1, of2, of3, of4, shape, order, one, two, three, four}

-- bytes that begin with a character
pub data Begun : List ℕ → Type 0 where
  begun1 : (a : ℕ) (z : List ℕ) → a < 128 → Begun (a ∷ z)
  begun2 : (a b : ℕ) (z : List ℕ) → 194 ≤ a → a < 224 → 128 ≤ b → b < 192 → Begun (a ∷ b ∷ z)
  begun3 : (a b d : ℕ) (z : List ℕ) → 224 ≤ a → a < 240 → 128 ≤ b → b < 192 → 128 ≤ d → d < 192 → (a ≡ 224 → 160 ≤ b) → (a ≡ 237 → b < 160)
      → Begun (a ∷ b ∷ d ∷ z)
  begun4 : (a b d e : ℕ) (z : List ℕ) → 240 ≤ a → a < 245 → 128 ≤ b → b < 192 → 128 ≤ d → d < 192 → 128 ≤ e → e < 192 → (a ≡ 240 → 144 ≤ b) → (a ≡ 244 → b < 144)
      → Begun (a ∷ b ∷ d ∷ e ∷ z)

past_one : (c : ℕ) → 1 < length (encode c) → 128 ≤ c
past_one c h = elim (order c 128) [ inl l ↦ absurd (omega (arith, ap length (one c l))) | inr l ↦ l ]

past_two : (c : ℕ) → 2 < length (encode c) → 2048 ≤ c
past_two c h = elim (order c 2048) [ inl l ↦ absurd (omega (arith, ap length (two c (past_one c (omega arith)) l))) | inr l ↦ l ]

past_three : (c : ℕ) → 3 < length (encode c) → 65536 ≤ c
past_three c h = elim (order c 65536) [ inl l ↦ absurd (omega (arith, ap length (three c (past_two c (omega arith)) l))) | inr l ↦ l ]

begun_as : (c : ℕ) (r : List ℕ) → Scalar c → Shape c → Begun (encode c ++ r)
begun_as c r k (of1 l e) = subst (λ p. Begun (p ++ r)) (sym e) (begun1 c r l)
begun_as c r k (of2 a b l u f s e) =
    let least : 128 ≤ c = past_one c (omega (arith, ap length e)) in
    subst (λ p. Begun (p ++ r)) (sym e) (begun2 a b r (omega arith) u f.0 f.1)
begun_as c r k (of3 a b d l u f g s e) =
    let least : 2048 ≤ c = past_two c (omega (arith, ap length e)) in
    subst (λ p. Begun (p ++ r)) (sym e) (begun3 a b d r l u f.0 f.1 g.0 g.1 (λ h. omega arith) (λ h. elim k [ inl q ↦ omega arith | inr q ↦ omega arith ]))
begun_as c r k (of4 a b d x l u f g h s e) =
    let least : 65536 ≤ c = past_three c (omega (arith, ap length e)) in
    let most : c < 1114112 = elim k [ inl q ↦ omega arith | inr q ↦ omega arith ] in
    subst (λ p. Begun (p ++ r)) (sym e) (begun4 a b d x r l (omega arith) f.0 f.1 g.0 g.1 h.0 h.1 (λ i. omega arith) (λ i. omega arith))

pub begun : (c : ℕ) (bytes r : List ℕ) → IsScalar c → bytes ≡ encode c ++ r → Begun bytes
begun c bytes r s e = subst Begun (sym e) (begun_as c r (scalar_cases c s) (shape c (scalar_cases c s)))

-- bytes that begin with no character
pub none_begun : (bytes : List ℕ) → (Begun bytes → ⊥) → StartsWithNoChar bytes
none_begun bytes h c r s e = h (begun c bytes r s e)

-- what may follow the bytes p of a character
pub record Next (Q : ℕ → Type 0) (low high : ℕ) (p : List ℕ) : Type 0 where
  pub fits : (b : ℕ) → low ≤ b → b ≤ high → Q b
  pub below : (b : ℕ) (z : List ℕ) → b < low → StartsWithNoChar (p ++ b ∷ z)
  pub above : (b : ℕ) (z : List ℕ) → high < b → StartsWithNoChar (p ++ b ∷ z)
  pub ends : StartsWithNoChar p

abbrev pub After : ℕ → ℕ → ℕ → ℕ → List ℕ → Type 0
After zero v low high p = Next (λ b. IsScalar (v * 64 + (b - 128)) × (encode (v * 64 + (b - 128)) ≡ p ++ b ∷ [])) low high p
After (suc k) v low high p = Next (λ b. After k (v * 64 + (b - 128)) 128 191 (p ++ b ∷ [])) low high p

pub scalar_from : (c : ℕ) → Scalar c → IsScalar c
scalar_from c k = elim k [ inl h ↦ grind (arith, nat_tests) | inr h ↦ grind (arith, nat_tests) ]

same_two : {a b c d : ℕ} → a ≡ c → b ≡ d → a ∷ b ∷ [] ≡ c ∷ d ∷ []
same_two e f = cc

pub encode_two : (a b : ℕ) → 194 ≤ a → a < 224 → 128 ≤ b → b ≤ 191
    → IsScalar ((a - 192) * 64 + (b - 128)) × (encode ((a - 192) * 64 + (b - 128)) ≡ a ∷ b ∷ [])
encode_two a b ha hb hc hd =
    let c : ℕ = (a - 192) * 64 + (b - 128) in
    (scalar_from c (inl (omega arith)), two c (omega arith) (omega arith) ∙ same_two (omega arith) (omega arith))

pub encode_three : (a b d : ℕ) → 224 ≤ a → a < 240 → 128 ≤ b → b ≤ 191 → 128 ≤ d → d ≤ 191 → (a ≡ 224 → 160 ≤ b) → (a ≡ 237 → b < 160)
    → IsScalar (((a - 224) * 64 + (b - 128)) * 64 + (d - 128)) × (encode (((a - 224) * 64 + (b - 128)) * 64 + (d - 128)) ≡ a ∷ b ∷ d ∷ [])
encode_three a b d ha hb hc hd he hf hg hh =
    let c : ℕ = ((a - 224) * 64 + (b - 128)) * 64 + (d - 128) in
    let least : 2048 ≤ c = elim (order a 225) [ inl l ↦ omega (arith, hg (omega arith)) | inr l ↦ omega arith ] in
    let k : Scalar c = elim (order a 237) [ inl l ↦ inl (omega arith) | inr l ↦ elim (order a 238) [ inl m ↦ inl (omega (arith, hh (omega arith))) | inr m ↦ inr (omega arith, omega arith) ] ] in
    let e0 : 224 + c / 4096 ≡ a = omega arith in
    let e1 : 128 + c / 64 % 64 ≡ b = omega arith in
    let e2 : 128 + c % 64 ≡ d = omega arith in
    (scalar_from c k, three c least (omega arith) ∙ cc)

pub encode_four : (a b d e : ℕ) → 240 ≤ a → a < 245 → 128 ≤ b → b ≤ 191 → 128 ≤ d → d ≤ 191 → 128 ≤ e → e ≤ 191 → (a ≡ 240 → 144 ≤ b) → (a ≡ 244 → b < 144)
    → IsScalar ((((a - 240) * 64 + (b - 128)) * 64 + (d - 128)) * 64 + (e - 128)) × (encode ((((a - 240) * 64 + (b - 128)) * 64 + (d - 128)) * 64 + (e - 128)) ≡ a ∷ b ∷ d ∷ e ∷ [])
encode_four a b d e ha hb hc hd he hf hg hh hi hj =
    let c : ℕ = (((a - 240) * 64 + (b - 128)) * 64 + (d - 128)) * 64 + (e - 128) in
    let least : 65536 ≤ c = elim (order a 241) [ inl l ↦ omega (arith, hi (omega arith)) | inr l ↦ omega arith ] in
    let most : c < 1114112 = elim (order a 244) [ inl l ↦ omega arith | inr l ↦ omega (arith, hj (omega arith)) ] in
    let e0 : 240 + c / 262144 ≡ a = omega arith in
    let e1 : 128 + c / 4096 % 64 ≡ b = omega arith in
    let e2 : 128 + c / 64 % 64 ≡ d = omega arith in
    let e3 : 128 + c % 64 ≡ e = omega arith in
    (scalar_from c (inr (omega arith, most)), four c least ∙ cc)

-- the places at which no character begins
no_low : (b : ℕ) (z : List ℕ) → 128 ≤ b → b < 194 → Begun (b ∷ z) → ⊥
no_low b z h k (begun1 _ _ l) = omega arith
no_low b _ h k (begun2 _ _ _ l _ _ _) = omega arith
no_low b _ h k (begun3 _ _ _ _ l _ _ _ _ _ _ _) = omega arith
no_low b _ h k (begun4 _ _ _ _ _ l _ _ _ _ _ _ _ _ _) = omega arith

no_high : (b : ℕ) (z : List ℕ) → 245 ≤ b → Begun (b ∷ z) → ⊥
no_high b z h (begun1 _ _ l) = omega arith
no_high b _ h (begun2 _ _ _ _ l _ _) = omega arith
no_high b _ h (begun3 _ _ _ _ _ l _ _ _ _ _ _) = omega arith
no_high b _ h (begun4 _ _ _ _ _ _ l _ _ _ _ _ _ _ _) = omega arith

no_one : (a : ℕ) → 128 ≤ a → Begun (a ∷ []) → ⊥
no_one a h (begun1 _ _ l) = omega arith

no_two : (a b : ℕ) → 224 ≤ a → Begun (a ∷ b ∷ []) → ⊥
no_two a b h (begun1 _ _ l) = omega arith
no_two a b h (begun2 _ _ _ _ l _ _) = omega arith

no_three : (a b d : ℕ) → 240 ≤ a → Begun (a ∷ b ∷ d ∷ []) → ⊥
no_three a b d h (begun1 _ _ l) = omega arith
no_three a b d h (begun2 _ _ _ _ l _ _) = omega arith
no_three a b d h (begun3 _ _ _ _ _ l _ _ _ _ _ _) = omega arith

no_second : (a b : ℕ) (z : List ℕ) → 128 ≤ a → (b < 128) ⊎ (192 ≤ b) → Begun (a ∷ b ∷ z) → ⊥
no_second a b z h k (begun1 _ _ l) = omega arith
no_second a b z h k (begun2 _ _ _ _ _ l m) = elim k [ inl q ↦ omega arith | inr q ↦ omega arith ]
no_second a b _ h k (begun3 _ _ _ _ _ _ l m _ _ _ _) = elim k [ inl q ↦ omega arith | inr q ↦ omega arith ]
no_second a b _ h k (begun4 _ _ _ _ _ _ _ l m _ _ _ _ _ _) = elim k [ inl q ↦ omega arith | inr q ↦ omega arith ]

no_narrow : (a b : ℕ) (z : List ℕ) → ((a ≡ 224) × (b < 160)) ⊎ ((a ≡ 237) × (160 ≤ b)) → Begun (a ∷ b ∷ z) → ⊥
no_narrow a b z k (begun1 _ _ l) = elim k [ inl q ↦ omega arith | inr q ↦ omega arith ]
no_narrow a b z k (begun2 _ _ _ _ l _ _) = elim k [ inl q ↦ omega arith | inr q ↦ omega arith ]
no_narrow a b _ k (begun3 _ _ _ _ _ _ _ _ _ _ l m) = elim k [ inl q ↦ omega (arith, l q.0) | inr q ↦ omega (arith, m q.0) ]
no_narrow a b _ k (begun4 _ _ _ _ _ l _ _ _ _ _ _ _ _ _) = elim k [ inl q ↦ omega arith | inr q ↦ omega arith ]

no_narrow4 : (a b : ℕ) (z : List ℕ) → ((a ≡ 240) × (b < 144)) ⊎ ((a ≡ 244) × (144 ≤ b)) → Begun (a ∷ b ∷ z) → ⊥
no_narrow4 a b z k (begun1 _ _ l) = elim k [ inl q ↦ omega arith | inr q ↦ omega arith ]
no_narrow4 a b z k (begun2 _ _ _ _ l _ _) = elim k [ inl q ↦ omega arith | inr q ↦ omega arith ]
no_narrow4 a b _ k (begun3 _ _ _ _ _ l _ _ _ _ _ _) = elim k [ inl q ↦ omega arith | inr q ↦ omega arith ]
no_narrow4 a b _ k (begun4 _ _ _ _ _ _ _ _ _ _ _ _ _ l m) = elim k [ inl q ↦ omega (arith, l q.0) | inr q ↦ omega (arith, m q.0) ]

no_third : (a b d : ℕ) (z : List ℕ) → 224 ≤ a → (d < 128) ⊎ (192 ≤ d) → Begun (a ∷ b ∷ d ∷ z) → ⊥
no_third a b d z h k (begun1 _ _ l) = omega arith
no_third a b d z h k (begun2 _ _ _ _ l _ _) = omega arith
no_third a b d z h k (begun3 _ _ _ _ _ _ _ _ l m _ _) = elim k [ inl q ↦ omega arith | inr q ↦ omega arith ]
no_third a b d _ h k (begun4 _ _ _ _ _ _ _ _ _ l m _ _ _ _) = elim k [ inl q ↦ omega arith | inr q ↦ omega arith ]

no_fourth : (a b d e : ℕ) (z : List ℕ) → 240 ≤ a → (e < 128) ⊎ (192 ≤ e) → Begun (a ∷ b ∷ d ∷ e ∷ z) → ⊥
no_fourth a b d e z h k (begun1 _ _ l) = omega arith
no_fourth a b d e z h k (begun2 _ _ _ _ l _ _) = omega arith
no_fourth a b d e z h k (begun3 _ _ _ _ _ l _ _ _ _ _ _) = omega arith
no_fourth a b d e z h k (begun4 _ _ _ _ _ _ _ _ _ _ _ l m _ _) = elim k [ inl q ↦ omega arith | inr q ↦ omega arith ]

pub lead_low : (b : ℕ) (z : List ℕ) → 128 ≤ b → b < 194 → StartsWithNoChar (b ∷ z)
lead_low b z h k = none_begun (b ∷ z) (no_low b z h k)

pub lead_high : (b : ℕ) (z : List ℕ) → 245 ≤ b → StartsWithNoChar (b ∷ z)
lead_high b z h = none_begun (b ∷ z) (no_high b z h)

pub after_two : (a : ℕ) → 194 ≤ a → a < 224 → After 0 (a - 192) 128 191 (a ∷ [])
after_two a h k = record {
  fits = λ b l m. encode_two a b h k l m;
  below = λ b z l. none_begun (a ∷ b ∷ z) (no_second a b z (omega arith) (inl l));
  above = λ b z l. none_begun (a ∷ b ∷ z) (no_second a b z (omega arith) (inr (omega arith)));
  ends = none_begun (a ∷ []) (no_one a (omega arith));
}

pub after_three : (a low high : ℕ) → 224 ≤ a → a < 240
    → ((a ≡ 224) × (low ≡ 160)) ⊎ ((a ≢ 224) × (low ≡ 128)) → ((a ≡ 237) × (high ≡ 159)) ⊎ ((a ≢ 237) × (high ≡ 191))
    → After 1 (a - 224) low high (a ∷ [])
after_three a low high h k u v = record {
  fits = λ b l m.
      let lb : 128 ≤ b = elim u [ inl q ↦ omega arith | inr q ↦ omega arith ] in
      let mb : b ≤ 191 = elim v [ inl q ↦ omega arith | inr q ↦ omega arith ] in
      record {
        fits = λ d n o. encode_three a b d h k lb mb n o
            (λ e. elim u [ inl q ↦ omega arith | inr q ↦ absurd (q.0 e) ]) (λ e. elim v [ inl q ↦ omega arith | inr q ↦ absurd (q.0 e) ]);
        below = λ d z n. none_begun (a ∷ b ∷ d ∷ z) (no_third a b d z h (inl n));
        above = λ d z n. none_begun (a ∷ b ∷ d ∷ z) (no_third a b d z h (inr (omega arith)));
        ends = none_begun (a ∷ b ∷ []) (no_two a b h);
      };
  below = λ b z l. none_begun (a ∷ b ∷ z)
      (elim u [ inl q ↦ no_narrow a b z (inl (q.0, omega arith)) | inr q ↦ no_second a b z (omega arith) (inl (omega arith)) ]);
  above = λ b z l. none_begun (a ∷ b ∷ z)
      (elim v [ inl q ↦ no_narrow a b z (inr (q.0, omega arith)) | inr q ↦ no_second a b z (omega arith) (inr (omega arith)) ]);
  ends = none_begun (a ∷ []) (no_one a (omega arith));
}

pub after_four : (a low high : ℕ) → 240 ≤ a → a < 245
    → ((a ≡ 240) × (low ≡ 144)) ⊎ ((a ≢ 240) × (low ≡ 128)) → ((a ≡ 244) × (high ≡ 143)) ⊎ ((a ≢ 244) × (high ≡ 191))
    → After 2 (a - 240) low high (a ∷ [])
after_four a low high h k u v = record {
  fits = λ b l m.
      let lb : 128 ≤ b = elim u [ inl q ↦ omega arith | inr q ↦ omega arith ] in
      let mb : b ≤ 191 = elim v [ inl q ↦ omega arith | inr q ↦ omega arith ] in
      record {
        fits = λ d n o. record {
          fits = λ e q r. encode_four a b d e h k lb mb n o q r
              (λ e. elim u [ inl q ↦ omega arith | inr q ↦ absurd (q.0 e) ]) (λ e. elim v [ inl q ↦ omega arith | inr q ↦ absurd (q.0 e) ]);
          below = λ e z q. none_begun (a ∷ b ∷ d ∷ e ∷ z) (no_fourth a b d e z h (inl q));
          above = λ e z q. none_begun (a ∷ b ∷ d ∷ e ∷ z) (no_fourth a b d e z h (inr (omega arith)));
          ends = none_begun (a ∷ b ∷ d ∷ []) (no_three a b d h);
        };
        below = λ d z n. none_begun (a ∷ b ∷ d ∷ z) (no_third a b d z (omega arith) (inl n));
        above = λ d z n. none_begun (a ∷ b ∷ d ∷ z) (no_third a b d z (omega arith) (inr (omega arith)));
        ends = none_begun (a ∷ b ∷ []) (no_two a b (omega arith));
      };
  below = λ b z l. none_begun (a ∷ b ∷ z)
      (elim u [ inl q ↦ no_narrow4 a b z (inl (q.0, omega arith)) | inr q ↦ no_second a b z (omega arith) (inl (omega arith)) ]);
  above = λ b z l. none_begun (a ∷ b ∷ z)
      (elim v [ inl q ↦ no_narrow4 a b z (inr (q.0, omega arith)) | inr q ↦ no_second a b z (omega arith) (inr (omega arith)) ]);
  ends = none_begun (a ∷ []) (no_one a (omega arith));
}

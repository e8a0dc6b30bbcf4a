-- The order of numbers: numbers of one place are one, and which entries it reads.
use Rattle.std.proofs.Common.{◌≡◌, ◌≢◌, ◌<◌, ℕ, Bool, true, false, nat_lt, nat_eq, cond, List, [], ◌∷◌, ◌++◌, map, length, get_or, set, refl, sym, ap, ◌∙◌, arith}
use Rattle.std.specs.Str.{bytes_eq}
use Rattle.std.specs.Ordering.{ordering_then, nat_cmp, is_eq}
use Rattle.std.specs.Cmp.{IsTotalOrder}
use Rattle.std.specs.declared.cmp.Ordering.{Ordering}
use Rattle.std.specs.declared.cmp.Ordering.TheVariants.{Less, Equal, Greater}
use Rattle.std.proofs.Math.Seq.{map-set_same}
use Rattle.std.proofs.lemmas.Bool.Decides.{nat_tests}
use Rattle.std.proofs.lemmas.Cmp.{tied_itself, on_total, nat_list_cmp_total}
use Rattle.std.proofs.lemmas.List.{get_or-map, get_or_append_left, get_or-set_other, map-append, map-set, length-map}
use Rattle.std.proofs.lemmas.Map.Text.{is_eq-slice_cmp}
use Rattle.gs_term.specs.declared.names.Target.{Target}
use Rattle.gs_term.specs.declared.names.Target.TheVariants.{Default, Named}
use Rattle.gs_term.specs.NameOrder.{name_ties}
use Rattle.gs_pool.specs.declared.nodes.Key.{Key}
use Rattle.gs_tree.specs.Keys.{AllKeys, IsRising}
use Rattle.gs_index.specs.declared.entries.Entry.{Entry}
use Rattle.gs_index.specs.Ages.{Age, blank_entry, age_of, target_text, target_cmp, is_target, age_cmp, aged_number_cmp, aged_key_cmp, aged_key_total, age_among, age_in}
use Rattle.gs_index.specs.Indexes.{entry_at}

-- targets are in a total order
pub target_total : IsTotalOrder target_cmp
target_total = on_total target_text nat_list_cmp_total

-- two targets are the same where the order has them tied
pub target_ties : (t u : Target) → is_target t u ≡ is_eq (target_cmp t u)
target_ties Default Default = refl
target_ties Default (Named b) = refl
target_ties (Named a) Default = refl
target_ties (Named a) (Named b) = name_ties a b

-- their texts are the same where they are
pub texts_same : (t u : Target) → bytes_eq (target_text t) (target_text u) ≡ is_target t u
texts_same t u = sym (is_eq-slice_cmp (target_text t) (target_text u)) ∙ sym (target_ties t u)

-- what is tied one after the other is tied in the second
tied_second : (o p : Ordering) → ordering_then o p ≡ Equal → p ≡ Equal
tied_second Less p e = absurd (cc)
tied_second Equal p e = e
tied_second Greater p e = absurd (cc)

-- numbers that compare as equal are one
pub tied_numbers : (m n : ℕ) → nat_cmp m n ≡ Equal → n ≡ m
tied_numbers m n e = elim (nat_lt m n) as (λ b. cond b Less (cond (nat_eq m n) Equal Greater) ≡ Equal → n ≡ m) [
  | true ↦ λ f. absurd (cc)
  | false ↦ by_test (nat_eq m n) refl
] e
  where
    by_test : (b : Bool) → nat_eq m n ≡ b → cond b Equal Greater ≡ Equal → n ≡ m
    by_test true is f = grind (arith, nat_tests)
    by_test false is f = absurd (cc)

module _ (age : ℕ → Age) where
  -- keys of one place have one number
  pub tied_keys : (a b : Key) → aged_key_cmp age a b ≡ Equal → a.subject ≡ b.subject
  tied_keys a b e = tied_numbers b.subject a.subject (tied_second (age_cmp (age a.subject) (age b.subject)) (nat_cmp b.subject a.subject) e)

  -- keys of one number have one place
  pub same_place : (a b : Key) → a.subject ≡ b.subject → aged_key_cmp age a b ≡ Equal
  same_place a b e = ap (λ n. aged_number_cmp age n b.subject) e ∙ tied_itself (aged_key_total age) b

-- an order reads the ages of the keys' numbers alone
module _ (f g : ℕ → Age) (P : ℕ → Type 0) (same : (n : ℕ) → P n → f n ≡ g n) where
  cmp_same : (a b : Key) → P a.subject → P b.subject → aged_key_cmp g a b ≡ aged_key_cmp f a b
  cmp_same a b ha hb =
      ap (λ x. ordering_then (age_cmp x (g b.subject)) (nat_cmp b.subject a.subject)) (sym (same a.subject ha))
      ∙ ap (λ x. ordering_then (age_cmp (f a.subject) x) (nat_cmp b.subject a.subject)) (sym (same b.subject hb))

  above_same : (a : Key) (ks : List Key) → P a.subject → AllKeys (λ k. P k.subject) ks → AllKeys (λ k. aged_key_cmp f a k ≡ Less) ks → AllKeys (λ k. aged_key_cmp g a k ≡ Less) ks
  above_same a [] h hs less = tt
  above_same a (k ∷ ks) h hs less = (cmp_same a k h hs.0 ∙ less.0, above_same a ks h hs.1 less.1)

  -- keys that rise by one rise by the other
  pub rising_same : (ks : List Key) → AllKeys (λ k. P k.subject) ks → IsRising (aged_key_cmp f) ks → IsRising (aged_key_cmp g) ks
  rising_same [] hs up = tt
  rising_same (k ∷ ks) hs up = (above_same k ks hs.0 hs.1 up.0, rising_same ks hs.1 up.1)

-- the age of a number within is that of its entry, whatever is sought
pub age_within : (es : List Entry) (t : Target) (b n : ℕ) → n < length es → age_among es t b n ≡ age_of (entry_at es n)
age_within es t b n h = get_or-map age_of es n blank_entry (record { target = t; birth = b }) h

-- ages stay as an entry is pushed
pub age_push : (es : List Entry) (e : Entry) (n : ℕ) → n < length es → age_in es n ≡ age_in (es ++ e ∷ []) n
age_push es e n h =
    let d = age_of blank_entry in
    let long : length (map age_of es) ≡ length es = length-map es age_of in
    sym (ap (λ xs. get_or xs n d) (map-append age_of es (e ∷ [])) ∙ get_or_append_left (map age_of es) (map age_of (e ∷ [])) d n (omega (arith, h, long)))

-- the others' stay as an entry is replaced
pub age_set : (es : List Entry) (i : ℕ) (e : Entry) (n : ℕ) → n ≢ i → age_in es n ≡ age_in (set es i e) n
age_set es i e n other =
    let d = age_of blank_entry in
    sym (ap (λ xs. get_or xs n d) (map-set age_of es i e) ∙ get_or-set_other (map age_of es) i n (age_of e) d other)

-- all stay as an entry is replaced by one of its age
pub age_kept : (es : List Entry) (i : ℕ) (e : Entry) → age_of e ≡ age_of (entry_at es i) → (n : ℕ) → age_in es n ≡ age_in (set es i e) n
age_kept es i e same n = sym (ap (λ xs. get_or xs n (age_of blank_entry)) (map-set_same age_of es i e blank_entry same))

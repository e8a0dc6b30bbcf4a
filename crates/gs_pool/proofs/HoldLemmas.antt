-- What the lists of retired elements say: of those that are not held, and of each hold.
use Rattle.std.proofs.Common.{◌≡◌, ◌≢◌, ℕ, ◌+◌, ◌<◌, ◌≤◌, Bool, true, false, ◌&&◌, leb, ltb, List, [], ◌∷◌, length, get_or, set, Option, Some, None, slice_get, refl, sym, ap, subst, ◌∙◌, inl, inr, arith, true≢false}
use Rattle.std.proofs.lemmas.Bool.{cases_eq, cases_lt, lt-ltb, le-ltb, le-leb, lt-leb}
use Rattle.std.proofs.lemmas.List.{get_or-set_same, get_or-set_other}
use Rattle.std.proofs.lemmas.List.Sums.{get_or-le-sum_by, count_by-le-length}
use Rattle.std.proofs.lemmas.Option.{slice_get_within}
use Rattle.std.specs.List.{sum_by}
use Rattle.gs_pool.specs.declared.holds.Hold.{Hold}
use Rattle.gs_versions.specs.Pins.{LiesIn}
use Rattle.gs_pool.specs.Lists.{Kind, IsChain, times, empty_hold, hold_at, is_kept_for, IsLast, IsHold, is_retired_at, AreRetired}
use Rattle.gs_pool.proofs.ListLemmas.{IsChain-set}
use Rattle.gs_pool.proofs.ChainLemmas.{flag, times_held, found_in, chain_on, last_in}

-- what is retired, and a pin needs
pub kept_for : {A : Type 0} (kind : Kind A) (pin : Option ℕ) (s : A) (v : ℕ) → pin ≡ Some v → kind.is_retired s ≡ true → LiesIn v (kind.birth s) (kind.death s) → is_kept_for kind pin s ≡ true
kept_for kind pin s v is retired lies = ap (λ o. is_kept_for kind o s) is ∙ rw (retired, le-leb (kind.birth s) v lies.0, lt-ltb v (kind.death s) lies.1) refl

-- both of two tests
and_both : (a b : Bool) → (a && b) ≡ true → (a ≡ true) × (b ≡ true)
and_both true b e = (refl, e)
and_both false b e = absurd (true≢false (sym e))

-- what is kept for a pin: the pin has a version, which needs it
pub record Keeps {A : Type 0} (kind : Kind A) (pin : Option ℕ) (s : A) : Type 0 where
  pub version : ℕ
  pub is : pin ≡ Some version
  pub retired : kind.is_retired s ≡ true
  pub lies : LiesIn version (kind.birth s) (kind.death s)

-- what is kept for a pin is retired, and lies in its version
pub kept_pin : {A : Type 0} (kind : Kind A) (pin : Option ℕ) (s : A) → is_kept_for kind pin s ≡ true → Keeps kind pin s
kept_pin kind None s e = absurd (true≢false (sym e))
kept_pin kind (Some v) s e =
    let a = and_both (kind.is_retired s) (leb (kind.birth s) v && ltb v (kind.death s)) e in
    let b = and_both (leb (kind.birth s) v) (ltb v (kind.death s)) a.1 in
    record {
      version = v;
      is = refl;
      retired = a.0;
      lies = (
        elim (cases_lt v (kind.birth s)) [
          | inl before ↦ absurd (true≢false (sym b.0 ∙ lt-leb (kind.birth s) v before))
          | inr from ↦ from
        ],
        elim (cases_lt v (kind.death s)) [
          | inl until ↦ until
          | inr past ↦ absurd (true≢false (sym b.1 ∙ le-ltb v (kind.death s) past))
        ],
      );
    }

-- so it is retired
pub kept_retired : {A : Type 0} (kind : Kind A) (pin : Option ℕ) (s : A) → is_kept_for kind pin s ≡ true → kind.is_retired s ≡ true
kept_retired kind pin s e = (kept_pin kind pin s e).retired

-- holds whose lists do not have a number keep them where its element is written
pub held_kept : {A : Type 0} (kind : Kind A) (items : List A) (holds : List Hold) (held : List (List ℕ)) (id : ℕ) (s : A) → ((k : ℕ) → IsHold kind items (hold_at holds k) (get_or held k [])) → (k : ℕ) → times id (get_or held k []) ≡ 0 → IsHold kind (set items id s) (hold_at holds k) (get_or held k [])
held_kept kind items holds held id s each k off = let h = each k in record {
  chain = IsChain-set kind.next (is_kept_for kind (hold_at holds k).pin) items id s (hold_at holds k).first (get_or held k []) off h.chain;
  last = h.last;
  counted = h.counted;
}

-- one hold is another, and the rest stay
pub each_set : {A : Type 0} (kind : Kind A) (items : List A) (holds : List Hold) (held : List (List ℕ)) (k : ℕ) (h : Hold) (l : List ℕ) → k < length holds → length held ≡ length holds → IsHold kind items h l → ((j : ℕ) → j ≢ k → IsHold kind items (hold_at holds j) (get_or held j [])) → (j : ℕ) → IsHold kind items (hold_at (set holds k h) j) (get_or (set held k l) j [])
each_set kind items holds held k h l lt many mine rest j = elim (cases_eq j k) [
  | inl here ↦ subst (λ i. IsHold kind items (hold_at (set holds k h) i) (get_or (set held k l) i [])) (sym here)
      (subst (λ o. IsHold kind items o (get_or (set held k l) k [])) (sym (get_or-set_same holds k h (empty_hold None) lt))
      (subst (λ o. IsHold kind items h o) (sym (get_or-set_same held k l [] (omega (arith, many)))) mine))
  | inr ne ↦
      subst (λ o. IsHold kind items o (get_or (set held k l) j [])) (sym (get_or-set_other holds k j h (empty_hold None) ne))
      (subst (λ o. IsHold kind items (hold_at holds j) o) (sym (get_or-set_other held k j l [] ne)) (rest j ne))
]

module _ {A : Type 0} {kind : Kind A} (items : List A) (first : Option ℕ) (holds : List Hold) (loose total : ℕ) (r : AreRetired kind items first holds loose total) where
  -- a number that is on no list is not on one
  pub off_one : (id k : ℕ) → sum_by (times id) r.held ≡ 0 → times id (get_or r.held k []) ≡ 0
  off_one id k off = omega (arith, off, times_held r.held id k)

  -- the numbers are no more than the items
  pub retired_few : loose ≤ total
  retired_few = omega (arith, r.loose_is, r.all)

  pub total_few : total ≤ length items
  total_few = omega (arith, r.total_is, count_by-le-length kind.is_retired items)

  pub held_few : (k : ℕ) → k < length holds → loose + (hold_at holds k).count ≤ total
  held_few k lt = omega (arith, r.loose_is, r.all, (r.each k).counted, get_or-le-sum_by (λ (l : List ℕ). length l) r.held k [] (omega (arith, r.many, lt)))

  -- where no first one is left that is not held, none is
  pub none_loose : first ≡ None → loose ≡ 0
  none_loose none = by_ids r.ids r.chain r.loose_is
    where
      by_ids : (ids : List ℕ) → IsChain kind.next kind.is_retired items first ids → loose ≡ length ids → loose ≡ 0
      by_ids [] p e = e
      by_ids (y ∷ ys) p e = absurd (let f : first ≡ Some y = p.0 in cc)

  -- and each that is retired is held
  pub all_held : first ≡ None → (x : ℕ) → is_retired_at kind.is_retired items x ≡ true → (k : ℕ) × (d : A) × (slice_get items x ≡ Some d) × (is_kept_for kind (hold_at holds k).pin d ≡ true)
  all_held none x is =
      let found = found_in r.held x (omega (arith, r.once x, ap flag is, none_in r.ids r.chain)) in
      let on = chain_on kind.next (is_kept_for kind (hold_at holds found.0).pin) items (hold_at holds found.0).first (get_or r.held found.0 []) x (r.each found.0).chain found.1 in
      (found.0, on.0, on.1, on.2)
    where
      none_in : (ids : List ℕ) → IsChain kind.next kind.is_retired items first ids → times x ids ≡ 0
      none_in [] p = refl
      none_in (y ∷ ys) p = absurd (let f : first ≡ Some y = p.0 in cc)

  -- a hold that no one begins has none
  pub empty_count : (k : ℕ) → (hold_at holds k).first ≡ None → (hold_at holds k).count ≡ 0
  empty_count k none = by_ids (get_or r.held k []) (r.each k).chain (r.each k).counted
    where
      by_ids : (ids : List ℕ) → IsChain kind.next (is_kept_for kind (hold_at holds k).pin) items (hold_at holds k).first ids → (hold_at holds k).count ≡ length ids → (hold_at holds k).count ≡ 0
      by_ids [] p e = e
      by_ids (y ∷ ys) p e = absurd (let f : (hold_at holds k).first ≡ Some y = p.0 in cc)

  -- the first one is an element
  pub loose_within : (id : ℕ) → first ≡ Some id → id < length items
  loose_within id is = by_ids r.ids r.chain
    where
      by_ids : (ids : List ℕ) → IsChain kind.next kind.is_retired items first ids → id < length items
      by_ids [] p = absurd (let e : first ≡ None = p in cc)
      by_ids (y ∷ ys) p =
          let e : first ≡ Some y = p.0 in
          let same : y ≡ id = cc in
          omega (arith, slice_get_within items y _ p.1.1)

  -- and so is the last one of a hold
  pub last_within : (k y : ℕ) → (hold_at holds k).first ≡ Some y → (d : A) × (slice_get items (hold_at holds k).last ≡ Some d) × (is_kept_for kind (hold_at holds k).pin d ≡ true)
  last_within k y is = let h = r.each k in by_ids (get_or r.held k []) h.chain h.last
    where
      by_ids : (ids : List ℕ) → IsChain kind.next (is_kept_for kind (hold_at holds k).pin) items (hold_at holds k).first ids → IsLast (hold_at holds k).last ids → (d : A) × (slice_get items (hold_at holds k).last ≡ Some d) × (is_kept_for kind (hold_at holds k).pin d ≡ true)
      by_ids [] p last = absurd (let e : (hold_at holds k).first ≡ None = p in cc)
      by_ids (w ∷ ws) p last =
          chain_on kind.next (is_kept_for kind (hold_at holds k).pin) items (hold_at holds k).first (w ∷ ws) (hold_at holds k).last p
          (subst (λ z. 0 < times z (w ∷ ws)) (sym last) (last_in w ws))

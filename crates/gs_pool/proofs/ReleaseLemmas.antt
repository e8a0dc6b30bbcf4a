-- How the list of a hold goes before that of those that are not held.
use Rattle.std.proofs.Common.{◌≡◌, ℕ, ◌+◌, ◌<◌, ◌≤◌, true, List, [], ◌∷◌, ◌++◌, length, get_or, set, Option, Some, None, refl, sym, ap, subst, ◌∙◌, inl, inr, arith, length-set, length-append}
use Rattle.std.proofs.lemmas.Bool.{cases_eq}
use Rattle.std.proofs.lemmas.List.{get_or-set_same, get_or-set_other}
use Rattle.std.proofs.lemmas.List.Sums.{sum_by-set}
use Rattle.std.proofs.lemmas.Option.{slice_get_within}
use Rattle.std.specs.List.{sum_by}
use Rattle.gs_pool.specs.declared.holds.Hold.{Hold}
use Rattle.gs_pool.specs.Lists.{Kind, IsChain, times, empty_hold, hold_at, is_kept_for, last_in_list, IsHold, is_retired_at, AreRetired}
use Rattle.gs_pool.proofs.ListLemmas.{place_of, count-set, IsChain-set}
use Rattle.gs_pool.proofs.ChainLemmas.{flag, flag_most, retired_was, retired_same, times_held, chain_on, chain_weaker, last_in, times_append, chain_join}
use Rattle.gs_pool.proofs.HoldLemmas.{kept_retired, held_kept, each_set}

module _ {A : Type 0} {kind : Kind A} (items : List A) (first : Option ℕ) (holds : List Hold) (loose total : ℕ) (r : AreRetired kind items first holds loose total) where
  -- a hold is given up, and its list goes before that of those that are not held
  module _ (k : ℕ) (pin : Option ℕ) (lt : k < length holds) where
    pub released_none : (hold_at holds k).first ≡ None → AreRetired kind items first (set holds k (empty_hold pin)) loose total
    released_none none = record {
      ids = r.ids;
      held = r.held;
      chain = r.chain;
      many = r.many ∙ sym (length-set holds k (empty_hold pin));
      each = λ j. elim (cases_eq j k) [
        | inl here ↦ subst (λ i. IsHold kind items (get_or (set holds k (empty_hold pin)) i (empty_hold None)) (get_or r.held i [])) (sym here)
            (subst (λ o. IsHold kind items o (get_or r.held k [])) (sym (get_or-set_same holds k (empty_hold pin) (empty_hold None) lt))
            (subst (λ o. IsHold kind items (empty_hold pin) o) (sym (no_ids (get_or r.held k []) (r.each k).chain)) (record { chain = refl; last = tt; counted = refl })))
        | inr ne ↦ subst (λ o. IsHold kind items o (get_or r.held j [])) (sym (get_or-set_other holds k j (empty_hold pin) (empty_hold None) ne)) (r.each j)
      ];
      once = r.once;
      loose_is = r.loose_is;
      all = r.all;
      total_is = r.total_is;
    }
      where
        no_ids : (ids : List ℕ) → IsChain kind.next (is_kept_for kind (hold_at holds k).pin) items (hold_at holds k).first ids → ids ≡ []
        no_ids [] p = refl
        no_ids (y ∷ ys) p = absurd (let f : (hold_at holds k).first ≡ Some y = p.0 in cc)

    pub released : (y : ℕ) (s d : A) → (hold_at holds k).first ≡ Some y → d ≡ get_or items (hold_at holds k).last d → kind.is_retired s ≡ kind.is_retired d → kind.next s ≡ first → AreRetired kind (set items (hold_at holds k).last s) (Some y) (set holds k (empty_hold pin)) (loose + (hold_at holds k).count) total
    released y s d is read same next = by_ids (get_or r.held k []) refl (r.each k)
      where
        by_ids : (l : List ℕ) → get_or r.held k [] ≡ l → IsHold kind items (hold_at holds k) l → AreRetired kind (set items (hold_at holds k).last s) (Some y) (set holds k (empty_hold pin)) (loose + (hold_at holds k).count) total
        by_ids [] e i = absurd (let f : (hold_at holds k).first ≡ None = i.chain in cc)
        by_ids (w ∷ ws) e i =
            let h = hold_at holds k in
            let z = h.last in
            let start : Some w ≡ Some y = sym i.chain.0 ∙ is in
            let last : z ≡ last_in_list w ws = i.last in
            let in_it : 0 < times z (w ∷ ws) = subst (λ x. 0 < times x (w ∷ ws)) (sym last) (last_in w ws) in
            let on = chain_on kind.next (is_kept_for kind h.pin) items h.first (w ∷ ws) z i.chain in_it in
            let within = slice_get_within items z on.0 on.1 in
            let here = place_of items z d within read in
            let one : on.0 ≡ d = cc in
            let was : kind.is_retired d ≡ true = kept_retired kind h.pin d (ap (is_kept_for kind h.pin) (sym one) ∙ on.2) in
            let now : kind.is_retired s ≡ true = same ∙ was in
            let lt_held : k < length r.held = omega (arith, r.many) in
            let parts : (x : ℕ) → sum_by (times x) (set r.held k []) + times x (w ∷ ws) ≡ sum_by (times x) r.held = λ x. omega (arith, sum_by-set (times x) r.held k [] [] lt_held, ap (times x) e) in
            let once_z : times z r.ids + sum_by (times z) r.held ≡ 1 = r.once z ∙ ap flag (retired_was kind.is_retired items z d within read ∙ was) in
            let single : (x : ℕ) → times x (w ∷ ws) ≤ 1 = λ x. omega (arith, parts x, r.once x, flag_most (is_retired_at kind.is_retired items x)) in
            let none : times z r.ids + sum_by (times z) (set r.held k []) ≡ 0 = omega (arith, parts z, once_z, in_it) in
            let main = IsChain-set kind.next kind.is_retired items z s first r.ids (omega (arith, none)) r.chain in
            let joined = chain_join kind.next kind.is_retired items z s h.first first w ws r.ids (chain_weaker kind.next (is_kept_for kind h.pin) kind.is_retired items h.first (w ∷ ws) (kept_retired kind h.pin) i.chain) last single within now next main in
            let counted = rw (was, now) at (count-set kind.is_retired items z s d within read) in
            record {
              ids = (w ∷ ws) ++ r.ids;
              held = set r.held k [];
              chain = subst (λ o. IsChain kind.next kind.is_retired (set items z s) o ((w ∷ ws) ++ r.ids)) is joined;
              many = length-set r.held k [] ∙ r.many ∙ sym (length-set holds k (empty_hold pin));
              each = each_set kind (set items z s) holds r.held k (empty_hold pin) [] lt r.many (record { chain = refl; last = tt; counted = refl }) (λ j ne.
                  let off : times z (get_or r.held j []) ≡ 0 = omega (arith, none, times_held (set r.held k []) z j, ap (times z) (get_or-set_other r.held k j [] [] ne)) in
                  held_kept kind items holds r.held z s r.each j off);
              once = λ x. omega (arith, r.once x, parts x, times_append x (w ∷ ws) r.ids, ap flag (retired_same kind.is_retired items z x s d read same));
              loose_is = omega (arith, r.loose_is, i.counted, length-append (w ∷ ws) r.ids);
              all = omega (arith, r.all, length-append (w ∷ ws) r.ids, sum_by-set (λ (m : List ℕ). length m) r.held k [] [] lt_held, ap (λ (m : List ℕ). length m) e);
              total_is = omega (arith, r.total_is, counted);
            }

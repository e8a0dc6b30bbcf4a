-- How an element gets onto the lists of retired ones, or leaves them.
use Rattle.std.proofs.Common.{◌≡◌, ℕ, suc, ◌+◌, ◌-◌, ◌<◌, true, false, cond, List, [], ◌∷◌, ◌++◌, map, length, get_or, set, Option, Some, None, is_some, slice_get, refl, sym, ap, subst, ◌∙◌, inl, inr, arith, length-set}
use Rattle.std.proofs.lemmas.Bool.{cases_eq, cases_lt}
use Rattle.std.proofs.lemmas.List.{length-map, length_push, get_or_past, get_or_append_left, get_or_push, map_push}
use Rattle.std.proofs.lemmas.List.Sums.{sum_by-set, sum_by_push}
use Rattle.std.proofs.lemmas.Option.{slice_get_within}
use Rattle.std.specs.List.{sum_by}
use Rattle.gs_pool.specs.declared.holds.Hold.{Hold}
use Rattle.gs_pool.specs.Lists.{Kind, IsChain, times, hold_at, with_node_first, is_kept_for, IsLast, IsHold, is_retired_at, AreRetired}
use Rattle.gs_pool.proofs.ListLemmas.{times_same, times_other, place_of, written, count-set, IsChain-set, IsChain-push}
use Rattle.gs_pool.proofs.ChainLemmas.{flag, retired_was, retired_here, retired_else, retired_same}
use Rattle.gs_pool.proofs.HoldLemmas.{kept_retired, held_kept, each_set, off_one}

module _ {A : Type 0} {kind : Kind A} (items : List A) (first : Option ℕ) (holds : List Hold) (loose total : ℕ) (r : AreRetired kind items first holds loose total) where
  module _ (id : ℕ) (s d : A) where
    -- an element that is not retired is changed, and is not
    pub retired_off : d ≡ get_or items id d → id < length items → kind.is_retired d ≡ false → kind.is_retired s ≡ false → AreRetired kind (set items id s) first holds loose total
    retired_off read within was now =
        let none : times id r.ids + sum_by (times id) r.held ≡ 0 = omega (arith, r.once id, ap flag (retired_was kind.is_retired items id d within read ∙ was)) in
        let counted = rw (was, now) at (count-set kind.is_retired items id s d within read) in
        record {
          ids = r.ids;
          held = r.held;
          chain = IsChain-set kind.next kind.is_retired items id s first r.ids (omega (arith, none)) r.chain;
          many = r.many;
          each = λ k. held_kept kind items holds r.held id s r.each k (off_one items first holds loose total r id k (omega (arith, none)));
          once = λ x. r.once x ∙ ap flag (sym (retired_same kind.is_retired items id x s d read (now ∙ sym was)));
          loose_is = r.loose_is;
          all = r.all;
          total_is = omega (arith, r.total_is, counted);
        }

    -- an element gets onto the list of those that are not held
    pub retired_push : d ≡ get_or items id d → id < length items → kind.is_retired d ≡ false → kind.is_retired s ≡ true → kind.next s ≡ first → AreRetired kind (set items id s) (Some id) holds (loose + 1) (total + 1)
    retired_push read within was now next =
        let none : times id r.ids + sum_by (times id) r.held ≡ 0 = omega (arith, r.once id, ap flag (retired_was kind.is_retired items id d within read ∙ was)) in
        let counted = rw (was, now) at (count-set kind.is_retired items id s d within read) in
        record {
          ids = id ∷ r.ids;
          held = r.held;
          chain = (refl, (s, written items id s within, now, subst (λ o. IsChain kind.next kind.is_retired (set items id s) o r.ids) (sym next) (IsChain-set kind.next kind.is_retired items id s first r.ids (omega (arith, none)) r.chain)));
          many = r.many;
          each = λ k. held_kept kind items holds r.held id s r.each k (off_one items first holds loose total r id k (omega (arith, none)));
          once = λ x. elim (cases_eq x id) [
            | inl here ↦ subst (λ y. times y (id ∷ r.ids) + sum_by (times y) r.held ≡ flag (is_retired_at kind.is_retired (set items id s) y)) (sym here) (omega (arith, none, times_same id r.ids, ap flag (retired_here kind.is_retired items id s within ∙ now)))
            | inr ne ↦ omega (arith, r.once x, times_other x id r.ids (λ e. ne (sym e)), ap flag (retired_else kind.is_retired items id x s ne))
          ];
          loose_is = omega (arith, r.loose_is);
          all = omega (arith, r.all);
          total_is = omega (arith, r.total_is, counted);
        }

    -- what holds where the first one that is not held leaves the list
    pub record PopsRetired : Type 0 where
      pub within : id < length items
      pub was : kind.is_retired d ≡ true
      pub some : 0 < loose
      pub lists : AreRetired kind (set items id s) (kind.next d) holds (loose - 1) (total - 1)

    pub retired_pop : first ≡ Some id → d ≡ get_or items id d → kind.is_retired s ≡ false → PopsRetired
    retired_pop is read now = by_ids r.ids r.chain r.once r.loose_is r.all
      where
        by_ids : (ids : List ℕ) → IsChain kind.next kind.is_retired items first ids → ((x : ℕ) → times x ids + sum_by (times x) r.held ≡ flag (is_retired_at kind.is_retired items x)) → loose ≡ length ids → length ids + sum_by (λ (l : List ℕ). length l) r.held ≡ total → PopsRetired
        by_ids [] p once loose_is all = absurd (let e : first ≡ None = p in cc)
        by_ids (y ∷ ys) p once loose_is all =
            let e : first ≡ Some y = p.0 in
            let same : y ≡ id = cc in
            let found : slice_get items id ≡ Some p.1.0 = subst (λ z. slice_get items z ≡ Some p.1.0) same p.1.1 in
            let within = slice_get_within items id _ found in
            let here = place_of items id d within read in
            let one : p.1.0 ≡ d = cc in
            let was : kind.is_retired d ≡ true = ap kind.is_retired (sym one) ∙ p.1.2 in
            let rest : IsChain kind.next kind.is_retired items (kind.next d) ys = subst (λ (t : A). IsChain kind.next kind.is_retired items (kind.next t) ys) one p.1.3 in
            let at : times id (id ∷ ys) + sum_by (times id) r.held ≡ 1 = subst (λ z. times id (z ∷ ys) + sum_by (times id) r.held ≡ 1) same (once id ∙ ap flag (retired_was kind.is_retired items id d within read ∙ was)) in
            let off : times id ys + sum_by (times id) r.held ≡ 0 = omega (arith, at, times_same id ys) in
            let counted = rw (was, now) at (count-set kind.is_retired items id s d within read) in
            let long : loose ≡ suc (length ys) = loose_is in
            let full : suc (length ys) + sum_by (λ (l : List ℕ). length l) r.held ≡ total = all in
            record {
              within = within;
              was = was;
              some = omega (arith, long);
              lists = record {
                ids = ys;
                held = r.held;
                chain = IsChain-set kind.next kind.is_retired items id s (kind.next d) ys (omega (arith, off)) rest;
                many = r.many;
                each = λ k. held_kept kind items holds r.held id s r.each k (off_one items first holds loose total r id k (omega (arith, off)));
                once = λ x. elim (cases_eq x id) [
                  | inl here ↦ subst (λ z. times z ys + sum_by (times z) r.held ≡ flag (is_retired_at kind.is_retired (set items id s) z)) (sym here) (omega (arith, off, ap flag (retired_here kind.is_retired items id s within ∙ now)))
                  | inr ne ↦ omega (arith, once x, times_other x y ys (λ f. ne (sym f ∙ same)), ap flag (retired_else kind.is_retired items id x s ne))
                ];
                loose_is = omega (arith, long);
                all = omega (arith, full);
                total_is = omega (arith, r.total_is, counted);
              };
            }

    -- an element gets onto the list of a hold whose pin needs it
    pub retired_hold : d ≡ get_or items id d → (k : ℕ) → k < length holds → id < length items → kind.is_retired d ≡ false → is_kept_for kind (hold_at holds k).pin s ≡ true → kind.next s ≡ (hold_at holds k).first → AreRetired kind (set items id s) first (set holds k (with_node_first (hold_at holds k) id)) loose (total + 1)
    retired_hold read k lt within was kept next =
        let h = hold_at holds k in
        let l = get_or r.held k [] in
        let now = kept_retired kind h.pin s kept in
        let none : times id r.ids + sum_by (times id) r.held ≡ 0 = omega (arith, r.once id, ap flag (retired_was kind.is_retired items id d within read ∙ was)) in
        let counted = rw (was, now) at (count-set kind.is_retired items id s d within read) in
        let lt_held : k < length r.held = omega (arith, r.many) in
        let mine : IsHold kind (set items id s) (with_node_first h id) (id ∷ l) = with_more h l (r.each k) (off_one items first holds loose total r id k (omega (arith, none))) kept next in
        record {
          ids = r.ids;
          held = set r.held k (id ∷ l);
          chain = IsChain-set kind.next kind.is_retired items id s first r.ids (omega (arith, none)) r.chain;
          many = length-set r.held k (id ∷ l) ∙ r.many ∙ sym (length-set holds k (with_node_first h id));
          each = each_set kind (set items id s) holds r.held k (with_node_first h id) (id ∷ l) lt r.many mine (λ j ne. held_kept kind items holds r.held id s r.each j (off_one items first holds loose total r id j (omega (arith, none))));
          once = λ x. elim (cases_eq x id) [
            | inl here ↦ subst (λ y. times y r.ids + sum_by (times y) (set r.held k (id ∷ l)) ≡ flag (is_retired_at kind.is_retired (set items id s) y)) (sym here)
                (omega (arith, none, times_same id l, sum_by-set (times id) r.held k (id ∷ l) [] lt_held, ap flag (retired_here kind.is_retired items id s within ∙ now)))
            | inr ne ↦ omega (arith, r.once x, times_other x id l (λ e. ne (sym e)), sum_by-set (times x) r.held k (id ∷ l) [] lt_held, ap flag (retired_else kind.is_retired items id x s ne))
          ];
          loose_is = r.loose_is;
          all = omega (arith, r.all, sum_by-set (λ (m : List ℕ). length m) r.held k (id ∷ l) [] lt_held);
          total_is = omega (arith, r.total_is, counted);
        }
      where
        last_more : (h : Hold) (l : List ℕ) → IsChain kind.next (is_kept_for kind h.pin) items h.first l → IsLast h.last l → IsLast (with_node_first h id).last (id ∷ l)
        last_more h [] p last = ap (λ o. cond {A = ℕ} (is_some o) h.last id) (let e : h.first ≡ None = p in e)
        last_more h (y ∷ ys) p last = ap (λ o. cond {A = ℕ} (is_some o) h.last id) p.0 ∙ last

        with_more : (h : Hold) (l : List ℕ) → IsHold kind items h l → times id l ≡ 0 → is_kept_for kind h.pin s ≡ true → kind.next s ≡ h.first → IsHold kind (set items id s) (with_node_first h id) (id ∷ l)
        with_more h l i off keeps onward = record {
          chain = (refl, (s, written items id s within, keeps, subst (λ o. IsChain kind.next (is_kept_for kind h.pin) (set items id s) o l) (sym onward) (IsChain-set kind.next (is_kept_for kind h.pin) items id s h.first l off i.chain)));
          last = last_more h l i.chain i.last;
          counted = omega (arith, i.counted);
        }

-- an element more, which is not retired
pub retired_more : {A : Type 0} {kind : Kind A} (items : List A) (first : Option ℕ) (holds : List Hold) (loose total : ℕ) (s : A) → AreRetired kind items first holds loose total → kind.is_retired s ≡ false → AreRetired kind (items ++ s ∷ []) first holds loose total
retired_more {kind = kind} items first holds loose total s r now =
    let counted = rw now at (sum_by_push (λ o. flag (kind.is_retired o)) items s) in
    let same : (x : ℕ) → is_retired_at kind.is_retired (items ++ s ∷ []) x ≡ is_retired_at kind.is_retired items x = λ x. rw (map_push kind.is_retired items s) (elim (cases_lt x (length items)) [
      | inl here ↦ get_or_append_left (map kind.is_retired items) (kind.is_retired s ∷ []) false x (omega (arith, length-map items kind.is_retired))
      | inr past ↦ elim (cases_eq x (length items)) [
        | inl at ↦ rw (at, get_or_push (map kind.is_retired items) (kind.is_retired s) false (length items) (length-map items kind.is_retired), now) (sym (get_or_past (map kind.is_retired items) (length items) false (omega (arith, length-map items kind.is_retired))))
        | inr ne ↦ get_or_past (map kind.is_retired items ++ kind.is_retired s ∷ []) x false (omega (arith, ne, length-map items kind.is_retired, length_push (map kind.is_retired items) (kind.is_retired s))) ∙ sym (get_or_past (map kind.is_retired items) x false (omega (arith, length-map items kind.is_retired)))
      ]
    ]) in
    record {
      ids = r.ids;
      held = r.held;
      chain = IsChain-push kind.next kind.is_retired items s first r.ids r.chain;
      many = r.many;
      each = λ k. let h = r.each k in record {
        chain = IsChain-push kind.next (is_kept_for kind (hold_at holds k).pin) items s (hold_at holds k).first (get_or r.held k []) h.chain;
        last = h.last;
        counted = h.counted;
      };
      once = λ x. r.once x ∙ ap flag (sym (same x));
      loose_is = r.loose_is;
      all = r.all;
      total_is = omega (arith, r.total_is, counted);
    }

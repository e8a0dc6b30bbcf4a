-- How the list of a hold goes before that of another hold, and how two holds change places.
use Rattle.std.proofs.Common.{◌≡◌, ◌≢◌, ℕ, ◌+◌, ◌<◌, ◌≤◌, true, cond, List, [], ◌∷◌, ◌++◌, length, get_or, set, Option, Some, None, is_some, refl, sym, ap, subst, ◌∙◌, arith, length-set, length-append}
use Rattle.std.proofs.lemmas.List.{get_or-set_other}
use Rattle.std.proofs.lemmas.List.Sums.{sum_by-set}
use Rattle.std.proofs.lemmas.Option.{slice_get_within}
use Rattle.std.specs.List.{sum_by}
use Rattle.gs_pool.specs.declared.holds.Hold.{Hold}
use Rattle.gs_pool.specs.Lists.{Kind, IsChain, times, empty_hold, hold_at, joined_holds, is_kept_for, last_in_list, IsHold, is_retired_at, AreRetired}
use Rattle.gs_pool.proofs.ListLemmas.{place_of, count-set, IsChain-set}
use Rattle.gs_pool.proofs.ChainLemmas.{flag, flag_most, retired_was, retired_same, times_held, chain_on, last_in, times_append, chain_join}
use Rattle.gs_pool.proofs.HoldLemmas.{kept_retired, held_kept, each_set}

-- a pin needs what is as retired, as old and as long dead as what it needs
pub kept_same : {A : Type 0} (kind : Kind A) (pin : Option ℕ) (s d : A) → kind.is_retired s ≡ kind.is_retired d → kind.birth s ≡ kind.birth d → kind.death s ≡ kind.death d → is_kept_for kind pin s ≡ is_kept_for kind pin d
kept_same kind None s d retired birth death = refl
kept_same kind (Some v) s d retired birth death = rw (retired, birth, death) refl

-- the last number of two lists that are one
last_append : (w : ℕ) (ws : List ℕ) (v : ℕ) (vs : List ℕ) → last_in_list w (ws ++ v ∷ vs) ≡ last_in_list v vs
last_append w [] v vs = refl
last_append w (u ∷ ws) v vs = last_append u ws v vs

-- and where the second has none
append_none : (w : ℕ) (ws : List ℕ) → last_in_list w (ws ++ []) ≡ last_in_list w ws
append_none w [] = refl
append_none w (u ∷ ws) = append_none u ws

-- the last number of a hold before another
last_joined : {A : Type 0} (kind : Kind A) (items : List A) (h g : Hold) (w : ℕ) (ws ids : List ℕ) → IsHold kind items h (w ∷ ws) → IsHold kind items g ids → (joined_holds h g).last ≡ last_in_list w (ws ++ ids)
last_joined kind items h g w ws [] i j = ap (λ o. cond {A = ℕ} (is_some o) g.last h.last) j.chain ∙ i.last ∙ sym (append_none w ws)
last_joined kind items h g w ws (v ∷ vs) i j = ap (λ o. cond {A = ℕ} (is_some o) g.last h.last) j.chain.0 ∙ j.last ∙ sym (last_append w ws v vs)

module _ {A : Type 0} {kind : Kind A} (items : List A) (first : Option ℕ) (holds : List Hold) (loose total : ℕ) (r : AreRetired kind items first holds loose total) (k j : ℕ) (lt : k < length holds) (to : j < length holds) (apart : k ≢ j) where
  lt_held : k < length r.held
  lt_held = omega (arith, r.many)

  to_held : (l : List ℕ) → j < length (set r.held k l)
  to_held l = omega (arith, r.many, length-set r.held k l)

  -- what is summed over all lists where two of them are others
  parts : (f : List ℕ → ℕ) (l m : List ℕ) → sum_by f (set (set r.held k l) j m) + f (get_or r.held k []) + f (get_or r.held j []) ≡ sum_by f r.held + f l + f m
  parts f l m = omega (arith, sum_by-set f r.held k l [] lt_held, sum_by-set f (set r.held k l) j m [] (to_held l), ap f (get_or-set_other r.held k j l [] (λ e. apart (sym e))))

  -- both have no more than all
  pub few_both : loose + (hold_at holds k).count + (hold_at holds j).count ≤ total
  few_both = omega (arith, r.loose_is, r.all, (r.each k).counted, (r.each j).counted, parts (λ (l : List ℕ). length l) [] [])

  -- two holds change places
  pub exchanged : AreRetired kind items first (set (set holds k (hold_at holds j)) j (hold_at holds k)) loose total
  exchanged =
      let a = hold_at holds k in
      let b = hold_at holds j in
      let l = get_or r.held k [] in
      let m = get_or r.held j [] in
      record {
        ids = r.ids;
        held = set (set r.held k m) j l;
        chain = r.chain;
        many = length-set (set r.held k m) j l ∙ length-set r.held k m ∙ r.many ∙ sym (length-set (set holds k b) j a ∙ length-set holds k b);
        each = each_set kind items (set holds k b) (set r.held k m) j a l (omega (arith, to, length-set holds k b)) (length-set r.held k m ∙ r.many ∙ sym (length-set holds k b)) (r.each k)
            (λ i ne. each_set kind items holds r.held k b m lt r.many (r.each j) (λ n apart. r.each n) i);
        once = λ x. omega (arith, r.once x, parts (times x) m l);
        loose_is = r.loose_is;
        all = omega (arith, r.all, parts (λ (n : List ℕ). length n) m l);
        total_is = r.total_is;
      }

  -- the list of one goes before that of the other
  pub handed : (y : ℕ) (s d : A) → (hold_at holds k).first ≡ Some y → (hold_at holds k).pin ≡ (hold_at holds j).pin → d ≡ get_or items (hold_at holds k).last d → kind.is_retired s ≡ kind.is_retired d → kind.birth s ≡ kind.birth d → kind.death s ≡ kind.death d → kind.next s ≡ (hold_at holds j).first → AreRetired kind (set items (hold_at holds k).last s) first (set (set holds k (empty_hold (hold_at holds k).pin)) j (joined_holds (hold_at holds k) (hold_at holds j))) loose total
  handed y s d is pins read same birth death next = by_ids (get_or r.held k []) refl (r.each k)
    where
      by_ids : (l : List ℕ) → get_or r.held k [] ≡ l → IsHold kind items (hold_at holds k) l → AreRetired kind (set items (hold_at holds k).last s) first (set (set holds k (empty_hold (hold_at holds k).pin)) j (joined_holds (hold_at holds k) (hold_at holds j))) loose total
      by_ids [] e i = absurd (let f : (hold_at holds k).first ≡ None = i.chain in cc)
      by_ids (w ∷ ws) e i =
          let h = hold_at holds k in
          let g = hold_at holds j in
          let m = get_or r.held j [] in
          let n = r.each j in
          let z = h.last in
          let none = empty_hold h.pin in
          let last : z ≡ last_in_list w ws = i.last in
          let in_it : 0 < times z (w ∷ ws) = subst (λ x. 0 < times x (w ∷ ws)) (sym last) (last_in w ws) in
          let on = chain_on kind.next (is_kept_for kind h.pin) items h.first (w ∷ ws) z i.chain in_it in
          let within = slice_get_within items z on.0 on.1 in
          let here = place_of items z d within read in
          let one : on.0 ≡ d = cc in
          let kept : is_kept_for kind h.pin d ≡ true = ap (is_kept_for kind h.pin) (sym one) ∙ on.2 in
          let was : kind.is_retired d ≡ true = kept_retired kind h.pin d kept in
          let still : is_kept_for kind g.pin s ≡ true = ap (λ o. is_kept_for kind o s) (sym pins) ∙ kept_same kind h.pin s d same birth death ∙ kept in
          let now : kind.is_retired s ≡ true = same ∙ was in
          let both = (w ∷ ws) ++ m in
          let items_now = set items z s in
          let sums : (x : ℕ) → sum_by (times x) (set (set r.held k []) j both) ≡ sum_by (times x) r.held = λ x. omega (arith, parts (times x) [] both, ap (times x) e, times_append x (w ∷ ws) m) in
          let split : (x : ℕ) → sum_by (times x) (set r.held k []) + times x (w ∷ ws) ≡ sum_by (times x) r.held = λ x. omega (arith, sum_by-set (times x) r.held k [] [] lt_held, ap (times x) e) in
          let single : (x : ℕ) → times x (w ∷ ws) ≤ 1 = λ x. omega (arith, split x, r.once x, flag_most (is_retired_at kind.is_retired items x)) in
          let off_all : times z r.ids + sum_by (times z) (set r.held k []) ≡ 0 = omega (arith, split z, r.once z, ap flag (retired_was kind.is_retired items z d within read ∙ was), in_it) in
          let off : (i : ℕ) → i ≢ k → times z (get_or r.held i []) ≡ 0 = λ i ne. omega (arith, off_all, times_held (set r.held k []) z i, ap (times z) (get_or-set_other r.held k i [] [] ne)) in
          let mine : IsHold kind items_now (joined_holds h g) both = record {
            chain = chain_join kind.next (is_kept_for kind g.pin) items z s h.first g.first w ws m (subst (λ o. IsChain kind.next (is_kept_for kind o) items h.first (w ∷ ws)) pins i.chain) last single within still next (IsChain-set kind.next (is_kept_for kind g.pin) items z s g.first m (off j (λ f. apart (sym f))) n.chain);
            last = last_joined kind items h g w ws m i n;
            counted = omega (arith, i.counted, n.counted, length-append (w ∷ ws) m);
          } in
          let counted = rw (was, now) at (count-set kind.is_retired items z s d within read) in
          record {
            ids = r.ids;
            held = set (set r.held k []) j both;
            chain = IsChain-set kind.next kind.is_retired items z s first r.ids (omega (arith, off_all)) r.chain;
            many = length-set (set r.held k []) j both ∙ length-set r.held k [] ∙ r.many ∙ sym (length-set (set holds k none) j (joined_holds h g) ∙ length-set holds k none);
            each = each_set kind items_now (set holds k none) (set r.held k []) j (joined_holds h g) both (omega (arith, to, length-set holds k none)) (length-set r.held k [] ∙ r.many ∙ sym (length-set holds k none)) mine
                (λ i ne. each_set kind items_now holds r.held k none [] lt r.many (record { chain = refl; last = tt; counted = refl }) (λ o away. held_kept kind items holds r.held z s r.each o (off o away)) i);
            once = λ x. omega (arith, r.once x, sums x, ap flag (retired_same kind.is_retired items z x s d read same));
            loose_is = r.loose_is;
            all = omega (arith, r.all, parts (λ (l : List ℕ). length l) [] both, ap (λ (l : List ℕ). length l) e, length-append (w ∷ ws) m);
            total_is = omega (arith, r.total_is, counted);
          }

-- Runs of keys that rise, by their neighbours.
use Rattle.std.proofs.Common.{◌≡◌, ℕ, zero, suc, ◌+◌, ◌-◌, ◌<◌, ◌≤◌, true, false, List, [], ◌∷◌, ◌++◌, length, take, get_or, refl, sym, ap, subst, ◌∙◌, arith, true≢false}
use Rattle.std.specs.Bool.{Decides}
use Rattle.std.proofs.lemmas.List.{take_more, take_all}
use Rattle.std.specs.declared.cmp.Ordering.{Ordering}
use Rattle.std.specs.declared.cmp.Ordering.TheVariants.{Less}
use Rattle.std.specs.Cmp.{IsTotalOrder}
use Rattle.gs_pool.specs.declared.nodes.Key.{Key}
use Rattle.gs_tree.specs.Keys.{AllKeys, IsRising}
use Rattle.gs_tree.specs.Reading.{is_less}
use Rattle.gs_tree.proofs.Merging.{front_below}
use Rattle.gs_tree.proofs.FromLemmas.{less_is}

module _ (cmp : Key → Key → Ordering) (total : IsTotalOrder cmp) where
  -- one key rises
  pub rising_one : (run : List Key) → IsRising cmp (take 1 run)
  rising_one [] = tt
  rising_one (x ∷ run) = (tt, tt)

  -- a key above all of a run lengthens it
  rising_last : (l : List Key) (x : Key) → IsRising cmp l → AllKeys (λ a. cmp a x ≡ Less) l → IsRising cmp (l ++ x ∷ [])
  rising_last [] x s a = (tt, tt)
  rising_last (y ∷ l) x s a = (all_last l s.0, rising_last l x s.1 a.1)
    where
      all_last : (t : List Key) → AllKeys (λ z. cmp y z ≡ Less) t → AllKeys (λ z. cmp y z ≡ Less) (t ++ x ∷ [])
      all_last [] h = (a.0, tt)
      all_last (z ∷ t) h = (h.0, all_last t h.1)

  -- a key above the last of a run is above all
  all_below : (l : List Key) (y x : Key) → IsRising cmp (l ++ y ∷ []) → cmp y x ≡ Less → AllKeys (λ a. cmp a x ≡ Less) (l ++ y ∷ [])
  all_below [] y x s h = (h, tt)
  all_below (z ∷ l) y x s h = (total.trans z y x (front_below cmp total (z ∷ l) y [] s).0 h, all_below l y x s.1 h)

  -- a run with one key more
  pub rising_more : (run : List Key) (m : ℕ) (d : Key) → suc m < length run → is_less (cmp (get_or run m d) (get_or run (suc m) d)) ≡ true → IsRising cmp (take (suc m) run) → IsRising cmp (take (suc m + 1) run)
  rising_more run m d within h s =
      let here : take (m + 1) run ≡ take m run ++ get_or run m d ∷ [] = take_more run m d (omega arith) in
      let next : m + 1 ≡ suc m = omega arith in
      let cut : take (suc m) run ≡ take m run ++ get_or run m d ∷ [] = ap (λ n. take n run) (sym next) ∙ here in
      let up : IsRising cmp (take m run ++ get_or run m d ∷ []) = subst (IsRising cmp) cut s in
      let low = all_below (take m run) (get_or run m d) (get_or run (suc m) d) up (less_is _ h) in
      subst (IsRising cmp) (sym (take_more run (suc m) d within)) (rising_last (take (suc m) run) (get_or run (suc m) d) s (subst (AllKeys (λ a. cmp a (get_or run (suc m) d) ≡ Less)) (sym cut) low))

  -- in a run that rises each key is below the next
  rising_next : (run : List Key) (m : ℕ) (d : Key) → suc m < length run → IsRising cmp run → cmp (get_or run m d) (get_or run (suc m) d) ≡ Less
  rising_next [] m d within s = absurd (omega arith)
  rising_next (x ∷ []) m d within s = absurd (omega arith)
  rising_next (x ∷ y ∷ run) zero d within s = s.0.0
  rising_next (x ∷ y ∷ run) (suc m) d within s = rising_next (y ∷ run) m d (omega arith) s.1

  -- where a key is not below the next, the run does not rise
  pub not_rising : (run : List Key) (m : ℕ) (d : Key) → suc m < length run → is_less (cmp (get_or run m d) (get_or run (suc m) d)) ≡ false → Decides false (IsRising cmp run)
  not_rising run m d within h = ((λ bad. absurd (true≢false (sym bad))), λ s. absurd (true≢false (sym (ap is_less (rising_next run m d within s)) ∙ h)))

  -- the same, by the place of the next key
  pub rising_step : (run : List Key) (n : ℕ) (d : Key) → 1 ≤ n → n < length run → is_less (cmp (get_or run (n - 1) d) (get_or run n d)) ≡ true → IsRising cmp (take n run) → IsRising cmp (take (n + 1) run)
  rising_step run zero d some within h s = absurd (omega arith)
  rising_step run (suc m) d some within h s =
      let e : suc m - 1 ≡ m = omega arith in
      rising_more run m d within (subst (λ k. is_less (cmp (get_or run k d) (get_or run (suc m) d)) ≡ true) e h) s

  pub falling_step : (run : List Key) (n : ℕ) (d : Key) → 1 ≤ n → n < length run → is_less (cmp (get_or run (n - 1) d) (get_or run n d)) ≡ false → Decides false (IsRising cmp run)
  falling_step run zero d some within h = absurd (omega arith)
  falling_step run (suc m) d some within h =
      let e : suc m - 1 ≡ m = omega arith in
      not_rising run m d within (subst (λ k. is_less (cmp (get_or run k d) (get_or run (suc m) d)) ≡ false) e h)

  -- all of it was looked at
  pub rising_all : (run : List Key) (n : ℕ) → length run ≤ n → IsRising cmp (take n run) → Decides true (IsRising cmp run)
  rising_all run n past s = ((λ _. subst (IsRising cmp) (take_all n run past) s), λ _. refl)

-- Facts on lists of keys that rise.
use Rattle.std.proofs.Common.{◌≡◌, List, [], ◌∷◌, ◌++◌, refl, ap, ◌∙◌}
use Rattle.std.specs.declared.cmp.Ordering.{Ordering}
use Rattle.std.specs.declared.cmp.Ordering.TheVariants.{Less, Equal, Greater}
use Rattle.std.specs.Ordering.{ordering_reverse}
use Rattle.std.specs.Cmp.{IsTotalOrder}
use Rattle.gs_pool.specs.declared.nodes.Key.{Key}
use Rattle.gs_tree.specs.Keys.{AllKeys, IsRising, insert_key, insert_by}

pub AllKeys-map : (P Q : Key → Type 0) → ((y : Key) → P y → Q y) → (t : List Key) → AllKeys P t → AllKeys Q t
AllKeys-map P Q f [] a = tt
AllKeys-map P Q f (y ∷ t) a = (f y a.0, AllKeys-map P Q f t a.1)

pub AllKeys-front : (P : Key → Type 0) (l m : List Key) → AllKeys P (l ++ m) → AllKeys P l
AllKeys-front P [] m a = tt
AllKeys-front P (x ∷ l) m a = (a.0, AllKeys-front P l m a.1)

pub AllKeys-back : (P : Key → Type 0) (l m : List Key) → AllKeys P (l ++ m) → AllKeys P m
AllKeys-back P [] m a = a
AllKeys-back P (x ∷ l) m a = AllKeys-back P l m a.1

pub all_middle : (P : Key → Type 0) (l : List Key) (k : Key) (r : List Key) → AllKeys P (l ++ k ∷ r) → P k
all_middle P l k r a = (AllKeys-back P l (k ∷ r) a).0

reversed : (a b : Ordering) → a ≡ ordering_reverse b → b ≡ Greater → a ≡ Less
reversed a b e f = e ∙ ap ordering_reverse f

module _ (cmp : Key → Key → Ordering) (total : IsTotalOrder cmp) where
  pub above : (x y : Key) → cmp x y ≡ Greater → cmp y x ≡ Less
  above x y h = total.antisymm y x ∙ ap ordering_reverse h

  pub below : (x y : Key) → cmp x y ≡ Less → cmp y x ≡ Greater
  below x y h = total.antisymm y x ∙ ap ordering_reverse h

  pub rising_front : (l m : List Key) → IsRising cmp (l ++ m) → IsRising cmp l
  rising_front [] m s = tt
  rising_front (x ∷ l) m s = (AllKeys-front _ l m s.0, rising_front l m s.1)

  pub rising_back : (l : List Key) (k : Key) (r : List Key) → IsRising cmp (l ++ k ∷ r) → IsRising cmp r
  rising_back [] k r s = s.1
  rising_back (x ∷ l) k r s = rising_back l k r s.1

  -- x goes into the keys before k
  pub insert_key_left : (x k : Key) (l r : List Key) → cmp x k ≡ Less → insert_key cmp x (l ++ k ∷ r) ≡ insert_key cmp x l ++ k ∷ r
  insert_key_left x k [] r h = ap (λ o. insert_by o x k r (insert_key cmp x r)) h
  insert_key_left x k (y ∷ t) r h = ap (insert_by (cmp x y) x y (t ++ k ∷ r)) (insert_key_left x k t r h) ∙ by_answer (cmp x y)
    where
      by_answer : (o : Ordering) → insert_by o x y (t ++ k ∷ r) (insert_key cmp x t ++ k ∷ r) ≡ insert_by o x y t (insert_key cmp x t) ++ k ∷ r
      by_answer Less = refl
      by_answer Equal = refl
      by_answer Greater = refl

  -- x goes into the keys after k
  pub insert_key_right : (x k : Key) (l r : List Key) → cmp x k ≡ Greater → IsRising cmp (l ++ k ∷ r) → insert_key cmp x (l ++ k ∷ r) ≡ l ++ k ∷ insert_key cmp x r
  insert_key_right x k [] r h s = ap (λ o. insert_by o x k r (insert_key cmp x r)) h
  insert_key_right x k (y ∷ t) r h s =
      let low : cmp y k ≡ Less = all_middle (λ z. cmp y z ≡ Less) t k r s.0 in
      let up : cmp x y ≡ Greater = below y x (total.trans y k x low (above x k h)) in
      ap (λ o. insert_by o x y (t ++ k ∷ r) (insert_key cmp x (t ++ k ∷ r))) up ∙ ap (λ z. y ∷ z) (insert_key_right x k t r h s.1)

  all_insert : (P : Key → Type 0) (x : Key) (t : List Key) → P x → AllKeys P t → AllKeys P (insert_key cmp x t)
  all_insert P x [] p a = (p, tt)
  all_insert P x (y ∷ t) p a = by_answer (cmp x y) (all_insert P x t p a.1)
    where
      by_answer : (o : Ordering) → AllKeys P (insert_key cmp x t) → AllKeys P (insert_by o x y t (insert_key cmp x t))
      by_answer Less rest = (p, a)
      by_answer Equal rest = a
      by_answer Greater rest = (a.0, rest)

  pub rising_insert : (x : Key) (t : List Key) → IsRising cmp t → IsRising cmp (insert_key cmp x t)
  rising_insert x [] s = (tt, tt)
  rising_insert x (y ∷ t) s = by_answer (cmp x y) refl (rising_insert x t s.1)
    where
      by_answer : (o : Ordering) → cmp x y ≡ o → IsRising cmp (insert_key cmp x t) → IsRising cmp (insert_by o x y t (insert_key cmp x t))
      by_answer Less e rest = ((e, AllKeys-map (λ z. cmp y z ≡ Less) (λ z. cmp x z ≡ Less) (λ z h. total.trans x y z e h) t s.0), s)
      by_answer Equal e rest = s
      by_answer Greater e rest = (all_insert (λ z. cmp y z ≡ Less) x t (above x y e) s.0, rest)

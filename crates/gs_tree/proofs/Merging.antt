-- Runs of keys that go into lists of keys that rise.
use Rattle.std.proofs.Common.{◌≡◌, ◌≢◌, ◌⊎◌, ℕ, zero, suc, ◌+◌, ◌-◌, ◌<◌, ◌≤◌, List, [], ◌∷◌, ◌++◌, length, take, drop, get_or, refl, sym, ap, subst, ◌∙◌, inl, inr, arith, append_assoc, append-nil, false, true≢false, length-append, length-take, length-drop, take-append-drop}
use Rattle.std.proofs.lemmas.List.{drop_more, take_more}
use Rattle.std.proofs.lemmas.List.Sums.{fold-append}
use Rattle.std.specs.declared.cmp.Ordering.{Ordering}
use Rattle.std.specs.declared.cmp.Ordering.TheVariants.{Less, Equal, Greater}
use Rattle.std.specs.Cmp.{IsTotalOrder}
use Rattle.gs_pool.specs.declared.nodes.Key.{Key}
use Rattle.gs_tree.specs.Merging.{CutAtKey}
use Rattle.gs_tree.specs.Keys.{AllKeys, IsRising, insert_key, insert_by, merge_keys, Places}
use Rattle.gs_tree.proofs.Order.{AllKeys-map, all_middle, above, below, rising_front, rising_insert, insert_key_left, insert_key_right}

-- what is read past the end of a run
abbrev pub no_key : Key
no_key = record { subject = 0; predicate = 0; object = 0 }

pub some_keys : (n : ℕ) → Rattle.std.proofs.Common.eqb n 0 ≡ false → 0 < n
some_keys n h = elim (Rattle.std.proofs.lemmas.Bool.cases_eq n 0) [
  | inl e ↦ absurd (true≢false (sym (Rattle.std.proofs.lemmas.Bool.eq-eqb n 0 e) ∙ h))
  | inr ne ↦ omega arith
]

append_all : (P : Key → Type 0) (l r : List Key) → AllKeys P l → AllKeys P r → AllKeys P (l ++ r)
append_all P [] r a b = b
append_all P (x ∷ l) r a b = (a.0, append_all P l r a.1 b)

pub cut_length : (cmp : Key → Key → Ordering) (key : Key) (run low high : List Key) → CutAtKey cmp key run low high → length low + length high ≤ length run
cut_length cmp key run low high c = elim c.parts [
  | inl e ↦ omega (arith, ap length e, length-append low high)
  | inr e ↦ omega (arith, ap length e.1, length-append low (e.0 ∷ high))
]

pub cut_of : (cmp : Key → Key → Ordering) (key : Key) (run low high : List Key) (before after : ℕ) → Places cmp key run before after → low ≡ take before run → high ≡ drop after run → CutAtKey cmp key run low high
cut_of cmp key run low high before after p el eh = record {
  below = subst (AllKeys (λ x. cmp x key ≡ Less)) (sym el) p.below;
  above = subst (AllKeys (λ x. cmp key x ≡ Less)) (sym eh) p.above;
  parts = elim p.here [
    | inl same ↦ inl (sym (take-append-drop before run) ∙ ap (λ xs. xs ++ drop before run) (sym el) ∙ ap (λ xs. low ++ xs) (ap (λ n. drop n run) same ∙ sym eh))
    | inr at ↦ inr (at.0, sym (take-append-drop before run) ∙ ap (λ xs. xs ++ drop before run) (sym el) ∙ ap (λ xs. low ++ xs) (at.1 ∙ ap (λ xs. at.0 ∷ xs) (sym eh)), at.2)
  ];
}

module _ (cmp : Key → Key → Ordering) (total : IsTotalOrder cmp) where
  insert_key_here : (x k : Key) (l r : List Key) → cmp x k ≡ Equal → IsRising cmp (l ++ k ∷ r) → insert_key cmp x (l ++ k ∷ r) ≡ l ++ k ∷ r
  insert_key_here x k [] r h s = ap (λ o. insert_by o x k r (insert_key cmp x r)) h
  insert_key_here x k (y ∷ t) r h s =
      let low : cmp y k ≡ Less = all_middle (λ z. cmp y z ≡ Less) t k r s.0 in
      ap (λ o. insert_by o x y (t ++ k ∷ r) (insert_key cmp x (t ++ k ∷ r))) (total.congr x k y h ∙ below cmp total y k low) ∙ ap (λ z. y ∷ z) (insert_key_here x k t r h s.1)

  insert_key_last : (x : Key) (ys : List Key) → AllKeys (λ y. cmp y x ≡ Less) ys → insert_key cmp x ys ≡ ys ++ x ∷ []
  insert_key_last x [] a = refl
  insert_key_last x (y ∷ ys) a = ap (λ o. insert_by o x y ys (insert_key cmp x ys)) (below cmp total y x a.0) ∙ ap (λ z. y ∷ z) (insert_key_last x ys a.1)

  -- a run below k goes into the keys before k
  merge_left : (a : List Key) (k : Key) (l r : List Key) → AllKeys (λ x. cmp x k ≡ Less) a → merge_keys cmp a (l ++ k ∷ r) ≡ merge_keys cmp a l ++ k ∷ r
  merge_left [] k l r h = refl
  merge_left (x ∷ a) k l r h = ap (merge_keys cmp a) (insert_key_left cmp total x k l r h.0) ∙ merge_left a k (insert_key cmp x l) r h.1

  -- a run above k goes into the keys after k
  merge_right : (b : List Key) (k : Key) (l r : List Key) → AllKeys (λ x. cmp k x ≡ Less) b → IsRising cmp (l ++ k ∷ r) → merge_keys cmp b (l ++ k ∷ r) ≡ l ++ k ∷ merge_keys cmp b r
  merge_right [] k l r h s = refl
  merge_right (x ∷ b) k l r h s =
      let e = insert_key_right cmp total x k l r (below cmp total k x h.0) s in
      ap (merge_keys cmp b) e ∙ merge_right b k l (insert_key cmp x r) h.1 (subst (IsRising cmp) e (rising_insert cmp total x (l ++ k ∷ r) s))

  pub rising_merge : (run ys : List Key) → IsRising cmp ys → IsRising cmp (merge_keys cmp run ys)
  rising_merge [] ys s = s
  rising_merge (x ∷ run) ys s = rising_merge run (insert_key cmp x ys) (rising_insert cmp total x ys s)

  -- a run goes into the two sides of a key
  pub merge_node : (run low high : List Key) (k : Key) (l r : List Key) → CutAtKey cmp k run low high → IsRising cmp (l ++ k ∷ r) → merge_keys cmp run (l ++ k ∷ r) ≡ merge_keys cmp low l ++ k ∷ merge_keys cmp high r
  merge_node run low high k l r c s =
      let f : List Key → Key → List Key = λ ks x. insert_key cmp x ks in
      let e = merge_left low k l r c.below in
      let up : IsRising cmp (merge_keys cmp low l ++ k ∷ r) = subst (IsRising cmp) e (rising_merge low (l ++ k ∷ r) s) in
      let back = merge_right high k (merge_keys cmp low l) r c.above up in
      elim c.parts [
        | inl p ↦ ap (λ xs. merge_keys cmp xs (l ++ k ∷ r)) p ∙ fold-append f (l ++ k ∷ r) low high ∙ ap (merge_keys cmp high) e ∙ back
        | inr p ↦ ap (λ xs. merge_keys cmp xs (l ++ k ∷ r)) p.1 ∙ fold-append f (l ++ k ∷ r) low (p.0 ∷ high) ∙ ap (merge_keys cmp (p.0 ∷ high)) e ∙ ap (merge_keys cmp high) (insert_key_here p.0 k (merge_keys cmp low l) r p.2 up) ∙ back
      ]

  pub front_below : (l : List Key) (x : Key) (r : List Key) → IsRising cmp (l ++ x ∷ r) → AllKeys (λ a. cmp a x ≡ Less) l
  front_below [] x r s = tt
  front_below (y ∷ l) x r s = (all_middle (λ z. cmp y z ≡ Less) l x r s.0, front_below l x r s.1)

  pub back_above : (l : List Key) (x : Key) (r : List Key) → IsRising cmp (l ++ x ∷ r) → AllKeys (λ b. cmp x b ≡ Less) r
  back_above [] x r s = s.0
  back_above (y ∷ l) x r s = back_above l x r s.1

  pub rising_after : (l r : List Key) → IsRising cmp (l ++ r) → IsRising cmp r
  rising_after [] r s = s
  rising_after (x ∷ l) r s = rising_after l r s.1

  merge_end : (run ys : List Key) → IsRising cmp (ys ++ run) → merge_keys cmp run ys ≡ ys ++ run
  merge_end [] ys s = sym (append-nil ys)
  merge_end (x ∷ run) ys s =
      let e = sym (append_assoc ys (x ∷ []) run) in
      ap (merge_keys cmp run) (insert_key_last x ys (front_below ys x run s)) ∙ merge_end run (ys ++ x ∷ []) (subst (IsRising cmp) e s) ∙ sym e

  -- a run is what goes into no keys
  pub merge_none : (run : List Key) → IsRising cmp run → merge_keys cmp run [] ≡ run
  merge_none run s = merge_end run [] s

  pub cut_rising : (key : Key) (run low high : List Key) → CutAtKey cmp key run low high → IsRising cmp run → IsRising cmp low × IsRising cmp high
  cut_rising key run low high c s = elim c.parts [
    | inl e ↦ let up : IsRising cmp (low ++ high) = subst (IsRising cmp) e s in (rising_front cmp total low high up, rising_after low high up)
    | inr e ↦ let up : IsRising cmp (low ++ e.0 ∷ high) = subst (IsRising cmp) e.1 s in (rising_front cmp total low (e.0 ∷ high) up, (rising_after low (e.0 ∷ high) up).1)
  ]

  module _ (run : List Key) (s : IsRising cmp run) (m : ℕ) (within : m < length run) (x d : Key) (at : x ≡ get_or run m d) (key : Key) where
    rest : drop m run ≡ x ∷ drop (m + 1) run
    rest = drop_more run m d within ∙ ap (λ y. y ∷ drop (m + 1) run) (sym at)

    up : IsRising cmp (take m run ++ x ∷ drop (m + 1) run)
    up = subst (IsRising cmp) (sym (take-append-drop m run) ∙ ap (λ xs. take m run ++ xs) rest) s

    pub place_below : cmp x key ≡ Less → AllKeys (λ y. cmp y key ≡ Less) (take (m + 1) run)
    place_below h = subst (AllKeys (λ y. cmp y key ≡ Less)) (sym (take_more run m d within ∙ ap (λ y. take m run ++ y ∷ []) (sym at)))
        (append_all (λ y. cmp y key ≡ Less) (take m run) (x ∷ []) (AllKeys-map (λ a. cmp a x ≡ Less) (λ y. cmp y key ≡ Less) (λ y e. total.trans y x key e h) (take m run) (front_below (take m run) x (drop (m + 1) run) up)) (h, tt))

    pub place_above : cmp x key ≡ Greater → AllKeys (λ y. cmp key y ≡ Less) (drop m run)
    place_above h = subst (AllKeys (λ y. cmp key y ≡ Less)) (sym rest)
        (above cmp total x key h, AllKeys-map (λ b. cmp x b ≡ Less) (λ y. cmp key y ≡ Less) (λ y e. total.trans key x y (above cmp total x key h) e) (drop (m + 1) run) (back_above (take m run) x (drop (m + 1) run) up))

    pub place_here : cmp x key ≡ Equal → Places cmp key run m (m + 1)
    place_here h = record {
      low = omega arith;
      within = omega arith;
      below = AllKeys-map (λ a. cmp a x ≡ Less) (λ y. cmp y key ≡ Less) (λ y e. above cmp total key y (sym (total.congr x key y h) ∙ below cmp total y x e)) (take m run) (front_below (take m run) x (drop (m + 1) run) up);
      above = AllKeys-map (λ b. cmp x b ≡ Less) (λ y. cmp key y ≡ Less) (λ y e. sym (total.congr x key y h) ∙ e) (drop (m + 1) run) (back_above (take m run) x (drop (m + 1) run) up);
      here = inr (x, rest, h);
    }

    pub place_first : cmp x key ≡ Greater → m ≡ 0 → Places cmp key run 0 0
    place_first h e = record {
      low = omega arith;
      within = omega arith;
      below = tt;
      above = subst (λ n. AllKeys (λ y. cmp key y ≡ Less) (drop n run)) e (place_above h);
      here = inl refl;
    }

    pub place_last : cmp x key ≡ Less → m + 1 ≡ length run → Places cmp key run (length run) (length run)
    place_last h e = record {
      low = omega arith;
      within = omega arith;
      below = subst (λ n. AllKeys (λ y. cmp y key ≡ Less) (take n run)) e (place_below h);
      above = subst (AllKeys (λ y. cmp key y ≡ Less)) (sym (Rattle.std.proofs.lemmas.List.drop_all (length run) run (omega arith))) tt;
      here = inl refl;
    }

  -- a run lengthens the keys by its own length at most
  pub length_merge : (run ys : List Key) → length (merge_keys cmp run ys) ≤ length ys + length run
  length_merge [] ys = omega arith
  length_merge (x ∷ run) ys = omega (arith, length_merge run (insert_key cmp x ys), length_insert x ys)
    where
      length_insert : (x : Key) (ys : List Key) → length (insert_key cmp x ys) ≤ length ys + 1
      length_insert x [] = omega arith
      length_insert x (y ∷ ys) = by_answer (cmp x y) (length_insert x ys)
        where
          by_answer : (o : Ordering) → length (insert_key cmp x ys) ≤ length ys + 1 → length (insert_by o x y ys (insert_key cmp x ys)) ≤ suc (length ys) + 1
          by_answer Less h = omega arith
          by_answer Equal h = omega arith
          by_answer Greater h = omega arith

-- Walks over keys that rise: where one starts, how it goes on, and that nothing is missed where it ends.
use Rattle.std.proofs.Common.{◌≡◌, ◌≢◌, ◌≤◌, Bool, true, false, List, [], ◌∷◌, ◌++◌, length, Option, Some, None, refl, sym, ap, ◌∙◌, subst, inl, inr, true≢false}
use Rattle.std.specs.List.{filter, flat_map}
use Rattle.std.specs.declared.cmp.Ordering.{Ordering}
use Rattle.std.specs.declared.cmp.Ordering.TheVariants.{Less, Equal, Greater}
use Rattle.std.specs.Cmp.{IsTotalOrder}
use Rattle.std.proofs.lemmas.Cmp.{tied_itself, alike_right}
use Rattle.gs_dict.specs.Numbering.{IsDistinct}
use Rattle.gs_pool.specs.declared.nodes.Key.{Key}
use Rattle.gs_tree.specs.Keys.{AllKeys, IsRising, HasKey}
use Rattle.gs_tree.specs.Reading.{is_less, is_past, keys_from, first_key}
use Rattle.gs_tree.proofs.FromLemmas.{less_is}
use Rattle.gs_tree.proofs.Order.{AllKeys-map, below}
use Rattle.gs_keys.specs.Texts.{Terms, key_cmp, key_total, IsGiven}
use Rattle.gs_keys.proofs.KeyLemmas.{tied_keys, tied_given}
use Rattle.gs_joins.specs.Numbers.{no_number}
use Rattle.gs_match.specs.Ranges.{key_in_range, IsRange, IsNotBelow, IsQuiet, StartsIn, rest_at}
use Rattle.gs_match.proofs.RangeLemmas.{above_range, between, only_key}

-- what is found at keys where nothing is
pub all_quiet : (f : Key → List Key) (ks : List Key) → AllKeys (λ k. f k ≡ []) ks → flat_map f ks ≡ []
all_quiet f [] h = refl
all_quiet f (k ∷ ks) h = ap (λ xs. xs ++ flat_map f ks) h.0 ∙ all_quiet f ks h.1

-- keys where nothing is found are left out
quiet_filter : (p : Key → Bool) (f : Key → List Key) (ks : List Key) → AllKeys (λ k. p k ≡ false → f k ≡ []) ks → flat_map f ks ≡ flat_map f (filter p ks)
quiet_filter p f [] h = refl
quiet_filter p f (k ∷ ks) h = by_test (p k) refl (quiet_filter p f ks h.1)
  where
    by_test : (b : Bool) → p k ≡ b → flat_map f ks ≡ flat_map f (filter p ks) → f k ++ flat_map f ks ≡ flat_map f (filter p (k ∷ ks))
    by_test true e later = rw e (ap (λ xs. f k ++ xs) later)
    by_test false e later = rw e (ap (λ xs. xs ++ flat_map f ks) (h.0 e) ∙ later)

-- what always holds, of each key
all_unit : (zs : List Key) → AllKeys (λ x. Unit {0}) zs
all_unit [] = tt
all_unit (z ∷ zs) = (tt, all_unit zs)

module _ (cmp : Key → Key → Ordering) (total : IsTotalOrder cmp) where
  -- keys that are all above one
  all_above : (k : Key) (ks : List Key) → AllKeys (λ y. cmp k y ≡ Less) ks → keys_from cmp (Some k) ks ≡ ks
  all_above k [] h = refl
  all_above k (y ∷ ks) h = rw (ap is_less h.0) (ap (λ xs. y ∷ xs) (all_above k ks h.1))

  -- the first key above one is above it, and is one of the keys
  pub first_past : (P : Key → Type 0) (k : Key) (ks : List Key) (z : Key) → AllKeys P ks → first_key (keys_from cmp (Some k) ks) ≡ Some z → (cmp k z ≡ Less) × P z
  first_past P k [] z h e = absurd (cc)
  first_past P k (y ∷ ks) z h e = by_test (is_less (cmp k y)) refl (first_past P k ks z h.1)
    where
      by_test : (b : Bool) → is_less (cmp k y) ≡ b → (first_key (keys_from cmp (Some k) ks) ≡ Some z → (cmp k z ≡ Less) × P z) → (cmp k z ≡ Less) × P z
      by_test true t later =
          let here : first_key (keys_from cmp (Some k) (y ∷ ks)) ≡ Some y = rw t refl in
          let is : y ≡ z = some_is y z (sym here ∙ e) in
          (subst (λ x. cmp k x ≡ Less) is (less_is (cmp k y) t), subst P is h.0)
        where
          some_is : (a b : Key) → Some a ≡ Some b → a ≡ b
          some_is a b e = cc
      by_test false t later = later ((let there : first_key (keys_from cmp (Some k) ks) ≡ first_key (keys_from cmp (Some k) (y ∷ ks)) = rw t refl in there) ∙ e)

  -- the keys from one on, with one more before them
  not_past : (k y : Key) (o : Option Key) (ks : List Key) → is_less (cmp k y) ≡ false → ((z : Key) → o ≡ Some z → cmp k z ≡ Less) → rest_at cmp ks o ≡ rest_at cmp (y ∷ ks) o
  not_past k y None ks t h = refl
  not_past k y (Some z) ks t h = by_test (is_less (cmp z y)) refl
    where
      by_test : (b : Bool) → is_less (cmp z y) ≡ b → rest_at cmp ks (Some z) ≡ rest_at cmp (y ∷ ks) (Some z)
      by_test true e = absurd (true≢false (sym (ap is_less (total.trans k z y (h z refl) (less_is (cmp z y) e))) ∙ t))
      by_test false e = rw e refl

  -- the keys above one are those from the first of them on
  pub from_first : (k : Key) (ks : List Key) → IsRising cmp ks → keys_from cmp (Some k) ks ≡ rest_at cmp ks (first_key (keys_from cmp (Some k) ks))
  from_first k [] rising = refl
  from_first k (y ∷ ks) rising = by_test (is_less (cmp k y)) refl (from_first k ks rising.1)
    where
      by_test : (b : Bool) → is_less (cmp k y) ≡ b → keys_from cmp (Some k) ks ≡ rest_at cmp ks (first_key (keys_from cmp (Some k) ks)) → keys_from cmp (Some k) (y ∷ ks) ≡ rest_at cmp (y ∷ ks) (first_key (keys_from cmp (Some k) (y ∷ ks)))
      by_test true t later =
          let past : AllKeys (λ z. cmp k z ≡ Less) ks = AllKeys-map (λ z. cmp y z ≡ Less) (λ z. cmp k z ≡ Less) (λ z h. total.trans k y z (less_is (cmp k y) t) h) ks rising.0 in
          rw (t, tied_itself total y) (ap (λ xs. y ∷ xs) (all_above k ks past ∙ sym (all_above y ks rising.0)))
      by_test false t later = rw t (later ∙ not_past k y (first_key (keys_from cmp (Some k) ks)) ks t (λ z e. (first_past (λ x. Unit {0}) k ks z (all_unit ks) e).0))

  -- a key among others that are above one is above it
  has_above : (y r : Key) (ks : List Key) → AllKeys (λ z. cmp y z ≡ Less) ks → HasKey cmp r ks → cmp y r ≡ Less
  has_above y r [] h has = absurd has
  has_above y r (z ∷ ks) h has = elim has [
    | inl e ↦ alike_right total r z y e ∙ h.0
    | inr later ↦ has_above y r ks h.1 later
  ]

  -- where a key is not there, none compares as equal to it
  none_tied : (r : Key) (ks : List Key) → (HasKey cmp r ks → ⊥) → AllKeys (λ y. cmp r y ≢ Equal) ks
  none_tied r [] h = tt
  none_tied r (y ∷ ks) h = ((λ e. h (inl e)), none_tied r ks (λ has. h (inr has)))

  -- all that is found at a key and above it, where nothing is found elsewhere
  found_from_key : (f : Key → List Key) (r : Key) (ks : List Key) → IsRising cmp ks → HasKey cmp r ks → AllKeys (λ y. cmp r y ≡ Equal → r ≡ y) ks → AllKeys (λ y. (r ≢ y) → f y ≡ []) ks
      → flat_map f ks ≡ flat_map f (rest_at cmp ks (Some r))
  found_from_key f r [] rising has exact quiet = absurd has
  found_from_key f r (y ∷ ks) rising has exact quiet = elim has [
    | inl e ↦
        let is : r ≡ y = exact.0 e in
        let above : AllKeys (λ z. cmp r z ≡ Less) ks = AllKeys-map (λ z. cmp y z ≡ Less) (λ z. cmp r z ≡ Less) (λ z h. total.congr r y z e ∙ h) ks rising.0 in
        rw e (ap (λ x. f x ++ flat_map f ks) (sym is) ∙ ap (λ xs. f r ++ flat_map f xs) (sym (all_above r ks above)))
    | inr later ↦
        let low : cmp y r ≡ Less = has_above y r ks rising.0 later in
        let high : cmp r y ≡ Greater = below cmp total y r low in
        let none : f y ≡ [] = quiet.0 (λ is. absurd (let bad : Equal ≡ Greater = sym (ap (cmp r) (sym is) ∙ tied_itself total r) ∙ high in cc)) in
        rw high (ap (λ xs. xs ++ flat_map f ks) none ∙ found_from_key f r ks rising.1 later exact.1 quiet.1)
  ]

module _ (terms : Terms) (distinct : IsDistinct terms) (few : length terms ≤ no_number) (ks : List Key) (rising : IsRising (key_cmp terms) ks) (given : AllKeys (IsGiven terms) ks) (r : Key) (form : IsRange r) where
  -- a walk that starts at the first key above a range
  pub starts_above : r.object ≡ no_number → StartsIn terms ks r (first_key (keys_from (key_cmp terms) (Some r) ks))
  starts_above none = record {
    given = λ k e. (first_past (key_cmp terms) (key_total terms) (IsGiven terms) r ks k given e).1;
    not_below = λ k e g. let bad : Less ≡ Greater = sym (first_past (key_cmp terms) (key_total terms) (IsGiven terms) r ks k given e).0 ∙ g in cc;
    skips = λ f quiet. quiet_filter (is_past (key_cmp terms) (Some r)) f ks (AllKeys-map (IsGiven terms) (λ k. is_past (key_cmp terms) (Some r) k ≡ false → f k ≡ []) (λ k g low. quiet k g (out k g low (key_in_range r k) refl)) ks given)
        ∙ ap (flat_map f) (from_first (key_cmp terms) (key_total terms) r ks rising);
  }
    where
      out : (k : Key) → IsGiven terms k → is_less (key_cmp terms r k) ≡ false → (b : Bool) → key_in_range r k ≡ b → key_in_range r k ≡ false
      out k g low true e = absurd (true≢false (sym (ap is_less (above_range terms distinct few r k form none g e)) ∙ low))
      out k g low false e = e

  -- a range of one key has no other
  out_of_one : r.object ≢ no_number → (k : Key) → r ≢ k → (b : Bool) → key_in_range r k ≡ b → key_in_range r k ≡ false
  out_of_one ne k other true e = absurd (other (only_key r k form ne e))
  out_of_one ne k other false e = e

  -- the numbers of a key that is there have terms
  given_by : (zs : List Key) → AllKeys (IsGiven terms) zs → HasKey (key_cmp terms) r zs → IsGiven terms r
  given_by [] g has = absurd has
  given_by (z ∷ zs) g has = elim has [
    | inl e ↦ tied_given terms r z g.0 e
    | inr later ↦ given_by zs g.1 later
  ]

  -- a walk that starts at the one key of a range
  pub starts_here : r.object ≢ no_number → HasKey (key_cmp terms) r ks → StartsIn terms ks r (Some r)
  starts_here ne has =
      let here : IsGiven terms r = given_by ks given has in
      record {
        given = λ k e. subst (IsGiven terms) (some_is r k e) here;
        not_below = λ k e g. let bad : Equal ≡ Greater = sym (ap (key_cmp terms r) (sym (some_is r k e)) ∙ tied_itself (key_total terms) r) ∙ g in cc;
        skips = λ f quiet. found_from_key (key_cmp terms) (key_total terms) f r ks rising has
            (AllKeys-map (IsGiven terms) (λ y. key_cmp terms r y ≡ Equal → r ≡ y) (λ y g e. tied_keys terms r y distinct here g e) ks given)
            (AllKeys-map (IsGiven terms) (λ y. (r ≢ y) → f y ≡ []) (λ y g other. quiet y g (out_of_one ne y other (key_in_range r y) refl)) ks given);
      }
    where
      some_is : (a b : Key) → Some a ≡ Some b → a ≡ b
      some_is a b e = cc

  -- two facts of each key
  both : (P Q : Key → Type 0) (zs : List Key) → AllKeys P zs → AllKeys Q zs → AllKeys (λ z. P z × Q z) zs
  both P Q [] p q = tt
  both P Q (z ∷ zs) p q = ((p.0, q.0), both P Q zs p.1 q.1)

  -- a walk of a range whose one key is not there
  pub starts_nowhere : r.object ≢ no_number → (HasKey (key_cmp terms) r ks → ⊥) → StartsIn terms ks r None
  starts_nowhere ne lacks = record {
    given = λ k e. absurd (cc);
    not_below = λ k e. absurd (cc);
    skips = λ f quiet. all_quiet f ks (AllKeys-map (λ y. IsGiven terms y × (key_cmp terms r y ≢ Equal)) (λ y. f y ≡ [])
        (λ y h. quiet y h.0 (out_of_one ne y (λ is. h.1 (ap (key_cmp terms r) (sym is) ∙ tied_itself (key_total terms) r)) (key_in_range r y) refl))
        ks (both (IsGiven terms) (λ y. key_cmp terms r y ≢ Equal) ks given (none_tied (key_cmp terms) (key_total terms) r ks lacks)));
  }

  -- above a key that is past the range nothing is found
  all_past_out : (k : Key) → IsGiven terms k → key_cmp terms r k ≢ Greater → key_in_range r k ≡ false → (f : Key → List Key) → IsQuiet terms r f → (zs : List Key) → AllKeys (IsGiven terms) zs → flat_map f (keys_from (key_cmp terms) (Some k) zs) ≡ []
  all_past_out k g low out f quiet [] gs = refl
  all_past_out k g low out f quiet (z ∷ zs) gs = by_test (is_less (key_cmp terms k z)) refl (all_past_out k g low out f quiet zs gs.1)
    where
      outside : key_cmp terms k z ≡ Less → (b : Bool) → key_in_range r z ≡ b → key_in_range r z ≡ false
      outside high true e = absurd (true≢false (sym (between terms distinct few r k z form g gs.0 low high e) ∙ out))
      outside high false e = e

      by_test : (b : Bool) → is_less (key_cmp terms k z) ≡ b → flat_map f (keys_from (key_cmp terms) (Some k) zs) ≡ [] → flat_map f (keys_from (key_cmp terms) (Some k) (z ∷ zs)) ≡ []
      by_test true e later = rw e (ap (λ xs. xs ++ flat_map f (keys_from (key_cmp terms) (Some k) zs)) (quiet z gs.0 (outside (less_is (key_cmp terms k z) e) (key_in_range r z) refl)) ∙ later)
      by_test false e later = rw e later

  -- from a key above the range on nothing is found
  pub ends_above : (k : Key) → IsGiven terms k → IsNotBelow (key_cmp terms) r k → key_in_range r k ≡ false → (f : Key → List Key) → IsQuiet terms r f → flat_map f (rest_at (key_cmp terms) ks (Some k)) ≡ []
  ends_above k g low out f quiet = ap (λ xs. xs ++ flat_map f (keys_from (key_cmp terms) (Some k) ks)) (quiet k g out) ∙ all_past_out k g low out f quiet ks given

  -- a walk goes on
  pub goes_on : (k : Key) → IsNotBelow (key_cmp terms) r k → (z : Key) → first_key (keys_from (key_cmp terms) (Some k) ks) ≡ Some z → IsGiven terms z × IsNotBelow (key_cmp terms) r z
  goes_on k low z e =
      let past = first_past (key_cmp terms) (key_total terms) (IsGiven terms) k ks z given e in
      (past.1, by_answer (key_cmp terms r k) refl past.0)
    where
      by_answer : (o : Ordering) → key_cmp terms r k ≡ o → key_cmp terms k z ≡ Less → key_cmp terms r z ≢ Greater
      by_answer Less f high g = let bad : Less ≡ Greater = sym ((key_total terms).trans r k z f high) ∙ g in cc
      by_answer Equal f high g = let bad : Less ≡ Greater = sym ((key_total terms).congr r k z f ∙ high) ∙ g in cc
      by_answer Greater f high g = low f

-- How slots and tails change together, and what they show as places.
use Rattle.std.proofs.Common.{◌≡◌, ◌≢◌, ℕ, ◌+◌, ◌<◌, Bool, true, false, cond, List, [], ◌∷◌, ◌++◌, map, length, get_or, set, inl, inr, Option, Some, None, is_some, IsSome, count_by, slice_get, refl, sym, ap, subst, ◌∙◌, arith, length-set, true≢false}
use Rattle.std.proofs.lemmas.Bool.{cases_eq, eq-eqb, ne_eqb}
use Rattle.std.proofs.lemmas.List.{map-set, length_push, get_or-map, set-get_or}
use Rattle.std.proofs.lemmas.List.Sums.{sum_by_push}
use Rattle.gs_pool.specs.declared.nodes.Node.{Node}
use Rattle.gs_pool.specs.declared.slots.Slot.{Slot}
use Rattle.gs_pool.specs.declared.slots.State.{State}
use Rattle.gs_pool.specs.declared.slots.State.TheVariants.{Free, Plain, AsideNode, AsideTree, RetiredNode, RetiredTree}
use Rattle.gs_pool.specs.declared.tails.Tail.{Tail}
use Rattle.gs_pool.specs.Places.{Place, free_place, plain_place, listed_place, is_listed}
use Rattle.gs_pool.specs.Tails.{TailList, tail_at, used_tails, SetsTail}
use Rattle.gs_pool.specs.Slots.{left_of, node_born, listed_in, place_in, place_of, is_listed_slot, has_tail, AreLaid}
use Rattle.gs_pool.proofs.ListLemmas.{place_of as element_of, count-set}
use Rattle.gs_pool.proofs.MapLemmas.{one_counted, two_counted, not_all, map_apart}

-- the place of a slot is in the slot's state
pub same_state : (st : State) (s : Slot) (t : Option Tail) → (place_in st s t).state ≡ st
same_state Free s t = refl
same_state Plain s t = refl
same_state AsideNode s None = refl
same_state AsideNode s (Some t) = refl
same_state AsideTree s None = refl
same_state AsideTree s (Some t) = refl
same_state RetiredNode s None = refl
same_state RetiredNode s (Some t) = refl
same_state RetiredTree s None = refl
same_state RetiredTree s (Some t) = refl

-- a slot that is on no list has no tail
pub no_tail : (st : State) (s : Slot) (t u : Option Tail) → is_listed st ≡ false → place_in st s t ≡ place_in st s u
no_tail Free s t u off = refl
no_tail Plain s t u off = refl
no_tail AsideNode s t u off = absurd (true≢false off)
no_tail AsideTree s t u off = absurd (true≢false off)
no_tail RetiredNode s t u off = absurd (true≢false off)
no_tail RetiredTree s t u off = absurd (true≢false off)

-- one that is on a list has its tail
pub in_list : (st : State) (s : Slot) (t : Option Tail) → is_listed st ≡ true → place_in st s t ≡ listed_in st s t
in_list Free s t on = absurd (true≢false (sym on))
in_list Plain s t on = absurd (true≢false (sym on))
in_list AsideNode s t on = refl
in_list AsideTree s t on = refl
in_list RetiredNode s t on = refl
in_list RetiredTree s t on = refl

-- what the slot of a free place is seen as, and that of a plain one
pub free_seen : (tails : TailList) (s : Slot) (next : Option ℕ) → s.state ≡ Free → left_of s ≡ next → place_of tails s ≡ free_place next
free_seen tails s next state left = ap (λ st. place_in st s (tail_at tails s.birth)) state ∙ ap free_place left

pub plain_seen : (tails : TailList) (s : Slot) (n : Node) → s.state ≡ Plain → node_born s s.birth ≡ n → place_of tails s ≡ plain_place n
plain_seen tails s n state node = ap (λ st. place_in st s (tail_at tails s.birth)) state ∙ ap plain_place node

-- that of one on a list, which has its tail
pub tail_seen : (tails : TailList) (s : Slot) (t : Tail) → is_listed_slot s ≡ true → tail_at tails s.birth ≡ Some t → place_of tails s ≡ listed_place s.state (node_born s t.birth) t.death t.next
tail_seen tails s t on is = in_list s.state s (tail_at tails s.birth) on ∙ ap (listed_in s.state s) is

-- one or none, where it is one
flag_some : (b : Bool) → 0 < cond {A = ℕ} b 1 0 → b ≡ true
flag_some true h = refl
flag_some false h = absurd (omega (arith, h))

-- whether a slot has the tail of a number
no_tail_of : (k : ℕ) (s : Slot) → is_listed_slot s ≡ false → has_tail k s ≡ false
no_tail_of k s off = rw off refl

its_tail_is : (k : ℕ) (s : Slot) → is_listed_slot s ≡ true → s.birth ≡ k → has_tail k s ≡ true
its_tail_is k s on is = rw (on, eq-eqb s.birth k is) refl

other_tail : (k : ℕ) (s : Slot) → is_listed_slot s ≡ true → s.birth ≢ k → has_tail k s ≡ false
other_tail k s on ne = rw (on, ne_eqb s.birth k ne) refl

-- what is seen of one slot after the tail of a number changed which it does not have
kept : (tails new : TailList) (k : ℕ) (t : Option Tail) (r : Slot) → SetsTail tails new k t → (is_listed_slot r ≡ true → r.birth ≢ k) → place_of new r ≡ place_of tails r
kept tails new k t r sets apart = elim (is_listed_slot r) as (λ b. is_listed_slot r ≡ b → place_of new r ≡ place_of tails r) [
  | true ↦ λ on. ap (place_in r.state r) (sets.others r.birth (apart on))
  | false ↦ λ off. no_tail r.state r (tail_at new r.birth) (tail_at tails r.birth) off
] refl

module _ (slots : List Slot) (tails : TailList) (room reserved : ℕ) (laid : AreLaid slots tails room reserved) where
  -- a slot more, which is on no list
  pub pushed_laid : (s : Slot) → is_listed_slot s ≡ false → length slots < room → AreLaid (slots ++ s ∷ []) tails room reserved
  pushed_laid s off free =
      record {
        each = λ k. omega (arith, laid.each k, rw (no_tail_of k s off) at (sum_by_push (λ o. cond (has_tail k o) 1 0) slots s));
        total = omega (arith, laid.total, rw off at (sum_by_push (λ o. cond (is_listed_slot o) 1 0) slots s));
        within = omega (arith, length_push slots s);
        slots_fit = laid.slots_fit;
        tails_fit = laid.tails_fit;
      }

  module _ (id : ℕ) (d : Slot) (within : id < length slots) (read : d ≡ get_or slots id d) where
    -- the place of a slot
    pub place_read : get_or (map (place_of tails) slots) id (free_place None) ≡ place_of tails d
    place_read = get_or-map (place_of tails) slots id d (free_place None) within ∙ ap (place_of tails) (sym read)

    -- which is used for what the slot is
    pub state_read : (get_or (map (place_of tails) slots) id (free_place None)).state ≡ d.state
    state_read = ap (λ (p : Place). p.state) place_read ∙ same_state d.state d (tail_at tails d.birth)

    -- a slot on a list has a tail
    pub has_one : is_listed_slot d ≡ true → IsSome (tail_at tails d.birth)
    has_one on = flag_some (is_some (tail_at tails d.birth)) (omega (arith, laid.each d.birth, one_counted (has_tail d.birth) slots id d (element_of slots id d within read) (its_tail_is d.birth d on refl)))

    -- no other slot has it
    alone : is_listed_slot d ≡ true → (j : ℕ) (r : Slot) → j ≢ id → slice_get slots j ≡ Some r → is_listed_slot r ≡ true → r.birth ≢ d.birth
    alone on j r ne found also same =
        absurd (omega (
          arith,
          laid.each d.birth,
          ap (λ b. cond {A = ℕ} b 1 0) (has_one on),
          two_counted (has_tail d.birth) slots id j d r (element_of slots id d within read) found (λ e. ne (sym e)) (its_tail_is d.birth d on refl) (its_tail_is d.birth r also same),
        ))

    -- nobody has a tail that is free
    nobody : (k : ℕ) → tail_at tails k ≡ None → (j : ℕ) (r : Slot) → slice_get slots j ≡ Some r → is_listed_slot r ≡ true → r.birth ≢ k
    nobody k free j r found on same =
        absurd (omega (arith, laid.each k, ap (λ o. cond {A = ℕ} (is_some o) 1 0) free, one_counted (has_tail k) slots j r found (its_tail_is k r on same)))

    -- a slot that is on no list is written, and gets on none
    pub put_laid : (s : Slot) → is_listed_slot d ≡ false → is_listed_slot s ≡ false → AreLaid (set slots id s) tails room reserved
    put_laid s off still = record {
      each = λ k. omega (arith, laid.each k, rw (no_tail_of k d off, no_tail_of k s still) at (count-set (has_tail k) slots id s d within read));
      total = omega (arith, laid.total, rw (off, still) at (count-set is_listed_slot slots id s d within read));
      within = omega (arith, laid.within, length-set slots id s);
      slots_fit = laid.slots_fit;
      tails_fit = laid.tails_fit;
    }

    pub put_seen : (s : Slot) (p : Place) → place_of tails s ≡ p → map (place_of tails) (set slots id s) ≡ set (map (place_of tails) slots) id p
    put_seen s p is = map-set (place_of tails) slots id s ∙ ap (set (map (place_of tails) slots) id) is

    -- there is room for one tail more than slots are on lists
    pub has_room : is_listed_slot d ≡ false → used_tails tails < tails.capacity
    has_room off = omega (arith, laid.total, laid.within, laid.tails_fit, not_all is_listed_slot slots id d (element_of slots id d within read) off)

    -- it gets onto a list
    module _ (s : Slot) (new : TailList) (t : Tail) (sets : SetsTail tails new s.birth (Some t)) where
      pub list_laid : is_listed_slot d ≡ false → is_listed_slot s ≡ true → tail_at tails s.birth ≡ None → used_tails new ≡ used_tails tails + 1 → AreLaid (set slots id s) new room reserved
      list_laid off on free used = record {
        each = λ k. elim (cases_eq k s.birth) [
          | inl here ↦ subst (λ x. cond (is_some (tail_at new x)) 1 0 ≡ count_by (has_tail x) (set slots id s)) (sym here)
              (omega (arith, ap (λ o. cond {A = ℕ} (is_some o) 1 0) sets.now, ap (λ o. cond {A = ℕ} (is_some o) 1 0) free, laid.each s.birth, rw (no_tail_of s.birth d off, its_tail_is s.birth s on refl) at (count-set (has_tail s.birth) slots id s d within read)))
          | inr ne ↦ omega (arith, laid.each k, ap (λ o. cond {A = ℕ} (is_some o) 1 0) (sets.others k ne), rw (no_tail_of k d off, other_tail k s on (λ e. ne (sym e))) at (count-set (has_tail k) slots id s d within read))
        ];
        total = omega (arith, laid.total, used, rw (off, on) at (count-set is_listed_slot slots id s d within read));
        within = omega (arith, laid.within, length-set slots id s);
        slots_fit = laid.slots_fit;
        tails_fit = omega (arith, laid.tails_fit, sets.capacity);
      }

      pub list_seen : (p : Place) → tail_at tails s.birth ≡ None → place_of new s ≡ p → map (place_of new) (set slots id s) ≡ set (map (place_of tails) slots) id p
      list_seen p free is =
          map_apart (place_of new) (place_of tails) slots id s (λ j r ne found. kept tails new s.birth (Some t) r sets (nobody s.birth free j r found))
          ∙ ap (set (map (place_of tails) slots) id) is

    -- it leaves a list
    module _ (s : Slot) (new : TailList) (on : is_listed_slot d ≡ true) (sets : SetsTail tails new d.birth None) where
      pub unlist_laid : is_listed_slot s ≡ false → used_tails new + 1 ≡ used_tails tails → AreLaid (set slots id s) new room reserved
      unlist_laid off used = record {
        each = λ k. elim (cases_eq k d.birth) [
          | inl here ↦ subst (λ x. cond (is_some (tail_at new x)) 1 0 ≡ count_by (has_tail x) (set slots id s)) (sym here)
              (omega (arith, ap (λ o. cond {A = ℕ} (is_some o) 1 0) sets.now, ap (λ b. cond {A = ℕ} b 1 0) (has_one on), laid.each d.birth, rw (no_tail_of d.birth s off, its_tail_is d.birth d on refl) at (count-set (has_tail d.birth) slots id s d within read)))
          | inr ne ↦ omega (arith, laid.each k, ap (λ o. cond {A = ℕ} (is_some o) 1 0) (sets.others k ne), rw (no_tail_of k s off, other_tail k d on (λ e. ne (sym e))) at (count-set (has_tail k) slots id s d within read))
        ];
        total = omega (arith, laid.total, used, rw (on, off) at (count-set is_listed_slot slots id s d within read));
        within = omega (arith, laid.within, length-set slots id s);
        slots_fit = laid.slots_fit;
        tails_fit = omega (arith, laid.tails_fit, sets.capacity);
      }

      pub unlist_seen : (p : Place) → place_of new s ≡ p → map (place_of new) (set slots id s) ≡ set (map (place_of tails) slots) id p
      unlist_seen p is =
          map_apart (place_of new) (place_of tails) slots id s (λ j r ne found. kept tails new d.birth None r sets (alone on j r ne found))
          ∙ ap (set (map (place_of tails) slots) id) is

    -- its tail is changed
    module _ (new : TailList) (t : Tail) (on : is_listed_slot d ≡ true) (sets : SetsTail tails new d.birth (Some t)) where
      pub relink_laid : used_tails new ≡ used_tails tails → AreLaid slots new room reserved
      relink_laid used = record {
        each = λ k. elim (cases_eq k d.birth) [
          | inl here ↦ subst (λ x. cond (is_some (tail_at new x)) 1 0 ≡ count_by (has_tail x) slots) (sym here)
              (omega (arith, ap (λ o. cond {A = ℕ} (is_some o) 1 0) sets.now, ap (λ b. cond {A = ℕ} b 1 0) (has_one on), laid.each d.birth))
          | inr ne ↦ omega (arith, laid.each k, ap (λ o. cond {A = ℕ} (is_some o) 1 0) (sets.others k ne))
        ];
        total = omega (arith, laid.total, used);
        within = laid.within;
        slots_fit = laid.slots_fit;
        tails_fit = omega (arith, laid.tails_fit, sets.capacity);
      }

      pub relink_seen : (p : Place) → place_of new d ≡ p → map (place_of new) slots ≡ set (map (place_of tails) slots) id p
      relink_seen p is =
          ap (map (place_of new)) (sym (ap (set slots id) read ∙ set-get_or slots id d))
          ∙ map_apart (place_of new) (place_of tails) slots id d (λ j r ne found. kept tails new d.birth (Some t) r sets (alone on j r ne found))
          ∙ ap (set (map (place_of tails) slots) id) is
